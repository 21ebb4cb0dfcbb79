use Rattle.std.proofs.Common.{arith}
use Rattle.memory_outside.specs.Contents.{content}
use Rattle.door_outside.specs.Disk.{Cut}
use Rattle.memory_outside.proofs.Tearing.{cut_less, one_file}
use Rattle.memory_outside.proofs.tears.tear_cut.Goals as goal

pub returns-in_default : goal.returns-in_default
returns-in_default c = one_file c.args.file (Cut c.args.len) _ c.args.image.now c.cut-in_default.new.self c.cut-in_default.ensures
    (cut_less (content c.args.image.now c.args.file) c.args.len c.saturating_add-in_default.result (omega arith))
