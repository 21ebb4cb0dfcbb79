use Rattle.std.proofs.Common.{◌+◌, length, arith, length-take, length-drop}
use Rattle.std.proofs.lemmas.Result.{on_ok_weaker}
use Rattle.memory_outside.specs.Contents.{content}
use Rattle.door_outside.specs.Disk.{Torn}
use Rattle.memory_outside.proofs.Left.{torn_written}
use Rattle.memory_outside.proofs.Tearing.{torn_wider, one_file}
use Rattle.memory_outside.proofs.tears.tear_write.Goals as goal

pub returns-in_default : goal.returns-in_default
returns-in_default c = on_ok_weaker c.write-in_default.result (λ sets. one_file c.args.file (Torn c.args.at (length c.args.bytes.now)) _ c.args.image.now c.write-in_default.new.self sets
    (torn_wider c.args.at (length c.args.bytes.now) (c.args.at + c.place-from.result) _ (content c.args.image.now c.args.file) _ (omega arith) (simp (length-take, length-drop) (omega arith)) (torn_written (content c.args.image.now c.args.file) _ (c.args.at + c.place-from.result)))) c.write-in_default.ensures.ok
