use Rattle.std.proofs.Common.{List, ◌∙◌, arith}
use Rattle.board_layout.specs.jam_base.Contents.{Contents}
use Rattle.mail_intake.proofs.TallyLaws.{counts_whole, no_tally, slot_counts}
use Rattle.mail_intake.proofs.tally.Tally.new.Goals as goal

pub returns-clause-tally : goal.returns-clause-tally
returns-clause-tally c =
    let bases : List Contents = c.bases-base-items.result.now in
    let counts = counts_whole c.loop-base.slots (slot_counts bases) bases c.loop-base.base-index (omega arith) c.loop-base.invariant in
    no_tally c.args.board.now record { posts = c.new.result; slots = c.into_vec.result; size = c.size.result } bases c.bases-base-items.ensures.board c.bases-base-items.ensures.conferences c.new.ensures (c.into_vec.ensures ∙ counts) c.size.ensures
