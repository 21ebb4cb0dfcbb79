use Rattle.std.proofs.Common.{ℕ, List, sym, subst}
use Rattle.jam_records.specs.declared.message.Message.{Message}
use Rattle.cmd_toss.proofs.TossLaws.{none_tossed}
use Rattle.cmd_toss.specs.Tossing.{AreSeen}
use Rattle.cmd_toss.proofs.tossed.Tossed.new.Goals as goal

pub returns : goal.returns
returns c now =
    none_tossed now c.args.board.now (record { tally = c.in_ok-new.field-0; seen = c.in_ok-new-2.field-0; lines = c.new-3.result }) c.new-3.ensures c.in_ok-new.ensures.none c.in_ok-new.ensures.tally
    (subst (λ (posts : List (ℕ × Message)). AreSeen c.args.board.now posts c.in_ok-new-2.field-0) (sym c.in_ok-new.ensures.none) c.in_ok-new-2.ensures)
