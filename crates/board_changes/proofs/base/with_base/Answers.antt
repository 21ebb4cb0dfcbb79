use Rattle.std.proofs.Common.{refl, sym, ap, ◌∙◌, subst}
use Rattle.board_changes.specs.Changed.{base_at}
use Rattle.board_changes.specs.Outlined.{LeadsEach, with_changed}
use Rattle.board_changes.proofs.EachBoard.{leads_there}
use Rattle.board_changes.proofs.OneBase.{changed_there, base_joins, base_becomes}
use Rattle.board_layout.specs.Board.{Board}
use Rattle.board_layout.specs.Renewed.{contents_of, renewed}
use Rattle.board_changes.proofs.base.with_base.Goals as goal

pub intent_with-requires : goal.intent_with-requires
intent_with-requires c =
    let b : Board = c.args.board.now in
    let there = changed_there (base_at c.args.place b) c.args.change c.requires.change in
    base_joins b c.args.place there.0 c.args.change c.ledger-ledger.ensures.board there.1 there.2 c.requires.next

pub returns-clause-becomes : goal.returns-clause-becomes
returns-clause-becomes c =
    let b : Board = c.args.board.now in
    let there = changed_there (base_at c.args.place b) c.args.change c.requires.change in
    record {
      ledger = refl;
      bases = ap (renewed (contents_of b)) c.in_ok-bases.ensures ∙ base_becomes b c.args.place there.0 c.args.change c.ledger-ledger.ensures.board there.1 there.2 c.requires.next;
    }

pub returns-clause-each : goal.returns-clause-each
returns-clause-each c = λ f each keeps.
    let b : Board = c.args.board.now in
    subst (LeadsEach b (with_changed c.args.place f)) (sym c.in_ok-intent.ensures) (leads_there b c.args.place f c.args.change (base_at c.args.place b) refl c.requires.change each keeps)
