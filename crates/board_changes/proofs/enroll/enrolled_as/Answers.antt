use Rattle.std.proofs.Common.{sym, ap, ◌∙◌, subst}
use Rattle.board_changes.specs.Changed.{with_user}
use Rattle.board_changes.proofs.EachMember.{member_begun, member_leads}
use Rattle.board_layout.specs.Board.{Board}
use Rattle.board_ledger.specs.EnrollPuts.{enroll_puts}
use Rattle.board_ledger.specs.Valid.{IsLedger}
use Rattle.board_ledger.specs.declared.ledger.Ledger.{Ledger}
use Rattle.board_changes.proofs.enroll.enrolled_as.Goals as goal

pub enroll_intent-requires-clause-longer : goal.enroll_intent-requires-clause-longer
enroll_intent-requires-clause-longer c = subst (λ (l : Ledger). IsLedger (with_user c.args.user.now l)) (sym c.ledger-ledger.ensures.ledger) c.requires.ledger

pub joined_bases-requires-clause-gathered : goal.joined_bases-requires-clause-gathered
joined_bases-requires-clause-gathered c =
    let b : Board = c.args.board.now in
    member_begun b c.args.user.now c.in_ok-intent.intent (c.in_ok-intent.ensures ∙ ap (λ (l : Ledger). enroll_puts l c.args.user.now) c.ledger-ledger.ensures.ledger)

pub returns-clause-becomes : goal.returns-clause-becomes
returns-clause-becomes c =
    record {
      ledger = c.in_ok-next.ensures ∙ (λ i. with_user (c.in_ok-duplicate.ensures i) (c.ledger-ledger.ensures.ledger i));
      bases = c.in_ok-bases.ensures.bases;
    }

pub returns-clause-each : goal.returns-clause-each
returns-clause-each c = member_leads c.args.board.now c.args.user.now c.joined_bases.new.intent c.requires c.in_ok-bases.ensures.gathers
