use Rattle.std.proofs.Common.{◌≡◌, ◌≤◌, List, length, sym, subst}
use Rattle.std.specs.Prelude.{IsSomeAnd}
use Rattle.board_changes.specs.Changed.{base_at}
use Rattle.board_changes.specs.Outlined.{KeepsEach, LeadsEach, MadeBy, with_changed}
use Rattle.board_changes.specs.declared.change.BoardChange.{BoardChange}
use Rattle.board_ledger.specs.intent_journal.Patches.{byte_count}
use Rattle.board_ledger.specs.intent_journal.declared.patch.Patch.{Patch}
use Rattle.board_layout.proofs.jam_base.ChangeClauses.{one_ok}
use Rattle.board_layout.specs.jam_base.Contents.{Contents}
use Rattle.board_layout.specs.jam_base.declared.change.BaseChange.{BaseChange}
use Rattle.board_layout.specs.Board.{Board}
use Rattle.slot_changes.proofs.DeleteLaws.{place_there}
use Rattle.slot_changes.proofs.EachSlots.{deleted_keeps, deleted_made}
use Rattle.slot_changes.specs.Changed.{deleted, with_killed}
use Rattle.slot_changes.proofs.delete.deleted.Goals as goal

pub base_of-requires : goal.base_of-requires
base_of-requires c = place_there c.args.board.now c.args.place c.args.number c.requires.message

pub returns-clause-costs : goal.returns-clause-costs
returns-clause-costs c =
    one_ok (λ (next : BoardChange). next.intent ≡ c.in_ok-change.change.patches) (λ (next : BoardChange). (length next.intent ≤ 2) × (byte_count next.intent ≤ 24)) c.with_base.result
    (λ next is. subst (λ (ps : List Patch). (length ps ≤ 2) × (byte_count ps ≤ 24)) (sym is) c.in_ok-change.ensures.costs) c.with_base.ensures.patches

pub returns-clause-each : goal.returns-clause-each
returns-clause-each c =
    let b : Board = c.args.board.now in
    let made : BaseChange = c.in_ok-change.change in
    let base : Contents = c.base_of.result.now in
    one_ok (λ (next : BoardChange). (f : Contents → Contents) → IsSomeAnd (base_at c.args.place b) (MadeBy f made) → KeepsEach b (with_changed c.args.place f) → LeadsEach b (with_changed c.args.place f) next.intent)
    (λ (next : BoardChange). LeadsEach b (deleted c.args.place c.args.number) next.intent) c.with_base.result
    (λ next leads. leads (with_killed c.args.number) (deleted_made b c.args.place c.args.number base made c.base_of.ensures.base c.requires.message c.in_ok-change.ensures.base c.in_ok-change.ensures.each)
    (deleted_keeps b c.args.place c.args.number base c.base_of.ensures.base c.requires.message))
    c.with_base.ensures.each
