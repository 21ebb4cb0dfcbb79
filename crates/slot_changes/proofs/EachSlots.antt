-- A message deleted, and messages appended, on each board with one outline.
use Rattle.std.proofs.Common.{◌≡◌, ℕ, ◌+◌, true, List, [], length, map, Some, Option, refl, sym, ap, ◌∙◌, subst, arith}
use Rattle.std.specs.Prelude.{All, IsSomeAnd, option_map, sum_by}
use Rattle.board_changes.proofs.EachBase.{turns_as}
use Rattle.board_changes.proofs.EachBoard.{keeps_as, leads_as}
use Rattle.board_changes.specs.Changed.{base_at, with_base}
use Rattle.board_changes.specs.Outlined.{ChangesEach, KeepsEach, LeadsEach, MadeBy, with_changed}
use Rattle.board_layout.proofs.OneOutline.{alike_base, alike_count, alike_ledger, alike_size}
use Rattle.board_layout.proofs.OutlineLaws.{base_again, outline_has_live}
use Rattle.board_layout.specs.Board.{Board}
use Rattle.board_layout.specs.Outlines.{board_outline}
use Rattle.board_layout.specs.Valid.{IsBoard}
use Rattle.board_ledger.specs.declared.ledger.Ledger.{Ledger}
use Rattle.board_ledger.specs.intent_journal.declared.patch.Patch.{Patch}
use Rattle.board_layout.proofs.jam_base.OutlineChanges.{appended_blind, killed_blind}
use Rattle.board_layout.specs.jam_base.Contents.{Contents, with_deleted, with_messages}
use Rattle.board_layout.specs.jam_base.Outlined.{outlined, TurnsEach}
use Rattle.board_layout.specs.jam_base.Slots.{has_live}
use Rattle.board_layout.specs.jam_base.declared.change.BaseChange.{BaseChange}
use Rattle.jam_layout.specs.Messages.{IsMessage}
use Rattle.jam_layout.specs.Outlines.{message_outline}
use Rattle.jam_records.specs.declared.message.Kind.{Kind}
use Rattle.jam_records.specs.declared.message.Message.{Message}
use Rattle.slot_changes.proofs.AppendLaws.{appended_board, appended_few, appended_messages, appended_size}
use Rattle.slot_changes.proofs.DeleteLaws.{deleted_board, killed_is}
use Rattle.slot_changes.proofs.SlotBytes.{message_size}
use Rattle.slot_changes.specs.Changed.{HasMessage, appended, deleted, with_identified, with_killed}
use Rattle.slot_changes.specs.Msgids.{all_identified, msgid_in}

-- ---- a message deleted
module _ (base : Contents) (number : ℕ) (live : has_live number base.conference.slots ≡ true) where
  live_alike : (other : Contents) → outlined other ≡ outlined base → has_live number other.conference.slots ≡ true
  live_alike other alike =
      sym (outline_has_live other.conference.slots number) ∙ (ap (λ (c : Contents). has_live number c.conference.slots) alike ∙ (outline_has_live base.conference.slots number ∙ live))

  killed_alike : (other : Contents) → outlined other ≡ outlined base → with_killed number other ≡ with_deleted number other
  killed_alike other alike = killed_is other number (live_alike other alike)

  -- what the outline shows after it
  killed_outline : (other : Contents) → outlined other ≡ outlined base → outlined (with_killed number other) ≡ with_deleted number (outlined base)
  killed_outline other alike = ap outlined (killed_alike other alike) ∙ ((killed_blind base number live).outline other alike ∙ ap (with_deleted number) alike)

  killed_each : (patches : List Patch) → TurnsEach base (with_deleted number) patches → ChangesEach base (with_killed number) patches
  killed_each patches each = record {
    files = turns_as base (with_deleted number) (with_killed number) patches (λ other alike. sym (killed_alike other alike)) each;
    outline = λ other alike. killed_outline other alike ∙ sym (killed_outline base refl);
  }

-- the message is in the base of the place
live_there : (b : Board) (place number : ℕ) (base : Contents) → base_at place b ≡ Some base → HasMessage place number b → has_live number base.conference.slots ≡ true
live_there b place number base here has = subst (λ (o : Option Contents). IsSomeAnd o (λ c. has_live number c.conference.slots ≡ true)) here has

pub deleted_made : (b : Board) (place number : ℕ) (base : Contents) (change : BaseChange) → base_at place b ≡ Some base → HasMessage place number b → change.base ≡ with_deleted number base → TurnsEach base (with_deleted number) change.patches
    → IsSomeAnd (base_at place b) (MadeBy (with_killed number) change)
deleted_made b place number base change here has is each =
    let live = live_there b place number base here has in
    subst (λ (o : Option Contents). IsSomeAnd o (MadeBy (with_killed number) change)) (sym here)
    (record { base = ap outlined (is ∙ sym (killed_is base number live)); each = killed_each base number live change.patches each })

pub deleted_keeps : (b : Board) (place number : ℕ) (base : Contents) → base_at place b ≡ Some base → HasMessage place number b → KeepsEach b (deleted place number)
deleted_keeps b place number base here has = record {
  valid = λ other valid alike.
      let there = alike_base other b alike place base here in
      deleted_board other place number there.0 valid there.1 (live_alike base number (live_there b place number base here has) there.0 there.2);
}

-- ---- messages appended
-- boards with one outline give the same msgids
pub msgids_alike : (a b : Board) (place : ℕ) → board_outline a ≡ board_outline b → msgid_in place a ≡ msgid_in place b
msgids_alike a b place alike = ap (λ (l : Ledger). msgid_in place (record { ledger = l; conferences = [] })) (alike_ledger a b alike)

module _ (base : Contents) (msgid : ℕ → List ℕ) (messages : List Message) where
  given : List Message
  given = all_identified msgid (length base.conference.slots + 1) messages

  identified_alike : (other : Contents) → outlined other ≡ outlined base → with_identified msgid messages other ≡ with_messages given other
  unfolding given
  identified_alike other alike = ap (λ (n : ℕ). with_messages (all_identified msgid (n + 1) messages) other) (alike_count other base alike)

  identified_outline : (other : Contents) → outlined other ≡ outlined base → outlined (with_identified msgid messages other) ≡ with_messages (map message_outline given) (outlined base)
  identified_outline other alike = ap outlined (identified_alike other alike) ∙ ((appended_blind base given).outline other alike ∙ ap (with_messages (map message_outline given)) alike)

  -- bases with one outline get one outline
  pub identified_same : (other : Contents) → outlined other ≡ outlined base → outlined (with_identified msgid messages other) ≡ outlined (with_identified msgid messages base)
  unfolding given
  identified_same other alike = identified_outline other alike ∙ sym (identified_outline base refl)

  pub identified_each : (patches : List Patch) → TurnsEach base (with_messages (all_identified msgid (length base.conference.slots + 1) messages)) patches → ChangesEach base (with_identified msgid messages) patches
  unfolding given
  identified_each patches each = record {
    files = turns_as base (with_messages given) (with_identified msgid messages) patches (λ other alike. sym (identified_alike other alike)) each;
    outline = identified_same;
  }

module _ (b : Board) (place : ℕ) (messages : List Message) (base : Contents) (ok : IsBoard b) (here : base_at place b ≡ Some base) where
  -- the messages with the msgids that they get here
  identified_here : Contents → Board → List Message
  identified_here c o = all_identified (msgid_in place o) (length c.conference.slots + 1) messages

  keeps_one : IsBoard (appended place messages b) → (other : Board) → IsBoard other → board_outline other ≡ board_outline b → IsBoard (appended place messages other)
  unfolding identified_here
  keeps_one next other valid alike =
      let there = alike_base other b alike place base here in
      let same : identified_here there.0 other ≡ identified_here base b = λ i. all_identified (msgids_alike other b place alike i) (alike_count there.0 base there.2 i + 1) messages in
      let kind : there.0.shape.kind ≡ base.shape.kind = ap (λ (c : Contents). c.shape.kind) there.2 in
      let all : All (IsMessage there.0.shape.kind) (identified_here there.0 other) =
      subst (λ (k : Kind). All (IsMessage k) (identified_here there.0 other)) (sym kind) (subst (All (IsMessage base.shape.kind)) (sym same) (appended_messages b place messages base ok here next)) in
      let few = appended_few b place messages base ok here next in
      let size = ap (sum_by message_size) same in
      appended_board other place messages there.0 valid there.1 all (omega (arith, few, alike_count there.0 base there.2))
      (omega (arith, next.small, size, appended_size b place messages base ok here, appended_size other place messages there.0 valid there.1, alike_size other b alike))

  pub appended_keeps : IsBoard (appended place messages b) → KeepsEach b (appended place messages)
  appended_keeps next = record { valid = keeps_one next }

  -- with the msgids of this board, or with its own, each board becomes the same
  same_boards : (other : Board) → board_outline other ≡ board_outline b → with_changed place (with_identified (msgid_in place b) messages) other ≡ appended place messages other
  same_boards other alike =
      ap (λ (msgid : ℕ → List ℕ). with_base place (option_map (with_identified msgid messages) (base_at place other)) other) (sym (msgids_alike other b place alike))

  pub appended_leads : (change : BaseChange) (copies : List Message) (intent : List Patch) → IsBoard (appended place messages b) → change.base ≡ outlined (with_messages copies base) → copies ≡ all_identified (msgid_in place b) (length base.conference.slots + 1) messages
      → TurnsEach base (with_messages copies) change.patches
      → ((f : Contents → Contents) → IsSomeAnd (base_at place b) (MadeBy f change) → KeepsEach b (with_changed place f) → LeadsEach b (with_changed place f) intent) → LeadsEach b (appended place messages) intent
  appended_leads change copies intent next is are each leads =
      let f : Contents → Contents = with_identified (msgid_in place b) messages in
      let turns = subst (λ (ms : List Message). TurnsEach base (with_messages ms) change.patches) are each in
      let own : MadeBy f change base = record {
        base = ap outlined is ∙ (base_again (with_messages copies base) ∙ ap (λ (ms : List Message). outlined (with_messages ms base)) are);
        each = identified_each base (msgid_in place b) messages change.patches turns;
      } in
      let keeps : KeepsEach b (with_changed place f) = keeps_as b (appended place messages) (with_changed place f) (λ other alike. sym (same_boards other alike)) (appended_keeps next) in
      leads_as b (with_changed place f) (appended place messages) intent same_boards (leads f (subst (λ (o : Option Contents). IsSomeAnd o (MadeBy f change)) (sym here) own) keeps)
