-- The patches of a base in which messages are marked read and then a pointer is moved, as they are made.
use Rattle.std.proofs.Common.{◌≡◌, ℕ, true, List, [], ◌∷◌, ◌++◌, length, Result, Option, Some, refl, sym, ap, ◌∙◌}
use Rattle.std.specs.Prelude.{IfOk}
use Rattle.intent_journal.specs.declared.patch.Patch.{Patch}
use Rattle.jam_records.specs.declared.message.Slot.{Slot}
use Rattle.jam_writing.specs.jam_layout.Layout.{layout}
use Rattle.jam_base.specs.Bodies.{Lengthens}
use Rattle.jam_base.specs.Change.{Turns, SuitsIntent}
use Rattle.jam_base.specs.Contents.{Contents, reader_place, receipt_to, with_acknowledged, with_pointer, with_slots}
use Rattle.jam_base.specs.MarkPuts.{pointer_patch, receive_puts}
use Rattle.jam_base.specs.Puts.{counts_put}
use Rattle.jam_base.specs.Slots.{any_due, slots_received}
use Rattle.jam_base.specs.declared.change.BaseChange.{BaseChange}
use Rattle.jam_base.specs.declared.receipt.Receipt.{Receipt}
use Rattle.jam_base.proofs.ChangeClauses.{one_ok}
use Rattle.jam_base.proofs.PointerPuts.{acknowledged_turns, acknowledged_lengthens, acknowledged_suits}
use Rattle.jam_base.proofs.ReadingLaws.{pointer_at, reading_made, received_to, some_due}

module _ {E : Type 0} (base : Contents) (user : ℕ) (name : List ℕ) (upto now reader : ℕ) (receipt : Receipt) (marks : List Patch) (read next : Contents) (first : BaseChange) (res : Result BaseChange E)
    (there : reader_place user base.shape.readers ≡ Some reader) (all : length base.conference.pointers ≡ length base.shape.readers)
    (receipt_is : receipt ≡ receipt_to user upto now base)
    (marks_are : marks ≡ receive_puts base.shape.kind base.shape.place name receipt 1024 1 base.conference.slots)
    (read_is : read ≡ with_slots (slots_received name receipt 1 base.conference.slots) base)
    (next_is : next ≡ pointer_at reader upto read)
    (first_is : first.base ≡ next)
    (counted : first.patches ≡ marks ++ counts_put next.shape.place next.conference ∷ [])
    (base_is : IfOk res (λ change. change.base ≡ first.base))
    (patches_are : IfOk res (λ change. change.patches ≡ first.patches ++ pointer_patch first.base reader upto ∷ [])) where
  marked : marks ≡ receive_puts base.shape.kind base.shape.place name (receipt_to user upto now base) 1024 1 base.conference.slots
  marked = marks_are ∙ ap (λ (r : Receipt). receive_puts base.shape.kind base.shape.place name r 1024 1 base.conference.slots) receipt_is

  moved : first.base ≡ with_pointer user upto (received_to base user name upto now)
  moved = first_is ∙ reading_made base user name upto now read next (slots_received name receipt 1 base.conference.slots) reader read_is (ap (λ (r : Receipt). slots_received name r 1 base.conference.slots) receipt_is) next_is there

  puts : IfOk res (λ change. change.patches ≡ (marks ++ counts_put first.base.shape.place first.base.conference ∷ []) ++ pointer_patch first.base reader upto ∷ [])
  puts = one_ok (λ (change : BaseChange). change.patches ≡ first.patches ++ pointer_patch first.base reader upto ∷ [])
      (λ (change : BaseChange). change.patches ≡ (marks ++ counts_put first.base.shape.place first.base.conference ∷ []) ++ pointer_patch first.base reader upto ∷ []) res
      (λ change p. p ∙ (ap (λ (ps : List Patch). ps ++ pointer_patch first.base reader upto ∷ []) counted
      ∙ ap (λ (k : Contents). (marks ++ counts_put k.shape.place k.conference ∷ []) ++ pointer_patch first.base reader upto ∷ []) (sym first_is))) patches_are

  pub read_base : any_due name (receipt_to user upto now base) 1 base.conference.slots ≡ true → IfOk res (λ change. change.base ≡ with_acknowledged user name upto now base)
  read_base due = one_ok (λ (change : BaseChange). change.base ≡ first.base) (λ (change : BaseChange). change.base ≡ with_acknowledged user name upto now base) res
      (λ change is. is ∙ (moved ∙ sym (some_due base user name upto now due))) base_is

  pub read_turns : IfOk res (λ change. Turns base.shape.place (layout base.shape base.conference) (layout change.base.shape change.base.conference) change.patches)
  read_turns = acknowledged_turns base user name upto now reader marks first.base res there all marked moved base_is puts

  pub read_lengthens : IfOk res (λ change. Lengthens base.shape.place (layout base.shape base.conference) (layout change.base.shape change.base.conference) change.patches)
  read_lengthens = acknowledged_lengthens base user name upto now reader marks first.base res there all marked moved base_is puts

  pub read_suits : IfOk res (λ change. SuitsIntent base.shape.place (layout change.base.shape change.base.conference) change.patches)
  read_suits = acknowledged_suits base user name upto now reader marks first.base res there all marked moved base_is puts
