-- A slot may stand in a conference just where it passes the tests, and how many bytes slots take in place of others.
use Rattle.std.proofs.Common.{◌≡◌, ◌≢◌, ℕ, ◌+◌, ◌*◌, Some, true, List, [], ◌∷◌, length, min, refl, sym, ap, subst, arith}
use Rattle.std.specs.Prelude.{sum_by}
use Rattle.std.proofs.lemmas.Bool.{false≢true}
use Rattle.std.proofs.lemmas.List.Sums.{sum_by-cons}
use Rattle.board_changes.proofs.OneBase.{base_was}
use Rattle.board_changes.specs.Changed.{base_at}
use Rattle.board_layout.specs.Board.{Board}
use Rattle.board_layout.specs.Layout.{base_size, board_size}
use Rattle.board_layout.specs.Valid.{IsBoard}
use Rattle.board_layout.specs.jam_base.Contents.{Contents, with_slots}
use Rattle.jam_layout.proofs.SlotSizes.{readers_length}
use Rattle.jam_layout.specs.Fields.{is_text}
use Rattle.jam_layout.specs.Messages.{IsMessage}
use Rattle.jam_layout.specs.Sizes.{slot_size}
use Rattle.jam_records.specs.declared.message.Kind.{Kind}
use Rattle.jam_records.specs.declared.message.Message.{Message}
use Rattle.jam_records.specs.declared.message.Slot.{Slot}
use Rattle.slot_changes.proofs.ReplaceLaws.{replaced_size}
use Rattle.slot_changes.proofs.SlotBytes.{files_length}
use Rattle.slot_changes.proofs.ValueLaws.{an_id}
use Rattle.slot_changes.specs.Msgids.{identified, or_else}
use Rattle.slot_changes.specs.Packed.{replaced}
use Rattle.slot_changes.specs.Values.{MayHold}

-- ---- a message that has its msgid
own_id : (own other : List ℕ) → length own ≢ 0 → or_else own other ≡ own
own_id [] other some = absurd (some refl)
own_id (b ∷ own) other some = refl

no_id : (own : List ℕ) → or_else own [] ≡ own
no_id [] = refl
no_id (b ∷ own) = refl

same_message : (msgid : List ℕ) (m : Message) → length m.msgid ≢ 0 → identified msgid m ≡ m
same_message msgid m some = λ i. record m { msgid = own_id m.msgid msgid some i }

pub none_given : (m : Message) → identified [] m ≡ m
none_given m = λ i. record m { msgid = no_id m.msgid i }

pub may_then : (kind : Kind) (m : Message) → length m.msgid ≢ 0 → MayHold kind m → IsMessage kind m
may_then kind m some may = subst (IsMessage kind) (same_message (0x41 ∷ []) m some) (may (0x41 ∷ []) an_id)

text_some : (text : List ℕ) → is_text 80 text ≡ true → length text ≢ 0
unfolding is_text
text_some [] is none = false≢true is
text_some (b ∷ text) is none = omega (arith, none)

pub then_some : (kind : Kind) (m : Message) → IsMessage kind m → length m.msgid ≢ 0
then_some kind m is = text_some m.msgid is.msgid

pub then_may : (kind : Kind) (m : Message) → IsMessage kind m → MayHold kind m
then_may kind m is = λ msgid ok. subst (IsMessage kind) (sym (same_message msgid m (then_some kind m is))) is

-- ---- the size
-- the slot in the next place is added, and the sum stays at its last value
pub size_step : (size new total most : ℕ) (left rest : List Slot) (s : Slot) → left ≡ s ∷ rest → new ≡ min (size + min (slot_size s) most) most → min (size + sum_by slot_size left) most ≡ total → min (new + sum_by slot_size rest) most ≡ total
size_step size new total most left rest s is added so_far =
    omega (arith, added, sym so_far, ap (sum_by slot_size) is, sum_by-cons slot_size s rest)

-- all but the base's own slots, and these
pub sizes_are : (b : Board) (place : ℕ) (slots : List Slot) (base : Contents) (readers rest : ℕ) → IsBoard b → base_at place b ≡ Some base → readers ≡ 16 * length base.shape.readers → rest + base_size base ≡ board_size b
    → rest + 1024 + readers + sum_by slot_size slots ≡ board_size (replaced place slots b)
sizes_are b place slots base readers rest ok here are is =
    let was = base_was b place base base ok here refl in
    omega (
      arith,
      are,
      is,
      files_length base.shape base.conference,
      files_length base.shape (with_slots slots base).conference,
      readers_length base.shape.readers base.conference.pointers was.pointers.all,
      replaced_size b place slots base ok here,
    )
