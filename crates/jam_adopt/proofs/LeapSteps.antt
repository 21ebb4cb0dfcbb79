-- A leap over the subfield at a place, and over what two leaps behind it pass over.
use Rattle.std.proofs.Common.{◌≡◌, ℕ, ◌+◌, ◌≤◌, List, length, sym, subst, arith}
use Rattle.std.specs.Prelude.{All, bit_or}
use Rattle.byte_lists.specs.Byte.{IsByte}
use Rattle.record_numbers.specs.Numbers.{u16_at, u32_at}
use Rattle.jam_adopt.specs.Leaps.{bit_of_id, PassesFields, IsLeap}
use Rattle.jam_adopt.specs.declared.leaps.Leap.{Leap}
use Rattle.jam_adopt.proofs.LeapLaws.{leap_one, leap_three}
use Rattle.jam_adopt.proofs.OneField.{passes_one}

-- over it alone
pub leap_over_one : (jhr : List ℕ) (at end : ℕ) (leap : Leap) → All IsByte jhr → at + 8 ≤ end → end ≤ length jhr → end ≡ at + 8 + u32_at (at + 4) jhr
    → leap.to ≡ end → leap.ids ≡ bit_of_id (u16_at at jhr) → IsLeap jhr at leap
leap_over_one jhr at end leap all long within is to ids =
    leap_one jhr at leap (omega arith) (omega arith) (λ bits other. subst (PassesFields jhr bits at) (sym to) (passes_one jhr at end bits all long within is other)) ids

-- and over two leaps behind it
pub leap_over_three : (jhr : List ℕ) (at end : ℕ) (leap first second : Leap) → All IsByte jhr → at + 8 ≤ end → end ≤ length jhr → end ≡ at + 8 + u32_at (at + 4) jhr → IsLeap jhr end first → IsLeap jhr first.to second
    → leap.to ≡ second.to → leap.ids ≡ bit_or (bit_or (bit_of_id (u16_at at jhr)) first.ids) second.ids → IsLeap jhr at leap
leap_over_three jhr at end leap first second all long within is a b to ids =
    leap_three jhr at end (bit_of_id (u16_at at jhr)) leap first second (λ bits other. passes_one jhr at end bits all long within is other) (omega arith) a b to ids
