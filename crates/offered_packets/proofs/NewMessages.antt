-- When the message of a number is new to a user.
use Rattle.std.proofs.Common.{◌≡◌, ℕ, ◌<◌, ◌≤◌, true, false, ◌&&◌, ltb, sym, ap, ◌∙◌}
use Rattle.std.specs.Prelude.{Option, Some, None, option_and_then, slice_get}
use Rattle.std.proofs.lemmas.Bool.{and_from, and_left, and_right, lt-ltb, le-ltb}
use Rattle.board_layout.specs.Board.{Board}
use Rattle.board_layout.specs.Renewed.{contents_of}
use Rattle.board_layout.specs.jam_base.Contents.{Contents, pointer_of}
use Rattle.board_layout.specs.Lookups.{pointer_at}
use Rattle.offered_packets.specs.Offered.{is_above, is_new}
use Rattle.offered_packets.specs.Sees.{sees}
use Rattle.offered_packets.proofs.Offers.{numbered_at}

abbrev pointer_in : ℕ → Contents → Option ℕ
pointer_in id base = pointer_of id base.shape.readers base.conference.pointers

pointer_is : (b : Board) (id place : ℕ) (base : Contents) (pointer : Option ℕ) → Some base ≡ slice_get (contents_of b) place → pointer ≡ pointer_in id base → pointer_at place id b ≡ pointer
pointer_is b id place base pointer found is = ap (option_and_then (pointer_in id)) (sym found) ∙ sym is

-- no message is, where there is no pointer
pub none_new : (b : Board) (id place number : ℕ) (base : Contents) → Some base ≡ slice_get (contents_of b) place → None ≡ pointer_in id base → is_new b id (numbered_at place number) ≡ false
none_new b id place number base found none = ap (λ (p : Option ℕ). is_above p number && sees b id place number) (pointer_is b id place base None found none)

-- one above the pointer that is seen
pub seen_new : (b : Board) (id place number pointer : ℕ) (base : Contents) → Some base ≡ slice_get (contents_of b) place → Some pointer ≡ pointer_in id base → pointer < number → sees b id place number ≡ true
    → is_new b id (numbered_at place number) ≡ true
seen_new b id place number pointer base found is above seen =
    ap (λ (p : Option ℕ). is_above p number && sees b id place number) (pointer_is b id place base (Some pointer) found is) ∙ and_from (ltb pointer number) (sees b id place number) (lt-ltb pointer number above) seen

-- one that isn't above it, and one that isn't seen
pub old_not_new : (b : Board) (id place number pointer : ℕ) (base : Contents) → Some base ≡ slice_get (contents_of b) place → Some pointer ≡ pointer_in id base → number ≤ pointer → is_new b id (numbered_at place number) ≡ false
old_not_new b id place number pointer base found is below =
    ap (λ (p : Option ℕ). is_above p number && sees b id place number) (pointer_is b id place base (Some pointer) found is) ∙ and_left (ltb pointer number) (sees b id place number) (le-ltb pointer number below)

pub unseen_not_new : (b : Board) (id place number : ℕ) → sees b id place number ≡ false → is_new b id (numbered_at place number) ≡ false
unseen_not_new b id place number unseen = and_right (is_above (pointer_at place id b) number) (sees b id place number) unseen
