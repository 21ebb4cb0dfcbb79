-- A board with which a history begins has a conference for each of the setup, and pointers for its members; one that was
-- just made has no users.
use Rattle.std.proofs.Common.{◌≡◌, ℕ, zero, suc, Bool, true, false, cond, eqb, List, [], ◌∷◌, length, Option, Some, None, refl, sym, ap, ◌∙◌, subst}
use Rattle.std.specs.List.{AllZip}
use Rattle.std.specs.Prelude.{option_and_then, slice_get}
use Rattle.std.proofs.Math.ListN.{length-replicate}
use Rattle.std.proofs.lemmas.Option.{none-some, same_Some}
use Rattle.post_changes.proofs.board_changes.MemberLaws.{readers_at}
use Rattle.post_changes.specs.board_changes.Changed.{empty_conferences, made, new_ledger}
use Rattle.board_layout.proofs.BasePlaces.{shapes_count}
use Rattle.board_layout.specs.Board.{Board, shapes_of}
use Rattle.board_layout.specs.Valid.{IsBoard}
use Rattle.board_layout.specs.Lookups.{pointer_at, user_of}
use Rattle.board_layout.specs.Renewed.{contents, contents_of}
use Rattle.board_laws.proofs.Bases.{IsEven, pointer_in}
use Rattle.board_laws.proofs.Grown.{IsWhole}
use Rattle.board_laws.proofs.Readers.{no_pointer}
use Rattle.board_ledger.specs.declared.user.User.{User}
use Rattle.jam_base.specs.Contents.{Contents, pointer_of}
use Rattle.jam_layout.specs.Valid.{IsConference}
use Rattle.jam_layout.specs.declared.conference.ConferenceContents.{ConferenceContents}
use Rattle.jam_layout.specs.declared.reader.Reader.{Reader}
use Rattle.jam_layout.specs.declared.shape.Shape.{Shape}
use Rattle.setup_file.specs.declared.fields.SetupFields.{SetupFields}

empty_count : (shapes : List Shape) → length (empty_conferences shapes) ≡ length shapes
empty_count [] = refl
empty_count (s ∷ shapes) = ap suc (empty_count shapes)

empty_even : (shapes : List Shape) (place : ℕ) (base : Contents) → slice_get (contents shapes (empty_conferences shapes)) place ≡ Some base → IsEven base
empty_even [] place base here = absurd (none-some base here)
empty_even (s ∷ shapes) zero base here = subst IsEven (same_Some _ base here) (length-replicate {A = ℕ} (length s.readers) 0)
empty_even (s ∷ shapes) (suc place) base here = empty_even shapes place base here

-- ---- a valid board
all_even : (shapes : List Shape) (conferences : List ConferenceContents) → AllZip IsConference shapes conferences → (place : ℕ) (base : Contents) → slice_get (contents shapes conferences) place ≡ Some base → IsEven base
all_even [] conferences all place base here = absurd (none-some base here)
all_even (s ∷ shapes) [] all place base here = absurd all
all_even (s ∷ shapes) (c ∷ conferences) all zero base here = subst IsEven (same_Some _ base here) all.0.pointers.all
all_even (s ∷ shapes) (c ∷ conferences) all (suc place) base here = all_even shapes conferences all.1 place base here

zip_count : (shapes : List Shape) (conferences : List ConferenceContents) → AllZip IsConference shapes conferences → length conferences ≡ length shapes
zip_count [] [] all = refl
zip_count [] (c ∷ conferences) all = absurd all
zip_count (s ∷ shapes) [] all = absurd all
zip_count (s ∷ shapes) (c ∷ conferences) all = ap suc (zip_count shapes conferences all.1)

pub board_whole : (b : Board) → IsBoard b → IsWhole b
board_whole b ok = record {
  count = zip_count (shapes_of b.ledger) b.conferences ok.conferences ∙ shapes_count b.ledger 0 b.ledger.setup.conferences;
  even = all_even (shapes_of b.ledger) b.conferences ok.conferences;
}

-- ---- a fresh board
module _ (setup : SetupFields) (now : ℕ) where
  pub fresh_whole : IsWhole (made setup now)
  fresh_whole = record {
    count = empty_count (shapes_of (new_ledger setup now)) ∙ shapes_count (new_ledger setup now) 0 setup.conferences;
    even = empty_even (shapes_of (new_ledger setup now));
  }

  pub nobody_there : (id : ℕ) → user_of id (made setup now) ≡ None
  nobody_there id = by (eqb id 0)
    where
      by : (t : Bool) → cond {A = Option User} t None None ≡ None
      by true = refl
      by false = refl

  pub no_pointer_there : (place id pointer : ℕ) → pointer_at place id (made setup now) ≡ Some pointer → ⊥
  no_pointer_there place id pointer is = by (slice_get (contents_of (made setup now)) place) refl is
    where
      by : (o : Option Contents) → slice_get (contents_of (made setup now)) place ≡ o → option_and_then (pointer_in id) o ≡ Some pointer → ⊥
      by None none found = none-some pointer found
      by (Some base) here found =
          let none : pointer_of id base.shape.readers base.conference.pointers ≡ None =
          ap (λ (rs : List Reader). pointer_of id rs base.conference.pointers) (readers_at (made setup now) place base here) ∙ no_pointer id base.conference.pointers in
          none-some pointer (sym none ∙ found)
