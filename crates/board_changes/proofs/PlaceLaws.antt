-- What stands in each place of a board: its shape, its conference and its files.
use Rattle.std.proofs.Common.{◌≡◌, ℕ, zero, suc, ◌+◌, List, [], ◌∷◌, ◌++◌, length, map, take, refl, sym, ap, ◌∙◌, subst, arith}
use Rattle.std.proofs.lemmas.List.{map-append, take_more}
use Rattle.std.proofs.lemmas.Option.{get_or_from_slice_get, slice_get_within, none-some}
use Rattle.std.specs.Prelude.{slice_get, Option, Some, None}
use Rattle.board_changes.specs.Changed.{empty_conferences}
use Rattle.board_changes.specs.Gathered.{at_place}
use Rattle.board_layout.specs.Board.{shape_of, shapes_from, shapes_of}
use Rattle.board_layout.specs.Layout.{layouts}
use Rattle.board_ledger.specs.declared.ledger.Ledger.{Ledger}
use Rattle.board_layout.specs.jam_base.Contents.{no_slots}
use Rattle.board_layout.specs.jam_layout.Layout.{layout}
use Rattle.board_layout.specs.jam_layout.declared.conference.ConferenceContents.{ConferenceContents}
use Rattle.board_layout.specs.jam_layout.declared.shape.Shape.{Shape}
use Rattle.board_ledger.specs.setup_file.declared.conference.Conference.{Conference as SetupConference}

-- ---- shapes
shapes_from_at : (l : Ledger) (place : ℕ) (conferences : List SetupConference) (k : ℕ) (c : SetupConference) → slice_get conferences k ≡ Some c → slice_get (shapes_from l place conferences) k ≡ Some (shape_of l (place + k) c.kind)
shapes_from_at l place [] k c is = absurd (none-some c is)
shapes_from_at l place (d ∷ conferences) zero c is = ap kind_in is ∙ ap (λ (n : ℕ). Some (shape_of l n c.kind)) (omega arith)
  where
    kind_in : Option SetupConference → Option Shape
    kind_in None = None
    kind_in (Some e) = Some (shape_of l place e.kind)
shapes_from_at l place (d ∷ conferences) (suc k) c is = subst (λ (n : ℕ). slice_get (shapes_from l (place + 1) conferences) k ≡ Some (shape_of l n c.kind)) (omega arith) (shapes_from_at l (place + 1) conferences k c is)

pub shape_in : (l : Ledger) (k : ℕ) (c : SetupConference) → slice_get l.setup.conferences k ≡ Some c → slice_get (shapes_of l) k ≡ Some (shape_of l k c.kind)
shape_in l k c is = shapes_from_at l 0 l.setup.conferences k c is ∙ ap (λ (n : ℕ). Some (shape_of l n c.kind)) (omega arith)

-- ---- new conferences
pub empty_count : (shapes : List Shape) → length (empty_conferences shapes) ≡ length shapes
empty_count [] = refl
empty_count (shape ∷ shapes) = ap suc (empty_count shapes)

-- ---- files
pub layout_in : (shapes : List Shape) (conferences : List ConferenceContents) (k : ℕ) (shape : Shape) (c : ConferenceContents) → slice_get shapes k ≡ Some shape → slice_get conferences k ≡ Some c → at_place (layouts shapes conferences) k ≡ layout shape c
layout_in [] conferences k shape c is has = absurd (none-some shape is)
layout_in (s ∷ shapes) [] k shape c is has = absurd (none-some c has)
layout_in (s ∷ shapes) (d ∷ conferences) zero shape c is has = λ i. layout (some_in s shape is i) (some_in d c has i)
  where
    some_in : {A : Type 0} (x y : A) → Some x ≡ Some y → x ≡ y
    some_in x y e = cc
layout_in (s ∷ shapes) (d ∷ conferences) (suc k) shape c is has = layout_in shapes conferences k shape c is has

pub empty_in : (shapes : List Shape) (k : ℕ) (shape : Shape) → slice_get shapes k ≡ Some shape → slice_get (empty_conferences shapes) k ≡ Some (no_slots shape)
empty_in [] k shape is = absurd (none-some shape is)
empty_in (s ∷ shapes) zero shape is = ap new_in is
  where
    new_in : Option Shape → Option ConferenceContents
    new_in None = None
    new_in (Some other) = Some (no_slots other)
empty_in (s ∷ shapes) (suc k) shape is = empty_in shapes k shape is

-- ---- lists that grow with the places
pub pushed : {A B : Type 0} (f : A → B) (xs : List A) (ys : List B) (k : ℕ) (x : A) → map f xs ≡ take k ys → slice_get ys k ≡ Some (f x) → map f (xs ++ x ∷ []) ≡ take (k + 1) ys
pushed {B = B} f xs ys k x so_far here =
    map-append f xs (x ∷ [])
    ∙ (ap (λ (zs : List B). zs ++ f x ∷ []) so_far
    ∙ sym (take_more ys k (f x) (slice_get_within ys k (f x) here) ∙ ap (λ y. take k ys ++ y ∷ []) (get_or_from_slice_get ys k (f x) (f x) here)))
