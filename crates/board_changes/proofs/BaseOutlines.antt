-- The outline of a board with one base in place of another, where the board is its own.
use Rattle.std.proofs.Common.{◌≡◌, ℕ, List, [], ◌∷◌, map, set, Option, Some, refl, sym, ap, ◌∙◌}
use Rattle.std.specs.Prelude.{option_map, slice_get, unwrap_or}
use Rattle.std.proofs.lemmas.Option.{slice_get-map}
use Rattle.std.proofs.lemmas.List.{map-set}
use Rattle.board_changes.specs.Changed.{empty_conferences, made, new_ledger, with_base}
use Rattle.board_layout.proofs.OutlineLaws.{outline_contents}
use Rattle.board_layout.specs.Board.{Board, conferences_in, shapes_of}
use Rattle.board_layout.specs.Outlines.{board_outline}
use Rattle.board_layout.specs.Renewed.{contents_of}
use Rattle.board_layout.specs.jam_base.Contents.{Contents, no_slots}
use Rattle.board_layout.specs.jam_base.Outlined.{outlined}
use Rattle.board_layout.specs.jam_layout.Outlines.{outline}
use Rattle.board_layout.specs.jam_layout.declared.conference.ConferenceContents.{ConferenceContents}
use Rattle.board_layout.specs.jam_layout.declared.shape.Shape.{Shape}
use Rattle.board_ledger.specs.setup_file.declared.fields.SetupFields.{SetupFields}

pub conferences_outlined : (bases : List Contents) → map outline (conferences_in bases) ≡ conferences_in (map outlined bases)
conferences_outlined [] = refl
conferences_outlined (base ∷ bases) = ap (λ (cs : List ConferenceContents). outline base.conference ∷ cs) (conferences_outlined bases)

-- the bases of a board that is its own outline
pub own_bases : (b : Board) → board_outline b ≡ b → map outlined (contents_of b) ≡ contents_of b
own_bases b own = sym (outline_contents b) ∙ ap contents_of own

one_own : (bases : List Contents) (place : ℕ) (base : Contents) → map outlined bases ≡ bases → slice_get bases place ≡ Some base → outlined base ≡ base
one_own bases place base own here =
    let same : Some (outlined base) ≡ Some base = ap (option_map outlined) (sym here) ∙ (sym (slice_get-map outlined bases place) ∙ (ap (λ (xs : List Contents). slice_get xs place) own ∙ here)) in
    ap (λ (o : Option Contents). unwrap_or o base) same

pub own_base : (b : Board) (place : ℕ) (base : Contents) → board_outline b ≡ b → slice_get (contents_of b) place ≡ Some base → outlined base ≡ base
own_base b place base own here = one_own (contents_of b) place base (own_bases b own) here

pub outline_with : (b : Board) (place : ℕ) (base : Contents) → board_outline b ≡ b → board_outline (with_base place (Some base) b) ≡ with_base place (Some (outlined base)) b
outline_with b place base own =
    let bases : map outlined (set (contents_of b) place base) ≡ set (contents_of b) place (outlined base) =
    map-set outlined (contents_of b) place base ∙ ap (λ (xs : List Contents). set xs place (outlined base)) (own_bases b own) in
    ap (λ (cs : List ConferenceContents). record { ledger = b.ledger; conferences = cs }) (conferences_outlined (set (contents_of b) place base) ∙ ap conferences_in bases)

-- a new board has no bodies
none_outlined : (shapes : List Shape) → map outline (empty_conferences shapes) ≡ empty_conferences shapes
none_outlined [] = refl
none_outlined (shape ∷ shapes) = ap (λ (cs : List ConferenceContents). no_slots shape ∷ cs) (none_outlined shapes)

pub made_outline : (setup : SetupFields) (created : ℕ) → board_outline (made setup created) ≡ made setup created
made_outline setup created = ap (λ (cs : List ConferenceContents). record { ledger = new_ledger setup created; conferences = cs }) (none_outlined (shapes_of (new_ledger setup created)))
