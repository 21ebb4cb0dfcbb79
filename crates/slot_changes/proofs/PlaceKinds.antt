-- What the base and the setup say of one place.
use Rattle.std.proofs.Common.{◌≡◌, ℕ, zero, suc, List, [], ◌∷◌, sym, ap, ◌∙◌}
use Rattle.std.specs.Prelude.{slice_get, Some}
use Rattle.std.proofs.lemmas.Option.{none-some, same_Some}
use Rattle.board_changes.proofs.PlaceLaws.{shape_in}
use Rattle.board_changes.specs.Changed.{base_at}
use Rattle.board_layout.specs.Board.{Board, shape_of, shapes_of}
use Rattle.board_layout.specs.Renewed.{contents}
use Rattle.board_layout.specs.jam_base.Contents.{Contents}
use Rattle.jam_layout.specs.declared.conference.ConferenceContents.{ConferenceContents}
use Rattle.jam_layout.specs.declared.shape.Shape.{Shape}
use Rattle.board_ledger.specs.setup_file.declared.conference.Conference.{Conference as SetupConference}

shape_there : (shapes : List Shape) (conferences : List ConferenceContents) (place : ℕ) (base : Contents) → slice_get (contents shapes conferences) place ≡ Some base → slice_get shapes place ≡ Some base.shape
shape_there [] conferences place base is = absurd (none-some base is)
shape_there (s ∷ shapes) [] place base is = absurd (none-some base is)
shape_there (s ∷ shapes) (c ∷ conferences) zero base is = ap (λ (b : Contents). Some b.shape) (same_Some _ base is)
shape_there (s ∷ shapes) (c ∷ conferences) (suc place) base is = shape_there shapes conferences place base is

pub kind_at : (b : Board) (place : ℕ) (base : Contents) (c : SetupConference) → base_at place b ≡ Some base → slice_get b.ledger.setup.conferences place ≡ Some c → base.shape.kind ≡ c.kind
kind_at b place base c here is =
    let same : Some base.shape ≡ Some (shape_of b.ledger place c.kind) = sym (shape_there (shapes_of b.ledger) b.conferences place base here) ∙ shape_in b.ledger place c is in
    ap (λ (s : Shape). s.kind) (same_Some base.shape (shape_of b.ledger place c.kind) same)
