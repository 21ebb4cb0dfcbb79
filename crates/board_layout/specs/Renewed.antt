-- The conferences of a board with their shapes, and with some of them anew.
use Rattle.std.specs.Prelude.{List, [], ◌∷◌, Option, Some, None}
use Rattle.jam_base.specs.Contents.{Contents}
use Rattle.jam_base.specs.jam_layout.declared.conference.ConferenceContents.{ConferenceContents}
use Rattle.jam_base.specs.jam_layout.declared.shape.Shape.{Shape}
use Rattle.board_layout.specs.Board.{Board, shapes_of}

-- each conference with its shape
abbrev pub contents : List Shape → List ConferenceContents → List Contents
contents [] conferences = []
contents (shape ∷ shapes) [] = []
contents (shape ∷ shapes) (c ∷ conferences) = record { shape = shape; conference = c } ∷ contents shapes conferences

abbrev pub contents_of : Board → List Contents
contents_of b = contents (shapes_of b.ledger) b.conferences

-- a new one in place of an old one, where there is one
abbrev pub renewed : List Contents → List (Option Contents) → List Contents
renewed [] news = []
renewed (old ∷ olds) [] = old ∷ olds
renewed (old ∷ olds) (None ∷ news) = old ∷ renewed olds news
renewed (old ∷ olds) (Some new ∷ news) = new ∷ renewed olds news
