-- What boards with one outline answer alike of a place: its conference, its kind and how many slots it has.
use Rattle.std.proofs.Common.{◌≡◌, ℕ, [], length, Option, Some, None, refl, sym, ap, ◌∙◌}
use Rattle.std.specs.Option.{option_map_or}
use Rattle.std.specs.Prelude.{option_map, slice_get}
use Rattle.std.proofs.lemmas.List.{length-map}
use Rattle.std.proofs.lemmas.Option.{slice_get-map}
use Rattle.board_layout.proofs.OneOutline.{alike_ledger}
use Rattle.board_layout.specs.Board.{Board}
use Rattle.board_layout.specs.Outlines.{board_outline}
use Rattle.board_layout.specs.Lookups.{place_of}
use Rattle.board_ledger.specs.declared.ledger.Ledger.{Ledger}
use Rattle.board_layout.specs.jam_layout.Outlines.{outline, slot_outline}
use Rattle.board_layout.specs.jam_layout.declared.conference.ConferenceContents.{ConferenceContents}
use Rattle.mail_board.specs.Held.{AreAlike}
use Rattle.cmd_board.specs.Places.{kind_of_place, slot_count}

-- the board of a ledger alone
abbrev pub bare : Ledger → Board
bare l = record { ledger = l; conferences = [] }

count_there : (c : Option ConferenceContents) → option_map_or (λ (k : ConferenceContents). length k.slots) (option_map outline c) 0 ≡ option_map_or (λ (k : ConferenceContents). length k.slots) c 0
count_there None = refl
count_there (Some c) = length-map c.slots slot_outline

count_outline : (place : ℕ) (b : Board) → slot_count place (board_outline b) ≡ slot_count place b
count_outline place b = ap (λ (c : Option ConferenceContents). option_map_or (λ (k : ConferenceContents). length k.slots) c 0) (slice_get-map outline b.conferences place) ∙ count_there (slice_get b.conferences place)

module _ (a b : Board) (alike : AreAlike a b) where
  pub place_alike : (conference : ℕ) → place_of conference a ≡ place_of conference b
  place_alike conference = ap (λ (l : Ledger). place_of conference (bare l)) (alike_ledger a b alike)

  pub kind_alike : (place : ℕ) → kind_of_place place a ≡ kind_of_place place b
  kind_alike place = ap (λ (l : Ledger). kind_of_place place (bare l)) (alike_ledger a b alike)

  pub count_alike : (place : ℕ) → slot_count place a ≡ slot_count place b
  count_alike place = sym (count_outline place a) ∙ (ap (slot_count place) alike ∙ count_outline place b)
