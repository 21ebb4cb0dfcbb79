-- The lines of the conferences, one after the other.
use Rattle.std.proofs.Common.{◌≡◌, ℕ, ◌+◌, ◌<◌, List, [], ◌∷◌, ◌++◌, length, drop, get_or, Some, sym, ◌∙◌, ap, append_assoc, arith}
use Rattle.std.proofs.lemmas.List.{drop_more}
use Rattle.std.proofs.lemmas.Option.{slice_get-get_or}
use Rattle.std.specs.Prelude.{slice_get}
use Rattle.std.specs.Option.{option_map}
use Rattle.board_layout.proofs.BoardLookups.{conferences_count}
use Rattle.board_layout.specs.Board.{Board}
use Rattle.board_layout.specs.Valid.{IsBoard}
use Rattle.board_layout.specs.jam_layout.Conference.{live_count}
use Rattle.board_layout.specs.jam_layout.declared.conference.ConferenceContents.{ConferenceContents}
use Rattle.setup_file.specs.declared.conference.Conference.{Conference as SetupConference}
use Rattle.cmd_board.specs.Check.{conference_label, conference_line, checked_lines, slots_text}

pub place_within : (b : Board) (place : ℕ) → IsBoard b → place < length b.ledger.setup.conferences → place < length b.conferences
place_within b place ok within = omega (arith, within, conferences_count b ok)

-- what is counted of the conference in a place
counted : (f : ConferenceContents → ℕ) (cs : List ConferenceContents) (place n : ℕ) (held : ConferenceContents) → slice_get cs place ≡ Some held → Some n ≡ option_map f (slice_get cs place) → n ≡ f held
counted f cs place n held here is = let e : Some n ≡ Some (f held) = is ∙ ap (option_map f) here in cc

no_conference : ConferenceContents
no_conference = record { counter = 0; slots = []; pointers = [] }

pub lines_more : (named : List SetupConference) (cs : List ConferenceContents) (place slots live : ℕ) (c : SetupConference) (text : List ℕ) → drop place named ≡ c ∷ drop (place + 1) named → place < length cs
    → Some slots ≡ option_map (λ h. length h.slots) (slice_get cs place) → Some live ≡ option_map (λ h. live_count h.slots) (slice_get cs place)
    → ((text ++ conference_label c) ++ slots_text slots live) ++ checked_lines (drop (place + 1) named) (drop (place + 1) cs) ≡ text ++ checked_lines (drop place named) (drop place cs)
lines_more named cs place slots live c text first within slots_are live_are =
    let held : ConferenceContents = get_or cs place no_conference in
    let here : slice_get cs place ≡ Some held = slice_get-get_or cs place no_conference within in
    let second : drop place cs ≡ held ∷ drop (place + 1) cs = drop_more cs place no_conference within in
    let many = counted (λ h. length h.slots) cs place slots held here slots_are in
    let alive = counted (λ h. live_count h.slots) cs place live held here live_are in
    let rest : List ℕ = checked_lines (drop (place + 1) named) (drop (place + 1) cs) in
    let line : checked_lines (drop place named) (drop place cs) ≡ conference_line c slots live ++ rest =
    (λ i. checked_lines (first i) (second i)) ∙ (λ i. conference_line c (sym many i) (sym alive i) ++ rest) in
    ap (λ (front : List ℕ). front ++ rest) (append_assoc text (conference_label c) (slots_text slots live))
    ∙ (append_assoc text (conference_line c slots live) rest
    ∙ ap (λ (lines : List ℕ). text ++ lines) (sym line))
