-- What stands in a place of a board.
use Rattle.std.proofs.Common.{◌≡◌, ℕ, zero, suc, ◌-◌, ◌<◌, ◌≤◌, List, [], ◌∷◌, length, get_or, refl, sym, ap, ◌∙◌, arith, Bor}
use Rattle.std.specs.Prelude.{Option, Some, None, option_map, option_copied, unwrap_or, slice_get, IfSome, IfNone}
use Rattle.std.specs.List.{AllZip}
use Rattle.std.proofs.lemmas.List.{length-map}
use Rattle.std.proofs.lemmas.Option.{slice_get-map, slice_get_within, none-some}
use Rattle.board_layout.specs.Board.{Board, conferences_in, shapes_of}
use Rattle.board_layout.specs.Valid.{IsBoard}
use Rattle.board_layout.proofs.BasePlaces.{shapes_count}
use Rattle.jam_base.specs.Contents.{Contents}
use Rattle.jam_base.specs.jam_layout.Limits.{slot_limit}
use Rattle.jam_base.specs.jam_layout.Valid.{IsConference}
use Rattle.jam_base.specs.jam_layout.declared.conference.ConferenceContents.{ConferenceContents}
use Rattle.jam_base.specs.jam_layout.declared.shape.Shape.{Shape}
use Rattle.jam_records.specs.declared.message.Slot.{Slot}
use Rattle.board_ledger.specs.setup_file.Valid.{numbers_of}
use Rattle.board_ledger.specs.setup_file.declared.conference.Conference.{Conference as SetupConference}
use Rattle.board_layout.specs.Lookups.{slots_in}

shapes_conferences : (shapes : List Shape) (conferences : List ConferenceContents) → AllZip IsConference shapes conferences → length shapes ≡ length conferences
shapes_conferences [] [] zip = refl
shapes_conferences [] (c ∷ conferences) zip = absurd zip
shapes_conferences (s ∷ shapes) [] zip = absurd zip
shapes_conferences (s ∷ shapes) (c ∷ conferences) zip = ap suc (shapes_conferences shapes conferences zip.1)

-- the conference in a place is one of the shape there
pub conference_fits : (shapes : List Shape) (conferences : List ConferenceContents) (k : ℕ) (s : Shape) (c : ConferenceContents) → AllZip IsConference shapes conferences → k < length conferences → IsConference (get_or shapes k s) (get_or conferences k c)
conference_fits [] [] k s c zip within = absurd (omega arith)
conference_fits [] (x ∷ conferences) k s c zip within = absurd zip
conference_fits (y ∷ shapes) [] k s c zip within = absurd zip
conference_fits (y ∷ shapes) (x ∷ conferences) zero s c zip within = zip.0
conference_fits (y ∷ shapes) (x ∷ conferences) (suc k) s c zip within = conference_fits shapes conferences k s c zip.1 (omega arith)

-- of each conference of the setup there is one
pub conferences_count : (b : Board) → IsBoard b → length b.conferences ≡ length b.ledger.setup.conferences
conferences_count b ok = sym (shapes_conferences (shapes_of b.ledger) b.conferences ok.conferences) ∙ shapes_count b.ledger 0 b.ledger.setup.conferences

pub not_past : {A : Type 0} (xs : List A) (place : ℕ) → place < length xs → slice_get xs place ≡ None → ⊥
not_past [] place within none = omega (arith, within)
not_past (x ∷ xs) zero within none = none-some x (sym none)
not_past (x ∷ xs) (suc place) within none = not_past xs place (omega (arith, within)) none

pub few_places : (b : Board) → IsBoard b → length b.conferences ≤ 64
few_places b ok = omega (arith, conferences_count b ok, ok.ledger.setup.conferences.many)

pub as_many_bases : (b : Board) (bases : List Contents) → conferences_in bases ≡ b.conferences → length bases ≡ length b.conferences
as_many_bases b bases e = sym (length-map bases (λ (base : Contents). base.conference)) ∙ ap length e

-- the conference in a place, by its base
pub conference_at : (b : Board) (bases : List Contents) (place : ℕ) → conferences_in bases ≡ b.conferences → slice_get b.conferences place ≡ option_map (λ (base : Contents). base.conference) (slice_get bases place)
conference_at b bases place e = ap (λ (xs : List ConferenceContents). slice_get xs place) (sym e) ∙ slice_get-map (λ (base : Contents). base.conference) bases place

abbrev pub slots_of : Option ConferenceContents → List Slot
slots_of c = unwrap_or (option_map (λ (c : ConferenceContents). c.slots) c) []

few_slots : (shapes : List Shape) (conferences : List ConferenceContents) (place : ℕ) → AllZip IsConference shapes conferences → length (slots_of (slice_get conferences place)) ≤ slot_limit
few_slots shapes [] place zip = omega arith
few_slots [] (c ∷ conferences) place zip = absurd zip
few_slots (s ∷ shapes) (c ∷ conferences) zero zip = zip.0.few
few_slots (s ∷ shapes) (c ∷ conferences) (suc place) zip = few_slots shapes conferences place zip.1

-- a conference of a valid board has at most 9,999 slots
pub few_in_place : (b : Board) (place : ℕ) → IsBoard b → length (slots_in b place) ≤ slot_limit
few_in_place b place ok = few_slots (shapes_of b.ledger) b.conferences place ok.conferences

pub base_slots : (b : Board) (bases : List Contents) (place : ℕ) (base : Contents) → conferences_in bases ≡ b.conferences → slice_get bases place ≡ Some base → base.conference.slots ≡ slots_in b place
base_slots b bases place base e found = sym (ap slots_of (conference_at b bases place e ∙ ap (option_map (λ (base : Contents). base.conference)) found))

pub no_slots : (b : Board) (bases : List Contents) (place : ℕ) → conferences_in bases ≡ b.conferences → slice_get bases place ≡ None → slots_in b place ≡ []
no_slots b bases place e none = ap slots_of (conference_at b bases place e ∙ ap (option_map (λ (base : Contents). base.conference)) none)

pub base_place : (b : Board) (bases : List Contents) (place : ℕ) (base : Contents) → IsBoard b → conferences_in bases ≡ b.conferences → slice_get bases place ≡ Some base → place < 64
base_place b bases place base ok e found = omega (arith, few_places b ok, as_many_bases b bases e, slice_get_within bases place base found)

pub few_bases : (b : Board) (bases : List Contents) → IsBoard b → conferences_in bases ≡ b.conferences → length bases ≤ 64
few_bases b bases ok e = omega (arith, few_places b ok, as_many_bases b bases e)

-- ---- what a look-up answers
pub found_slots : (b : Board) (bases : List Contents) (place : ℕ) (found : Option (Bor Contents)) → conferences_in bases ≡ b.conferences → option_copied found ≡ slice_get bases place → IfSome found (λ base. base.now.conference.slots ≡ slots_in b place)
found_slots b bases place None e is = tt
found_slots b bases place (Some base) e is = base_slots b bases place base.now e (sym is)

pub found_place : (b : Board) (bases : List Contents) (place : ℕ) (found : Option (Bor Contents)) → IsBoard b → conferences_in bases ≡ b.conferences → option_copied found ≡ slice_get bases place → IfSome found (λ _. place < 64)
found_place b bases place None ok e is = tt
found_place b bases place (Some base) ok e is = base_place b bases place base.now ok e (sym is)

pub found_none : (b : Board) (bases : List Contents) (place : ℕ) (found : Option (Bor Contents)) → conferences_in bases ≡ b.conferences → option_copied found ≡ slice_get bases place → IfNone found (slots_in b place ≡ [])
found_none b bases place None e is = no_slots b bases place e (sym is)
found_none b bases place (Some base) e is = tt

-- past the last conference the number is 0
pub none_number : (conferences : List SetupConference) (place : ℕ) → None ≡ slice_get conferences place → 0 ≡ get_or (numbers_of conferences) place 0
none_number [] place e = refl
none_number (c ∷ conferences) zero e = absurd (none-some c e)
none_number (c ∷ conferences) (suc place) e = none_number conferences place e
