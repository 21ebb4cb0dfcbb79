-- What the outline of a board shares with it: it is a board of the same size, with the same pointers, slots and messages.
use Rattle.std.proofs.Common.{◌≡◌, ℕ, zero, suc, ◌+◌, ◌-◌, Bool, true, false, cond, ◌&&◌, List, [], ◌∷◌, length, map, get_or, Option, Some, None, refl, sym, ap, ◌∙◌, subst, arith}
use Rattle.std.specs.Prelude.{All, IsTrue, sum_by, slice_get, option_map, option_and_then, nat_le, ◌==◌}
use Rattle.std.specs.List.{AllZip, fold, list_all}
use Rattle.std.proofs.lemmas.List.{length-map, length-replicate}
use Rattle.std.proofs.lemmas.List.Sums.{sum_by-cons}
use Rattle.std.proofs.lemmas.Option.{slice_get-map}
use Rattle.std.proofs.lemmas.List.Elements.{All-head, All-tail}
use Rattle.board_ledger.specs.declared.ledger.Ledger.{Ledger}
use Rattle.board_layout.specs.Board.{Board, board_with, conferences_in, shapes_of}
use Rattle.board_layout.specs.Layout.{base_size, board_size, layouts}
use Rattle.board_layout.specs.Lookups.{held_in, pointer_at}
use Rattle.board_layout.specs.Outlines.{board_outline}
use Rattle.board_layout.specs.Renewed.{contents, contents_of}
use Rattle.board_layout.specs.Valid.{IsBoard, highs_fit}
use Rattle.board_ledger.specs.Ledger.{ledger_text}
use Rattle.jam_base.specs.Contents.{Contents, pointer_of}
use Rattle.jam_base.specs.Outlined.{outlined}
use Rattle.jam_base.specs.Slots.{has_live, numbered}
use Rattle.jam_base.proofs.jam_layout.OutlineLaws.{conference_outline, files_outline, jdt_outline}
use Rattle.jam_base.specs.jam_layout.Conference.{is_live, live_count}
use Rattle.jam_base.specs.jam_layout.Layout.{layout, files_size}
use Rattle.jam_base.specs.jam_layout.Outlines.{line_ends, message_outline, outline, slot_outline}
use Rattle.jam_base.specs.jam_layout.Valid.{IsConference}
use Rattle.jam_base.specs.jam_layout.declared.conference.ConferenceContents.{ConferenceContents}
use Rattle.jam_base.specs.jam_layout.declared.shape.Shape.{Shape}
use Rattle.jam_records.specs.declared.message.Message.{Message}
use Rattle.jam_records.specs.declared.message.Slot.{Slot}
use Rattle.jam_records.specs.declared.message.Slot.TheVariants.{Gone, Held}

-- ---- sizes
files_size_outline : (shape : Shape) (c : ConferenceContents) → files_size (layout shape (outline c)) ≡ files_size (layout shape c)
files_size_outline shape c =
    let others = ap files_size (files_outline shape c) in
    omega (arith, others, jdt_outline shape c)

sizes_outline : (shapes : List Shape) (conferences : List ConferenceContents) → sum_by files_size (layouts shapes (map outline conferences)) ≡ sum_by files_size (layouts shapes conferences)
sizes_outline [] conferences = refl
sizes_outline (shape ∷ shapes) [] = refl
sizes_outline (shape ∷ shapes) (c ∷ conferences) =
    let before = sum_by-cons files_size (layout shape (outline c)) (layouts shapes (map outline conferences)) in
    let after = sum_by-cons files_size (layout shape c) (layouts shapes conferences) in
    omega (arith, before, after, files_size_outline shape c, sizes_outline shapes conferences)

pub outline_size : (b : Board) → board_size (board_outline b) ≡ board_size b
outline_size b = ap (λ (n : ℕ). length (ledger_text b.ledger) + n) (sizes_outline (shapes_of b.ledger) b.conferences)

pub base_size_outline : (base : Contents) → base_size (outlined base) ≡ base_size base
base_size_outline base = files_size_outline base.shape base.conference

-- ---- validity
pub highs_outline : (conferences : List ConferenceContents) (highs : List ℕ) → highs_fit (map outline conferences) highs ≡ highs_fit conferences highs
highs_outline [] highs = refl
highs_outline (c ∷ conferences) [] = refl
highs_outline (c ∷ conferences) (high ∷ highs) = λ i. nat_le high (length-map c.slots slot_outline i) && highs_outline conferences highs i

conferences_outline : (shapes : List Shape) (conferences : List ConferenceContents) → AllZip IsConference shapes conferences → AllZip IsConference shapes (map outline conferences)
conferences_outline [] [] all = all
conferences_outline [] (c ∷ conferences) all = absurd all
conferences_outline (shape ∷ shapes) [] all = absurd all
conferences_outline (shape ∷ shapes) (c ∷ conferences) all = (conference_outline shape c all.0, conferences_outline shapes conferences all.1)

pub outline_valid : (b : Board) → IsBoard b → IsBoard (board_outline b)
outline_valid b ok =
    let small = ok.small in
    record {
      ledger = ok.ledger;
      conferences = conferences_outline (shapes_of b.ledger) b.conferences ok.conferences;
      highs = subst (λ (fit : List ℕ → Bool). All (λ u. IsTrue (list_all (λ o. fit o.highs) u.offers)) b.ledger.users) (λ i highs. sym (highs_outline b.conferences highs) i) ok.highs;
      small = omega (arith, outline_size b, small);
    }

-- ---- it is its own outline
message_again : (m : Message) → message_outline (message_outline m) ≡ message_outline m
message_again m = ap (λ (n : ℕ). record m { body = line_ends n }) (length-replicate (length m.body) 0x0D)

slot_again : (s : Slot) → slot_outline (slot_outline s) ≡ slot_outline s
slot_again Gone = refl
slot_again (Held m) = ap Held (message_again m)

slots_again : (slots : List Slot) → map slot_outline (map slot_outline slots) ≡ map slot_outline slots
slots_again [] = refl
slots_again (s ∷ slots) = λ i. slot_again s i ∷ slots_again slots i

conference_again : (c : ConferenceContents) → outline (outline c) ≡ outline c
conference_again c = ap (λ (slots : List Slot). record c { slots = slots }) (slots_again c.slots)

conferences_again : (conferences : List ConferenceContents) → map outline (map outline conferences) ≡ map outline conferences
conferences_again [] = refl
conferences_again (c ∷ conferences) = λ i. conference_again c i ∷ conferences_again conferences i

pub base_again : (base : Contents) → outlined (outlined base) ≡ outlined base
base_again base = ap (λ (c : ConferenceContents). record base { conference = c }) (conference_again base.conference)

-- a base that has the outline of a conference
pub own_outlined : (base : Contents) (whole : ConferenceContents) → base.conference ≡ outline whole → outlined base ≡ base
own_outlined base whole is = λ i. record base { conference = (ap outline is ∙ (conference_again whole ∙ sym is)) i }

pub own_conference : (base : Contents) (whole : ConferenceContents) → base.conference ≡ outline whole → IsConference base.shape whole → IsConference base.shape base.conference
own_conference base whole is ok = subst (IsConference base.shape) (sym is) (conference_outline base.shape whole ok)

pub outline_again : (b : Board) → board_outline (board_outline b) ≡ board_outline b
outline_again b = ap (λ (conferences : List ConferenceContents). record b { conferences = conferences }) (conferences_again b.conferences)

-- ---- what is looked up
contents_outline : (shapes : List Shape) (conferences : List ConferenceContents) → contents shapes (map outline conferences) ≡ map outlined (contents shapes conferences)
contents_outline [] conferences = refl
contents_outline (shape ∷ shapes) [] = refl
contents_outline (shape ∷ shapes) (c ∷ conferences) = ap (λ (bases : List Contents). record { shape = shape; conference = outline c } ∷ bases) (contents_outline shapes conferences)

pub outline_contents : (b : Board) → contents_of (board_outline b) ≡ map outlined (contents_of b)
outline_contents b = contents_outline (shapes_of b.ledger) b.conferences

pub outline_base : (b : Board) (place : ℕ) → slice_get (contents_of (board_outline b)) place ≡ option_map outlined (slice_get (contents_of b) place)
outline_base b place = ap (λ (bases : List Contents). slice_get bases place) (outline_contents b) ∙ slice_get-map outlined (contents_of b) place

-- pointers
abbrev pointer_in : ℕ → Contents → Option ℕ
pointer_in id base = pointer_of id base.shape.readers base.conference.pointers

pointer_outline : (id : ℕ) (o : Option Contents) → option_and_then (pointer_in id) (option_map outlined o) ≡ option_and_then (pointer_in id) o
pointer_outline id None = refl
pointer_outline id (Some base) = refl

pub outline_pointer : (b : Board) (place id : ℕ) → pointer_at place id (board_outline b) ≡ pointer_at place id b
outline_pointer b place id = ap (option_and_then (pointer_in id)) (outline_base b place) ∙ pointer_outline id (slice_get (contents_of b) place)

-- the message of a slot
pub held_outline : (s : Slot) → held_in (slot_outline s) ≡ option_map message_outline (held_in s)
held_outline Gone = refl
held_outline (Held m) = refl

slot_at : (slots : List Slot) (place : ℕ) → get_or (map slot_outline slots) place Gone ≡ slot_outline (get_or slots place Gone)
slot_at [] place = refl
slot_at (s ∷ slots) zero = refl
slot_at (s ∷ slots) (suc place) = slot_at slots place

pub outline_numbered : (slots : List Slot) (number : ℕ) → numbered (map slot_outline slots) number ≡ slot_outline (numbered slots number)
outline_numbered slots number = by (number == 0)
  where
    by : (none : Bool) → cond none Gone (get_or (map slot_outline slots) (number - 1) Gone) ≡ slot_outline (cond none Gone (get_or slots (number - 1) Gone))
    by true = refl
    by false = slot_at slots (number - 1)

-- messages that aren't deleted
live_one : (s : Slot) → is_live (slot_outline s) ≡ is_live s
live_one Gone = refl
live_one (Held m) = refl

pub outline_has_live : (slots : List Slot) (number : ℕ) → has_live number (map slot_outline slots) ≡ has_live number slots
outline_has_live slots number = ap is_live (outline_numbered slots number) ∙ live_one (numbered slots number)

live_from : (slots : List Slot) (n : ℕ) → fold (λ n s. n + cond (is_live s) 1 0) n (map slot_outline slots) ≡ fold (λ n s. n + cond (is_live s) 1 0) n slots
live_from [] n = refl
live_from (s ∷ slots) n =
    ap (λ (live : Bool). fold (λ n s. n + cond (is_live s) 1 0) (n + cond live 1 0) (map slot_outline slots)) (live_one s) ∙ live_from slots (n + cond (is_live s) 1 0)

pub outline_live : (slots : List Slot) → live_count (map slot_outline slots) ≡ live_count slots
outline_live slots = live_from slots 0

-- ---- bases of outlines make a board that is its own
own_conferences : (bases : List Contents) → All (λ base. outlined base ≡ base) bases → map outline (conferences_in bases) ≡ conferences_in bases
own_conferences [] all = refl
own_conferences (base ∷ bases) all =
    let first : outlined base ≡ base = All-head (λ (k : Contents). outlined k ≡ k) base bases all in
    λ i. (first i).conference ∷ own_conferences bases (All-tail (λ (k : Contents). outlined k ≡ k) base bases all) i

pub own_board : (l : Ledger) (bases : List Contents) → All (λ base. outlined base ≡ base) bases → board_outline (board_with l bases) ≡ board_with l bases
own_board l bases all = λ i. record { ledger = l; conferences = own_conferences bases all i }
