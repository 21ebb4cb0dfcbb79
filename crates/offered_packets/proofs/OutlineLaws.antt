-- The outline of a board has what a user sees of the board, what he is offered of it, and how a message at hand is shown.
use Rattle.std.proofs.Common.{◌≡◌, ℕ, ◌&&◌, List, [], length, map, take, Option, Some, None, refl, sym, ap, ◌∙◌}
use Rattle.std.specs.Prelude.{slice_get, unwrap_or, option_map, filter, flat_map}
use Rattle.std.specs.List.{range_with_len}
use Rattle.std.proofs.lemmas.List.{length-map}
use Rattle.std.proofs.lemmas.Option.{slice_get-map}
use Rattle.board_layout.specs.Board.{Board}
use Rattle.board_layout.specs.Lookups.{held_in, user_of, slots_in, message_at}
use Rattle.board_layout.specs.Outlines.{board_outline}
use Rattle.board_layout.proofs.OutlineLaws.{base_again, held_outline, outline_has_live, outline_numbered, outline_pointer}
use Rattle.board_ledger.specs.declared.ledger.Ledger.{Ledger}
use Rattle.board_ledger.specs.declared.user.User.{User}
use Rattle.board_layout.specs.jam_base.Contents.{Contents}
use Rattle.board_layout.specs.jam_base.Slots.{has_live, numbered}
use Rattle.board_layout.specs.jam_layout.Outlines.{message_outline, outline, slot_bare, slot_outline}
use Rattle.board_layout.specs.jam_layout.declared.conference.ConferenceContents.{ConferenceContents}
use Rattle.board_layout.proofs.jam_layout.LinkLaws.{link_bare}
use Rattle.board_layout.proofs.jam_layout.OutlineLaws.{one_outline}
use Rattle.jam_records.specs.declared.message.Kind.TheVariants.{Local}
use Rattle.jam_records.specs.declared.message.Message.{Message}
use Rattle.jam_records.specs.declared.message.Slot.{Slot}
use Rattle.jam_threads.specs.Children.{original}
use Rattle.jam_threads.specs.Links.{link_of}
use Rattle.jam_threads.specs.declared.link.Link.{Link}
use Rattle.offered_packets.specs.Offered.{numbers_in, all_numbers, is_above, is_new, offered, high_of, highs}
use Rattle.offered_packets.specs.Sees.{is_allowed, sees}
use Rattle.offered_packets.specs.Shown.{conference_number, shown_lines, shown_message, whole_header}
use Rattle.offered_packets.specs.declared.offered_message.OfferedMessage.{OfferedMessage}
use Rattle.long_names.specs.Plain.{in_capitals, with_long}

-- ---- what is looked up
slots_there : (c : Option ConferenceContents) → unwrap_or (option_map (λ c. c.slots) (option_map outline c)) [] ≡ map slot_outline (unwrap_or (option_map (λ c. c.slots) c) [])
slots_there None = refl
slots_there (Some c) = refl

pub outline_slots : (b : Board) (place : ℕ) → slots_in (board_outline b) place ≡ map slot_outline (slots_in b place)
outline_slots b place = ap (λ (c : Option ConferenceContents). unwrap_or (option_map (λ c. c.slots) c) []) (slice_get-map outline b.conferences place) ∙ slots_there (slice_get b.conferences place)

pub outline_count : (b : Board) (place : ℕ) → length (slots_in (board_outline b) place) ≡ length (slots_in b place)
outline_count b place = ap length (outline_slots b place) ∙ length-map (slots_in b place) slot_outline

pub outline_message : (b : Board) (place number : ℕ) → message_at (board_outline b) place number ≡ option_map message_outline (message_at b place number)
outline_message b place number =
    ap (λ (slots : List Slot). held_in (numbered slots number)) (outline_slots b place)
    ∙ (ap held_in (outline_numbered (slots_in b place) number) ∙ held_outline (numbered (slots_in b place) number))

-- ---- what is seen
allowed_outline : (l : Ledger) (place : ℕ) (u : Option User) (m : Option Message) → is_allowed l place u (option_map message_outline m) ≡ is_allowed l place u m
allowed_outline l place None m = refl
allowed_outline l place (Some u) None = refl
allowed_outline l place (Some u) (Some m) = refl

pub outline_sees : (b : Board) (id place number : ℕ) → sees (board_outline b) id place number ≡ sees b id place number
unfolding sees
outline_sees b id place number =
    let live = ap (has_live number) (outline_slots b place) ∙ outline_has_live (slots_in b place) number in
    let allowed = ap (is_allowed b.ledger place (user_of id b)) (outline_message b place number) ∙ allowed_outline b.ledger place (user_of id b) (message_at b place number) in
    λ i. live i && allowed i

-- ---- what is offered
new_outline : (b : Board) (id : ℕ) (m : OfferedMessage) → is_new (board_outline b) id m ≡ is_new b id m
new_outline b id m = λ i. is_above (outline_pointer b m.place id i) m.number && outline_sees b id m.place m.number i

numbers_outline : (b : Board) (place : ℕ) → numbers_in (board_outline b) place ≡ numbers_in b place
numbers_outline b place = ap (λ count. map (λ number. record { place = place; number = number }) (range_with_len 1 count)) (outline_count b place)

all_outline : (b : Board) → all_numbers (board_outline b) ≡ all_numbers b
all_outline b = λ i. flat_map (λ place. numbers_outline b place i) (range_with_len 0 (length-map b.conferences outline i))

pub outline_offered : (b : Board) (id limit : ℕ) → offered (board_outline b) id limit ≡ offered b id limit
unfolding offered
outline_offered b id limit = λ i. take limit (filter (λ m. new_outline b id m i) (all_outline b i))

pub outline_highs : (b : Board) (messages : List OfferedMessage) → highs (board_outline b) messages ≡ highs b messages
unfolding highs
outline_highs b messages = ap (λ count. map (high_of messages) (range_with_len 0 count)) (length-map b.conferences outline)

-- ---- what a message answers
-- slots have no body as their outlines have none
bare_outline : (slots : List Slot) → map slot_bare (map slot_outline slots) ≡ map slot_bare slots
bare_outline slots =
    let c : ConferenceContents = record { counter = 0; slots = slots; pointers = [] } in
    let again = base_again (record { shape = record { place = 0; created = 0; kind = Local; readers = [] }; conference = c }) in
    (one_outline (outline c) c (ap (λ (base : Contents). base.conference) again)).slots

link_outline : (slots : List Slot) (number : ℕ) → link_of (map slot_outline slots) number ≡ link_of slots number
link_outline slots number = sym (link_bare (map slot_outline slots) number) ∙ (ap (λ (xs : List Slot). link_of xs number) (bare_outline slots) ∙ link_bare slots number)

link_to : (slots : List Slot) (number : ℕ) → (link_of slots number).to ≡ original slots number
unfolding link_of
link_to slots number = refl

original_outline : (slots : List Slot) (number : ℕ) → original (map slot_outline slots) number ≡ original slots number
original_outline slots number = sym (link_to (map slot_outline slots) number) ∙ (ap (λ (l : Link). l.to) (link_outline slots number) ∙ link_to slots number)

pub outline_original : (b : Board) (place number : ℕ) → original (slots_in (board_outline b) place) number ≡ original (slots_in b place) number
outline_original b place number = ap (λ (slots : List Slot). original slots number) (outline_slots b place) ∙ original_outline (slots_in b place) number

-- ---- what is shown
pub outline_shown : (b : Board) (place number logical : ℕ) (m : Message) → shown_message (board_outline b) place number logical m ≡ shown_message b place number logical m
outline_shown b place number logical m =
    ap (λ answered. in_capitals (with_long (record { header = whole_header (conference_number b place) number answered logical m; lines = shown_lines m.body }))) (outline_original b place number)
