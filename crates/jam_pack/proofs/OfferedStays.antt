-- What is offered to a user is the same before and after a pack, whatever the limit.
use Rattle.std.proofs.Common.{◌≡◌, ℕ, zero, suc, Bool, ◌&&◌, List, [], ◌∷◌, length, map, set, take, Option, Some, None, refl, sym, ap, ◌∙◌, subst}
use Rattle.std.specs.Prelude.{filter, flat_map, option_and_then, option_map, slice_get, unwrap_or}
use Rattle.std.specs.List.{AllZip, range_with_len}
use Rattle.std.proofs.lemmas.List.{length-map, length-set}
use Rattle.std.proofs.lemmas.Option.{same_Some}
use Rattle.slot_changes.proofs.board_changes.OneBase.{conferences_back, contents_next}
use Rattle.slot_changes.specs.board_changes.Changed.{base_at, with_base}
use Rattle.board_layout.specs.Board.{Board, conferences_in, shapes_of}
use Rattle.board_layout.specs.Lookups.{held_in, pointer_at, user_of, slots_in}
use Rattle.board_layout.specs.Renewed.{contents_of}
use Rattle.board_layout.specs.Valid.{IsBoard}
use Rattle.board_ledger.specs.declared.ledger.Ledger.{Ledger}
use Rattle.board_ledger.specs.declared.user.User.{User}
use Rattle.board_layout.specs.jam_base.Contents.{Contents, pointer_of}
use Rattle.board_layout.specs.jam_base.Slots.{numbered}
use Rattle.jam_layout.specs.Conference.{is_live}
use Rattle.jam_layout.specs.declared.conference.ConferenceContents.{ConferenceContents}
use Rattle.jam_records.specs.declared.message.Slot.{Slot}
use Rattle.offered_packets.specs.Offered.{all_numbers, is_above, is_new, numbers_in, offered}
use Rattle.offered_packets.specs.Sees.{is_allowed, sees}
use Rattle.offered_packets.specs.declared.offered_message.OfferedMessage.{OfferedMessage}
use Rattle.slot_changes.proofs.PackLaws.{packed_pointers, packed_shape, packed_slots, same_length}
use Rattle.slot_changes.specs.Packed.{packed, with_packed}
use Rattle.jam_pack.proofs.PackedSlots.{live_packed, numbered_packed}

-- ---- one base and the packed one, as far as an offer asks
-- the message of a number is live, and the user may see it
abbrev pub seen_in : Ledger → ℕ → Option User → ℕ → List Slot → Bool
seen_in l place u number slots = is_live (numbered slots number) && is_allowed l place u (held_in (numbered slots number))

pub record IsPacked (old new : Contents) : Type 0 where
  shape : new.shape ≡ old.shape
  pointers : new.conference.pointers ≡ old.conference.pointers
  count : length new.conference.slots ≡ length old.conference.slots
  seen : (l : Ledger) (place : ℕ) (u : Option User) (number : ℕ) → seen_in l place u number new.conference.slots ≡ seen_in l place u number old.conference.slots

itself : (base : Contents) → IsPacked base base
itself base = record { shape = refl; pointers = refl; count = refl; seen = λ l place u number. refl }

once_packed : (base : Contents) → IsPacked base (with_packed base)
once_packed base = record {
  shape = packed_shape base;
  pointers = packed_pointers base;
  count = ap length (packed_slots base) ∙ same_length base.conference.slots;
  seen = λ l place u number.
      ap (seen_in l place u number) (packed_slots base)
      ∙ (ap (λ (s : Slot). is_live s && is_allowed l place u (held_in s)) (numbered_packed base.conference.slots number)
      ∙ live_packed (λ (s : Slot). is_allowed l place u (held_in s)) (numbered base.conference.slots number));
}

-- ---- the bases of a board
all_themselves : (bases : List Contents) → AllZip IsPacked bases bases
all_themselves [] = tt
all_themselves (x ∷ bases) = (itself x, all_themselves bases)

one_packed : (bases : List Contents) (place : ℕ) (x : Contents) → slice_get bases place ≡ Some x → AllZip IsPacked bases (set bases place (with_packed x))
one_packed [] place x here = tt
one_packed (y ∷ bases) zero x here = (subst (λ (z : Contents). IsPacked z (with_packed x)) (sym (same_Some y x here)) (once_packed x), all_themselves bases)
one_packed (y ∷ bases) (suc place) x here = (itself y, one_packed bases place x here)

abbrev slots_at : List ConferenceContents → ℕ → List Slot
slots_at conferences place = unwrap_or (option_map (λ (c : ConferenceContents). c.slots) (slice_get conferences place)) []

count_at : (xs ys : List Contents) (place : ℕ) → AllZip IsPacked xs ys → length (slots_at (conferences_in ys) place) ≡ length (slots_at (conferences_in xs) place)
count_at [] [] place zip = refl
count_at [] (y ∷ ys) place zip = absurd zip
count_at (x ∷ xs) [] place zip = absurd zip
count_at (x ∷ xs) (y ∷ ys) zero zip = let one = zip.0 in one.count
count_at (x ∷ xs) (y ∷ ys) (suc place) zip = count_at xs ys place zip.1

seen_at : (l : Ledger) (where_is : ℕ) (u : Option User) (number : ℕ) (xs ys : List Contents) (place : ℕ) → AllZip IsPacked xs ys
    → seen_in l where_is u number (slots_at (conferences_in ys) place) ≡ seen_in l where_is u number (slots_at (conferences_in xs) place)
seen_at l where_is u number [] [] place zip = refl
seen_at l where_is u number [] (y ∷ ys) place zip = absurd zip
seen_at l where_is u number (x ∷ xs) [] place zip = absurd zip
seen_at l where_is u number (x ∷ xs) (y ∷ ys) zero zip = let one = zip.0 in one.seen l where_is u number
seen_at l where_is u number (x ∷ xs) (y ∷ ys) (suc place) zip = seen_at l where_is u number xs ys place zip.1

abbrev pointer_in : ℕ → Contents → Option ℕ
pointer_in id base = pointer_of id base.shape.readers base.conference.pointers

same_pointer : (id : ℕ) (x y : Contents) → IsPacked x y → pointer_in id y ≡ pointer_in id x
same_pointer id x y one = λ i. pointer_of id (one.shape i).readers (one.pointers i)

pointers_at : (id : ℕ) (xs ys : List Contents) (place : ℕ) → AllZip IsPacked xs ys → option_and_then (pointer_in id) (slice_get ys place) ≡ option_and_then (pointer_in id) (slice_get xs place)
pointers_at id [] [] place zip = refl
pointers_at id [] (y ∷ ys) place zip = absurd zip
pointers_at id (x ∷ xs) [] place zip = absurd zip
pointers_at id (x ∷ xs) (y ∷ ys) zero zip = same_pointer id x y zip.0
pointers_at id (x ∷ xs) (y ∷ ys) (suc place) zip = pointers_at id xs ys place zip.1

-- ---- two boards with one ledger whose bases are so
module _ (b c : Board) (ledger : c.ledger ≡ b.ledger) (was : conferences_in (contents_of b) ≡ b.conferences) (is : conferences_in (contents_of c) ≡ c.conferences) (zip : AllZip IsPacked (contents_of b) (contents_of c)) where
  same_count : (place : ℕ) → length (slots_in c place) ≡ length (slots_in b place)
  same_count place =
      ap (λ (cs : List ConferenceContents). length (slots_at cs place)) (sym is)
      ∙ (count_at (contents_of b) (contents_of c) place zip ∙ ap (λ (cs : List ConferenceContents). length (slots_at cs place)) was)

  same_sight : (id place number : ℕ) → sees c id place number ≡ sees b id place number
  unfolding sees
  same_sight id place number =
      (λ i. seen_in (ledger i) place (user_of id (record { ledger = ledger i; conferences = c.conferences })) number (slots_at (sym is i) place))
      ∙ (seen_at b.ledger place (user_of id b) number (contents_of b) (contents_of c) place zip
      ∙ ap (λ (cs : List ConferenceContents). seen_in b.ledger place (user_of id b) number (slots_at cs place)) was)

  same_place : (id place : ℕ) → pointer_at place id c ≡ pointer_at place id b
  same_place id place = pointers_at id (contents_of b) (contents_of c) place zip

  same_new : (id : ℕ) (m : OfferedMessage) → is_new c id m ≡ is_new b id m
  same_new id m = λ i. is_above (same_place id m.place i) m.number && same_sight id m.place m.number i

  same_numbers : (place : ℕ) → numbers_in c place ≡ numbers_in b place
  same_numbers place = ap (λ (count : ℕ). map (λ number. record { place = place; number = number }) (range_with_len 1 count)) (same_count place)

  pub same_offered : length c.conferences ≡ length b.conferences → (id limit : ℕ) → offered c id limit ≡ offered b id limit
  unfolding offered
  same_offered places id limit =
      let all : all_numbers c ≡ all_numbers b = λ i. flat_map (λ place. same_numbers place i) (range_with_len 0 (places i)) in
      λ i. take limit (filter (λ m. same_new id m i) (all i))

-- ---- the law
pub offered_stays : (b : Board) (place user limit : ℕ) → IsBoard b → offered (packed place b) user limit ≡ offered b user limit
offered_stays b place user limit ok = by (base_at place b) refl
  where
    by : (o : Option Contents) → base_at place b ≡ o → offered (with_base place (option_map with_packed o) b) user limit ≡ offered b user limit
    by None here = refl
    by (Some base) here =
        let bases : List Contents = set (contents_of b) place (with_packed base) in
        let are : contents_of (with_base place (Some (with_packed base)) b) ≡ bases = contents_next b place base (with_packed base) ok here (packed_shape base) in
        let was : conferences_in (contents_of b) ≡ b.conferences = conferences_back (shapes_of b.ledger) b.conferences ok.conferences in
        same_offered b (with_base place (Some (with_packed base)) b) refl was (ap conferences_in are)
        (subst (AllZip IsPacked (contents_of b)) (sym are) (one_packed (contents_of b) place base here))
        (length-map bases (λ (x : Contents). x.conference) ∙ (length-set (contents_of b) place (with_packed base) ∙ (sym (length-map (contents_of b) (λ (x : Contents). x.conference)) ∙ ap (length {A = ConferenceContents}) was)))
        user limit
