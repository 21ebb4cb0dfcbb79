-- A pack of boards with one outline, and the slots that it leaves, once their bodies were fetched.
use Rattle.std.proofs.Common.{◌≡◌, ◌≢◌, ℕ, Bool, List, [], ◌∷◌, length, map, set, cond, eqb, Option, Some, None, refl, sym, ap, ◌∙◌, subst, arith}
use Rattle.std.specs.Prelude.{All, option_map, unwrap_or}
use Rattle.std.specs.Option.{option_map_or}
use Rattle.std.proofs.lemmas.Bool.{cond-true, eq-eqb}
use Rattle.std.proofs.lemmas.List.{length-map, set-get_or}
use Rattle.std.proofs.lemmas.List.Sums.{sum_by-cons}
use Rattle.std.proofs.lemmas.Option.{get_or_from_slice_get}
use Rattle.slot_changes.proofs.board_changes.OneBase.{base_was, conferences_back}
use Rattle.slot_changes.specs.board_changes.Changed.{base_at, with_base}
use Rattle.board_layout.proofs.OneOutline.{alike_base_size, conference_back}
use Rattle.board_layout.specs.Board.{Board, conferences_in, shapes_of}
use Rattle.board_layout.specs.Outlines.{HasBody, board_outline}
use Rattle.board_layout.specs.Renewed.{contents_of}
use Rattle.board_layout.specs.Valid.{IsBoard}
use Rattle.board_layout.specs.jam_base.Contents.{Contents, with_slots}
use Rattle.board_layout.specs.jam_base.Outlined.{outlined}
use Rattle.jam_layout.proofs.OutlineLaws.{conference_outline}
use Rattle.jam_layout.specs.Outlines.{slot_outline}
use Rattle.jam_layout.specs.Valid.{IsConference}
use Rattle.jam_records.specs.declared.message.Slot.{Slot}
use Rattle.jam_records.specs.declared.message.Slot.TheVariants.{Gone, Held}
use Rattle.mail_board.proofs.EachBases.{changed_base, places_alike}
use Rattle.mail_board.specs.Held.{AreAlike}
use Rattle.board_layout.proofs.BoardLookups.{base_slots}
use Rattle.board_layout.specs.Lookups.{slots_in}
use Rattle.slot_changes.proofs.PackLaws.{packed_fits, packed_replaced, same_length, slots_valid}
use Rattle.slot_changes.proofs.ReplaceLaws.{many_back, replaced_board, replaced_size}
use Rattle.slot_changes.specs.Packed.{FitsSlots, deleted_count, is_deleted, packed, packed_count, replaced, slots_packed, with_packed}

-- ---- an outline has the marks
one_deleted : (s : Slot) → is_deleted (slot_outline s) ≡ is_deleted s
one_deleted Gone = refl
one_deleted (Held m) = refl

deleted_outline : (slots : List Slot) → deleted_count (map slot_outline slots) ≡ deleted_count slots
deleted_outline [] = refl
deleted_outline (s ∷ slots) = omega (
  arith,
  sum_by-cons (λ (x : Slot). cond (is_deleted x) 1 0) (slot_outline s) (map slot_outline slots),
  sum_by-cons (λ (x : Slot). cond (is_deleted x) 1 0) s slots,
  ap (λ (d : Bool). cond {A = ℕ} d 1 0) (one_deleted s),
  deleted_outline slots,
)

abbrev counted : Option Contents → ℕ
counted o = option_map_or (λ (base : Contents). deleted_count base.conference.slots) o 0

pub count_alike : (a b : Board) → AreAlike a b → (place : ℕ) → packed_count place a ≡ packed_count place b
count_alike a b alike place = by (base_at place a) (base_at place b) (places_alike a b alike place)
  where
    by : (o p : Option Contents) → option_map outlined o ≡ option_map outlined p → counted o ≡ counted p
    by None None same = refl
    by None (Some y) same = absurd (cc same)
    by (Some x) None same = absurd (cc same)
    by (Some x) (Some y) same =
        let one : outlined x ≡ outlined y = ap (λ (o : Option Contents). unwrap_or o (outlined x)) same in
        sym (deleted_outline x.conference.slots) ∙ (ap (λ (c : Contents). deleted_count c.conference.slots) one ∙ deleted_outline y.conference.slots)

-- ---- the base of the place
-- where no slot holds a deleted message, the board stays
pub packed_stays : (b : Board) (place : ℕ) → IsBoard b → packed_count place b ≡ 0 → packed place b ≡ b
packed_stays b place ok none = by (base_at place b) refl none
  where
    by : (o : Option Contents) → base_at place b ≡ o → counted o ≡ 0 → with_base place (option_map with_packed o) b ≡ b
    by None here none = refl
    by (Some base) here none =
        let bases : List Contents = contents_of b in
        let same : with_packed base ≡ base = cond-true (eqb (deleted_count base.conference.slots) 0) base (with_slots (slots_packed base.conference.slots) base) (eq-eqb (deleted_count base.conference.slots) 0 none) in
        let back : set bases place base ≡ bases = ap (set bases place) (sym (get_or_from_slice_get bases place base base here)) ∙ set-get_or bases place base in
        let conferences : conferences_in (set bases place base) ≡ b.conferences = ap conferences_in back ∙ conferences_back (shapes_of b.ledger) b.conferences ok.conferences in
        ap (λ (c : Contents). with_base place (Some c) b) same ∙ (λ i. record { ledger = b.ledger; conferences = conferences i })

-- where a slot holds a deleted message, there is one
pub base_of_some : (b : Board) (place : ℕ) → packed_count place b ≢ 0 → (base : Contents) × (base_at place b ≡ Some base) × (deleted_count base.conference.slots ≢ 0)
base_of_some b place some = by (base_at place b) refl some
  where
    by : (o : Option Contents) → base_at place b ≡ o → counted o ≢ 0 → (base : Contents) × (base_at place b ≡ Some base) × (deleted_count base.conference.slots ≢ 0)
    by None here some = absurd (some refl)
    by (Some base) here some = (base, here, some)

module _ (b : Board) (place : ℕ) (ok : IsBoard b) (some : packed_count place b ≢ 0) where
  there : (base : Contents) × (base_at place b ≡ Some base) × (deleted_count base.conference.slots ≢ 0)
  there = base_of_some b place some

  slots_are : slots_in b place ≡ there.0.conference.slots
  slots_are = sym (base_slots b (contents_of b) place there.0 (conferences_back (shapes_of b.ledger) b.conferences ok.conferences) there.1)

  pub packed_is : packed place b ≡ replaced place (slots_packed (slots_in b place)) b
  packed_is = packed_replaced b place there.0 there.1 there.2 ∙ ap (λ (slots : List Slot). replaced place (slots_packed slots) b) (sym slots_are)

  -- ---- slots that have the outline of those, and bodies
  module _ (slots : List Slot) (same : map slot_outline slots ≡ map slot_outline (slots_packed (slots_in b place))) (bodies : All HasBody slots) where
    kept : List Slot
    kept = slots_packed there.0.conference.slots

    like : map slot_outline slots ≡ map slot_outline kept
    unfolding kept
    like = same ∙ ap (λ (xs : List Slot). map slot_outline (slots_packed xs)) slots_are

    many : length there.0.conference.slots ≡ length slots
    unfolding kept
    many = sym (sym (length-map slots slot_outline) ∙ (ap (length {A = Slot}) like ∙ (length-map kept slot_outline ∙ same_length there.0.conference.slots)))

    bases_like : outlined (with_slots slots there.0) ≡ outlined (with_slots kept there.0)
    bases_like = ap (λ (xs : List Slot). with_slots xs (outlined there.0)) like

    conference : IsConference there.0.shape (with_slots slots there.0).conference
    unfolding kept
    conference =
        let was = base_was b place there.0 there.0 ok there.1 refl in
        conference_back there.0.shape (with_slots slots there.0).conference
        (subst (λ (c : Contents). IsConference there.0.shape c.conference) (sym bases_like) (conference_outline there.0.shape (with_slots kept there.0).conference (slots_valid there.0 was)))
        bodies

    pub fetched_fit : FitsSlots place slots b
    unfolding kept
    fetched_fit =
        let small = (packed_fits b place there.0 there.1 there.2 ok).1.small in (
          many_back b place slots there.0 ok there.1 many,
          replaced_board b place slots there.0 ok there.1 conference many
              (omega (
                arith,
                small,
                replaced_size b place slots there.0 ok there.1,
                replaced_size b place kept there.0 ok there.1,
                alike_base_size (with_slots slots there.0) (with_slots kept there.0) bases_like,
              )),
        )

    pub fetched_alike : AreAlike (replaced place slots b) (packed place b)
    fetched_alike =
        changed_base b b refl place (with_slots slots) (with_slots (slots_packed (slots_in b place))) (λ x y alike. λ i. with_slots (same i) (alike i))
        ∙ ap board_outline (sym packed_is)

-- the slots that were fetched of the board that a host holds make its pack, where the board with its outline has such a slot
pub fetched_next : (held b : Board) → AreAlike b held → IsBoard b → (place : ℕ) → packed_count place held ≢ 0 → (slots : List Slot) → slots ≡ slots_packed (slots_in b place) → replaced place slots b ≡ packed place b
fetched_next held b alike ok place some slots are =
    ap (λ (xs : List Slot). replaced place xs b) are ∙ sym (packed_is b place ok (λ none. some (sym (count_alike b held alike place) ∙ none)))
