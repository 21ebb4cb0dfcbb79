-- The slots that each conference has with the posts of a sample, and the refusals that they give.
use Rattle.std.proofs.Common.{◌≡◌, ℕ, zero, suc, ◌+◌, ◌<◌, ◌≤◌, Bool, true, false, cond, ltb, List, [], ◌∷◌, length, map, drop, get_or, refl, sym, ◌∙◌, ap, arith}
use Rattle.std.specs.Prelude.{Some, None}
use Rattle.std.proofs.lemmas.Bool.{cond-false, cond-true, le-ltb, lt-ltb, ltb-false}
use Rattle.std.proofs.lemmas.List.{drop_all, drop_more, length-map}
use Rattle.post_changes.proofs.board_changes.OneBase.{conferences_back}
use Rattle.post_changes.specs.board_changes.Changed.{base_at}
use Rattle.cmd_board.specs.Enroll.{first_refusal}
use Rattle.board_layout.specs.Board.{Board, conferences_in, shapes_of}
use Rattle.board_layout.specs.Renewed.{contents_of}
use Rattle.board_layout.specs.Valid.{IsBoard}
use Rattle.board_layout.specs.jam_base.Contents.{Contents}
use Rattle.jam_layout.specs.Limits.{slot_limit}
use Rattle.jam_layout.specs.declared.conference.ConferenceContents.{ConferenceContents}
use Rattle.jam_records.specs.declared.message.Message.{Message}
use Rattle.board_layout.proofs.BoardLookups.{base_slots}
use Rattle.board_layout.specs.Lookups.{slots_in}
use Rattle.packet_verdicts.proofs.Spreading.{as_many, slots_at, spread_count}
use Rattle.post_changes.specs.Posted.{all_posted, posts_in, spread}
use Rattle.cmd_messages.specs.Sample.{slot_counts, slots_case}
use Rattle.cmd_board.specs.shelf_files.declared.refusal.Refusal.TheVariants.{Slots}

-- ---- counts
count_at : (conferences : List ConferenceContents) (place : ℕ) → place < length conferences → get_or (map (λ (c : ConferenceContents). length c.slots) conferences) place 0 ≡ length (slots_at conferences place)
count_at [] place within = absurd (omega (arith, within))
count_at (c ∷ conferences) zero within = refl
count_at (c ∷ conferences) (suc place) within = count_at conferences place (omega (arith, within))

posted_count : (b : Board) (posts : List (ℕ × Message)) (first : ℕ) (bases : List Contents) → length (all_posted b posts first bases) ≡ length bases
posted_count b posts first [] = refl
posted_count b posts first (base ∷ bases) = ap suc (posted_count b posts (first + 1) bases)

module _ (b : Board) (posts : List (ℕ × Message)) (ok : IsBoard b) where
  pub counts_length : length (slot_counts (spread posts b)) ≡ length (contents_of b)
  counts_length =
      length-map (conferences_in (all_posted b posts 0 (contents_of b))) (λ (c : ConferenceContents). length c.slots)
      ∙ (length-map (all_posted b posts 0 (contents_of b)) (λ (base : Contents). base.conference) ∙ posted_count b posts 0 (contents_of b))

  pub count_is : (place : ℕ) → place < length b.ledger.setup.conferences → get_or (slot_counts (spread posts b)) place 0 ≡ length (slots_in b place) + length (posts_in place posts)
  count_is place within =
      count_at (spread posts b).conferences place
      (omega (arith, within, as_many b ok, posted_count b posts 0 (contents_of b), length-map (all_posted b posts 0 (contents_of b)) (λ (base : Contents). base.conference)))
      ∙ spread_count b posts place ok within

  -- the slots of a base, and its posts
  pub slots_here : (place : ℕ) (base : Contents) (kept posted : ℕ) → base_at place b ≡ Some base → kept ≡ length base.conference.slots → posted ≡ length (posts_in place posts) → place < length b.ledger.setup.conferences
      → kept + posted ≡ get_or (slot_counts (spread posts b)) place 0
  slots_here place base kept posted here kept_is posted_is within =
      let slots : base.conference.slots ≡ slots_in b place = base_slots b (contents_of b) place base (conferences_back (shapes_of b.ledger) b.conferences ok.conferences) here in
      omega (arith, kept_is, posted_is, count_is place within, ap length slots)

-- ---- refusals
past : (slots : ℕ) (others : List ℕ) → slot_limit < slots → first_refusal (map slots_case (slots ∷ others)) ≡ Some (Slots slots)
past slots others high = cond-true (ltb slot_limit slots) (Some (Slots slots)) (first_refusal (map slots_case others)) (lt-ltb slot_limit slots high)

within_limit : (slots : ℕ) (others : List ℕ) → slots ≤ slot_limit → first_refusal (map slots_case (slots ∷ others)) ≡ first_refusal (map slots_case others)
within_limit slots others low = cond-false (ltb slot_limit slots) (Some (Slots slots)) (first_refusal (map slots_case others)) (le-ltb slot_limit slots low)

-- the counts from a place on refuse what all do
pub Refuse : List ℕ → ℕ → Type 0
Refuse counts place = first_refusal (map slots_case (drop place counts)) ≡ first_refusal (map slots_case counts)

pub all_refuse : (counts : List ℕ) → Refuse counts 0
unfolding Refuse
all_refuse counts = refl

pub first_past : (counts : List ℕ) (place slots : ℕ) → Refuse counts place → place < length counts → slots ≡ get_or counts place 0 → slot_limit < slots → Some (Slots slots) ≡ first_refusal (map slots_case counts)
unfolding Refuse
first_past counts place slots so_far within is high =
    let here : drop place counts ≡ slots ∷ drop (place + 1) counts = drop_more counts place 0 within ∙ ap (λ (n : ℕ). n ∷ drop (place + 1) counts) (sym is) in
    sym (past slots (drop (place + 1) counts) high) ∙ (ap (λ (ns : List ℕ). first_refusal (map slots_case ns)) (sym here) ∙ so_far)

pub refuse_more : (counts : List ℕ) (place slots : ℕ) → Refuse counts place → place < length counts → slots ≡ get_or counts place 0 → slots ≤ slot_limit → Refuse counts (place + 1)
unfolding Refuse
refuse_more counts place slots so_far within is low =
    let here : drop place counts ≡ slots ∷ drop (place + 1) counts = drop_more counts place 0 within ∙ ap (λ (n : ℕ). n ∷ drop (place + 1) counts) (sym is) in
    sym (within_limit slots (drop (place + 1) counts) low) ∙ (ap (λ (ns : List ℕ). first_refusal (map slots_case ns)) (sym here) ∙ so_far)

pub none_past : (counts : List ℕ) (place : ℕ) → Refuse counts place → length counts ≤ place → None ≡ first_refusal (map slots_case counts)
unfolding Refuse
none_past counts place so_far end = ap (λ (ns : List ℕ). first_refusal (map slots_case ns)) (sym (drop_all place counts end)) ∙ so_far

-- ---- what no refusal says
pub counts_small : (counts : List ℕ) → first_refusal (map slots_case counts) ≡ None → (place : ℕ) → place < length counts → get_or counts place 0 ≤ slot_limit
counts_small [] none place inside = absurd (omega (arith, inside))
counts_small (slots ∷ counts) none place inside = by (ltb slot_limit slots) refl none place inside (counts_small counts)
  where
    by : (high : Bool) → ltb slot_limit slots ≡ high → cond high (Some (Slots slots)) (first_refusal (map slots_case counts)) ≡ None → (place : ℕ) → place < length (slots ∷ counts)
        → (first_refusal (map slots_case counts) ≡ None → (k : ℕ) → k < length counts → get_or counts k 0 ≤ slot_limit) → get_or (slots ∷ counts) place 0 ≤ slot_limit
    by true is e place inside others = absurd (cc e)
    by false is e zero inside others = ltb-false slot_limit slots is
    by false is e (suc place) inside others = others e place (omega (arith, inside))

pub slots_small : (b : Board) (posts : List (ℕ × Message)) → IsBoard b → first_refusal (map slots_case (slot_counts (spread posts b))) ≡ None → (place : ℕ) → place < length b.ledger.setup.conferences → length (slots_in (spread posts b) place) ≤ slot_limit
slots_small b posts ok none place within =
    omega (arith, counts_small (slot_counts (spread posts b)) none place (omega (arith, within, counts_length b posts ok, as_many b ok)), count_is b posts ok place within, spread_count b posts place ok within)
