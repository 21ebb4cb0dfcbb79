-- Texts without their line feeds.
use Rattle.std.proofs.Common.{◌≡◌, ℕ, ◌+◌, ◌-◌, ◌<◌, ◌≤◌, Bool, not, eqb, List, [], ◌∷◌, ◌++◌, length, get_or, take, drop, refl, sym, ap, ◌∙◌, arith, length-append, append_assoc, inl, inr}
use Rattle.std.specs.Prelude.{slice_range, slice_index}
use Rattle.std.proofs.lemmas.Bool.{cases_lt}
use Rattle.std.proofs.lemmas.List.{append_cancel_right, take-append-drop, take_more, take_at, drop_at, get_or_append_left, get_or_push}
use Rattle.std.proofs.lemmas.List.Elements.{filter-append}
use Rattle.std.proofs.lemmas.List.Filters.{length-filter_both}
use Rattle.std.proofs.lemmas.List.Folds.{drop_split}
use Rattle.jam_adopt.specs.Bodies.{without_feeds}
use Rattle.jam_adopt.specs.Texts.{AreCounts, AreTexts}
use Rattle.jam_adopt.specs.declared.texts.Texts.{Texts}
use Rattle.jam_adopt.proofs.Stops.{between_front}

abbrev is_kept : ℕ → Bool
is_kept b = not (eqb b 0x0A)

-- no more is kept than there is
pub kept_small : (text : List ℕ) → length (without_feeds text) ≤ length text
kept_small text = omega (arith, length-filter_both is_kept (λ b. not (is_kept b)) (λ b. refl) text)

-- a front, what is between two places, and the rest
front_and_between : (jdt : List ℕ) (from to : ℕ) → from ≤ to → take to jdt ≡ take from jdt ++ slice_range jdt from to
front_and_between jdt from to below =
    append_cancel_right (take to jdt) (take from jdt ++ slice_range jdt from to) (drop to jdt)
    (take-append-drop to jdt
    ∙ (sym (take-append-drop from jdt)
    ∙ (ap (λ xs. take from jdt ++ xs) (drop_split jdt from to below) ∙ sym (append_assoc (take from jdt) (slice_range jdt from to) (drop to jdt)))))

front_count : (jdt : List ℕ) (from to : ℕ) → from ≤ to → length (without_feeds (take to jdt)) ≡ length (without_feeds (take from jdt)) + length (without_feeds (slice_range jdt from to))
front_count jdt from to below =
    ap (λ xs. length (without_feeds xs)) (front_and_between jdt from to below)
    ∙ (ap length (filter-append is_kept (take from jdt) (slice_range jdt from to)) ∙ length-append (without_feeds (take from jdt)) (without_feeds (slice_range jdt from to)))

-- what is kept of the whole, in three parts
kept_parts : (jdt : List ℕ) (from to : ℕ) → from ≤ to → without_feeds jdt ≡ without_feeds (take from jdt) ++ (without_feeds (slice_range jdt from to) ++ without_feeds (drop to jdt))
kept_parts jdt from to below =
    ap without_feeds (sym (take-append-drop from jdt) ∙ ap (λ xs. take from jdt ++ xs) (drop_split jdt from to below))
    ∙ (filter-append is_kept (take from jdt) (slice_range jdt from to ++ drop to jdt)
    ∙ ap (λ xs. without_feeds (take from jdt) ++ xs) (filter-append is_kept (slice_range jdt from to) (drop to jdt)))

-- a text without line feeds is found by the counts at its places
pub text_between : (jdt : List ℕ) (from to : ℕ) → from ≤ to → slice_range (without_feeds jdt) (length (without_feeds (take from jdt))) (length (without_feeds (take to jdt))) ≡ without_feeds (slice_range jdt from to)
text_between jdt from to below =
    let front : List ℕ = without_feeds (take from jdt) in
    let text : List ℕ = without_feeds (slice_range jdt from to) in
    let rest : List ℕ = without_feeds (drop to jdt) in
    let count : length (without_feeds (take to jdt)) ≡ length front + length text = front_count jdt from to below in
    let parts : without_feeds jdt ≡ front ++ (text ++ rest) = kept_parts jdt from to below in
    let within : length (without_feeds (take to jdt)) ≤ length (without_feeds jdt) = omega (arith, ap length parts, length-append front (text ++ rest), length-append text rest, count) in
    between_front (without_feeds jdt) (length front) (length (without_feeds (take to jdt))) (omega (arith, count)) within
    ∙ (ap (λ xs. take (length (without_feeds (take to jdt)) - length front) xs) (ap (drop (length front)) parts ∙ drop_at front (text ++ rest) (length front) refl)
    ∙ take_at text rest (length (without_feeds (take to jdt)) - length front) (omega (arith, count)))

-- one byte more
pub kept_more : (jdt kept new : List ℕ) (i b : ℕ) → i < length jdt → get_or jdt i 0 ≡ b → kept ≡ without_feeds (take i jdt) → new ≡ kept ++ without_feeds (b ∷ []) → new ≡ without_feeds (take (i + 1) jdt)
kept_more jdt kept new i b within here so_far added =
    added
    ∙ (ap (λ xs. xs ++ without_feeds (b ∷ [])) so_far
    ∙ (sym (filter-append is_kept (take i jdt) (b ∷ [])) ∙ sym (ap without_feeds (take_more jdt i 0 within ∙ ap (λ x. take i jdt ++ x ∷ []) here))))

-- one count more
pub one_count_more : (jdt counts new : List ℕ) (n : ℕ) → AreCounts jdt counts → n ≡ length (without_feeds (take (length counts) jdt)) → new ≡ counts ++ n ∷ [] → AreCounts jdt new
one_count_more jdt counts new n each is added k within = elim (cases_lt k (length counts)) [
  | inl before ↦ ap (λ xs. slice_index xs k) added ∙ (get_or_append_left counts (n ∷ []) 0 k before ∙ each k before)
  | inr behind ↦
      let last : k ≡ length counts = omega (arith, within, ap length added, length-append counts (n ∷ [])) in
      ap (λ xs. slice_index xs k) added ∙ (get_or_push counts n 0 k (sym last) ∙ (is ∙ ap (λ m. length (without_feeds (take m jdt))) (sym last)))
]

-- ---- by the counts
pub counts_rise : (jdt : List ℕ) (texts : Texts) (from to : ℕ) → AreTexts jdt texts → from ≤ to → to ≤ length jdt → (slice_index texts.counts.items from ≤ slice_index texts.counts.items to) × (slice_index texts.counts.items to ≤ length texts.kept.items)
counts_rise jdt texts from to t below within =
    let count = t.count in
    let first = t.each from (omega arith) in
    let last = t.each to (omega arith) in
    let parts = kept_parts jdt from to below in
    let front : List ℕ = without_feeds (take from jdt) in
    let text : List ℕ = without_feeds (slice_range jdt from to) in
    let rest : List ℕ = without_feeds (drop to jdt) in
    (omega (arith, first, last, front_count jdt from to below), omega (arith, last, front_count jdt from to below, ap length parts, ap length t.kept, length-append front (text ++ rest), length-append text rest))

pub text_found : (jdt : List ℕ) (texts : Texts) (from to : ℕ) → AreTexts jdt texts → from ≤ to → to ≤ length jdt → slice_range texts.kept.items (slice_index texts.counts.items from) (slice_index texts.counts.items to) ≡ without_feeds (slice_range jdt from to)
text_found jdt texts from to t below within =
    let count = t.count in
    ap (λ xs. slice_range xs (slice_index texts.counts.items from) (slice_index texts.counts.items to)) t.kept
    ∙ (ap (λ n. slice_range (without_feeds jdt) n (slice_index texts.counts.items to)) (t.each from (omega arith))
    ∙ (ap (λ n. slice_range (without_feeds jdt) (length (without_feeds (take from jdt))) n) (t.each to (omega arith)) ∙ text_between jdt from to below))
