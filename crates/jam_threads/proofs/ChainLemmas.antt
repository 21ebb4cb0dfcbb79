-- What is kept of a list of slots, once a slot is added.
use Rattle.std.proofs.Common.{◌≡◌, ℕ, suc, ◌-◌, ◌<◌, ◌≤◌, List, [], ◌∷◌, ◌++◌, length, length-set, get_or, set, sym, ap, ◌∙◌, arith, subst, inl, inr, Some}
use Rattle.std.proofs.lemmas.Bool.{cases_lt, cases_eq}
use Rattle.std.proofs.lemmas.List.{get_or_append_left, get_or_push, get_or-set_same, get_or-set_other}
use Rattle.jam_records.specs.declared.message.Slot.{Slot}
use Rattle.jam_threads.specs.Children.{slot_original, children}
use Rattle.jam_threads.specs.Links.{link_of}
use Rattle.jam_threads.specs.Chains.{last_in, hung, AreChains}
use Rattle.jam_threads.specs.declared.link.Link.{Link}
use Rattle.jam_threads.proofs.ChildrenLemmas.{length-push, slot_original-le, link_same, link_hung, link_new, last_new, last_same, last_none, last-le, hung_apart}

-- the links of a new message, before it is hung
abbrev fresh : ℕ → Link
fresh original = record { to = original; first = 0; next = 0 }

link_of_new : (slots : List Slot) (s : Slot) (place : ℕ) → place ≡ length slots → link_of (slots ++ s ∷ []) (suc place) ≡ fresh (slot_original slots (Some s))
link_of_new slots s place is = ap (λ k. link_of (slots ++ s ∷ []) (suc k)) is ∙ link_new slots s

last_of_new : (slots : List Slot) (s : Slot) (place : ℕ) → place ≡ length slots → last_in (children (slots ++ s ∷ []) (suc place)) ≡ 0
last_of_new slots s place is =
    last_same slots s (suc place) (λ same. omega (arith, same, slot_original-le slots (Some s))) ∙ last_none slots (suc place) (omega arith)

-- a message that answers none
pub chains_plain : (slots : List Slot) (s : Slot) (links : List Link) (lasts : List ℕ) (o : ℕ) → AreChains slots links lasts → o ≡ slot_original slots (Some s) → o ≡ 0 → AreChains (slots ++ s ∷ []) (links ++ fresh o ∷ []) (lasts ++ 0 ∷ [])
chains_plain slots s links lasts o chains is none =
    let count = chains.count in
    let count_lasts = chains.count_lasts in
    let nothing : slot_original slots (Some s) ≡ 0 = sym is ∙ none in
    record {
      count = omega (arith, count, length-push links (fresh o), length-push slots s);
      count_lasts = omega (arith, count_lasts, length-push lasts 0, length-push slots s);
      link = λ place other within. elim (cases_lt place (length slots)) [
        | inl before ↦ get_or_append_left links (fresh o ∷ []) other place (omega arith) ∙ chains.link place other before ∙ sym (link_same slots s place before nothing)
        | inr behind ↦
            let here : place ≡ length slots = omega (arith, length-push slots s) in
            get_or_push links (fresh o) other place (omega arith) ∙ ap fresh is ∙ sym (link_of_new slots s place here)
      ];
      last = λ place within. elim (cases_lt place (length slots)) [
        | inl before ↦ get_or_append_left lasts (0 ∷ []) 0 place (omega arith) ∙ chains.last place before ∙ sym (last_same slots s (suc place) (λ same. omega (arith, same, nothing)))
        | inr behind ↦
            let here : place ≡ length slots = omega (arith, length-push slots s) in
            get_or_push lasts 0 0 place (omega arith) ∙ sym (last_of_new slots s place here)
      ];
    }

-- a message that answers one
pub chains_hung : (slots : List Slot) (s : Slot) (links : List Link) (lasts : List ℕ) (o n : ℕ) (after_links : List Link) (after_lasts : List ℕ) → AreChains slots links lasts → o ≡ slot_original slots (Some s) → (o ≡ 0 → ⊥) → n ≡ suc (length slots) → length after_links ≡ length (links ++ fresh o ∷ []) → ((place : ℕ) (other : Link) → place < length (links ++ fresh o ∷ []) → get_or after_links place other ≡ hung o n (get_or (lasts ++ 0 ∷ []) (o - 1) 0) place (get_or (links ++ fresh o ∷ []) place other)) → after_lasts ≡ set (lasts ++ 0 ∷ []) (o - 1) n → AreChains (slots ++ s ∷ []) after_links after_lasts
chains_hung slots s links lasts o n after_links after_lasts chains is some number counted hangs written =
    let count = chains.count in
    let count_lasts = chains.count_lasts in
    let so = slot_original slots (Some s) in
    let within_o : o ≤ length slots = omega (arith, is, slot_original-le slots (Some s)) in
    let back : suc (o - 1) ≡ so = omega (arith, is) in
    let previous : get_or (lasts ++ 0 ∷ []) (o - 1) 0 ≡ last_in (children slots so) =
    get_or_append_left lasts (0 ∷ []) 0 (o - 1) (omega arith) ∙ chains.last (o - 1) (omega arith) ∙ ap (λ m. last_in (children slots m)) back in
    let hangs_is : (place : ℕ) (other : Link) → place < length (links ++ fresh o ∷ []) → get_or after_links place other ≡ hung so (suc (length slots)) (last_in (children slots so)) place (get_or (links ++ fresh o ∷ []) place other) =
    λ place other within.
    hangs place other within
    ∙ ap (λ x. hung x n (get_or (lasts ++ 0 ∷ []) (o - 1) 0) place (get_or (links ++ fresh o ∷ []) place other)) is
    ∙ ap (λ x. hung so x (get_or (lasts ++ 0 ∷ []) (o - 1) 0) place (get_or (links ++ fresh o ∷ []) place other)) number
    ∙ ap (λ x. hung so (suc (length slots)) x place (get_or (links ++ fresh o ∷ []) place other)) previous in
    record {
      count = omega (arith, counted, count, length-push links (fresh o), length-push slots s);
      count_lasts = omega (arith, ap length written, length-set (lasts ++ 0 ∷ []) (o - 1) n, count_lasts, length-push lasts 0, length-push slots s);
      link = λ place other within. elim (cases_lt place (length slots)) [
        | inl before ↦
            hangs_is place other (omega (arith, length-push links (fresh o)))
            ∙ ap (hung so (suc (length slots)) (last_in (children slots so)) place) (get_or_append_left links (fresh o ∷ []) other place (omega arith) ∙ chains.link place other before)
            ∙ sym (link_hung slots s place before (λ zero_now. some (is ∙ zero_now)))
        | inr behind ↦
            let here : place ≡ length slots = omega (arith, length-push slots s) in
            hangs_is place other (omega (arith, length-push links (fresh o)))
            ∙ ap (hung so (suc (length slots)) (last_in (children slots so)) place) (get_or_push links (fresh o) other place (omega arith) ∙ ap fresh is)
            ∙ hung_apart so (suc (length slots)) (last_in (children slots so)) place (fresh so) (λ same. omega (arith, same, slot_original-le slots (Some s))) (λ same. omega (arith, same, last-le slots so))
            ∙ sym (link_of_new slots s place here)
      ];
      last = λ place within.
          ap (λ ns. get_or ns place 0) written
          ∙ elim (cases_eq place (o - 1)) [
            | inl same ↦
                ap (λ k. get_or (set (lasts ++ 0 ∷ []) (o - 1) n) k 0) same
                ∙ get_or-set_same (lasts ++ 0 ∷ []) (o - 1) n 0 (omega (arith, length-push lasts 0))
                ∙ number
                ∙ sym (last_new slots s (suc place) (omega (arith, is, same)))
            | inr other ↦
                get_or-set_other (lasts ++ 0 ∷ []) (o - 1) place n 0 other
                ∙ elim (cases_lt place (length slots)) [
                  | inl before ↦ get_or_append_left lasts (0 ∷ []) 0 place (omega arith) ∙ chains.last place before ∙ sym (last_same slots s (suc place) (λ same. other (omega (arith, same, is))))
                  | inr behind ↦
                      let here : place ≡ length slots = omega (arith, length-push slots s) in
                      get_or_push lasts 0 0 place (omega arith) ∙ sym (last_of_new slots s place here)
                ]
          ];
    }

-- the last child so far of the original of a new message
pub last_child_so_far : (slots : List Slot) (links : List Link) (lasts pushed : List ℕ) (o : ℕ) → AreChains slots links lasts → 0 < o → o ≤ length links → pushed ≡ lasts ++ 0 ∷ [] → get_or pushed (o - 1) 0 ≤ length links
last_child_so_far slots links lasts pushed o chains some within push =
    let count = chains.count in
    let count_lasts = chains.count_lasts in
    let found : get_or pushed (o - 1) 0 ≡ last_in (children slots (suc (o - 1))) =
    ap (λ ns. get_or ns (o - 1) 0) push ∙ get_or_append_left lasts (0 ∷ []) 0 (o - 1) (omega arith) ∙ chains.last (o - 1) (omega arith) in
    omega (arith, found, count, last-le slots (suc (o - 1)))

-- the same two steps, of the values that the code has
pub added_plain : (slots after : List Slot) (s : Slot) (links pushed_links : List Link) (lasts pushed_lasts : List ℕ) (o : ℕ) → after ≡ slots ++ s ∷ [] → pushed_links ≡ links ++ fresh o ∷ [] → pushed_lasts ≡ lasts ++ 0 ∷ [] → AreChains slots links lasts → o ≡ slot_original slots (Some s) → o ≡ 0 → AreChains after pushed_links pushed_lasts
added_plain slots after s links pushed_links lasts pushed_lasts o longer push_link push_last chains is none =
    rw (longer, push_link, push_last) (chains_plain slots s links lasts o chains is none)

pub added_hung : (slots after : List Slot) (s : Slot) (links pushed_links after_links : List Link) (lasts pushed_lasts after_lasts : List ℕ) (o n : ℕ) → after ≡ slots ++ s ∷ [] → pushed_links ≡ links ++ fresh o ∷ [] → pushed_lasts ≡ lasts ++ 0 ∷ [] → AreChains slots links lasts → o ≡ slot_original slots (Some s) → (o ≡ 0 → ⊥) → n ≡ suc (length slots) → length after_links ≡ length pushed_links → ((place : ℕ) (other : Link) → place < length pushed_links → get_or after_links place other ≡ hung o n (get_or pushed_lasts (o - 1) 0) place (get_or pushed_links place other)) → after_lasts ≡ set pushed_lasts (o - 1) n → AreChains after after_links after_lasts
added_hung slots after s links pushed_links after_links lasts pushed_lasts after_lasts o n longer push_link push_last chains is some number counted hangs written =
    let hangs_links = subst (λ (xs : List Link). (place : ℕ) (other : Link) → place < length xs → get_or after_links place other ≡ hung o n (get_or pushed_lasts (o - 1) 0) place (get_or xs place other)) push_link hangs in
    let hangs_both = subst (λ (ns : List ℕ). (place : ℕ) (other : Link) → place < length (links ++ fresh o ∷ []) → get_or after_links place other ≡ hung o n (get_or ns (o - 1) 0) place (get_or (links ++ fresh o ∷ []) place other)) push_last hangs_links in
    rw longer (chains_hung slots s links lasts o n after_links after_lasts chains is some number (counted ∙ ap length push_link) hangs_both (written ∙ ap (λ ns. set ns (o - 1) n) push_last))
