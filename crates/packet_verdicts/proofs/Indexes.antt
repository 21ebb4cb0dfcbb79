-- Where the posts of a place stand among all.
use Rattle.std.proofs.Common.{◌≡◌, ℕ, zero, suc, Bool, true, false, cond, eqb, List, [], ◌∷◌, ◌++◌, length, map, refl, sym, ap, ◌∙◌, arith, append_assoc}
use Rattle.std.specs.Prelude.{Option, Some, None, option_map, slice_get}
use Rattle.std.specs.List.{filter}
use Rattle.std.proofs.lemmas.Bool.{eq-eqb}
use Rattle.std.proofs.lemmas.List.{append-nil, length-map, map-append}
use Rattle.std.proofs.lemmas.Option.{slice_get-map}
use Rattle.jam_records.specs.declared.message.Message.{Message}
use Rattle.packet_verdicts.specs.Accepted.{indexes_in}
use Rattle.post_changes.specs.Posted.{posts_in}

pub index_count : (place : ℕ) (posts : List (ℕ × Message)) → length (indexes_in place posts) ≡ length (posts_in place posts)
index_count place [] = refl
index_count place (p ∷ posts) =
    elim (eqb p.0 place) as (λ t. length (cond t (0 ∷ []) [] ++ map suc (indexes_in place posts)) ≡ length (map (λ (q : ℕ × Message). q.1) (cond t (p ∷ filter (λ (q : ℕ × Message). eqb q.0 place) posts) (filter (λ (q : ℕ × Message). eqb q.0 place) posts)))) [
      | true ↦ omega (arith, index_count place posts, length-map (indexes_in place posts) suc)
      | false ↦ omega (arith, index_count place posts, length-map (indexes_in place posts) suc)
    ]

-- what stands at an index, where there is one
abbrev pub at_index : List (ℕ × Message) → Option ℕ → Option Message
at_index posts None = None
at_index posts (Some i) = option_map (λ (p : ℕ × Message). p.1) (slice_get posts i)

behind : (p : ℕ × Message) (posts : List (ℕ × Message)) (o : Option ℕ) → at_index (p ∷ posts) (option_map suc o) ≡ at_index posts o
behind p posts None = refl
behind p posts (Some i) = refl

pub found_at : (place : ℕ) (posts : List (ℕ × Message)) (k : ℕ) → slice_get (posts_in place posts) k ≡ at_index posts (slice_get (indexes_in place posts) k)
found_at place [] k = refl
found_at place (p ∷ posts) k =
    let rest : (j : ℕ) → slice_get (posts_in place posts) j ≡ at_index (p ∷ posts) (slice_get (map suc (indexes_in place posts)) j) =
    λ j. found_at place posts j ∙ (sym (behind p posts (slice_get (indexes_in place posts) j)) ∙ ap (at_index (p ∷ posts)) (sym (slice_get-map suc (indexes_in place posts) j))) in
    elim (eqb p.0 place) as (λ t. slice_get (map (λ (q : ℕ × Message). q.1) (cond t (p ∷ filter (λ (q : ℕ × Message). eqb q.0 place) posts) (filter (λ (q : ℕ × Message). eqb q.0 place) posts))) k ≡ at_index (p ∷ posts) (slice_get (cond t (0 ∷ []) [] ++ map suc (indexes_in place posts)) k)) [
      | true ↦ here p posts place (map suc (indexes_in place posts)) rest k
      | false ↦ rest k
    ]
  where
    here : (p : ℕ × Message) (posts : List (ℕ × Message)) (place : ℕ) (indexes : List ℕ) → ((j : ℕ) → slice_get (posts_in place posts) j ≡ at_index (p ∷ posts) (slice_get indexes j)) → (k : ℕ) → slice_get (p.1 ∷ posts_in place posts) k ≡ at_index (p ∷ posts) (slice_get (0 ∷ indexes) k)
    here p posts place indexes rest zero = refl
    here p posts place indexes rest (suc k) = rest k

-- ---- a post more
one_if : ℕ → Bool → List ℕ
one_if n t = cond t (n ∷ []) []

one_later : (n : ℕ) (t : Bool) → map suc (one_if n t) ≡ one_if (suc n) t
unfolding one_if
one_later n true = refl
one_later n false = refl

indexes_more : (place : ℕ) (posts : List (ℕ × Message)) (p : ℕ × Message) → indexes_in place (posts ++ p ∷ []) ≡ indexes_in place posts ++ one_if (length posts) (eqb p.0 place)
unfolding one_if
indexes_more place [] p = append-nil (cond (eqb p.0 place) (0 ∷ []) [])
indexes_more place (q ∷ posts) p =
    let front : List ℕ = cond (eqb q.0 place) (0 ∷ []) [] in
    ap (λ (xs : List ℕ). front ++ map suc xs) (indexes_more place posts p)
    ∙ (ap (λ (xs : List ℕ). front ++ xs) (map-append suc (indexes_in place posts) (one_if (length posts) (eqb p.0 place)) ∙ ap (λ (xs : List ℕ). map suc (indexes_in place posts) ++ xs) (one_later (length posts) (eqb p.0 place)))
    ∙ sym (append_assoc front (map suc (indexes_in place posts)) (one_if (suc (length posts)) (eqb p.0 place))))

pub indexes_hit : (place : ℕ) (posts : List (ℕ × Message)) (m : Message) → indexes_in place (posts ++ (place, m) ∷ []) ≡ indexes_in place posts ++ length posts ∷ []
unfolding one_if
indexes_hit place posts m = indexes_more place posts (place, m) ∙ ap (λ (t : Bool). indexes_in place posts ++ one_if (length posts) t) (eq-eqb place place refl)

pub indexes_miss : (k place : ℕ) (posts : List (ℕ × Message)) (m : Message) → eqb place k ≡ false → indexes_in k (posts ++ (place, m) ∷ []) ≡ indexes_in k posts
unfolding one_if
indexes_miss k place posts m ne = indexes_more k posts (place, m) ∙ (ap (λ (t : Bool). indexes_in k posts ++ one_if (length posts) t) ne ∙ append-nil (indexes_in k posts))
