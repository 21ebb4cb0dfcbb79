-- The posts of a place when one post more comes, and messages with their msgids.
use Rattle.std.proofs.Common.{◌≡◌, ℕ, suc, ◌+◌, ◌≤◌, Bool, true, false, cond, eqb, List, [], ◌∷◌, ◌++◌, length, map, refl, ap, ◌∙◌, arith}
use Rattle.std.specs.List.{filter}
use Rattle.std.proofs.lemmas.Bool.{eq-eqb}
use Rattle.std.proofs.lemmas.List.{append-nil, map-append}
use Rattle.std.proofs.lemmas.List.Elements.{filter-append}
use Rattle.jam_records.specs.declared.message.Message.{Message}
use Rattle.post_changes.specs.Posted.{posts_in}
use Rattle.post_changes.specs.slot_changes.Msgids.{all_identified, identified}

posts_more : (k : ℕ) (posts more : List (ℕ × Message)) → posts_in k (posts ++ more) ≡ posts_in k posts ++ posts_in k more
posts_more k posts more =
    ap (map (λ (p : ℕ × Message). p.1)) (filter-append (λ (p : ℕ × Message). eqb p.0 k) posts more)
    ∙ map-append (λ (p : ℕ × Message). p.1) (filter (λ (p : ℕ × Message). eqb p.0 k) posts) (filter (λ (p : ℕ × Message). eqb p.0 k) more)

-- the first messages of a list, where a test says so
kept_if : ℕ → Message → Bool → List Message
kept_if place m t = map (λ (p : ℕ × Message). p.1) (cond t ((place, m) ∷ []) [])

pub posts_hit : (place : ℕ) (posts : List (ℕ × Message)) (m : Message) → posts_in place (posts ++ (place, m) ∷ []) ≡ posts_in place posts ++ m ∷ []
unfolding kept_if
posts_hit place posts m = posts_more place posts ((place, m) ∷ []) ∙ ap (λ (t : Bool). posts_in place posts ++ kept_if place m t) (eq-eqb place place refl)

pub posts_miss : (k place : ℕ) (posts : List (ℕ × Message)) (m : Message) → eqb place k ≡ false → posts_in k (posts ++ (place, m) ∷ []) ≡ posts_in k posts
unfolding kept_if
posts_miss k place posts m ne = posts_more k posts ((place, m) ∷ []) ∙ (ap (λ (t : Bool). posts_in k posts ++ kept_if place m t) ne ∙ append-nil (posts_in k posts))

pub few_in : (place : ℕ) (posts : List (ℕ × Message)) → length (posts_in place posts) ≤ length posts
few_in place [] = omega arith
few_in place (p ∷ posts) =
    elim (eqb p.0 place) as (λ t. length (map (λ (q : ℕ × Message). q.1) (cond t (p ∷ filter (λ (q : ℕ × Message). eqb q.0 place) posts) (filter (λ (q : ℕ × Message). eqb q.0 place) posts))) ≤ suc (length posts)) [
      | true ↦ omega (arith, few_in place posts)
      | false ↦ omega (arith, few_in place posts)
    ]

-- one message more, with its msgid
pub identified_more : (msgid : ℕ → List ℕ) (n : ℕ) (messages : List Message) (m : Message) → all_identified msgid n (messages ++ m ∷ []) ≡ all_identified msgid n messages ++ identified (msgid (n + length messages)) m ∷ []
identified_more msgid n [] m = let same : n ≡ n + 0 = omega arith in ap (λ (k : ℕ). identified (msgid k) m ∷ []) same
identified_more msgid n (x ∷ messages) m =
    let same : n + 1 + length messages ≡ n + suc (length messages) = omega arith in
    ap (λ (ms : List Message). identified (msgid n) x ∷ ms) (identified_more msgid (n + 1) messages m)
    ∙ ap (λ (k : ℕ). identified (msgid n) x ∷ (all_identified msgid (n + 1) messages ++ identified (msgid k) m ∷ [])) same
