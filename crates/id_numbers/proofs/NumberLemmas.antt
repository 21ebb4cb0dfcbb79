-- The number of an id among those that are found by their mixes and the others.
use Rattle.std.proofs.Common.{◌≡◌, ℕ, ◌==◌, ◌&&◌, List, [], ◌∷◌, Bool, true, false, cond, Option, None, Some, refl, sym, ap, ◌∙◌, arith}
use Rattle.std.specs.Str.{bytes_eq}
use Rattle.std.specs.List.{AllZip}
use Rattle.std.specs.Map.{lookup}
use Rattle.std.proofs.lemmas.Bool.Decides.{nat_tests}
use Rattle.id_numbers.specs.Numbers.{number_here, either_number}
use Rattle.id_numbers.specs.declared.numbers.MixedId.{MixedId}

-- ---- another id
-- where neither number is kept, that among the others may be any
either_put : (old here : ℕ) → either_number old here ≡ 0 → (number : ℕ) → either_number number here ≡ number
either_put old here none number = grind (arith, nat_tests)

pub other_put : (same : Bool) (number old here : ℕ) → (same ≡ true → either_number old here ≡ 0) → either_number (cond same number old) here ≡ cond same number (either_number old here)
other_put true number old here none = either_put old here (none refl) number
other_put false number old here none = refl

-- ---- a copy
here_again : (id : List ℕ) (first copy : MixedId) → copy.id.items ≡ first.id.items → copy.number ≡ first.number → number_here id (Some copy) ≡ number_here id (Some first)
here_again id first copy items number = λ i. cond (bytes_eq (items i) id) (number i) 0

chosen : (test : Bool) (id : List ℕ) (first copy : MixedId) (more others : Option MixedId) → number_here id (Some copy) ≡ number_here id (Some first) → number_here id others ≡ number_here id more → number_here id (cond test (Some copy) others) ≡ number_here id (cond test (Some first) more)
chosen true id first copy more others here behind = here
chosen false id first copy more others here behind = behind

pub here_copied : (test : ℕ → Bool) (C : ℕ → ℕ → Type 0) (D : MixedId → MixedId → Type 0) → ((x y : ℕ) → C x y → y ≡ x) → ((x y : MixedId) → D x y → (y.id.items ≡ x.id.items) × (y.number ≡ x.number)) → (id : List ℕ)
    → (es fs : List (ℕ × MixedId)) → AllZip (λ p q. C p.0 q.0 × D p.1 q.1) es fs → number_here id (lookup test fs) ≡ number_here id (lookup test es)
here_copied test C D keys values id [] [] all = refl
here_copied test C D keys values id [] (f ∷ fs) all = absurd all
here_copied test C D keys values id (e ∷ es) [] all = absurd all
here_copied test C D keys values id (e ∷ es) (f ∷ fs) all =
    let same = values e.1 f.1 all.0.1 in
    ap (λ (k : ℕ). number_here id (cond (test k) (Some f.1) (lookup test fs))) (keys e.0 f.0 all.0.0)
    ∙ chosen (test e.0) id e.1 f.1 (lookup test es) (lookup test fs) (here_again id e.1 f.1 same.0 same.1) (here_copied test C D keys values id es fs all.1)
