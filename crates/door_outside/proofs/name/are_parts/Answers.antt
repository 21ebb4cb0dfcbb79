use Rattle.std.proofs.Common.{ℕ, ◌<◌, Bool, true, false, eqb, List, [], length, IsTrue, MatchBool, All, refl, arith, rules, tests}
use Rattle.std.specs.List.{HoldsAt, AllWithin}
use Rattle.std.proofs.lemmas.Bool.{false≢true}
use Rattle.std.proofs.lemmas.Iterator.{cases_from_all}
use Rattle.std.proofs.lemmas.Iterator.Splits.{YieldsList-from_slice_split}
use Rattle.door_outside.specs.Name.{IsNamePart}
use Rattle.door_outside.proofs.name.are_parts.Goals as goal

abbrev NoPart : List ℕ → Type 0
NoPart part = ¬ IsNamePart part

decided : (r : Bool) (parts : List (List ℕ)) → MatchBool r (AllWithin IsNamePart parts 0 (length parts)) ((k : ℕ) × (k < length parts) × HoldsAt NoPart parts k) → (IsTrue r → All IsNamePart parts) × (All IsNamePart parts → IsTrue r)
decided true parts each = (λ yes k d below. each k d (omega arith) below, λ all. refl)
decided false parts some = (λ no. absurd (false≢true no), λ all. absurd (some.2 [] (all some.0 [] some.1)))

pub returns : goal.returns
returns c =
    decided _ _
    (cases_from_all _ _ _ IsNamePart NoPart c.all.ensures.ran (YieldsList-from_slice_split _ (λ (b : ℕ). eqb b 47) c.args.text.now c.split.ensures.rest c.split.ensures.done c.split.ensures.closure (λ x b q k. search (rules, tests))) (λ x q k. search (rules, tests)) (λ x q k. search (rules, tests)))
