-- Which calls of an object in memory fail, and what it counts.
use Rattle.std.specs.Prelude.{◌≡◌, ◌⊎◌, ℕ, ◌+◌, ◌-◌, ◌^◌, ◌≤◌, min, List, Option, Result, MatchResult, IsErr, ◌↔◌, refl}
use Rattle.std.specs.Coded.{Coded, code_by, coded×, coded_ℕ, coded_list, coded_option}
use Rattle.std.specs.List.{Contains}
use Rattle.std.specs.Option.{IsSomeAnd}
use Rattle.memory_outside.specs.declared.plan.FaultPlan.{FaultPlan}

-- the call of that number, counted from 1, is to fail
abbrev pub Fails : FaultPlan → ℕ → Type 0
Fails plan number = Contains plan.fails number ⊎ IsSomeAnd plan.stop (λ stop. stop ≤ number)

-- one more, up to the end of the count
abbrev pub one_more : ℕ → ℕ
one_more count = min (count + 1) (2 ^ 64 - 1)

-- what an object in memory counts
pub record PlanCounts : Type 0 where
  pub plan : FaultPlan
  -- the calls that were made
  pub calls : ℕ
  -- those that failed for want of memory
  pub starved : ℕ

-- counts are stored as the tuple of their parts
abbrev pub counts_code : Coded PlanCounts
counts_code =
    code_by ((List ℕ × Option ℕ) × (ℕ × ℕ)) (coded× (coded× (coded_list coded_ℕ) (coded_option coded_ℕ)) (coded× coded_ℕ coded_ℕ))
    (λ c. ((c.plan.fails, c.plan.stop), (c.calls, c.starved)))
    (λ p. record { plan = record { fails = p.0.0; stop = p.0.1 }; calls = p.1.0; starved = p.1.1 }) (λ _. refl)

-- the next call is to fail
abbrev pub FailsNext : PlanCounts → Type 0
FailsNext counts = Fails counts.plan (one_more counts.calls)

-- a call went by that fails exactly where the plan says
pub record ByPlan {T E : Type 0} (old new : PlanCounts) (result : Result T E) : Type 0 where
  pub plan : new.plan ≡ old.plan
  pub calls : new.calls ≡ one_more old.calls
  pub starved : new.starved ≡ old.starved
  pub fails : IsErr result ↔ FailsNext old

-- a call went by that fails where the plan says, and otherwise only where it found no memory
pub record ByPlanOrMemory {T E : Type 0} (old new : PlanCounts) (result : Result T E) : Type 0 where
  pub plan : new.plan ≡ old.plan
  pub calls : new.calls ≡ one_more old.calls
  pub planned : FailsNext old → IsErr result × (new.starved ≡ old.starved)
  pub otherwise : (¬ FailsNext old) → MatchResult result (λ _. new.starved ≡ old.starved) (λ _. new.starved ≡ one_more old.starved)

-- the count of faults after a call: an `Err` raises it, and nothing else does
abbrev pub Faulted : {T E : Type 0} → ℕ → ℕ → Result T E → Type 0
Faulted old new result = MatchResult result (λ _. new ≡ old) (λ _. new ≡ one_more old)
