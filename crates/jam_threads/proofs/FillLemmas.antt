-- Threads once slots are added that hold no message.
use Rattle.std.proofs.Common.{◌≡◌, ℕ, zero, suc, ◌+◌, ◌-◌, List, [], ◌∷◌, ◌++◌, length, replicate, refl, sym, ap, ◌∙◌, subst, arith, append_assoc, append-nil, length-append}
use Rattle.std.proofs.Math.ListN.{length-replicate}
use Rattle.jam_records.specs.declared.message.Slot.{Slot}
use Rattle.jam_records.specs.declared.message.Slot.TheVariants.{Gone}
use Rattle.jam_threads.specs.Threading.{AreThreads}
use Rattle.jam_threads.specs.declared.threads.Threads.{Threads}

gone_behind : (k : ℕ) → replicate k Gone ++ Gone ∷ [] ≡ replicate (suc k) Gone
gone_behind zero = refl
gone_behind (suc k) = ap (λ (xs : List Slot). Gone ∷ xs) (gone_behind k)

-- with k of them
pub record Filled (old new : Threads) (k : ℕ) : Type 0 where
  pub each : (slots : List Slot) → AreThreads slots old → AreThreads (slots ++ replicate k Gone) new

pub none_filled : (threads : Threads) → Filled threads threads 0
none_filled threads = record { each = λ slots are. subst (λ (xs : List Slot). AreThreads xs threads) (sym (append-nil slots)) are }

pub filled_more : (old new more : Threads) (k : ℕ) → Filled old new k → ((slots : List Slot) → AreThreads slots new → AreThreads (slots ++ Gone ∷ []) more) → Filled old more (k + 1)
filled_more old new more k filled added = record {
  each = λ slots are.
      let count : suc k ≡ k + 1 = omega arith in
      subst (λ (xs : List Slot). AreThreads xs more) (append_assoc slots (replicate k Gone) (Gone ∷ []) ∙ ap (λ (xs : List Slot). slots ++ xs) (gone_behind k ∙ ap (λ n. replicate n Gone) count)) (added (slots ++ replicate k Gone) (filled.each slots are));
}

-- how many slots there are then
pub filled_count : (old new : Threads) (k : ℕ) (slots others : List Slot) → Filled old new k → AreThreads slots old → AreThreads others new → length others ≡ length slots + k
filled_count old new k slots others filled are here =
    let now = filled.each slots are in
    omega (arith, now.chains.count, here.chains.count, length-append slots (replicate k Gone), length-replicate {A = Slot} k Gone)

pub all_filled : (old new : Threads) (k count : ℕ) (slots : List Slot) → Filled old new k → k ≡ count - length old.links.items → AreThreads slots old → AreThreads (slots ++ replicate (count - length slots) Gone) new
all_filled old new k count slots filled is are =
    let same : k ≡ count - length slots = is ∙ ap (λ n. count - n) are.chains.count in
    subst (λ (n : ℕ). AreThreads (slots ++ replicate n Gone) new) same (filled.each slots are)
