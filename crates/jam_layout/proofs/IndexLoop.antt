-- Reading slots one after the other, as a loop does.
use Rattle.std.proofs.Common.{◌≡◌, ℕ, Bool, ◌/◌, ◌<◌, ◌≤◌, List, [], ◌∷◌, length, eqb, ltb, not, true, false, Result, Ok, Err, ap, ◌∙◌, arith}
use Rattle.std.proofs.lemmas.Bool.{le-ltb, lt-ltb}
use Rattle.std.proofs.lemmas.Bool.Decides.{nat_tests}
use Rattle.jam_records.specs.declared.damage.Damage.{Damage}
use Rattle.jam_records.specs.declared.damage.DamageRule.TheVariants.{Count, Missing}
use Rattle.jam_layout.specs.Limits.{slot_limit}
use Rattle.jam_layout.specs.declared.error.BaseError.{BaseError}
use Rattle.jam_layout.specs.declared.entry.HeaderEntry.{HeaderEntry}
use Rattle.jam_records.specs.declared.message.Slot.{Slot}
use Rattle.damage_rules.specs.Rules.{by_rules, ◌>>=◌}
use Rattle.jam_layout.specs.Rules.{damage_of_base, BaseFails}
use Rattle.door_outside.specs.File.{jdx_file}
use Rattle.damage_rules.specs.Walk.{walk}
use Rattle.jam_layout.specs.Index.{Pending, slot_at, slots_at}
use Rattle.damage_rules.proofs.KeptRules.{kept_rules, step_fails}
use Rattle.damage_rules.proofs.RecordWalks.{walk_behind, ends, is_done}

abbrev pub begin : ℕ → List HeaderEntry → Pending
begin at entries = record { item = 0; at = at; entries = entries }

abbrev pub last_rule : ℕ → List Slot × Pending → Result (List Slot) Damage
last_rule place found = by_rules (jdx_file place) found.1.item ((Missing, not (eqb (length found.1.entries) 0)) ∷ []) found.0

opened : (place at : ℕ) (entries : List HeaderEntry) (bytes : List ℕ) → length bytes / 8 ≤ slot_limit → slots_at place at entries bytes ≡ (walk (slot_at place) (begin at entries) bytes >>= last_rule place)
unfolding slots_at
opened place at entries bytes few = ap (λ x. x >>= λ k. walk (slot_at place) (begin at entries) bytes >>= last_rule place) (kept_rules (jdx_file place) 0 ((Count, ltb slot_limit (length bytes / 8)) ∷ []) (tt {0}) (le-ltb _ _ few, tt))

pub slots_fail : (place at : ℕ) (entries : List HeaderEntry) (bytes : List ℕ) (front : List Slot) (s : Pending) (rest : List ℕ) (e : BaseError) → length bytes / 8 ≤ slot_limit → 0 < length rest → BaseFails e (slot_at place s rest)
    → walk_behind front (walk (slot_at place) s rest) ≡ walk (slot_at place) (begin at entries) bytes → BaseFails e (slots_at place at entries bytes)
slots_fail place at entries bytes front s rest e few some h so_far = rw (opened place at entries bytes few) (step_fails (damage_of_base e) (walk (slot_at place) (begin at entries) bytes) (last_rule place) (ends (slot_at place) s rest front (damage_of_base e) (walk (slot_at place) (begin at entries) bytes) some h so_far))

ended : (place at : ℕ) (entries : List HeaderEntry) (bytes : List ℕ) (front : List Slot) (s : Pending) (rest : List ℕ) (b : Bool) → length bytes / 8 ≤ slot_limit → length rest ≡ 0 → eqb (length s.entries) 0 ≡ b
    → walk_behind front (walk (slot_at place) s rest) ≡ walk (slot_at place) (begin at entries) bytes → slots_at place at entries bytes ≡ by_rules (jdx_file place) s.item ((Missing, not b) ∷ []) front
ended place at entries bytes front s rest b few none is so_far =
    opened place at entries bytes few ∙ (ap (λ x. x >>= last_rule place) (is_done (slot_at place) s rest front (walk (slot_at place) (begin at entries) bytes) none so_far) ∙ ap (λ x. by_rules (jdx_file place) s.item ((Missing, not x) ∷ []) front) is)

pub slots_done : (place at : ℕ) (entries : List HeaderEntry) (bytes : List ℕ) (front : List Slot) (s : Pending) (rest : List ℕ) → length bytes / 8 ≤ slot_limit → length rest ≡ 0 → eqb (length s.entries) 0 ≡ true
    → walk_behind front (walk (slot_at place) s rest) ≡ walk (slot_at place) (begin at entries) bytes → slots_at place at entries bytes ≡ Ok front
slots_done place at entries bytes front s rest few none is so_far = ended place at entries bytes front s rest true few none is so_far

pub slots_missing : (place at : ℕ) (entries : List HeaderEntry) (bytes : List ℕ) (front : List Slot) (s : Pending) (rest : List ℕ) → length bytes / 8 ≤ slot_limit → length rest ≡ 0 → eqb (length s.entries) 0 ≡ false
    → walk_behind front (walk (slot_at place) s rest) ≡ walk (slot_at place) (begin at entries) bytes → slots_at place at entries bytes ≡ Err (record { file = jdx_file place; item = s.item; rule = Missing })
slots_missing place at entries bytes front s rest few none is so_far = ended place at entries bytes front s rest false few none is so_far

pub is_nothing : (bytes : List ℕ) (b : Bool) → b ≡ eqb (length bytes) 0 → b ≡ true → length bytes ≡ 0
is_nothing bytes b e f = grind (arith, nat_tests)

pub too_many : (place at : ℕ) (entries : List HeaderEntry) (bytes : List ℕ) → slot_limit < length bytes / 8 → slots_at place at entries bytes ≡ Err (record { file = jdx_file place; item = 0; rule = Count })
unfolding slots_at
too_many place at entries bytes many = let t : ltb slot_limit (length bytes / 8) ≡ true = lt-ltb slot_limit (length bytes / 8) many in ap (λ b. by_rules (jdx_file place) 0 ((Count, b) ∷ []) (tt {0}) >>= λ k. walk (slot_at place) (begin at entries) bytes >>= last_rule place) t
