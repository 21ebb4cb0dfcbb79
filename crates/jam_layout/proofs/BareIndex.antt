-- .JDX shows no bodies: of entries without them it is read as the slots without them.
use Rattle.std.proofs.Common.{◌≡◌, ℕ, zero, suc, ◌+◌, ◌-◌, ◌/◌, Bool, true, false, cond, not, eqb, ltb, List, [], ◌∷◌, length, map, Result, Ok, Err, refl, ap, ◌∙◌}
use Rattle.std.proofs.lemmas.List.{length-map}
use Rattle.jam_records.specs.declared.damage.Damage.{Damage}
use Rattle.jam_records.specs.declared.damage.DamageRule.TheVariants.{Count, Missing}
use Rattle.jam_records.specs.declared.message.Message.{Message}
use Rattle.jam_records.specs.declared.message.Slot.{Slot}
use Rattle.jam_records.specs.declared.message.Slot.TheVariants.{Held}
use Rattle.damage_rules.specs.Rules.{by_rules, ◌>>=◌}
use Rattle.door_outside.specs.File.{jdx_file}
use Rattle.damage_rules.specs.Walk.{WalkStep, walk_from, walk}
use Rattle.jam_layout.specs.Bodies.{message_with}
use Rattle.jam_layout.specs.Fields.{subfields_of}
use Rattle.jam_layout.specs.Headers.{header_size}
use Rattle.jam_layout.specs.Index.{Pending, Expected, none_here, one_here, pair_of, expected_of, expected, index_rules, slot_at, slots_at}
use Rattle.jam_layout.specs.Limits.{slot_limit}
use Rattle.jam_layout.specs.Outlines.{slot_bare}
use Rattle.jam_layout.specs.declared.entry.HeaderEntry.{HeaderEntry}
use Rattle.jam_layout.proofs.BodyLaws.{bare}
use Rattle.jam_layout.proofs.IndexLoop.{begin, last_rule}
use Rattle.jam_layout.proofs.MappedReads.{mapped, rules_mapped}

abbrev bare_pending : Pending → Pending
bare_pending s = record { item = s.item; at = s.at; entries = map bare s.entries }

abbrev bare_expected : Expected → Expected
bare_expected x = record { pair = x.pair; slot = slot_bare x.slot; next = bare_pending x.next }

abbrev bare_step : WalkStep Pending Slot → WalkStep Pending Slot
bare_step x = record { value = slot_bare x.value; size = x.size; next = bare_pending x.next }

abbrev bare_found : List Slot × Pending → List Slot × Pending
bare_found x = (map slot_bare x.0, bare_pending x.1)

-- ---- one record
size_bare : (m : Message) → header_size (message_with m []) ≡ header_size m
unfolding header_size subfields_of
size_bare m = refl

-- the slot without its body, whose header has a length
abbrev held_here : ℕ → ℕ → HeaderEntry → List HeaderEntry → ℕ → Expected
held_here j at e es size = record { pair = pair_of e.message at; slot = Held (message_with e.message []); next = record { item = j + 1; at = at + size; entries = map bare es } }

chosen_bare : (b : Bool) (j at : ℕ) (e : HeaderEntry) (es : List HeaderEntry) → cond b (one_here j at (bare e) (map bare es)) (none_here j at (bare e ∷ map bare es)) ≡ bare_expected (cond b (one_here j at e es) (none_here j at (e ∷ es)))
chosen_bare true j at e es = ap (held_here j at e es) (size_bare e.message)
chosen_bare false j at e es = refl

expected_bare : (j at : ℕ) (es : List HeaderEntry) → expected_of j at (map bare es) ≡ bare_expected (expected_of j at es)
unfolding expected_of
expected_bare j at [] = refl
expected_bare j at (e ∷ es) = chosen_bare (eqb e.number (j + 1)) j at e es

abbrev step_to : Expected → WalkStep Pending Slot
step_to x = record { value = x.slot; size = 8; next = x.next }

one_bare : (place : ℕ) (s : Pending) (bytes : List ℕ) → slot_at place (bare_pending s) bytes ≡ mapped bare_step (slot_at place s bytes)
unfolding slot_at
one_bare place s bytes =
    ap (λ (x : Expected). by_rules (jdx_file place) s.item (index_rules x.pair bytes) (step_to x)) (expected_bare s.item s.at s.entries)
    ∙ rules_mapped bare_step (jdx_file place) s.item (index_rules (expected s).pair bytes) (step_to (expected s))

-- ---- all records
abbrev others_behind : ℕ → List ℕ → WalkStep Pending Slot → Result (List Slot × Pending) Damage
others_behind place bytes first = walk_from (slot_at place) (first.size - 1) first.next bytes >>= λ others. Ok (first.value ∷ others.0, others.1)

abbrev behind_slot : Slot → Result (List Slot × Pending) Damage → Result (List Slot × Pending) Damage
behind_slot s found = found >>= λ others. Ok (s ∷ others.0, others.1)

value_bare : (s : Slot) (found : Result (List Slot × Pending) Damage) → behind_slot (slot_bare s) (mapped bare_found found) ≡ mapped bare_found (behind_slot s found)
value_bare s (Ok x) = refl
value_bare s (Err d) = refl

rest_bare : (place : ℕ) (bytes : List ℕ) → ((left : ℕ) (s : Pending) → walk_from (slot_at place) left (bare_pending s) bytes ≡ mapped bare_found (walk_from (slot_at place) left s bytes))
    → (one : Result (WalkStep Pending Slot) Damage) → (mapped bare_step one >>= others_behind place bytes) ≡ mapped bare_found (one >>= others_behind place bytes)
rest_bare place bytes again (Err d) = refl
rest_bare place bytes again (Ok x) = ap (behind_slot (slot_bare x.value)) (again (x.size - 1) x.next) ∙ value_bare x.value (walk_from (slot_at place) (x.size - 1) x.next bytes)

walk_bare : (place left : ℕ) (s : Pending) (bytes : List ℕ) → walk_from (slot_at place) left (bare_pending s) bytes ≡ mapped bare_found (walk_from (slot_at place) left s bytes)
unfolding walk_from
walk_bare place left s [] = refl
walk_bare place (suc left) s (b ∷ bytes) = walk_bare place left s bytes
walk_bare place zero s (b ∷ bytes) =
    ap (λ (one : Result (WalkStep Pending Slot) Damage). one >>= others_behind place bytes) (one_bare place s (b ∷ bytes)) ∙ rest_bare place bytes (λ left t. walk_bare place left t bytes) (slot_at place s (b ∷ bytes))

-- ---- the file
last_bare : (place : ℕ) (found : List Slot × Pending) → last_rule place (bare_found found) ≡ mapped (map slot_bare) (last_rule place found)
last_bare place found =
    ap (λ n. by_rules (jdx_file place) found.1.item ((Missing, not (eqb n 0)) ∷ []) (map slot_bare found.0)) (length-map found.1.entries bare)
    ∙ rules_mapped (map slot_bare) (jdx_file place) found.1.item ((Missing, not (eqb (length found.1.entries) 0)) ∷ []) found.0

ends_bare : (place : ℕ) (read : Result (List Slot × Pending) Damage) → (mapped bare_found read >>= last_rule place) ≡ mapped (map slot_bare) (read >>= last_rule place)
ends_bare place (Ok found) = last_bare place found
ends_bare place (Err d) = refl

whole_bare : (place at : ℕ) (es : List HeaderEntry) (bytes : List ℕ) (few : Result (Unit {0}) Damage) → (few >>= λ k. walk (slot_at place) (begin at (map bare es)) bytes >>= last_rule place) ≡ mapped (map slot_bare) (few >>= λ k. walk (slot_at place) (begin at es) bytes >>= last_rule place)
whole_bare place at es bytes (Ok u) = ap (λ (read : Result (List Slot × Pending) Damage). read >>= last_rule place) (walk_bare place 0 (begin at es) bytes) ∙ ends_bare place (walk (slot_at place) (begin at es) bytes)
whole_bare place at es bytes (Err d) = refl

pub index_bare : (place at : ℕ) (es : List HeaderEntry) (bytes : List ℕ) → slots_at place at (map bare es) bytes ≡ mapped (map slot_bare) (slots_at place at es bytes)
unfolding slots_at
index_bare place at es bytes = whole_bare place at es bytes (by_rules (jdx_file place) 0 ((Count, ltb slot_limit (length bytes / 8)) ∷ []) (tt {0}))
