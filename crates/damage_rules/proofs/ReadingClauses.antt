-- The clauses of a function that reads by rules, from the one thing that it computes.
use Rattle.std.proofs.Common.{◌≡◌, ◌⊎◌, Option, Some, None, Result, Ok, Err, refl, sym, ap, subst, ◌∙◌, inl, inr}
use Rattle.std.specs.Prelude.{IfOk}
use Rattle.jam_records.specs.declared.damage.Damage.{Damage}
use Rattle.damage_rules.specs.Rules.{damage_of, Stops, Answers}

-- an error tells of a damage, or of want of memory
pub record TellsDamage {E : Type 0} (told : E → Option Damage) (damaged : Damage → E) (starved : E) : Type 0 where
  pub each : (e : E) → ((d : Damage) × (e ≡ damaged d)) ⊎ (e ≡ starved)
  pub damage : (d : Damage) → told (damaged d) ≡ Some d

abbrev read_ok : {X : Type 0} → X → Result X Damage
read_ok x = Ok x

abbrev read_err : {X : Type 0} → Damage → Result X Damage
read_err d = Err d

ok_once : {X : Type 0} (x y : X) → read_ok x ≡ read_ok y → x ≡ y
ok_once x y e = cc

apart : {X : Type 0} (x : X) (d : Damage) → read_err d ≡ read_ok x → ⊥
apart x d e = cc

some_once : (d e : Damage) → Some d ≡ Some e → d ≡ e
some_once d e h = cc

abbrev none : Option Damage
none = None

no_some : (d : Damage) → none ≡ Some d → ⊥
no_some d e = cc

module _ {X E : Type 0} {told : E → Option Damage} {damaged : Damage → E} {starved : E} (tells : TellsDamage told damaged starved) where
  damage_told : (e : E) (read : Result X Damage) (d : Damage) → e ≡ damaged d → Stops (told e) read → read ≡ Err d
  damage_told e read d is stops = subst (λ (o : Option Damage). Stops o read) (ap told is ∙ tells.damage d) stops

  pub if_read : (r : Result X E) (read : Result X Damage) (P : X → Type 0) → Answers told (λ y. y) r read → ((x : X) → read ≡ Ok x → P x) → IfOk r P
  if_read (Ok x) read P h f = f x h
  if_read (Err e) read P h f = tt

  -- the same, where more is known of what is answered
  pub if_read_so : (r : Result X E) (read : Result X Damage) (P Q : X → Type 0) → Answers told (λ y. y) r read → IfOk r Q → ((x : X) → read ≡ Ok x → Q x → P x) → IfOk r P
  if_read_so (Ok x) read P Q h q f = f x h q
  if_read_so (Err e) read P Q h q f = tt

  pub only_ok : (r : Result X E) (read : Result X Damage) (x : X) → Answers told (λ y. y) r read → read ≡ Ok x → (r ≡ Ok x) ⊎ (r ≡ Err starved)
  only_ok (Ok y) read x h is = inl (ap (λ z. Ok z) (ok_once y x (sym h ∙ is)))
  only_ok (Err e) read x h is = elim (tells.each e) [
    | inl d ↦ absurd (apart x d.0 (sym (damage_told e read d.0 d.1 h) ∙ is))
    | inr no_memory ↦ inr (ap (λ z. Err z) no_memory)
  ]

  pub is_damage : (r : Result X E) (read : Result X Damage) (d : Damage) → Answers told (λ y. y) r read → r ≡ Err (damaged d) → damage_of read ≡ Some d
  is_damage r read d h is =
      let stops : Stops (told (damaged d)) read = subst (λ (q : Result X E). Answers told (λ y. y) q read) is h in
      ap damage_of (damage_told (damaged d) read d refl stops)

  pub only_damage : (r : Result X E) (read : Result X Damage) (d : Damage) → Answers told (λ y. y) r read → damage_of read ≡ Some d → (r ≡ Err (damaged d)) ⊎ (r ≡ Err starved)
  only_damage (Ok y) read d h is = absurd (no_some d (sym (ap damage_of h) ∙ is))
  only_damage (Err e) read d h is = elim (tells.each e) [
    | inl b ↦
        let same : b.0 ≡ d = some_once b.0 d (sym (ap damage_of (damage_told e read b.0 b.1 h)) ∙ is) in
        inl (ap (λ z. Err z) (b.1 ∙ ap damaged same))
    | inr no_memory ↦ inr (ap (λ z. Err z) no_memory)
  ]
