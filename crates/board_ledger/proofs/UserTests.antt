-- The tests of a user's record in the code are those of its rules.
use Rattle.std.proofs.Common.{◌≡◌, ℕ, zero, suc, ◌+◌, ◌*◌, ◌/◌, ◌%◌, ◌^◌, ◌<◌, ◌≤◌, Bool, true, false, not, eqb, ltb, List, [], ◌∷◌, length, Option, Some, None, Result, Err, refl, sym, ap, ◌∙◌, inl, inr, arith}
use Rattle.std.specs.Prelude.{nat_lt, slice_index}
use Rattle.std.proofs.Math.Nat.{div-eq_of_lt, div-add-mod', mod-lt}
use Rattle.std.proofs.lemmas.Bool.{cases_lt, cases_eq, le-ltb}
use Rattle.std.proofs.lemmas.Bool.Decides.{nat_tests}
use Rattle.std.proofs.lemmas.Nat.{pow_pos}
use Rattle.damage_rules.specs.Rules.{Rules, first_broken}
use Rattle.damage_rules.proofs.KeptRules.{kept_none, then_fails}
use Rattle.jam_records.specs.declared.damage.Damage.{Damage}
use Rattle.jam_records.specs.declared.damage.DamageRule.{DamageRule}
use Rattle.jam_records.specs.declared.damage.DamageRule.TheVariants.{Short, Name, Twice, Flags, Member, Offer}
use Rattle.setup_file.specs.Texts.{is_user_name}
use Rattle.open_offers.specs.Texts.{text_end}
use Rattle.board_ledger.specs.Users.{behind_name, is_taken, user_record_of, right_members, right_offers, user_at, user_end, user_in_record, user_rules}
use Rattle.board_ledger.specs.declared.user.User.{User}
use Rattle.open_offers.specs.declared.version.Version.{Version}

abbrev none : Option DamageRule
none = None

abbrev fails : Damage → Result (User × ℕ) Damage
fails d = Err d

lt_tests : (m n : ℕ) → m < n → ltb m n ≡ true
lt_tests m n below = grind (arith, nat_tests)

zero_more : (n r : ℕ) → 0 * n + r ≡ r
zero_more n r = omega arith

above_zero : (n : ℕ) → (n ≡ 0 → ⊥) → 0 < n
above_zero zero h = absurd (h refl)
above_zero (suc n) h = omega arith

some_tests : (n : ℕ) → 0 < n → eqb n 0 ≡ false
some_tests n some = grind (arith, nat_tests)

not_zero : (m n : ℕ) → 0 < n → n ≤ m → 0 < m / n
not_zero m n some past = elim (cases_eq (m / n) 0) [
  | inl none ↦
      let split : m / n * n + m % n ≡ m = div-add-mod' m n in
      let left : m / n * n + m % n ≡ 0 * n + m % n = ap (λ q. q * n + m % n) none in
      let short : m % n < n = mod-lt m some in
      let all : m ≡ m % n = sym split ∙ (left ∙ zero_more n (m % n)) in
      absurd (omega arith)
  | inr other ↦ above_zero (m / n) other
]

-- ---- a set of places below a count
pub all_below : (members count : ℕ) → members < 2 ^ 64 → count ≡ 64 → true ≡ ltb members (2 ^ count)
all_below members count small is =
    let power : 2 ^ count ≡ 2 ^ 64 = ap (λ k. 2 ^ k) is in
    sym (ap (ltb members) power ∙ lt_tests members (2 ^ 64) small)

pub none_past : (members count : ℕ) → eqb (members / 2 ^ count) 0 ≡ ltb members (2 ^ count)
none_past members count =
    elim (cases_lt members (2 ^ count)) [
      | inl below ↦ ap (λ q. eqb q 0) (div-eq_of_lt below) ∙ sym (lt_tests members (2 ^ count) below)
      | inr past ↦
          let power : 0 < 2 ^ count = pow_pos count in
          some_tests (members / 2 ^ count) (not_zero members (2 ^ count) power past) ∙ sym (le-ltb _ _ past)
    ]

-- ---- the rules behind the record's length, with what the code tests
abbrev rules_behind : Version → ℕ → Bool → ℕ → User → Rules
rules_behind v count met flags u =
    (Name, not (is_user_name u.name))
    ∷ (Twice, met)
    ∷ (Flags, nat_lt 1 flags)
    ∷ (Member, not (right_members count u.members))
    ∷ (Offer, not (right_offers v u))
    ∷ []

pub user_broken : (v : Version) (count : ℕ) (before : List User) (bytes : List ℕ) (u : User) (met : Bool) (from place behind : ℕ) (rule : DamageRule)
    → from ≡ count → u ≡ user_record_of v count bytes → place ≡ text_end 0 bytes → behind ≡ behind_name v count → place + behind ≤ length bytes → met ≡ is_taken before u.name
    → first_broken (rules_behind v count met (slice_index bytes place) u) ≡ Some rule → user_at v count before bytes ≡ Err (record { file = 0; item = 1 + from + length before; rule = rule })
unfolding user_at user_rules user_end
user_broken v count before bytes u met from place behind rule counted is at size whole taken broken =
    let all : text_end 0 bytes + behind_name v count ≤ length bytes = omega (arith, at, size, whole) in
    let short : first_broken ((Short, nat_lt (length bytes) (text_end 0 bytes + behind_name v count)) ∷ []) ≡ none = kept_none ((Short, nat_lt (length bytes) (text_end 0 bytes + behind_name v count)) ∷ []) (le-ltb _ _ all, tt) in
    let named : met ≡ is_taken before (user_record_of v count bytes).name = taken ∙ ap (λ (w : User). is_taken before w.name) is in
    let same : first_broken (rules_behind v count met (slice_index bytes place) u) ≡ first_broken (rules_behind v count (is_taken before (user_record_of v count bytes).name) (slice_index bytes (text_end 0 bytes)) (user_record_of v count bytes)) =
    λ i. first_broken (rules_behind v count (named i) (slice_index bytes (at i)) (is i)) in
    then_fails 0 (1 + count + length before) ((Short, nat_lt (length bytes) (text_end 0 bytes + behind_name v count)) ∷ [])
    (rules_behind v count (is_taken before (user_record_of v count bytes).name) (slice_index bytes (text_end 0 bytes)) (user_record_of v count bytes)) rule (user_in_record v count bytes, user_end v count bytes) short (sym same ∙ broken)
    ∙ ap (λ (n : ℕ). fails (record { file = 0; item = 1 + n + length before; rule = rule })) (sym counted)
