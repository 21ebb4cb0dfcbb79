-- The tests of record 0 in the code are those of its rules, and its texts stand within it.
use Rattle.std.proofs.Common.{◌≡◌, ℕ, ◌+◌, ◌*◌, ◌≤◌, ◌<◌, false, ◌||◌, ltb, eqb, List, length, Option, Some, None, Result, Ok, Err, refl, sym, ap, ◌∙◌, subst, arith}
use Rattle.std.proofs.lemmas.Bool.{ltb-false}
use Rattle.std.proofs.lemmas.Bool.Decides.{nat_tests}
use Rattle.damage_rules.proofs.BoolTests.{or_false}
use Rattle.jam_records.specs.record_numbers.Numbers.{u16_at, u32_at}
use Rattle.jam_records.specs.declared.damage.Damage.{Damage}
use Rattle.jam_records.specs.declared.damage.DamageRule.{DamageRule}
use Rattle.damage_rules.specs.Rules.{first_broken, unless_broken, by_rules, ◌>>=◌, Stops}
use Rattle.damage_rules.proofs.KeptRules.{none_kept, part_fails, part_passes, rules_kept, step_fails}
use Rattle.setup_file.specs.declared.fields.SetupFields.{SetupFields}
use Rattle.open_offers.specs.Texts.{text_end}
use Rattle.board_ledger.specs.Limits.{upload_limit, user_limit}
use Rattle.board_ledger.specs.Opening.{places_of, setup_of, opening_of, opening_at, wrong_counts, fixed_rules, setup_rules}
use Rattle.open_offers.specs.Versions.{version_of}
use Rattle.board_ledger.specs.declared.opening.Opening.{Opening}
use Rattle.board_ledger.specs.declared.opening.Places.{Places}
use Rattle.open_offers.specs.declared.version.Version.{Version}

-- each text ends within the record
pub record PlacesFit (bytes : List ℕ) (p : Places) : Type 0 where
  pub board : text_end 24 bytes ≤ length bytes
  pub city : text_end p.city bytes ≤ length bytes
  pub phone : text_end p.phone bytes ≤ length bytes
  pub sysop : text_end p.sysop bytes ≤ length bytes
  pub bbsid : text_end p.bbsid bytes ≤ length bytes
  pub zones : p.zones + 2 * u16_at 10 bytes ≤ length bytes

pub end_above : (place : ℕ) (bytes : List ℕ) → place + 2 ≤ text_end place bytes
unfolding text_end
end_above place bytes = omega arith

pub places_fit : (bytes : List ℕ) → (places_of bytes).end ≤ length bytes → PlacesFit bytes (places_of bytes)
unfolding places_of
places_fit bytes whole =
    let a = end_above 24 bytes in
    let b = end_above (text_end 24 bytes) bytes in
    let c = end_above (text_end (text_end 24 bytes) bytes) bytes in
    let d = end_above (text_end (text_end (text_end 24 bytes) bytes) bytes) bytes in
    let e = end_above (text_end (text_end (text_end (text_end 24 bytes) bytes) bytes) bytes) bytes in
    record {
      board = omega arith;
      city = omega arith;
      phone = omega arith;
      sysop = omega arith;
      bbsid = omega arith;
      zones = omega arith;
    }

pub same_places : (bytes : List ℕ) (p : Places) → p ≡ places_of bytes → p.end ≤ length bytes → PlacesFit bytes p
same_places bytes p is whole = subst (PlacesFit bytes) (sym is) (places_fit bytes (subst (λ (q : Places). q.end ≤ length bytes) is whole))

-- ---- the first 24 bytes, and what is behind them
pub fixed_fails : (bytes : List ℕ) (r : DamageRule) → Some r ≡ first_broken (fixed_rules bytes) → opening_at bytes ≡ Err (record { file = 0; item = 0; rule = r })
unfolding opening_at
fixed_fails bytes r e = part_fails 0 0 (fixed_rules bytes) (setup_rules bytes (setup_of bytes)) r (opening_of bytes) (sym e)

abbrev behind : List ℕ → Result (SetupFields × ℕ) Damage
behind bytes = by_rules 0 0 (setup_rules bytes (setup_of bytes)) (setup_of bytes, (places_of bytes).end)

same_rules : {A B : Type 0} (o : Option DamageRule) (u : A) (x : B) → unless_broken 0 0 o x ≡ (unless_broken 0 0 o u >>= λ v. Ok x)
same_rules None u x = refl
same_rules (Some r) u x = refl

in_two : (bytes : List ℕ) → None ≡ first_broken (fixed_rules bytes) → opening_at bytes ≡ (behind bytes >>= λ x. Ok (opening_of bytes))
unfolding opening_at
in_two bytes e =
    part_passes 0 0 (fixed_rules bytes) (setup_rules bytes (setup_of bytes)) (opening_of bytes) (sym e)
    ∙ same_rules (first_broken (setup_rules bytes (setup_of bytes))) (setup_of bytes, (places_of bytes).end) (opening_of bytes)

pub behind_fails : (bytes : List ℕ) (e : Option Damage) → None ≡ first_broken (fixed_rules bytes) → Stops e (behind bytes) → Stops e (opening_at bytes)
behind_fails bytes e passed h = subst (Stops e) (sym (in_two bytes passed)) (step_fails e (behind bytes) (λ x. Ok (opening_of bytes)) h)

abbrev opening_made : Version → SetupFields → ℕ → ℕ → ℕ → ℕ → ℕ → Opening
opening_made version setup created conferences users uploads size = record { version = version; setup = setup; created = created; conferences = conferences; users = users; uploads = uploads; size = size }

pub opening_read : (bytes : List ℕ) (version : Version) (setup : SetupFields) (created conferences users uploads size : ℕ) → None ≡ first_broken (fixed_rules bytes) → behind bytes ≡ Ok (setup, size)
    → version ≡ version_of (u16_at 4 bytes) → created ≡ u32_at 16 bytes → conferences ≡ u16_at 6 bytes → users ≡ u16_at 8 bytes → uploads ≡ u32_at 12 bytes
    → opening_at bytes ≡ Ok (opening_made version setup created conferences users uploads size)
unfolding opening_of
opening_read bytes version setup created conferences users uploads size passed h v a b c d =
    let is : (setup_of bytes, (places_of bytes).end) ≡ (setup, size) = (rules_kept 0 0 (setup_rules bytes (setup_of bytes)) (setup_of bytes, (places_of bytes).end) (setup, size) h).1 in
    in_two bytes passed ∙ (ap (λ r. r >>= λ x. Ok (opening_of bytes)) h
    ∙ λ i. Ok (opening_made (sym v i) (is i).0 (sym a i) (sym b i) (sym c i) (sym d i) (is i).1))

-- ---- the counts are in their ranges
pub record CountsFit (bytes : List ℕ) : Type 0 where
  pub some : 0 < u16_at 6 bytes
  pub conferences : u16_at 6 bytes ≤ 64
  pub users : u16_at 8 bytes ≤ user_limit
  pub zones : u16_at 10 bytes ≤ 16
  pub uploads : u32_at 12 bytes ≤ upload_limit

above_zero : (n : ℕ) → eqb n 0 ≡ false → 0 < n
above_zero n e = grind (arith, nat_tests)

pub counts_fit : (bytes : List ℕ) → wrong_counts bytes ≡ false → CountsFit bytes
unfolding wrong_counts
counts_fit bytes e =
    let two = or_false ((eqb (u16_at 6 bytes) 0 || ltb 64 (u16_at 6 bytes)) || ltb user_limit (u16_at 8 bytes)) (ltb 16 (u16_at 10 bytes) || ltb upload_limit (u32_at 12 bytes)) e in
    let front = or_false (eqb (u16_at 6 bytes) 0 || ltb 64 (u16_at 6 bytes)) (ltb user_limit (u16_at 8 bytes)) two.0 in
    let first = or_false (eqb (u16_at 6 bytes) 0) (ltb 64 (u16_at 6 bytes)) front.0 in
    let last = or_false (ltb 16 (u16_at 10 bytes)) (ltb upload_limit (u32_at 12 bytes)) two.1 in
    record {
      some = above_zero _ first.0;
      conferences = ltb-false _ _ first.1;
      users = ltb-false _ _ front.1;
      zones = ltb-false _ _ last.0;
      uploads = ltb-false _ _ last.1;
    }

pub fixed_counts : (bytes : List ℕ) → None ≡ first_broken (fixed_rules bytes) → CountsFit bytes
unfolding fixed_rules
fixed_counts bytes e = let k = none_kept (fixed_rules bytes) (sym e) in counts_fit bytes k.1.1.1.0
