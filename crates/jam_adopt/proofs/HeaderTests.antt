-- The header at an offset is read exactly where the rule of the header doesn't hold.
use Rattle.std.proofs.Common.{◌≡◌, ◌↔◌, ℕ, ◌+◌, ◌<◌, ◌≤◌, Bool, true, false, not, ◌||◌, eqb, ltb, List, length, take, drop, Result, Ok, Err, refl, sym, ap, ◌∙◌, arith}
use Rattle.std.specs.Prelude.{MatchOption}
use Rattle.std.specs.Result.{result_ok}
use Rattle.std.specs.Str.{bytes_eq}
use Rattle.std.proofs.lemmas.Bool.{lt-ltb, le-ltb, ltb-false, eqb-true, eq-eqb}
use Rattle.std.proofs.lemmas.List.{length-drop}
use Rattle.std.proofs.lemmas.Slice.Eq.{bytes_eq-Decides}
use Rattle.record_numbers.specs.Numbers.{u16_at}
use Rattle.jam_records.specs.MessageHeaders.{MessageHeaderStands}
use Rattle.jam_records.specs.Signature.{signature}
use Rattle.jam_records.specs.declared.error.RecordError.{RecordError}
use Rattle.jam_records.specs.declared.message_header.MessageHeader.{MessageHeader}
use Rattle.jam_adopt.specs.Verdicts.{wrong_header, header_in}

pub or_false : (a b : Bool) → (a || b) ≡ false → (a ≡ false) × (b ≡ false)
or_false true b e = absurd cc
or_false false b e = (refl, e)

pub not_false : (b : Bool) → not b ≡ false → b ≡ true
not_false true e = refl
not_false false e = absurd cc

no_test_fails : (a b c : Bool) → a ≡ false → b ≡ true → c ≡ true → (a || (not b || not c)) ≡ false
no_test_fails a b c p q r = ap (λ x. x || (not b || not c)) p ∙ (ap (λ x. not x || not c) q ∙ ap not r)

-- the offset is behind the end
pub past_wrong : (jhr : List ℕ) (at : ℕ) → length jhr < at → wrong_header jhr at ≡ true
unfolding wrong_header
past_wrong jhr at past =
    ap (λ x. x || (not (bytes_eq (take 4 (drop at jhr)) signature) || not (eqb (u16_at 4 (drop at jhr)) 1))) (lt-ltb (length jhr) (at + 76) (omega arith))

right_stands : (jhr : List ℕ) (at : ℕ) → wrong_header jhr at ≡ false → MessageHeaderStands (drop at jhr) (header_in jhr at)
unfolding wrong_header
right_stands jhr at e =
    let long = or_false (ltb (length jhr) (at + 76)) _ e in
    let others = or_false (not (bytes_eq (take 4 (drop at jhr)) signature)) (not (eqb (u16_at 4 (drop at jhr)) 1)) long.1 in
    let fits : at + 76 ≤ length jhr = ltb-false (length jhr) (at + 76) long.0 in
    record {
      whole = omega (arith, length-drop at jhr, fits);
      signed = (bytes_eq-Decides (take 4 (drop at jhr)) signature).0 (not_false (bytes_eq (take 4 (drop at jhr)) signature) others.0);
      revision = eqb-true (u16_at 4 (drop at jhr)) 1 (not_false (eqb (u16_at 4 (drop at jhr)) 1) others.1);
      fields = refl;
    }

stands_right : (jhr : List ℕ) (at : ℕ) (h : MessageHeader) → MessageHeaderStands (drop at jhr) h → wrong_header jhr at ≡ false
unfolding wrong_header
stands_right jhr at h s =
    let whole = s.whole in
    no_test_fails _ _ _ (le-ltb (length jhr) (at + 76) (omega (arith, length-drop at jhr, whole))) ((bytes_eq-Decides (take 4 (drop at jhr)) signature).1 s.signed) (eq-eqb (u16_at 4 (drop at jhr)) 1 s.revision)

refused_wrong : (jhr : List ℕ) (at : ℕ) (e : RecordError) (r : Result MessageHeader RecordError) → r ≡ Err e → ((h : MessageHeader) → (r ≡ Ok h) ↔ MessageHeaderStands (drop at jhr) h) → wrong_header jhr at ≡ true
refused_wrong jhr at e r is reads = elim (wrong_header jhr at) as (λ b. wrong_header jhr at ≡ b → b ≡ true) [
  | true ↦ λ w. refl
  | false ↦ λ w. absurd (let ok = sym is ∙ (reads (header_in jhr at)).1 (right_stands jhr at w) in cc)
] refl

-- what is read there
pub found_header : (jhr : List ℕ) (at : ℕ) (r : Result MessageHeader RecordError) → ((h : MessageHeader) → (r ≡ Ok h) ↔ MessageHeaderStands (drop at jhr) h)
    → MatchOption (result_ok r) (wrong_header jhr at ≡ true) (λ header. (wrong_header jhr at ≡ false) × (header ≡ header_in jhr at))
found_header jhr at (Ok h) reads = let s = (reads h).0 refl in (stands_right jhr at h s, s.fields)
found_header jhr at (Err e) reads = refused_wrong jhr at e (Err e) refl reads
