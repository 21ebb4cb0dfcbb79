-- Reading counted records: from both sides, and one after the other as a loop does.
use Rattle.std.proofs.Common.{◌≡◌, ℕ, zero, suc, List, [], ◌∷◌, ◌++◌, length, drop, Option, Result, Ok, refl, sym, ap, ◌∙◌, subst, append_assoc}
use Rattle.std.specs.Prelude.{All}
use Rattle.std.specs.List.{flat_map}
use Rattle.std.proofs.lemmas.List.{append-nil, drop_at}
use Rattle.std.proofs.lemmas.List.Elements.{All-drop}
use Rattle.jam_records.specs.byte_lists.Byte.{IsByte}
use Rattle.jam_records.specs.declared.damage.Damage.{Damage}
use Rattle.damage_rules.specs.Rules.{◌>>=◌, Stops}
use Rattle.damage_rules.proofs.KeptRules.{bind_ok, ok_is, step_fails}
use Rattle.board_ledger.specs.Records.{records_at, EachBehind}

-- the records that were found behind those before, and what is said of them
pub record Taken {A : Type 0} (text : A → List ℕ) (right : List A → A → Type 0) (n : ℕ) (before : List A) (bytes : List ℕ) (found : List A × List ℕ) : Type 0 where
  pub new : List A
  pub all : found.0 ≡ before ++ new
  pub count : length new ≡ n
  pub whole : bytes ≡ flat_map text new ++ found.1
  pub each : EachBehind right before new
  pub rest : All IsByte found.1

pub records_take : {A : Type 0} (read : List A → List ℕ → Result (A × ℕ) Damage) (text : A → List ℕ) (right : List A → A → Type 0)
    → ((before : List A) (bytes : List ℕ) (x : A × ℕ) → All IsByte bytes → read before bytes ≡ Ok x → (bytes ≡ text x.0 ++ drop x.1 bytes) × right before x.0)
    → (n : ℕ) (before : List A) (bytes : List ℕ) (found : List A × List ℕ) → All IsByte bytes → records_at read n before bytes ≡ Ok found → Taken text right n before bytes found
unfolding records_at
records_take read text right one zero before bytes found fits e =
    let same = ok_is (before, bytes) found e in
    record {
      new = [];
      all = sym (ap (λ p. p.0) same) ∙ sym (append-nil before);
      count = refl;
      whole = ap (λ p. p.1) same;
      each = tt;
      rest = subst (All IsByte) (ap (λ p. p.1) same) fits;
    }
records_take read text right one (suc n) before bytes found fits e =
    let a = bind_ok (read before bytes) (λ x. records_at read n (before ++ x.0 ∷ []) (drop x.1 bytes)) found e in
    let first = one before bytes a.0 fits a.1 in
    let others = records_take read text right one n (before ++ a.0.0 ∷ []) (drop a.0.1 bytes) found (All-drop IsByte a.0.1 bytes fits) a.2 in
    record {
      new = a.0.0 ∷ others.new;
      all = others.all ∙ append_assoc before (a.0.0 ∷ []) others.new;
      count = ap suc others.count;
      whole = first.0 ∙ (ap (λ xs. text a.0.0 ++ xs) others.whole ∙ sym (append_assoc (text a.0.0) (flat_map text others.new) found.1));
      each = (first.1, others.each);
      rest = others.rest;
    }

pub records_again : {A : Type 0} (read : List A → List ℕ → Result (A × ℕ) Damage) (text : A → List ℕ) (right : List A → A → Type 0)
    → ((before : List A) (x : A) (rest : List ℕ) → right before x → read before (text x ++ rest) ≡ Ok (x, length (text x)))
    → (new before : List A) (rest : List ℕ) → EachBehind right before new → records_at read (length new) before (flat_map text new ++ rest) ≡ Ok (before ++ new, rest)
unfolding records_at
records_again read text right one [] before rest each = ap (λ xs. Ok (xs, rest)) (sym (append-nil before))
records_again read text right one (x ∷ new) before rest each =
    let behind : List ℕ = flat_map text new ++ rest in
    ap (records_at read (suc (length new)) before) (append_assoc (text x) (flat_map text new) rest)
    ∙ (ap (λ r. r >>= λ y. records_at read (length new) (before ++ y.0 ∷ []) (drop y.1 (text x ++ behind))) (one before x behind each.0)
    ∙ (ap (records_at read (length new) (before ++ x ∷ [])) (drop_at (text x) behind (length (text x)) refl)
    ∙ (records_again read text right one new (before ++ x ∷ []) rest each.1
    ∙ ap (λ xs. Ok (xs, rest)) (append_assoc before (x ∷ []) new))))

-- ---- a loop: what was read before, and what is still read
pub records_more : {A : Type 0} (read : List A → List ℕ → Result (A × ℕ) Damage) (n left : ℕ) (before new : List A) (bytes rest : List ℕ) (x : A × ℕ) (total : Result (List A × List ℕ) Damage)
    → n ≡ suc left → read before bytes ≡ Ok x → new ≡ before ++ x.0 ∷ [] → rest ≡ drop x.1 bytes → records_at read n before bytes ≡ total → records_at read left new rest ≡ total
unfolding records_at
records_more read n left before new bytes rest x total count is e r so_far =
    rw (e, r) (sym (ap (λ y. y >>= λ z. records_at read left (before ++ z.0 ∷ []) (drop z.1 bytes)) is) ∙ (ap (λ k. records_at read k before bytes) (sym count) ∙ so_far))

pub records_fail : {A : Type 0} (read : List A → List ℕ → Result (A × ℕ) Damage) (n left : ℕ) (before : List A) (bytes : List ℕ) (e : Option Damage) (total : Result (List A × List ℕ) Damage)
    → n ≡ suc left → Stops e (read before bytes) → records_at read n before bytes ≡ total → Stops e total
unfolding records_at
records_fail read n left before bytes e total count h so_far =
    subst (Stops e) (ap (λ k. records_at read k before bytes) (sym count) ∙ so_far) (step_fails e (read before bytes) (λ z. records_at read left (before ++ z.0 ∷ []) (drop z.1 bytes)) h)

pub records_done : {A : Type 0} (read : List A → List ℕ → Result (A × ℕ) Damage) (n : ℕ) (before : List A) (bytes : List ℕ) (total : Result (List A × List ℕ) Damage)
    → n ≡ 0 → records_at read n before bytes ≡ total → total ≡ Ok (before, bytes)
unfolding records_at
records_done read n before bytes total none so_far = sym so_far ∙ ap (λ k. records_at read k before bytes) none

-- ---- two things that are right of each item
pub each_both : {A : Type 0} (P : A → Type 0) (Q R : List A → A → Type 0) → ((before : List A) (x : A) → R before x → P x × Q before x) → (before xs : List A) → EachBehind R before xs → EachBehind (λ b x. P x) before xs × EachBehind Q before xs
each_both P Q R split before [] each = (tt, tt)
each_both P Q R split before (x ∷ xs) each =
    let here = split before x each.0 in
    let others = each_both P Q R split (before ++ x ∷ []) xs each.1 in
    ((here.0, others.0), (here.1, others.1))

pub both_each : {A : Type 0} (P : A → Type 0) (Q : List A → A → Type 0) (before xs : List A) → EachBehind (λ b x. P x) before xs → EachBehind Q before xs → EachBehind (λ b x. P x × Q b x) before xs
both_each P Q before [] a b = tt
both_each P Q before (x ∷ xs) a b = ((a.0, b.0), both_each P Q (before ++ x ∷ []) xs a.1 b.1)
