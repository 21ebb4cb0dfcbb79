-- Upload records whose digests begin unlike: none stands twice.
use Rattle.std.proofs.Common.{◌≡◌, ℕ, zero, suc, ◌+◌, ◌*◌, ◌-◌, ◌<◌, ◌≤◌, ◌&&◌, ◌||◌, Bool, true, false, cond, eqb, ltb, List, [], ◌∷◌, ◌++◌, length, map, drop, inl, inr, refl, sym, ap, ◌∙◌, subst, arith, append_assoc, append-nil}
use Rattle.std.specs.List.{IsDistinct, AllByRecursion, list_any}
use Rattle.std.specs.Str.{bytes_eq}
use Rattle.std.specs.Cmp.Lexicographic.{bytes_decides}
use Rattle.std.proofs.lemmas.Bool.{le-ltb, lt-ltb, eq-eqb, cases_Bool}
use Rattle.std.proofs.lemmas.List.{map-append}
use Rattle.std.proofs.lemmas.Map.Keys.{IsDistinct-head, IsDistinct-tail}
use Rattle.jam_records.specs.record_numbers.Numbers.{u32_at}
use Rattle.board_ledger.specs.Apart.{digest_number, digest_numbers}
use Rattle.board_ledger.specs.Uploads.{upload_in_record, is_repeated, upload_size}
use Rattle.board_ledger.specs.declared.upload.UploadRecord.{UploadRecord}

-- ---- the numbers, record by record
pub numbers_more : (n left : ℕ) (bytes : List ℕ) → n ≡ suc left → upload_size ≤ length bytes → digest_numbers n bytes ≡ digest_number (upload_in_record bytes) ∷ digest_numbers left (drop upload_size bytes)
unfolding digest_numbers
numbers_more n left bytes count long =
    ap (λ k. digest_numbers k bytes) count ∙ ap (λ short. cond short [] (digest_number (upload_in_record bytes) ∷ digest_numbers left (drop upload_size bytes))) (le-ltb _ _ long)

pub numbers_short : (n : ℕ) (bytes : List ℕ) → length bytes < upload_size → digest_numbers n bytes ≡ []
unfolding digest_numbers
numbers_short zero bytes short = refl
numbers_short (suc n) bytes short = ap (λ b. cond b [] (digest_number (upload_in_record bytes) ∷ digest_numbers n (drop upload_size bytes))) (lt-ltb _ _ short)

pub numbers_none : (n : ℕ) (bytes : List ℕ) → n ≡ 0 → digest_numbers n bytes ≡ []
unfolding digest_numbers
numbers_none n bytes none = ap (λ k. digest_numbers k bytes) none

-- the numbers so far, and those that are left
pub numbers_step : (n left : ℕ) (made new all : List ℕ) (number : ℕ) (bytes behind : List ℕ) → n ≡ suc left → upload_size ≤ length bytes → number ≡ digest_number (upload_in_record bytes) → new ≡ made ++ number ∷ [] → behind ≡ drop upload_size bytes
    → made ++ digest_numbers n bytes ≡ all → new ++ digest_numbers left behind ≡ all
numbers_step n left made new all number bytes behind count long is pushed rest so_far =
    let tail : List ℕ = digest_numbers left behind in
    let more : digest_numbers n bytes ≡ number ∷ tail = numbers_more n left bytes count long ∙ (λ i. sym is i ∷ digest_numbers left (sym rest i)) in
    ap (λ xs. xs ++ tail) pushed ∙ (append_assoc made (number ∷ []) tail ∙ (ap (λ xs. made ++ xs) (sym more) ∙ so_far))

pub numbers_end : (n : ℕ) (made all : List ℕ) (bytes : List ℕ) → digest_numbers n bytes ≡ [] → made ++ digest_numbers n bytes ≡ all → made ≡ all
numbers_end n made all bytes none so_far = sym (append-nil made) ∙ (ap (λ xs. made ++ xs) (sym none) ∙ so_far)

-- ---- records that begin unlike
and_false : (b : Bool) → (b && false) ≡ false
and_false true = refl
and_false false = refl

differs : (e r : UploadRecord) → eqb (digest_number e) (digest_number r) ≡ false → (eqb e.user r.user && bytes_eq e.digest r.digest) ≡ false
differs e r unlike = elim (cases_Bool (bytes_eq e.digest r.digest)) [
  | inl same ↦
      let digests : e.digest ≡ r.digest = (bytes_decides e.digest r.digest).0 same in
      let alike : eqb (digest_number e) (digest_number r) ≡ true = eq-eqb (digest_number e) (digest_number r) (ap (λ (xs : List ℕ). u32_at 0 xs * 0x1_0000_0000 + u32_at 4 xs) digests) in
      cc (alike, unlike)
  | inr other ↦ ap (λ b. eqb e.user r.user && b) other ∙ and_false (eqb e.user r.user)
]

in_middle : (P : ℕ → Type 0) (xs : List ℕ) (y : ℕ) (ys : List ℕ) → AllByRecursion P (xs ++ y ∷ ys) → P y
in_middle P [] y ys all = all.0
in_middle P (x ∷ xs) y ys all = in_middle P xs y ys all.1

apart_from : (uploads : List UploadRecord) (r : UploadRecord) (more : List ℕ) → IsDistinct eqb (map digest_number uploads ++ digest_number r ∷ more) → is_repeated uploads r ≡ false
apart_from [] r more apart = refl
apart_from (e ∷ uploads) r more apart =
    let tail : List ℕ = map digest_number uploads ++ digest_number r ∷ more in
    let here = differs e r (in_middle (λ y. eqb (digest_number e) y ≡ false) (map digest_number uploads) (digest_number r) more (IsDistinct-head eqb (digest_number e) tail apart)) in
    let others = apart_from uploads r more (IsDistinct-tail eqb (digest_number e) tail apart) in
    rw (here, others) refl

pub none_repeated : (uploads : List UploadRecord) (n left : ℕ) (bytes : List ℕ) → n ≡ suc left → IsDistinct eqb (map digest_number uploads ++ digest_numbers n bytes) → upload_size ≤ length bytes → is_repeated uploads (upload_in_record bytes) ≡ false
none_repeated uploads n left bytes count apart long =
    apart_from uploads (upload_in_record bytes) (digest_numbers left (drop upload_size bytes))
    (subst (λ (xs : List ℕ). IsDistinct eqb (map digest_number uploads ++ xs)) (numbers_more n left bytes count long) apart)

pub apart_more : (uploads new : List UploadRecord) (x : UploadRecord) (n left : ℕ) (bytes behind : List ℕ) → n ≡ suc left → upload_size ≤ length bytes → x ≡ upload_in_record bytes → new ≡ uploads ++ x ∷ [] → behind ≡ drop upload_size bytes
    → IsDistinct eqb (map digest_number uploads ++ digest_numbers n bytes) → IsDistinct eqb (map digest_number new ++ digest_numbers left behind)
apart_more uploads new x n left bytes behind count long is pushed rest apart =
    let mapped : map digest_number new ≡ map digest_number uploads ++ digest_number x ∷ [] = ap (map digest_number) pushed ∙ map-append digest_number uploads (x ∷ []) in
    subst (IsDistinct eqb)
    (sym (numbers_step n left (map digest_number uploads) (map digest_number new) (map digest_number uploads ++ digest_numbers n bytes) (digest_number x) bytes behind count long (ap digest_number is) mapped rest refl)) apart
