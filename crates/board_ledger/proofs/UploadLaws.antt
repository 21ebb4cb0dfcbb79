-- An upload record is read exactly where its text stands.
use Rattle.std.proofs.Common.{◌≡◌, ℕ, ◌+◌, ◌^◌, ◌≤◌, ◌<◌, false, eqb, ltb, List, ◌++◌, length, take, drop, Ok, refl, sym, ap, ◌∙◌, subst, arith, length-append}
use Rattle.std.specs.Prelude.{All}
use Rattle.std.proofs.lemmas.Bool.{ltb-false, le-ltb}
use Rattle.std.proofs.lemmas.Bool.Decides.{nat_tests}
use Rattle.std.proofs.lemmas.List.{take-append-drop, take_at, drop_at, drop-drop, length-take, length-drop}
use Rattle.std.proofs.lemmas.List.Elements.{All-drop, All-take}
use Rattle.jam_records.specs.byte_lists.Byte.{IsByte}
use Rattle.jam_records.specs.record_numbers.Numbers.{u16_at, u32_at, u16_text, u32_text}
use Rattle.jam_records.proofs.record_numbers.NumberFronts.{u16_front, u32_front}
use Rattle.damage_rules.proofs.KeptRules.{Kept, rules_kept, kept_rules}
use Rattle.board_ledger.specs.Limits.{user_limit, verdict_limit}
use Rattle.board_ledger.specs.Uploads.{upload_text, upload_in_record, wrong_user, too_many, is_repeated, upload_rules, upload_at, IsUpload, upload_size}
use Rattle.board_ledger.specs.declared.upload.UploadRecord.{UploadRecord}
use Rattle.damage_rules.proofs.BoolTests.{or_false, both_false}
use Rattle.board_ledger.proofs.SizeLaws.{upload_length}
use Rattle.open_offers.proofs.TextLaws.{glue, split, u16_again, u32_again}

-- an upload record that is right behind those before
abbrev pub UploadRight : ℕ → List UploadRecord → UploadRecord → Type 0
UploadRight users before r = IsUpload users r × (is_repeated before r ≡ false)

upload_front : (bytes : List ℕ) → All IsByte bytes → upload_size ≤ length bytes → bytes ≡ upload_text (upload_in_record bytes) ++ drop upload_size bytes
unfolding upload_text upload_in_record
upload_front bytes all long =
    let digest : drop 2 bytes ≡ take 32 (drop 2 bytes) ++ drop 34 bytes = sym (take-append-drop 32 (drop 2 bytes)) ∙ ap (λ xs. take 32 (drop 2 bytes) ++ xs) (drop-drop 32 2 bytes) in
    let posted = u32_front 34 bytes all (omega arith) in
    let refused = u32_front 38 bytes all (omega arith) in
    let counts = glue (drop 34 bytes) (u32_text (u32_at 34 bytes)) (u32_text (u32_at 38 bytes)) (drop upload_size bytes) (drop 38 bytes) posted refused in
    let behind = glue (drop 2 bytes) (take 32 (drop 2 bytes)) (u32_text (u32_at 34 bytes) ++ u32_text (u32_at 38 bytes)) (drop upload_size bytes) (drop 34 bytes) digest counts in
    glue bytes (u16_text (u16_at 0 bytes)) (take 32 (drop 2 bytes) ++ (u32_text (u32_at 34 bytes) ++ u32_text (u32_at 38 bytes))) (drop upload_size bytes) (drop 2 bytes) (u16_front 0 bytes all (omega arith)) behind

above_zero : (n : ℕ) → eqb n 0 ≡ false → 1 ≤ n
above_zero n e = grind (arith, nat_tests)

digest_fits : (bytes : List ℕ) → All IsByte bytes → upload_size ≤ length bytes → (length (upload_in_record bytes).digest ≡ 32) × All IsByte (upload_in_record bytes).digest
unfolding upload_in_record
digest_fits bytes all long = (omega (arith, length-take 32 (drop 2 bytes), length-drop 2 bytes), All-take IsByte 32 (drop 2 bytes) (All-drop IsByte 2 bytes all))

pub upload_takes : (first users : ℕ) (before : List UploadRecord) (bytes : List ℕ) (x : UploadRecord × ℕ) → All IsByte bytes → upload_at first users before bytes ≡ Ok x → (bytes ≡ upload_text x.0 ++ drop x.1 bytes) × UploadRight users before x.0
unfolding upload_at upload_rules
upload_takes first users before bytes x all e =
    let r : UploadRecord = upload_in_record bytes in
    let k = rules_kept 0 (first + length before) (upload_rules users before bytes) (r, upload_size) x e in
    let long : upload_size ≤ length bytes = ltb-false (length bytes) upload_size k.0.0 in
    let user = or_false (eqb r.user 0) (ltb users r.user) k.0.1.0 in
    let digest = digest_fits bytes all long in
    let ok : IsUpload users r = record {
      some = above_zero r.user user.0;
      user = ltb-false users r.user user.1;
      digest = digest.0;
      bytes = digest.1;
      counts = ltb-false verdict_limit (r.counts.posted + r.counts.refused) k.0.1.1.1.0;
    } in
    subst (λ (y : UploadRecord × ℕ). (bytes ≡ upload_text y.0 ++ drop y.1 bytes) × UploadRight users before y.0) k.1 (upload_front bytes all long, (ok, k.0.1.1.0))

-- ---- what is written is read
not_zero : (n : ℕ) → 1 ≤ n → eqb n 0 ≡ false
not_zero n some = grind (arith, nat_tests)

abbrev made : ℕ → List ℕ → ℕ → ℕ → UploadRecord
made user digest posted refused = record { user = user; digest = digest; counts = record { posted = posted; refused = refused } }

upload_back : (r : UploadRecord) (rest : List ℕ) → r.user < 2 ^ 16 → length r.digest ≡ 32 → r.counts.posted < 2 ^ 32 → r.counts.refused < 2 ^ 32 → upload_in_record (upload_text r ++ rest) ≡ r
unfolding upload_in_record upload_text
upload_back r rest user digest posted refused =
    let counts : List ℕ = u32_text r.counts.posted ++ u32_text r.counts.refused in
    let whole : List ℕ = (u16_text r.user ++ (r.digest ++ counts)) ++ rest in
    let a = u16_again 0 whole r.user ((r.digest ++ counts) ++ rest) user (split whole (u16_text r.user) (r.digest ++ counts) rest refl) in
    let b : drop 2 whole ≡ r.digest ++ (counts ++ rest) = split (drop 2 whole) r.digest counts rest a.1 in
    let d : take 32 (drop 2 whole) ≡ r.digest = ap (take 32) b ∙ take_at r.digest (counts ++ rest) 32 digest in
    let e : drop 34 whole ≡ counts ++ rest = sym (drop-drop 32 2 whole) ∙ (ap (drop 32) b ∙ drop_at r.digest (counts ++ rest) 32 digest) in
    let f = u32_again 34 whole r.counts.posted (u32_text r.counts.refused ++ rest) posted (split (drop 34 whole) (u32_text r.counts.posted) (u32_text r.counts.refused) rest e) in
    let g = u32_again 38 whole r.counts.refused rest refused f.1 in
    λ i. made (a.0 i) (d i) (f.0 i) (g.0 i)

pub upload_again : (first users : ℕ) (before : List UploadRecord) (r : UploadRecord) (rest : List ℕ) → users ≤ user_limit → UploadRight users before r → upload_at first users before (upload_text r ++ rest) ≡ Ok (r, length (upload_text r))
unfolding upload_at upload_rules
upload_again first users before r rest few right =
    let ok = right.0 in
    let whole : List ℕ = upload_text r ++ rest in
    let is : upload_in_record whole ≡ r = upload_back r rest (omega (arith, ok.user)) ok.digest (omega (arith, ok.counts)) (omega (arith, ok.counts)) in
    let size = upload_length r ok.digest in
    let long : upload_size ≤ length whole = omega (arith, length-append (upload_text r) rest, size) in
    let user : wrong_user users r ≡ false = both_false (eqb r.user 0) (ltb users r.user) (not_zero r.user ok.some) (le-ltb _ _ ok.user) in
    let kept : Kept (upload_rules users before whole) = (
      le-ltb _ _ long,
      (
        ap (wrong_user users) is ∙ user,
        (
          ap (is_repeated before) is ∙ right.1,
          (ap (λ (x : UploadRecord). too_many x.counts) is ∙ le-ltb _ _ ok.counts, tt),
        ),
      ),
    ) in
    kept_rules 0 (first + length before) (upload_rules users before whole) (upload_in_record whole, upload_size) kept ∙ λ i. Ok (is i, sym size i)
