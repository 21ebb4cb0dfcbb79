-- The tests of an upload record in the code are those of its rules.
use Rattle.std.proofs.Common.{◌≡◌, ℕ, ◌+◌, ◌^◌, ◌<◌, ◌≤◌, Bool, ◌&&◌, eqb, ltb, List, [], ◌∷◌, ◌++◌, length, take, drop, refl, sym, ap, ◌∙◌, arith}
use Rattle.std.specs.Prelude.{All}
use Rattle.std.specs.List.{list_any}
use Rattle.std.specs.Str.{bytes_eq}
use Rattle.std.specs.Cmp.Lexicographic.{bytes_decides}
use Rattle.std.proofs.lemmas.Bool.{eqb-true, eq-eqb, and_parts}
use Rattle.std.proofs.lemmas.List.Elements.{All-drop}
use Rattle.byteorder.specs.Endian.{little_number}
use Rattle.jam_records.specs.byte_lists.Byte.{IsByte}
use Rattle.jam_records.specs.record_numbers.Numbers.{u16_text}
use Rattle.jam_records.proofs.record_numbers.NumberFronts.{u16_front}
use Rattle.jam_records.proofs.record_numbers.NumberLemmas.{number_of_bytes}
use Rattle.jam_records.specs.declared.damage.DamageRule.TheVariants.{Short, User as NoUser, Twice, Counts as WrongCounts}
use Rattle.damage_rules.specs.Rules.{by_rules}
use Rattle.board_ledger.specs.Uploads.{upload_in_record, wrong_user, too_many, is_repeated, upload_rules, upload_at, upload_size}
use Rattle.board_ledger.specs.declared.upload.UploadRecord.{UploadRecord}
use Rattle.damage_rules.proofs.BoolTests.{both_pass, same_tests}
use Rattle.open_offers.proofs.TextLaws.{u16_small}

-- the bytes of a user and a digest, by which records are told apart
abbrev pub pair_of : UploadRecord → List ℕ
pair_of r = u16_text r.user ++ r.digest

pub pair_front : (bytes : List ℕ) → All IsByte bytes → upload_size ≤ length bytes → take 34 bytes ≡ pair_of (upload_in_record bytes)
unfolding upload_in_record
pair_front bytes all long = ap (take 34) (u16_front 0 bytes all (omega arith))

pub user_small : (bytes : List ℕ) → All IsByte bytes → (upload_in_record bytes).user < 2 ^ 16
unfolding upload_in_record
user_small bytes all = u16_small 0 bytes all

same_pair : (e r : UploadRecord) → e.user < 2 ^ 16 → r.user < 2 ^ 16 → bytes_eq (pair_of e) (pair_of r) ≡ (eqb e.user r.user && bytes_eq e.digest r.digest)
same_pair e r small few =
    same_tests (bytes_eq (pair_of e) (pair_of r)) (eqb e.user r.user && bytes_eq e.digest r.digest)
    (λ same.
    let texts : pair_of e ≡ pair_of r = (bytes_decides (pair_of e) (pair_of r)).0 same in
    let users : e.user ≡ r.user = sym (number_of_bytes 2 e.user e.digest small) ∙ (ap (little_number 2) texts ∙ number_of_bytes 2 r.user r.digest few) in
    let digests : e.digest ≡ r.digest = ap (drop 2) texts in
    both_pass (eqb e.user r.user) (bytes_eq e.digest r.digest) (eq-eqb e.user r.user users) ((bytes_decides e.digest r.digest).1 digests))
    (λ same.
    let parts = and_parts (eqb e.user r.user) (bytes_eq e.digest r.digest) same in
    let users : e.user ≡ r.user = eqb-true e.user r.user parts.0 in
    let digests : e.digest ≡ r.digest = (bytes_decides e.digest r.digest).0 parts.1 in
    (bytes_decides (pair_of e) (pair_of r)).1 (ap (λ n. u16_text n ++ e.digest) users ∙ ap (λ xs. u16_text r.user ++ xs) digests))

pub pairs_met : (before : List UploadRecord) (r : UploadRecord) → All (λ e. e.user < 2 ^ 16) before → r.user < 2 ^ 16 → list_any (λ e. bytes_eq (pair_of e) (pair_of r)) before ≡ is_repeated before r
pairs_met [] r fit few = refl
pairs_met (e ∷ before) r fit few =
    let here = same_pair e r (fit 0 e (omega arith)) few in
    let others = pairs_met before r (All-drop (λ (x : UploadRecord). x.user < 2 ^ 16) 1 (e ∷ before) fit) few in
    rw (here, others) refl

-- the reading by what the tests answer
pub by_tests : (first users : ℕ) (before : List UploadRecord) (bytes : List ℕ) (short user twice counts : Bool)
    → short ≡ ltb (length bytes) upload_size → user ≡ wrong_user users (upload_in_record bytes) → twice ≡ is_repeated before (upload_in_record bytes) → counts ≡ too_many (upload_in_record bytes).counts
    → upload_at first users before bytes ≡ by_rules 0 (first + length before) ((Short, short) ∷ (NoUser, user) ∷ (Twice, twice) ∷ (WrongCounts, counts) ∷ []) (upload_in_record bytes, upload_size)
unfolding upload_at upload_rules
by_tests first users before bytes short user twice counts a b c d =
    λ i. by_rules 0 (first + length before) ((Short, sym a i) ∷ (NoUser, sym b i) ∷ (Twice, sym c i) ∷ (WrongCounts, sym d i) ∷ []) (upload_in_record bytes, upload_size)
