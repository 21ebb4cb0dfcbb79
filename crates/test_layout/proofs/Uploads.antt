-- A ledger without upload records may get one that a ledger of as many users has.
use Rattle.std.proofs.Common.{◌≡◌, ⊎_elim, List, ℕ, [], ◌∷◌, ◌++◌, length, Some, None, refl, sym, ◌∙◌, subst, arith, inl, inr}
use Rattle.std.proofs.lemmas.List.{nil_from_length}
use Rattle.std.proofs.lemmas.List.Elements.{All-cons, All-nil}
use Rattle.std.proofs.lemmas.Option.{slice_get_cases}
use Rattle.std.specs.Prelude.{◌≤◌, All, slice_get}
use Rattle.board_ledger.specs.UploadPuts.{with_upload}
use Rattle.board_ledger.specs.Uploads.{IsUpload}
use Rattle.board_ledger.specs.Valid.{IsLedger, IsStored, PairsDiffer}
use Rattle.board_ledger.specs.declared.ledger.Ledger.{Ledger}
use Rattle.board_ledger.specs.declared.upload.UploadRecord.{UploadRecord}

-- a ledger that a file has, where its version is 2
pub of_second : (l : Ledger) → IsStored l → l.version ≡ 2 → IsLedger l
of_second l (inl ok) is = ok
of_second l (inr ok) is = absurd (omega (arith, ok.version, is))

found : (users : ℕ) (uploads : List UploadRecord) (r : UploadRecord) → All (IsUpload users) uploads → Some r ≡ slice_get uploads 0 → IsUpload users r
found users uploads r all is = ⊎_elim
    (λ at. let same : at.0 ≡ r = let e = is ∙ at.2 in cc in subst (IsUpload users) same (subst (IsUpload users) at.3 (all 0 at.0 at.1)))
    (λ past. let never : Some r ≡ None = is ∙ past.1 in absurd (cc never)) (slice_get_cases uploads 0).1

pub with_first : (l other : Ledger) (r : UploadRecord) → IsLedger l → IsLedger other → length l.uploads ≡ 0 → length l.users ≡ length other.users → Some r ≡ slice_get other.uploads 0 → IsLedger (with_upload r l)
with_first l other r is that count alike first =
    let none : l.uploads ≡ [] = nil_from_length l.uploads count in
    let one : IsUpload (length l.users) r = subst (λ (count : ℕ). IsUpload count r) (sym alike) (found (length other.users) other.uploads r that.uploads first) in
    record {
      version = is.version;
      setup = is.setup;
      created = is.created;
      few_users = is.few_users;
      users = is.users;
      names = is.names;
      few_uploads = subst (λ (uploads : List UploadRecord). length (uploads ++ r ∷ []) ≤ 100000) (sym none) (omega arith);
      uploads = subst (λ (uploads : List UploadRecord). All (IsUpload (length l.users)) (uploads ++ r ∷ [])) (sym none) (All-cons (IsUpload (length l.users)) r [] one (All-nil (IsUpload (length l.users))));
      pairs = subst (λ (uploads : List UploadRecord). PairsDiffer (uploads ++ r ∷ [])) (sym none) (refl, tt);
    }
