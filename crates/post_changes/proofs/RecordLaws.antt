-- A ledger with an upload record more: its shapes, its length, and just when it is valid.
use Rattle.std.proofs.Common.{◌≡◌, ◌≢◌, ℕ, ◌+◌, ◌<◌, ◌≤◌, true, false, not, ◌&&◌, ◌||◌, eqb, List, [], ◌∷◌, ◌++◌, length, refl, arith, length-append}
use Rattle.std.specs.Prelude.{All, nat_lt}
use Rattle.std.proofs.lemmas.Bool.{and_from, and_parts, eqb-false, le-ltb, lt-ltb, ltb-false, ltb-true, ne_eqb, not-true, not_from_false, or_parts}
use Rattle.std.proofs.lemmas.List.Elements.{All-append}
use Rattle.slot_changes.proofs.board_changes.FitLaws.{each_last, each_more, last_of, one_all}
use Rattle.board_layout.specs.Board.{shape_of, shapes_from, shapes_of}
use Rattle.board_ledger.proofs.SizeLaws.{ledger_length}
use Rattle.board_ledger.specs.Ledger.{ledger_text}
use Rattle.board_ledger.specs.Limits.{upload_limit, verdict_limit}
use Rattle.board_ledger.specs.Uploads.{IsUpload, is_repeated, too_many, wrong_user, upload_size}
use Rattle.board_ledger.specs.Valid.{IsLedger}
use Rattle.board_ledger.specs.declared.ledger.Ledger.{Ledger}
use Rattle.board_ledger.specs.declared.upload.UploadRecord.{UploadRecord}
use Rattle.byte_lists.specs.Byte.{IsByte}
use Rattle.board_ledger.specs.open_offers.declared.version.Version.TheVariants.{Second}
use Rattle.post_changes.specs.Posted.{with_record}
use Rattle.post_changes.specs.Recorded.{is_new_upload, may_record}
use Rattle.board_ledger.specs.setup_file.declared.conference.Conference.{Conference as SetupConference}

-- ---- shapes
same_from : (l : Ledger) (r : UploadRecord) (place : ℕ) (conferences : List SetupConference) → shapes_from (with_record r l) place conferences ≡ shapes_from l place conferences
same_from l r place [] = refl
same_from l r place (c ∷ conferences) = λ i. shape_of l place c.kind ∷ same_from l r (place + 1) conferences i

pub record_shapes : (l : Ledger) (r : UploadRecord) → shapes_of (with_record r l) ≡ shapes_of l
record_shapes l r = same_from l r 0 l.setup.conferences

-- ---- validity
module _ (l : Ledger) (r : UploadRecord) where
  all_uploads : IsLedger (with_record r l) → IsUpload (length l.users) r
  all_uploads next = last_of (IsUpload (length l.users)) l.uploads r next.uploads

  pub record_counts : IsLedger (with_record r l) → r.counts.posted + r.counts.refused ≤ verdict_limit
  record_counts next = (all_uploads next).counts

  upload_is : length r.digest ≡ 32 → All IsByte r.digest → wrong_user (length l.users) r ≡ false → too_many r.counts ≡ false → IsUpload (length l.users) r
  upload_is digest bytes user counts =
      let parts = or_parts (eqb r.user 0) (nat_lt (length l.users) r.user) user in
      let some : r.user ≢ 0 = eqb-false r.user 0 parts.0 in
      record {
        some = omega (arith, some);
        user = ltb-false (length l.users) r.user parts.1;
        digest = digest;
        bytes = bytes;
        counts = ltb-false verdict_limit (r.counts.posted + r.counts.refused) counts;
      }

  pub ledger_is : IsLedger l → length r.digest ≡ 32 → All IsByte r.digest → may_record l r ≡ true → IsLedger (with_record r l)
  ledger_is ok digest bytes may =
      let halves = and_parts (not (wrong_user (length l.users) r) && not (too_many r.counts)) (is_new_upload l r) may in
      let own = and_parts (not (wrong_user (length l.users) r)) (not (too_many r.counts)) halves.0 in
      let others = and_parts (nat_lt (length l.uploads) upload_limit) (not (is_repeated l.uploads r)) halves.1 in
      let few : length l.uploads < upload_limit = ltb-true (length l.uploads) upload_limit others.0 in
      let is : IsUpload (length l.users) r = upload_is digest bytes (not-true (wrong_user (length l.users) r) own.0) (not-true (too_many r.counts) own.1) in
      record {
        version = ok.version;
        setup = ok.setup;
        created = ok.created;
        few_users = ok.few_users;
        users = ok.users;
        names = ok.names;
        few_uploads = omega (arith, length-append l.uploads (r ∷ []), few);
        uploads = All-append (IsUpload (length l.users)) l.uploads (r ∷ []) ok.uploads (one_all (IsUpload (length l.users)) r is);
        pairs = each_more (λ before e. is_repeated before e ≡ false) [] l.uploads r ok.pairs (not-true (is_repeated l.uploads r) others.1);
      }

  pub was_free : IsLedger (with_record r l) → may_record l r ≡ true
  was_free next =
      let is = all_uploads next in
      let few : length l.uploads < upload_limit = omega (arith, next.few_uploads, length-append l.uploads (r ∷ [])) in
      let free : is_repeated l.uploads r ≡ false = each_last (λ before e. is_repeated before e ≡ false) [] l.uploads r next.pairs in
      let user : wrong_user (length l.users) r ≡ false = λ i. ne_eqb r.user 0 (λ e. omega (arith, e, is.some)) i || le-ltb (length l.users) r.user is.user i in
      and_from (not (wrong_user (length l.users) r) && not (too_many r.counts)) (is_new_upload l r)
      (and_from (not (wrong_user (length l.users) r)) (not (too_many r.counts)) (not_from_false (wrong_user (length l.users) r) user) (not_from_false (too_many r.counts) (le-ltb verdict_limit (r.counts.posted + r.counts.refused) is.counts)))
      (and_from (nat_lt (length l.uploads) upload_limit) (not (is_repeated l.uploads r)) (lt-ltb (length l.uploads) upload_limit few) (not_from_false (is_repeated l.uploads r) free))

  -- ---- how many bytes it has
  pub record_length : IsLedger l → length r.digest ≡ 32 → length (ledger_text (with_record r l)) ≡ length (ledger_text l) + upload_size
  record_length ok digest =
      let old = ledger_length Second l (λ k d within. (ok.uploads k d within).digest) in
      let each : All (λ (e : UploadRecord). length e.digest ≡ 32) (l.uploads ++ r ∷ []) =
      All-append (λ (e : UploadRecord). length e.digest ≡ 32) l.uploads (r ∷ []) (λ k d within. (ok.uploads k d within).digest)
      (one_all (λ (e : UploadRecord). length e.digest ≡ 32) r digest) in
      let new = ledger_length Second (with_record r l) each in
      omega (arith, old, new, length-append l.uploads (r ∷ []))
