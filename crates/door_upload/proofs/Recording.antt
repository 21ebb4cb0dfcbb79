-- A board keeps a record more of a user who is there and sent no packet of the digest.
use Rattle.std.proofs.Common.{◌≡◌, ℕ, ◌+◌, ◌-◌, ◌<◌, ◌≤◌, Bool, true, false, not, cond, ◌&&◌, ◌||◌, eqb, leb, ltb, List, [], ◌∷◌, length, refl, arith}
use Rattle.std.specs.Prelude.{Option, Some, None, IsSome, option_map, nat_lt}
use Rattle.std.specs.List.{find, list_any}
use Rattle.std.specs.Str.{bytes_eq}
use Rattle.std.proofs.lemmas.Bool.{and_from, leb-false, le-ltb, lt-ltb, ltb-false, ne_eqb, not_from_false}
use Rattle.std.proofs.lemmas.Option.{slice_get_within}
use Rattle.board_layout.specs.Board.{Board}
use Rattle.board_layout.specs.Layout.{board_size}
use Rattle.board_layout.specs.Lookups.{user_of}
use Rattle.board_layout.specs.Valid.{board_limit}
use Rattle.board_ledger.specs.Limits.{upload_limit, verdict_limit}
use Rattle.board_ledger.specs.Uploads.{is_repeated, too_many, wrong_user, upload_size}
use Rattle.board_ledger.specs.declared.upload.UploadRecord.{UploadRecord}
use Rattle.board_ledger.specs.declared.user.User.{User}
use Rattle.door_upload.specs.Upload.{UploadRefusal, Uploads, Size, record_refusal, size_with_record}
use Rattle.jam_records.specs.declared.message.Message.{Message}
use Rattle.mail_board.specs.Readers.{upload_of}
use Rattle.mail_board.proofs.offer_changes.UserLaws.{id_above, user_there}
use Rattle.post_changes.specs.Posted.{upload_record}
use Rattle.post_changes.specs.Recorded.{is_new_upload, may_record}

-- ---- there is room
unrefused : (many long : Bool) (why : UploadRefusal) → cond many (Some Uploads) (cond long (Some why) None) ≡ None → (many ≡ false) × (long ≡ false)
unrefused true long why is = absurd (cc is)
unrefused false true why is = absurd (cc is)
unrefused false false why is = (refl, refl)

pub few_records : (b : Board) → record_refusal b ≡ None → length b.ledger.uploads < upload_limit
few_records b none = leb-false upload_limit (length b.ledger.uploads) (unrefused (leb upload_limit (length b.ledger.uploads)) (ltb board_limit (size_with_record b)) (Size (size_with_record b)) none).0

pub room_for_record : (b : Board) → record_refusal b ≡ None → board_size b + upload_size ≤ board_limit
room_for_record b none = ltb-false board_limit (size_with_record b) (unrefused (leb upload_limit (length b.ledger.uploads)) (ltb board_limit (size_with_record b)) (Size (size_with_record b)) none).1

-- ---- the record is a new one
neither : {A B : Type 0} (t : Bool) (x : A) (value : A → B) (o : Option A) → option_map value (cond t (Some x) o) ≡ None → (t ≡ false) × (option_map value o ≡ None)
neither true x value o e = absurd (cc e)
neither false x value o e = (refl, e)

none_passes : {A B : Type 0} (test : A → Bool) (value : A → B) (items : List A) → option_map value (find test items) ≡ None → list_any test items ≡ false
none_passes test value [] none = refl
none_passes test value (x ∷ items) none =
    let parts = neither (test x) x value (find test items) none in
    λ i. parts.0 i || none_passes test value items parts.1 i

module _ (b : Board) (id refused : ℕ) (digest : List ℕ) (posts : List (ℕ × Message)) where
  record_is : UploadRecord
  record_is = upload_record id digest refused posts

  known : (o : Option User) → user_of id b ≡ o → IsSome o → wrong_user (length b.ledger.users) record_is ≡ false
  unfolding record_is
  known None none some = absurd (cc some)
  known (Some u) here some =
      let above : 0 < id = id_above b id u here in
      let within : id - 1 < length b.ledger.users = slice_get_within b.ledger.users (id - 1) u (user_there b id u here) in
      λ i. ne_eqb id 0 (λ e. omega (arith, e, above)) i || le-ltb (length b.ledger.users) id (omega (arith, above, within)) i

  pub record_may : IsSome (user_of id b) → upload_of id digest b ≡ None → length b.ledger.uploads < upload_limit → length posts + refused ≤ verdict_limit → may_record b.ledger (upload_record id digest refused posts) ≡ true
  unfolding record_is
  record_may there new few counts =
      let free : is_repeated b.ledger.uploads record_is ≡ false = none_passes (λ (e : UploadRecord). eqb e.user id && bytes_eq e.digest digest) (λ (e : UploadRecord). e.counts) b.ledger.uploads new in
      and_from (not (wrong_user (length b.ledger.users) record_is) && not (too_many record_is.counts)) (is_new_upload b.ledger record_is)
      (and_from (not (wrong_user (length b.ledger.users) record_is)) (not (too_many record_is.counts)) (not_from_false (wrong_user (length b.ledger.users) record_is) (known (user_of id b) refl there)) (not_from_false (too_many record_is.counts) (le-ltb verdict_limit (length posts + refused) counts)))
      (and_from (nat_lt (length b.ledger.uploads) upload_limit) (not (is_repeated b.ledger.uploads record_is)) (lt-ltb (length b.ledger.uploads) upload_limit few) (not_from_false (is_repeated b.ledger.uploads record_is) free))
