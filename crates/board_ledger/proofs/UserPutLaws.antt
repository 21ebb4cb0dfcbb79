-- The put of a user's record makes of the ledger's text that with this user in the place.
use Rattle.std.proofs.Common.{◌≡◌, true, ℕ, zero, suc, ◌+◌, ◌≤◌, ◌==◌, List, [], ◌∷◌, ◌++◌, length, take, drop, set, refl, sym, ap, ◌∙◌, subst, arith, append-nil, length-append, length-drop, length-take}
use Rattle.std.specs.Prelude.{nat_le, slice_get, Option, Some, None, IsSomeAnd}
use Rattle.std.specs.List.{flat_map}
use Rattle.std.proofs.lemmas.Bool.{and_from, le-leb, ne_eqb, cond-false}
use Rattle.std.proofs.lemmas.List.{drop_all, get_or-set_same, length-set}
use Rattle.std.proofs.lemmas.List.Sums.{sum_by-cons}
use Rattle.std.proofs.lemmas.Option.{get_or_from_slice_get, slice_get_within, none-some, same_Some}
use Rattle.byteorder.specs.Endian.{little_bytes}
use Rattle.intent_journal.specs.door_outside.Disk.{written}
use Rattle.jam_records.specs.record_numbers.Numbers.{u32s_text}
use Rattle.intent_journal.specs.Patches.{bytes_of, byte_count}
use Rattle.intent_journal.specs.declared.patch.Patch.{Patch}
use Rattle.intent_journal.specs.declared.patch.Patch.TheVariants.{Put}
use Rattle.board_ledger.specs.Conferences.{conference_text}
use Rattle.board_ledger.specs.Ledger.{ledger_text, text_in}
use Rattle.board_ledger.specs.OneFile.{TurnsFile}
use Rattle.board_ledger.specs.Opening.{magic, fixed_text, setup_text, opening_text}
use Rattle.board_ledger.specs.Uploads.{upload_text}
use Rattle.board_ledger.specs.UserPuts.{record_in, with_user_at, user_place, user_puts}
use Rattle.board_ledger.specs.Users.{IsUser}
use Rattle.board_ledger.specs.Valid.{IsLedger}
use Rattle.board_ledger.specs.declared.ledger.Ledger.{Ledger}
use Rattle.board_ledger.specs.declared.user.User.{User}
use Rattle.open_offers.specs.declared.version.Version.TheVariants.{Second}
use Rattle.board_ledger.proofs.SetupBounds.{user_small}
use Rattle.board_ledger.proofs.SizeLaws.{user_length, behind_most}
use Rattle.intent_journal.proofs.Writes.{no_gap, written_before, written_behind, written_in}

-- the user of a place whose name is as long, where there is one
pub room_there : (o : Option User) (new : User) → IsSomeAnd o (λ old. length new.name ≡ length old.name) → (old : User) × (o ≡ Some old) × (length new.name ≡ length old.name)
room_there None new room = absurd room
room_there (Some old) new room = (old, refl, room)

-- ---- records of which one is replaced by one as long
none_taken : (xs : List ℕ) → take 0 xs ≡ []
none_taken [] = refl
none_taken (x ∷ xs) = refl

-- all of a text written over
over : (old bytes : List ℕ) → length bytes ≡ length old → written old 0 bytes ≡ bytes
over old bytes same = no_gap old bytes 0 (omega arith) ∙ ((λ i. none_taken old i ++ (bytes ++ drop_all (0 + length bytes) old (omega (arith, same)) i)) ∙ append-nil bytes)

module _ {A : Type 0} (f : A → List ℕ) where
  ends : (xs : List A) (place : ℕ) (old new : A) → slice_get xs place ≡ Some old → length (f new) ≡ length (f old) → length (flat_map f (take place xs)) + length (f new) ≤ length (flat_map f xs)
  ends [] place old new here same = absurd (none-some old here)
  ends (x ∷ xs) zero old new here same = omega (arith, length-append (f x) (flat_map f xs), same, ap (λ (y : A). length (f y)) (same_Some x old here))
  ends (x ∷ xs) (suc place) old new here same = omega (arith, length-append (f x) (flat_map f xs), length-append (f x) (flat_map f (take place xs)), ends xs place old new here same)

  record_put : (xs : List A) (place : ℕ) (old new : A) → slice_get xs place ≡ Some old → length (f new) ≡ length (f old) → written (flat_map f xs) (length (flat_map f (take place xs))) (f new) ≡ flat_map f (set xs place new)
  record_put [] place old new here same = absurd (none-some old here)
  record_put (x ∷ xs) zero old new here same =
      let long : length (f new) ≡ length (f x) = omega (arith, same, ap (λ (y : A). length (f y)) (same_Some x old here)) in
      written_before (f x) (flat_map f xs) (f new) 0 (omega (arith, long)) ∙ ap (λ (ys : List ℕ). ys ++ flat_map f xs) (over (f x) (f new) long)
  record_put (x ∷ xs) (suc place) old new here same =
      let at : ℕ = length (flat_map f (take place xs)) in
      ap (λ (n : ℕ). written (f x ++ flat_map f xs) n (f new)) (length-append (f x) (flat_map f (take place xs)))
      ∙ (written_behind (f x) (flat_map f xs) (f new) at (omega (arith, ends xs place old new here same))
      ∙ ap (λ (ys : List ℕ). f x ++ ys) (record_put xs place old new here same))

-- ---- the users
pub user_is : (l : Ledger) (place : ℕ) (old new : User) → slice_get l.users place ≡ Some old → IsLedger (with_user_at place new l) → IsUser (length l.setup.conferences) new
user_is l place old new here ok =
    let within = slice_get_within l.users place old here in
    subst (IsUser (length l.setup.conferences)) (get_or-set_same l.users place new new within) (ok.users place new (omega (arith, within, length-set l.users place new)))

pub as_long : (l : Ledger) (place : ℕ) (old new : User) → slice_get l.users place ≡ Some old → length new.name ≡ length old.name → IsLedger l → IsLedger (with_user_at place new l) → length (record_in l new) ≡ length (record_in l old)
as_long l place old new here same was ok =
    let count : ℕ = length l.setup.conferences in
    let old_is : IsUser count old = subst (IsUser count) (get_or_from_slice_get l.users place old old here) (was.users place old (slice_get_within l.users place old here)) in
    omega (arith, user_length Second count new (user_is l place old new here ok), user_length Second count old old_is, same)

-- ---- the ledger
module _ (l : Ledger) (place : ℕ) (old new : User) (here : slice_get l.users place ≡ Some old) (same : length (record_in l new) ≡ length (record_in l old)) where
  abbrev text_of : User → List ℕ
  text_of u = record_in l u

  opening_stays : opening_text Second (with_user_at place new l) ≡ opening_text Second l
  unfolding fixed_text
  opening_stays = λ i.
      (magic ++ (flat_map (little_bytes 2) (2 ∷ length l.setup.conferences ∷ length-set l.users place new i ∷ length l.setup.zones ∷ []) ++ u32s_text (length l.uploads ∷ l.created ∷ l.setup.serial ∷ [])))
      ++ setup_text l.setup

  pub record_ends : user_place place l + length (record_in l new) ≤ length (ledger_text l)
  unfolding text_in
  record_ends =
      let c : List ℕ = flat_map conference_text l.setup.conferences in
      let u : List ℕ = flat_map text_of l.users in
      let r : List ℕ = flat_map upload_text l.uploads in
      omega (arith, ends text_of l.users place old new here same, length-append (opening_text Second l) (c ++ (u ++ r)), length-append c (u ++ r), length-append u r)

  replaced : written (ledger_text l) (user_place place l) (record_in l new) ≡ ledger_text (with_user_at place new l)
  unfolding text_in
  replaced =
      let c : List ℕ = flat_map conference_text l.setup.conferences in
      let u : List ℕ = flat_map text_of l.users in
      let r : List ℕ = flat_map upload_text l.uploads in
      written_in (opening_text Second l) c u r (record_in l new) (length (opening_text Second l) + length c) (length (flat_map text_of (take place l.users))) refl (ends text_of l.users place old new here same)
      ∙ (λ i. sym opening_stays i ++ (c ++ (record_put text_of l.users place old new here same i ++ r)))

  pub put_length : length (ledger_text (with_user_at place new l)) ≡ length (ledger_text l)
  put_length =
      let at : ℕ = user_place place l in
      let text : List ℕ = ledger_text l in
      let behind : List ℕ = drop (at + length (record_in l new)) text in
      omega (
        arith,
        ap length replaced,
        ap length (no_gap text (record_in l new) at (omega (arith, record_ends))),
        record_ends,
        length-append (take at text) (record_in l new ++ behind),
        length-append (record_in l new) behind,
        length-take at text,
        length-drop (at + length (record_in l new)) text,
      )

  -- ---- the patch
  pub user_turns : TurnsFile 0 (ledger_text l) (ledger_text (with_user_at place new l)) (user_puts place new l)
  user_turns =
      let at : ℕ = user_place place l in
      record {
        starts = λ files e. and_from (nat_le at (length (files 0))) true (le-leb at (length (files 0)) (omega (arith, ap length e, record_ends))) refl;
        makes = λ files e. ap (λ (xs : List ℕ). written xs at (record_in l new)) e ∙ replaced;
        others = λ files other apart. cond-false (other == 0) _ _ (ne_eqb other 0 apart);
      }

  -- ---- as the function answers
  pub user_bytes : IsLedger l → IsLedger (with_user_at place new l) → byte_count (user_puts place new l) ≤ 1080
  user_bytes was ok =
      let count : ℕ = length l.setup.conferences in
      let is = user_is l place old new here ok in
      omega (
        arith,
        sum_by-cons (λ patch. length (bytes_of patch)) (Put 0 (user_place place l) (record_in l new)) [],
        user_length Second count new is,
        user_small new.name is.name,
        behind_most Second count was.setup.conferences.many,
      )

  pub one_patch : (none patches : List Patch) (file at : ℕ) (bytes : List ℕ) → none ≡ [] → file ≡ 0 → at ≡ user_place place l → bytes ≡ record_in l new → patches ≡ none ++ Put file at bytes ∷ [] → patches ≡ user_puts place new l
  one_patch none patches file at bytes empty ledger there text is = is ∙ (λ i. empty i ++ Put (ledger i) (there i) (text i) ∷ [])
