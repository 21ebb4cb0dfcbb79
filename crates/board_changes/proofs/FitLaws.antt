-- A board with a user more is valid just where the user may be enrolled and the files stay small enough.
use Rattle.std.proofs.Common.{◌≡◌, ℕ, ◌+◌, ◌<◌, ◌≤◌, Bool, true, false, ◌&&◌, not, List, [], ◌∷◌, ◌++◌, length, refl, sym, ◌∙◌, subst, arith, append_assoc, length-append}
use Rattle.std.specs.Prelude.{All, nat_le, nat_lt}
use Rattle.std.specs.List.{list_all}
use Rattle.std.proofs.lemmas.Bool.{and_from, and_parts, ltb-true, lt-ltb, not-true, not_from_false}
use Rattle.std.proofs.lemmas.List.{append-nil}
use Rattle.std.proofs.lemmas.List.Elements.{All-append, All-nil, All-cons, All-drop}
use Rattle.board_changes.specs.Changed.{joined_from, new_user, with_user, enrolled}
use Rattle.board_changes.specs.Enrolling.{is_free, may_enroll}
use Rattle.board_changes.proofs.UserSizes.{slots_stay, members_are}
use Rattle.board_layout.specs.Board.{Board}
use Rattle.board_layout.specs.Layout.{board_size}
use Rattle.board_layout.specs.Valid.{IsBoard, board_limit, highs_fit, offers_fit}
use Rattle.board_ledger.specs.open_offers.Offers.{IsOffer}
use Rattle.board_ledger.specs.Limits.{user_limit}
use Rattle.board_ledger.specs.Records.{EachBehind}
use Rattle.board_ledger.specs.Uploads.{IsUpload}
use Rattle.board_ledger.specs.Users.{IsUser, is_taken, right_members}
use Rattle.board_ledger.specs.Valid.{IsLedger}
use Rattle.board_ledger.specs.declared.ledger.Ledger.{Ledger}
use Rattle.board_ledger.specs.open_offers.declared.offer.OpenOffer.{OpenOffer}
use Rattle.board_ledger.specs.declared.upload.UploadRecord.{UploadRecord}
use Rattle.board_ledger.specs.declared.user.User.{User}
use Rattle.board_layout.specs.jam_layout.declared.conference.ConferenceContents.{ConferenceContents}
use Rattle.board_ledger.specs.setup_file.Texts.{is_user_name}

-- ---- highs
highs_stay : (members place : ℕ) (conferences : List ConferenceContents) (highs : List ℕ) → highs_fit (joined_from members place conferences) highs ≡ highs_fit conferences highs
highs_stay members place [] highs = refl
highs_stay members place (c ∷ conferences) [] = refl
highs_stay members place (c ∷ conferences) (high ∷ highs) = λ i. nat_le high (length (slots_stay members place c i)) && highs_stay members (place + 1) conferences highs i

offers_stay : (members place : ℕ) (conferences : List ConferenceContents) (offers : List OpenOffer) → offers_fit (joined_from members place conferences) offers ≡ offers_fit conferences offers
offers_stay members place conferences offers = λ i. list_all (λ o. highs_stay members place conferences o.highs i) offers

-- ---- the new user
new_user_is : (name : List ℕ) (net : Bool) (members count : ℕ) → is_user_name name ≡ true → right_members count members ≡ true → IsUser count (new_user name net members)
new_user_is name net members count named placed = record {
  name = named;
  members = placed;
  last = omega arith;
  offers = record { few = omega arith; each = All-nil (IsOffer count members); rise = tt };
}

-- ---- one item behind others
pub each_more : {A : Type 0} (right : List A → A → Type 0) (before xs : List A) (x : A) → EachBehind right before xs → right (before ++ xs) x → EachBehind right before (xs ++ x ∷ [])
each_more {A = A} right before [] x each here = (subst (λ (ys : List A). right ys x) (append-nil before) here, tt)
each_more {A = A} right before (y ∷ xs) x each here =
    (each.0, each_more right (before ++ y ∷ []) xs x each.1 (subst (λ (ys : List A). right ys x) (sym (append_assoc before (y ∷ []) xs)) here))

pub each_last : {A : Type 0} (right : List A → A → Type 0) (before xs : List A) (x : A) → EachBehind right before (xs ++ x ∷ []) → right (before ++ xs) x
each_last {A = A} right before [] x each = subst (λ (ys : List A). right ys x) (sym (append-nil before)) each.0
each_last {A = A} right before (y ∷ xs) x each = subst (λ (ys : List A). right ys x) (append_assoc before (y ∷ []) xs) (each_last right (before ++ y ∷ []) xs x each.1)

pub last_of : {A : Type 0} (P : A → Type 0) (xs : List A) (x : A) → All P (xs ++ x ∷ []) → P x
last_of P [] x all = all 0 x (omega arith)
last_of P (y ∷ xs) x all = last_of P xs x (All-drop P 1 (y ∷ (xs ++ x ∷ [])) all)

pub one_all : {A : Type 0} (P : A → Type 0) (x : A) → P x → All P (x ∷ [])
one_all P x here = All-cons P x [] here (All-nil P)

-- ---- the ledger with a user more
record MayHave (l : Ledger) (u : User) : Type 0 where
  name : is_user_name u.name ≡ true
  members : right_members (length l.setup.conferences) u.members ≡ true
  few : length l.users < user_limit
  free : is_taken l.users u.name ≡ false

parts : (l : Ledger) (u : User) → may_enroll l u.name u.members ≡ true → MayHave l u
parts l u may =
    let halves = and_parts (is_user_name u.name && right_members (length l.setup.conferences) u.members) (is_free l u.name) may in
    let own = and_parts (is_user_name u.name) (right_members (length l.setup.conferences) u.members) halves.0 in
    let others = and_parts (nat_lt (length l.users) user_limit) (not (is_taken l.users u.name)) halves.1 in
    record { name = own.0; members = own.1; few = ltb-true (length l.users) user_limit others.0; free = not-true (is_taken l.users u.name) others.1 }

ledger_is : (l : Ledger) (u : User) → IsLedger l → IsUser (length l.setup.conferences) u → MayHave l u → IsLedger (with_user u l)
ledger_is l u ok user may = record {
  version = ok.version;
  setup = ok.setup;
  created = ok.created;
  few_users = omega (arith, length-append l.users (u ∷ []), may.few);
  users = All-append (IsUser (length l.setup.conferences)) l.users (u ∷ []) ok.users (one_all (IsUser (length l.setup.conferences)) u user);
  names = each_more (λ before v. is_taken before v.name ≡ false) [] l.users u ok.names may.free;
  few_uploads = ok.few_uploads;
  uploads = λ k d within. more (ok.uploads k d within);
  pairs = ok.pairs;
}
  where
    more : {r : UploadRecord} → IsUpload (length l.users) r → IsUpload (length (l.users ++ u ∷ [])) r
    more is = record { some = is.some; user = omega (arith, is.user, length-append l.users (u ∷ [])); digest = is.digest; bytes = is.bytes; counts = is.counts }

was_enrollable : (l : Ledger) (u : User) → IsLedger (with_user u l) → may_enroll l u.name u.members ≡ true
was_enrollable l u next =
    let user : IsUser (length l.setup.conferences) u = last_of (IsUser (length l.setup.conferences)) l.users u next.users in
    let few : length l.users < user_limit = omega (arith, next.few_users, length-append l.users (u ∷ [])) in
    let free : is_taken l.users u.name ≡ false = each_last (λ before v. is_taken before v.name ≡ false) [] l.users u next.names in
    and_from (is_user_name u.name && right_members (length l.setup.conferences) u.members) (is_free l u.name)
    (and_from (is_user_name u.name) (right_members (length l.setup.conferences) u.members) user.name user.members)
    (and_from (nat_lt (length l.users) user_limit) (not (is_taken l.users u.name)) (lt-ltb (length l.users) user_limit few) (not_from_false (is_taken l.users u.name) free))

-- ---- the whole board
module _ (b : Board) (name : List ℕ) (net : Bool) (members : ℕ) where
  user : User
  user = new_user name net members

  pub board_fits : IsBoard b → may_enroll b.ledger name members ≡ true → board_size (enrolled name net members b) ≤ board_limit → IsBoard (enrolled name net members b)
  unfolding user
  board_fits ok may small =
      let has : MayHave b.ledger user = parts b.ledger user may in
      let new : IsUser (length b.ledger.setup.conferences) user = new_user_is name net members (length b.ledger.setup.conferences) has.name has.members in
      record {
        ledger = ledger_is b.ledger user ok.ledger new has;
        conferences = members_are b user ok;
        highs = All-append (λ (u : User). offers_fit (joined_from members 0 b.conferences) u.offers ≡ true) b.ledger.users (user ∷ [])
            (λ k d within. offers_stay members 0 b.conferences _ ∙ ok.highs k d within)
            (one_all (λ (u : User). offers_fit (joined_from members 0 b.conferences) u.offers ≡ true) user refl);
        small = small;
      }

  pub board_enrollable : IsBoard (enrolled name net members b) → may_enroll b.ledger name members ≡ true
  unfolding user
  board_enrollable next = was_enrollable b.ledger user next.ledger
