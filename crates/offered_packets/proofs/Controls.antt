-- The control of a valid board's user can be written.
use Rattle.std.proofs.Common.{◌≡◌, ◌≢◌, ℕ, zero, suc, ◌+◌, ◌/◌, ◌%◌, ◌^◌, ◌<◌, ◌≤◌, Bool, true, false, not, ◌&&◌, eqb, ltb, leb, List, [], ◌∷◌, length, get_or, refl, sym, ap, ◌∙◌, inl, inr, arith}
use Rattle.std.specs.Prelude.{Option, Some, None, option_map, IsTrue, Contains, codes}
use Rattle.std.specs.Char.{to_ascii_uppercase}
use Rattle.std.specs.Int.{IsInRange, bit_at}
use Rattle.std.specs.List.{All, filter, list_all, enumerate_from}
use Rattle.std.specs.Str.{str_to_ascii_uppercase}
use Rattle.std.proofs.lemmas.Bool.{and_parts, leb-true, ltb-true, eqb-false, not-true, cases_lt, cond-true, cond_both, eq-eqb}
use Rattle.std.proofs.lemmas.Bool.Decides.{nat_tests}
use Rattle.std.proofs.lemmas.Option.{none-some, same_Some}
use Rattle.std.proofs.lemmas.List.{length-map}
use Rattle.std.proofs.lemmas.List.Elements.{All-nil, All-cons, All-map, All-filter, All-contains, All-head, All-tail, All-weaker}
use Rattle.std.proofs.lemmas.List.Sums.{AllPass-from_list_all, length-filter, count_by-le-length}
use Rattle.std.proofs.lemmas.List.FromFn.{length-enumerate_from, get_or-enumerate_from}
use Rattle.std.proofs.lemmas.Nat.Bits.{bit_at_lowest, bit_at-suc}
use Rattle.std.proofs.Math.Nat.{pow-suc}
use Rattle.board_layout.specs.Board.{Board}
use Rattle.board_layout.specs.Valid.{IsBoard}
use Rattle.board_ledger.specs.Users.{is_member, right_members, IsUser}
use Rattle.board_ledger.specs.declared.user.User.{User}
use Rattle.jam_records.specs.declared.message.Kind.TheVariants.{Local}
use Rattle.qwk_control.specs.Line.{IsId}
use Rattle.qwk_control.specs.Written.{IsText, ConferenceFits, ConferencesFit, FilesFit, WritableControl, control_text}
use Rattle.qwk_control.specs.declared.control.Control.{Control}
use Rattle.qwk_moments.specs.Moments.{stamp_text}
use Rattle.board_ledger.specs.setup_file.Texts.{is_printed_byte, is_printed, is_board_text, is_name_byte, has_bare_ends, is_user_name, is_letter_or_digit, is_bbsid, is_conference_name}
use Rattle.board_ledger.specs.setup_file.Valid.{IsSetupConference, AreSetupConferences}
use Rattle.board_ledger.specs.setup_file.declared.conference.Conference.{Conference}
use Rattle.offered_packets.specs.Control.{five_digits, listed, control}
use Rattle.offered_packets.proofs.Listings.{is_joined, entry}
use Rattle.offered_packets.proofs.PlainTexts.{IsPlain, upper_plain}

-- ---- texts
plain_is_text : (text : List ℕ) → IsPlain text → IsText text
plain_is_text text plain = λ k d within. let le : 0x20 ≤ get_or text k d = plain k d within in ((λ e. omega arith), (λ e. omega arith))

printed_plain : (text : List ℕ) → is_printed text ≡ true → IsPlain text
printed_plain text e = λ k d within. leb-true 0x20 _ (and_parts (leb 0x20 _) (leb _ 0x7E) (AllPass-from_list_all is_printed_byte text e k d within)).0

board_text_is : (text : List ℕ) → IsTrue (is_board_text text) → IsText text
unfolding is_board_text
board_text_is text e = plain_is_text text (printed_plain text (and_parts (leb (length text) 60) (is_printed text) e).1)

name_plain : (name : List ℕ) → IsTrue (is_user_name name) → IsPlain name
unfolding is_user_name
name_plain name e =
    let each : list_all is_name_byte name ≡ true = (and_parts (list_all is_name_byte name) (has_bare_ends name) (and_parts (leb (length name) 25) (list_all is_name_byte name && has_bare_ends name) e).1).0 in
    λ k d within.
    let byte : is_name_byte (get_or name k d) ≡ true = AllPass-from_list_all is_name_byte name each k d within in
    let printed : is_printed_byte (get_or name k d) ≡ true = (and_parts (is_printed_byte (get_or name k d)) (not (eqb (get_or name k d) 0x22)) byte).0 in
    leb-true 0x20 (get_or name k d) (and_parts (leb 0x20 (get_or name k d)) (leb (get_or name k d) 0x7E) printed).0

capitals_are_text : (name : List ℕ) → IsTrue (is_user_name name) → IsText (str_to_ascii_uppercase name)
capitals_are_text name e = plain_is_text (str_to_ascii_uppercase name) (All-map (λ b. 0x20 ≤ b) to_ascii_uppercase name (All-weaker (λ b. 0x20 ≤ b) (λ b. 0x20 ≤ to_ascii_uppercase b) upper_plain name (name_plain name e)))

conference_name_is : (name : List ℕ) → IsTrue (is_conference_name name) → IsText name
unfolding is_conference_name
conference_name_is name e = plain_is_text name (printed_plain name (and_parts (leb 1 (length name) && leb (length name) 13) (is_printed name) e).1)

id_byte : (b : ℕ) → is_letter_or_digit b ≡ true → (0x21 ≤ b) × (b ≤ 0x7E)
id_byte b e = grind (arith, nat_tests)

id_is : (id : List ℕ) → IsTrue (is_bbsid id) → IsId id
unfolding is_bbsid
id_is id e =
    let parts = and_parts (leb 1 (length id) && leb (length id) 8) (list_all is_letter_or_digit id) e in
    let lengths = and_parts (leb 1 (length id)) (leb (length id) 8) parts.0 in
    record {
      some = leb-true 1 (length id) lengths.0;
      short = leb-true (length id) 8 lengths.1;
      printed = λ k d within. id_byte (get_or id k d) (AllPass-from_list_all is_letter_or_digit id parts.1 k d within);
    }

-- ---- the serial
abbrev IsDigitByte : ℕ → Type 0
IsDigitByte b = IsInRange 48 57 b

digit_is : (n : ℕ) → IsDigitByte (48 + n % 10)
digit_is n = (omega arith, omega arith)

are_digits : (n : ℕ) → All IsDigitByte (five_digits n)
are_digits n = All-map IsDigitByte (λ unit. 48 + n / unit % 10) (10_000 ∷ 1000 ∷ 100 ∷ 10 ∷ 1 ∷ []) (λ k d within. digit_is (n / get_or (10_000 ∷ 1000 ∷ 100 ∷ 10 ∷ 1 ∷ []) k d))

serial_is : (n : ℕ) → IsText (five_digits n)
serial_is n = λ k d within. let digit = are_digits n k d within in ((λ e. omega arith), (λ e. omega arith))

no_comma : (n : ℕ) → All (λ b. b ≢ 44) (five_digits n)
no_comma n = λ k d within. let digit = are_digits n k d within in λ e. omega arith

-- ---- the conferences
-- a set that isn't empty has a place, and none past so many conferences
record HasPlace (members count : ℕ) : Type 0 where
  place : ℕ
  within : place < count
  there : bit_at members place ≡ 1

has_place : (members count : ℕ) → 0 < members → members < 2 ^ count → HasPlace members count
has_place members zero some small = absurd (omega arith)
has_place members (suc count) some small = elim (cases_lt 0 (members % 2)) [
  | inl odd ↦ record { place = 0; within = omega arith; there = bit_at_lowest members ∙ omega arith }
  | inr even ↦
      let half : HasPlace (members / 2) count = has_place (members / 2) count (omega arith) (omega (arith, pow-suc 2 count)) in
      record { place = suc half.place; within = omega (arith, half.within); there = bit_at-suc members half.place ∙ half.there }
]

set_place : (members count : ℕ) → right_members count members ≡ true → HasPlace members count
unfolding right_members
set_place members count e =
    let parts = and_parts (not (eqb members 0)) (ltb members (2 ^ count)) e in
    let some : members ≡ 0 → ⊥ = eqb-false members 0 (not-true (eqb members 0) parts.0) in
    has_place members count (omega arith) (ltb-true members (2 ^ count) parts.1)

-- an item that passes is kept
pub some_kept : {X : Type 0} (p : X → Bool) (xs : List X) (k : ℕ) (d : X) → k < length xs → p (get_or xs k d) ≡ true → 1 ≤ length (filter p xs)
some_kept p [] k d within passes = absurd (omega arith)
some_kept p (x ∷ xs) zero d within passes = omega (arith, ap length (cond-true (p x) (x ∷ filter p xs) (filter p xs) passes))
some_kept {X} p (x ∷ xs) (suc k) d within passes =
    let others : 1 ≤ length (filter p xs) = some_kept p xs k d (omega arith) passes in
    cond_both (p x) (x ∷ filter p xs) (filter p xs) (λ (ys : List X). 1 ≤ length ys) (λ e. omega arith) (λ e. others)

any_conference : Conference
any_conference = record { number = 0; kind = Local; readonly = false; private = false; name = [] }

number_fits : (c : ℕ × Conference) → IsSetupConference c.1 → ConferenceFits (entry c)
number_fits c ok = record { number = ok.number; name = conference_name_is c.1.name ok.name }

second_all : (n : ℕ) (conferences : List Conference) → All IsSetupConference conferences → All (λ (c : ℕ × Conference). IsSetupConference c.1) (enumerate_from n conferences)
second_all n [] each = All-nil (λ (c : ℕ × Conference). IsSetupConference c.1)
second_all n (c ∷ conferences) each =
    All-cons (λ (c : ℕ × Conference). IsSetupConference c.1) (n, c) (enumerate_from (n + 1) conferences) (All-head IsSetupConference c conferences each) (second_all (n + 1) conferences (All-tail IsSetupConference c conferences each))

listed_fits : (conferences : List Conference) (u : User) → AreSetupConferences conferences → IsUser (length conferences) u → ConferencesFit (listed conferences u)
listed_fits conferences u ok user =
    let all : List (ℕ × Conference) = enumerate_from 0 conferences in
    let kept : List (ℕ × Conference) = filter (is_joined u) all in
    let none : ℕ × Conference = (0, any_conference) in
    let joined : HasPlace u.members (length conferences) = set_place u.members (length conferences) user.members in
    let here : get_or all joined.place none ≡ (0 + joined.place, get_or conferences joined.place any_conference) = get_or-enumerate_from 0 conferences joined.place none joined.within in
    let same : 0 + joined.place ≡ joined.place = omega arith in
    let test : is_joined u (get_or all joined.place none) ≡ true
    = ap (is_joined u) here ∙ (ap (is_member u) same ∙ eq-eqb (bit_at u.members joined.place) 1 joined.there) in
    let count : length (listed conferences u) ≡ length kept = length-map kept entry in
    record {
      some = omega (arith, count, some_kept (is_joined u) all joined.place none (omega (arith, joined.within, length-enumerate_from 0 conferences)) test);
      many = omega (arith, count, length-filter (is_joined u) all, count_by-le-length (is_joined u) all, length-enumerate_from 0 conferences, ok.many);
      each = All-map ConferenceFits entry kept (All-weaker (λ (c : ℕ × Conference). IsSetupConference c.1) (λ (c : ℕ × Conference). ConferenceFits (entry c)) number_fits kept
          (All-filter (is_joined u) (λ (c : ℕ × Conference). IsSetupConference c.1) all (second_all 0 conferences ok.each)));
    }

-- ---- all
stamp_is : (now : ℕ) → All (IsInRange 44 58) (stamp_text now) → IsText (stamp_text now)
stamp_is now each = λ k d within. let byte = each k d within in ((λ e. omega arith), (λ e. omega arith))

nothing_is : IsText []
nothing_is = All-nil (λ b. (b ≢ 10) × (b ≢ 13))

files_fit : (b : Board) (u : User) (count now : ℕ) → FilesFit (control b u count now)
unfolding control
files_fit b u count now = record {
  welcome = plain_is_text (codes "WELCOME") (printed_plain (codes "WELCOME") refl);
  news = plain_is_text (codes "NEWS") (printed_plain (codes "NEWS") refl);
  goodbye = plain_is_text (codes "GOODBYE") (printed_plain (codes "GOODBYE") refl);
}

pub control_fits : (b : Board) (u : User) (count now : ℕ) → IsBoard b → Contains b.ledger.users u → count ≤ 999999999 → All (IsInRange 44 58) (stamp_text now) → WritableControl (control b u count now)
unfolding control
control_fits b u count now ok has few stamp =
    let setup = ok.ledger.setup in
    let user : IsUser (length b.ledger.setup.conferences) u = All-contains (IsUser (length b.ledger.setup.conferences)) b.ledger.users u ok.ledger.users has in
    record {
      texts = record {
        board = board_text_is b.ledger.setup.board setup.board;
        city = board_text_is b.ledger.setup.city setup.city;
        phone = board_text_is b.ledger.setup.phone setup.phone;
        sysop = plain_is_text b.ledger.setup.sysop (name_plain b.ledger.setup.sysop setup.sysop);
        serial = serial_is b.ledger.setup.serial;
        stamp = stamp_is now stamp;
        user = capitals_are_text u.name user.name;
        menu = nothing_is;
      };
      comma = no_comma b.ledger.setup.serial;
      id = id_is b.ledger.setup.bbsid setup.bbsid;
      count = few;
      conferences = listed_fits b.ledger.setup.conferences u setup.conferences user;
      files = files_fit b u count now;
    }

-- the text of a control that was made for a user
pub text_of_made : (f : User → Control) (found : Option User) (made : Control) (text : List ℕ) → Some made ≡ option_map f found → text ≡ control_text made → Some text ≡ option_map (λ u. control_text (f u)) found
text_of_made f None made text is then = absurd (none-some made (sym is))
text_of_made f (Some u) made text is then = ap Some (then ∙ ap control_text (same_Some made (f u) is))
