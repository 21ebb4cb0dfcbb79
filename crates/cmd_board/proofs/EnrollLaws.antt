-- A user whom nothing refuses may be enrolled, and the size of the files is then a number of 64 bits.
use Rattle.std.proofs.Common.{◌≡◌, ℕ, zero, suc, ◌+◌, ◌^◌, ◌≤◌, ◌<◌, Bool, true, false, cond, not, ◌&&◌, eqb, ltb, leb, List, length, Option, Some, None, refl, sym, subst, arith}
use Rattle.std.proofs.lemmas.Bool.{and_from, and_parts, leb-true, leb-false, ltb-false, lt-ltb, ne_eqb, not_from_false}
use Rattle.std.specs.Prelude.{is_some, position}
use Rattle.std.proofs.lemmas.List.Folds.{list_any_none}
use Rattle.std.proofs.lemmas.List.Sums.{fails_before_first}
use Rattle.std.specs.List.{list_any, list_all, position_or_len}
use Rattle.std.specs.Option.{option_map}
use Rattle.std.specs.Str.{str_eq_ignore_ascii_case}
use Rattle.mail_board.proofs.board_changes.FitLaws.{board_fits}
use Rattle.mail_board.proofs.board_changes.UserSizes.{member_size, new_length, one_at_most}
use Rattle.board_layout.proofs.BoardLookups.{conferences_count}
use Rattle.mail_board.specs.board_changes.Changed.{enrolled, new_user}
use Rattle.mail_board.specs.board_changes.Enrolling.{is_free, joined_count, may_enroll}
use Rattle.board_layout.specs.Board.{Board}
use Rattle.board_layout.specs.Layout.{board_size}
use Rattle.board_layout.specs.Valid.{IsBoard, board_limit}
use Rattle.board_ledger.specs.Limits.{user_limit}
use Rattle.board_ledger.specs.Users.{is_taken, right_members}
use Rattle.board_ledger.specs.declared.user.User.{User}
use Rattle.cmd_words.proofs.ChoiceLaws.{few_places, some_places}
use Rattle.cmd_words.specs.Choice.{ChoiceReads, has_unknown, chosen_from}
use Rattle.cmd_words.specs.declared.choice.Choice.{Choice}
use Rattle.mail_board.specs.Readers.{user_id}
use Rattle.setup_file.specs.Texts.{is_name_byte, has_bare_ends, is_user_name}
use Rattle.shelf_files.specs.declared.refusal.Refusal.{Refusal}
use Rattle.shelf_files.specs.declared.refusal.Refusal.TheVariants.{Name, DupUser, NoConference, Users, Size}
use Rattle.cmd_board.specs.Enroll.{enroll_refusals, first_refusal, board_with_user}

-- ---- what size_after asks
pub places_exist : (b : Board) (choice : Choice) → IsBoard b → chosen_from choice 0 b.ledger.setup.conferences < 2 ^ length b.conferences
places_exist b choice ok = subst (λ n. chosen_from choice 0 b.ledger.setup.conferences < 2 ^ n) (sym (conferences_count b ok)) (few_places choice b.ledger.setup.conferences)

joined_few : (members place count : ℕ) → joined_count members place count ≤ count
joined_few members place zero = omega arith
joined_few members place (suc n) = let one = one_at_most members place in let others = joined_few members (place + 1) n in omega (arith, one, others)

name_short : (name : List ℕ) → is_user_name name ≡ true → length name ≤ 25
unfolding is_user_name
name_short name named = leb-true (length name) 25 (and_parts (leb (length name) 25) (list_all is_name_byte name && has_bare_ends name) named).0

pub size_short : (b : Board) (name : List ℕ) (net : Bool) (members : ℕ) → IsBoard b → is_user_name name ≡ true → board_size (enrolled name net members b) < 2 ^ 64
size_short b name net members ok named =
    let count : ℕ = length b.ledger.setup.conferences in
    let user : User = new_user name net members in
    let size = member_size b user ok in
    let record_length = new_length count name net members in
    let short = name_short name named in
    let joined = joined_few members 0 (length b.conferences) in
    let many = ok.ledger.setup.conferences.many in
    omega (arith, size, record_length, short, joined, many, ok.small, conferences_count b ok)

-- ---- nothing refuses
unrefused : (test : Bool) (why : Refusal) (others : Option Refusal) → cond test (Some why) others ≡ None → (test ≡ false) × (others ≡ None)
unrefused true why others e = absurd (cc e)
unrefused false why others e = (refl, e)

not_false : (test : Bool) → not test ≡ false → test ≡ true
not_false true e = refl
not_false false e = absurd cc

no_position : {A : Type 0} (p : A → Bool) (f : ℕ → ℕ) (xs : List A) → is_some (option_map f (position p xs)) ≡ false → list_any p xs ≡ false
no_position p f xs e = by (ltb (position_or_len p xs) (length xs)) refl e
  where
    by : (found : Bool) → ltb (position_or_len p xs) (length xs) ≡ found → is_some (option_map f (cond found (Some (position_or_len p xs)) None)) ≡ false → list_any p xs ≡ false
    by true is none = absurd (cc none)
    by false is none = list_any_none p xs (λ k d within. fails_before_first p xs k d (omega (arith, within, ltb-false (position_or_len p xs) (length xs) is)))

pub user_fits : (b : Board) (name : List ℕ) (net : Bool) (choice : Choice) (word : List ℕ) → IsBoard b → ChoiceReads word choice → first_refusal (enroll_refusals name net choice b) ≡ None → IsBoard (board_with_user name net choice b)
unfolding right_members
user_fits b name net choice word ok reads none =
    let cs = b.ledger.setup.conferences in
    let members : ℕ = chosen_from choice 0 cs in
    let size : ℕ = board_size (board_with_user name net choice b) in
    let named = unrefused (not (is_user_name name)) Name _ none in
    let free = unrefused (is_some (user_id name b)) DupUser _ named.1 in
    let known = unrefused (has_unknown choice cs) NoConference _ free.1 in
    let few = unrefused (leb user_limit (length b.ledger.users)) Users _ known.1 in
    let short = unrefused (ltb board_limit size) (Size size) None few.1 in
    let some = some_places word choice cs reads known.0 ok.ledger.setup.conferences.some in
    let placed : right_members (length cs) members ≡ true = and_from (not (eqb members 0)) (ltb members (2 ^ length cs))
    (not_from_false (eqb members 0) (ne_eqb members 0 (λ e. omega (arith, e, some)))) (lt-ltb members (2 ^ length cs) (few_places choice cs)) in
    let taken : is_taken b.ledger.users name ≡ false = no_position (λ (u : User). str_eq_ignore_ascii_case u.name name) (λ place. place + 1) b.ledger.users free.0 in
    let room : is_free b.ledger name ≡ true = and_from (ltb (length b.ledger.users) user_limit) (not (is_taken b.ledger.users name))
    (lt-ltb (length b.ledger.users) user_limit (leb-false user_limit (length b.ledger.users) few.0)) (not_from_false (is_taken b.ledger.users name) taken) in
    let may : may_enroll b.ledger name members ≡ true = and_from (is_user_name name && right_members (length cs) members) (is_free b.ledger name)
    (and_from (is_user_name name) (right_members (length cs) members) (not_false (is_user_name name) named.0) placed) room in
    board_fits b name net members ok may (ltb-false board_limit size short.0)
