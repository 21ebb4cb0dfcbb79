-- Files as a board of either version has them: the bytes of the ledger, its version, and how long the files are.
use Rattle.std.proofs.Common.{◌≡◌, ℕ, ◌+◌, ◌*◌, ◌≤◌, Bool, true, false, cond, eqb, ◌&&◌, List, [], ◌∷◌, length, take, refl, sym, ap, ◌∙◌, subst, arith, inl, inr, length-append}
use Rattle.std.specs.Prelude.{All}
use Rattle.std.specs.Str.{bytes_eq}
use Rattle.std.proofs.lemmas.Bool.{le-leb}
use Rattle.std.proofs.lemmas.List.Elements.{All-head, All-tail}
use Rattle.board_ledger.specs.Ledger.{ledger_text, stored_text, text_in}
use Rattle.board_ledger.specs.Opening.{fixed_text, magic}
use Rattle.board_ledger.specs.Users.{user_text, users_text, IsOldUser, IsUser}
use Rattle.board_ledger.specs.Valid.{IsLedger, IsOldLedger, IsStored, today}
use Rattle.board_ledger.specs.declared.ledger.Ledger.{Ledger}
use Rattle.board_ledger.specs.declared.user.User.{User}
use Rattle.board_ledger.proofs.SizeLaws.{ledger_length, user_length}
use Rattle.board_ledger.proofs.VersionLaws.{as_today, stored_written, text_stored, text_today}
use Rattle.door_outside.specs.File.{ledger_file}
use Rattle.board_ledger.specs.intent_journal.Patches.{HostFiles}
use Rattle.board_ledger.specs.open_offers.declared.version.Version.{Version}
use Rattle.board_ledger.specs.open_offers.declared.version.Version.TheVariants.{First, Second}
use Rattle.jam_records.specs.record_numbers.Numbers.{u16_at}
use Rattle.board_layout.specs.Board.{Board}
use Rattle.board_layout.specs.Damage.{is_old_text, size_limit}
use Rattle.board_layout.specs.Layout.{base_files, HasPlaces, IsLayout, data_size, board_size}
use Rattle.board_layout.specs.OldLayout.{old_limit, old_size, IsOldLayout, IsStoredIn}
use Rattle.board_layout.specs.Rules.{IsLaidOutAs}
use Rattle.board_layout.specs.Valid.{board_limit}
use Rattle.board_layout.proofs.SizeLaws.{same_size, old_same_size}

-- ---- the version in a text
text_long : (v : Version) (l : Ledger) → 24 ≤ length (text_in v l)
unfolding text_in fixed_text
text_long v l = omega arith

-- where it is long enough, it is of version 1 as its first bytes say
pub is_first : (text : List ℕ) → 24 ≤ length text → is_old_text text ≡ (bytes_eq (take 4 text) magic && eqb (u16_at 4 text) 1)
is_first text long = ap (λ enough. enough && (bytes_eq (take 4 text) magic && eqb (u16_at 4 text) 1)) (le-leb 24 (length text) long)

old_first : (l : Ledger) → is_old_text (text_in First l) ≡ true
unfolding text_in fixed_text u16_at
old_first l = is_first (text_in First l) (text_long First l)

old_second : (l : Ledger) → is_old_text (text_in Second l) ≡ false
unfolding text_in fixed_text u16_at
old_second l = is_first (text_in Second l) (text_long Second l)

-- no text is of both versions
pub one_version : (a b : Ledger) (text : List ℕ) → text ≡ text_in Second a → text ≡ text_in First b → ⊥
one_version a b text second first =
    let same : false ≡ true = sym (old_second a) ∙ (ap is_old_text (sym second ∙ first) ∙ old_first b) in
    absurd (cc same)

-- ---- how long the files may be
limit_by : (old : Bool) → cond old old_limit board_limit ≤ board_limit × old_limit ≤ cond old old_limit board_limit
limit_by true = (omega arith, omega arith)
limit_by false = (omega arith, omega arith)

pub limit_most : (text : List ℕ) → size_limit text ≤ board_limit
limit_most text = (limit_by (is_old_text text)).0

limit_old : (l : Ledger) (text : List ℕ) → text ≡ text_in First l → size_limit text ≡ old_limit
limit_old l text is = ap (λ old. cond old old_limit board_limit) (ap is_old_text is ∙ old_first l)

limit_new : (l : Ledger) (text : List ℕ) → text ≡ text_in Second l → size_limit text ≡ board_limit
limit_new l text is = ap (λ old. cond old old_limit board_limit) (ap is_old_text is ∙ old_second l)

-- ---- how much longer a text is in version 2
users_grown : (count : ℕ) (users : List User) → count ≤ 64 → All (IsUser count) users → length (users_text Second count users) ≤ length (users_text First count users) + 780 * length users
users_grown count [] few all = omega arith
users_grown count (u ∷ users) few all =
    let ok = All-head (IsUser count) u users all in
    let others = users_grown count users few (All-tail (IsUser count) u users all) in
    let old = length-append (user_text First count u) (users_text First count users) in
    let new = length-append (user_text Second count u) (users_text Second count users) in
    let product : 780 * length (u ∷ users) ≡ 780 + 780 * length users = omega arith in
    omega (arith, others, old, new, product, few, user_length First count u ok, user_length Second count u ok)

text_grown : (l : Ledger) → IsLedger l → length (ledger_text l) ≤ length (text_in First l) + 390000
text_grown l ok =
    let digests : All (λ r. length r.digest ≡ 32) l.uploads = λ k d within. (ok.uploads k d within).digest in
    let few = ok.few_users in
    let users = users_grown (length l.setup.conferences) l.users ok.setup.conferences.many ok.users in
    omega (arith, few, users, ledger_length First l digests, ledger_length Second l digests)

old_grown : (b : Board) → IsLedger b.ledger → board_size b ≤ old_size b + 390000
old_grown b ok = let more = text_grown b.ledger ok in omega (arith, more)

-- ---- the ledger as it is read, and the board of its today's form
text_first : (l : Ledger) → text_in First (today l) ≡ text_in First l
unfolding text_in fixed_text
text_first l = refl

module _ (raw : Ledger) (b : Board) (files : HostFiles) (is : b.ledger ≡ today raw) (text : files ledger_file ≡ stored_text raw) (places : HasPlaces b files) where
  new_layout : IsLedger raw → IsLayout b files
  new_layout ok = record { ledger = text ∙ (stored_written raw ok ∙ (sym (text_today raw) ∙ ap ledger_text (sym is))); places = places }

  module _ (few : length (base_files b) ≤ 64) (short : data_size files ≤ size_limit (files ledger_file)) where
    old_layout : IsOldLedger raw → IsOldLayout b files
    old_layout old =
        let in_first : files ledger_file ≡ text_in First b.ledger = text ∙ (text_stored raw First old.version ∙ (sym (text_first raw) ∙ ap (text_in First) (sym is))) in
        let size = old_same_size b files few in_first places in
        let limit = limit_old b.ledger (files ledger_file) in_first in
        record { ledger = in_first; places = places; offers = subst (λ (l : Ledger). All IsOldUser l.users) (sym is) old.offers; small = omega (arith, size, limit, short) }

    pub laid_as : IsStored raw → IsLaidOutAs (eqb raw.version 1) b files
    laid_as (inl ok) = subst (λ old. IsLaidOutAs old b files) (ap (λ n. eqb n 1) (sym ok.version)) (new_layout ok)
    laid_as (inr old) = subst (λ old. IsLaidOutAs old b files) (ap (λ n. eqb n 1) (sym old.version)) (old_layout old)

-- ---- a board of either version
pub in_either : (old : Bool) (b : Board) (files : HostFiles) → IsLaidOutAs old b files → IsStoredIn b files
in_either true b files laid = inr laid
in_either false b files laid = inl laid

pub stored_places : (b : Board) (files : HostFiles) → IsStoredIn b files → HasPlaces b files
stored_places b files (inl laid) = laid.places
stored_places b files (inr old) = old.places

-- files that aren't too long are of no board that is
pub stored_small : (b : Board) (files : HostFiles) → IsLedger b.ledger → length (base_files b) ≤ 64 → IsStoredIn b files → data_size files ≤ size_limit (files ledger_file) → board_size b ≤ board_limit
stored_small b files ok few (inl laid) short = let most = limit_most (files ledger_file) in omega (arith, most, short, same_size b files few laid)
stored_small b files ok few (inr old) short = let small = old.small in let more = old_grown b ok in omega (arith, small, more)

-- and those of a board aren't
pub stored_short : (b : Board) (files : HostFiles) → length (base_files b) ≤ 64 → board_size b ≤ board_limit → IsStoredIn b files → data_size files ≤ size_limit (files ledger_file)
stored_short b files few small (inl laid) = let limit = limit_new b.ledger (files ledger_file) laid.ledger in omega (arith, limit, small, same_size b files few laid)
stored_short b files few small (inr old) =
    let limit = limit_old b.ledger (files ledger_file) old.ledger in
    let least = old.small in
    omega (arith, limit, least, old_same_size b files few old.ledger old.places)

-- the ledger as the files have it
pub record Kept (b : Board) (files : HostFiles) : Type 0 where
  pub ledger : Ledger
  pub stored : IsStored ledger
  pub text : files ledger_file ≡ stored_text ledger
  pub is : today ledger ≡ b.ledger

abbrev as_old : Ledger → Ledger
as_old l = record l { version = 1 }

old_text : (l : Ledger) → text_in First l ≡ stored_text (as_old l)
unfolding text_in fixed_text
old_text l = refl

pub kept : (b : Board) (files : HostFiles) → IsLedger b.ledger → IsStoredIn b files → Kept b files
kept b files ok (inl laid) = record {
  ledger = b.ledger;
  stored = inl ok;
  text = laid.ledger ∙ sym (stored_written b.ledger ok);
  is = λ i. record b.ledger { version = sym ok.version i };
}
kept b files ok (inr old) = record {
  ledger = as_old b.ledger;
  stored = inr (record { version = refl; valid = as_today b.ledger ok; offers = old.offers });
  text = old.ledger ∙ old_text b.ledger;
  is = λ i. record b.ledger { version = sym ok.version i };
}
