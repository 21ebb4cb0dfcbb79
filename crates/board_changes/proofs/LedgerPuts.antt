-- Puts of the ledger's file, and of no other, begin the intent of a change.
use Rattle.std.proofs.Common.{◌≡◌, ℕ, ◌+◌, ◌≤◌, List, [], ◌∷◌, ◌++◌, length, refl, sym, ◌∙◌, arith, length-append}
use Rattle.std.specs.Prelude.{All, IsTrue, nat_lt}
use Rattle.std.specs.List.{flat_map}
use Rattle.std.proofs.lemmas.Bool.{cond-false, le-ltb}
use Rattle.std.proofs.lemmas.List.Elements.{All-nil, All-cons}
use Rattle.board_changes.specs.Changed.{with_user}
use Rattle.board_changes.specs.Gathered.{at_place, Gathered, HasBases, Joins}
use Rattle.board_changes.proofs.JoinLaws.{journal_length}
use Rattle.board_changes.proofs.LedgerBounds.{ledger_at_most}
use Rattle.board_ledger.proofs.EnrollPutLaws.{enroll_turns, put_begins, put_ends}
use Rattle.board_ledger.specs.EnrollPuts.{enroll_puts}
use Rattle.board_ledger.specs.Ledger.{ledger_text}
use Rattle.board_ledger.specs.OneFile.{TurnsFile}
use Rattle.board_ledger.specs.Uploads.{upload_text}
use Rattle.board_ledger.specs.UserPuts.{record_in, user_place}
use Rattle.board_ledger.specs.Valid.{IsLedger}
use Rattle.board_ledger.specs.declared.ledger.Ledger.{Ledger}
use Rattle.board_ledger.specs.declared.user.User.{User}
use Rattle.intent_journal.specs.door_outside.File.{ledger_file, jhr_file, jdt_file, jdx_file, jlr_file}
use Rattle.intent_journal.specs.Journal.{patch_text, patches_text}
use Rattle.intent_journal.specs.Patches.{HostFiles, bytes_of, file_of, is_once, patched, patch_offset}
use Rattle.intent_journal.specs.declared.patch.Patch.{Patch}
use Rattle.intent_journal.specs.declared.patch.Patch.TheVariants.{Put}
use Rattle.board_layout.specs.jam_base.Change.{files_of_place}
use Rattle.board_layout.specs.jam_layout.declared.files.BaseFiles.{BaseFiles}
use Rattle.jam_records.specs.record_numbers.Numbers.{u16_text}

-- they end within the file's next text, and are spelled within it and 11 bytes
pub record Begins (next : List ℕ) (patches : List Patch) : Type 0 where
  pub own : All (λ patch. file_of patch ≡ ledger_file) patches
  pub once : IsTrue (is_once patches)
  pub ends : All (λ patch. patch_offset patch + length (bytes_of patch) ≤ length next) patches
  pub short : length (patches_text patches) ≤ 11 + length next

pub begins_join : (next : Ledger) (patches : List Patch) → Begins (ledger_text next) patches → IsLedger next → Joins [] patches
begins_join next patches begins ok =
    let small = ledger_at_most next ok in
    record {
      no_journal = λ k d within e. omega (arith, e, begins.own k d within);
      once = begins.once;
      ends = λ k d within. omega (arith, begins.ends k d within, small);
      fits = omega (arith, journal_length patches, begins.short, small);
    }

-- they leave the files of each place
places_stay : (ledger next : List ℕ) (patches : List Patch) → TurnsFile ledger_file ledger next patches → (files : HostFiles) (place : ℕ) → files_of_place place (patched patches files) ≡ files_of_place place files
places_stay ledger next patches turns files place =
    let jhr = turns.others files (jhr_file place) (λ e. omega (arith, e)) in
    let jdt = turns.others files (jdt_file place) (λ e. omega (arith, e)) in
    let jdx = turns.others files (jdx_file place) (λ e. omega (arith, e)) in
    let jlr = turns.others files (jlr_file place) (λ e. omega (arith, e)) in
    λ i. record { jhr = jhr i; jdt = jdt i; jdx = jdx i; jlr = jlr i }

pub begins_gather : (P : HostFiles → Type 0) (ledger next : List ℕ) (old new : List BaseFiles) (patches : List Patch) → TurnsFile ledger_file ledger next patches → Begins next patches
    → ((files : HostFiles) → P files → HasBases old files) → ((files : HostFiles) → P files → files ledger_file ≡ ledger) → Gathered P next old new 0 patches
begins_gather P ledger next old new patches turns begins has right = record {
  starts = λ files here. turns.starts files (right files here);
  ledger_is = λ files here. turns.makes files (right files here);
  bases = λ files here place within. places_stay ledger next patches turns files place ∙ (has files here place within ∙ sym (cond-false (nat_lt place 0) (at_place new place) (at_place old place) (le-ltb place 0 (omega arith))));
  no_journal = λ k d within e. omega (arith, e, begins.own k d within);
  below = λ k d within. omega (arith, begins.own k d within);
  once = begins.once;
  short = omega (arith, begins.short);
}

-- ---- one put, and two
put_text : (at : ℕ) (bytes : List ℕ) (rest : List Patch) → length (patches_text (Put ledger_file at bytes ∷ rest)) ≡ 11 + length bytes + length (patches_text rest)
put_text at bytes rest = omega (arith, length-append (patch_text (Put ledger_file at bytes)) (patches_text rest))

pub one_begins : (next bytes : List ℕ) (at : ℕ) → at + length bytes ≤ length next → Begins next (Put ledger_file at bytes ∷ [])
one_begins next bytes at ends =
    let put : Patch = Put ledger_file at bytes in
    record {
      own = All-cons (λ (p : Patch). file_of p ≡ ledger_file) put [] refl (All-nil (λ (p : Patch). file_of p ≡ ledger_file));
      once = refl;
      ends = All-cons (λ (p : Patch). patch_offset p + length (bytes_of p) ≤ length next) put [] ends (All-nil (λ (p : Patch). patch_offset p + length (bytes_of p) ≤ length next));
      short = omega (arith, put_text at bytes [], ends);
    }

pub two_begin : (next bytes others : List ℕ) (at place : ℕ) → at + length bytes ≤ length next → place + length others ≤ length next → 11 + (length bytes + length others) ≤ length next → Begins next (Put ledger_file at bytes ∷ Put ledger_file place others ∷ [])
two_begin next bytes others at place ends then short =
    let first : Patch = Put ledger_file at bytes in
    let last : List Patch = Put ledger_file place others ∷ [] in
    let behind : Begins next last = one_begins next others place then in
    record {
      own = All-cons (λ (p : Patch). file_of p ≡ ledger_file) first last refl behind.own;
      once = refl;
      ends = All-cons (λ (p : Patch). patch_offset p + length (bytes_of p) ≤ length next) first last ends behind.ends;
      short = omega (arith, put_text at bytes last, put_text place others [], short);
    }

-- ---- those of a new user
module _ (l : Ledger) (u : User) where
  enroll_begins : Begins (ledger_text (with_user u l)) (enroll_puts l u)
  enroll_begins =
      let put : List ℕ = record_in l u ++ flat_map upload_text l.uploads in
      let late = put_begins l u in
      let ends = put_ends l u in
      two_begin (ledger_text (with_user u l)) (u16_text (length l.users + 1)) put 8 (user_place (length l.users) l) (omega (arith, late, ends)) (omega (arith, ends)) (omega (arith, late, ends))

  pub enroll_joins : IsLedger (with_user u l) → Joins [] (enroll_puts l u)
  enroll_joins ok = begins_join (with_user u l) (enroll_puts l u) enroll_begins ok

  pub gathered_enroll : (P : HostFiles → Type 0) (old new : List BaseFiles) → ((files : HostFiles) → P files → HasBases old files) → ((files : HostFiles) → P files → files ledger_file ≡ ledger_text l)
      → Gathered P (ledger_text (with_user u l)) old new 0 (enroll_puts l u)
  gathered_enroll P old new has right = begins_gather P (ledger_text l) (ledger_text (with_user u l)) old new (enroll_puts l u) (enroll_turns l u) enroll_begins has right
