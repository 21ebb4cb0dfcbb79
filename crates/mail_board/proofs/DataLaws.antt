-- What the data files show doesn't depend on any other file.
use Rattle.std.proofs.Common.{◌≡◌, ℕ, ◌<◌, Bool, true, false, cond, List, [], refl, sym, ap, ◌∙◌, arith}
use Rattle.std.proofs.lemmas.Bool.{and_from, lt-ltb, ne_eqb, not_from_false, cond-true}
use Rattle.std.specs.Prelude.{nat_lt, not, ◌==◌}
use Rattle.board_layout.specs.Board.{Board}
use Rattle.board_layout.specs.Layout.{IsLayout, AreEmpty}
use Rattle.board_layout.specs.OldLayout.{IsOldLayout}
use Rattle.door_outside.specs.File.{ledger_file, jhr_file, jdt_file, jdx_file, jlr_file, is_data_file}
use Rattle.intent_journal.specs.Patches.{HostFiles, data_files}
use Rattle.board_layout.specs.jam_base.Change.{files_of_place}

pub at_file : (f g : HostFiles) (file : ℕ) → data_files f ≡ data_files g → is_data_file file ≡ true → f file ≡ g file
at_file f g file same is = sym (cond-true (is_data_file file) (f file) [] is) ∙ (ap (λ (h : HostFiles). h file) same ∙ cond-true (is_data_file file) (g file) [] is)

pub is_data : (file : ℕ) → 1 < file → file < 258 → is_data_file file ≡ true
is_data file low high = and_from (nat_lt file 258) (not (file == 1)) (lt-ltb file 258 high) (not_from_false (file == 1) (ne_eqb file 1 (λ e. omega (arith, e, low))))

pub place_moves : (place : ℕ) (f g : HostFiles) → place < 64 → data_files f ≡ data_files g → files_of_place place f ≡ files_of_place place g
place_moves place f g within same =
    let jhr = at_file f g (jhr_file place) same (is_data (jhr_file place) (omega arith) (omega (arith, within))) in
    let jdt = at_file f g (jdt_file place) same (is_data (jdt_file place) (omega arith) (omega (arith, within))) in
    let jdx = at_file f g (jdx_file place) same (is_data (jdx_file place) (omega arith) (omega (arith, within))) in
    let jlr = at_file f g (jlr_file place) same (is_data (jlr_file place) (omega arith) (omega (arith, within))) in
    λ i. record { jhr = jhr i; jdt = jdt i; jdx = jdx i; jlr = jlr i }

pub layout_moves : (b : Board) (f g : HostFiles) → data_files f ≡ data_files g → IsLayout b f → IsLayout b g
layout_moves b f g same is = record {
  ledger = sym (at_file f g ledger_file same refl) ∙ is.ledger;
  places = λ place within. sym (place_moves place f g within same) ∙ is.places place within;
}

pub old_layout_moves : (b : Board) (f g : HostFiles) → data_files f ≡ data_files g → IsOldLayout b f → IsOldLayout b g
old_layout_moves b f g same is = record {
  ledger = sym (at_file f g ledger_file same refl) ∙ is.ledger;
  places = λ place within. sym (place_moves place f g within same) ∙ is.places place within;
  offers = is.offers;
  small = is.small;
}

pub empty_moves : (f g : HostFiles) → data_files f ≡ data_files g → AreEmpty f → AreEmpty g
empty_moves f g same are = record {
  ledger = sym (at_file f g ledger_file same refl) ∙ are.ledger;
  places = λ place within. sym (place_moves place f g within same) ∙ are.places place within;
}

-- data files of data files
pub data_twice : (f : HostFiles) → data_files (data_files f) ≡ data_files f
data_twice f = λ i file. by (is_data_file file) (f file) i
  where
    by : (b : Bool) (bytes : List ℕ) → cond b (cond b bytes []) [] ≡ cond b bytes []
    by true bytes = refl
    by false bytes = refl
