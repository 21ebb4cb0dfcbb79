-- What the data files are read as, where they aren't empty.
use Rattle.std.proofs.Common.{◌≡◌, ◌≤◌, ◌<◌, Bool, ltb, eqb, true, false, [], ◌∷◌, Option, Some, None, Result, Ok, Err, sym, ap, ◌∙◌, subst}
use Rattle.std.proofs.lemmas.Bool.{cond-false, cond-true, eq-eqb, le-ltb, lt-ltb, ne_eqb}
use Rattle.board_ledger.specs.damage_rules.Rules.{by_rules, ◌>>=◌, Stops}
use Rattle.door_outside.specs.File.{ledger_file}
use Rattle.board_ledger.specs.intent_journal.Patches.{HostFiles}
use Rattle.jam_records.specs.declared.damage.Damage.{Damage}
use Rattle.jam_records.specs.declared.damage.DamageRule.TheVariants.{Size}
use Rattle.board_layout.specs.Board.{Board}
use Rattle.board_layout.specs.Damage.{parts_of, size_limit, board_of, some_board, board_in}
use Rattle.board_layout.specs.Layout.{data_size}

by_size : (files : HostFiles) (long : Bool) → ltb (size_limit (files ledger_file)) (data_size files) ≡ long → board_of files ≡ (by_rules ledger_file 0 ((Size, long) ∷ []) (tt {0}) >>= λ sized. parts_of files)
unfolding board_of
by_size files long e = ap (λ (b : Bool). by_rules ledger_file 0 ((Size, b) ∷ []) (tt {0}) >>= λ sized. parts_of files) e

some_bytes : (files : HostFiles) → (data_size files ≡ 0 → ⊥) → board_in files ≡ some_board (board_of files)
some_bytes files some = cond-false (eqb (data_size files) 0) (Ok None) (some_board (board_of files)) (ne_eqb (data_size files) 0 some)

pub no_bytes : (files : HostFiles) → data_size files ≡ 0 → board_in files ≡ Ok None
no_bytes files none = cond-true (eqb (data_size files) 0) (Ok None) (some_board (board_of files)) (eq-eqb (data_size files) 0 none)

some_fails : (e : Option Damage) (read : Result Board Damage) → Stops e read → Stops e (some_board read)
some_fails None read h = tt
some_fails (Some d) read h = ap some_board h

module _ (files : HostFiles) (some : data_size files ≡ 0 → ⊥) where
  pub too_long : size_limit (files ledger_file) < data_size files → board_in files ≡ Err (record { file = 0; item = 0; rule = Size })
  too_long long = some_bytes files some ∙ ap some_board (by_size files true (lt-ltb (size_limit (files ledger_file)) (data_size files) long))

  module _ (short : data_size files ≤ size_limit (files ledger_file)) where
    in_parts : board_in files ≡ some_board (parts_of files)
    in_parts = some_bytes files some ∙ ap some_board (by_size files false (le-ltb (size_limit (files ledger_file)) (data_size files) short))

    pub parts_fail : (e : Option Damage) → Stops e (parts_of files) → Stops e (board_in files)
    parts_fail e h = subst (Stops e) (sym in_parts) (some_fails e (parts_of files) h)

    pub parts_read : (b : Board) → parts_of files ≡ Ok b → board_in files ≡ Ok (Some b)
    parts_read b e = in_parts ∙ ap some_board e
