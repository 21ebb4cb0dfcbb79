-- The report of a board is that of its outline, and the exits of `check`.
use Rattle.std.proofs.Common.{◌≡◌, ℕ, List, [], ◌∷◌, ◌++◌, length, map, Option, Some, None, Ok, refl, sym, ap, ◌∙◌, subst}
use Rattle.std.specs.Prelude.{codes, decimal}
use Rattle.std.proofs.lemmas.List.{length-map}
use Rattle.board_layout.proofs.OutlineLaws.{outline_live, outline_size}
use Rattle.board_layout.specs.Board.{Board}
use Rattle.board_layout.specs.Outlines.{board_outline}
use Rattle.board_ledger.specs.declared.ledger.Ledger.{Ledger}
use Rattle.door_outside.specs.Disk.{Disk}
use Rattle.door_outside.specs.Shelf as Shelf
use Rattle.entry_runs.specs.Door.{World}
use Rattle.entry_runs.specs.Entry.{Finds, IsAt, Works}
use Rattle.board_layout.specs.jam_layout.Outlines.{outline, slot_outline}
use Rattle.board_layout.specs.jam_layout.declared.conference.ConferenceContents.{ConferenceContents}
use Rattle.mail_board.specs.Held.{AreAlike}
use Rattle.setup_file.specs.declared.conference.Conference.{Conference as SetupConference}
use Rattle.shelf_files.specs.Halts.{done, refused}
use Rattle.shelf_files.specs.declared.refusal.Refusal.TheVariants.{NotMade}
use Rattle.cmd_board.specs.Check.{board_line, checked, checks, conference_line, checked_lines, report}
use Rattle.cmd_board.specs.Kept.{IsOutlined}
use Rattle.cmd_board.specs.State.{State, Stores, migrated}
use Rattle.cmd_board.proofs.Exits.{answered}
use Rattle.cmd_board.proofs.LikeLaws.{none_outlined, some_outlined}

-- ---- the report
lines_outline : (named : List SetupConference) (conferences : List ConferenceContents) → checked_lines named (map outline conferences) ≡ checked_lines named conferences
lines_outline [] conferences = refl
lines_outline (one ∷ others) [] = refl
lines_outline (one ∷ others) (c ∷ conferences) = λ i. conference_line one (length-map c.slots slot_outline i) (outline_live c.slots i) ++ lines_outline others conferences i

-- the line of the counts, for so many bytes
abbrev counts_with : Ledger → ℕ → List ℕ
counts_with l size =
    decimal (length l.users) ++ (codes " users, " ++ (decimal (length l.uploads) ++ (codes " uploads, "
    ++ (decimal size ++ codes " bytes\n"))))

report_outline : (b : Board) → report (board_outline b) ≡ report b
report_outline b = λ i. board_line b ++ (lines_outline b.ledger.setup.conferences b.conferences i ++ counts_with b.ledger (outline_size b i))

report_alike : (a b : Board) → AreAlike a b → report a ≡ report b
report_alike a b alike = sym (report_outline a) ∙ (ap report alike ∙ report_outline b)

-- ---- the exits
module _ {world : World State} {old mid : Disk} {shelf : Shelf.ShelfFiles} (at : IsAt Stores world old shelf) (kept : Option Board)
    (finds : Finds Stores world.state (migrated world.state) old mid (Ok (tt {0}))) (found : IsOutlined (migrated world.state) kept) where
  pub reported : (b : Board) → kept ≡ Some b → Works Stores checks world old mid shelf (Ok (done (report b)))
  reported b some =
      let real = some_outlined (migrated world.state) kept b some found in
      subst (λ (text : List ℕ). Works Stores checks world old mid shelf (Ok (done text))) (report_alike real.board b real.alike)
      (answered (λ files board turn. turn ≡ checked board) at {board = Some real.board} finds real.is (checked (Some real.board)) refl refl)

  pub unmade : kept ≡ None → Works Stores checks world old mid shelf (Ok (refused NotMade))
  unmade none = answered (λ files board turn. turn ≡ checked board) at {board = None} finds (none_outlined (migrated world.state) kept none found) (checked None) refl refl
