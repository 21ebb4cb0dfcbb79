-- A batch: lines of words, each a command.
use Rattle.std.specs.Prelude.{◌≡◌, ◌⊎◌, ℕ, ◌+◌, List, [], ◌∷◌, false, IsTrue, Result, Ok, Err}
use Rattle.std.specs.Str.Lines.{lines}
use Rattle.line_words.specs.Line.{LineReads}
use Rattle.text_fields.specs.Lines.{is_skipped}
use Rattle.shelf_files.specs.declared.refusal.Refusal.{Refusal}
use Rattle.cmd_entries.specs.Words.{CommandReads, IsBatch}
use Rattle.cmd_entries.specs.declared.command.Command.{Command}
use Rattle.cmd_entries.specs.declared.entry.Entry.{Entry}
use Rattle.cmd_entries.specs.declared.entry.Entry.TheVariants.{Run, Wrong, Refuse}
use Rattle.cmd_entries.specs.declared.entry.Usage.TheVariants.{Line}

-- the most bytes of a batch's file
abbrev pub batch_limit : ℕ
batch_limit = 1048576

-- The words of a line are this command, which is no batch.
pub record LineIs (line : List ℕ) (c : Command) : Type 0 where
  pub words : List (List ℕ)
  pub are_words : LineReads line words
  pub are_command : CommandReads words c
  pub no_batch : ¬ IsBatch c

-- they are none, or no words at all: a quote is open, or isn't followed by a space
abbrev pub IsNoLine : List ℕ → Type 0
IsNoLine line = (c : Command) → ¬ LineIs line c

-- what a line with a number is, of those that aren't skipped
abbrev pub LineEntry : ℕ → List ℕ → Entry → Type 0
LineEntry number line (Run c) = LineIs line c
LineEntry number line (Wrong which) = IsNoLine line × (which ≡ Line number)
LineEntry number line (Refuse why) = ⊥

-- The lines from a number on are these entries: empty ones and comments are none, and the first that is no command is
-- the last that is taken.
abbrev pub BatchLinesRead : ℕ → List (List ℕ) → List Entry → Type 0
BatchLinesRead number [] entries = entries ≡ []
BatchLinesRead number (line ∷ behind) entries =
    (IsTrue (is_skipped line) × BatchLinesRead (number + 1) behind entries)
    ⊎ ((is_skipped line ≡ false)
    × (((c : Command) × (rest : List Entry) × LineIs line c × BatchLinesRead (number + 1) behind rest × (entries ≡ Run c ∷ rest))
    ⊎ (IsNoLine line × (entries ≡ Wrong (Line number) ∷ []))))

-- the entries of what was read of a batch's file, or why nothing was
abbrev pub BatchReads : Result (List ℕ) Refusal → List Entry → Type 0
BatchReads (Err why) entries = entries ≡ Refuse why ∷ []
BatchReads (Ok bytes) entries = BatchLinesRead 1 (lines bytes) entries

-- they are those of some bytes, or of a refusal
abbrev pub AreReadEntries : List Entry → Type 0
AreReadEntries entries = (read : Result (List ℕ) Refusal) × BatchReads read entries
