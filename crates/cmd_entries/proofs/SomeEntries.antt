-- Words are some list of entries, whatever is read of a batch.
use Rattle.std.proofs.Common.{◌≡◌, ◌⊎◌, inl, inr, ℕ, ◌+◌, Bool, true, false, List, [], ◌∷◌, refl, subst}
use Rattle.std.specs.Prelude.{Result, Ok, Err}
use Rattle.std.specs.Str.Lines.{lines}
use Rattle.text_fields.specs.Lines.{is_skipped}
use Rattle.shelf_files.specs.declared.refusal.Refusal.{Refusal}
use Rattle.cmd_entries.proofs.Batches.{no_inner, no_line, no_words}
use Rattle.cmd_entries.proofs.OneCommand.{command_or_none}
use Rattle.cmd_entries.proofs.SomeWords.{line_or_none}
use Rattle.cmd_entries.specs.Batch.{BatchReads, IsNoLine, LineIs, BatchLinesRead}
use Rattle.cmd_entries.specs.Entries.{EntriesFrom}
use Rattle.cmd_entries.specs.Words.{CommandReads, IsBatch}
use Rattle.cmd_entries.specs.declared.command.Command.{Command}
use Rattle.cmd_entries.specs.declared.command.Command.TheVariants as command
use Rattle.cmd_entries.specs.declared.entry.Entry.{Entry}
use Rattle.cmd_entries.specs.declared.entry.Entry.TheVariants.{Run, Wrong, Refuse}
use Rattle.cmd_entries.specs.declared.entry.Usage.TheVariants.{Words, Line}

batch_or_not : (c : Command) → IsBatch c ⊎ (IsBatch c → ⊥)
batch_or_not (command.Batch file) = inl (file, refl)
batch_or_not c = inr (λ x. let e = x.1 in cc e)

line_command : (line : List ℕ) → ((c : Command) × LineIs line c) ⊎ IsNoLine line
line_command line = elim (line_or_none line) [
  | inr none ↦ inr (no_words line none)
  | inl w ↦ elim (command_or_none w.0) [
    | inr none ↦ inr (no_line line w.0 w.1 none)
    | inl c ↦ elim (batch_or_not c.0) [
      | inl batch ↦ inr (no_inner line w.0 c.0 w.1 c.1 batch)
      | inr single ↦ inl (c.0, record { words = w.0; are_words = w.1; are_command = c.1; no_batch = single })
    ]
  ]
]

some_lines : (number : ℕ) (all : List (List ℕ)) → (entries : List Entry) × BatchLinesRead number all entries
some_lines number [] = ([], refl)
some_lines number (line ∷ behind) = by (is_skipped line) refl (some_lines (number + 1) behind)
  where
    counted : is_skipped line ≡ false → (rest : List Entry) → BatchLinesRead (number + 1) behind rest → ((c : Command) × LineIs line c) ⊎ IsNoLine line → (entries : List Entry) × BatchLinesRead number (line ∷ behind) entries
    counted counts rest reads (inl c) = (Run c.0 ∷ rest, inr (counts, inl (c.0, rest, c.1, reads, refl)))
    counted counts rest reads (inr none) = (Wrong (Line number) ∷ [], inr (counts, inr (none, refl)))

    by : (b : Bool) → is_skipped line ≡ b → (rest : List Entry) × BatchLinesRead (number + 1) behind rest → (entries : List Entry) × BatchLinesRead number (line ∷ behind) entries
    by true skipped more = (more.0, inl (skipped, more.1))
    by false counts more = counted counts more.0 more.1 (line_command line)

some_batch : (read : Result (List ℕ) Refusal) → (entries : List Entry) × BatchReads read entries
some_batch (Ok bytes) = some_lines 1 (lines bytes)
some_batch (Err why) = (Refuse why ∷ [], refl)

pub some_entries : (words : List (List ℕ)) (read : List ℕ → Result (List ℕ) Refusal) → (entries : List Entry) × EntriesFrom words read entries
some_entries words read = elim (command_or_none words) [
  | inr none ↦ (Wrong Words ∷ [], inr (inr (none, refl)))
  | inl c ↦ elim (batch_or_not c.0) [
    | inr single ↦ (Run c.0 ∷ [], inl (c.0, c.1, single, refl))
    | inl batch ↦
        let b : (entries : List Entry) × BatchReads (read batch.0) entries = some_batch (read batch.0) in
        (b.0, inr (inl (batch.0, subst (CommandReads words) batch.1 c.1, b.1)))
  ]
]
