-- The lines of a batch: each is one entry at most, and they are taken one by one.
use Rattle.std.proofs.Common.{◌≡◌, inl, inr, ℕ, ◌+◌, true, false, true≢false, List, [], ◌∷◌, ◌++◌, append_assoc, refl, sym, ◌∙◌, ap, subst}
use Rattle.std.specs.Prelude.{Result, Ok, Err}
use Rattle.std.specs.Str.Lines.{lines}
use Rattle.line_words.proofs.LineLaws.{one_reading}
use Rattle.line_words.specs.Line.{LineReads}
use Rattle.text_fields.specs.Lines.{is_skipped}
use Rattle.shelf_files.specs.declared.refusal.Refusal.{Refusal}
use Rattle.cmd_entries.proofs.OneCommand.{command_unique, never_both}
use Rattle.cmd_entries.specs.Batch.{BatchReads, IsNoLine, LineEntry, LineIs, BatchLinesRead}
use Rattle.cmd_entries.specs.Entries.{EntriesFrom, IsWrong}
use Rattle.cmd_entries.specs.Words.{CommandReads, IsBatch, IsNoCommand}
use Rattle.cmd_entries.specs.declared.command.Command.{Command}
use Rattle.cmd_entries.specs.declared.command.Command.TheVariants as command
use Rattle.cmd_entries.specs.declared.entry.Entry.{Entry}
use Rattle.cmd_entries.specs.declared.entry.Entry.TheVariants.{Run, Wrong, Refuse}

-- ---- one line
-- a line whose words are known is the command that they are
pub line_command : (line : List ℕ) (words : List (List ℕ)) (c d : Command) → LineReads line words → CommandReads words c → LineIs line d → d ≡ c
line_command line words c d are reads x =
    let same : x.words ≡ words = one_reading line x.words words x.are_words are in
    command_unique words d c (subst (λ (w : List (List ℕ)). CommandReads w d) same x.are_command) reads

-- one whose words are none, are no command, or are a batch is no command
pub no_words : (line : List ℕ) → ((words : List (List ℕ)) → ¬ LineReads line words) → IsNoLine line
no_words line none c x = none x.words x.are_words

pub no_line : (line : List ℕ) (words : List (List ℕ)) → LineReads line words → IsNoCommand words → IsNoLine line
no_line line words are none c x =
    let same : x.words ≡ words = one_reading line x.words words x.are_words are in
    never_both words c (subst (λ (w : List (List ℕ)). CommandReads w c) same x.are_command) none

pub no_inner : (line : List ℕ) (words : List (List ℕ)) (c : Command) → LineReads line words → CommandReads words c → IsBatch c → IsNoLine line
no_inner line words c are reads batch d x = x.no_batch (batch.0, line_command line words c d are reads x ∙ batch.1)

line_unique : (line : List ℕ) (c d : Command) → LineIs line c → LineIs line d → c ≡ d
line_unique line c d x y = line_command line y.words d c y.are_words y.are_command x

-- ---- the lines that are left
module _ (number : ℕ) (line : List ℕ) (behind : List (List ℕ)) where
  -- a line that is skipped
  pub lines_skip : (entries : List Entry) → is_skipped line ≡ true → BatchLinesRead (number + 1) behind entries → BatchLinesRead number (line ∷ behind) entries
  lines_skip entries skipped reads = inl (skipped, reads)

  -- a line that is a command
  pub lines_run : (entry : Entry) (rest : List Entry) → is_skipped line ≡ false → LineEntry number line entry → ¬ IsWrong entry → BatchLinesRead (number + 1) behind rest → BatchLinesRead number (line ∷ behind) (entry ∷ rest)
  lines_run (Run c) rest counts is right reads = inr (counts, inl (c, rest, is, reads, refl))
  lines_run (Wrong which) rest counts is right reads = absurd (right tt)
  lines_run (Refuse why) rest counts is right reads = absurd is

  -- one that is none, which is the last
  pub lines_wrong : (entry : Entry) → is_skipped line ≡ false → LineEntry number line entry → IsWrong entry → BatchLinesRead number (line ∷ behind) (entry ∷ [])
  lines_wrong (Run c) counts is wrong = absurd wrong
  lines_wrong (Wrong which) counts is wrong = inr (counts, inr (is.0, λ i. Wrong (is.1 i) ∷ []))
  lines_wrong (Refuse why) counts is wrong = absurd is

-- ---- the entries so far
-- whatever the lines that are left are, all lines are that behind these entries
abbrev pub SoFar : List (List ℕ) → ℕ → List (List ℕ) → List Entry → Type 0
SoFar all number left entries = (more : List Entry) → BatchLinesRead number left more → BatchLinesRead 1 all (entries ++ more)

module _ (all left behind : List (List ℕ)) (number : ℕ) (line : List ℕ) (entries : List Entry) (is : left ≡ line ∷ behind) (so_far : SoFar all number left entries) where
  pub skips_on : is_skipped line ≡ true → SoFar all (number + 1) behind entries
  skips_on skipped more reads = so_far more (subst (λ (lines : List (List ℕ)). BatchLinesRead number lines more) (sym is) (lines_skip number line behind more skipped reads))

  pub runs_on : (entry : Entry) → is_skipped line ≡ false → LineEntry number line entry → ¬ IsWrong entry → SoFar all (number + 1) behind (entries ++ entry ∷ [])
  runs_on entry counts reads_as right more reads =
      subst (BatchLinesRead 1 all) (sym (append_assoc entries (entry ∷ []) more))
      (so_far (entry ∷ more) (subst (λ (lines : List (List ℕ)). BatchLinesRead number lines (entry ∷ more)) (sym is) (lines_run number line behind entry more counts reads_as right reads)))

  pub ends_wrong : (entry : Entry) → is_skipped line ≡ false → LineEntry number line entry → IsWrong entry → BatchLinesRead 1 all (entries ++ entry ∷ [])
  ends_wrong entry counts reads_as wrong =
      so_far (entry ∷ []) (subst (λ (lines : List (List ℕ)). BatchLinesRead number lines (entry ∷ [])) (sym is) (lines_wrong number line behind entry counts reads_as wrong))

-- ---- one list of entries at most
lines_unique : (number : ℕ) (all : List (List ℕ)) (a b : List Entry) → BatchLinesRead number all a → BatchLinesRead number all b → a ≡ b
lines_unique number [] a b x y = x ∙ sym y
lines_unique number (line ∷ behind) a b (inl (skipped, x)) (inl (again, y)) = lines_unique (number + 1) behind a b x y
lines_unique number (line ∷ behind) a b (inl (skipped, x)) (inr (counts, y)) = absurd (true≢false (sym skipped ∙ counts))
lines_unique number (line ∷ behind) a b (inr (counts, x)) (inl (skipped, y)) = absurd (true≢false (sym skipped ∙ counts))
lines_unique number (line ∷ behind) a b (inr (counts, inl (c, rest, is, x, one))) (inr (again, inl (d, other, same, y, two))) =
    let command : c ≡ d = line_unique line c d is same in
    let more : rest ≡ other = lines_unique (number + 1) behind rest other x y in
    one ∙ ((λ i. Run (command i) ∷ more i) ∙ sym two)
lines_unique number (line ∷ behind) a b (inr (counts, inl (c, rest, is, x, one))) (inr (again, inr (none, two))) = absurd (none c is)
lines_unique number (line ∷ behind) a b (inr (counts, inr (none, one))) (inr (again, inl (d, other, same, y, two))) = absurd (none d same)
lines_unique number (line ∷ behind) a b (inr (counts, inr (none, one))) (inr (again, inr (never, two))) = one ∙ sym two

batch_unique : (read : Result (List ℕ) Refusal) (a b : List Entry) → BatchReads read a → BatchReads read b → a ≡ b
batch_unique (Ok bytes) a b x y = lines_unique 1 (lines bytes) a b x y
batch_unique (Err why) a b x y = x ∙ sym y

same_file : (file other : List ℕ) → command.Batch file ≡ command.Batch other → file ≡ other
same_file file other is = cc is

pub entries_unique : (words : List (List ℕ)) (read : List ℕ → Result (List ℕ) Refusal) (a b : List Entry) → EntriesFrom words read a → EntriesFrom words read b → a ≡ b
entries_unique words read a b (inl (c, x, single, one)) (inl (d, y, alone, two)) = one ∙ (ap (λ (e : Command). Run e ∷ []) (command_unique words c d x y) ∙ sym two)
entries_unique words read a b (inl (c, x, single, one)) (inr (inl (file, y, lines))) = absurd (single (file, command_unique words c (command.Batch file) x y))
entries_unique words read a b (inl (c, x, single, one)) (inr (inr (none, two))) = absurd (never_both words c x none)
entries_unique words read a b (inr (inl (file, x, lines))) (inl (d, y, alone, two)) = absurd (alone (file, command_unique words d (command.Batch file) y x))
entries_unique words read a b (inr (inl (file, x, lines))) (inr (inl (other, y, more))) =
    let same : file ≡ other = same_file file other (command_unique words (command.Batch file) (command.Batch other) x y) in
    batch_unique (read other) a b (subst (λ (f : List ℕ). BatchReads (read f) a) same lines) more
entries_unique words read a b (inr (inl (file, x, lines))) (inr (inr (none, two))) = absurd (never_both words (command.Batch file) x none)
entries_unique words read a b (inr (inr (none, one))) (inl (d, y, alone, two)) = absurd (never_both words d y none)
entries_unique words read a b (inr (inr (none, one))) (inr (inl (file, y, lines))) = absurd (never_both words (command.Batch file) y none)
entries_unique words read a b (inr (inr (none, one))) (inr (inr (never, two))) = one ∙ sym two
