-- Which words are which command.
use Rattle.std.specs.Prelude.{◌≡◌, ℕ, List, [], ◌∷◌, codes, Option, Some, None}
use Rattle.std.specs.List.{find}
use Rattle.std.specs.Option.{option_and_then, option_map, option_or}
use Rattle.std.specs.Str.{bytes_eq}
use Rattle.cmd_words.specs.Choice.{ChoiceReads}
use Rattle.cmd_words.specs.declared.choice.Choice.{Choice}
use Rattle.cmd_entries.specs.OneWord.{base, conferences, file, flags, folder, number, text}
use Rattle.cmd_entries.specs.declared.command.Command.{Command}
use Rattle.cmd_entries.specs.declared.command.Command.TheVariants as command

-- ---- so many words, and what is made of what they are read as
-- of one more thing, where it's there
abbrev pub applied : {A C : Type 0} → Option (A → C) → Option A → Option C
applied None x = None
applied (Some make) None = None
applied (Some make) (Some x) = Some (make x)

abbrev pub no_words : {C : Type 0} → C → List (List ℕ) → Option C
no_words made [] = Some made
no_words made other = None

abbrev pub one_word : {A C : Type 0} → (List ℕ → Option A) → (A → C) → List (List ℕ) → Option C
one_word a make (u ∷ []) = option_map make (a u)
one_word a make other = None

abbrev pub two_words : {A B C : Type 0} → (List ℕ → Option A) → (List ℕ → Option B) → (A → B → C) → List (List ℕ) → Option C
two_words a b make (u ∷ v ∷ []) = applied (option_map make (a u)) (b v)
two_words a b make other = None

abbrev pub three_words : {A B D C : Type 0} → (List ℕ → Option A) → (List ℕ → Option B) → (List ℕ → Option D) → (A → B → D → C) → List (List ℕ) → Option C
three_words a b d make (u ∷ v ∷ w ∷ []) = applied (applied (option_map make (a u)) (b v)) (d w)
three_words a b d make other = None

abbrev pub four_words : {A B D E C : Type 0} → (List ℕ → Option A) → (List ℕ → Option B) → (List ℕ → Option D) → (List ℕ → Option E) → (A → B → D → E → C) → List (List ℕ) → Option C
four_words a b d e make (u ∷ v ∷ w ∷ x ∷ []) = applied (applied (applied (option_map make (a u)) (b v)) (d w)) (e x)
four_words a b d e make other = None

-- ---- commands
-- `read` shows a folder's list, or with a number the message in that place
abbrev pub read_words : List (List ℕ) → Option Command
read_words words = option_or (one_word folder command.Read words) (two_words folder number command.Show words)

-- the first word of each, and how those behind it are read
abbrev pub forms : List (List ℕ × (List (List ℕ) → Option Command))
forms =
    (codes "list", one_word file command.List)
    ∷ (codes "read", read_words)
    ∷ (codes "reply", four_words folder number file file command.Reply)
    ∷ (codes "compose", four_words folder number file file command.Compose)
    ∷ (codes "init", one_word file command.Init)
    ∷ (codes "enroll", three_words text flags conferences command.Enroll)
    ∷ (codes "import", two_words number file command.Import)
    ∷ (codes "kill", two_words number number command.Kill)
    ∷ (codes "export", three_words text number folder command.Export)
    ∷ (codes "ack", two_words text number command.Ack)
    ∷ (codes "upload", two_words text file command.Upload)
    ∷ (codes "check", no_words command.Check)
    ∷ (codes "sample", two_words number number command.Sample)
    ∷ (codes "batch", one_word file command.Batch)
    ∷ (codes "scan", one_word file command.Scan)
    ∷ (codes "toss", one_word file command.Toss)
    ∷ (codes "adopt", two_words number base command.Adopt)
    ∷ (codes "pack", one_word number command.Pack)
    ∷ []

-- the command that a first word is with those behind it
abbrev pub command_behind : List ℕ → List (List ℕ) → Option Command
command_behind verb rest = option_and_then (λ form. form.1 rest) (find (λ form. bytes_eq verb form.0) forms)

-- the command that words are
abbrev pub command_of : List (List ℕ) → Option Command
command_of [] = None
command_of (verb ∷ rest) = command_behind verb rest

abbrev pub CommandReads : List (List ℕ) → Command → Type 0
CommandReads words c = command_of words ≡ Some c

abbrev pub IsNoCommand : List (List ℕ) → Type 0
IsNoCommand words = command_of words ≡ None

-- it is a batch
abbrev pub IsBatch : Command → Type 0
IsBatch c = (file : List ℕ) × (c ≡ command.Batch file)

-- a word names conferences: all, or some by their numbers
abbrev pub NamesConferences : List ℕ → Type 0
NamesConferences word = (choice : Choice) × ChoiceReads word choice
