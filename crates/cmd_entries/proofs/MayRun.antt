-- A command that words are may be carried out, unless it's a batch.
use Rattle.std.proofs.Common.{◌≡◌, ℕ, Bool, true, false, List, [], ◌∷◌, ◌++◌, Option, Some, None, refl, sym, ◌∙◌, subst}
use Rattle.std.specs.List.{find}
use Rattle.std.specs.Option.{option_and_then, option_map, option_or}
use Rattle.std.specs.Prelude.{codes, cond}
use Rattle.std.specs.Str.{bytes_eq}
use Rattle.door_outside.specs.Name.{HasParts, IsShelfName}
use Rattle.cmd_entries.proofs.OneWordLaws.{conference_word, name, passing_word}
use Rattle.cmd_entries.specs.Entries.{CanRun}
use Rattle.cmd_entries.specs.OneWord.{base, conferences, file, flags, folder, has_parts, is_base, is_conferences, number, text}
use Rattle.cmd_entries.specs.Words.{CommandReads, IsBatch, NamesConferences, forms, four_words, applied, no_words, one_word, read_words, three_words, two_words}
use Rattle.cmd_entries.specs.declared.command.Command.{Command}
use Rattle.cmd_entries.specs.declared.command.Command.TheVariants as command

abbrev MayRun : Command → Type 0
MayRun c = ¬ IsBatch c → CanRun c

-- what words are read as is such a command
abbrev Runs : (List (List ℕ) → Option Command) → Type 0
Runs form = (words : List (List ℕ)) (c : Command) → form words ≡ Some c → MayRun c

made : (found c : Command) → Some found ≡ Some c → MayRun found → MayRun c
made found c is may = let same : found ≡ c = cc is in subst MayRun same may

no_runs : (c : Command) → MayRun c → Runs (no_words c)
no_runs c may [] d is = made c d is may
no_runs c may (u ∷ words) d is = absurd (cc is)

one_runs : {A : Type 0} (a : List ℕ → Option A) (make : A → Command) → ((u : List ℕ) (x : A) → a u ≡ Some x → MayRun (make x)) → Runs (one_word a make)
one_runs {A = A} a make may (u ∷ []) c is = by (a u) refl is
  where
    by : (p : Option A) → a u ≡ p → option_map make p ≡ Some c → MayRun c
    by (Some x) i is = made (make x) c is (may u x i)
    by None i is = absurd (cc is)
one_runs a make may words c is = absurd (cc is)

two_runs : {A B : Type 0} (a : List ℕ → Option A) (b : List ℕ → Option B) (make : A → B → Command) → ((u v : List ℕ) (x : A) (y : B) → a u ≡ Some x → b v ≡ Some y → MayRun (make x y)) → Runs (two_words a b make)
two_runs {A = A} {B = B} a b make may (u ∷ v ∷ []) c is = by (a u) (b v) refl refl is
  where
    by : (p : Option A) (q : Option B) → a u ≡ p → b v ≡ q → applied (option_map make p) q ≡ Some c → MayRun c
    by (Some x) (Some y) i j is = made (make x y) c is (may u v x y i j)
    by p q i j is = absurd (cc is)
two_runs a b make may words c is = absurd (cc is)

three_runs : {A B D : Type 0} (a : List ℕ → Option A) (b : List ℕ → Option B) (d : List ℕ → Option D) (make : A → B → D → Command) → ((w : List ℕ) (x : A) (y : B) (z : D) → d w ≡ Some z → MayRun (make x y z)) → Runs (three_words a b d make)
three_runs {A = A} {B = B} {D = D} a b d make may (u ∷ v ∷ w ∷ []) c is = by (a u) (b v) (d w) refl is
  where
    by : (p : Option A) (q : Option B) (r : Option D) → d w ≡ r → applied (applied (option_map make p) q) r ≡ Some c → MayRun c
    by (Some x) (Some y) (Some z) k is = made (make x y z) c is (may w x y z k)
    by p q r k is = absurd (cc is)
three_runs a b d make may words c is = absurd (cc is)

four_runs : {A B D E : Type 0} (a : List ℕ → Option A) (b : List ℕ → Option B) (d : List ℕ → Option D) (e : List ℕ → Option E) (make : A → B → D → E → Command) → ((u : List ℕ) (x : A) (y : B) (z : D) (t : E) → a u ≡ Some x → MayRun (make x y z t)) → Runs (four_words a b d e make)
four_runs {A = A} {B = B} {D = D} {E = E} a b d e make may (u ∷ v ∷ w ∷ x ∷ []) c is = by (a u) (b v) (d w) (e x) refl is
  where
    by : (p : Option A) (q : Option B) (r : Option D) (s : Option E) → a u ≡ p → applied (applied (applied (option_map make p) q) r) s ≡ Some c → MayRun c
    by (Some x) (Some y) (Some z) (Some t) i is = made (make x y z t) c is (may u x y z t i)
    by p q r s i is = absurd (cc is)
four_runs a b d e make may words c is = absurd (cc is)

is_folder : (u x : List ℕ) → folder u ≡ Some x → HasParts 3 x
is_folder u x is = let it = (passing_word (has_parts 3) u x (name 3 u)).0 is in subst (HasParts 3) (sym it.1) it.0

read_runs : Runs read_words
read_runs words c = by (one_word folder command.Read words) refl
  where
    by : (p : Option Command) → one_word folder command.Read words ≡ p → option_or p (two_words folder number command.Show words) ≡ Some c → MayRun c
    by (Some d) i is = one_runs folder command.Read (λ u x i single. is_folder u x i) words c (i ∙ is)
    by None i is = two_runs folder number command.Show (λ u v x y i j single. is_folder u x i) words c is

-- each form of the table
abbrev AllRun : List (List ℕ × (List (List ℕ) → Option Command)) → Type 0
AllRun [] = Unit {0}
AllRun (form ∷ rest) = Runs form.1 × AllRun rest

files_run : (make : List ℕ → Command) → ((x : List ℕ) → CanRun (make x)) → Runs (one_word file make)
files_run make may = one_runs file make (λ u x i single. may x)

numbers_run : (make : ℕ → ℕ → Command) → ((x y : ℕ) → CanRun (make x y)) → Runs (two_words number number make)
numbers_run make may = two_runs number number make (λ u v x y i j single. may x y)

writings_run : (make : List ℕ → ℕ → List ℕ → List ℕ → Command) → ((x : List ℕ) (y : ℕ) (z t : List ℕ) → HasParts 3 x → CanRun (make x y z t)) → Runs (four_words folder number file file make)
writings_run make may = four_runs folder number file file make (λ u x y z t i single. may x y z t (is_folder u x i))

infixr 35 ◌also◌
◌also◌ : {P Q : Type 0} → P → Q → P × Q
p also q = (p, q)

forms_run : AllRun forms
forms_run =
    files_run command.List (λ x. tt)
    also read_runs
    also writings_run command.Reply (λ x y z t named. named)
    also writings_run command.Compose (λ x y z t named. named)
    also files_run command.Init (λ x. tt)
    also three_runs text flags conferences command.Enroll (λ w x y z k single. names w z k)
    also two_runs number file command.Import (λ u v x y i j single. tt)
    also numbers_run command.Kill (λ x y. tt)
    also three_runs text number folder command.Export (λ w x y z k single. is_folder w z k)
    also two_runs text number command.Ack (λ u v x y i j single. tt)
    also two_runs text file command.Upload (λ u v x y i j single. tt)
    also no_runs command.Check (λ single. tt)
    also numbers_run command.Sample (λ x y. tt)
    also one_runs file command.Batch (λ u x i single. absurd (single (x, refl)))
    also files_run command.Scan (λ x. tt)
    also files_run command.Toss (λ x. tt)
    also two_runs number base command.Adopt (λ u v x y i j single. begins v y j)
    also one_runs number command.Pack (λ u x i single. tt)
    also tt
  where
    names : (w z : List ℕ) → conferences w ≡ Some z → NamesConferences z
    names w z is = let it = (passing_word is_conferences w z (conference_word w)).0 is in subst NamesConferences (sym it.1) it.0

    begins : (v y : List ℕ) → base v ≡ Some y → IsShelfName (y ++ codes ".JHR")
    begins v y is = let it = (passing_word is_base v y (name 4 (v ++ codes ".JHR"))).0 is in subst (λ (w : List ℕ). IsShelfName (w ++ codes ".JHR")) (sym it.1) it.0

found_runs : (verb : List ℕ) (table : List (List ℕ × (List (List ℕ) → Option Command))) → AllRun table → (rest : List (List ℕ)) (c : Command)
    → option_and_then (λ form. form.1 rest) (find (λ form. bytes_eq verb form.0) table) ≡ Some c → MayRun c
found_runs verb [] all rest c is = absurd (cc is)
found_runs verb (form ∷ table) all rest c is = by (bytes_eq verb form.0) (found_runs verb table all.1 rest c) is
  where
    by : (t : Bool) → (option_and_then (λ form. form.1 rest) (find (λ form. bytes_eq verb form.0) table) ≡ Some c → MayRun c)
        → option_and_then (λ form. form.1 rest) (cond t (Some form) (find (λ form. bytes_eq verb form.0) table)) ≡ Some c → MayRun c
    by true behind is = all.0 rest c is
    by false behind is = behind is

pub command_runs : (words : List (List ℕ)) (c : Command) → CommandReads words c → ¬ IsBatch c → CanRun c
command_runs [] c reads = absurd (cc reads)
command_runs (verb ∷ rest) c reads = found_runs verb forms forms_run rest c reads
