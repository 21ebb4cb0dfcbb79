-- Words are one command or none, since the command that they are is a function of them.
use Rattle.std.proofs.Common.{◌≡◌, ◌⊎◌, inl, inr, ℕ, List, Option, Some, None, refl, sym, ◌∙◌}
use Rattle.cmd_entries.specs.Words.{CommandReads, IsNoCommand, command_of}
use Rattle.cmd_entries.specs.declared.command.Command.{Command}

pub command_unique : (words : List (List ℕ)) (a b : Command) → CommandReads words a → CommandReads words b → a ≡ b
command_unique words a b x y = let e : Some a ≡ Some b = sym x ∙ y in cc

pub command_or_none : (words : List (List ℕ)) → ((c : Command) × CommandReads words c) ⊎ IsNoCommand words
command_or_none words = by (command_of words) refl
  where
    by : (found : Option Command) → command_of words ≡ found → ((c : Command) × CommandReads words c) ⊎ IsNoCommand words
    by (Some c) is = inl (c, is)
    by None is = inr is

pub never_both : (words : List (List ℕ)) (c : Command) → CommandReads words c → IsNoCommand words → ⊥
never_both words c reads none = let e : Some c ≡ None = sym reads ∙ none in cc
