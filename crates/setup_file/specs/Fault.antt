-- The first line of a setup file that breaks a rule.
use Rattle.std.specs.Prelude.{◌≡◌, ℕ, ◌+◌, ◌<◌, List, [], ◌∷◌, ◌++◌, length, Some, None, false}
use Rattle.std.specs.Str.Lines.{lines}
use Rattle.text_fields.specs.Lines.{is_skipped}
use Rattle.setup_file.specs.Reads.{counted}
use Rattle.setup_file.specs.Rules.{broken_rule}
use Rattle.setup_file.specs.declared.error.SetupRule.{SetupRule}
use Rattle.setup_file.specs.declared.error.SetupRule.TheVariants.{Missing}

-- each of the lines behind a front breaks no rule
abbrev pub KeepRules : List (List ℕ) → List (List ℕ) → Type 0
KeepRules front [] = Unit {0}
KeepRules front (line ∷ more) = (broken_rule front line ≡ None) × KeepRules (front ++ line ∷ []) more

-- this line, from 1, breaks this rule, and no line before it breaks one; or it is one past the last
pub data LinesFault (all : List (List ℕ)) (number : ℕ) (rule : SetupRule) : Type 0 where
  -- a line that isn't skipped
  at_line : (before more : List (List ℕ)) (line : List ℕ) → all ≡ before ++ line ∷ more → is_skipped line ≡ false
      → KeepRules [] (counted before) → broken_rule (counted before) line ≡ Some rule → number ≡ length before + 1 → LinesFault all number rule
  -- the lines end before the first conference line
  at_end : rule ≡ Missing → KeepRules [] (counted all) → length (counted all) < 8 → number ≡ length all + 1 → LinesFault all number rule

abbrev pub SetupFault : List ℕ → ℕ → SetupRule → Type 0
SetupFault bytes number rule = LinesFault (lines bytes) number rule
