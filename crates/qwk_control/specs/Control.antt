-- CONTROL.DAT by its lines, as Lee's layout gives them.
use Rattle.std.specs.Prelude.{◌≡◌, ◌⊎◌, ℕ, ◌-◌, ◌≤◌, List, [], ◌∷◌, length}
use Rattle.std.specs.Str.Lines.{lines}
use Rattle.qwk_control.specs.Line.{or_empty, NumberLine, PlaceLine, IdLine}
use Rattle.qwk_control.specs.declared.control.Control.{Control}

-- a line that is no number is 0
abbrev pub CountReads : List ℕ → ℕ → Type 0
CountReads text n = NumberLine text n ⊎ (((m : ℕ) → ¬ NumberLine text m) × (n ≡ 0))

-- a number line and a name line for each conference, and then the rest
abbrev pub ListedRead : List (List ℕ) → List (ℕ × List ℕ) → List (List ℕ) → Type 0
ListedRead all [] rest = all ≡ rest
ListedRead all (c ∷ cs) rest = (number : List ℕ) × (more : List (List ℕ)) × (all ≡ number ∷ c.1 ∷ more) × PlaceLine number c.0 × ListedRead more cs rest

pub record ControlLinesRead (all : List (List ℕ)) (c : Control) : Type 0 where
  pub fifth : List ℕ
  pub ninth : List ℕ
  pub tenth : List ℕ
  pub eleventh : List ℕ
  pub listed : List (List ℕ)
  pub rest : List (List ℕ)
  pub whole : all ≡ c.board ∷ c.city ∷ c.phone ∷ c.sysop ∷ fifth ∷ c.stamp ∷ c.user ∷ c.menu ∷ ninth ∷ tenth ∷ eleventh ∷ listed
  pub id : IdLine fifth c.serial c.bbsid
  pub counted : CountReads tenth c.count
  pub last : PlaceLine eleventh (length c.conferences - 1)
  pub some : 1 ≤ length c.conferences
  pub conferences : ListedRead listed c.conferences rest
  pub welcome : c.welcome ≡ or_empty rest 1
  pub news : c.news ≡ or_empty rest 2
  pub goodbye : c.goodbye ≡ or_empty rest 3

abbrev pub ControlReads : List ℕ → Control → Type 0
ControlReads bytes c = ControlLinesRead (lines bytes) c
