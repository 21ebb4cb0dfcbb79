-- The first line of CONTROL.DAT that breaks its rule.
use Rattle.std.specs.Prelude.{◌≡◌, ◌⊎◌, ℕ, ◌+◌, ◌*◌, ◌<◌, ◌≤◌, List, Some, length, drop}
use Rattle.std.specs.Str.Lines.{lines}
use Rattle.qwk_control.specs.Line.{line, PlaceLine, IdLine}
use Rattle.qwk_control.specs.declared.fault.ControlError.{ControlError}
use Rattle.qwk_control.specs.declared.fault.ControlError.TheVariants.{TooFewLines, BadNumber, BadBoardId, OutOfMemory}

-- line 11 and each conference's first line are numbers
abbrev pub IsNumberPlace : ℕ → Type 0
IsNumberPlace k = (k ≡ 11) ⊎ ((j : ℕ) × (k ≡ 12 + 2 * j))

-- the lines that must be there: eleven, and two for each conference that line 11 counts
abbrev pub IsWanted : List (List ℕ) → ℕ → Type 0
IsWanted all k = (k ≤ 11) ⊎ ((text : List ℕ) × (n : ℕ) × (line all 11 ≡ Some text) × PlaceLine text n × (k ≤ 13 + 2 * n))

-- the line is there and keeps its rule
pub record LineKeeps (all : List (List ℕ)) (k : ℕ) : Type 0 where
  pub text : List ℕ
  pub there : line all k ≡ Some text
  pub id : k ≡ 5 → (serial id : List ℕ) × IdLine text serial id
  pub number : IsNumberPlace k → (n : ℕ) × PlaceLine text n

-- the line breaks its rule so
abbrev pub BreaksLine : List (List ℕ) → ℕ → ControlError → Type 0
BreaksLine all k (TooFewLines at) = (at ≡ k) × (length all < k)
BreaksLine all k (BadNumber at) = (at ≡ k) × IsNumberPlace k × ((text : List ℕ) × (line all k ≡ Some text) × ((n : ℕ) → ¬ PlaceLine text n))
BreaksLine all k BadBoardId = (k ≡ 5) × ((text : List ℕ) × (line all k ≡ Some text) × ((serial id : List ℕ) → ¬ IdLine text serial id))
BreaksLine all k OutOfMemory = ⊥

-- the first line that breaks its rule, among those that must be there
abbrev pub LineFault : List (List ℕ) → ControlError → Type 0
LineFault all fault = (k : ℕ) × (1 ≤ k) × IsWanted all k × ((j : ℕ) → 1 ≤ j → j < k → LineKeeps all j) × BreaksLine all k fault

abbrev pub ControlFault : List ℕ → ControlError → Type 0
ControlFault bytes fault = LineFault (lines bytes) fault

-- each of the first lines keeps its rule
abbrev pub KeepsUpto : List (List ℕ) → ℕ → Type 0
KeepsUpto all n = (j : ℕ) → 1 ≤ j → j ≤ n → LineKeeps all j

-- one of the first lines is the first that breaks its rule
abbrev pub BreaksUpto : List (List ℕ) → ℕ → ControlError → Type 0
BreaksUpto all n fault = (k : ℕ) × (1 ≤ k) × (k ≤ n) × ((j : ℕ) → 1 ≤ j → j < k → LineKeeps all j) × BreaksLine all k fault

-- the first lines keep their rules, and these follow them
pub record KeptBefore (all : List (List ℕ)) (k : ℕ) (rest : List (List ℕ)) : Type 0 where
  pub keeps : KeepsUpto all k
  pub left : drop k all ≡ rest

-- where so many lines keep their rules and these follow, the first fault is this one, and among the first lines
abbrev pub FaultBehind : ℕ → List (List ℕ) → ℕ → ControlError → Type 0
FaultBehind before rest upto fault = (all : List (List ℕ)) → KeptBefore all before rest → BreaksUpto all upto fault

-- want of memory, or a fault of which P holds
abbrev pub MemoryOr : (ControlError → Type 0) → ControlError → Type 0
MemoryOr P fault = (fault ≡ OutOfMemory) ⊎ P fault
