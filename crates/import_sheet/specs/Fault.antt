-- The first line of a sheet that breaks a rule.
use Rattle.std.specs.Prelude.{◌≡◌, ◌≢◌, ◌⊎◌, ℕ, ◌+◌, ◌<◌, List, [], ◌∷◌, ◌++◌, length}
use Rattle.std.specs.Str.Lines.{lines}
use Rattle.text_fields.specs.Split.{Lacks}
use Rattle.import_sheet.specs.Header.{BeginsWithWord, HeaderLineReads, ValueFits, rule_of_field}
use Rattle.import_sheet.specs.Sheet.{Has, HasNone, Headers, BodyLines, SheetsAre, stored_body, dot}
use Rattle.import_sheet.specs.declared.fault.SheetRule.{SheetRule}
use Rattle.import_sheet.specs.declared.fault.SheetRule.TheVariants.{Header, Twice, Missing, Byte, Length, End}
use Rattle.import_sheet.specs.declared.field.Field.{Field}
use Rattle.import_sheet.specs.declared.field.Field.TheVariants.{From, To}
use Rattle.import_sheet.specs.declared.sheet.Sheet.{Sheet}

-- the lines go on with this one
abbrev pub Next : List (List ℕ) → List ℕ → Type 0
Next rest line = (more : List (List ℕ)) × (rest ≡ line ∷ more)

-- header lines with From and To among them
pub record WholeHeaders (all : List (List ℕ)) : Type 0 where
  pub headed : Headers all
  pub from : Has all From
  pub to : Has all To

-- behind these headers a line breaks this rule
pub data LineBreaks (headers : List (List ℕ)) (line : List ℕ) (rule : SheetRule) : Type 0 where
  -- it begins with no word
  no_word : rule ≡ Header → line ≢ [] → ((field : Field) → ¬ BeginsWithWord field line) → LineBreaks headers line rule
  -- it begins with a word that was there before
  word_again : (field : Field) → rule ≡ Twice → BeginsWithWord field line → Has headers field → LineBreaks headers line rule
  -- its word is new, and its value doesn't fit
  bad_value : (field : Field) (value : List ℕ) → rule ≡ rule_of_field field → HasNone headers field → HeaderLineReads line field value → ¬ ValueFits field value → LineBreaks headers line rule
  -- it is the empty line, and From or To wasn't there
  too_soon : rule ≡ Missing → headers ≢ [] → line ≡ [] → HasNone headers From ⊎ HasNone headers To → LineBreaks headers line rule

-- behind these headers, what follows breaks this rule
pub data HeaderBreaks (headers rest : List (List ℕ)) (rule : SheetRule) : Type 0 where
  by_line : (line : List ℕ) → Next rest line → LineBreaks headers line rule → HeaderBreaks headers rest rule
  -- nothing follows a message that is begun
  no_line : rule ≡ End → headers ≢ [] → rest ≡ [] → HeaderBreaks headers rest rule

-- behind these body lines, what follows breaks this rule
pub data BodyBreaks (body rest : List (List ℕ)) (rule : SheetRule) : Type 0 where
  -- a line that holds a carriage return
  with_return : (line : List ℕ) → rule ≡ Byte → Next rest line → ¬ Lacks 13 line → BodyBreaks body rest rule
  -- a line with which the body is too long
  too_long : (line : List ℕ) → rule ≡ Length → Next rest line → line ≢ dot → Lacks 13 line → 16384 < length (stored_body (body ++ line ∷ [])) → BodyBreaks body rest rule
  -- nothing follows
  no_dot : rule ≡ End → rest ≡ [] → BodyBreaks body rest rule

-- the lines begin a message rightly, and the line in this place, from 0, breaks this rule, or isn't there
pub data MessageFault (all : List (List ℕ)) (place : ℕ) (rule : SheetRule) : Type 0 where
  in_headers : (headers rest : List (List ℕ)) → all ≡ headers ++ rest → Headers headers → HeaderBreaks headers rest rule → place ≡ length headers → MessageFault all place rule
  in_body : (headers body rest : List (List ℕ)) → all ≡ headers ++ [] ∷ (body ++ rest)
      → WholeHeaders headers → BodyLines body → BodyBreaks body rest rule → place ≡ length headers + 1 + length body → MessageFault all place rule

-- the first lines are whole messages and empty lines, and the message that then begins has this fault
pub record SheetLinesFault (all : List (List ℕ)) (number : ℕ) (rule : SheetRule) : Type 0 where
  pub before : List (List ℕ)
  pub rest : List (List ℕ)
  pub sheets : List Sheet
  pub place : ℕ
  pub whole : all ≡ before ++ rest
  pub read : SheetsAre before sheets
  pub fault : MessageFault rest place rule
  pub at : number ≡ length before + place + 1

-- this line, from 1, is the first that breaks a rule, and this is the rule
abbrev pub SheetFault : List ℕ → ℕ → SheetRule → Type 0
SheetFault bytes number rule = SheetLinesFault (lines bytes) number rule
