-- What the reader knows between two lines.
use Rattle.std.specs.Prelude.{◌≡◌, ◌≢◌, ℕ, ◌+◌, List, [], ◌∷◌, ◌++◌, length, Option, Some, None, MatchOption}
use Rattle.std.specs.Borrow.{Bor}
use Rattle.import_sheet.specs.Sheet.{HasNone, HeaderGives, BodyLines, SheetIs, stored_body, dot}
use Rattle.import_sheet.specs.Fault.{WholeHeaders, BodyBreaks, MessageFault}
use Rattle.import_sheet.specs.declared.fault.SheetError.{SheetError}
use Rattle.import_sheet.specs.declared.fault.SheetError.TheVariants.{Line, OutOfMemory}
use Rattle.import_sheet.specs.declared.fault.SheetRule.{SheetRule}
use Rattle.import_sheet.specs.declared.field.Field.{Field}
use Rattle.import_sheet.specs.declared.field.Field.TheVariants.{From, To, Subject, Date, Msgid, Reply, Private}
use Rattle.import_sheet.specs.declared.found.Found.{Found}
use Rattle.import_sheet.specs.declared.sheet.Sheet.{Sheet}
pub use Rattle.text_fields.specs.Numbered.{IsNumbered, Ahead}

-- the first line isn't empty
abbrev pub StartsWithText : List (List ℕ) → Type 0
StartsWithText all = (line : List ℕ) × (more : List (List ℕ)) × (all ≡ line ∷ more) × (line ≢ [])

abbrev pub value_in : Found → Field → Option (Bor (List ℕ))
value_in found From = found.from
value_in found To = found.to
value_in found Subject = found.subject
value_in found Date = found.date
value_in found Msgid = found.msgid
value_in found Reply = found.reply
value_in found Private = found.private

abbrev pub with_value : Found → Field → Bor (List ℕ) → Found
with_value found From value = record found { from = Some value }
with_value found To value = record found { to = Some value }
with_value found Subject value = record found { subject = Some value }
with_value found Date value = record found { date = Some value }
with_value found Msgid value = record found { msgid = Some value }
with_value found Reply value = record found { reply = Some value }
with_value found Private value = record found { private = Some value }

-- for each field the value that one of the lines gives, or none
abbrev pub HoldsValues : List (List ℕ) → Found → Type 0
HoldsValues headers found = (field : Field) → MatchOption (value_in found field) (HasNone headers field) (λ value. HeaderGives headers field value.now)

-- the text of a value, or the empty one
abbrev pub text_or_empty : Option (Bor (List ℕ)) → List ℕ
text_or_empty None = []
text_or_empty (Some value) = value.now

-- a line with a number breaks a rule so, or there was no memory
abbrev pub SheetFaultOrMemory : (ℕ → SheetRule → Type 0) → SheetError → Type 0
SheetFaultOrMemory P (Line number rule) = P number rule
SheetFaultOrMemory P OutOfMemory = Unit {0}

-- in lines of which the first has this number, the line of this number breaks this rule
abbrev pub FaultAt : List (List ℕ) → ℕ → ℕ → SheetRule → Type 0
FaultAt all number line rule = (place : ℕ) × (line ≡ number + place) × MessageFault all place rule

-- header lines with these values, and the empty line behind them
abbrev pub HeadersTaken : List (List ℕ) → ℕ → Found → List (List ℕ) → ℕ → Type 0
HeadersTaken all number found left at = (headers : List (List ℕ)) × WholeHeaders headers × HoldsValues headers found × Ahead all number left at (headers ++ [] ∷ [])

-- body lines of this text, and the line of one dot behind them
abbrev pub BodyTaken : List (List ℕ) → ℕ → List ℕ → List (List ℕ) → ℕ → Type 0
BodyTaken all number text left at = (body : List (List ℕ)) × BodyLines body × (text ≡ stored_body body) × Ahead all number left at (body ++ dot ∷ [])

-- behind body lines, a line breaks this rule or isn't there
abbrev pub BodyFaultAt : List (List ℕ) → ℕ → ℕ → SheetRule → Type 0
BodyFaultAt all number line rule = (body rest : List (List ℕ)) × (all ≡ body ++ rest) × BodyLines body × BodyBreaks body rest rule × (line ≡ number + length body)

-- the lines of this message
abbrev pub SheetTaken : List (List ℕ) → ℕ → Sheet → List (List ℕ) → ℕ → Type 0
SheetTaken all number sheet left at = (own : List (List ℕ)) × SheetIs own sheet × Ahead all number left at own
