-- Import sheets by their lines.
use Rattle.std.specs.Prelude.{◌≡◌, ◌≢◌, ◌⊎◌, ◌↔◌, ℕ, ◌≤◌, ◌==◌, if◌then◌else◌, List, [], ◌∷◌, ◌++◌, length, All, Contains, Option, MatchOption, IsTrue, codes}
use Rattle.std.specs.List.{flat_map}
use Rattle.std.specs.Str.Lines.{lines}
use Rattle.text_fields.specs.Split.{Lacks}
use Rattle.import_sheet.specs.Header.{BeginsWithWord, HeaderLineReads, DateIs, ValueFits}
use Rattle.import_sheet.specs.declared.field.Field.{Field}
use Rattle.import_sheet.specs.declared.field.Field.TheVariants.{From, To, Subject, Date, Msgid, Reply, Private}
use Rattle.import_sheet.specs.declared.sheet.Sheet.{Sheet}

-- one of the lines begins with the field's word, or none does
abbrev pub Has : List (List ℕ) → Field → Type 0
Has all field = (line : List ℕ) × Contains all line × BeginsWithWord field line

abbrev pub HasNone : List (List ℕ) → Field → Type 0
HasNone all field = All (λ line. ¬ BeginsWithWord field line) all

-- each line is a header whose value fits, and no line after it has its field
abbrev pub Headers : List (List ℕ) → Type 0
Headers [] = Unit {0}
Headers (line ∷ more) = (field : Field) × (value : List ℕ) × HeaderLineReads line field value × ValueFits field value × HasNone more field × Headers more

-- one of the lines gives the field this value
abbrev pub HeaderGives : List (List ℕ) → Field → List ℕ → Type 0
HeaderGives all field value = (line : List ℕ) × Contains all line × HeaderLineReads line field value

-- the text is the value that a line gives the field, or empty
abbrev pub HeaderGivesOrEmpty : List (List ℕ) → Field → List ℕ → Type 0
HeaderGivesOrEmpty all field text = HeaderGives all field text ⊎ (HasNone all field × (text ≡ []))

-- the date is the one that a line gives, or none
abbrev pub HeaderGivesDate : List (List ℕ) → Option ℕ → Type 0
HeaderGivesDate all date = MatchOption date (HasNone all Date) (λ n. (value : List ℕ) × HeaderGives all Date value × DateIs value n)

-- the headers are those of the message
pub record FieldsAre (headers : List (List ℕ)) (sheet : Sheet) : Type 0 where
  pub from : HeaderGives headers From sheet.from
  pub to : HeaderGives headers To sheet.to
  pub subject : HeaderGivesOrEmpty headers Subject sheet.subject
  pub date : HeaderGivesDate headers sheet.date
  pub msgid : HeaderGivesOrEmpty headers Msgid sheet.msgid
  pub reply : HeaderGivesOrEmpty headers Reply sheet.reply
  pub private : IsTrue sheet.private ↔ HeaderGives headers Private (codes "yes")

-- the line that ends a body
abbrev pub dot : List ℕ
dot = codes "."

abbrev pub without_dot : List ℕ → List ℕ
without_dot [] = []
without_dot (b ∷ rest) = if b == 46 then rest else b ∷ rest

-- each line without the dot that it may begin with, and a carriage return behind it
abbrev pub stored_body : List (List ℕ) → List ℕ
stored_body all = flat_map (λ line. without_dot line ++ 13 ∷ []) all

-- lines of a body: none is one dot, none holds a carriage return, and their text is short enough
pub record BodyLines (all : List (List ℕ)) : Type 0 where
  pub no_end : All (λ line. line ≢ dot) all
  pub no_return : All (Lacks 13) all
  pub short : length (stored_body all) ≤ 16384

-- the lines are header lines, an empty line, body lines and a line of one dot, and the message is theirs
pub record SheetIs (all : List (List ℕ)) (sheet : Sheet) : Type 0 where
  pub headers : List (List ℕ)
  pub body : List (List ℕ)
  pub whole : all ≡ headers ++ [] ∷ (body ++ dot ∷ [])
  pub headed : Headers headers
  pub fields : FieldsAre headers sheet
  pub bodied : BodyLines body
  pub text : sheet.body ≡ stored_body body

abbrev pub AllEmpty : List (List ℕ) → Type 0
AllEmpty all = All (λ line. line ≡ []) all

-- for each message in order some empty lines and its own, and at the end some empty lines
abbrev pub SheetsAre : List (List ℕ) → List Sheet → Type 0
SheetsAre all [] = AllEmpty all
SheetsAre all (sheet ∷ sheets) = (blanks own more : List (List ℕ)) × (all ≡ blanks ++ (own ++ more)) × AllEmpty blanks × SheetIs own sheet × SheetsAre more sheets

abbrev pub SheetReads : List ℕ → List Sheet → Type 0
SheetReads bytes sheets = SheetsAre (lines bytes) sheets
