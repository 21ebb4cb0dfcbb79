-- What the reader knows between two lines.
use Rattle.std.specs.Prelude.{◌≡◌, ℕ, ◌+◌, ◌≤◌, List, [], ◌∷◌, ◌++◌, length, map, All, Some, None, true, false, IsTrue, unwrap_or}
use Rattle.setup_file.specs.Words.{is_number, number_of, kind_of, rights_of, value_behind}
use Rattle.setup_file.specs.Rules.{LineRules, broken_in, key_text, conference_key, number_word, kind_word, rights_word, name_behind}
use Rattle.text_fields.specs.Lines.{is_skipped}
use Rattle.setup_file.specs.Reads.{counted}
use Rattle.setup_file.specs.Fault.{KeepRules}
use Rattle.jam_records.specs.declared.message.Kind.TheVariants.{Local}
use Rattle.setup_file.specs.declared.conference.Conference.{Conference}
use Rattle.setup_file.specs.declared.error.SetupError.{SetupError}
use Rattle.setup_file.specs.declared.error.SetupError.TheVariants.{Line, OutOfMemory}
use Rattle.setup_file.specs.declared.error.SetupRule.{SetupRule}
use Rattle.setup_file.specs.declared.conference_line.Parts.{Parts}
use Rattle.setup_file.specs.declared.head.Head.{Head}
use Rattle.setup_file.specs.declared.key.Key.TheVariants.{Board, City, Phone, Sysop, Bbsid, Serial}
use Rattle.setup_file.specs.declared.fields.SetupFields.{SetupFields}
pub use Rattle.text_fields.specs.Numbered.{IsNumbered, Ahead}

abbrev pub AllSkipped : List (List ℕ) → Type 0
AllSkipped all = All (λ line. is_skipped line ≡ true) all

-- the first line isn't skipped, or there is none
abbrev pub StartsCounted : List (List ℕ) → Type 0
StartsCounted [] = Unit {0}
StartsCounted (line ∷ more) = is_skipped line ≡ false

-- lines that are skipped were taken, up to one that isn't, or to the end
pub record SkippedTo (all : List (List ℕ)) (number : ℕ) (left : List (List ℕ)) (at : ℕ) : Type 0 where
  pub skipped : List (List ℕ)
  pub each : AllSkipped skipped
  pub ahead : Ahead all number left at skipped
  pub starts : StartsCounted left

-- Of all lines some were taken, and the others are left, the first of which has this number. The kept lines
-- are those that count of the former, and break no rule.
pub record Kept (all left : List (List ℕ)) (at : ℕ) (kept : List (List ℕ)) : Type 0 where
  pub before : List (List ℕ)
  pub whole : all ≡ before ++ left
  pub count : at ≡ length before + 1
  pub counted : counted before ≡ kept
  pub keep : KeepRules [] kept

-- a line with a number breaks a rule so, or there was no memory
abbrev pub SetupFaultOrMemory : (ℕ → SetupRule → Type 0) → SetupError → Type 0
SetupFaultOrMemory P (Line number rule) = P number rule
SetupFaultOrMemory P OutOfMemory = Unit {0}

-- no rule is broken
abbrev pub NoneBroken : LineRules → Type 0
NoneBroken rules = broken_in rules ≡ None

-- this rule is the first that is broken
abbrev pub Breaks : LineRules → SetupRule → Type 0
Breaks rules rule = broken_in rules ≡ Some rule

-- the line with this number breaks this rule
abbrev pub BreaksAt : ℕ → LineRules → ℕ → SetupRule → Type 0
BreaksAt number rules at rule = (at ≡ number) × Breaks rules rule

-- the conference of a value that breaks no rule
abbrev pub conference_of_value : List ℕ → Conference
conference_of_value value = record {
  number = number_of (number_word value);
  kind = unwrap_or (kind_of (kind_word value)) Local;
  readonly = (unwrap_or (rights_of (rights_word value)) (false, false)).0;
  private = (unwrap_or (rights_of (rights_word value)) (false, false)).1;
  name = name_behind value;
}

abbrev pub conferences_of_lines : List (List ℕ) → List Conference
conferences_of_lines all = map (λ line. conference_of_value (value_behind conference_key line)) all

-- one line more was kept, and what it says is known
abbrev pub OneMore : List (List ℕ) → List (List ℕ) → List (List ℕ) → ℕ → (List ℕ → Type 0) → Type 0
OneMore all kept left at P = (line : List ℕ) × P line × Kept all left at (kept ++ line ∷ [])

-- the values of the first six lines, in order
pub record HeadIs (first second third fourth fifth sixth : List ℕ) (head : Head) : Type 0 where
  pub board : head.board.now ≡ value_behind (key_text Board) first
  pub city : head.city.now ≡ value_behind (key_text City) second
  pub phone : head.phone.now ≡ value_behind (key_text Phone) third
  pub sysop : head.sysop.now ≡ value_behind (key_text Sysop) fourth
  pub bbsid : head.bbsid.now ≡ value_behind (key_text Bbsid) fifth
  pub serial : head.serial.now ≡ value_behind (key_text Serial) sixth

-- the first six lines were kept, and these are their values
abbrev pub HeadTaken : List (List ℕ) → Head → List (List ℕ) → ℕ → Type 0
HeadTaken all head left at =
    (first second third fourth fifth sixth : List ℕ) × HeadIs first second third fourth fifth sixth head
    × Kept all left at (first ∷ second ∷ third ∷ fourth ∷ fifth ∷ sixth ∷ [])

-- the parts of a conference are those of the value
pub record PartsAre (value : List ℕ) (parts : Parts) : Type 0 where
  pub number : parts.number ≡ number_of (number_word value)
  pub kind : kind_of (kind_word value) ≡ Some parts.kind
  pub rights : rights_of (rights_word value) ≡ Some (parts.readonly, parts.private)
  pub name : parts.name.now ≡ name_behind value

-- all lines were kept, and these are the conferences of those behind the first seven, of which there are some
pub record ConferencesTaken (all kept : List (List ℕ)) (conferences : List Conference) : Type 0 where
  pub own : List (List ℕ)
  pub some : 1 ≤ length own
  pub are : conferences ≡ conferences_of_lines own
  pub number : ℕ
  pub whole : Kept all [] number (kept ++ own)

-- the setup has these values of the first six lines, these zones and these conferences
pub record IsMadeOf (head : Head) (zones : List ℕ) (conferences : List Conference) (s : SetupFields) : Type 0 where
  pub board : s.board ≡ head.board.now
  pub city : s.city ≡ head.city.now
  pub phone : s.phone ≡ head.phone.now
  pub sysop : s.sysop ≡ head.sysop.now
  pub bbsid : s.bbsid ≡ head.bbsid.now
  pub serial : IsTrue (is_number head.serial.now) → s.serial ≡ number_of head.serial.now
  pub zone_list : s.zones ≡ zones
  pub conference_list : s.conferences ≡ conferences
