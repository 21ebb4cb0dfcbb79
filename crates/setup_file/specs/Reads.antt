-- Setup files by their lines.
use Rattle.std.specs.Prelude.{◌≡◌, ℕ, List, [], ◌∷◌, Some, not, filter, IsTrue}
use Rattle.std.specs.List.{list_all}
use Rattle.std.specs.Str.Lines.{lines}
use Rattle.text_fields.specs.Lines.{is_skipped}
use Rattle.setup_file.specs.Valid.{IsSetup}
use Rattle.setup_file.specs.Words.{words, is_number, number_of, numbers_of_words, kind_of, rights_of, begins_with, value_behind}
use Rattle.setup_file.specs.Rules.{key_text, zones_key, conference_key, number_word, kind_word, rights_word, name_behind}
use Rattle.setup_file.specs.declared.conference.Conference.{Conference}
use Rattle.setup_file.specs.declared.key.Key.TheVariants.{Board, City, Phone, Sysop, Bbsid, Serial}
use Rattle.setup_file.specs.declared.fields.SetupFields.{SetupFields}

-- the lines that aren't skipped
abbrev pub counted : List (List ℕ) → List (List ℕ)
counted all = filter (λ line. not (is_skipped line)) all

-- the line is the key, and what follows is, without the spaces at its ends, the value
pub record ValueReads (key line value : List ℕ) : Type 0 where
  pub begins : IsTrue (begins_with key line)
  pub rest : value ≡ value_behind key line

-- 1 to 5 digits of the number
pub record NumberReads (word : List ℕ) (n : ℕ) : Type 0 where
  pub digits : IsTrue (is_number word)
  pub value : n ≡ number_of word

-- the value is the words of a conference and its name
pub record ConferenceIs (value : List ℕ) (c : Conference) : Type 0 where
  pub number : NumberReads (number_word value) c.number
  pub kind : kind_of (kind_word value) ≡ Some c.kind
  pub rights : rights_of (rights_word value) ≡ Some (c.readonly, c.private)
  pub name : c.name ≡ name_behind value

abbrev pub ConferenceReads : List ℕ → Conference → Type 0
ConferenceReads line c = (value : List ℕ) × ValueReads conference_key line value × ConferenceIs value c

-- the lines are those of the conferences, one each
abbrev pub ConferencesRead : List (List ℕ) → List Conference → Type 0
ConferencesRead [] [] = Unit {0}
ConferencesRead [] (c ∷ conferences) = ⊥
ConferencesRead (line ∷ all) [] = ⊥
ConferencesRead (line ∷ all) (c ∷ conferences) = ConferenceReads line c × ConferencesRead all conferences

abbrev pub SerialReads : List ℕ → ℕ → Type 0
SerialReads line n = (value : List ℕ) × ValueReads (key_text Serial) line value × NumberReads value n

-- the words of the value are numbers, and these are the zones
abbrev pub ZonesRead : List ℕ → List ℕ → Type 0
ZonesRead line zones = (value : List ℕ) × ValueReads zones_key line value × IsTrue (list_all is_number (words value)) × (zones ≡ numbers_of_words value)

-- the lines that count are those of the setup, which is valid
pub record SetupLinesRead (all : List (List ℕ)) (s : SetupFields) : Type 0 where
  pub board_line : List ℕ
  pub city_line : List ℕ
  pub phone_line : List ℕ
  pub sysop_line : List ℕ
  pub bbsid_line : List ℕ
  pub serial_line : List ℕ
  pub zones_line : List ℕ
  pub conference_lines : List (List ℕ)
  pub whole : counted all ≡ board_line ∷ city_line ∷ phone_line ∷ sysop_line ∷ bbsid_line ∷ serial_line ∷ zones_line ∷ conference_lines
  pub board : ValueReads (key_text Board) board_line s.board
  pub city : ValueReads (key_text City) city_line s.city
  pub phone : ValueReads (key_text Phone) phone_line s.phone
  pub sysop : ValueReads (key_text Sysop) sysop_line s.sysop
  pub bbsid : ValueReads (key_text Bbsid) bbsid_line s.bbsid
  pub serial : SerialReads serial_line s.serial
  pub zones : ZonesRead zones_line s.zones
  pub conferences : ConferencesRead conference_lines s.conferences
  pub valid : IsSetup s

abbrev pub SetupReads : List ℕ → SetupFields → Type 0
SetupReads bytes s = SetupLinesRead (lines bytes) s
