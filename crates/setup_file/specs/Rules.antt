-- The rules of the lines of a setup file.
use Rattle.std.specs.Prelude.{ℕ, ◌-◌, List, [], ◌∷◌, length, slice_get, unwrap_or, Option, Some, None, Bool, false, not, ◌&&◌, ◌==◌, nat_le, nat_lt, is_none, if◌then◌else◌, codes}
use Rattle.std.specs.List.{list_all}
use Rattle.setup_file.specs.Texts.{is_board_text, is_user_name, is_bbsid, is_conference_name}
use Rattle.setup_file.specs.Zones.{are_zones}
use Rattle.setup_file.specs.Words.{first_word, behind_word, words, is_number, number_of, numbers_of_words, kind_of, rights_of, begins_with, value_behind}
use Rattle.setup_file.specs.declared.error.SetupRule.{SetupRule}
use Rattle.setup_file.specs.declared.error.SetupRule.TheVariants as rule
use Rattle.setup_file.specs.declared.key.Key.{Key}
use Rattle.setup_file.specs.declared.key.Key.TheVariants.{Board, City, Phone, Sysop, Bbsid, Serial}

-- each rule in order, and whether the line breaks it
abbrev pub LineRules : Type 0
LineRules = List (SetupRule × Bool)

-- the first rule that is broken
abbrev pub broken_in : LineRules → Option SetupRule
broken_in [] = None
broken_in (r ∷ rules) = if r.1 then Some r.0 else broken_in rules

-- the first six lines have these keys
abbrev pub keys : List Key
keys = Board ∷ City ∷ Phone ∷ Sysop ∷ Bbsid ∷ Serial ∷ []

abbrev pub key_text : Key → List ℕ
key_text Board = codes "board:"
key_text City = codes "city:"
key_text Phone = codes "phone:"
key_text Sysop = codes "sysop:"
key_text Bbsid = codes "bbsid:"
key_text Serial = codes "serial:"

-- the key may have the value
abbrev pub fits : Key → List ℕ → Bool
fits Board value = is_board_text value
fits City value = is_board_text value
fits Phone value = is_board_text value
fits Sysop value = is_user_name value
fits Bbsid value = is_bbsid value
fits Serial value = is_number value

-- the rule that another value breaks
abbrev pub key_rule : Key → SetupRule
key_rule Board = rule.Text
key_rule City = rule.Text
key_rule Phone = rule.Text
key_rule Sysop = rule.Text
key_rule Bbsid = rule.Id
key_rule Serial = rule.Number

abbrev pub key_rules : Key → List ℕ → LineRules
key_rules key line =
    (rule.Key, not (begins_with (key_text key) line))
    ∷ (key_rule key, not (fits key (value_behind (key_text key) line)))
    ∷ []

abbrev pub zones_key : List ℕ
zones_key = codes "zones:"

-- the words of a value are numbers of zones, each above the one before
unfoldable pub zones_fit : List ℕ → Bool
zones_fit value = list_all is_number (words value) && are_zones (numbers_of_words value)

abbrev pub zones_rules : List ℕ → LineRules
zones_rules line =
    (rule.Key, not (begins_with zones_key line))
    ∷ (rule.Zones, not (zones_fit (value_behind zones_key line)))
    ∷ []

abbrev pub conference_key : List ℕ
conference_key = codes "conference:"

-- the three words of a conference line, and the name behind them
abbrev pub number_word : List ℕ → List ℕ
number_word value = first_word value

abbrev pub kind_word : List ℕ → List ℕ
kind_word value = first_word (behind_word value)

abbrev pub rights_word : List ℕ → List ℕ
rights_word value = first_word (behind_word (behind_word value))

abbrev pub name_behind : List ℕ → List ℕ
name_behind value = behind_word (behind_word (behind_word value))

-- a number of at most 65,535
abbrev pub is_place_number : List ℕ → Bool
is_place_number word = is_number word && nat_le (number_of word) 65535

-- a number isn't above the one before, where there is one
abbrev pub is_out_of_order : Option ℕ → ℕ → Bool
is_out_of_order None n = false
is_out_of_order (Some last) n = nat_le n last

-- the rules of a value behind so many conference lines, of which the last has this number
abbrev pub conference_value_rules : ℕ → Option ℕ → List ℕ → LineRules
conference_value_rules count last value =
    (rule.Many, nat_le 64 count)
    ∷ (rule.Number, not (is_place_number (number_word value)))
    ∷ (rule.Kind, is_none (kind_of (kind_word value)))
    ∷ (rule.Rules, is_none (rights_of (rights_word value)))
    ∷ (rule.Name, not (is_conference_name (name_behind value)))
    ∷ (rule.Order, is_out_of_order last (number_of (number_word value)))
    ∷ []

abbrev pub conference_rules : ℕ → Option ℕ → List ℕ → LineRules
conference_rules count last line =
    (rule.Key, not (begins_with conference_key line))
    ∷ conference_value_rules count last (value_behind conference_key line)

-- the number of a conference line
abbrev pub line_number : List ℕ → ℕ
line_number line = number_of (number_word (value_behind conference_key line))

-- the number of the conference line before, where there is one behind the first seven lines
abbrev pub number_before : List (List ℕ) → Option ℕ
number_before before = if nat_lt 7 (length before) then Some (line_number (unwrap_or (slice_get before (length before - 1)) [])) else None

abbrev pub rules_at : Option Key → List (List ℕ) → List ℕ → LineRules
rules_at (Some key) before line = key_rules key line
rules_at None before line = if length before == 6 then zones_rules line else conference_rules (length before - 7) (number_before before) line

-- the first rule that a line breaks behind the lines that count before it
unfoldable pub broken_rule : List (List ℕ) → List ℕ → Option SetupRule
broken_rule before line = broken_in (rules_at (slice_get keys (length before)) before line)
