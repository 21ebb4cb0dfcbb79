-- Which conferences of a board a word names.
use Rattle.std.specs.Prelude.{◌≡◌, ℕ, ◌+◌, ◌^◌, List, [], ◌∷◌, codes, Bool, true, false, not, ◌==◌, if◌then◌else◌}
use Rattle.std.specs.List.{list_all, list_any}
use Rattle.setup_file.specs.declared.conference.Conference.{Conference}
use Rattle.cmd_words.specs.NumberWord.{JoinedNumbers}
use Rattle.cmd_words.specs.declared.choice.Choice.{Choice}
use Rattle.cmd_words.specs.declared.choice.Choice.TheVariants.{Every, Numbers}

-- `all`, or number words joined by commas
abbrev pub ChoiceReads : List ℕ → Choice → Type 0
ChoiceReads word Every = word ≡ codes "all"
ChoiceReads word (Numbers numbers) = JoinedNumbers word numbers

-- the conference of a number is among those
abbrev pub is_chosen : Choice → ℕ → Bool
is_chosen Every number = true
is_chosen (Numbers numbers) number = list_any (λ n. n == number) numbers

-- a conference has the number
abbrev pub is_known : List Conference → ℕ → Bool
is_known conferences number = list_any (λ c. c.number == number) conferences

-- a number among them is no conference
abbrev pub has_unknown : Choice → List Conference → Bool
has_unknown Every conferences = false
has_unknown (Numbers numbers) conferences = not (list_all (is_known conferences) numbers)

-- 2^k, where the conference in place k is among them
abbrev pub place_bit : Choice → ℕ → Conference → ℕ
place_bit choice place c = if is_chosen choice c.number then 2 ^ place else 0

-- the set of their places from this one on, bit k for place k
abbrev pub chosen_from : Choice → ℕ → List Conference → ℕ
chosen_from choice place [] = 0
chosen_from choice place (c ∷ conferences) = place_bit choice place c + chosen_from choice (place + 1) conferences
