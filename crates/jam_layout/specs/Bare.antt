-- A conference without the bodies of its messages, with their lengths, which are read of its files. Both make its outline.
use Rattle.std.specs.Prelude.{◌≡◌, ℕ, List, [], ◌∷◌, length, map, drop, slice_index, Result, Ok}
use Rattle.jam_records.specs.declared.damage.Damage.{Damage}
use Rattle.jam_records.specs.declared.message.Slot.{Slot}
use Rattle.jam_records.specs.declared.message.Slot.TheVariants.{Gone, Held}
use Rattle.damage_rules.specs.Rules.{◌>>=◌}
use Rattle.jam_layout.specs.Layout.{layout, conference_of}
use Rattle.jam_layout.specs.Outlines.{slot_bare, slot_with}
use Rattle.jam_layout.specs.Valid.{IsConference}
use Rattle.jam_layout.specs.declared.bare.BareConference.{BareConference}
use Rattle.jam_layout.specs.declared.conference.ConferenceContents.{ConferenceContents}
use Rattle.jam_layout.specs.declared.files.BaseFiles.{BaseFiles}
use Rattle.jam_layout.specs.declared.shape.Shape.{Shape}

-- how long the bodies of the messages in slots are, in order
abbrev pub body_lengths : List Slot → List ℕ
body_lengths [] = []
body_lengths (Gone ∷ slots) = body_lengths slots
body_lengths (Held m ∷ slots) = length m.body ∷ body_lengths slots

abbrev pub bare_of : ConferenceContents → BareConference
bare_of c = record { conference = record c { slots = map slot_bare c.slots }; lengths = body_lengths c.slots }

-- the bare conference of the files, or the first rule that they break
abbrev pub bare_in : Shape → BaseFiles → Result BareConference Damage
bare_in shape files = do
  c ← conference_of shape files
  Ok (bare_of c)

-- It is what is left without bodies of the conference of that shape whose layout the files are.
pub record IsBareOf (shape : Shape) (files : BaseFiles) (bare : BareConference) : Type 0 where
  pub whole : ConferenceContents
  pub bared : bare ≡ bare_of whole
  pub valid : IsConference shape whole
  pub stored : files ≡ layout shape whole

-- the length that a slot takes from the front of these, which is 0 where it holds no message
abbrev pub first_length : List ℕ → Slot → ℕ
first_length lengths Gone = 0
first_length lengths (Held m) = slice_index lengths 0

-- those that are left for the slots behind it
abbrev pub other_lengths : List ℕ → Slot → List ℕ
other_lengths lengths Gone = lengths
other_lengths lengths (Held m) = drop 1 lengths

-- slots whose messages have bodies of line ends, as long as these lengths say, in order
abbrev pub filled_slots : List ℕ → List Slot → List Slot
filled_slots lengths [] = []
filled_slots lengths (s ∷ slots) = slot_with (first_length lengths s) s ∷ filled_slots (other_lengths lengths s) slots

-- the outline of the conference
abbrev pub filled : BareConference → ConferenceContents
filled bare = record bare.conference { slots = filled_slots bare.lengths bare.conference.slots }
