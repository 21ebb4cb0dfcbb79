-- The reply links of messages (JAM message base proposal, revision 1: ReplyTo, Reply1st, ReplyNext).
use Rattle.std.specs.Prelude.{◌≡◌, ℕ, ◌+◌, ◌<◌, List, [], ◌∷◌, length, slice_get, Some, ◌==◌, if◌then◌else◌}
use Rattle.jam_records.specs.declared.message.Slot.{Slot}
use Rattle.jam_threads.specs.Children.{original, children}
use Rattle.jam_threads.specs.declared.link.Link.{Link}

-- the first of a list of numbers
abbrev pub first_in : List ℕ → ℕ
first_in [] = 0
first_in (n ∷ ns) = n

-- what follows a number in a list
abbrev pub following : ℕ → List ℕ → ℕ
following number [] = 0
following number (n ∷ ns) = if n == number then first_in ns else following number ns

-- the next answer to the same message
abbrev pub next_answer : List Slot → ℕ → ℕ
next_answer slots number =
    if original slots number == 0 then 0 else following number (children slots (original slots number))

-- the links of the message of a number
unfoldable pub link_of : List Slot → ℕ → Link
link_of slots number = record {
  to = original slots number;
  first = first_in (children slots number);
  next = next_answer slots number;
}

-- each slot has the links of its message
pub record AreLinks (slots : List Slot) (links : List Link) : Type 0 where
  pub count : length links ≡ length slots
  pub each : (place : ℕ) → place < length slots → slice_get links place ≡ Some (link_of slots (place + 1))
