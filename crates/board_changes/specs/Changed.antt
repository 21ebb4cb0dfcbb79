-- Boards after a change.
use Rattle.std.specs.Prelude.{ℕ, ◌+◌, List, [], ◌∷◌, ◌++◌, slice_get, slice_set, Option, Some, None, Bool, ◌==◌, if◌then◌else◌}
use Rattle.std.specs.Int.{bit_at}
pub use Rattle.board_ledger.specs.EnrollPuts.{with_user}
use Rattle.board_ledger.specs.declared.ledger.Ledger.{Ledger}
use Rattle.board_ledger.specs.declared.user.User.{User}
use Rattle.board_layout.specs.Board.{Board, shapes_of, board_with}
use Rattle.board_layout.specs.Renewed.{contents_of}
use Rattle.board_layout.specs.jam_base.Contents.{Contents, no_slots}
use Rattle.board_layout.specs.jam_layout.declared.conference.ConferenceContents.{ConferenceContents}
use Rattle.board_layout.specs.jam_layout.declared.shape.Shape.{Shape}
use Rattle.board_ledger.specs.setup_file.declared.fields.SetupFields.{SetupFields}

-- ---- a new board
abbrev pub new_ledger : SetupFields → ℕ → Ledger
new_ledger setup created = record { version = 2; setup = setup; created = created; users = []; uploads = [] }

-- a conference without slots for each shape
abbrev pub empty_conferences : List Shape → List ConferenceContents
empty_conferences [] = []
empty_conferences (shape ∷ shapes) = no_slots shape ∷ empty_conferences shapes

-- the board of a setup: no users, no slots, and all change counters 0
abbrev pub made : SetupFields → ℕ → Board
made setup created = record { ledger = new_ledger setup created; conferences = empty_conferences (shapes_of (new_ledger setup created)) }

-- ---- a user more
-- a user who was never offered a packet
abbrev pub new_user : List ℕ → Bool → ℕ → User
new_user name net members = record {
  name = name;
  net = net;
  members = members;
  last = 0;
  offers = [];
}

-- the pointer of a new member in this place is 0
abbrev pub joined_in : ℕ → ℕ → ConferenceContents → ConferenceContents
joined_in members place c = if bit_at members place == 1 then record c { pointers = c.pointers ++ 0 ∷ [] } else c

-- so it is in the places from this one on
abbrev pub joined_from : ℕ → ℕ → List ConferenceContents → List ConferenceContents
joined_from members place [] = []
joined_from members place (c ∷ conferences) = joined_in members place c ∷ joined_from members (place + 1) conferences

-- the board with a user behind the others, whose id is the count of all
abbrev pub with_member : User → Board → Board
with_member user b = record { ledger = with_user user b.ledger; conferences = joined_from user.members 0 b.conferences }

-- the board with a user of this name behind the others, a member of a set of places
abbrev pub enrolled : List ℕ → Bool → ℕ → Board → Board
enrolled name net members b = with_member (new_user name net members) b

-- ---- one conference changed
-- the base of a place, where there is one
abbrev pub base_at : ℕ → Board → Option Contents
base_at place b = slice_get (contents_of b) place

-- the board with a new base in a place, where there is one
abbrev pub with_base : ℕ → Option Contents → Board → Board
with_base place None b = b
with_base place (Some base) b = board_with b.ledger (slice_set (contents_of b) place base)
