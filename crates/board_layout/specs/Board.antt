-- A board: its ledger, and its conferences by place.
use Rattle.std.specs.Prelude.{ℕ, ◌+◌, List, [], ◌∷◌, ◌++◌, map, if◌then◌else◌}
use Rattle.board_ledger.specs.Users.{is_member}
use Rattle.board_ledger.specs.declared.ledger.Ledger.{Ledger}
use Rattle.board_ledger.specs.declared.user.User.{User}
use Rattle.jam_base.specs.Contents.{Contents}
use Rattle.jam_base.specs.jam_layout.declared.conference.ConferenceContents.{ConferenceContents}
use Rattle.jam_base.specs.jam_layout.declared.reader.Reader.{Reader}
use Rattle.jam_base.specs.jam_layout.declared.shape.Shape.{Shape}
use Rattle.jam_records.specs.declared.message.Kind.{Kind}
use Rattle.board_ledger.specs.setup_file.declared.conference.Conference.{Conference as SetupConference}

pub record Board : Type 0 where
  -- what it is made of, when it was made, its users by id from 1, and its upload records
  pub ledger : Ledger
  -- of each conference of the setup the slots, the change counter, and the pointers of its members by id
  pub conferences : List ConferenceContents

-- the user of this id as a reader of the conference in a place, where it is a member
abbrev pub reader_of : ℕ → ℕ → User → List Reader
reader_of place id u = if is_member u place then record { id = id; name = u.name } ∷ [] else []

-- the members of the conference in a place among users, of whom the first has this id
abbrev pub readers_from : ℕ → ℕ → List User → List Reader
readers_from place id [] = []
readers_from place id (u ∷ users) = reader_of place id u ++ readers_from place (id + 1) users

-- what the ledger says of the conference in a place
abbrev pub shape_of : Ledger → ℕ → Kind → Shape
shape_of l place kind = record { place = place; created = l.created; kind = kind; readers = readers_from place 1 l.users }

-- and of those in the places from this one on
abbrev pub shapes_from : Ledger → ℕ → List SetupConference → List Shape
shapes_from l place [] = []
shapes_from l place (c ∷ conferences) = shape_of l place c.kind ∷ shapes_from l (place + 1) conferences

abbrev pub shapes_of : Ledger → List Shape
shapes_of l = shapes_from l 0 l.setup.conferences

-- the conferences of bases, and their shapes
abbrev pub conferences_in : List Contents → List ConferenceContents
conferences_in bases = map (λ base. base.conference) bases

abbrev pub shapes_in : List Contents → List Shape
shapes_in bases = map (λ base. base.shape) bases

-- the board of a ledger and the conferences of bases
abbrev pub board_with : Ledger → List Contents → Board
board_with l bases = record { ledger = l; conferences = conferences_in bases }
