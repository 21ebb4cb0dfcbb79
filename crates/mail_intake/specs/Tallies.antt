-- Posts so far, and what they take of a board.
use Rattle.std.specs.Prelude.{◌≡◌, ℕ, ◌<◌, length, slice_get, slice_index_or, Some}
use Rattle.board_layout.specs.Board.{Board}
use Rattle.board_layout.specs.Layout.{board_size}
use Rattle.board_layout.specs.Valid.{IsBoard}
use Rattle.jam_records.specs.declared.message.Message.{Message}
use Rattle.mail_intake.specs.declared.tally.Tally.{Tally}
use Rattle.board_layout.specs.Lookups.{slots_in}
use Rattle.post_changes.specs.Posted.{ArePlaced, spread}
use Rattle.setup_file.specs.declared.conference.Conference.{Conference as SetupConference}
use Rattle.post_changes.specs.slot_changes.Values.{MayHold}

-- The board with the posts is valid, each place is there, and what is counted of that board is right: the slots of each
-- conference, one count for each place, and the bytes of the data files.
pub record IsTally (b : Board) (t : Tally) : Type 0 where
  pub board : IsBoard (spread t.posts b)
  pub placed : ArePlaced t.posts b
  pub count : length t.slots.items ≡ length b.conferences
  pub slots : (place : ℕ) → place < length b.conferences → slice_index_or t.slots.items place 0 ≡ length (slots_in (spread t.posts b) place)
  pub size : t.size ≡ board_size (spread t.posts b)

-- the conference in a place that is there may hold a message
pub record MayTake (b : Board) (place : ℕ) (m : Message) : Type 0 where
  pub conference : SetupConference
  pub there : slice_get b.ledger.setup.conferences place ≡ Some conference
  pub holds : MayHold conference.kind m
