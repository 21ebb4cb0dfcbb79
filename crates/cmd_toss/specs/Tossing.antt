-- What is known between two messages of a packet, and what is found before those that are taken are posted.
use Rattle.std.specs.Prelude.{◌≡◌, ℕ, ◌≤◌, List, [], length, slice_get, Contains, Option, Some, None, Result, Ok, Err}
use Rattle.std.specs.List.{list_any}
use Rattle.cmd_board.specs.Halts.{StopsBy}
use Rattle.cmd_board.specs.declared.halt.BoardHalt.{BoardHalt}
use Rattle.board_layout.specs.Board.{Board}
use Rattle.fts_packet.specs.Packet.{FtsReads}
use Rattle.fts_packet.specs.declared.packet.FtsMessage.{FtsMessage}
use Rattle.jam_records.specs.declared.message.Message.{Message}
use Rattle.jam_records.specs.declared.message.Slot.{Slot}
use Rattle.jam_threads.specs.Children.{has_msgid}
use Rattle.cmd_board.specs.mail_board.Changes.{changed, Fits}
use Rattle.cmd_board.specs.mail_board.Written.{IsPosting}
use Rattle.cmd_board.specs.mail_board.declared.change.Change.TheVariants.{Spread}
use Rattle.mail_intake.specs.Msgids.{has_id}
use Rattle.mail_intake.specs.Tallies.{IsTally}
use Rattle.mail_intake.specs.declared.msgids.MsgidSet.{MsgidSet}
use Rattle.board_layout.specs.Lookups.{slots_in}
use Rattle.post_changes.specs.Posted.{posts_in, spread}
use Rattle.shelf_files.specs.Halts.{done}
use Rattle.shelf_files.specs.ShelfFile.{file_limit}
use Rattle.cmd_toss.specs.Toss.{tossing}
use Rattle.cmd_toss.specs.Tossed.{tossed}
use Rattle.cmd_toss.specs.declared.seen.Seen.{Seen}
use Rattle.cmd_toss.specs.declared.tossed.Tossed.{Tossed as Toss}
use Rattle.cmd_toss.specs.declared.tossing.Tossing.{Tossing}

-- the set has the msgids of the messages that these slots hold
abbrev pub HasSet : List Slot → MsgidSet → Type 0
HasSet slots set = (id : List ℕ) → has_id set id ≡ list_any (has_msgid id) slots

-- the set has those of the conference in a place, with the posts; or there is none, and no post is for the place
abbrev pub IsSeen : Board → List (ℕ × Message) → ℕ → Option MsgidSet → Type 0
IsSeen b posts place (Some set) = HasSet (slots_in (spread posts b) place) set
IsSeen b posts place None = posts_in place posts ≡ []

-- so it is in each place
pub record AreSeen (b : Board) (posts : List (ℕ × Message)) (s : Seen) : Type 0 where
  pub count : length s.sets.items ≡ length b.conferences
  pub each : (place : ℕ) (set : Option MsgidSet) → slice_get s.sets.items place ≡ Some set → IsSeen b posts place set

-- there is a set for the place
abbrev pub IsLoaded : ℕ → Seen → Type 0
IsLoaded place s = (set : MsgidSet) × (slice_get s.sets.items place ≡ Some (Some set))

-- the messages are those of some file that is read
abbrev pub AreRead : List FtsMessage → Type 0
AreRead messages = (bytes : List ℕ) × (length bytes ≤ file_limit) × FtsReads bytes messages

-- the message is one of them
abbrev pub IsOfPacket : FtsMessage → Type 0
IsOfPacket m = (messages : List FtsMessage) × AreRead messages × Contains messages m

-- the lines and the posts are those of the messages so far, there is room for the posts, and their msgids are seen
pub record AreTossed (now : ℕ) (b : Board) (messages : List FtsMessage) (t : Toss) : Type 0 where
  pub so_far : (t.lines, t.tally.posts) ≡ tossed b now messages
  pub tally : IsTally b t.tally
  pub seen : AreSeen b t.tally.posts t.seen

-- it is the change that posts what was taken
abbrev pub PostsTossed : ℕ → List FtsMessage → Board → Tossing → Type 0
PostsTossed now messages b t = t.change ≡ Spread (tossed b now messages).1

-- a change that fits, posts messages and takes the turn, or memory ran out
abbrev pub MayToss : ℕ → List FtsMessage → Board → Result Tossing BoardHalt → Type 0
MayToss now messages b (Ok t) =
    Fits t.change b × (tossing now b messages ≡ record { board = Some (changed t.change b); reply = done t.reply }) × IsPosting t.change
MayToss now messages b (Err e) = StopsBy (λ why. ⊥) e
