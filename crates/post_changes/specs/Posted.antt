-- Boards with messages more at the ends of several conferences, and with the record of an upload.
use Rattle.std.specs.Prelude.{◌≡◌, ℕ, ◌+◌, ◌<◌, List, [], ◌∷◌, ◌++◌, length, map, filter, All, ◌==◌}
use Rattle.board_layout.specs.Board.{Board, board_with}
use Rattle.board_layout.specs.Renewed.{contents_of}
use Rattle.board_ledger.specs.declared.ledger.Ledger.{Ledger}
use Rattle.board_ledger.specs.declared.upload.UploadRecord.{UploadRecord}
use Rattle.board_layout.specs.jam_base.Contents.{Contents}
use Rattle.jam_records.specs.declared.message.Kind.{Kind}
use Rattle.jam_records.specs.declared.message.Message.{Message}
use Rattle.slot_changes.specs.Changed.{with_identified}
use Rattle.slot_changes.specs.Msgids.{msgid_in}
use Rattle.slot_changes.specs.Values.{MayHold}

-- ---- posts: the place of a conference, and a message for it
-- each post is in a place that is there
abbrev pub ArePlaced : List (ℕ × Message) → Board → Type 0
ArePlaced posts b = All (λ post. post.0 < length b.conferences) posts

-- a conference of this kind may hold the message of a post, where it is in this place
abbrev pub MayHoldIn : Kind → ℕ → ℕ × Message → Type 0
MayHoldIn kind place post = post.0 ≡ place → MayHold kind post.1

-- the messages of the posts in a place, in order
abbrev pub posts_in : ℕ → List (ℕ × Message) → List Message
posts_in place posts = map (λ post. post.1) (filter (λ post. post.0 == place) posts)

-- the base of a place with its posts at the end, each with the msgid of its number, where it has none
abbrev pub posted_in : Board → List (ℕ × Message) → ℕ → Contents → Contents
posted_in b posts place base = with_identified (msgid_in place b) (posts_in place posts) base

-- so is each base, the first of which is in this place
abbrev pub all_posted : Board → List (ℕ × Message) → ℕ → List Contents → List Contents
all_posted b posts place [] = []
all_posted b posts place (base ∷ bases) = posted_in b posts place base ∷ all_posted b posts (place + 1) bases

-- ---- the board after it
-- the board of a ledger and of the bases with posts at their ends
abbrev pub posted_with : Ledger → List (ℕ × Message) → Board → Board
posted_with l posts b = board_with l (all_posted b posts 0 (contents_of b))

-- the board with posts at the ends of their conferences
abbrev pub spread : List (ℕ × Message) → Board → Board
spread posts b = posted_with b.ledger posts b

-- the record of a packet of which these posts were posted, and so many messages were refused
abbrev pub upload_record : ℕ → List ℕ → ℕ → List (ℕ × Message) → UploadRecord
upload_record user digest refused posts = record { user = user; digest = digest; counts = record { posted = length posts; refused = refused } }

-- the ledger with a record behind the others
abbrev pub with_record : UploadRecord → Ledger → Ledger
with_record r l = record l { uploads = l.uploads ++ r ∷ [] }

-- the board with the posts of a packet at the ends of their conferences, and with its record
abbrev pub uploaded : ℕ → List ℕ → ℕ → List (ℕ × Message) → Board → Board
uploaded user digest refused posts b = posted_with (with_record (upload_record user digest refused posts) b.ledger) posts b
