-- The command `read`.
use Rattle.std.specs.Prelude.{◌≡◌, ℕ, List, Option, Some, None, Result, Ok, Err}
use Rattle.door_outside.specs.Shelf.{ShelfFiles}
use Rattle.entry_runs.specs.Entry.{Reply, ShelfAct, looks}
use Rattle.offline_reader.specs.Letter.{letter, message_in}
use Rattle.offline_reader.specs.Listing.{folder_listing}
use Rattle.qwk_blocks.specs.declared.message.QwkMessage.{QwkMessage}
use Rattle.shelf_files.specs.Halts.{done, refused, replied}
use Rattle.shelf_files.specs.declared.refusal.Refusal.{Refusal}
use Rattle.shelf_files.specs.declared.refusal.Refusal.TheVariants.{NoMessage}
use Rattle.cmd_packets.specs.Packets.{FolderOf}
use Rattle.cmd_packets.specs.declared.folder.Packet.{Packet}

-- the listing of the packet's folder, or the first refusal
abbrev pub ReadAnswers : List ℕ → ShelfFiles → Reply → Type 0
ReadAnswers folder shelf reply =
    (read : Result Packet Refusal) × FolderOf shelf folder read × (reply ≡ replied (λ packet. folder_listing packet.control packet.messages) read)

abbrev pub reads : List ℕ → ShelfAct
reads folder = looks (ReadAnswers folder)

abbrev pub shown_reply : Option QwkMessage → Reply
shown_reply None = refused NoMessage
shown_reply (Some message) = done (letter message)

-- the message in a place of the packet
abbrev pub shown_in : ℕ → Result Packet Refusal → Reply
shown_in place (Err why) = refused why
shown_in place (Ok packet) = shown_reply (message_in packet.messages place)

-- that message, or the first refusal
abbrev pub ShowAnswers : List ℕ → ℕ → ShelfFiles → Reply → Type 0
ShowAnswers folder place shelf reply = (read : Result Packet Refusal) × FolderOf shelf folder read × (reply ≡ shown_in place read)

abbrev pub shows : List ℕ → ℕ → ShelfAct
shows folder place = looks (ShowAnswers folder place)
