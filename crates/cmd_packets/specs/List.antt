-- The command `list`.
use Rattle.std.specs.Prelude.{◌≡◌, ℕ, List, Result}
use Rattle.door_outside.specs.Shelf.{ShelfFiles}
use Rattle.entry_runs.specs.Entry.{Reply, ShelfAct, looks}
use Rattle.offline_reader.specs.Listing.{listing}
use Rattle.qwk_blocks.specs.declared.message.QwkMessage.{QwkMessage}
use Rattle.shelf_files.specs.Halts.{replied}
use Rattle.shelf_files.specs.declared.refusal.Refusal.{Refusal}
use Rattle.cmd_packets.specs.Packets.{PacketOf}

-- the listing of the packet's file, or the first refusal
abbrev pub ListAnswers : List ℕ → ShelfFiles → Reply → Type 0
ListAnswers file shelf reply = (read : Result (List QwkMessage) Refusal) × PacketOf shelf file read × (reply ≡ replied listing read)

abbrev pub lists : List ℕ → ShelfAct
lists file = looks (ListAnswers file)
