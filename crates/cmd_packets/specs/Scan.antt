-- The command `scan`.
use Rattle.std.specs.Prelude.{◌≡◌, ℕ, List, ◌++◌, length, codes, decimal, Result}
use Rattle.door_outside.specs.Shelf.{ShelfFiles}
use Rattle.entry_runs.specs.Entry.{Reply, ShelfAct, looks}
use Rattle.qwk_blocks.specs.declared.message.QwkMessage.{QwkMessage}
use Rattle.shelf_files.specs.Halts.{replied}
use Rattle.shelf_files.specs.declared.refusal.Refusal.{Refusal}
use Rattle.cmd_packets.specs.Packets.{PacketOf}

abbrev pub count_line : ℕ → List ℕ
count_line count = decimal count ++ codes " messages\n"

-- how many messages the packet's file has, or the first refusal
abbrev pub ScanAnswers : List ℕ → ShelfFiles → Reply → Type 0
ScanAnswers file shelf reply =
    (read : Result (List QwkMessage) Refusal) × PacketOf shelf file read × (reply ≡ replied (λ messages. count_line (length messages)) read)

abbrev pub scans : List ℕ → ShelfAct
scans file = looks (ScanAnswers file)
