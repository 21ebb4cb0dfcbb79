-- What a scan finds of a packet on a shelf.
use Rattle.std.specs.Prelude.{◌≡◌, ◌⊎◌, ℕ, ◌<◌, ◌≤◌, List, ◌++◌, Option, Some, None, length}
use Rattle.qwk_blocks.specs.Packet.{FirstFault}
use Rattle.qwk_blocks.specs.Reader.{CountsMessages, HasBadCount, ReaderState, HoldsStream}
use Rattle.offline_reader.specs.declared.scan.Scanned.{Scanned}
use Rattle.offline_reader.specs.declared.scan.Scanned.TheVariants.{Missing, TooLarge, Fault, Count}

-- what is found of a file, or where there is none, if at most so many bytes are taken
abbrev pub ScanFinds : ℕ → Option (List ℕ) → Scanned → Type 0
ScanFinds most None Missing = Unit {0}
ScanFinds most None TooLarge = ⊥
ScanFinds most None (Fault fault) = ⊥
ScanFinds most None (Count n) = ⊥
ScanFinds most (Some file) Missing = ⊥
ScanFinds most (Some file) TooLarge = most < length file
ScanFinds most (Some file) (Fault fault) = (length file ≤ most) × FirstFault file fault
ScanFinds most (Some file) (Count n) = (length file ≤ most) × CountsMessages file n

-- The reader was fed these bytes: it holds them, or their front with a bad count.
abbrev pub HasFed : ReaderState → List ℕ → Type 0
HasFed reader bytes =
    (HoldsStream reader bytes × (¬ HasBadCount bytes))
    ⊎ ((front rest : List ℕ) × (bytes ≡ front ++ rest) × HoldsStream reader front × HasBadCount front)
