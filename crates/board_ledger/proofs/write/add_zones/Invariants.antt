use Rattle.std.proofs.Common.{◌≡◌, ◌++◌, take}
use Rattle.std.specs.List.{flat_map}
use Rattle.byteorder.specs.Endian.{little_bytes}
use Rattle.board_ledger.proofs.write.add_zones.Given as goal

-- the records so far were added
abbrev pub invariant-loop-zone : goal.invariant-loop-zone
invariant-loop-zone l = l.out ≡ l.initial.out ++ flat_map (little_bytes 2) (take l.zone-index l.zones)
