use Rattle.std.proofs.Common.{◌≡◌, ◌+◌, ◌*◌, ◌^◌, ◌<◌, length}
use Rattle.std.specs.Prelude.{sum_by}
use Rattle.jam_layout.specs.Headers.{header_size}
use Rattle.damage_rules.specs.Walk.{walk}
use Rattle.jam_layout.specs.Index.{slot_at}
use Rattle.damage_rules.proofs.RecordWalks.{walk_behind}
use Rattle.jam_layout.proofs.index.slots_from.Given as goal

-- the slots so far, and those that are still read, are those of the file
abbrev pub invariant-loop-rest : goal.invariant-loop-rest
invariant-loop-rest l = record {
  read : walk_behind l.slots (walk (slot_at l.place) (record { item = l.item; at = l.at; entries = l.pending.items }) l.rest) ≡ walk (slot_at l.place) (record { item = 0; at = 1024; entries = l.initial.pending.items }) l.bytes;
  few : 8 * l.item + length l.rest ≡ length l.bytes;
  small : l.at + sum_by (λ e. header_size e.message) l.pending.items < 2 ^ 31;
}

abbrev pub decreases-loop-rest : goal.decreases-loop-rest
decreases-loop-rest l = length l.rest
