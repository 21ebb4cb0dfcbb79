use Rattle.std.proofs.Common.{◌≡◌, ◌+◌, ◌*◌, ◌^◌, ◌<◌, ◌≤◌, length}
use Rattle.damage_rules.specs.Walk.{walk}
use Rattle.jam_layout.specs.Headers.{header_at, start}
use Rattle.jam_layout.specs.Limits.{slot_limit}
use Rattle.damage_rules.proofs.RecordWalks.{walk_behind}
use Rattle.jam_layout.proofs.headers.entries_of.Given as goal

-- the entries so far, and those that are still read, are those of the file
abbrev pub invariant-loop-rest : goal.invariant-loop-rest
invariant-loop-rest l = record {
  read : walk_behind l.entries (walk (header_at l.place l.kind) l.front l.rest) ≡ walk (header_at l.place l.kind) start l.bytes;
  item : l.front.item ≤ l.front.last + 1;
  last : l.front.last ≤ slot_limit;
  offset : l.front.offset ≤ 16384 * l.front.last;
  small : length l.rest < 2 ^ 31;
}

abbrev pub decreases-loop-rest : goal.decreases-loop-rest
decreases-loop-rest l = length l.rest
