use Rattle.std.proofs.Common.{◌≡◌, take, length}
use Rattle.jam_adopt.specs.Bodies.{without_feeds}
use Rattle.jam_adopt.specs.Texts.{AreCounts}
use Rattle.jam_adopt.proofs.texts.Texts.of.Given as goal

-- the bytes so far without line feeds, and how many of these stand before each place so far
abbrev pub invariant-loop-byte : goal.invariant-loop-byte
invariant-loop-byte l = record {
  kept : l.kept.items ≡ without_feeds (take l.byte-index l.jdt);
  count : length l.counts.items ≡ l.byte-index;
  each : AreCounts l.jdt l.counts.items;
}
