use Rattle.std.proofs.Common.{◌≡◌, ◌≤◌, length}
use Rattle.test_qwk.proofs.tests.blocks.pieces.feed.Given as goal

-- the front of the file was fed
abbrev pub invariant-loop : goal.invariant-loop
invariant-loop l = record { within : l.at ≤ length l.bytes; taken : l.reader.taken ≡ l.at }
