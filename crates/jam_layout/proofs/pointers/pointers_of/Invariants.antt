use Rattle.std.proofs.Common.{◌≡◌, ◌+◌, ◌*◌, drop, length}
use Rattle.jam_layout.specs.Readers.{pointers_at}
use Rattle.damage_rules.proofs.KeptRules.{with_front}
use Rattle.jam_layout.proofs.pointers.pointers_of.Given as goal

-- the pointers so far, and those that are still read, are those of the file, and each record has 16 bytes
abbrev pub invariant-loop-j : goal.invariant-loop-j
invariant-loop-j l = (with_front l.pointers (pointers_at l.place l.count l.j (drop l.j l.readers) l.rest) ≡ pointers_at l.place l.count 0 l.readers l.bytes) × (16 * l.j + length l.rest ≡ length l.bytes)
