use Rattle.std.proofs.Common.{◌≡◌, ◌++◌, drop}
use Rattle.jam_layout.specs.Readers.{last_reads}
use Rattle.jam_writing.proofs.jlr.write_jlr.Given as goal

-- the records so far, and those of the pairs that are left, are those of all
abbrev pub invariant-loop-place : goal.invariant-loop-place
invariant-loop-place l = l.jlr ++ last_reads (drop l.place l.readers) (drop l.place l.pointers) ≡ last_reads l.readers l.pointers
