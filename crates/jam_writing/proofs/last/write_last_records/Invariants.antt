use Rattle.std.proofs.Common.{drop}
use Rattle.jam_layout.specs.Index.{index_records}
use Rattle.jam_writing.proofs.WritingLoops.{IndexSoFar}
use Rattle.jam_writing.proofs.last.write_last_records.Given as goal

abbrev pub invariant-loop-place : goal.invariant-loop-place
invariant-loop-place l = IndexSoFar l.slots l.place 1024 l.at l.text (index_records l.first (drop l.from l.slots))
