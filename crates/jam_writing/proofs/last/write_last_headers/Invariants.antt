use Rattle.std.proofs.Common.{◌+◌, drop}
use Rattle.jam_layout.specs.jam_threads.Links.{link_of}
use Rattle.jam_layout.specs.Headers.{headers_text}
use Rattle.jam_layout.specs.Layout.{entries_of}
use Rattle.jam_writing.proofs.WritingLoops.{HeadersSoFar}
use Rattle.jam_writing.proofs.last.write_last_headers.Given as goal

abbrev pub invariant-loop-place : goal.invariant-loop-place
invariant-loop-place l = HeadersSoFar l.kind l.slots l.place l.at l.text (headers_text l.kind l.offset (entries_of (link_of l.slots) (l.from + 1) (drop l.from l.slots)))
