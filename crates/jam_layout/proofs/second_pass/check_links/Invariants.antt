use Rattle.std.proofs.Common.{◌≡◌, ◌+◌, drop}
use Rattle.jam_layout.specs.SecondPass.{links_at, slots_of}
use Rattle.jam_layout.proofs.second_pass.check_links.Given as goal

abbrev pub invariant-loop-i : goal.invariant-loop-i
invariant-loop-i l = links_at l.place (slots_of 1 l.entries) (l.i + 1) (drop l.i l.entries) ≡ links_at l.place (slots_of 1 l.entries) 1 l.entries
