use Rattle.std.proofs.Common.{◌≡◌, drop, eqb}
use Rattle.std.specs.List.{position_from}
use Rattle.std.specs.Prelude.{position}
use Rattle.jam_layout.specs.declared.reader.Reader.{Reader}
use Rattle.jam_layout.proofs.reader_list.Readers.position.Given as goal

-- the first of the readers that are left with this id is the first of all
abbrev pub invariant-loop-place : goal.invariant-loop-place
invariant-loop-place l = position_from (λ (reader : Reader). eqb reader.id l.id) l.place (drop l.place l.self) ≡ position (λ (reader : Reader). eqb reader.id l.id) l.self
