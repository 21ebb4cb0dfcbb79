use Rattle.std.proofs.Common.{◌≡◌, ◌++◌, length}
use Rattle.std.specs.Prelude.{All}
use Rattle.jam_records.specs.Subfields.{subfields_text, IsSubfield}
use Rattle.jam_records.proofs.subfield_reader.subfields_in.Given as goal

-- the subfields so far, and what is behind them
abbrev pub invariant-loop-rest : goal.invariant-loop-rest
invariant-loop-rest l = record {
  whole : l.bytes ≡ subfields_text l.subfields ++ l.rest;
  ids : All IsSubfield l.subfields;
}

abbrev pub decreases-loop-rest : goal.decreases-loop-rest
decreases-loop-rest l = length l.rest
