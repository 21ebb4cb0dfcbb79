use Rattle.std.proofs.Common.{◌≡◌, take}
use Rattle.jam_records.specs.Subfields.{subfields_text}
use Rattle.jam_records.proofs.subfield.write_subfields.Given as goal

-- the bytes of the front that was written
abbrev pub invariant-loop-subfield : goal.invariant-loop-subfield
invariant-loop-subfield l = record {
  front : l.bytes ≡ subfields_text (take l.subfield-index l.subfield-items);
  all : l.subfield-items ≡ l.value;
}
