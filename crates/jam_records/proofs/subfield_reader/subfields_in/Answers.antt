use Rattle.std.proofs.lemmas.List.Elements.{All-push}
use Rattle.jam_records.specs.Subfields.{IsSubfield}
use Rattle.jam_records.proofs.SubfieldLemmas.{one_more_read, taken_length}
use Rattle.jam_records.proofs.subfield_reader.subfields_in.Goals as goal

pub subfield_of-requires-clause-len : goal.subfield_of-requires-clause-len
subfield_of-requires-clause-len c = taken_length _ _ c.in-Some.ensures.0 c.in-Some.ensures.1 c.in-Some.ensures.2

pub loop-rest-preserved : goal.loop-rest-preserved
loop-rest-preserved c = record {
  whole = one_more_read _ _ _ _ _ _ c.loop-rest.invariant.whole c.in_ok-subfield_of.ensures.text c.in_ok-add.ensures.ok;
  ids = rw c.in_ok-add.ensures.ok (All-push IsSubfield _ _ c.loop-rest.invariant.ids c.in_ok-subfield_of.ensures.ids);
}
