use Rattle.jam_records.proofs.SubfieldLemmas.{only_ok, only_fault}
use Rattle.jam_records.proofs.subfield_reader.read_subfields.Goals as goal

pub returns-clause-only_ok : goal.returns-clause-only_ok
returns-clause-only_ok c = only_ok _ _ c.requires c.subfields_in.ensures.ok c.subfields_in.ensures.fault

pub returns-clause-only_fault : goal.returns-clause-only_fault
returns-clause-only_fault c = only_fault _ _ c.requires c.subfields_in.ensures.ok c.subfields_in.ensures.fault
