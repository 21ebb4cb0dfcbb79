use Rattle.jam_records.proofs.message_header.fields_at.Goals as goal

pub returns : goal.returns
returns c = cc
