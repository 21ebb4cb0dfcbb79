use Rattle.door_export.proofs.ExportedReads.{exported_reads, exported_seen}
use Rattle.door_export.proofs.laws.exported_reads.Goals as goal

pub returns : goal.returns
returns c = record { reads = exported_reads; seen = exported_seen }
