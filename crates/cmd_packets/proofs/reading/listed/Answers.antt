use Rattle.std.proofs.Common.{ap}
use Rattle.shelf_files.specs.Halts.{done}
use Rattle.cmd_packets.proofs.reading.listed.Goals as goal

pub returns-clause-text : goal.returns-clause-text
returns-clause-text c = ap done c.in_ok-list_folder.ensures
