use Rattle.setup_file.proofs.ConferenceLines.{value_line, no_key_line}
use Rattle.setup_file.proofs.conference_line.line_parts.Goals as goal

pub returns-in-Some : goal.returns-in-Some
returns-in-Some c = value_line c.args.line.now c.in-Some.value.now c.args.count c.args.last c.parts_of.result c.in-Some.ensures.0 c.in-Some.ensures.1 c.parts_of.ensures

pub returns-in-None : goal.returns-in-None
returns-in-None c = no_key_line c.args.line.now c.args.count c.args.last c.in-None.ensures
