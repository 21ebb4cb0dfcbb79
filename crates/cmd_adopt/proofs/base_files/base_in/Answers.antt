use Rattle.std.proofs.Common.{sym, subst}
use Rattle.cmd_adopt.proofs.FoundLaws.{foreign_right}
use Rattle.cmd_adopt.proofs.NameLaws.{jdt_named, jdx_named}
use Rattle.cmd_adopt.specs.Adopting.{AreRight}
use Rattle.cmd_adopt.proofs.base_files.base_in.Goals as goal

pub ending_in-requires-2 : goal.ending_in-requires-2
ending_in-requires-2 g c = jdx_named c.args.prefix.now c.requires

pub ending_in-requires-3 : goal.ending_in-requires-3
ending_in-requires-3 g c = jdt_named c.args.prefix.now c.requires

pub returns-in-Ok-clause-right : goal.returns-in-Ok-clause-right
returns-in-Ok-clause-right g c = subst AreRight (sym c.in-Ok.ensures.ok) (foreign_right _ _ _)
