use Rattle.std.proofs.Common.{ℕ, List, sym, ◌∙◌, subst}
use Rattle.door_outside.specs.declared.fetch.Fetched.{Fetched}
use Rattle.shelf_files.specs.Halts.{Comes}
use Rattle.cmd_replies.specs.RepFile.{RepFrom, RepIn}
use Rattle.cmd_replies.proofs.rep_file.rep_in.Goals as goal

pub returns-in-Ok-Whole-clause-rep : goal.returns-in-Ok-Whole-clause-rep
returns-in-Ok-Whole-clause-rep g c tells =
    subst (λ (found : Fetched). Comes c.rep_of.result (RepFrom c.args.name.now c.args.bbsid.now found)) (sym c.in-Ok-Whole.field-0-is ∙ c.in-Ok-Whole.ensures.value tells)
    (subst (λ (bytes : List ℕ). Comes c.rep_of.result (RepIn c.args.bbsid.now bytes)) c.as_slice.ensures.same c.rep_of.ensures.rep)
