use Rattle.qwk_control.proofs.Once.{no_comma, no_id}
use Rattle.qwk_control.proofs.id.id_of.Goals as goal

pub returns-in_default : goal.returns-in_default
returns-in_default c = no_comma c.args.line.now c.in_default.ensures

pub returns-then-not-is_id : goal.returns-then-not-is_id
returns-then-not-is_id c = no_id c.args.line.now c.in-Some.serial.now c.in-Some.rest.now c.trimmed-id.result.now c.in-Some.ensures c.trimmed-id.ensures (λ v. let p = c.is_id.ensures.1 v in cc)
