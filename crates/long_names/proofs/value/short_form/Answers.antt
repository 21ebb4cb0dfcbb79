use Rattle.long_names.proofs.Shortening.{trimmed_short}
use Rattle.long_names.proofs.value.short_form.Goals as goal

pub returns : goal.returns
returns c = trimmed_short c.args.value.now c.min.result c.trimmed_end.result.now c.min.ensures c.trimmed_end.ensures
