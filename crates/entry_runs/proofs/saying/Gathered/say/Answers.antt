use Rattle.std.proofs.Common.{rules, ◌≡◌}
use Rattle.entry_runs.proofs.Voice.{voiced_as, voiced_by_call}
use Rattle.entry_runs.proofs.saying.Gathered.say.Goals as goal

pub returns-else-is_empty-clause-voiced : goal.returns-else-is_empty-clause-voiced
returns-else-is_empty-clause-voiced g c tells =
    let said : c.as_slice.result.now ≡ c.args.self.now = search rules in
    voiced_as said (voiced_by_call c.say.result tells (c.say.ensures.crash tells) (c.say.ensures.partly tells) (c.say.ensures.wrote tells) c.say.ensures.done)
