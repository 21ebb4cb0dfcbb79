use Rattle.std.proofs.Common.{◌∙◌, sym}
use Rattle.intent_journal.proofs.JournalRead.{fit, unfit}
use Rattle.intent_journal.proofs.Moves.{intent_none}
use Rattle.intent_journal.proofs.recovery.finish_body.Goals as goal

pub finish_open-requires-clause-is_open : goal.finish_open-requires-clause-is_open
finish_open-requires-clause-is_open g c = λ tells.
    fit c.args.count c.args.text.now _ (c.requires.has tells) (sym c.is_intent.ensures ∙ c.if-is_intent.true)

pub close-requires-clause-none : goal.close-requires-clause-none
close-requires-clause-none g c = λ tells.
    intent_none (g.H.Host.disk c.args.host.now).files (unfit c.args.count c.args.text.now _ (c.requires.has tells) (sym c.is_intent.ensures ∙ c.if-is_intent.false))
