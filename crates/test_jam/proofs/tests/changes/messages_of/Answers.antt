-- A message more is one that may stand there.
use Rattle.std.proofs.Common.{sym, subst}
use Rattle.std.specs.Prelude.{All}
use Rattle.std.proofs.lemmas.List.Elements.{All-push}
use Rattle.jam_layout.specs.Messages.{IsMessage}
use Rattle.jam_records.specs.declared.message.Kind.TheVariants.{Local}
use Rattle.test_jam.proofs.tests.changes.messages_of.Goals as goal

pub loop-word-preserved : goal.loop-word-preserved
loop-word-preserved c =
    subst (All (IsMessage Local)) (sym c.in_ok-add.ensures.ok) (All-push (IsMessage Local) c.loop-word.messages c.in_ok-message_of.field-0 c.loop-word.invariant c.in_ok-message_of.ensures)
