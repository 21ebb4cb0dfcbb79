use Rattle.std.specs.Prelude.{All}
use Rattle.jam_layout.specs.Messages.{IsMessage}
use Rattle.jam_records.specs.declared.message.Kind.TheVariants.{Local}
use Rattle.test_jam.proofs.tests.changes.messages_of.Given as goal

abbrev pub invariant-loop-word : goal.invariant-loop-word
invariant-loop-word l = All (IsMessage Local) l.messages
