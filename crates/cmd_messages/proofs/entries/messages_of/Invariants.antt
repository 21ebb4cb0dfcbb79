use Rattle.std.proofs.Common.{◌≡◌, ◌++◌, length, map}
use Rattle.std.specs.Prelude.{All}
use Rattle.std.specs.Vec.Iter.{into_iter_items, into_iter_len}
use Rattle.jam_layout.specs.Messages.{IsTyped}
use Rattle.cmd_messages.specs.Import.{imported_message}
use Rattle.cmd_messages.proofs.entries.messages_of.Given as goal

-- the entries so far became messages, and the others will
abbrev pub invariant-loop-entry : goal.invariant-loop-entry
invariant-loop-entry l = record {
  so_far : l.messages ++ map (imported_message l.kind l.now) (into_iter_items l.entry-iterator) ≡ map (imported_message l.kind l.now) l.fn.entries;
  typed : All IsTyped l.messages;
  counted : into_iter_len l.entry-iterator ≡ length (into_iter_items l.entry-iterator);
  can_next : (goal.iterator-loop-entry).can_next l.entry-iterator;
  is_finite : (goal.iterator-loop-entry).is_finite l.entry-iterator;
}
