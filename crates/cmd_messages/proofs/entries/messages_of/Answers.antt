use Rattle.std.proofs.Common.{rules, ◌≡◌, ◌++◌, length, map, sym, ap, ◌∙◌, subst, arith}
use Rattle.std.proofs.lemmas.List.Elements.{All-nil, All-push}
use Rattle.std.specs.Prelude.{All}
use Rattle.std.specs.Vec.Iter.{into_iter_items}
use Rattle.jam_layout.specs.Messages.{IsTyped}
use Rattle.cmd_messages.proofs.EntryLaws.{moved_on}
use Rattle.cmd_messages.specs.Import.{imported_message}
use Rattle.cmd_messages.proofs.entries.messages_of.Goals as goal

pub loop-entry-init : goal.loop-entry-init
loop-entry-init c =
    let items : into_iter_items c.into_iter-entry-iterator.result ≡ c.args.entries = c.into_iter-entry-iterator.ensures.into_iter_gives.0 ∙ c.into_vec-entry-items.ensures in
    record {
      so_far = (λ i. c.new-messages.ensures i ++ map (imported_message c.args.kind c.args.now) (items i));
      typed = subst (All IsTyped) (sym c.new-messages.ensures) (All-nil IsTyped);
      counted = search rules;
      can_next = tt;
      is_finite = tt;
    }

pub loop-entry-preserved : goal.loop-entry-preserved
loop-entry-preserved c =
    let v = c.loop-entry.invariant in
    let steps = c.in-Some.ensures.steps in
    record {
      so_far = moved_on (imported_message c.args.kind c.args.now) c.loop-entry.messages c.add.new.self (map (imported_message c.args.kind c.args.now) c.args.entries) (into_iter_items c.loop-entry.entry-iterator)
          (into_iter_items c.next.new.self) c.in-Some.entry c.message_of.result steps.0 c.in_ok-add.ensures.ok c.message_of.ensures.message v.so_far;
      typed = subst (All IsTyped) (sym c.in_ok-add.ensures.ok) (All-push IsTyped c.loop-entry.messages c.message_of.result v.typed c.message_of.ensures.typed);
      counted = omega (arith, steps.1, v.counted, ap length steps.0);
      can_next = tt;
      is_finite = tt;
    }
