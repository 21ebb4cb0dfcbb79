use Rattle.std.proofs.Common.{◌+◌, ◌*◌, ◌∙◌, length, sym, ap, arith}
use Rattle.std.proofs.lemmas.List.{take_rest, length-drop}
use Rattle.std.proofs.lemmas.Result.{err_from_is_err_and}
use Rattle.jam_layout.specs.Index.{slot_at}
use Rattle.jam_layout.proofs.HeaderLoop.{not_empty}
use Rattle.damage_rules.proofs.RecordWalks.{goes_on}
use Rattle.jam_layout.proofs.IndexLoop.{too_many, slots_fail, slots_done, slots_missing, is_nothing}
use Rattle.jam_layout.proofs.index.slots_from.Goals as goal

pub returns-then-bytes-gt-SLOT_LIMIT : goal.returns-then-bytes-gt-SLOT_LIMIT
returns-then-bytes-gt-SLOT_LIMIT c = rw (c.damaged.ensures, c.jdx.ensures) (too_many c.args.place 1024 c.args.pending.now.items c.args.bytes.now c.if-bytes-gt-SLOT_LIMIT.true)

pub returns-in_err-slot : goal.returns-in_err-slot
returns-in_err-slot c =
    let p = err_from_is_err_and c.from_residual.result c.from_residual.ensures.1 in
    rw (p.1, p.2) (slots_fail c.args.place 1024 c.args.pending.now.items c.args.bytes.now c.loop-rest.slots (record { item = c.loop-rest.item; at = c.loop-rest.at; entries = c.loop-rest.pending.items }) c.loop-rest.rest.now c.in_err-slot.field-0.0 c.if-bytes-gt-SLOT_LIMIT.false
    (not_empty c.loop-rest.rest.now c.is_empty.result c.is_empty.ensures c.loop-rest-test.true) c.in_err-slot.ensures.gives c.loop-rest.invariant.read)

pub loop-rest-preserved : goal.loop-rest-preserved
loop-rest-preserved c =
    let long = c.in_ok-slot.ensures.long in
    record {
      read = goes_on (slot_at c.args.place) _ c.loop-rest.rest.now _ c.loop-rest.slots c.add.new.self _ _ (not_empty c.loop-rest.rest.now c.is_empty.result c.is_empty.ensures c.loop-rest-test.true)
          c.in_ok-slot.ensures.gives (omega arith) (take_rest c.loop-rest.rest.now 8) c.in_ok-add.ensures.ok c.loop-rest.invariant.read;
      few = ap (λ xs. 8 * (c.loop-rest.item + 1) + length xs) (take_rest c.loop-rest.rest.now 8) ∙ omega (arith, length-drop 8 c.loop-rest.rest.now, long, c.loop-rest.invariant.few);
      small = omega (arith, c.in_ok-slot.ensures.small, c.loop-rest.invariant.small);
    }

pub returns-then-not-is_done : goal.returns-then-not-is_done
returns-then-not-is_done c = rw (c.damaged-then-not-is_done.ensures, c.jdx-then-not-is_done.ensures) (slots_missing c.args.place 1024 c.args.pending.now.items c.args.bytes.now c.loop-rest.slots (record { item = c.loop-rest.item; at = c.loop-rest.at; entries = c.loop-rest.pending.items }) c.loop-rest.rest.now c.if-bytes-gt-SLOT_LIMIT.false
    (is_nothing c.loop-rest.rest.now c.is_empty.result c.is_empty.ensures c.loop-rest-test.false) (sym c.if-not-is_done.ensures) c.loop-rest.invariant.read)

pub returns : goal.returns
returns c = slots_done c.args.place 1024 c.args.pending.now.items c.args.bytes.now c.loop-rest.slots (record { item = c.loop-rest.item; at = c.loop-rest.at; entries = c.loop-rest.pending.items }) c.loop-rest.rest.now c.if-bytes-gt-SLOT_LIMIT.false
    (is_nothing c.loop-rest.rest.now c.is_empty.result c.is_empty.ensures c.loop-rest-test.false) (sym c.if-not-is_done.ensures) c.loop-rest.invariant.read
