use Rattle.std.proofs.Common.{◌≡◌, ◌∙◌, ◌+◌, false, length, sym, ap, arith}
use Rattle.std.proofs.lemmas.List.{length_push}
use Rattle.std.specs.List.{filter}
use Rattle.offered_packets.specs.Offered.{is_new, numbers_in}
use Rattle.board_layout.specs.Lookups.{slots_in}
use Rattle.offered_packets.proofs.NewMessages.{none_new, seen_new, old_not_new, unseen_not_new}
use Rattle.offered_packets.proofs.Offers.{numbered_at, none_pass, none_found, limit_reached, passes_next, fails_next}
use Rattle.offered_packets.proofs.offering.add_new.Goals as goal
use Rattle.offered_packets.proofs.offering.add_new.Goals.{then-pointer-number+then-sees+in_ok-add, else-pointer-number, else-pointer-number-via-then-pointer-number+else-sees, else-pointer-number-via-else-pointer-number}

pub returns-in_default-pointer : goal.returns-in_default-pointer
returns-in_default-pointer c =
    let b = c.args.board.now in
    none_found c.args.messages.now (filter (is_new b c.args.user) (numbers_in b c.args.place)) c.args.limit
    (none_pass (is_new b c.args.user) (numbered_at c.args.place) 1 (length (slots_in b c.args.place)) (λ k. none_new b c.args.user c.args.place k c.in-Some.base.now c.in-Some.ensures.contents c.in_default-pointer.ensures)) c.requires

pub returns-then-len-limit : goal.returns-then-len-limit
returns-then-len-limit c =
    let b = c.args.board.now in
    limit_reached (is_new b c.args.user) (numbered_at c.args.place) c.args.messages.now c.loop-slot.messages c.loop-slot.slot (length (slots_in b c.args.place)) c.args.limit c.loop-slot.invariant.added
    (omega (arith, c.loop-slot-test.true, c.slot_count-slot-end.ensures, ap length c.in-Some.ensures.slots)) (omega (arith, c.if-len-limit.true, c.len.ensures, c.loop-slot.invariant.few))

pub loop-slot-preserved : goal.loop-slot-preserved
loop-slot-preserved c =
    let b = c.args.board.now in
    let p = is_new b c.args.user in
    let f = numbered_at c.args.place in
    let number = c.loop-slot.slot + 1 in
    elim c.if-pointer-number.branch [
      | then-pointer-number+then-sees+in_ok-add w ↦
          let is_new_one = seen_new b c.args.user c.args.place number c.in-Some-pointer.pointer c.in-Some.base.now c.in-Some.ensures.contents c.in-Some-pointer.ensures w.if-pointer-number.true (sym w.sees.ensures ∙ w.if-sees.true) in
          let then = w.messages-is ∙ w.in_ok-add.ensures.ok in
          record {
            added = passes_next p f c.args.messages.now c.loop-slot.messages c.if-pointer-number.messages c.loop-slot.slot c.loop-slot.invariant.added is_new_one then;
            few = omega (arith, ap length then, length_push c.loop-slot.messages (f number), c.if-len-limit.false, c.len.ensures);
          }
      | else-pointer-number w ↦
          let not_new = elim w.else-pointer-number.branch as (λ _. p (f number) ≡ false) [
            | else-pointer-number-via-then-pointer-number+else-sees v ↦ unseen_not_new b c.args.user c.args.place number (sym v.sees.ensures ∙ v.if-sees.false)
            | else-pointer-number-via-else-pointer-number v ↦
                old_not_new b c.args.user c.args.place number c.in-Some-pointer.pointer c.in-Some.base.now c.in-Some.ensures.contents c.in-Some-pointer.ensures v.if-pointer-number.false
          ] in
          record {
            added = w.messages-is ∙ fails_next p f c.args.messages.now c.loop-slot.messages c.loop-slot.slot c.loop-slot.invariant.added not_new;
            few = omega (arith, ap length w.messages-is, c.loop-slot.invariant.few);
          }
    ]
