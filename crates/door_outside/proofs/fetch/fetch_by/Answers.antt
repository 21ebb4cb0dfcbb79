use Rattle.std.proofs.Common.{◌≡◌, ◌+◌, ◌≤◌, ◌++◌, length, take, drop, ◌∙◌, ap, arith, length-append, length-take}
use Rattle.std.proofs.lemmas.Grind.{common_steps}
use Rattle.door_outside.specs.Allowance.{after_piece}
use Rattle.door_outside.specs.Shelf.{held}
use Rattle.door_outside.specs.declared.shelf.Piece.TheVariants.{Count}
use Rattle.door_outside.proofs.Fetching.{front_after}
use Rattle.door_outside.proofs.fetch.fetch_by.Goals as goal

pub loop-allowance-preserved : goal.loop-allowance-preserved
loop-allowance-preserved g c =
    let count = c.in-Count.count in
    let rest = drop c.min-wanted.result c.loop-allowance.room in
    let size = length-take c.min-wanted.result c.loop-allowance.room in
    let within : c.in-Count.count ≤ length (take c.min-wanted.result c.loop-allowance.room) = rw c.in-Count.is at c.in_ok-ask.ensures.bound in
    let moved : c.ask.new.self ≡ after_piece c.loop-allowance.allowance (Count c.in-Count.count) = rw c.in-Count.is at c.in_ok-ask.ensures.next in
    let long : length c.add.new.self ≡ length c.loop-allowance.whole + c.in-Count.count =
    omega (arith, ap length c.in_ok-add-in-Count.ensures.ok, length-append c.loop-allowance.whole (take count (c.ask.new.buf ++ rest)), length-take count (c.ask.new.buf ++ rest), length-append c.ask.new.buf rest, c.ask.auto.buf, within) in
    record {
      taken = omega (arith, ap (λ a. a.taken) moved, long, c.loop-allowance.invariant.taken);
      left = omega (arith, ap (λ a. a.taken) moved, ap (λ a. a.left) moved, c.loop-allowance.invariant.left, within, size, c.min-wanted.ensures, c.left-in-loop-allowance.ensures);
      room = grind (arith, common_steps);
      front = λ tells.
          front_after _ _ c.loop-allowance.whole _ c.ask.new.buf rest c.add.new.self _ count c.in_ok-ask.field-0
          (ap (λ f. held f c.args.name.now) (c.loop-allowance.invariant.unchanged tells)) c.loop-allowance.invariant.taken c.in-Count.is c.in_ok-add-in-Count.ensures.ok
          c.ask.auto.buf (c.loop-allowance.invariant.front tells) (c.in_ok-ask.ensures.value tells);
      unchanged = λ tells. c.in_ok-ask.ensures.unchanged tells ∙ c.loop-allowance.invariant.unchanged tells;
      faults = c.in_ok-ask.ensures.cause.kept ∙ c.loop-allowance.invariant.faults;
    }
