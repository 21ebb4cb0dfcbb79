use Rattle.std.proofs.Common.{◌≡◌, ◌≤◌, ◌++◌, Option, List, ℕ, length, take, drop, subst, sym, ap, ◌∙◌, arith, length-take, length-drop, length-append}
use Rattle.door_outside.specs.Allowance.{after_piece}
use Rattle.door_outside.specs.Shelf.{held, PieceIs, PieceWithin}
use Rattle.door_outside.specs.declared.shelf.Piece.{Piece}
use Rattle.door_outside.specs.declared.shelf.Piece.TheVariants.{Count}
use Rattle.offline_reader.proofs.Scanning.{FedUpto, piece_fed, end_found, scan_unique}
use Rattle.offline_reader.proofs.scan.scan_packet.Goals as goal

pub returns-in-Count-eq0-clause-value : goal.returns-in-Count-eq0-clause-value
returns-in-Count-eq0-clause-value g c = λ tells.
    let at = c.loop-room.allowance.taken in
    let same = ap (λ f. held f c.args.name.now) (c.loop-room.invariant.unchanged tells) in
    let gave = subst (λ (h : Option (List ℕ)). PieceIs h at (take c.min-wanted.result c.loop-room.room) c.ask.new.buf c.in_ok-ask.field-0) same (c.in_ok-ask.ensures.value tells) in
    let none = subst (λ (p : Piece). PieceIs (held (g.S.Shelf.files c.args.shelf.now) c.args.name.now) at (take c.min-wanted.result c.loop-room.room) c.ask.new.buf p) (c.in-Count-eq0.is ∙ ap Count c.in-Count-eq0.field-0-test) gave in
    end_found _ c.loop-room.reader at c.args.max _ _ c.outcome_of.result (c.loop-room.invariant.fed tells) none
    (omega (arith, length-take c.min-wanted.result c.loop-room.room, c.loop-room.invariant.room, c.min-wanted.ensures, c.left.ensures, c.left-in-loop-room.ensures, c.loop-room-test.true))
    (omega (arith, c.loop-room.invariant.left, c.left.ensures, c.loop-room-test.true)) (λ file fed le. c.outcome_of.ensures c.args.max file fed le)

pub returns-in-Count-eq0-clause-only : goal.returns-in-Count-eq0-clause-only
returns-in-Count-eq0-clause-only g c = λ tells found is. scan_unique c.args.max _ c.outcome_of.result found (returns-in-Count-eq0-clause-value g c tells) is

pub loop-room-preserved : goal.loop-room-preserved
loop-room-preserved g c =
    let at = c.loop-room.allowance.taken in
    let buf = take c.min-wanted.result c.loop-room.room in
    let rest = drop c.min-wanted.result c.loop-room.room in
    let n = c.in-Count.count in
    let bound : n ≤ length buf = subst (PieceWithin (length buf)) c.in-Count.is c.in_ok-ask.ensures.bound in
    let size = length-take c.min-wanted.result c.loop-room.room in
    let long : n ≤ length (c.ask.new.buf ++ rest) = omega (arith, length-append c.ask.new.buf rest, c.ask.auto.buf) in
    let moved : c.ask.new.self ≡ after_piece c.loop-room.allowance (Count n) = c.in_ok-ask.ensures.next ∙ ap (after_piece c.loop-room.allowance) c.in-Count.is in
    record {
      left = omega (arith, ap (λ a. a.taken) moved, ap (λ a. a.left) moved, c.loop-room.invariant.left, bound, size, c.min-wanted.ensures, c.left-in-loop-room.ensures);
      room = omega (arith, length-append c.ask.new.buf rest, c.ask.auto.buf, size, length-drop c.min-wanted.result c.loop-room.room, c.loop-room.invariant.room);
      taken = omega (arith, ap (λ a. a.taken) moved, c.feed_all.ensures.taken, c.loop-room.invariant.taken, length-take n (c.ask.new.buf ++ rest));
      fed = λ tells.
          let same = ap (λ f. held f c.args.name.now) (c.loop-room.invariant.unchanged tells) in
          let gave = subst (λ (h : Option (List ℕ)). PieceIs h at buf c.ask.new.buf c.in_ok-ask.field-0) same (c.in_ok-ask.ensures.value tells) in
          let some = subst (λ (p : Piece). PieceIs (held (g.S.Shelf.files c.args.shelf.now) c.args.name.now) at buf c.ask.new.buf p) c.in-Count.is gave in
          let fed = piece_fed _ c.loop-room.reader c.feed_all.new.reader at n buf c.ask.new.buf rest c.ask.auto.buf (c.loop-room.invariant.fed tells) some long (λ s h. c.feed_all.ensures.fed s h) in
          subst (λ (place : ℕ). FedUpto (held (g.S.Shelf.files c.args.shelf.now) c.args.name.now) place c.feed_all.new.reader) (sym (ap (λ a. a.taken) moved)) fed;
      unchanged = λ tells. c.in_ok-ask.ensures.unchanged tells ∙ c.loop-room.invariant.unchanged tells;
      faults = c.in_ok-ask.ensures.cause.kept ∙ c.loop-room.invariant.faults;
    }
