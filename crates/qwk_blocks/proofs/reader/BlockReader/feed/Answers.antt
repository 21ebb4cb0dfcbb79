use Rattle.std.proofs.Common.{◌++◌, sym, subst, refl, arith}
use Rattle.qwk_blocks.specs.Reader.{ReaderState, HoldsStream, IsEvent, next_bytes}
use Rattle.qwk_blocks.proofs.Feeding.{feed_part, feed_ready, feed_full, progress_sound, progress_bad, not_stopped, no_fault_exact, fault_exact}
use Rattle.qwk_blocks.proofs.reader.BlockReader.feed.Goals as goal

pub returns-then-is_stopped-clause-holds : goal.returns-then-is_stopped-clause-holds
returns-then-is_stopped-clause-holds c = λ s h good.
    let v = subst (λ (r : ReaderState). HoldsStream r s) (sym c.self.view_is) h in
    absurd (good (c.self.inside.progress.front, progress_bad c.self.inside.progress _ s (c.is_stopped.ensures.0 c.if-is_stopped.true) v.progress))

pub returns-then-is_stopped-clause-fault : goal.returns-then-is_stopped-clause-fault
returns-then-is_stopped-clause-fault c = λ s h good at.
    let v = subst (λ (r : ReaderState). HoldsStream r s) (sym c.self.view_is) h in
    absurd (good (c.self.inside.progress.front, progress_bad c.self.inside.progress _ s (c.is_stopped.ensures.0 c.if-is_stopped.true) v.progress))

pub returns-then-is_stopped-clause-later : goal.returns-then-is_stopped-clause-later
returns-then-is_stopped-clause-later c = λ s h at f.
    let v = subst (λ (r : ReaderState). HoldsStream r s) (sym c.self.view_is) h in
    let bad = progress_bad c.self.inside.progress _ s (c.is_stopped.ensures.0 c.if-is_stopped.true) v.progress in
    ((fault_exact s c.self.inside.progress.front bad at).1 f, refl)

pub returns-then-end-lt-BLOCK-clause-holds : goal.returns-then-end-lt-BLOCK-clause-holds
returns-then-end-lt-BLOCK-clause-holds c = λ s h good.
    let v = subst (λ (r : ReaderState). HoldsStream r s) (sym c.self.view_is) h in
    let some = not_stopped c.is_stopped.result c.self.inside.progress c.if-is_stopped.false c.is_stopped.ensures in
    feed_part _ _ c.args.piece.now _ s _ _ _ c.self.inside.progress v c.self.told.1 some c.min-used.ensures c.copy_from_slice.ensures.after c.if-end-lt-BLOCK.true

pub returns-then-end-lt-BLOCK-clause-fault : goal.returns-then-end-lt-BLOCK-clause-fault
returns-then-end-lt-BLOCK-clause-fault c = λ s h good at.
    let v = subst (λ (r : ReaderState). HoldsStream r s) (sym c.self.view_is) h in
    let some = not_stopped c.is_stopped.result c.self.inside.progress c.if-is_stopped.false c.is_stopped.ensures in
    let next = feed_part _ _ c.args.piece.now _ s _ _ _ c.self.inside.progress v c.self.told.1 some c.min-used.ensures c.copy_from_slice.ensures.after c.if-end-lt-BLOCK.true in
    no_fault_exact (s ++ next_bytes s c.args.piece.now) _ (progress_sound c.self.inside.progress _ (s ++ next_bytes s c.args.piece.now) next.short some next.progress) at

pub returns-then-end-lt-BLOCK-clause-later : goal.returns-then-end-lt-BLOCK-clause-later
returns-then-end-lt-BLOCK-clause-later c = λ s h at f.
    let v = subst (λ (r : ReaderState). HoldsStream r s) (sym c.self.view_is) h in
    let some = not_stopped c.is_stopped.result c.self.inside.progress c.if-is_stopped.false c.is_stopped.ensures in
    absurd (progress_sound c.self.inside.progress _ s v.short some v.progress at f)

pub returns-in-Some-clause-holds : goal.returns-in-Some-clause-holds
returns-in-Some-clause-holds c = λ s h good.
    let v = subst (λ (r : ReaderState). HoldsStream r s) (sym c.self.view_is) h in
    let some = not_stopped c.is_stopped.result c.self.inside.progress c.if-is_stopped.false c.is_stopped.ensures in
    let stream = s ++ next_bytes s c.args.piece.now in
    let r = feed_ready _ _ c.args.piece.now _ s _ _ _ c.self.inside.progress v c.self.told.1 some c.min-used.ensures c.copy_from_slice.ensures.after (omega arith) c.if-end-lt-BLOCK.false in
    let g = c.in-Some.ensures.goes_on stream r.0 r.1 r.2 in
    feed_full _ _ c.args.piece.now _ s _ _ _ c.self.inside.progress c.in-Some.progress v c.self.told.1 c.min-used.ensures c.copy_from_slice.ensures.after (omega arith) c.if-end-lt-BLOCK.false g.0

pub returns-in-Some-clause-event : goal.returns-in-Some-clause-event
returns-in-Some-clause-event c = λ s h.
    let v = subst (λ (r : ReaderState). HoldsStream r s) (sym c.self.view_is) h in
    let some = not_stopped c.is_stopped.result c.self.inside.progress c.if-is_stopped.false c.is_stopped.ensures in
    let stream = s ++ next_bytes s c.args.piece.now in
    let r = feed_ready _ _ c.args.piece.now _ s _ _ _ c.self.inside.progress v c.self.told.1 some c.min-used.ensures c.copy_from_slice.ensures.after (omega arith) c.if-end-lt-BLOCK.false in
    let g = c.in-Some.ensures.goes_on stream r.0 r.1 r.2 in
    subst (λ (k : ReaderState). IsEvent k.progress.front stream c.in-Some.event) c.self.view_is g.2

pub returns-in-Some-clause-fault : goal.returns-in-Some-clause-fault
returns-in-Some-clause-fault c = λ s h good at.
    let v = subst (λ (r : ReaderState). HoldsStream r s) (sym c.self.view_is) h in
    let some = not_stopped c.is_stopped.result c.self.inside.progress c.if-is_stopped.false c.is_stopped.ensures in
    let stream = s ++ next_bytes s c.args.piece.now in
    let r = feed_ready _ _ c.args.piece.now _ s _ _ _ c.self.inside.progress v c.self.told.1 some c.min-used.ensures c.copy_from_slice.ensures.after (omega arith) c.if-end-lt-BLOCK.false in
    let g = c.in-Some.ensures.goes_on stream r.0 r.1 r.2 in
    no_fault_exact stream _ (progress_sound c.in-Some.progress 0 stream (omega arith) g.1 g.0) at

pub returns-in-Some-clause-later : goal.returns-in-Some-clause-later
returns-in-Some-clause-later c = λ s h at f.
    let v = subst (λ (r : ReaderState). HoldsStream r s) (sym c.self.view_is) h in
    let some = not_stopped c.is_stopped.result c.self.inside.progress c.if-is_stopped.false c.is_stopped.ensures in
    absurd (progress_sound c.self.inside.progress _ s v.short some v.progress at f)

pub returns-in-None-clause-holds : goal.returns-in-None-clause-holds
returns-in-None-clause-holds c = λ s h good.
    let v = subst (λ (r : ReaderState). HoldsStream r s) (sym c.self.view_is) h in
    let some = not_stopped c.is_stopped.result c.self.inside.progress c.if-is_stopped.false c.is_stopped.ensures in
    let stream = s ++ next_bytes s c.args.piece.now in
    let r = feed_ready _ _ c.args.piece.now _ s _ _ _ c.self.inside.progress v c.self.told.1 some c.min-used.ensures c.copy_from_slice.ensures.after (omega arith) c.if-end-lt-BLOCK.false in
    let g = c.in-None.ensures.goes_on stream r.0 r.1 r.2 in
    feed_full _ _ c.args.piece.now _ s _ _ _ c.self.inside.progress _ v c.self.told.1 c.min-used.ensures c.copy_from_slice.ensures.after (omega arith) c.if-end-lt-BLOCK.false g

pub returns-in-None-clause-fault : goal.returns-in-None-clause-fault
returns-in-None-clause-fault c = λ s h good at.
    let v = subst (λ (r : ReaderState). HoldsStream r s) (sym c.self.view_is) h in
    let some = not_stopped c.is_stopped.result c.self.inside.progress c.if-is_stopped.false c.is_stopped.ensures in
    let stream = s ++ next_bytes s c.args.piece.now in
    let r = feed_ready _ _ c.args.piece.now _ s _ _ _ c.self.inside.progress v c.self.told.1 some c.min-used.ensures c.copy_from_slice.ensures.after (omega arith) c.if-end-lt-BLOCK.false in
    let g = c.in-None.ensures.goes_on stream r.0 r.1 r.2 in
    fault_exact stream c.self.inside.progress.front (progress_bad _ 0 stream refl g) at

pub returns-in-None-clause-later : goal.returns-in-None-clause-later
returns-in-None-clause-later c = λ s h at f.
    let v = subst (λ (r : ReaderState). HoldsStream r s) (sym c.self.view_is) h in
    let some = not_stopped c.is_stopped.result c.self.inside.progress c.if-is_stopped.false c.is_stopped.ensures in
    absurd (progress_sound c.self.inside.progress _ s v.short some v.progress at f)
