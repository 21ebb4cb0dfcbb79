use Rattle.std.proofs.Common.{◌≡◌, ◌∙◌, suc, ◌+◌, ◌-◌, subst, arith}
use Rattle.intent_journal.specs.Journal.{spelled}
use Rattle.intent_journal.proofs.Front.{reads_fit}
use Rattle.intent_journal.proofs.Carried.{Carrying, carried, carried_wrote, goes_on_here, stops_here, there_at, wrote_here}
use Rattle.intent_journal.proofs.carrying.write_patches.Goals as goal

pub unreachable-requires : goal.unreachable-requires
unreachable-requires g c =
    let n = c.args.count - (c.loop-done._done + 1) in
    let more : c.args.count - c.loop-done._done ≡ suc n = omega arith in
    there_at g.H.Host.tells (spelled c.args.count c.args.text.now) _ n c.loop-done.rest.now _ _ more c.loop-done.invariant.carrying (c.in_default.ensures.value)

pub returns-in_err-write_patch-clause-moments : goal.returns-in_err-write_patch-clause-moments
returns-in_err-write_patch-clause-moments g c =
    let n = c.args.count - (c.loop-done._done + 1) in
    let more : c.args.count - c.loop-done._done ≡ suc n = omega arith in
    let all_fit = (reads_fit c.args.count c.args.text.now (spelled c.args.count c.args.text.now) c.requires.reads).0 in
    λ tells. (stops_here g.H.Host.tells (spelled c.args.count c.args.text.now) _ n c.loop-done.rest.now _ _ more c.loop-done.invariant.carrying all_fit c.requires.once _ _ _ _ _ c.in-Some.ensures.value _ c.write_patch.ensures.crash tells).0

pub returns-in_err-write_patch-clause-now : goal.returns-in_err-write_patch-clause-now
returns-in_err-write_patch-clause-now g c =
    let n = c.args.count - (c.loop-done._done + 1) in
    let more : c.args.count - c.loop-done._done ≡ suc n = omega arith in
    let all_fit = (reads_fit c.args.count c.args.text.now (spelled c.args.count c.args.text.now) c.requires.reads).0 in
    λ tells. (stops_here g.H.Host.tells (spelled c.args.count c.args.text.now) _ n c.loop-done.rest.now _ _ more c.loop-done.invariant.carrying all_fit c.requires.once _ _ _ _ _ c.in-Some.ensures.value _ c.write_patch.ensures.crash tells).1

pub returns-in_err-write_patch-clause-wrote : goal.returns-in_err-write_patch-clause-wrote
returns-in_err-write_patch-clause-wrote g c =
    let n = c.args.count - (c.loop-done._done + 1) in
    let more : c.args.count - c.loop-done._done ≡ suc n = omega arith in
    let all_fit = (reads_fit c.args.count c.args.text.now (spelled c.args.count c.args.text.now) c.requires.reads).0 in
    wrote_here g.H.Host.tells (spelled c.args.count c.args.text.now) _ n c.loop-done.rest.now _ _ more c.loop-done.invariant.carrying all_fit c.requires.once _ _ _ _ _ c.in-Some.ensures.value _ c.write_patch.ensures.crash c.write_patch.ensures.wrote

pub loop-done-preserved : goal.loop-done-preserved
loop-done-preserved g c =
    let n = c.args.count - (c.loop-done._done + 1) in
    let more : c.args.count - c.loop-done._done ≡ suc n = omega arith in
    let all_fit = (reads_fit c.args.count c.args.text.now (spelled c.args.count c.args.text.now) c.requires.reads).0 in
    record {
      carrying = goes_on_here g.H.Host.tells (spelled c.args.count c.args.text.now) _ n c.loop-done.rest.now _ _ more c.loop-done.invariant.carrying all_fit c.requires.once _ _ _ _ _ c.in-Some.ensures.value _ c.write_patch.ensures.crash c.write_patch.ensures.wrote c.in_ok-write_patch.ensures.done;
      voice = c.write_patch.ensures.voice ∙ c.loop-done.invariant.voice;
      cause = c.in_ok-write_patch.ensures.cause.kept ∙ c.loop-done.invariant.cause;
    }

pub returns-clause-done : goal.returns-clause-done
returns-clause-done g c =
    let none : c.args.count - c.loop-done._done ≡ 0 = omega arith in
    carried g.H.Host.tells (spelled c.args.count c.args.text.now) c.loop-done.rest.now _ _ (subst (λ k. Carrying g.H.Host.tells (spelled c.args.count c.args.text.now) k c.loop-done.rest.now (g.H.Host.disk c.args.host.now) (g.H.Host.disk c.loop-done.host)) none c.loop-done.invariant.carrying)

pub returns-clause-wrote : goal.returns-clause-wrote
returns-clause-wrote g c =
    carried_wrote g.H.Host.tells (spelled c.args.count c.args.text.now) _ c.loop-done.rest.now _ _ c.loop-done.invariant.carrying
