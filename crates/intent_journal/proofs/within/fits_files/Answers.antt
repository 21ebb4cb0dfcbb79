use Rattle.std.proofs.Common.{◌≡◌, ◌∙◌, refl, suc, ◌+◌, ◌-◌, arith}
use Rattle.intent_journal.specs.Journal.{patches_of, spelled}
use Rattle.intent_journal.proofs.Front.{reads_fit}
use Rattle.door_outside.proofs.Disks.{unchanged_twice}
use Rattle.intent_journal.proofs.Fitting.{fitting_end, fitting_on, fitting_past, fitting_start, fitting_there}
use Rattle.intent_journal.proofs.within.fits_files.Goals as goal

pub loop-done-init : goal.loop-done-init
loop-done-init g c =
    let all : c.args.count - 0 ≡ c.args.count = omega arith in
    record {
      fitting = fitting_start g.H.Host.tells (spelled c.args.count c.args.text.now) (c.args.count - 0) c.args.text.now c.no_ends-ends.result _ ((λ i. patches_of (all i) c.args.text.now) ∙ c.requires.reads) (reads_fit c.args.count c.args.text.now (spelled c.args.count c.args.text.now) c.requires.reads).0 c.requires.once c.no_ends-ends.ensures;
      voice = refl;
      cause = refl;
    }

pub unreachable-requires : goal.unreachable-requires
unreachable-requires g c =
    let n = c.args.count - (c.loop-done._done + 1) in
    let more : c.args.count - c.loop-done._done ≡ suc n = omega arith in
    fitting_there g.H.Host.tells (spelled c.args.count c.args.text.now) _ n c.loop-done.rest.now c.loop-done.ends _ _ more c.loop-done.invariant.fitting (c.in_default.ensures.value)

pub returns-then-not-branch-clause-value : goal.returns-then-not-branch-clause-value
returns-then-not-branch-clause-value g c =
    let n = c.args.count - (c.loop-done._done + 1) in
    let more : c.args.count - c.loop-done._done ≡ suc n = omega arith in
    fitting_past g.H.Host.tells (spelled c.args.count c.args.text.now) _ n c.loop-done.rest.now c.loop-done.ends _ _ more c.loop-done.invariant.fitting _ _ _ _ _ c.in-Some.ensures.value _ (c.from-place.ensures ∙ c.number.ensures.value) _ c.in_ok-is_within.ensures.value c.if-not-branch.true

pub returns-then-not-branch-clause-unchanged : goal.returns-then-not-branch-clause-unchanged
returns-then-not-branch-clause-unchanged g c =
    λ tells. unchanged_twice _ _ _ (c.loop-done.invariant.fitting.unchanged tells) (c.is_within.ensures.unchanged tells)

pub returns-in_err-is_within-clause-unchanged : goal.returns-in_err-is_within-clause-unchanged
returns-in_err-is_within-clause-unchanged g c =
    λ tells. unchanged_twice _ _ _ (c.loop-done.invariant.fitting.unchanged tells) (c.is_within.ensures.unchanged tells)

pub loop-done-preserved : goal.loop-done-preserved
loop-done-preserved g c =
    let n = c.args.count - (c.loop-done._done + 1) in
    let more : c.args.count - c.loop-done._done ≡ suc n = omega arith in
    record {
      fitting = fitting_on g.H.Host.tells (spelled c.args.count c.args.text.now) _ n c.loop-done.rest.now c.loop-done.ends _ _ more c.loop-done.invariant.fitting _ _ _ _ _ c.in-Some.ensures.value _ (c.from-place.ensures ∙ c.number.ensures.value) _ c.in_ok-is_within.ensures.value c.if-not-branch.false _ c.is_within.ensures.unchanged _ (omega (arith, c.max.ensures));
      voice = c.is_within.ensures.voice ∙ c.loop-done.invariant.voice;
      cause = c.in_ok-is_within.ensures.cause.kept ∙ c.loop-done.invariant.cause;
    }

pub returns-clause-value : goal.returns-clause-value
returns-clause-value g c =
    let none : c.args.count - c.loop-done._done ≡ 0 = omega arith in
    fitting_end g.H.Host.tells (spelled c.args.count c.args.text.now) _ c.loop-done.rest.now c.loop-done.ends _ _ none c.loop-done.invariant.fitting
