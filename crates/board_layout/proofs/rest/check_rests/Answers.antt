use Rattle.std.proofs.Common.{◌≡◌, ◌∙◌, suc, ◌+◌, ◌-◌, sym, ap, subst, arith}
use Rattle.std.proofs.lemmas.Result.{err_from_is_err_and}
use Rattle.board_ledger.specs.damage_rules.Rules.{Stops}
use Rattle.board_ledger.specs.intent_journal.Patches.{HostFiles}
use Rattle.board_layout.specs.Damage.{is_rest_place}
use Rattle.board_layout.specs.Rules.{damage_of_read}
use Rattle.door_outside.proofs.Disks.{unchanged_twice}
use Rattle.board_layout.proofs.ReadingClauses.{kept_at_ok}
use Rattle.board_layout.proofs.RestLaws.{one_place_more, one_place_fails, no_place}
use Rattle.board_layout.proofs.rest.check_rests.Goals as goal

pub returns-in_err-check_place-clause-gives : goal.returns-in_err-check_place-clause-gives
returns-in_err-check_place-clause-gives g c =
    let p = err_from_is_err_and c.from_residual.result c.from_residual.ensures.1 in
    let e = damage_of_read c.in_err-check_place.field-0.0 in
    let place = c.loop-place.place in
    let count : 64 - place ≡ suc (64 - (place + 1)) = omega arith in
    rw (p.1, p.2) (λ tells.
    let here = subst (λ (files : HostFiles). Stops e (is_rest_place place files)) (c.loop-place.invariant.unchanged tells).files (c.in_err-check_place.ensures.gives tells) in
    subst (Stops e) (c.loop-place.invariant.left tells) (one_place_fails place (64 - place) (64 - (place + 1)) (g.H.Host.disk c.args.host.now).files e count here))

pub loop-place-preserved : goal.loop-place-preserved
loop-place-preserved g c =
    let place = c.loop-place.place in
    let count : 64 - place ≡ suc (64 - (place + 1)) = omega arith in
    record {
      left = λ tells.
          let here = ap (is_rest_place place) (sym (c.loop-place.invariant.unchanged tells).files) ∙ c.in_ok-check_place.ensures.gives tells in
          sym (one_place_more place (64 - place) (64 - (place + 1)) (g.H.Host.disk c.args.host.now).files _ count here) ∙ c.loop-place.invariant.left tells;
      unchanged = λ tells. unchanged_twice _ _ _ (c.loop-place.invariant.unchanged tells) (c.check_place.ensures.unchanged tells);
      voice = c.check_place.ensures.voice ∙ c.loop-place.invariant.voice;
      cause = kept_at_ok c.in_ok-check_place.field-0 _ _ c.in_ok-check_place.ensures.cause ∙ c.loop-place.invariant.cause;
    }

pub returns-clause-gives : goal.returns-clause-gives
returns-clause-gives g c = λ tells.
    let none : 64 - c.loop-place.place ≡ 0 = omega arith in
    sym (c.loop-place.invariant.left tells) ∙ no_place c.loop-place.place (64 - c.loop-place.place) (g.H.Host.disk c.args.host.now).files none
