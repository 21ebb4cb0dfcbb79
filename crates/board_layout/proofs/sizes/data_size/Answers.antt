use Rattle.std.proofs.Common.{◌∙◌, ℕ, length, ap, arith}
use Rattle.door_outside.proofs.Disks.{unchanged_twice}
use Rattle.board_layout.proofs.SizeLaws.{size_none, size_more}
use Rattle.board_layout.proofs.sizes.data_size.Goals as goal

pub loop-place-init : goal.loop-place-init
loop-place-init g c = record {
  value = λ tells. size_none (g.H.Host.disk c.args.host.now).files c.from-size.result (c.from-size.ensures ∙ (c.in_ok-length.ensures.value tells ∙ ap (λ (file : ℕ). length ((g.H.Host.disk c.args.host.now).files file)) c.ledger.ensures));
  bound = omega (arith, c.from-size.ensures, c.in_ok-length.ensures.bound);
  unchanged = c.length.ensures.unchanged;
  voice = c.length.ensures.voice;
  cause = c.in_ok-length.ensures.cause.kept;
}

pub loop-place-preserved : goal.loop-place-preserved
loop-place-preserved g c = record {
  value = λ tells. size_more c.loop-place.place c.loop-place.size c.in_ok-size.field-0 (g.H.Host.disk c.args.host.now).files (g.H.Host.disk c.loop-place.host).files (c.loop-place.invariant.unchanged tells).files
      (c.loop-place.invariant.value tells) (c.in_ok-size.ensures.value tells);
  bound = omega (arith, c.loop-place.invariant.bound, c.in_ok-size.ensures.bound);
  unchanged = λ tells. unchanged_twice _ _ _ (c.loop-place.invariant.unchanged tells) (c.place_size.ensures.unchanged tells);
  voice = c.place_size.ensures.voice ∙ c.loop-place.invariant.voice;
  cause = c.in_ok-size.ensures.cause.kept ∙ c.loop-place.invariant.cause;
}
