use Rattle.std.proofs.Common.{◌≡◌, ℕ, length, get_or, take, refl, sym, ap, ◌∙◌, arith}
use Rattle.std.proofs.lemmas.List.{length_push, length-take}
use Rattle.jam_adopt.specs.Bodies.{without_feeds}
use Rattle.jam_adopt.proofs.Feeds.{kept_small, kept_more, one_count_more}
use Rattle.jam_adopt.proofs.texts.Texts.of.Goals as goal

pub overflow_cast-len : goal.overflow_cast-len
overflow_cast-len c =
    omega (arith, c.len.ensures, kept_small (take c.loop-byte.byte-index c.args.jdt.now), ap length c.loop-byte.invariant.kept, length-take c.loop-byte.byte-index c.args.jdt.now, c.requires)

pub overflow_cast-len-2 : goal.overflow_cast-len-2
overflow_cast-len-2 c =
    omega (arith, c.len-2.ensures, kept_small (take c.loop-byte.byte-index c.args.jdt.now), ap length c.loop-byte.invariant.kept, length-take c.loop-byte.byte-index c.args.jdt.now, c.requires)

pub loop-byte-preserved : goal.loop-byte-preserved
loop-byte-preserved c =
    let size : c.len.result ≡ length c.loop-byte.kept.items = omega (arith, c.len.ensures) in
    let here : c.len.result ≡ length (without_feeds (take (length c.loop-byte.counts.items) c.args.jdt.now))
    = size ∙ (ap length c.loop-byte.invariant.kept ∙ ap (λ (n : ℕ). length (without_feeds (take n c.args.jdt.now))) (sym c.loop-byte.invariant.count)) in
    record {
      kept = kept_more c.args.jdt.now c.loop-byte.kept.items c.add_kept.new.kept.items c.loop-byte.byte-index (get_or c.args.jdt.now c.loop-byte.byte-index 0) c.loop-byte-test.true refl c.loop-byte.invariant.kept c.in_ok-add_kept.ensures;
      count = ap length c.in_ok-push.ensures.items ∙ (length_push c.loop-byte.counts.items _ ∙ omega (arith, c.loop-byte.invariant.count));
      each = one_count_more c.args.jdt.now c.loop-byte.counts.items _ c.len.result c.loop-byte.invariant.each here c.in_ok-push.ensures.items;
    }
