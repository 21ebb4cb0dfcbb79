use Rattle.std.proofs.Common.{◌∙◌, ◌++◌, length, ap, arith}
use Rattle.std.specs.Prelude.{codes, decimal}
use Rattle.offered_packets.specs.Shown.{notice}
use Rattle.offered_packets.proofs.PacketSizes.{notice_short}
use Rattle.offered_packets.proofs.text.notice.Goals as goal

pub returns-clause-short : goal.returns-clause-short
unfolding notice
returns-clause-short c =
    let text = c.in_ok-add_decimal.ensures.ok ∙ (ap (λ t. t ++ decimal c.from.result) c.in_ok-text.ensures ∙ ap (λ n. codes "Produced by qwkdoor, packet " ++ decimal n) c.from.ensures) in
    omega (arith, ap length text, notice_short c.args.number c.ranges.number.fits)
