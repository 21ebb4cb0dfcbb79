use Rattle.std.proofs.Common.{ℕ, List, [], ◌∷◌, ◌++◌, sym, ap, ◌∙◌}
use Rattle.offered_packets.proofs.Listings.{joined_more, joined_same}
use Rattle.offered_packets.proofs.control.listed.Goals as goal
use Rattle.offered_packets.proofs.control.listed.Goals.{then-is_member+in_ok-copy+in_ok-add, else-is_member}

pub loop-place-preserved : goal.loop-place-preserved
loop-place-preserved c =
    let item = c.index-conferences-place.result in
    elim c.if-is_member.branch [
      | then-is_member+in_ok-copy+in_ok-add w ↦
          joined_more c.args.conferences.now c.args.user.now item c.loop-place.place c.loop-place.listed c.if-is_member.listed c.loop-place-test.true c.index-conferences-place.is c.loop-place.invariant
          (sym c.is_member.ensures ∙ w.if-is_member.true) (w.listed-is ∙ (w.in_ok-add.ensures.ok ∙ ap (λ (name : List ℕ). c.loop-place.listed ++ (item.number, name) ∷ []) w.in_ok-copy.ensures))
      | else-is_member w ↦
          w.listed-is ∙ joined_same c.args.conferences.now c.args.user.now item c.loop-place.place c.loop-place.listed c.loop-place-test.true c.index-conferences-place.is c.loop-place.invariant
          (sym c.is_member.ensures ∙ w.if-is_member.false)
    ]
