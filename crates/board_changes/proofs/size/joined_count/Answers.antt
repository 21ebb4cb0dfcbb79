use Rattle.std.proofs.Common.{◌≡◌, Bool, true, false, cond, refl, ap, ◌∙◌, arith}
use mir.Val.{bool_byte}
use Rattle.board_changes.specs.Enrolling.{one_if_joined}
use Rattle.board_changes.proofs.UserSizes.{joined_more, one_at_most}
use Rattle.board_changes.proofs.size.joined_count.Goals as goal

-- a test as a number
test_number : (b : Bool) → bool_byte b ≡ cond b 1 0
test_number true = refl
test_number false = refl

pub loop-place-preserved : goal.loop-place-preserved
loop-place-preserved c =
    let here : c.from-joined.result ≡ one_if_joined c.args.members c.loop-place.place = c.from-joined.ensures ∙ (ap bool_byte c.is_joined.ensures ∙ test_number _) in
    let more = joined_more c.args.members c.loop-place.place in
    let most = one_at_most c.args.members c.loop-place.place in
    let v = c.loop-place.invariant in
    record { counted = omega (arith, here, more, v.counted); few = omega (arith, here, most, v.few) }
