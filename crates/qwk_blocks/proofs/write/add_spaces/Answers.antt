use Rattle.std.proofs.Common.{◌≡◌, ℕ, ◌+◌, ◌-◌, ◌++◌, List, replicate, ap, ◌∙◌, append_assoc, arith}
use Rattle.std.proofs.lemmas.List.{replicate-append-replicate, take-replicate}
use Rattle.std.proofs.lemmas.Result.{IfOk-equal}
use Rattle.qwk_blocks.proofs.write.add_spaces.Goals as goal

-- a block more
pub loop-left-preserved : goal.loop-left-preserved
loop-left-preserved c =
    let rest : ℕ = c.loop-left.left - 128 in
    let whole : 128 + rest ≡ c.loop-left.left = omega (arith, c.loop-left-test.true) in
    ap (λ (xs : List ℕ). xs ++ replicate rest 32) c.in_ok-add.ensures.ok
    ∙ (append_assoc c.loop-left.out (replicate 128 32) (replicate rest 32)
    ∙ (ap (λ (xs : List ℕ). c.loop-left.out ++ xs) (replicate-append-replicate 128 rest 32 ∙ ap (λ (n : ℕ). replicate n 32) whole)
    ∙ c.loop-left.invariant))

-- the front of a block
pub returns : goal.returns
returns c = IfOk-equal c.add-2.result _ _ _ c.add-2.ensures.ok (
    ap (λ (xs : List ℕ). c.loop-left.out ++ xs) (take-replicate c.loop-left.left 128 32 (omega (arith, c.loop-left-test.false))) ∙ c.loop-left.invariant)
