use Rattle.std.proofs.Common.{rules, ◌≢◌, ℕ, List, [], ◌∷◌, ◌++◌, length, sym, subst}
use Rattle.std.proofs.lemmas.Bool.{eqb-true}
use Rattle.line_words.proofs.LineLaws.{SoFar, begun, breaks_off, ends, goes_on, no_bytes}
use Rattle.line_words.proofs.words.words_of.Goals as goal

pub loop-rest-init : goal.loop-rest-init
loop-rest-init c =
    subst (SoFar c.args.line.now c.without_spaces-rest.result.now) (sym c.new-words.ensures) (begun c.args.line.now c.without_spaces-rest.result.now c.without_spaces-rest.ensures)

pub returns-in_default : goal.returns-in_default
returns-in_default c =
    let some : c.loop-rest.rest.now ≢ [] = search rules in
    breaks_off c.args.line.now c.loop-rest.rest.now c.loop-rest.words c.loop-rest.invariant some (c.in_default.ensures {u = tt})

pub loop-rest-preserved : goal.loop-rest-preserved
loop-rest-preserved c =
    let some : c.loop-rest.rest.now ≢ [] = search rules in
    let next = c.without_spaces-rest-in-loop-rest.result.now in
    subst (SoFar c.args.line.now next) (sym (c.in_ok-add.ensures {u = tt}).ok)
    (subst (λ (word : List ℕ). SoFar c.args.line.now next (c.loop-rest.words ++ word ∷ [])) (sym (c.in_ok-from_slice.ensures {u = tt}))
    (goes_on c.args.line.now c.loop-rest.rest.now c.in-Some.word.now c.in-Some.behind.now next c.loop-rest.words c.loop-rest.invariant some (c.in-Some.ensures {u = tt}) c.without_spaces-rest-in-loop-rest.ensures))

pub returns : goal.returns
returns c =
    let rest = c.loop-rest.rest.now in
    ends c.args.line.now rest c.loop-rest.words c.loop-rest.invariant (no_bytes rest (eqb-true (length rest) 0 (sym (c.loop-rest-test.ensures {u = tt}))))
