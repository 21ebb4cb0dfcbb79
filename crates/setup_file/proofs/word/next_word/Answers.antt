use Rattle.std.proofs.Common.{◌≡◌, ◌≢◌, length, ap, ◌∙◌, arith}
use Rattle.std.proofs.lemmas.Bool.Decides.{nat_tests}
use Rattle.setup_file.specs.Words.{words}
use Rattle.setup_file.proofs.Spaces.{words_first, words_next, words_last, no_words}
use Rattle.setup_file.proofs.word.next_word.Goals as goal

pub returns-then-not-is_empty : goal.returns-then-not-is_empty
returns-then-not-is_empty c =
    let word = c.in-Some.word.now in
    let some : length word ≢ 0 = grind (arith, nat_tests) in
    c.loop-word.invariant ∙ (ap words c.in-Some.ensures.whole ∙ words_first word c.in-Some.rest.now c.in-Some.ensures.first some)

pub loop-word-preserved : goal.loop-word-preserved
loop-word-preserved c =
    let word = c.in-Some.word.now in
    let none : length word ≡ 0 = grind (arith, nat_tests) in
    c.loop-word.invariant ∙ (ap words c.in-Some.ensures.whole ∙ words_next word c.in-Some.rest.now c.in-Some.ensures.first none)

pub returns-then-is_empty : goal.returns-then-is_empty
returns-then-is_empty c =
    let here = c.loop-word.here.now in
    let none : length here ≡ 0 = grind (arith, nat_tests) in
    c.loop-word.invariant ∙ no_words here c.in_default.ensures none

pub returns : goal.returns
unfolding words
returns c =
    let here = c.loop-word.here.now in
    let some : length here ≢ 0 = grind (arith, nat_tests) in
    c.loop-word.invariant ∙ words_last here c.in_default.ensures some
