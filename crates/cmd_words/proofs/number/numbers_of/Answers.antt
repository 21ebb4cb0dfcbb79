use Rattle.std.proofs.Common.{[], sym, subst}
use Rattle.cmd_words.proofs.JoinedWords.{NumbersSoFar, one_word, first_word, begun, goes_on, ends, breaks_off, words_of}
use Rattle.cmd_words.specs.NumberWord.{JoinedNumbers}
use Rattle.cmd_words.proofs.number.numbers_of.Goals as goal

pub loop-word-init : goal.loop-word-init
loop-word-init c = subst (NumbersSoFar c.args.text.now c.args.text.now) (sym c.new-numbers.ensures) (begun c.args.text.now)

pub loop-word-preserved : goal.loop-word-preserved
loop-word-preserved c =
    subst (NumbersSoFar c.args.text.now c.in-Some.behind.now) (sym c.in_ok-add.ensures.ok)
    (goes_on c.args.text.now c.loop-word.rest.now c.in-Some.word.now c.in-Some.behind.now c.loop-word.numbers c.in-Some-number_of.number c.loop-word.invariant c.in-Some.ensures c.in-Some-number_of.ensures)

pub returns-in_default-number_of : goal.returns-in_default-number_of
returns-in_default-number_of c =
    breaks_off c.args.text.now c.loop-word.rest.now c.in-Some.word.now (words_of c.in-Some.behind.now) c.loop-word.numbers c.loop-word.invariant
    (first_word c.loop-word.rest.now c.in-Some.word.now c.in-Some.behind.now c.in-Some.ensures) c.in_default-number_of.ensures

pub returns-in_default-number_of-2 : goal.returns-in_default-number_of-2
returns-in_default-number_of-2 c =
    breaks_off c.args.text.now c.loop-word.rest.now c.loop-word.rest.now [] c.loop-word.numbers c.loop-word.invariant
    (one_word c.loop-word.rest.now c.in_default.ensures) c.in_default-number_of-2.ensures

pub returns : goal.returns
returns c =
    subst (JoinedNumbers c.args.text.now) (sym c.in_ok-add-2.ensures.ok)
    (ends c.args.text.now c.loop-word.rest.now c.loop-word.numbers c.in-Some-number_of-2.last c.loop-word.invariant c.in_default.ensures c.in-Some-number_of-2.ensures)
