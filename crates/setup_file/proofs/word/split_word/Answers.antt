use Rattle.std.proofs.Common.{sym, ap, ◌∙◌}
use Rattle.setup_file.specs.Words.{first_word, behind_word}
use Rattle.setup_file.proofs.Spaces.{first_is, first_whole, behind_is, behind_whole}
use Rattle.setup_file.proofs.word.split_word.Goals as goal

pub returns-in-Some-clause-word : goal.returns-in-Some-clause-word
returns-in-Some-clause-word c = sym (ap first_word c.in-Some.ensures.whole ∙ first_is c.in-Some.word.now c.in-Some.rest.now c.in-Some.ensures.first)

pub returns-in-Some-clause-rest : goal.returns-in-Some-clause-rest
returns-in-Some-clause-rest c = c.trimmed_spaces.ensures ∙ sym (ap behind_word c.in-Some.ensures.whole ∙ behind_is c.in-Some.word.now c.in-Some.rest.now c.in-Some.ensures.first)

pub returns-in-None-clause-word : goal.returns-in-None-clause-word
returns-in-None-clause-word c = sym (first_whole c.args.text.now c.in-None.ensures)

pub returns-in-None-clause-rest : goal.returns-in-None-clause-rest
returns-in-None-clause-rest c = sym (behind_whole c.args.text.now c.in-None.ensures)
