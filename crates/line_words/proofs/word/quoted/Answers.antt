use Rattle.std.proofs.Common.{sym, ◌∙◌}
use Rattle.std.proofs.lemmas.Bool.{true≢false}
use Rattle.line_words.proofs.LineLaws.{badly_ended, open_quote}
use Rattle.line_words.proofs.word.quoted.Goals as goal

pub returns-in_default : goal.returns-in_default
returns-in_default c word rest = open_quote c.args.text.now word rest c.in_default.ensures

pub returns-then-not-ends_word : goal.returns-then-not-ends_word
returns-then-not-ends_word c word rest =
    badly_ended c.args.text.now c.in-Some.word.now c.in-Some.rest.now word rest c.in-Some.ensures
    (λ ends. true≢false (sym (c.ends_word.ensures.1 ends) ∙ c.if-not-ends_word.true))
