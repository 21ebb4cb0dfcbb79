use Rattle.std.proofs.Common.{◌≡◌, true, false, ℕ, List, [], ◌∷◌, ◌++◌, Option, refl, sym, ap, ◌∙◌, subst}
use Rattle.std.proofs.lemmas.Bool.{false≢true}
use Rattle.std.specs.Borrow.{Bor}
use Rattle.std.specs.Option.{is_some}
use Rattle.import_sheet.specs.Fault.{word_again, bad_value}
use Rattle.import_sheet.specs.State.{HoldsValues, value_in}
use Rattle.import_sheet.proofs.Words.{begins}
use Rattle.import_sheet.proofs.Heads.{header_push, holds_push}
use Rattle.import_sheet.proofs.Given.{held_has, held_none}
use Rattle.import_sheet.proofs.found.Found.with_line.Goals as goal

pub returns-then-is_some : goal.returns-then-is_some
returns-then-is_some c = λ headers h holds.
    let f = c.in-Some.field in
    let some : is_some (value_in c.args.self f) ≡ true = sym (ap (λ (o : Option (Bor (List ℕ))). is_some o) c.get.ensures) ∙ (sym c.is_some.ensures ∙ c.if-is_some.true) in
    word_again f refl (begins f c.args.line.now c.in-Some.value.now c.in-Some.ensures) (held_has headers f (value_in c.args.self f) (holds f) some)

pub returns-then-not-value_fits : goal.returns-then-not-value_fits
returns-then-not-value_fits c = λ headers h holds.
    let f = c.in-Some.field in
    let none : is_some (value_in c.args.self f) ≡ false = sym (ap (λ (o : Option (Bor (List ℕ))). is_some o) c.get.ensures) ∙ (sym c.is_some.ensures ∙ c.if-is_some.false) in
    bad_value f c.in-Some.value.now c.rule.ensures (held_none headers f (value_in c.args.self f) (holds f) none) c.in-Some.ensures (λ fits. false≢true (sym c.if-not-value_fits.true ∙ c.value_fits.ensures.1 fits))

pub returns : goal.returns
returns c = λ headers h holds.
    let f = c.in-Some.field in
    let none : is_some (value_in c.args.self f) ≡ false = sym (ap (λ (o : Option (Bor (List ℕ))). is_some o) c.get.ensures) ∙ (sym c.is_some.ensures ∙ c.if-is_some.false) in (
      header_push headers c.args.line.now c.in-Some.value.now f h (held_none headers f (value_in c.args.self f) (holds f) none) c.in-Some.ensures (c.value_fits.ensures.0 c.if-not-value_fits.false),
      subst (HoldsValues (headers ++ c.args.line.now ∷ [])) (sym c.with.ensures) (holds_push headers c.args.line.now c.args.self c.in-Some.value f c.in-Some.ensures holds),
    )
