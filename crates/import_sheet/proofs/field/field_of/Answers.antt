use Rattle.std.proofs.Common.{◌≡◌, ℕ, [], ◌∷◌, take, subst, arith}
use Rattle.std.proofs.lemmas.List.Elements.{All-more}
use Rattle.std.specs.List.{All}
use Rattle.import_sheet.specs.Header.{BeginsWithWord}
use Rattle.import_sheet.specs.declared.field.Field.TheVariants.{From, To, Subject, Date, Msgid, Reply, Private}
use Rattle.import_sheet.proofs.Words.{no_word_of}
use Rattle.import_sheet.proofs.field.field_of.Goals as goal

pub loop-field-preserved : goal.loop-field-preserved
loop-field-preserved c = All-more (λ field. BeginsWithWord field c.args.line.now → ⊥) (From ∷ To ∷ Subject ∷ Date ∷ Msgid ∷ Reply ∷ Private ∷ []) c.loop-field.field-index From (omega arith) c.loop-field.invariant c.in_default.ensures

pub returns : goal.returns
returns c =
    let all : c.loop-field.field-index ≡ 7 = omega arith in
    no_word_of c.args.line.now (subst (λ (k : ℕ). All (λ field. BeginsWithWord field c.args.line.now → ⊥) (take k (From ∷ To ∷ Subject ∷ Date ∷ Msgid ∷ Reply ∷ Private ∷ []))) all c.loop-field.invariant)
