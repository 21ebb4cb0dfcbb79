use Rattle.std.proofs.Common.{◌≡◌, ◌∷◌, [], ◌++◌, sym, ◌∙◌, subst, append_assoc}
use Rattle.door_outside.specs.Name.{HasParts}
use Rattle.door_outside.proofs.Names.{file_named}
use Rattle.door_outside.proofs.name.ShelfName.file.Goals as goal

pub invariant_of-result : goal.invariant_of-result
invariant_of-result c =
    let whole : c.add-2.new.self ≡ c.args.self.now ++ 47 ∷ c.args.part.now =
    c.in_ok-add-2.ensures.ok
    ∙ (λ i. c.in_ok-add.ensures.ok i ++ c.args.part.now)
    ∙ (λ i. ((c.in_ok-text.ensures ∙ c.self.view_is) i ++ 47 ∷ []) ++ c.args.part.now)
    ∙ append_assoc c.args.self.now (47 ∷ []) c.args.part.now in
    subst (HasParts 4) (sym whole) (file_named c.args.self.now c.args.part.now c.requires.folder c.requires.part)
