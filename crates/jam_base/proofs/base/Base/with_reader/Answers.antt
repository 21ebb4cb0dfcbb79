use Rattle.std.proofs.Common.{◌≡◌, ◌∙◌, ℕ, List, ap, [], ◌∷◌, ◌++◌}
use Rattle.jam_writing.specs.jam_layout.declared.shape.Shape.{Shape}
use Rattle.jam_base.specs.Contents.{Contents, with_reader}
use Rattle.jam_base.proofs.ReaderLaws.{joined_made, shape_more}
use Rattle.jam_base.proofs.ChangeClauses.{one_ok}
use Rattle.jam_base.proofs.base.Base.with_reader.Goals as goal

pub with_readers-requires-clause-shape : goal.with_readers-requires-clause-shape
with_readers-requires-clause-shape c =
    let base : Contents = c.args.self.now in
    let from : c.in_ok-shape.shape ≡ base.shape = c.in_ok-shape.ensures ∙ c.shape.ensures.same in
    let readers : c.add.new.self ≡ base.shape.readers ++ c.args.reader ∷ [] = c.in_ok-add.ensures.ok ∙ ap (λ (s : Shape). s.readers ++ c.args.reader ∷ []) from in
    let shape_is = c.in_ok-new.ensures ∙ shape_more c.in_ok-shape.shape base.shape c.add.new.self c.args.reader.id c.args.reader.name from readers in
    let pointers : c.add-2.new.self ≡ base.conference.pointers ++ 0 ∷ [] = c.in_ok-add-2.ensures.ok ∙ ap (λ (ps : List ℕ). ps ++ 0 ∷ []) (c.in_ok-pointers.ensures ∙ c.pointers.ensures) in
    (joined_made base c.args.reader.id c.args.reader.name c.in_ok-new.field-0 (record base.conference { pointers = c.add-2.new.self }) shape_is (ap (λ (ps : List ℕ). record base.conference { pointers = ps }) pointers) c.requires (c.shape.ensures.is_shape, c.shape.ensures.is_conference)).0

pub with_readers-requires-clause-conference : goal.with_readers-requires-clause-conference
with_readers-requires-clause-conference c =
    let base : Contents = c.args.self.now in
    let from : c.in_ok-shape.shape ≡ base.shape = c.in_ok-shape.ensures ∙ c.shape.ensures.same in
    let readers : c.add.new.self ≡ base.shape.readers ++ c.args.reader ∷ [] = c.in_ok-add.ensures.ok ∙ ap (λ (s : Shape). s.readers ++ c.args.reader ∷ []) from in
    let shape_is = c.in_ok-new.ensures ∙ shape_more c.in_ok-shape.shape base.shape c.add.new.self c.args.reader.id c.args.reader.name from readers in
    let pointers : c.add-2.new.self ≡ base.conference.pointers ++ 0 ∷ [] = c.in_ok-add-2.ensures.ok ∙ ap (λ (ps : List ℕ). ps ++ 0 ∷ []) (c.in_ok-pointers.ensures ∙ c.pointers.ensures) in
    (joined_made base c.args.reader.id c.args.reader.name c.in_ok-new.field-0 (record base.conference { pointers = c.add-2.new.self }) shape_is (ap (λ (ps : List ℕ). record base.conference { pointers = ps }) pointers) c.requires (c.shape.ensures.is_shape, c.shape.ensures.is_conference)).1

pub returns : goal.returns
returns c =
    let base : Contents = c.args.self.now in
    let from : c.in_ok-shape.shape ≡ base.shape = c.in_ok-shape.ensures ∙ c.shape.ensures.same in
    let readers : c.add.new.self ≡ base.shape.readers ++ c.args.reader ∷ [] = c.in_ok-add.ensures.ok ∙ ap (λ (s : Shape). s.readers ++ c.args.reader ∷ []) from in
    let shape_is = c.in_ok-new.ensures ∙ shape_more c.in_ok-shape.shape base.shape c.add.new.self c.args.reader.id c.args.reader.name from readers in
    let pointers : c.add-2.new.self ≡ base.conference.pointers ++ 0 ∷ [] = c.in_ok-add-2.ensures.ok ∙ ap (λ (ps : List ℕ). ps ++ 0 ∷ []) (c.in_ok-pointers.ensures ∙ c.pointers.ensures) in
    let made : record { shape = c.in_ok-new.field-0; conference = record base.conference { pointers = c.add-2.new.self } } ≡ with_reader c.args.reader.id c.args.reader.name base =
    λ i. record { shape = shape_is i; conference = record base.conference { pointers = pointers i } } in
    one_ok (λ (b : Contents). b ≡ record { shape = c.in_ok-new.field-0; conference = record base.conference { pointers = c.add-2.new.self } }) (λ (b : Contents). b ≡ with_reader c.args.reader.id c.args.reader.name base) c.with_readers.result
    (λ b is. is ∙ made) c.with_readers.ensures
