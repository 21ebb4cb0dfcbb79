use Rattle.std.proofs.Common.{◌≡◌, ◌∙◌, sym, ap, Some, List, ◌∷◌, [], ◌++◌}
use Rattle.intent_journal.specs.declared.patch.Patch.{Patch}
use Rattle.jam_writing.specs.jam_layout.declared.shape.Shape.{Shape}
use Rattle.jam_base.specs.Contents.{Contents, with_pointer, reader_place}
use Rattle.jam_base.specs.MarkPuts.{pointer_patch}
use Rattle.jam_base.specs.declared.change.BaseChange.{BaseChange}
use Rattle.jam_base.proofs.ChangeClauses.{one_ok}
use Rattle.jam_base.proofs.PointerPuts.{pointed_turns, pointed_lengthens, pointed_suits}
use Rattle.jam_base.proofs.ReadingLaws.{pointer_there}
use Rattle.jam_base.proofs.OutlineChanges.{pointed_each}
use Rattle.jam_base.proofs.base.Base.pointed.Goals as goal

pub returns-clause-files : goal.returns-clause-files
returns-clause-files c =
    let base : Contents = c.args.self.now in
    let found : reader_place c.args.user c.shape.result.now.readers ≡ Some c.in-Some.place = sym c.position.ensures.place ∙ c.in-Some.is in
    let there : reader_place c.args.user base.shape.readers ≡ Some c.in-Some.place = ap (λ (s : Shape). reader_place c.args.user s.readers) (sym c.shape.ensures.same) ∙ found in
    let made : c.in_ok-base.base ≡ with_pointer c.args.user c.args.number base = c.in_ok-base.ensures ∙ pointer_there base c.args.user c.args.number c.in-Some.place there in
    pointed_turns base c.args.user c.args.number c.in-Some.place c.in_ok-base.base c.of_pointer.result there c.shape.ensures.is_conference.pointers.all made c.of_pointer.ensures.base
    (one_ok (λ (change : BaseChange). change.patches ≡ c.new.result ++ pointer_patch c.in_ok-base.base c.in-Some.place c.args.number ∷ []) (λ (change : BaseChange). change.patches ≡ pointer_patch c.in_ok-base.base c.in-Some.place c.args.number ∷ []) c.of_pointer.result
    (λ change p. p ∙ ap (λ (ps : List Patch). ps ++ pointer_patch c.in_ok-base.base c.in-Some.place c.args.number ∷ []) c.new.ensures) c.of_pointer.ensures.patches)

pub returns-clause-intent : goal.returns-clause-intent
returns-clause-intent c =
    let base : Contents = c.args.self.now in
    let found : reader_place c.args.user c.shape.result.now.readers ≡ Some c.in-Some.place = sym c.position.ensures.place ∙ c.in-Some.is in
    let there : reader_place c.args.user base.shape.readers ≡ Some c.in-Some.place = ap (λ (s : Shape). reader_place c.args.user s.readers) (sym c.shape.ensures.same) ∙ found in
    let made : c.in_ok-base.base ≡ with_pointer c.args.user c.args.number base = c.in_ok-base.ensures ∙ pointer_there base c.args.user c.args.number c.in-Some.place there in
    pointed_suits base c.args.user c.args.number c.in-Some.place c.in_ok-base.base c.of_pointer.result there c.shape.ensures.is_conference.pointers.all made c.of_pointer.ensures.base
    (one_ok (λ (change : BaseChange). change.patches ≡ c.new.result ++ pointer_patch c.in_ok-base.base c.in-Some.place c.args.number ∷ []) (λ (change : BaseChange). change.patches ≡ pointer_patch c.in_ok-base.base c.in-Some.place c.args.number ∷ []) c.of_pointer.result
    (λ change p. p ∙ ap (λ (ps : List Patch). ps ++ pointer_patch c.in_ok-base.base c.in-Some.place c.args.number ∷ []) c.new.ensures) c.of_pointer.ensures.patches)

pub returns-clause-base : goal.returns-clause-base
returns-clause-base c =
    let base : Contents = c.args.self.now in
    let found : reader_place c.args.user c.shape.result.now.readers ≡ Some c.in-Some.place = sym c.position.ensures.place ∙ c.in-Some.is in
    let there : reader_place c.args.user base.shape.readers ≡ Some c.in-Some.place = ap (λ (s : Shape). reader_place c.args.user s.readers) (sym c.shape.ensures.same) ∙ found in
    let made : c.in_ok-base.base ≡ with_pointer c.args.user c.args.number base = c.in_ok-base.ensures ∙ pointer_there base c.args.user c.args.number c.in-Some.place there in
    one_ok (λ (change : BaseChange). change.base ≡ c.in_ok-base.base) (λ (change : BaseChange). change.base ≡ with_pointer c.args.user c.args.number base) c.of_pointer.result (λ change is. is ∙ made) c.of_pointer.ensures.base

pub returns-clause-bodies : goal.returns-clause-bodies
returns-clause-bodies c =
    let base : Contents = c.args.self.now in
    let found : reader_place c.args.user c.shape.result.now.readers ≡ Some c.in-Some.place = sym c.position.ensures.place ∙ c.in-Some.is in
    let there : reader_place c.args.user base.shape.readers ≡ Some c.in-Some.place = ap (λ (s : Shape). reader_place c.args.user s.readers) (sym c.shape.ensures.same) ∙ found in
    let made : c.in_ok-base.base ≡ with_pointer c.args.user c.args.number base = c.in_ok-base.ensures ∙ pointer_there base c.args.user c.args.number c.in-Some.place there in
    pointed_lengthens base c.args.user c.args.number c.in-Some.place c.in_ok-base.base c.of_pointer.result there c.shape.ensures.is_conference.pointers.all made c.of_pointer.ensures.base
    (one_ok (λ (change : BaseChange). change.patches ≡ c.new.result ++ pointer_patch c.in_ok-base.base c.in-Some.place c.args.number ∷ []) (λ (change : BaseChange). change.patches ≡ pointer_patch c.in_ok-base.base c.in-Some.place c.args.number ∷ []) c.of_pointer.result
    (λ change p. p ∙ ap (λ (ps : List Patch). ps ++ pointer_patch c.in_ok-base.base c.in-Some.place c.args.number ∷ []) c.new.ensures) c.of_pointer.ensures.patches)

pub returns-clause-each : goal.returns-clause-each
returns-clause-each c =
    let base : Contents = c.args.self.now in
    let found : reader_place c.args.user c.shape.result.now.readers ≡ Some c.in-Some.place = sym c.position.ensures.place ∙ c.in-Some.is in
    let there : reader_place c.args.user base.shape.readers ≡ Some c.in-Some.place = ap (λ (s : Shape). reader_place c.args.user s.readers) (sym c.shape.ensures.same) ∙ found in
    let made : c.in_ok-base.base ≡ with_pointer c.args.user c.args.number base = c.in_ok-base.ensures ∙ pointer_there base c.args.user c.args.number c.in-Some.place there in
    pointed_each base c.in_ok-base.base c.of_pointer.result c.of_pointer.ensures.base (returns-clause-files c) (returns-clause-bodies c) c.args.user c.args.number made
