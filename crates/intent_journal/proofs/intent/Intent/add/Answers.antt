use Rattle.std.proofs.Common.{◌≡◌, refl, ℕ, List, [], ◌∷◌, ◌++◌, ◌<◌, sym, ap, subst, ◌∙◌, arith, append_assoc}
use Rattle.intent_journal.specs.declared.patch.Patch.{Patch}
use Rattle.intent_journal.specs.Patches.{file_of}
use Rattle.intent_journal.specs.Journal.{TakesPatch, spelled, patch_text}
use Rattle.intent_journal.proofs.Spelling.{count_fits, header_and_bytes, is_spelled_more, marked_more, spelled_more}
use Rattle.intent_journal.proofs.intent.Intent.add.Goals as goal

pub overflow_add-self : goal.overflow_add-self
overflow_add-self c = omega (arith, count_fits c.self.inside.count c.self.inside.text.items c.self.invariant.0, c.self.invariant.0.short)

-- the text has this patch more
grown : (text header bytes more : List ℕ) (p : Patch) → header ++ bytes ≡ patch_text p → more ≡ (text ++ header) ++ bytes → more ≡ text ++ patch_text p
grown text header bytes more p parts is = is ∙ append_assoc text header bytes ∙ ap (λ (l : List ℕ). text ++ l) parts

pub invariant_of-self-2 : goal.invariant_of-self-2
invariant_of-self-2 c =
    let file_is : c.number.result ≡ file_of c.args.patch = c.number.ensures.value ∙ c.file-file.ensures in
    let is = grown c.self.inside.text.items c.patch_header-header.result c.bytes-bytes.result.now c.append.new.text.items c.args.patch
    (ap (λ (l : List ℕ). l ++ c.bytes-bytes.result.now) c.patch_header-header.ensures ∙ header_and_bytes c.args.patch c.kind.result c.number.result c.place.result _ c.bytes-bytes.result.now c.kind.ensures file_is c.place.ensures c.bytes-bytes.ensures refl) c.in_ok-append.ensures.ok in
    let takes : TakesPatch (spelled c.self.inside.count c.self.inside.text.items) c.args.patch = subst (λ (l : List Patch). TakesPatch l c.args.patch) (sym c.self.view_is) c.requires in
    let known : file_of c.args.patch < 258 = subst (λ (k : ℕ). k < 258) file_is c.number.ensures.known in
    let marks = c.mark.ensures (spelled c.self.inside.count c.self.inside.text.items) c.args.patch (sym c.file-file.ensures) (sym c.is_whole.ensures) c.self.invariant.1 in (
      is_spelled_more c.self.inside.count c.self.inside.text.items c.append.new.text.items c.self.invariant.0 c.args.patch takes known is,
      marked_more c.self.inside.count c.self.inside.text.items c.append.new.text.items c.self.invariant.0 c.args.patch takes known is _ _ marks,
    )

pub returns-clause-ok : goal.returns-clause-ok
returns-clause-ok c =
    let file_is : c.number.result ≡ file_of c.args.patch = c.number.ensures.value ∙ c.file-file.ensures in
    let is = grown c.self.inside.text.items c.patch_header-header.result c.bytes-bytes.result.now c.append.new.text.items c.args.patch
    (ap (λ (l : List ℕ). l ++ c.bytes-bytes.result.now) c.patch_header-header.ensures ∙ header_and_bytes c.args.patch c.kind.result c.number.result c.place.result _ c.bytes-bytes.result.now c.kind.ensures file_is c.place.ensures c.bytes-bytes.ensures refl) c.in_ok-append.ensures.ok in
    let takes : TakesPatch (spelled c.self.inside.count c.self.inside.text.items) c.args.patch = subst (λ (l : List Patch). TakesPatch l c.args.patch) (sym c.self.view_is) c.requires in
    let known : file_of c.args.patch < 258 = subst (λ (k : ℕ). k < 258) file_is c.number.ensures.known in
    spelled_more c.self.inside.count c.self.inside.text.items c.append.new.text.items c.self.invariant.0 c.args.patch takes known is ∙ ap (λ (l : List Patch). l ++ c.args.patch ∷ []) c.self.view_is
