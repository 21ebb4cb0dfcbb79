-- What a change does to the files of a base, from what its base and its patches are.
use Rattle.std.proofs.Common.{◌≡◌, ℕ, List, [], Result, Ok, Err, sym, ap, ◌∙◌, subst}
use Rattle.std.specs.Prelude.{IfOk}
use Rattle.std.proofs.lemmas.List.Elements.{All-nil}
use Rattle.intent_journal.specs.declared.patch.Patch.{Patch}
use Rattle.jam_writing.specs.jam_layout.Layout.{layout}
use Rattle.jam_writing.specs.jam_layout.declared.files.BaseFiles.{BaseFiles}
use Rattle.jam_writing.specs.jam_layout.declared.shape.Shape.{Shape}
use Rattle.jam_base.specs.Bodies.{Lengthens}
use Rattle.jam_base.specs.Change.{whole_files, Turns, SuitsIntent}
use Rattle.jam_base.specs.Contents.{Contents, no_slots}
use Rattle.jam_base.specs.declared.change.BaseChange.{BaseChange}
use Rattle.jam_base.proofs.BodyLaws.{SparesBodies, bodies_stay}
use Rattle.jam_base.proofs.PatchLaws.{nothing_turns, whole_small, whole_turns}

abbrev files_in : Contents → BaseFiles
files_in base = layout base.shape base.conference

-- what holds of an answer by two of its clauses
pub both_ok : {A E : Type 0} (P Q R : A → Type 0) (r : Result A E) → ((x : A) → P x → Q x → R x) → IfOk r P → IfOk r Q → IfOk r R
both_ok P Q R (Ok x) f p q = f x p q
both_ok P Q R (Err e) f p q = tt

pub one_ok : {A E : Type 0} (P R : A → Type 0) (r : Result A E) → ((x : A) → P x → R x) → IfOk r P → IfOk r R
one_ok P R (Ok x) f p = f x p
one_ok P R (Err e) f p = tt

-- patches of a base that is another by its name
turns_moved : (place : ℕ) (old : BaseFiles) (new base : Contents) (made patches : List Patch) → base ≡ new → patches ≡ made → Turns place old (files_in new) made → Turns place old (files_in base) patches
turns_moved place old new base made patches is text turns =
    subst (λ (b : Contents). Turns place old (files_in b) patches) (sym is) (subst (λ (ps : List Patch). Turns place old (files_in new) ps) (sym text) turns)

lengthens_moved : (place : ℕ) (old : BaseFiles) (new base : Contents) (made patches : List Patch) → base ≡ new → patches ≡ made → Lengthens place old (files_in new) made → Lengthens place old (files_in base) patches
lengthens_moved place old new base made patches is text lengthens =
    subst (λ (b : Contents). Lengthens place old (files_in b) patches) (sym is) (subst (λ (ps : List Patch). Lengthens place old (files_in new) ps) (sym text) lengthens)

-- ---- a base that stays as it is
module _ {E : Type 0} (place : ℕ) (old : BaseFiles) (new : Contents) (r : Result BaseChange E) where
  pub no_change : old ≡ files_in new → IfOk r (λ change. change.base ≡ new) → IfOk r (λ change. change.patches ≡ []) → IfOk r (λ change. Turns place old (files_in change.base) change.patches)
  no_change same base patches =
      both_ok (λ (change : BaseChange). change.base ≡ new) (λ (change : BaseChange). change.patches ≡ []) (λ (change : BaseChange). Turns place old (files_in change.base) change.patches) r
      (λ change b p. turns_moved place old new change.base [] change.patches b p (subst (λ (f : BaseFiles). Turns place old f []) same (nothing_turns place old))) base patches

  pub no_change_lengthens : old ≡ files_in new → IfOk r (λ change. change.base ≡ new) → IfOk r (λ change. change.patches ≡ []) → IfOk r (λ change. Lengthens place old (files_in change.base) change.patches)
  no_change_lengthens same base patches =
      both_ok (λ (change : BaseChange). change.base ≡ new) (λ (change : BaseChange). change.patches ≡ []) (λ (change : BaseChange). Lengthens place old (files_in change.base) change.patches) r
      (λ change b p. lengthens_moved place old new change.base [] change.patches b p (bodies_stay place old (files_in new) [] (ap (λ (f : BaseFiles). f.jdt) same) (All-nil (SparesBodies place)))) base patches

-- ---- a new base
pub fresh_changes : {E : Type 0} (shape : Shape) (made : Contents) (r : Result BaseChange E) → made ≡ record { shape = shape; conference = no_slots shape }
    → IfOk r (λ change. change.patches ≡ whole_files made.shape.place (files_in made)) → IfOk r (λ change. (old : BaseFiles) → Turns shape.place old (layout shape (no_slots shape)) change.patches)
fresh_changes shape made r is patches =
    let new : BaseFiles = layout shape (no_slots shape) in
    one_ok (λ (change : BaseChange). change.patches ≡ whole_files made.shape.place (files_in made)) (λ (change : BaseChange). (old : BaseFiles) → Turns shape.place old new change.patches) r
    (λ change p old. subst (λ (ps : List Patch). Turns shape.place old new ps) (sym (p ∙ ap (λ (c : Contents). whole_files c.shape.place (files_in c)) is)) (whole_turns shape.place new old)) patches

pub fresh_suits : {E : Type 0} (shape : Shape) (made : Contents) (r : Result BaseChange E) → made ≡ record { shape = shape; conference = no_slots shape }
    → IfOk r (λ change. change.patches ≡ whole_files made.shape.place (files_in made)) → IfOk r (λ change. SuitsIntent shape.place (layout shape (no_slots shape)) change.patches)
fresh_suits shape made r is patches =
    let new : BaseFiles = layout shape (no_slots shape) in
    one_ok (λ (change : BaseChange). change.patches ≡ whole_files made.shape.place (files_in made)) (λ (change : BaseChange). SuitsIntent shape.place new change.patches) r
    (λ change p. subst (λ (ps : List Patch). SuitsIntent shape.place new ps) (sym (p ∙ ap (λ (c : Contents). whole_files c.shape.place (files_in c)) is)) (whole_small shape.place new)) patches
