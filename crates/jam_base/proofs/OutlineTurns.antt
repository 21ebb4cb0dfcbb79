-- Patches that lengthen .JDT turn the files of all bases with one outline, where they turn those of one.
use Rattle.std.proofs.Common.{◌≡◌, ◌≢◌, Bool, true, false, cond, ℕ, List, [], ◌∷◌, ◌++◌, length, drop, Result, Ok, Err, refl, sym, ap, ◌∙◌, subst, arith, length-append, length-take, length-drop}
use Rattle.std.specs.Prelude.{IsTrue, IfOk, ◌&&◌, ◌==◌, nat_le}
use Rattle.std.proofs.Math.Seq.{drop-append_seam}
use Rattle.std.proofs.lemmas.List.{length-replicate}
use Rattle.std.proofs.lemmas.Bool.{eqb-true, eq-eqb, ne_eqb, cond-true, cond-false}
use Rattle.intent_journal.specs.door_outside.Disk.{written}
use Rattle.intent_journal.specs.door_outside.File.{jhr_file, jdt_file, jdx_file, jlr_file}
use Rattle.intent_journal.specs.Patches.{HostFiles, file_of, patched_file, apply, patched, begins_within, are_within}
use Rattle.intent_journal.specs.declared.patch.Patch.{Patch}
use Rattle.intent_journal.specs.declared.patch.Patch.TheVariants.{Whole, Put}
use Rattle.jam_writing.specs.jam_layout.Layout.{layout}
use Rattle.jam_writing.specs.jam_layout.declared.files.BaseFiles.{BaseFiles}
use Rattle.jam_writing.proofs.jam_layout.OutlineLaws.{files_outline, jdt_outline}
use Rattle.jam_base.specs.Bodies.{Lengthens}
use Rattle.jam_base.specs.Change.{files_of_place, Turns}
use Rattle.jam_base.specs.Contents.{Contents}
use Rattle.jam_base.specs.Outlined.{outlined, TurnsEach}
use Rattle.jam_base.specs.declared.change.BaseChange.{BaseChange}

abbrev files_in : Contents → BaseFiles
files_in base = layout base.shape base.conference

-- ---- files that differ in one alone, and not in its length
record Alike (file : ℕ) (one other : HostFiles) : Type 0 where
  same : (k : ℕ) → k ≢ file → one k ≡ other k
  long : (k : ℕ) → length (one k) ≡ length (other k)

written_alike : (xs ys bytes : List ℕ) (at : ℕ) → length xs ≡ length ys → length (written xs at bytes) ≡ length (written ys at bytes)
written_alike xs ys bytes at same = simp (length-append, length-take, length-drop, length-replicate) (omega (arith, same))

-- a patch makes files of one length of files of one length
patched_long : (patch : Patch) (some : Bool) (xs ys : List ℕ) → length xs ≡ length ys → length (cond some (patched_file patch xs) xs) ≡ length (cond some (patched_file patch ys) ys)
patched_long (Whole file bytes) true xs ys same = refl
patched_long (Put file at bytes) true xs ys same = written_alike xs ys bytes at same
patched_long patch false xs ys same = same

begins_alike : (patch : Patch) (one other : HostFiles) → length (one (file_of patch)) ≡ length (other (file_of patch)) → begins_within patch one ≡ begins_within patch other
begins_alike (Whole file bytes) one other same = refl
begins_alike (Put file at bytes) one other same = ap (nat_le at) same

one_alike : (patch : Patch) (file : ℕ) (one other : HostFiles) → Alike file one other → Alike file (apply patch one) (apply patch other)
one_alike patch file one other are = record {
  same = λ k apart. ap (λ (xs : List ℕ). cond (k == file_of patch) (patched_file patch xs) xs) (are.same k apart);
  long = λ k. patched_long patch (k == file_of patch) (one k) (other k) (are.long k);
}

all_alike : (patches : List Patch) (file : ℕ) (one other : HostFiles) → Alike file one other → Alike file (patched patches one) (patched patches other)
all_alike [] file one other are = are
all_alike (patch ∷ patches) file one other are = all_alike patches file (apply patch one) (apply patch other) (one_alike patch file one other are)

within_alike : (patches : List Patch) (file : ℕ) (one other : HostFiles) → Alike file one other → are_within patches one ≡ are_within patches other
within_alike [] file one other are = refl
within_alike (patch ∷ patches) file one other are = λ i. begins_alike patch one other (are.long (file_of patch)) i && within_alike patches file (apply patch one) (apply patch other) (one_alike patch file one other are) i

-- ---- the four files of a place, with another .JDT
abbrev with_jdt : ℕ → List ℕ → HostFiles → HostFiles
with_jdt place jdt files k = cond (k == jdt_file place) jdt (files k)

jdt_set : (place : ℕ) (jdt : List ℕ) (files : HostFiles) → with_jdt place jdt files (jdt_file place) ≡ jdt
jdt_set place jdt files = cond-true (jdt_file place == jdt_file place) _ _ (eq-eqb (jdt_file place) (jdt_file place) refl)

others_stay : (place : ℕ) (jdt : List ℕ) (files : HostFiles) (k : ℕ) → k ≢ jdt_file place → files k ≡ with_jdt place jdt files k
others_stay place jdt files k apart = sym (cond-false (k == jdt_file place) _ _ (ne_eqb k (jdt_file place) apart))

long_as : (some : Bool) (jdt xs : List ℕ) → (some ≡ true → length xs ≡ length jdt) → length xs ≡ length (cond some jdt xs)
long_as true jdt xs same = same refl
long_as false jdt xs same = refl

-- where the patches turn four files, they turn those that differ in .JDT alone, and not in its length
module _ (place : ℕ) (f o new : BaseFiles) (patches : List Patch) (is : f ≡ record o { jdt = f.jdt }) (long : length f.jdt ≡ length o.jdt) (turns : Turns place o new patches) (longer : Lengthens place o new patches) where
  swapped : (files : HostFiles) → files_of_place place files ≡ f → files_of_place place (with_jdt place o.jdt files) ≡ o
  swapped files e =
      let jhr : with_jdt place o.jdt files (jhr_file place) ≡ o.jhr = sym (others_stay place o.jdt files (jhr_file place) (λ same. omega (arith, same))) ∙ (ap (λ (x : BaseFiles). x.jhr) e ∙ ap (λ (x : BaseFiles). x.jhr) is) in
      let jdx : with_jdt place o.jdt files (jdx_file place) ≡ o.jdx = sym (others_stay place o.jdt files (jdx_file place) (λ same. omega (arith, same))) ∙ (ap (λ (x : BaseFiles). x.jdx) e ∙ ap (λ (x : BaseFiles). x.jdx) is) in
      let jlr : with_jdt place o.jdt files (jlr_file place) ≡ o.jlr = sym (others_stay place o.jdt files (jlr_file place) (λ same. omega (arith, same))) ∙ (ap (λ (x : BaseFiles). x.jlr) e ∙ ap (λ (x : BaseFiles). x.jlr) is) in
      let jdt = jdt_set place o.jdt files in
      λ i. record { jhr = jhr i; jdt = jdt i; jdx = jdx i; jlr = jlr i }

  alike : (files : HostFiles) → files_of_place place files ≡ f → Alike (jdt_file place) files (with_jdt place o.jdt files)
  alike files e =
      let here : length (files (jdt_file place)) ≡ length o.jdt = ap (λ (x : BaseFiles). length x.jdt) e ∙ long in
      record {
        same = others_stay place o.jdt files;
        long = λ k. long_as (k == jdt_file place) o.jdt (files k) (λ some. ap (λ (n : ℕ). length (files n)) (eqb-true k (jdt_file place) some) ∙ here);
      }

  turned : (files : HostFiles) → files_of_place place files ≡ f → files_of_place place (patched patches files) ≡ record new { jdt = f.jdt ++ drop (length o.jdt) new.jdt }
  turned files e =
      let both = all_alike patches (jdt_file place) files (with_jdt place o.jdt files) (alike files e) in
      let t = turns.base (with_jdt place o.jdt files) (swapped files e) in
      let jhr : patched patches files (jhr_file place) ≡ new.jhr = both.same (jhr_file place) (λ same. omega (arith, same)) ∙ ap (λ (x : BaseFiles). x.jhr) t in
      let jdx : patched patches files (jdx_file place) ≡ new.jdx = both.same (jdx_file place) (λ same. omega (arith, same)) ∙ ap (λ (x : BaseFiles). x.jdx) t in
      let jlr : patched patches files (jlr_file place) ≡ new.jlr = both.same (jlr_file place) (λ same. omega (arith, same)) ∙ ap (λ (x : BaseFiles). x.jlr) t in
      let here : length (files (jdt_file place)) ≡ length o.jdt = ap (λ (x : BaseFiles). length x.jdt) e ∙ long in
      let jdt : patched patches files (jdt_file place) ≡ f.jdt ++ drop (length o.jdt) new.jdt = longer.bodies files here ∙ ap (λ (x : BaseFiles). x.jdt ++ drop (length o.jdt) new.jdt) e in
      λ i. record { jhr = jhr i; jdt = jdt i; jdx = jdx i; jlr = jlr i }

  turns_alike : Turns place f (record new { jdt = f.jdt ++ drop (length o.jdt) new.jdt }) patches
  turns_alike = record {
    starts = λ files e. subst IsTrue (sym (within_alike patches (jdt_file place) files (with_jdt place o.jdt files) (alike files e))) (turns.starts (with_jdt place o.jdt files) (swapped files e));
    base = turned;
    others = turns.others;
  }

-- ---- bases with one outline
files_alike : (a b : Contents) → outlined a ≡ outlined b → files_in a ≡ record (files_in b) { jdt = (files_in a).jdt }
files_alike a b e =
    let one = files_outline a.shape a.conference in
    let other = files_outline b.shape b.conference in
    let jhr : (files_in a).jhr ≡ (files_in b).jhr = sym (ap (λ (f : BaseFiles). f.jhr) one) ∙ (ap (λ (k : Contents). (files_in k).jhr) e ∙ ap (λ (f : BaseFiles). f.jhr) other) in
    let jdx : (files_in a).jdx ≡ (files_in b).jdx = sym (ap (λ (f : BaseFiles). f.jdx) one) ∙ (ap (λ (k : Contents). (files_in k).jdx) e ∙ ap (λ (f : BaseFiles). f.jdx) other) in
    let jlr : (files_in a).jlr ≡ (files_in b).jlr = ap (λ (k : Contents). (files_in k).jlr) e in
    λ i. record { jhr = jhr i; jdt = (files_in a).jdt; jdx = jdx i; jlr = jlr i }

bodies_alike : (a b : Contents) → outlined a ≡ outlined b → length (files_in a).jdt ≡ length (files_in b).jdt
bodies_alike a b e = sym (jdt_outline a.shape a.conference) ∙ (ap (λ (k : Contents). length (files_in k).jdt) e ∙ jdt_outline b.shape b.conference)

-- What a change leads to shows in the outline, and it puts the same bytes at the end of .JDT, whatever the bodies are.
pub record IsBlind (old : Contents) (change other : Contents → Contents) (more : List ℕ) : Type 0 where
  pub outline : (base : Contents) → outlined base ≡ outlined old → outlined (change base) ≡ other (outlined base)
  pub bodies : (base : Contents) → outlined base ≡ outlined old → (files_in (change base)).jdt ≡ (files_in base).jdt ++ more

module _ (old : Contents) (change other : Contents → Contents) (more : List ℕ) (blind : IsBlind old change other more) where
  pub each : (patches : List Patch) → Turns old.shape.place (files_in old) (files_in (change old)) patches → Lengthens old.shape.place (files_in old) (files_in (change old)) patches → TurnsEach old change patches
  each patches turns longer = record {
    turns = λ base e.
        let next : outlined (change base) ≡ outlined (change old) = blind.outline base e ∙ (ap other e ∙ sym (blind.outline old refl)) in
        let behind : drop (length (files_in old).jdt) (files_in (change old)).jdt ≡ more = ap (drop (length (files_in old).jdt)) (blind.bodies old refl) ∙ drop-append_seam (files_in old).jdt more in
        let jdt : (files_in (change base)).jdt ≡ (files_in base).jdt ++ drop (length (files_in old).jdt) (files_in (change old)).jdt = blind.bodies base e ∙ ap (λ (xs : List ℕ). (files_in base).jdt ++ xs) (sym behind) in
        let new : files_in (change base) ≡ record (files_in (change old)) { jdt = (files_in base).jdt ++ drop (length (files_in old).jdt) (files_in (change old)).jdt } =
        files_alike (change base) (change old) next ∙ ap (λ (xs : List ℕ). record (files_in (change old)) { jdt = xs }) jdt in
        subst (λ (f : BaseFiles). Turns old.shape.place (files_in base) f patches) (sym new)
        (turns_alike old.shape.place (files_in base) (files_in old) (files_in (change old)) patches (files_alike base old e) (bodies_alike base old e) turns longer);
  }

  -- as a function answers
  pub turns_each : {E : Type 0} (made : Contents) (r : Result BaseChange E) → made ≡ change old → IfOk r (λ next. next.base ≡ made)
      → IfOk r (λ next. Turns old.shape.place (files_in old) (files_in next.base) next.patches) → IfOk r (λ next. Lengthens old.shape.place (files_in old) (files_in next.base) next.patches) → IfOk r (λ next. TurnsEach old change next.patches)
  turns_each made (Ok next) is base turns longer =
      each next.patches (subst (λ (k : Contents). Turns old.shape.place (files_in old) (files_in k) next.patches) (base ∙ is) turns)
      (subst (λ (k : Contents). Lengthens old.shape.place (files_in old) (files_in k) next.patches) (base ∙ is) longer)
  turns_each made (Err e) is base turns longer = tt
