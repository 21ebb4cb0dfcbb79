-- Whether each patch begins within its file, patch by patch.
use Rattle.std.proofs.Common.{◌≡◌, ◌≢◌, inl, inr, ℕ, suc, ◌+◌, ◌<◌, List, [], ◌∷◌, length, get_or, set, refl, sym, ◌∙◌, ap, subst, arith}
use Rattle.std.proofs.lemmas.List.{get_or-set_same, get_or-set_other, get_or-replicate, length-set, length-replicate}
use Rattle.std.proofs.lemmas.List.Elements.{All-head, All-tail}
use Rattle.std.proofs.lemmas.Bool.{cases_eq, cases_Bool, eq-eqb, and_parts, and_from, and_left, or_left, or_right, true≢false}
use Rattle.std.specs.Prelude.{All, Bool, true, false, not, ◌&&◌, ◌||◌, ◌==◌, nat_le, max, replicate, IsTrue, Some, None}
use Rattle.std.specs.List.{list_any}
use Rattle.door_outside.proofs.Disks.{unchanged_none, unchanged_twice}
use Rattle.door_outside.specs.Disk.{Disk, Unchanged}
use Rattle.intent_journal.specs.declared.patch.Patch.{Patch}
use Rattle.intent_journal.specs.Journal.{front, patch_by, patches_of}
use Rattle.intent_journal.specs.Patches.{HostFiles, file_of, is_whole, is_replaced, clash, is_once, apply, patched_file, begins_within, are_within}
use Rattle.intent_journal.specs.Spells.{IsFit}
use Rattle.intent_journal.proofs.Carried.{some_pair}
use Rattle.intent_journal.proofs.Front.{begins, file_by, nothing_left, whole_by}
use Rattle.intent_journal.proofs.Puts.{written_long}
use Rattle.intent_journal.proofs.Steps.{apply_here, apply_there, is_put_in, once_apart}

-- the files as the patches so far leave them, those of the patches to come by their lengths
pub record Lengths (patches todo : List Patch) (ends : List ℕ) (old : HostFiles) : Type 0 where
  pub files : HostFiles
  pub answer : are_within patches old ≡ are_within todo files
  pub lengths : (file : ℕ) → file < 258 → is_put_in file todo ≡ true → length (files file) ≡ max (length (old file)) (get_or ends file 0)

pub record Fitting (tells : Bool) (patches : List Patch) (n : ℕ) (text ends : List ℕ) (old now : Disk) : Type 0 where
  pub todo : List Patch
  pub reads : patches_of n text ≡ Some todo
  pub fit : All IsFit todo
  pub once : is_once todo ≡ true
  pub long : length ends ≡ 258
  pub unchanged : IsTrue tells → Unchanged old now
  pub so_far : IsTrue tells → Lengths patches todo ends old.files

pub fitting_start : (tells : Bool) (patches : List Patch) (n : ℕ) (text ends : List ℕ) (old : Disk) → patches_of n text ≡ Some patches → All IsFit patches → is_once patches ≡ true → ends ≡ replicate 258 0 → Fitting tells patches n text ends old old
fitting_start tells patches n text ends old reads fit once is = record {
  todo = patches;
  reads = reads;
  fit = fit;
  once = once;
  long = ap length is ∙ length-replicate {A = ℕ} 258 0;
  unchanged = λ t. unchanged_none old;
  so_far = λ t. record {
    files = old.files;
    answer = refl;
    lengths = λ file known put. omega (arith, ap (λ (l : List ℕ). get_or l file 0) is ∙ get_or-replicate 258 file 0 0 known);
  };
}

begins_by : (whole : Bool) (file at : ℕ) (bytes : List ℕ) (files : HostFiles) → begins_within (patch_by whole file at bytes) files ≡ (whole || nat_le at (length (files file)))
begins_by true file at bytes files = refl
begins_by false file at bytes files = refl

long_by : (whole : Bool) (file at : ℕ) (bytes old : List ℕ) → whole ≡ false → length (patched_file (patch_by whole file at bytes) old) ≡ max (length old) (at + length bytes)
long_by true file at bytes old put = absurd (true≢false put)
long_by false file at bytes old put = written_long old bytes at

or_same : (w b c : Bool) → (w ≡ false → b ≡ c) → (w || b) ≡ (w || c)
or_same true b c same = refl
or_same false b c same = same refl

-- one patch
module _ (patches rest : List Patch) (ends : List ℕ) (old : HostFiles) (whole : Bool) (file at : ℕ) (bytes : List ℕ) (once : is_once (patch_by whole file at bytes ∷ rest) ≡ true) (known : file < 258) (long : length ends ≡ 258)
    (so_far : Lengths patches (patch_by whole file at bytes ∷ rest) ends old) where
  abbrev patch : Patch
  patch = patch_by whole file at bytes

  put_first : whole ≡ false → is_put_in file (patch ∷ rest) ≡ true
  put_first put = or_left (not (is_whole patch) && file_of patch == file) (is_put_in file rest)
      (and_from (not (is_whole patch)) (file_of patch == file) (ap not (whole_by whole file at bytes ∙ put)) (eq-eqb (file_of patch) file (file_by whole file at bytes)))

  begins_there : begins_within patch so_far.files ≡ (whole || nat_le at (max (length (old file)) (get_or ends file 0)))
  begins_there = begins_by whole file at bytes so_far.files ∙ or_same whole _ _ (λ put. ap (nat_le at) (so_far.lengths file known (put_first put)))

  pub ends_past : (whole || nat_le at (max (length (old file)) (get_or ends file 0))) ≡ false → false ≡ are_within patches old
  ends_past past = sym (so_far.answer ∙ and_left (begins_within patch so_far.files) _ (begins_there ∙ past))

  put_here : (other : ℕ) → is_put_in other rest ≡ true → other ≡ file → whole ≡ false
  put_here other put is = elim (cases_Bool whole) [
    | inr no_whole ↦ no_whole
    | inl replaced ↦ absurd (once_apart (patch ∷ rest) file once
        (or_left (is_whole patch && file_of patch == file) (is_replaced file rest) (and_from (is_whole patch) (file_of patch == file) (whole_by whole file at bytes ∙ replaced) (eq-eqb (file_of patch) file (file_by whole file at bytes))))
        (or_right (not (is_whole patch) && file_of patch == file) (is_put_in file rest) (subst (λ (f : ℕ). is_put_in f rest ≡ true) is put)))
  ]

  next_length : (other : ℕ) → other < 258 → is_put_in other rest ≡ true → (end : ℕ) → end ≡ max (get_or ends file 0) (at + length bytes) → length (apply patch so_far.files other) ≡ max (length (old other)) (get_or (set ends file end) other 0)
  next_length other below put end end_is = elim (cases_eq other file) [
    | inl is ↦
        let no_whole = put_here other put is in
        let same : other ≡ file_of patch = is ∙ sym (file_by whole file at bytes) in
        let now : length (apply patch so_far.files other) ≡ max (length (so_far.files other)) (at + length bytes) = ap length (apply_here patch so_far.files other same) ∙ long_by whole file at bytes (so_far.files other) no_whole in
        let before : length (so_far.files other) ≡ max (length (old other)) (get_or ends file 0) = so_far.lengths other below (or_right (not (is_whole patch) && file_of patch == other) (is_put_in other rest) put) ∙ ap (λ (f : ℕ). max (length (old other)) (get_or ends f 0)) is in
        let there : get_or (set ends file end) other 0 ≡ end = ap (λ (f : ℕ). get_or (set ends file end) f 0) is ∙ get_or-set_same ends file end 0 (omega (arith, known, long)) in
        omega (arith, now, before, there, end_is)
    | inr ne ↦
        let apart : other ≢ file_of patch = λ is. ne (is ∙ file_by whole file at bytes) in
        ap length (apply_there patch so_far.files other apart) ∙ so_far.lengths other below (or_right (not (is_whole patch) && file_of patch == other) (is_put_in other rest) put)
        ∙ ap (λ (e : ℕ). max (length (old other)) e) (sym (get_or-set_other ends file other end 0 ne))
  ]

  pub lengths_on : (whole || nat_le at (max (length (old file)) (get_or ends file 0))) ≡ true → (end : ℕ) → end ≡ max (get_or ends file 0) (at + length bytes) → Lengths patches rest (set ends file end) old
  lengths_on within end end_is = record {
    files = apply patch so_far.files;
    answer = so_far.answer ∙ ap (λ (b : Bool). b && are_within rest (apply patch so_far.files)) (begins_there ∙ within);
    lengths = λ other below put. next_length other below put end end_is;
  }

module _ (tells : Bool) (patches : List Patch) (m n : ℕ) (text ends : List ℕ) (old mid : Disk) (one_more : m ≡ suc n) (so_far : Fitting tells patches m text ends old mid) where
  reads_more : patches_of (suc n) text ≡ Some so_far.todo
  reads_more = subst (λ (k : ℕ). patches_of k text ≡ Some so_far.todo) one_more so_far.reads

  pub fitting_there : front text ≡ None → ⊥
  fitting_there none = let b = begins n text so_far.todo reads_more in absurd (cc (none, b.at_front))

  module _ (whole : Bool) (file at : ℕ) (bytes after : List ℕ) (at_front : front text ≡ Some (patch_by whole file at bytes, after)) where
    -- the patches to come
    record Coming : Type 0 where
      rest : List Patch
      todo_is : so_far.todo ≡ patch_by whole file at bytes ∷ rest
      reads : patches_of n after ≡ Some rest

    coming : Coming
    coming =
        let b = begins n text so_far.todo reads_more in
        let parts = some_pair (b.first, b.after) (patch_by whole file at bytes, after) (sym b.at_front ∙ at_front) in
        record { rest = b.rest; todo_is = b.split ∙ ap (λ q. q ∷ b.rest) parts.0; reads = ap (patches_of n) (sym parts.1) ∙ b.goes_on }

    once_there : is_once (patch_by whole file at bytes ∷ coming.rest) ≡ true
    once_there = subst (λ (l : List Patch). is_once l ≡ true) coming.todo_is so_far.once

    fit_there : All IsFit (patch_by whole file at bytes ∷ coming.rest)
    fit_there = subst (All IsFit) coming.todo_is so_far.fit

    file_known : file < 258
    file_known = subst (λ (f : ℕ). f < 258) (file_by whole file at bytes) (All-head IsFit (patch_by whole file at bytes) coming.rest fit_there).known

    lengths_there : IsTrue tells → Lengths patches (patch_by whole file at bytes ∷ coming.rest) ends old.files
    lengths_there t = subst (λ (l : List Patch). Lengths patches l ends old.files) coming.todo_is (so_far.so_far t)

    -- what was answered of the disk as it is now
    module _ (place : ℕ) (place_is : place ≡ file) (yes : Bool) (told : IsTrue tells → yes ≡ (whole || nat_le at (max (length (mid.files file)) (get_or ends place 0)))) where
      told_of_old : IsTrue tells → yes ≡ (whole || nat_le at (max (length (old.files file)) (get_or ends file 0)))
      told_of_old t = told t ∙ (λ i. whole || nat_le at (max (length ((so_far.unchanged t).files i file)) (get_or ends (place_is i) 0)))

      pub fitting_past : yes ≡ false → IsTrue tells → false ≡ are_within patches old.files
      fitting_past past t = ends_past patches coming.rest ends old.files whole file at bytes once_there file_known so_far.long (lengths_there t) (sym (told_of_old t) ∙ past)

      pub fitting_on : yes ≡ true → (new : Disk) → (IsTrue tells → Unchanged mid new) → (end : ℕ) → end ≡ max (get_or ends place 0) (at + length bytes) → Fitting tells patches n after (set ends place end) old new
      fitting_on within new same end end_is = record {
        todo = coming.rest;
        reads = coming.reads;
        fit = All-tail IsFit (patch_by whole file at bytes) coming.rest fit_there;
        once = (and_parts (not (list_any (clash (patch_by whole file at bytes)) coming.rest)) (is_once coming.rest) once_there).1;
        long = length-set ends place end ∙ so_far.long;
        unchanged = λ t. unchanged_twice old mid new (so_far.unchanged t) (same t);
        so_far = λ t.
            let there = lengths_on patches coming.rest ends old.files whole file at bytes once_there file_known so_far.long (lengths_there t) (sym (told_of_old t) ∙ within) end (end_is ∙ ap (λ (k : ℕ). max (get_or ends k 0) (at + length bytes)) place_is) in
            subst (λ (k : ℕ). Lengths patches coming.rest (set ends k end) old.files) (sym place_is) there;
      }

pub fitting_end : (tells : Bool) (patches : List Patch) (n : ℕ) (text ends : List ℕ) (old now : Disk) → n ≡ 0 → Fitting tells patches n text ends old now → IsTrue tells → true ≡ are_within patches old.files
fitting_end tells patches n text ends old now none so_far t =
    let empty : so_far.todo ≡ [] = nothing_left text so_far.todo (subst (λ (k : ℕ). patches_of k text ≡ Some so_far.todo) none so_far.reads) in
    sym ((so_far.so_far t).answer ∙ ap (λ (l : List Patch). are_within l (so_far.so_far t).files) empty)
