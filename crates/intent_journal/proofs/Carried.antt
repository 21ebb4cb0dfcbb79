-- The patches are being written, one after the other.
use Rattle.std.proofs.Common.{◌≡◌, ◌≢◌, inl, inr, ℕ, suc, ◌+◌, ◌≤◌, List, [], ◌∷◌, ◌++◌, sym, ◌∙◌, ap, subst, append_assoc, length, arith}
use Rattle.std.specs.Prelude.{All, Bool, true, IsTrue, Some, None}
use Rattle.std.proofs.lemmas.Bool.{cases_eq}
use Rattle.std.proofs.lemmas.List.Sums.{sum_by-cons}
use Rattle.door_outside.specs.Disk.{Disk, Image, AllNow, Between, Passes, InFile, HoldsBytes, Reached, as_read}
use Rattle.door_outside.proofs.Moments.{joined, by_call, now_by}
use Rattle.intent_journal.proofs.Steps.{apply_here, apply_there, part_hidden, part_within, same_files}
use Rattle.intent_journal.specs.Journal.{front, patch_by, patches_of}
use Rattle.intent_journal.specs.Patches.{HostFiles, file_of, bytes_of, byte_count, is_once, patched_file, apply, patched, data_files}
use Rattle.intent_journal.specs.Spells.{IsFit}
use Rattle.intent_journal.specs.Steps.{Stands, Partly}
use Rattle.intent_journal.specs.declared.patch.Patch.{Patch}
use Rattle.intent_journal.proofs.Front.{begins, bytes_by, file_by, nothing_left, fit_at}

-- every image stands for the outcome, and the patches that are left make it of the files as read
pub record Reach (patches todo : List Patch) (old now : Disk) : Type 0 where
  pub since : Between old now (Stands patches (as_read old))
  pub stands : AllNow now (Stands patches (as_read old))
  pub left : data_files (patched todo now.files) ≡ data_files (patched patches old.files)
  pub wrote : now.wrote + byte_count todo ≤ old.wrote + byte_count patches

count_more : (p : Patch) (rest : List Patch) → byte_count (p ∷ rest) ≡ length (bytes_of p) + byte_count rest
count_more p rest = sum_by-cons (λ q. length (bytes_of q)) p rest

-- so many patches are left in this text
pub record Carrying (tells : Bool) (patches : List Patch) (n : ℕ) (text : List ℕ) (old now : Disk) : Type 0 where
  pub done : List Patch
  pub todo : List Patch
  pub split : patches ≡ done ++ todo
  pub reads : patches_of n text ≡ Some todo
  pub reach : IsTrue tells → Reach patches todo old now

-- a part of a patch keeps the outcome
pub stands_on : (done : List Patch) (p : Patch) (rest : List Patch) (goal before image : Image) → is_once (done ++ p ∷ rest) ≡ true → file_of p ≢ 1 → Stands (done ++ p ∷ rest) goal before → InFile (file_of p) (Partly p) before image
    → Stands (done ++ p ∷ rest) goal image
stands_on done p rest goal before image once no_journal stands step = record {
  said = step.said ∙ stands.said;
  journal = step.others 1 (λ is. no_journal (sym is)) ∙ stands.journal;
  within = part_within done rest p before.files image.files once stands.within step.changed step.others;
  result = ap data_files (part_hidden done rest p before.files image.files once stands.within step.changed step.others) ∙ stands.result;
}

module _ (tells : Bool) (n : ℕ) (text : List ℕ) (old mid new : Disk) where
  -- in the middle of a patch, or where it failed
  pub carry_stops : (done rest : List Patch) (p : Patch) → All IsFit (done ++ p ∷ rest) → is_once (done ++ p ∷ rest) ≡ true → Reach (done ++ p ∷ rest) (p ∷ rest) old mid → Passes (InFile (file_of p) (Partly p)) (InFile (file_of p) (Partly p)) mid new
      → Between old new (Stands (done ++ p ∷ rest) (as_read old)) × AllNow new (Stands (done ++ p ∷ rest) (as_read old))
  carry_stops done rest p all_fit once reach call =
      let fit = fit_at done rest p all_fit in
      let after : (image : Image) → Reached (InFile (file_of p) (Partly p)) mid image → Stands (done ++ p ∷ rest) (as_read old) image =
      λ image from. stands_on done p rest (as_read old) from.0 image once fit.no_journal (reach.stands from.0 from.1) from.2 in
      (joined reach.since (by_call call after), now_by call after)

  -- the files as read have one patch more
  patch_done : (p : Patch) → HoldsBytes (file_of p) (patched_file p (mid.files (file_of p))) mid.files new.files → new.files ≡ apply p mid.files
  patch_done p holds = same_files new.files (apply p mid.files) (λ file. elim (cases_eq file (file_of p)) [
    | inl is ↦ ap new.files is ∙ holds.holds ∙ sym (ap (λ (f : ℕ). patched_file p (mid.files f)) is) ∙ sym (apply_here p mid.files file is)
    | inr ne ↦ holds.others file ne ∙ sym (apply_there p mid.files file ne)
  ])

  pub carry_goes_on : (done rest : List Patch) (p : Patch) → All IsFit (done ++ p ∷ rest) → is_once (done ++ p ∷ rest) ≡ true → Reach (done ++ p ∷ rest) (p ∷ rest) old mid → Passes (InFile (file_of p) (Partly p)) (InFile (file_of p) (Partly p)) mid new
      → HoldsBytes (file_of p) (patched_file p (mid.files (file_of p))) mid.files new.files → new.wrote ≤ mid.wrote + length (bytes_of p) → Reach (done ++ p ∷ rest) rest old new
  carry_goes_on done rest p all_fit once reach call holds wrote =
      let both = carry_stops done rest p all_fit once reach call in
      record {
        since = both.0;
        stands = both.1;
        left = ap (λ (f : HostFiles). data_files (patched rest f)) (patch_done p holds) ∙ reach.left;
        wrote = omega (arith, wrote, reach.wrote, count_more p rest);
      }

-- what holds at a patch
pub record Next (tells : Bool) (patches : List Patch) (n : ℕ) (old mid : Disk) (p : Patch) (after : List ℕ) : Type 1 where
  pub fit : IsFit p
  pub stops : (new : Disk) → (IsTrue tells → Passes (InFile (file_of p) (Partly p)) (InFile (file_of p) (Partly p)) mid new) → IsTrue tells
      → Between old new (Stands patches (as_read old)) × AllNow new (Stands patches (as_read old))
  pub wrote : (new : Disk) → (IsTrue tells → new.wrote ≤ mid.wrote + length (bytes_of p)) → IsTrue tells → new.wrote ≤ old.wrote + byte_count patches
  pub goes_on : (new : Disk) → (IsTrue tells → Passes (InFile (file_of p) (Partly p)) (InFile (file_of p) (Partly p)) mid new)
      → (IsTrue tells → HoldsBytes (file_of p) (patched_file p (mid.files (file_of p))) mid.files new.files) → (IsTrue tells → new.wrote ≤ mid.wrote + length (bytes_of p)) → Carrying tells patches n after old new

pub some_pair : (a c : Patch × List ℕ) → Some a ≡ Some c → (a.0 ≡ c.0) × (a.1 ≡ c.1)
some_pair a c is = let same : a ≡ c = cc in (ap (λ (x : Patch × List ℕ). x.0) same, ap (λ (x : Patch × List ℕ). x.1) same)

module _ (tells : Bool) (patches : List Patch) (n : ℕ) (text : List ℕ) (old mid : Disk) where
  next_of : (p : Patch) (after : List ℕ) (done rest : List Patch) → patches ≡ done ++ p ∷ rest → All IsFit (done ++ p ∷ rest) → is_once (done ++ p ∷ rest) ≡ true → patches_of n after ≡ Some rest
      → (IsTrue tells → Reach (done ++ p ∷ rest) (p ∷ rest) old mid) → Next tells (done ++ p ∷ rest) n old mid p after
  next_of p after done rest split all_fit once reads reach = record {
    fit = fit_at done rest p all_fit;
    stops = λ new call t. carry_stops tells n text old mid new done rest p all_fit once (reach t) (call t);
    wrote = λ new wrote t. omega (arith, wrote t, (reach t).wrote, count_more p rest);
    goes_on = λ new call holds wrote. record {
      done = done ++ p ∷ [];
      todo = rest;
      split = sym (append_assoc done (p ∷ []) rest);
      reads = reads;
      reach = λ t. carry_goes_on tells n text old mid new done rest p all_fit once (reach t) (call t) (holds t) (wrote t);
    };
  }

  pub next : Carrying tells patches (suc n) text old mid → All IsFit patches → is_once patches ≡ true → (p : Patch) (after : List ℕ) → front text ≡ Some (p, after) → Next tells patches n old mid p after
  next carrying all_fit once p after at_front =
      let b = begins n text carrying.todo carrying.reads in
      let parts = some_pair (b.first, b.after) (p, after) (sym b.at_front ∙ at_front) in
      let todo_is : carrying.todo ≡ p ∷ b.rest = b.split ∙ ap (λ q. q ∷ b.rest) parts.0 in
      let split : patches ≡ carrying.done ++ p ∷ b.rest = carrying.split ∙ ap (λ todo. carrying.done ++ todo) todo_is in
      let reads : patches_of n after ≡ Some b.rest = ap (patches_of n) (sym parts.1) ∙ b.goes_on in
      let reach : IsTrue tells → Reach (carrying.done ++ p ∷ b.rest) (p ∷ b.rest) old mid =
      λ t. subst (λ all. Reach all (p ∷ b.rest) old mid) split (subst (λ todo. Reach patches todo old mid) todo_is (carrying.reach t)) in
      subst (λ all. Next tells all n old mid p after) (sym split) (next_of p after carrying.done b.rest split (subst (All IsFit) split all_fit) (subst (λ all. is_once all ≡ true) split once) reads reach)

  -- a text of patches has one at its front
  pub next_there : Carrying tells patches (suc n) text old mid → front text ≡ None → ⊥
  next_there carrying none = let b = begins n text carrying.todo carrying.reads in absurd (cc (none, b.at_front))

-- where none is left
pub carried : (tells : Bool) (patches : List Patch) (text : List ℕ) (old now : Disk) → Carrying tells patches 0 text old now → IsTrue tells → data_files now.files ≡ data_files (patched patches old.files)
carried tells patches text old now carrying t =
    let none : carrying.todo ≡ [] = nothing_left text carrying.todo carrying.reads in
    subst (λ todo. data_files (patched todo now.files) ≡ data_files (patched patches old.files)) none (carrying.reach t).left

module _ (tells : Bool) (patches : List Patch) (m n : ℕ) (text : List ℕ) (old mid : Disk) (one_more : m ≡ suc n) (carrying : Carrying tells patches m text old mid) where
  pub next_at : All IsFit patches → is_once patches ≡ true → (p : Patch) (after : List ℕ) → front text ≡ Some (p, after) → Next tells patches n old mid p after
  next_at all_fit once p after at_front = next tells patches n text old mid (subst (λ k. Carrying tells patches k text old mid) one_more carrying) all_fit once p after at_front

  pub there_at : front text ≡ None → ⊥
  there_at none = next_there tells patches n text old mid (subst (λ k. Carrying tells patches k text old mid) one_more carrying) none

pub carried_wrote : (tells : Bool) (patches : List Patch) (n : ℕ) (text : List ℕ) (old now : Disk) → Carrying tells patches n text old now → IsTrue tells → now.wrote ≤ old.wrote + byte_count patches
carried_wrote tells patches n text old now carrying t = omega (arith, (carrying.reach t).wrote)

-- the same with the parts of the patch as they were read
module _ (tells : Bool) (patches : List Patch) (m n : ℕ) (text : List ℕ) (old mid : Disk) (one_more : m ≡ suc n) (carrying : Carrying tells patches m text old mid) (all_fit : All IsFit patches) (once : is_once patches ≡ true)
    (whole : Bool) (number at : ℕ) (bytes after : List ℕ) (at_front : front text ≡ Some (patch_by whole number at bytes, after)) where
  abbrev patch : Patch
  patch = patch_by whole number at bytes

  next_here : Next tells patches n old mid patch after
  next_here = next_at tells patches m n text old mid one_more carrying all_fit once patch after at_front

  module _ (new : Disk) (call : IsTrue tells → Passes (InFile number (Partly patch)) (InFile number (Partly patch)) mid new) where
    same : number ≡ file_of patch
    same = sym (file_by whole number at bytes)

    called : IsTrue tells → Passes (InFile (file_of patch) (Partly patch)) (InFile (file_of patch) (Partly patch)) mid new
    called = subst (λ (f : ℕ). IsTrue tells → Passes (InFile f (Partly patch)) (InFile f (Partly patch)) mid new) same call

    pub stops_here : IsTrue tells → Between old new (Stands patches (as_read old)) × AllNow new (Stands patches (as_read old))
    stops_here = next_here.stops new called

    module _ (wrote : IsTrue tells → new.wrote ≤ mid.wrote + length bytes) where
      wrote_of : IsTrue tells → new.wrote ≤ mid.wrote + length (bytes_of patch)
      wrote_of t = omega (arith, wrote t, ap length (bytes_by whole number at bytes))

      pub wrote_here : IsTrue tells → new.wrote ≤ old.wrote + byte_count patches
      wrote_here = next_here.wrote new wrote_of

      pub goes_on_here : (IsTrue tells → HoldsBytes number (patched_file patch (mid.files number)) mid.files new.files) → Carrying tells patches n after old new
      goes_on_here holds = next_here.goes_on new called (subst (λ (f : ℕ). IsTrue tells → HoldsBytes f (patched_file patch (mid.files f)) mid.files new.files) same holds) wrote_of
