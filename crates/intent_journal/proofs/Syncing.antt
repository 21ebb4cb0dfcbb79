-- The files of patches are made durable, each by one sync.
use Rattle.std.proofs.Common.{◌≡◌, ◌≢◌, inl, inr, ℕ, suc, ◌+◌, ◌-◌, List, [], ◌∷◌, ◌++◌, length, take, drop, refl, sym, ◌∙◌, ap, subst, arith}
use Rattle.std.proofs.lemmas.Bool.{cases_Bool, eqb-true, eq-eqb, or_cases, or_parts, true≢false}
use Rattle.std.proofs.lemmas.List.{take_at}
use Rattle.std.specs.Prelude.{Bool, true, false, ◌||◌, ◌==◌, replicate, IsTrue, Some, None}
use Rattle.door_outside.specs.Disk.{Disk, Image, AllNow, HoldsBytes, as_read, written}
use Rattle.door_outside.proofs.Moments.{now_same, passed_twice}
use Rattle.intent_journal.proofs.Carried.{some_pair}
use Rattle.intent_journal.proofs.DataFiles.{data_each, from_data}
use Rattle.intent_journal.proofs.Front.{begins, nothing_left}
use Rattle.intent_journal.proofs.Steps.{apply_there}
use Rattle.intent_journal.specs.declared.patch.Patch.{Patch}
use Rattle.intent_journal.specs.Journal.{Marks, front, patches_of}
use Rattle.intent_journal.specs.Patches.{HostFiles, apply, data_files, file_of, is_touched, patched}
use Rattle.intent_journal.specs.Steps.{AreDurable, OnlySynced, Stands}

-- no sync and a sync
pub none_synced : (disk : Disk) → OnlySynced disk disk
none_synced disk = record {
  call = record { later = omega arith; now = λ image left. (image, left, refl); since = λ t image le left. inl left; keeps = λ t image le left. left };
  same = refl;
  wrote = refl;
}

pub synced_twice : (old mid new : Disk) → OnlySynced old mid → OnlySynced mid new → OnlySynced old new
synced_twice old mid new first second = record {
  call = passed_twice first.call second.call (λ before image same. same) (λ before between image one two. two ∙ one);
  same = second.same ∙ first.same;
  wrote = second.wrote ∙ first.wrote;
}

-- a durable file stays so
pub stays_durable : (old new : Disk) (file : ℕ) → OnlySynced old new → AllNow old (λ image. image.files file ≡ old.files file) → AllNow new (λ image. image.files file ≡ new.files file)
stays_durable old new file only durable image left = now_same only.call durable image left ∙ sym (ap (λ (i : Image). i.files file) only.same)

-- the files of the patches so far are durable
pub record Syncing (tells : Bool) (patches : List Patch) (n : ℕ) (text : List ℕ) (touched replaced : List Bool) (old now : Disk) : Type 0 where
  pub done : List Patch
  pub todo : List Patch
  pub reads : patches_of n text ≡ Some todo
  pub all : (file : ℕ) → is_touched file patches ≡ (is_touched file done || is_touched file todo)
  pub marks : Marks touched replaced done
  pub only : IsTrue tells → OnlySynced old now
  pub durable : IsTrue tells → AreDurable done now

pub sync_start : (tells : Bool) (patches : List Patch) (n : ℕ) (text : List ℕ) (touched replaced : List Bool) (old : Disk) → patches_of n text ≡ Some patches → Marks touched replaced [] → Syncing tells patches n text touched replaced old old
sync_start tells patches n text touched replaced old reads marks = record {
  done = [];
  todo = patches;
  reads = reads;
  all = λ file. refl;
  marks = marks;
  only = λ t. none_synced old;
  durable = λ t file none. absurd (true≢false (sym none));
}

moved : (a b c : Bool) → (a || (b || c)) ≡ ((b || a) || c)
moved true true c = refl
moved true false c = refl
moved false true c = refl
moved false false c = refl

module _ (tells : Bool) (patches : List Patch) (m n : ℕ) (text : List ℕ) (touched replaced : List Bool) (old mid : Disk) (one_more : m ≡ suc n) (syncing : Syncing tells patches m text touched replaced old mid) where
  reads_more : patches_of (suc n) text ≡ Some syncing.todo
  reads_more = ap (λ k. patches_of k text) (sym one_more) ∙ syncing.reads

  pub sync_there : front text ≡ None → ⊥
  sync_there none = let b = begins n text syncing.todo reads_more in absurd (cc (none, b.at_front))

  module _ (p : Patch) (after : List ℕ) (at_front : front text ≡ Some (p, after)) (touched' replaced' : List Bool) (marks' : Marks touched' replaced' (p ∷ syncing.done)) (new : Disk) (only : IsTrue tells → OnlySynced mid new) where
    pub sync_on : (is_durable : Bool) → is_durable ≡ is_touched (file_of p) syncing.done → (IsTrue tells → is_durable ≡ false → AllNow new (λ image. image.files (file_of p) ≡ new.files (file_of p))) → Syncing tells patches n after touched' replaced' old new
    sync_on is_durable flag synced =
        let b = begins n text syncing.todo reads_more in
        let parts = some_pair (b.first, b.after) (p, after) (sym b.at_front ∙ at_front) in
        let todo_is : syncing.todo ≡ p ∷ b.rest = b.split ∙ ap (λ q. q ∷ b.rest) parts.0 in
        let so_far : (file : ℕ) → is_touched file syncing.done ≡ true → IsTrue tells → AllNow new (λ image. image.files file ≡ new.files file) =
        λ file there t. stays_durable mid new file (only t) (syncing.durable t file there) in
        record {
          done = p ∷ syncing.done;
          todo = b.rest;
          reads = ap (patches_of n) (sym parts.1) ∙ b.goes_on;
          all = λ file. syncing.all file ∙ ap (λ (todo : List Patch). is_touched file syncing.done || is_touched file todo) todo_is ∙ moved (is_touched file syncing.done) (file_of p == file) (is_touched file b.rest);
          marks = marks';
          only = λ t. synced_twice old mid new (syncing.only t) (only t);
          durable = λ t file there. elim (cases_Bool (is_touched file syncing.done)) [
            | inl before ↦ so_far file before t
            | inr not_yet ↦ elim (or_cases (file_of p == file) (is_touched file syncing.done) there) [
              | inl here ↦
                  let is : file_of p ≡ file = eqb-true (file_of p) file here in
                  subst (λ (f : ℕ). AllNow new (λ image. image.files f ≡ new.files f)) is (synced t (flag ∙ ap (λ (f : ℕ). is_touched f syncing.done) is ∙ not_yet))
              | inr before ↦ absurd (true≢false (sym before ∙ not_yet))
            ]
          ];
        }

pub sync_end : (tells : Bool) (patches : List Patch) (n : ℕ) (text : List ℕ) (touched replaced : List Bool) (old now : Disk) → n ≡ 0 → Syncing tells patches n text touched replaced old now → IsTrue tells → AreDurable patches now
sync_end tells patches n text touched replaced old now none syncing t file there =
    let todo : syncing.todo ≡ [] = nothing_left text syncing.todo (ap (λ k. patches_of k text) (sym none) ∙ syncing.reads) in
    let is : is_touched file patches ≡ (is_touched file syncing.done || false) = syncing.all file ∙ ap (λ (l : List Patch). is_touched file syncing.done || is_touched file l) todo in
    elim (or_cases (is_touched file syncing.done) false (sym is ∙ there)) [
      | inl done ↦ syncing.durable t file done
      | inr nothing ↦ absurd (true≢false (sym nothing))
    ]

-- patches leave other files
untouched : (patches : List Patch) (file : ℕ) (files : HostFiles) → is_touched file patches ≡ false → patched patches files file ≡ files file
untouched [] file files none = refl
untouched (p ∷ patches) file files none =
    let parts = or_parts (file_of p == file) (is_touched file patches) none in
    let ne : file ≢ file_of p = λ is. true≢false (sym (eq-eqb (file_of p) file (sym is)) ∙ parts.0) in
    untouched patches file (apply p files) parts.1 ∙ apply_there p files file ne

-- where the files read as patched and those of the patches are durable, every image has the data files as patched
pub all_durable : (patches : List Patch) (old mid new : Disk) → AllNow mid (Stands patches (as_read old)) → data_files mid.files ≡ data_files (patched patches old.files) → OnlySynced mid new → AreDurable patches new
    → AllNow new (λ image. data_files image.files ≡ data_files (patched patches old.files))
all_durable patches old mid new stands done only durable image left = data_each _ _ (λ file is_data. elim (cases_Bool (is_touched file patches)) [
  | inl there ↦ durable file there image left ∙ ap (λ (i : Image). i.files file) only.same ∙ from_data _ _ done file is_data
  | inr other ↦ sym (untouched patches file image.files other) ∙ from_data _ _ (now_same only.call stands image left).result file is_data
])

-- a file's bytes are written, and what is behind them is cut off
whole_there : (old bytes : List ℕ) → take (length bytes) (written old 0 bytes) ≡ bytes
whole_there old bytes = let none : 0 - length old ≡ 0 = omega arith in ap (take (length bytes)) (λ i. (replicate (none i) 0 ++ bytes) ++ drop (0 + length bytes) old) ∙ take_at bytes (drop (0 + length bytes) old) (length bytes) refl

pub whole_written : (file n : ℕ) (bytes : List ℕ) (old mid new : HostFiles) → n ≡ length bytes → HoldsBytes file (written (old file) 0 bytes) old mid → HoldsBytes file (take n (mid file)) mid new → HoldsBytes file bytes old new
whole_written file n bytes old mid new n_is first second = record {
  holds = second.holds ∙ (λ i. take (n_is i) (first.holds i)) ∙ whole_there (old file) bytes;
  others = λ other ne. second.others other ne ∙ first.others other ne;
}
