-- Files whose journal and data files are the same, whatever stands at other numbers.
use Rattle.std.proofs.Common.{◌≡◌, ◌≢◌, inl, inr, ℕ, ◌≤◌, List, [], ◌∷◌, length, refl, sym, ◌∙◌, ap, subst, arith}
use Rattle.std.proofs.lemmas.Bool.{cases_Bool, eq-eqb, ne_eqb, eqb-true, lt-ltb, and_parts, and_from, or_cases, not-true, true≢false, cond-true}
use Rattle.std.proofs.lemmas.List.Elements.{All-head, All-tail}
use Rattle.std.specs.Prelude.{All, Bool, true, false, not, ◌&&◌, ◌==◌, nat_lt, if◌then◌else◌, Option, Some, None, unwrap_or}
use Rattle.door_outside.specs.Disk.{Disk, AllNow, Unchanged}
use Rattle.door_outside.specs.File.{is_data_file}
use Rattle.door_outside.proofs.Moments.{now_unchanged}
use Rattle.intent_journal.specs.declared.patch.Patch.{Patch}
use Rattle.intent_journal.specs.Journal.{body_patches, intent_of, open_patches}
use Rattle.intent_journal.specs.Patches.{HostFiles, SameFiles, file_of, is_whole, is_once, are_within, patched, data_files}
use Rattle.intent_journal.specs.Recovered.{recovered}
use Rattle.intent_journal.specs.Spells.{IsFit}
use Rattle.intent_journal.proofs.Front.{reads_fit}
use Rattle.intent_journal.proofs.Grammar.{parts_of}
use Rattle.intent_journal.proofs.Steps.{choice, is_put_in, patched_local, same_files, within_longer, within_outcome}

pub data_each : (a b : HostFiles) → ((file : ℕ) → is_data_file file ≡ true → a file ≡ b file) → data_files a ≡ data_files b
data_each a b each = same_files _ _ (λ file. choice (is_data_file file) _ _ _ _ (each file) (λ none. refl))

pub from_data : (a b : HostFiles) → data_files a ≡ data_files b → (file : ℕ) → is_data_file file ≡ true → a file ≡ b file
from_data a b same file is = sym (cond-true (is_data_file file) _ _ is) ∙ ap (λ (f : HostFiles). f file) same ∙ cond-true (is_data_file file) _ _ is

-- the journal is no data file
pub data_same : (a b : HostFiles) → ((other : ℕ) → other ≢ 1 → a other ≡ b other) → data_files a ≡ data_files b
data_same a b same = data_each a b (λ file is. same file (λ one. true≢false (sym (eq-eqb file 1 one) ∙ not-true (file == 1) (and_parts (nat_lt file 258) (not (file == 1)) is).1)))

pub data_patched : (patches : List Patch) (a b : HostFiles) → data_files a ≡ data_files b → data_files (patched patches a) ≡ data_files (patched patches b)
data_patched patches a b same = data_each _ _ (λ file is. patched_local patches file a b (from_data a b same file is))

-- each patch is of a data file
fit_data : (p : Patch) → IsFit p → is_data_file (file_of p) ≡ true
fit_data p fit = and_from (nat_lt (file_of p) 258) (not (file_of p == 1)) (lt-ltb (file_of p) 258 fit.known) (ap not (ne_eqb (file_of p) 1 fit.no_journal))

puts_in_data : (patches : List Patch) → All IsFit patches → (file : ℕ) → is_put_in file patches ≡ true → is_data_file file ≡ true
puts_in_data [] fit file put = absurd (true≢false (sym put))
puts_in_data (p ∷ patches) fit file put = elim (or_cases (not (is_whole p) && file_of p == file) (is_put_in file patches) put) [
  | inl here ↦ subst (λ (f : ℕ). is_data_file f ≡ true) (eqb-true (file_of p) file (and_parts (not (is_whole p)) (file_of p == file) here).1) (fit_data p (All-head IsFit p patches fit))
  | inr later ↦ puts_in_data patches (All-tail IsFit p patches fit) file later
]

-- where the data files are the same, the patches begin within them as before
pub within_same : (patches : List Patch) (a b : HostFiles) → All IsFit patches → data_files a ≡ data_files b → are_within patches a ≡ true → are_within patches b ≡ true
within_same patches a b fit same within =
    within_longer patches a b within (λ file put. subst (λ (l : List ℕ). length (a file) ≤ length l) (from_data a b same file (puts_in_data patches fit file put)) (omega arith))

-- and within their outcome
pub within_data : (patches : List Patch) (a b : HostFiles) → All IsFit patches → is_once patches ≡ true → are_within patches a ≡ true → data_files b ≡ data_files (patched patches a) → are_within patches b ≡ true
within_data patches a b fit once within same = within_outcome patches a b once within (λ file put. from_data b (patched patches a) same file (puts_in_data patches fit file put))

within_equal : (patches : List Patch) (a b : HostFiles) → All IsFit patches → data_files a ≡ data_files b → are_within patches a ≡ are_within patches b
within_equal patches a b fit same = elim (cases_Bool (are_within patches a)) [
  | inl fits ↦ fits ∙ sym (within_same patches a b fit same fits)
  | inr past ↦ elim (cases_Bool (are_within patches b)) [
    | inl too ↦ absurd (true≢false (sym (within_same patches b a fit (sym same) too) ∙ past))
    | inr past_too ↦ past ∙ sym past_too
  ]
]

-- the patches behind an open gate may stand there, and no two clash
pub record IsSound (patches : List Patch) : Type 0 where
  pub fit : All IsFit patches
  pub once : is_once patches ≡ true

none_sound : IsSound []
none_sound = record { fit = λ k d within. absurd (omega arith); once = refl }

sound_by : (o : Option (List Patch)) (journal : List ℕ) → body_patches journal ≡ o → IsSound (unwrap_or o [])
sound_by None journal is = none_sound
sound_by (Some patches) journal is = let reads = parts_of journal patches is in record { fit = (reads_fit _ _ patches reads.text).0; once = reads.once }

sound_if : (b : Bool) (patches : List Patch) → IsSound patches → IsSound (if b then patches else [])
sound_if true patches sound = sound
sound_if false patches sound = none_sound

pub sound : (journal : List ℕ) → IsSound (open_patches journal)
sound [] = none_sound
sound (gate ∷ body) = sound_if (gate == 79) (unwrap_or (body_patches (gate ∷ body)) []) (sound_by (body_patches (gate ∷ body)) (gate ∷ body) refl)

-- they hold the same intent, and recover to the same
pub intent_same : (a b : HostFiles) → SameFiles a b → intent_of a ≡ intent_of b
intent_same a b same =
    (λ i. if are_within (open_patches (same.journal i)) a then open_patches (same.journal i) else [])
    ∙ ap (λ (w : Bool). if w then open_patches (b 1) else []) (within_equal (open_patches (b 1)) a b (sound (b 1)).fit same.files)

pub recovered_same : (a b : HostFiles) → SameFiles a b → recovered a ≡ recovered b
recovered_same a b same = ap (λ (ps : List Patch). data_files (patched ps a)) (intent_same a b same) ∙ data_patched (intent_of b) a b same.files

-- files that are as read of a disk are so after a call that changes nothing
pub kept_unchanged : (old new : Disk) → AllNow old (λ image. SameFiles image.files old.files) → Unchanged old new → AllNow new (λ image. SameFiles image.files new.files)
kept_unchanged old new kept same image left = subst (SameFiles image.files) (sym same.files) (now_unchanged same kept image left)
