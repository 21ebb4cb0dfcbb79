-- What a crash leaves in each step of a commit.
use Rattle.std.proofs.Common.{◌++◌, ◌-◌, take, ◌≡◌, ◌≢◌, ◌⊎◌, inl, inr, ⊎_elim, ℕ, ◌<◌, List, [], ◌∷◌, length, drop, get_or, refl, sym, ◌∙◌, ap, arith}
use Rattle.std.proofs.lemmas.List.{drop_more}
use Rattle.std.proofs.lemmas.Bool.{cases_eq, eq-eqb, ne_eqb, cond-true, cond-false}
use Rattle.std.specs.Prelude.{true, false, replicate, Option, Some, unwrap_or, ◌==◌, if◌then◌else◌}
use Rattle.door_outside.specs.Disk.{Disk, Image, AllNow, InFile, Torn, written}
use Rattle.door_outside.proofs.Moments.{reads_have}
use Rattle.record_numbers.specs.Numbers.{u32_at}
use Rattle.intent_journal.specs.Hosts.{IsSettled}
use Rattle.intent_journal.specs.Journal.{body_patches, open_patches, intent_of, IsClosed}
use Rattle.intent_journal.specs.Patches.{HostFiles, are_within, patched, data_files}
use Rattle.intent_journal.specs.Recovered.{recovered}
use Rattle.intent_journal.specs.Steps.{Quiet}
use Rattle.intent_journal.specs.declared.patch.Patch.{Patch}
use Rattle.intent_journal.proofs.DataFiles.{recovered_same}

pub closed_patches : (journal : List ℕ) → IsClosed journal → open_patches journal ≡ []
closed_patches [] closed = refl
closed_patches (gate ∷ body) closed =
    let shut : gate ≢ 79 = λ is. closed (ap (λ (x : ℕ). x ∷ []) is) in
    cond-false (gate == 79) _ _ (ne_eqb gate 79 shut)

-- the intent by the patches behind an open gate
pub intent_by : (patches : List Patch) (files : HostFiles) → open_patches (files 1) ≡ patches → are_within patches files ≡ true → intent_of files ≡ patches
intent_by patches files is within = (λ i. if are_within (is i) files then is i else []) ∙ cond-true (are_within patches files) patches [] within

pub intent_past : (patches : List Patch) (files : HostFiles) → open_patches (files 1) ≡ patches → are_within patches files ≡ false → intent_of files ≡ []
intent_past patches files is past = (λ i. if are_within (is i) files then is i else []) ∙ cond-false (are_within patches files) patches [] past

pub intent_none : (files : HostFiles) → open_patches (files 1) ≡ [] → intent_of files ≡ []
intent_none files is = λ i. if are_within (is i) files then is i else []

pub intent_closed : (files : HostFiles) → IsClosed (files 1) → intent_of files ≡ []
intent_closed files closed = intent_none files (closed_patches (files 1) closed)

pub recovered_by : (patches : List Patch) (files : HostFiles) → intent_of files ≡ patches → recovered files ≡ data_files (patched patches files)
recovered_by patches files is = ap (λ (ps : List Patch). data_files (patched ps files)) is

pub quiet_recovers : (old image : Image) → Quiet old image → recovered image.files ≡ data_files old.files
quiet_recovers old image quiet = recovered_by [] image.files quiet.closed ∙ quiet.files

-- where the data files are the same, the journal decides
pub settled_by_data : (disk : Disk) (files : HostFiles) → AllNow disk (λ image. data_files image.files ≡ data_files files) → IsSettled disk
settled_by_data disk files all image left journal =
    let here = reads_have disk (λ image. data_files image.files ≡ data_files files) all in
    recovered_same image.files disk.files (record { journal = journal; files = all image left ∙ sym here })

pub settled_by_outcome : (disk : Disk) (outcome : HostFiles) → AllNow disk (λ image. recovered image.files ≡ outcome) → IsSettled disk
settled_by_outcome disk outcome all image left journal = all image left ∙ sym (reads_have disk (λ image. recovered image.files ≡ outcome) all)

-- any byte may stand at the gate, and behind it what stood there
pub gate_torn : (old new : List ℕ) → 0 < length old → Torn 0 1 old new → (gate : ℕ) × (new ≡ gate ∷ drop 1 old)
gate_torn old new some torn = (get_or new 0 0, drop_more new 0 0 (omega (arith, torn.no_shorter)) ∙ ap (λ (l : List ℕ). get_or new 0 0 ∷ l) torn.after)

-- the gate is no part of the body
pub body_behind : (gate : ℕ) (journal : List ℕ) → 0 < length journal → body_patches (gate ∷ drop 1 journal) ≡ body_patches journal
unfolding body_patches u32_at
body_behind gate [] some = absurd (omega arith)
body_behind gate (g ∷ body) some = refl

gate_reads : (gate : ℕ) (body : List ℕ) (patches : List Patch) → body_patches (gate ∷ body) ≡ Some patches → (open_patches (gate ∷ body) ≡ []) ⊎ (open_patches (gate ∷ body) ≡ patches)
gate_reads gate body patches is = elim (cases_eq gate 79) [
  | inl open_gate ↦ inr (cond-true (gate == 79) _ _ (eq-eqb gate 79 open_gate) ∙ ap (λ (o : Option (List Patch)). unwrap_or o []) is)
  | inr shut ↦ inl (cond-false (gate == 79) _ _ (ne_eqb gate 79 shut))
]

-- the outcome of each image while the gate is written over a whole body: the files, or the patched files
pub gate_outcome : (patches : List Patch) (before image : Image) → body_patches (before.files 1) ≡ Some patches → 0 < length (before.files 1) → are_within patches image.files ≡ true → InFile 1 (Torn 0 1) before image
    → (recovered image.files ≡ data_files image.files) ⊎ (recovered image.files ≡ data_files (patched patches image.files))
gate_outcome patches before image body some within step =
    let torn = gate_torn (before.files 1) (image.files 1) some step.changed in
    ⊎_elim (λ none. inl (recovered_by [] image.files (intent_none image.files (ap open_patches torn.1 ∙ none))))
    (λ some_is. inr (recovered_by patches image.files (intent_by patches image.files (ap open_patches torn.1 ∙ some_is) within)))
    (gate_reads torn.0 (drop 1 (before.files 1)) patches (body_behind torn.0 (before.files 1) some ∙ body))

-- a first byte is written
pub gate_written : (old : List ℕ) (byte : ℕ) → written old 0 (byte ∷ []) ≡ byte ∷ drop 1 old
gate_written old byte = let none : 0 - length old ≡ 0 = omega arith in λ i. (replicate (none i) 0 ++ (byte ∷ [])) ++ drop 1 old

-- where it is that of a closed gate
pub closed_by : (old new : List ℕ) → new ≡ written old 0 (67 ∷ []) → IsClosed new
closed_by old new holds is =
    let journal : new ≡ 67 ∷ drop 1 old = holds ∙ gate_written old 67 in
    absurd (omega (arith, ap (λ (l : List ℕ). get_or l 0 0) (sym (ap (take 1) journal) ∙ is)))
