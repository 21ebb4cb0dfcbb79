-- Lists of entries, and words among them that are no command.
use Rattle.std.proofs.Common.{◌≡◌, ◌⊎◌, inl, inr, ⊎_elim, ℕ, zero, suc, ◌+◌, ◌<◌, List, [], ◌∷◌, ◌++◌, Bool, true, false, take, drop, refl, sym, ◌∙◌, ap, subst, arith}
use Rattle.std.proofs.lemmas.List.{take-append-drop}
use Rattle.std.specs.List.{list_any}
use Rattle.std.specs.Prelude.{◌||◌}
use Rattle.entry_runs.specs.Runs.{is_last, with_class, stopped_status}
use Rattle.entry_runs.specs.declared.class.Class.{Class}
use Rattle.entry_runs.specs.declared.class.Class.TheVariants.{Done, Refused, Usage, Damaged}
use Rattle.entry_runs.specs.declared.status.Status.{Status}
use Rattle.entry_runs.specs.declared.status.Status.TheVariants as status
use Rattle.entry_runs.specs.declared.stop.Stop.{Stop}
use Rattle.entry_runs.specs.declared.stop.Stop.TheVariants.{DiskFault, ShelfFault, VoiceFault, OutOfMemory}
use Rattle.cmd_entries.specs.Entries.{IsWrong, HasWrong, BeginsWrong}
use Rattle.mail_cli.specs.Run.{AnswersUsage}
use Rattle.cmd_entries.specs.declared.entry.Entry.{Entry}

-- the entry that a run is at is wrong where the first is
pub wrong_head : {entries back : List Entry} {entry : Entry} (i : ℕ) → drop i entries ≡ entry ∷ back → (0 < i → ¬ BeginsWrong entries) → BeginsWrong entries → IsWrong entry
wrong_head zero is first begins = let same = sym begins.3 ∙ is in let one : begins.1 ≡ _ = cc in subst IsWrong one begins.2
wrong_head (suc i) is first begins = absurd (first (omega arith) begins)

-- no wrong entry has come yet
pub not_begun : {entries back : List Entry} {entry : Entry} (i : ℕ) → drop i entries ≡ entry ∷ back → (0 < i → ¬ BeginsWrong entries) → ¬ IsWrong entry → 0 < i + 1 → ¬ BeginsWrong entries
not_begun i is first right below begins = right (wrong_head i is first begins)

pub has_wrong : {entries back : List Entry} {entry : Entry} (i : ℕ) → drop i entries ≡ entry ∷ back → IsWrong entry → HasWrong entries
has_wrong {entries} {back} {entry} i is wrong = (take i entries, back, entry, wrong, sym (take-append-drop i entries) ∙ ap (λ (rest : List Entry). take i entries ++ rest) is)

pub some_from : (p : Entry → Bool) (entries back : List Entry) (entry : Entry) (i : ℕ) → drop i entries ≡ entry ∷ back → p entry ≡ true → list_any p entries ≡ true
some_from p entries back entry zero is holds = ap (list_any p) is ∙ ap (λ (b : Bool). b || list_any p back) holds
some_from p [] back entry (suc i) is holds = absurd (cc is)
some_from p (e ∷ entries) back entry (suc i) is holds = or_right (p e) (list_any p entries) (some_from p entries back entry i is holds)
  where
    or_right : (a b : Bool) → b ≡ true → (a || b) ≡ true
    or_right true b is = refl
    or_right false b is = is

-- a run that was done or refused so far ends so by its last class
pub ends_usage : (so_far : Status) (class : Class) → (so_far ≡ status.Done) ⊎ (so_far ≡ status.Refused) → with_class so_far class ≡ status.Usage → class ≡ Usage
ends_usage so_far Done quiet is = absurd (⊎_elim (λ done. cc (done, is)) (λ refused. cc (refused, is)) quiet)
ends_usage so_far Refused quiet is = absurd (cc is)
ends_usage so_far Usage quiet is = refl
ends_usage so_far Damaged quiet is = absurd (cc is)

pub ends_damaged : (so_far : Status) (class : Class) → (so_far ≡ status.Done) ⊎ (so_far ≡ status.Refused) → with_class so_far class ≡ status.Damaged → class ≡ Damaged
ends_damaged so_far Done quiet is = absurd (⊎_elim (λ done. cc (done, is)) (λ refused. cc (refused, is)) quiet)
ends_damaged so_far Refused quiet is = absurd (cc is)
ends_damaged so_far Usage quiet is = absurd (cc is)
ends_damaged so_far Damaged quiet is = refl

pub quiet_usage : {P : Type 0} {so_far : Status} → (so_far ≡ status.Done) ⊎ (so_far ≡ status.Refused) → so_far ≡ status.Usage → P
quiet_usage quiet is = absurd (⊎_elim (λ done. cc (done, is)) (λ refused. cc (refused, is)) quiet)

pub quiet_damaged : {P : Type 0} {so_far : Status} → (so_far ≡ status.Done) ⊎ (so_far ≡ status.Refused) → so_far ≡ status.Damaged → P
quiet_damaged quiet is = absurd (⊎_elim (λ done. cc (done, is)) (λ refused. cc (refused, is)) quiet)

-- a run that was stopped ends neither as usage nor as damaged
pub stopped_usage : {P : Type 0} (stop : Stop) → stopped_status stop ≡ status.Usage → P
stopped_usage DiskFault is = absurd (cc is)
stopped_usage ShelfFault is = absurd (cc is)
stopped_usage VoiceFault is = absurd (cc is)
stopped_usage OutOfMemory is = absurd (cc is)

pub stopped_damaged : {P : Type 0} (stop : Stop) → stopped_status stop ≡ status.Damaged → P
stopped_damaged DiskFault is = absurd (cc is)
stopped_damaged ShelfFault is = absurd (cc is)
stopped_damaged VoiceFault is = absurd (cc is)
stopped_damaged OutOfMemory is = absurd (cc is)

-- the voice failed at words that are no command
pub unsaid_usage : (stop : Stop) (result : Status) → result ≡ stopped_status stop → stop ≡ VoiceFault → AnswersUsage result
unsaid_usage stop result is voice = inr (inl (is ∙ ap stopped_status voice))

-- only words that are no command end a run as usage
pub goes_right : (class : Class) (entry : Entry) → (IsWrong entry → class ≡ Usage) → is_last class ≡ false → ¬ IsWrong entry
goes_right class entry usage goes wrong = let last : is_last class ≡ true = ap is_last (usage wrong) in absurd (cc (last, goes))
