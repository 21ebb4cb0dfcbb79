-- No file is as long as 2^31 bytes.
use Rattle.std.proofs.Common.{ℕ, ◌<◌, ◌^◌, List, [], ◌∷◌, length, sym, subst, arith, inl, inr, lit<}
use Rattle.std.proofs.lemmas.Bool.{cases_eq}
use Rattle.door_outside.specs.Disk.{Image, InFile}
use Rattle.memory_outside.specs.declared.event.Event.{Event}
use Rattle.memory_outside.specs.declared.event.Event.TheVariants.{Write, Shorten, Sync, Put, Say}
use Rattle.memory_outside.specs.Events.{read, spoken, Left, AreShort}
use Rattle.memory_outside.proofs.Left.{left_reads}

-- a step that changes one file
one_file : (to : ℕ) (step : List ℕ → List ℕ → Type 0) (before image : Image) → InFile to step before image
    → (step (before.files to) (image.files to) → length (image.files to) < 2 ^ 31) → ((file : ℕ) → length (before.files file) < 2 ^ 31)
    → (file : ℕ) → length (image.files file) < 2 ^ 31
one_file to step before image is own short file = elim (cases_eq file to) [
  | inl same ↦ subst (λ (f : ℕ). length (image.files f) < 2 ^ 31) (sym same) (own is.changed)
  | inr ne ↦ subst (λ (l : List ℕ). length l < 2 ^ 31) (sym (is.others file ne)) (short file)
]

pub left_short : (events : List Event) (image : Image) → AreShort events → Left events image → (file : ℕ) → length (image.files file) < 2 ^ 31
left_short [] image short left file = subst (λ (l : List ℕ). length l < 2 ^ 31) (sym (λ i. left.0 i file)) (lit< tt)
left_short (Write to at bytes ∷ past) image short left file = one_file to _ left.0 image left.2
    (λ torn. omega (arith, torn.no_longer, short.0, left_short past left.0 short.1 left.1 to)) (left_short past left.0 short.1 left.1) file
left_short (Shorten to len ∷ past) image short left file = one_file to _ left.0 image left.2
    (λ cut. omega (arith, cut.no_longer, left_short past left.0 short.1 left.1 to)) (left_short past left.0 short.1 left.1) file
left_short (Sync to ∷ past) image short left file = left_short past image short.1 left.0 file
left_short (Put to bytes ∷ past) image short left file = one_file to _ left.0 image left.2
    (λ is. subst (λ (l : List ℕ). length l < 2 ^ 31) (sym is) short.0) (left_short past left.0 short.1 left.1) file
left_short (Say bytes ∷ past) image short left file = subst (λ (l : List ℕ). length l < 2 ^ 31) (sym (λ i. left.2 i file)) (left_short past left.0 short.1 left.1 file)

pub read_short : (events : List Event) → AreShort events → (file : ℕ) → length (read events file) < 2 ^ 31
read_short events short file = left_short events (record { files = read events; said = spoken events }) short (left_reads events) file
