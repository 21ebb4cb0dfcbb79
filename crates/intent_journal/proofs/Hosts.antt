-- How the words for hosts go together, and what a sync and calls that change nothing do to them.
use Rattle.std.proofs.Common.{◌≡◌, [], sym, ◌∙◌, ap, subst}
use Rattle.door_outside.specs.Disk.{Disk, Image, AllNow, Passes, Same, Unchanged, as_read}
use Rattle.door_outside.proofs.Moments.{now_same, now_unchanged}
use Rattle.intent_journal.specs.Hosts.{IsFirm, IsSettled, IsCalm}
use Rattle.intent_journal.specs.Journal.{IsClosed}
use Rattle.intent_journal.specs.Patches.{HostFiles, SameFiles, data_files}
use Rattle.intent_journal.specs.Recovered.{recovered, Back}
use Rattle.intent_journal.specs.Steps.{IsSure, JournalKept}
use Rattle.intent_journal.proofs.DataFiles.{kept_unchanged, recovered_same}
use Rattle.intent_journal.proofs.Moves.{intent_closed, recovered_by}

-- where nothing is pending, every image is as read
pub unpending_is_firm : (disk : Disk) → AllNow disk (λ image. SameFiles image.files disk.files) → IsFirm disk
unpending_is_firm disk kept image left = recovered_same image.files disk.files (kept image left)

pub calm_is_firm : (disk : Disk) → IsCalm disk → IsFirm disk
calm_is_firm disk calm = unpending_is_firm disk calm.kept

pub firm_is_settled : (disk : Disk) → IsFirm disk → IsSettled disk
firm_is_settled disk firm image left journal = firm image left

pub calm_is_settled : (disk : Disk) → IsCalm disk → IsSettled disk
calm_is_settled disk calm = firm_is_settled disk (calm_is_firm disk calm)

-- the data files of a calm host are the recovered ones
pub calm_recovers : (disk : Disk) → IsCalm disk → recovered disk.files ≡ data_files disk.files
calm_recovers disk calm = recovered_by [] disk.files (intent_closed disk.files calm.closed)

-- a settled host whose journal is durable is firm
pub settled_is_firm : (disk : Disk) → IsSettled disk → JournalKept disk → IsFirm disk
settled_is_firm disk settled kept image left = settled image left (kept image left)

-- a sync adds no image, so a settled host stays settled
pub settled_stays : (old new : Disk) → IsSettled old → Passes Same Same old new → as_read new ≡ as_read old → IsSettled new
settled_stays old new settled call same image left journal =
    let from = call.now image left in
    let is : image ≡ from.0 = from.2 in
    let files : new.files ≡ old.files = ap (λ (i : Image). i.files) same in
    ap (λ (i : Image). recovered i.files) is
    ∙ settled from.0 from.1 (ap (λ (i : Image). i.files 1) (sym is) ∙ journal ∙ ap (λ (f : HostFiles). f 1) files)
    ∙ ap recovered (sym files)

-- and a firm host leaves what it left
pub firm_stays : (old new : Disk) → IsFirm old → Passes Same Same old new → AllNow new (Back old)
firm_stays old new firm call = now_same call (λ image left. record { said = old.stays image left; files = firm image left })

-- a call that changes nothing
pub firm_unchanged : (old new : Disk) → IsFirm old → Unchanged old new → IsFirm new
firm_unchanged old new firm same image left = now_unchanged same firm image left ∙ ap recovered (sym same.files)

pub settled_unchanged : (old new : Disk) → IsSettled old → Unchanged old new → IsSettled new
settled_unchanged old new settled same image left journal =
    now_unchanged same settled image left (journal ∙ ap (λ (f : HostFiles). f 1) same.files) ∙ ap recovered (sym same.files)

pub calm_unchanged : (old new : Disk) → IsCalm old → Unchanged old new → IsCalm new
calm_unchanged old new calm same = record {
  closed = subst (λ (f : HostFiles). IsClosed (f 1)) (sym same.files) calm.closed;
  kept = kept_unchanged old new calm.kept same;
}

pub sure_unchanged : (old new : Disk) → IsSure old → Unchanged old new → IsSure new
sure_unchanged old new sure same = record {
  firm = firm_unchanged old new sure.firm same;
  journal = λ image left. now_unchanged same sure.journal image left ∙ ap (λ (f : HostFiles). f 1) (sym same.files);
}

-- a host on one image, with nothing pending
pub at_rest_is_settled : (disk : Disk) → AllNow disk (λ image. image ≡ as_read disk) → IsSettled disk
at_rest_is_settled disk rest image left journal = ap (λ (i : Image). recovered i.files) (rest image left)
