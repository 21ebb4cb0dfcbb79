use Rattle.std.proofs.Common.{◌≡◌, ◌∙◌, ℕ, refl, suc, ◌+◌, ◌-◌, ap, subst, sym, arith}
use Rattle.std.specs.Prelude.{IsTrue, false}
use Rattle.door_outside.specs.Disk.{AllNow}
use Rattle.intent_journal.specs.Journal.{patch_by, patches_of, spelled}
use Rattle.intent_journal.specs.Patches.{is_touched}
use Rattle.intent_journal.proofs.Front.{file_by, whole_by}
use Rattle.intent_journal.proofs.Syncing.{sync_end, sync_on, sync_start, sync_there, synced_twice}
use Rattle.intent_journal.proofs.carrying.sync_files.Goals as goal

pub loop-done-init : goal.loop-done-init
loop-done-init g c =
    let all : c.args.count - 0 ≡ c.args.count = omega arith in
    record {
      syncing = sync_start g.H.Host.tells (spelled c.args.count c.args.text.now) (c.args.count - 0) c.args.text.now _ _ _ ((λ i. patches_of (all i) c.args.text.now) ∙ c.requires) c.new-seen.ensures;
      voice = refl;
      cause = refl;
    }

pub unreachable-requires : goal.unreachable-requires
unreachable-requires g c =
    let n = c.args.count - (c.loop-done._done + 1) in
    let more : c.args.count - c.loop-done._done ≡ suc n = omega arith in
    sync_there g.H.Host.tells (spelled c.args.count c.args.text.now) _ n c.loop-done.rest.now _ _ _ _ more c.loop-done.invariant.syncing c.in_default.ensures.value

pub returns-in_err-sync_once-clause-only : goal.returns-in_err-sync_once-clause-only
returns-in_err-sync_once-clause-only g c =
    λ tells. synced_twice _ _ _ (c.loop-done.invariant.syncing.only tells) (c.sync_once.ensures.only tells)

pub loop-done-preserved : goal.loop-done-preserved
loop-done-preserved g c =
    let n = c.args.count - (c.loop-done._done + 1) in
    let more : c.args.count - c.loop-done._done ≡ suc n = omega arith in
    let head = c.in-Some.head in
    let bytes = c.in-Some.field-0-1.now in
    let p = patch_by head.whole head.file head.at bytes in
    let file_is = file_by head.whole head.file head.at bytes in
    let marks = c.mark.ensures c.loop-done.invariant.syncing.done p file_is (whole_by head.whole head.file head.at bytes) c.loop-done.invariant.syncing.marks in
    let flag = c.touches.ensures c.loop-done.invariant.syncing.done c.loop-done.invariant.syncing.marks ∙ ap (λ (f : ℕ). is_touched f c.loop-done.invariant.syncing.done) (sym file_is) in
    let new = g.H.Host.disk c.sync_once.new.host in
    let synced = subst (λ (f : ℕ). IsTrue g.H.Host.tells → c.touches.result ≡ false → AllNow new (λ image. image.files f ≡ new.files f)) (sym file_is) c.in_ok-sync_once.ensures.durable in
    record {
      syncing = sync_on g.H.Host.tells (spelled c.args.count c.args.text.now) _ n c.loop-done.rest.now _ _ _ _ more c.loop-done.invariant.syncing p _ c.in-Some.ensures.value _ _ marks _ c.sync_once.ensures.only c.touches.result flag synced;
      voice = c.sync_once.ensures.voice ∙ c.loop-done.invariant.voice;
      cause = c.in_ok-sync_once.ensures.cause.kept ∙ c.loop-done.invariant.cause;
    }

pub returns-clause-durable : goal.returns-clause-durable
returns-clause-durable g c =
    sync_end g.H.Host.tells (spelled c.args.count c.args.text.now) _ c.loop-done.rest.now _ _ _ _ (omega arith) c.loop-done.invariant.syncing
