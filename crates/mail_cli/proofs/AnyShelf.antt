-- What entries leave of the host, whatever the shelf holds or tells.
use Rattle.std.proofs.Common.{◌≡◌, ◌≢◌, inl, inr, ℕ, zero, suc, ◌<◌, List, [], ◌∷◌, Bool, true, false, drop, refl, sym, ◌∙◌, ap, subst, arith}
use Rattle.std.proofs.lemmas.Bool.{true≢false}
use Rattle.std.specs.Prelude.{Option, Result, Ok, Err, IsErrOf, IsTrue}
use Rattle.cmd_board.proofs.BoardActs.{KeepsState}
use Rattle.cmd_board.proofs.FindLaws.{kept_settled}
use Rattle.cmd_board.proofs.StateLaws.{some_state}
use Rattle.cmd_board.specs.Halts.{told}
use Rattle.cmd_board.specs.Keeping.{KeepsFiles, went}
use Rattle.cmd_board.specs.Kept.{IsKept}
use Rattle.cmd_board.specs.State.{AreSpoiled, State, NotMade, Made, Old, Spoiled, IsSpoiled, Stores}
use Rattle.cmd_board.specs.WriteBound.{FilesKeepBound, WritesWithin}
use Rattle.cmd_board.specs.declared.halt.BoardHalt.{BoardHalt}
use Rattle.cmd_board.specs.declared.halt.BoardHalt.TheVariants as halt
use Rattle.cmd_board.specs.mail_board.declared.loading.Loaded.{Loaded}
use Rattle.cmd_entries.proofs.OneCommand.{command_unique, never_both}
use Rattle.cmd_entries.specs.Entries.{AreEntries}
use Rattle.cmd_entries.specs.declared.command.Command.{Command}
use Rattle.cmd_entries.specs.declared.command.Command.TheVariants as command
use Rattle.cmd_entries.specs.declared.entry.Entry.{Entry}
use Rattle.cmd_entries.specs.declared.entry.Entry.TheVariants.{Run}
use Rattle.door_outside.specs.Disk.{Disk}
use Rattle.door_outside.specs.Shelf as Shelf
use Rattle.door_outside.specs.declared.fault.VoiceFault.{VoiceFault}
use Rattle.entry_runs.proofs.Voice.{firm_then}
use Rattle.entry_runs.specs.Door.{Act, World, here, touches}
use Rattle.entry_runs.specs.Entry.{IsAt, IsDone, Performs}
use Rattle.entry_runs.specs.Runs.{once_said, stopped_status}
use Rattle.entry_runs.specs.Saying.{Spoken, Voiced}
use Rattle.entry_runs.specs.declared.class.Class.{Class}
use Rattle.entry_runs.specs.declared.class.Class.TheVariants as classes
use Rattle.entry_runs.specs.declared.status.Status.{Status}
use Rattle.entry_runs.specs.declared.status.Status.TheVariants as status
use Rattle.entry_runs.specs.declared.stop.Stop.{Stop}
use Rattle.entry_runs.specs.declared.stop.Stop.TheVariants as stops
use Rattle.intent_journal.specs.Hosts.{IsFirm}
use Rattle.intent_journal.specs.Patches.{HostFiles}
use Rattle.intent_journal.specs.Recovered.{recovered}
use Rattle.mail_cli.specs.Run.{AreTouching, BeginsTouching, IsAnswered, FilesStay}
use Rattle.mail_cli.specs.Step.{door}

-- ---- a command that names no file of the shelf
-- the files stand for some state, and any content may be put for that of the shelf
pub at_some : (disk : Disk) (kept : Option Loaded) (shelf : Shelf.ShelfFiles) → IsKept kept disk → IsAt Stores (here (some_state (recovered disk.files)).0 shelf) disk shelf
at_some disk kept shelf is = record {
  board = record {
    settled = kept_settled kept disk is;
    stores = (some_state (recovered disk.files)).1;
  };
  shelf_is = refl;
}

state_spoiled : (s : State) (files : HostFiles) → Stores s files → AreSpoiled files → IsSpoiled s
state_spoiled NotMade files stores spoiled = absurd (spoiled.some stores)
state_spoiled (Made b) files stores spoiled = absurd (spoiled.other b stores.0 (inl stores.1))
state_spoiled (Old b) files stores spoiled = absurd (spoiled.other b stores.0 (inr stores.1))
state_spoiled (Spoiled held) files stores spoiled = tt

files_spoiled : (s : State) (files : HostFiles) → Stores s files → IsSpoiled s → AreSpoiled files
files_spoiled NotMade files stores spoiled = absurd spoiled
files_spoiled (Made b) files stores spoiled = absurd spoiled
files_spoiled (Old b) files stores spoiled = absurd spoiled
files_spoiled (Spoiled held) files stores spoiled = stores.1

pub performed_keeps : {act : Act State} {world : World State} {old new : Disk} {shelf later : Shelf.ShelfFiles} (result : Result Class Stop) → KeepsState act → IsTrue act.reach.board → IsAt Stores world old shelf
    → Performs Stores act world old new later result → KeepsFiles old new result
performed_keeps {world = world} {old = old} {new = new} (Ok class) keeps on at performs =
    let stepped = performs.ends.stepped in
    record {
      firm = performs.firm;
      rests = performs.touched on;
      still_spoiled = λ after. files_spoiled world.state (recovered old.files) at.board.stores
          (keeps.still_spoiled world stepped performs.ends.step (state_spoiled stepped.world.state (recovered new.files) performs.ends.at.board.stores after));
      only_spoiled = λ damaged. files_spoiled world.state (recovered old.files) at.board.stores (keeps.only_spoiled world stepped performs.ends.step (performs.ends.class_is ∙ damaged));
    }
performed_keeps (Err stop) keeps on at performs = record { firm = performs.firm; rests = performs.touched on; still_spoiled = tt; only_spoiled = tt }

-- ---- one that does: what it answers was said
answered_keeps : {old mid new : Disk} {text : List ℕ} (class : Class) (said : Result (Unit {0}) VoiceFault) → Voiced text mid new said → KeepsFiles old mid (Ok class) → KeepsFiles old new (once_said class said)
answered_keeps {mid = mid} {new = new} class (Ok x) voiced keeps =
    let firm : IsFirm new = firm_then mid new (λ image left. (voiced.now image left).files) voiced.files (keeps.rests tt) in
    record {
      firm = λ sound before. firm;
      rests = λ done. firm;
      still_spoiled = λ after. keeps.still_spoiled (subst (λ (files : HostFiles). AreSpoiled (recovered files)) voiced.files after);
      only_spoiled = keeps.only_spoiled;
    }
answered_keeps {mid = mid} {new = new} class (Err fault) voiced keeps =
    let firm : IsFirm new = firm_then mid new (λ image left. (voiced.now image left).files) voiced.files (keeps.rests tt) in
    record { firm = λ sound before. firm; rests = λ done. firm; still_spoiled = tt; only_spoiled = tt }

module _ {Host Value : Type 0} (disk : Host → Disk) (old : Disk) (mid new : Host) (text : Value → List ℕ) (result : Result Class Stop) where
  by_class : (class : Class) (said : Result (Unit {0}) VoiceFault) {spoken : List ℕ} → Voiced spoken (disk mid) (disk new) said → result ≡ once_said class said → KeepsFiles old (disk mid) (Ok class) → KeepsFiles old (disk new) result
  by_class class said voiced is keeps = subst (KeepsFiles old (disk new)) (sym is) (answered_keeps class said voiced keeps)

  unsaid : (stop : Stop) → new ≡ mid → result ≡ Err stop → KeepsFiles old (disk mid) (Err stop) → KeepsFiles old (disk new) result
  unsaid stop same is keeps =
      subst (KeepsFiles old (disk new)) (sym is) (subst (λ (host : Host). KeepsFiles old (disk host) (Err stop)) (sym same) keeps)

  pub said_keeps : (answer : Result Value BoardHalt) → Spoken disk (told text answer) mid new result → KeepsFiles old (disk mid) (went answer) → KeepsFiles old (disk new) result
  said_keeps (Ok value) spoken keeps = by_class classes.Done spoken.0 spoken.1 spoken.2 keeps
  said_keeps (Err (halt.Refused why)) spoken keeps = by_class classes.Refused spoken.0 spoken.1 spoken.2 keeps
  said_keeps (Err (halt.Damaged d)) spoken keeps = by_class classes.Damaged spoken.0 spoken.1 spoken.2 keeps
  said_keeps (Err halt.DiskFault) spoken keeps = unsaid stops.DiskFault spoken.0 spoken.1 keeps
  said_keeps (Err halt.ShelfFault) spoken keeps = unsaid stops.ShelfFault spoken.0 spoken.1 keeps
  said_keeps (Err halt.OutOfMemory) spoken keeps = unsaid stops.OutOfMemory spoken.0 spoken.1 keeps

  -- the bytes that it wrote
  voiced_between : {T E : Type 0} {spoken : List ℕ} {said : Result T E} → Voiced spoken (disk mid) (disk new) said → FilesKeepBound old (disk mid) → FilesKeepBound old (disk new)
  voiced_between voiced kept state next stores today after =
      subst (WritesWithin state next old.wrote) (sym voiced.wrote) (kept state next stores today (subst (λ (files : HostFiles). Stores next (recovered files)) voiced.files after))

  unsaid_between : new ≡ mid → FilesKeepBound old (disk mid) → FilesKeepBound old (disk new)
  unsaid_between same kept = subst (λ (host : Host). FilesKeepBound old (disk host)) (sym same) kept

  pub said_between : (answer : Result Value BoardHalt) → Spoken disk (told text answer) mid new result → ¬ IsErrOf result stops.DiskFault → (¬ IsErrOf answer halt.DiskFault → FilesKeepBound old (disk mid)) → FilesKeepBound old (disk new)
  said_between (Ok value) spoken sound kept = voiced_between spoken.1 (kept (λ is. absurd (cc is)))
  said_between (Err (halt.Refused why)) spoken sound kept = voiced_between spoken.1 (kept (λ is. absurd (cc is)))
  said_between (Err (halt.Damaged d)) spoken sound kept = voiced_between spoken.1 (kept (λ is. absurd (cc is)))
  said_between (Err halt.DiskFault) spoken sound kept = absurd (sound spoken.1)
  said_between (Err halt.ShelfFault) spoken sound kept = unsaid_between spoken.0 (kept (λ is. absurd (cc is)))
  said_between (Err halt.OutOfMemory) spoken sound kept = unsaid_between spoken.0 (kept (λ is. absurd (cc is)))

-- ---- an entry of a run, whether it touches the board or not
pub firm_on : (on : Bool) {mid new : Disk} {result : Result Class Stop} → (IsTrue on → KeepsFiles mid new result) → (on ≡ false → FilesStay mid new) → ¬ IsErrOf result stops.DiskFault → IsFirm mid → IsFirm new
firm_on true keeps leaves sound firm = (keeps refl).firm sound firm
firm_on false {mid} {new} keeps leaves sound firm = firm_then mid new (leaves refl).now (leaves refl).files firm

pub spoiled_on : (on : Bool) {mid new : Disk} {class : Class} → (IsTrue on → KeepsFiles mid new (Ok class)) → (on ≡ false → FilesStay mid new) → AreSpoiled (recovered new.files) → AreSpoiled (recovered mid.files)
spoiled_on true keeps leaves after = (keeps refl).still_spoiled after
spoiled_on false keeps leaves after = subst (λ (files : HostFiles). AreSpoiled (recovered files)) (leaves refl).files after

done_sound : (result : Result Class Stop) → IsDone result → ¬ IsErrOf result stops.DiskFault
done_sound (Ok class) done is = absurd (cc is)
done_sound (Err stops.VoiceFault) done is = absurd (cc is)
done_sound (Err stops.DiskFault) done is = absurd done
done_sound (Err stops.ShelfFault) done is = absurd done
done_sound (Err stops.OutOfMemory) done is = absurd done

-- where the first entry touches the board, the host is firm from then on
pub rests_on : (now : ℕ) {entries back : List Entry} {entry : Entry} (i : ℕ) {mid new : Disk} {result : Result Class Stop} → drop i entries ≡ entry ∷ back → (0 < i → BeginsTouching now entries → IsFirm mid)
    → (IsTrue (touches (door now) entry) → KeepsFiles mid new result) → (touches (door now) entry ≡ false → FilesStay mid new) → IsDone result → BeginsTouching now entries → IsFirm new
rests_on now {entries} {back} {entry} zero more early keeps leaves done begins =
    let same = sym begins.2 ∙ more in
    let one : begins.0 ≡ entry = cc in
    (keeps (subst (λ (e : Entry). IsTrue (touches (door now) e)) one begins.3)).rests done
rests_on now {entries} {back} {entry} (suc i) {mid} {new} {result} more early keeps leaves done begins =
    firm_on (touches (door now) entry) keeps leaves (done_sound result done) (early (omega arith) begins)

-- a run that an entry stopped
pub stop_is : {stop : Stop} {result : Status} → result ≡ stopped_status stop → result ≢ status.DiskFault → ¬ IsErrOf {T = Class} (Err stop) stops.DiskFault
stop_is {stop} is sound fault = let same : stop ≡ stops.DiskFault = cc in sound (is ∙ ap stopped_status same)

stop_done : (stop : Stop) → IsAnswered (stopped_status stop) → IsDone (Err stop)
stop_done stops.DiskFault answered = answered
stop_done stops.ShelfFault answered = answered
stop_done stops.VoiceFault answered = tt
stop_done stops.OutOfMemory answered = answered

pub stop_answered : {result : Status} (stop : Stop) → result ≡ stopped_status stop → IsAnswered result → IsDone (Err stop)
stop_answered stop is answered = stop_done stop (subst IsAnswered is answered)

-- ---- words
-- the entries of a command that touches the board begin with it
pub begins_touching : (now : ℕ) (words : List (List ℕ)) (entries : List Entry) → AreEntries words entries → AreTouching now words → BeginsTouching now entries
begins_touching now words entries (read, inl (other, reads, single, is)) (c, taken, on) = (Run c, [], is ∙ ap (λ (x : Command). Run x ∷ []) (command_unique words other c reads taken), on)
begins_touching now words entries (read, inr (inl (file, reads, lines))) (c, taken, on) =
    absurd (true≢false (sym (subst (λ (x : Command). IsTrue (touches (door now) (Run x))) (command_unique words c (command.Batch file) taken reads) on)))
begins_touching now words entries (read, inr (inr (never, is))) (c, taken, on) = absurd (never_both words c taken never)
