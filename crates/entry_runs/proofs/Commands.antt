-- The exits of a command, one lemma each: from what the calls below it give to what its contract gives.
use Rattle.std.proofs.Common.{◌≡◌, ◌≢◌, ◌⊎◌, inl, inr, ⊎_elim, ℕ, false, List, refl, sym, ◌∙◌, ap, subst, arith}
use Rattle.std.proofs.lemmas.Bool.{true≢false}
use Rattle.std.specs.Prelude.{Result, Ok, Err, IsErrOf, IsTrue}
use Rattle.door_outside.specs.Disk.{Disk}
use Rattle.door_outside.specs.Shelf.{ShelfFiles, held, SameBut}
use Rattle.intent_journal.specs.Patches as Data
use Rattle.entry_runs.specs.Door.{World, here, Act, migrated_world}
use Rattle.entry_runs.specs.Entry.{Reply, Keeps, IsAt, Finds, Changes, ShelfAct, Serves, on_shelf, BeforeOrAfter, Works}
use Rattle.door_outside.specs.Cause.{HasCause}
use Rattle.entry_runs.specs.Promise.{Before, After, Stopped, FaultCounts, counts, ended, HasCauses}
use Rattle.entry_runs.specs.Runs.{Stepped, once_said, with_class}
use Rattle.entry_runs.specs.declared.class.Class.{Class}
use Rattle.entry_runs.specs.declared.class.Class.TheVariants.{Done, Refused, Usage, Damaged}
use Rattle.entry_runs.specs.declared.status.Status.{Status}
use Rattle.entry_runs.specs.declared.status.Status.TheVariants as status
use Rattle.entry_runs.specs.declared.stop.Stop.{Stop}
use Rattle.entry_runs.specs.declared.stop.Stop.TheVariants.{DiskFault, ShelfFault, VoiceFault, OutOfMemory}
use Rattle.entry_runs.proofs.Entries.{keeps_wider, keeps_still, keeps_on}
use Rattle.entry_runs.proofs.Voice.{as_now}

abbrev stepped_to : {State : Type 0} → World State → Reply → Stepped (World State)
stepped_to world reply = record { world = world; reply = reply.text; class = reply.class }

module _ {State : Type 0} (Stores : State → Data.HostFiles → Type 0) (act : Act State) {world : World State} {old : Disk} {shelf : ShelfFiles} (at : IsAt Stores world old shelf) where
  same_shelf : (names : List (List ℕ)) → SameBut names world.shelf shelf
  same_shelf names name other = ap (λ (files : ShelfFiles). held files name) at.shelf_is

  -- a command that touches the board
  module _ (on : IsTrue act.reach.board) where
    never : {P : Type 0} → act.reach.board ≡ false → P
    never off = absurd (true≢false (sym on ∙ off))

    -- the board as it was, or migrated
    as_before : (files : Data.HostFiles) → Stores world.state files ⊎ Stores (act.migrated world.state) files → Before Stores act world.state files
    as_before files either = ⊎_elim (λ still. inl still) (λ migrated. inr (on, migrated)) either

    module _ {new : Disk} {T : Type 0} {result : Result T Stop} (finds : Finds Stores world.state (act.migrated world.state) old new result) where
      found : Keeps (BeforeOrAfter Stores act world) old new
      found = keeps_wider (λ files either. inl (as_before files either)) finds.keeps

      -- it stopped before it changed anything
      stopped_early : (stop : Stop) → stop ≢ VoiceFault → Stopped Stores act stop world old.said new shelf
      stopped_early DiskFault silent = (inl (as_before _ finds.keeps.reads.files), finds.keeps.reads.said, at.shelf_is)
      stopped_early ShelfFault silent = (inl (as_before _ finds.keeps.reads.files), finds.keeps.reads.said, same_shelf act.reach.names)
      stopped_early OutOfMemory silent = (as_before _ finds.keeps.reads.files, finds.keeps.reads.said, at.shelf_is)
      stopped_early VoiceFault silent = absurd (silent refl)

      halted : (stop : Stop) → stop ≢ VoiceFault → (stop ≢ DiskFault → ¬ IsErrOf result DiskFault) → Works Stores act world old new shelf (Err stop)
      halted stop silent sound = record {
        keeps = found;
        ends = record { silent = silent; stopped = stopped_early stop silent };
        firm = λ none. finds.firm (sound (λ is. none (ap Err is)));
        off_board = λ off. never off;
      }

    -- the board was found, and then it stopped before it changed anything
    pub halts : {new : Disk} {T : Type 0} {value : T} → Finds Stores world.state (act.migrated world.state) old new (Ok value)
        → (stop : Stop) → stop ≢ VoiceFault → Works Stores act world old new shelf (Err stop)
    halts finds stop silent = halted finds stop silent (λ other is. absurd (cc is))

    -- the board wasn't found
    pub not_found : {new : Disk} {T : Type 0} {stop : Stop} → Finds Stores {T = T} world.state (act.migrated world.state) old new (Err stop)
        → Works Stores act world old new shelf (Err stop)
    not_found {stop = stop} finds = halted finds stop (λ is. finds.silent (ap Err is)) (λ other is. let same : stop ≡ DiskFault = cc in other same)

    -- it changed nothing, and answers
    pub answers : {new : Disk} {T : Type 0} {value : T} {reply : Reply} → Finds Stores world.state (act.migrated world.state) old new (Ok value)
        → act.Step world (stepped_to (migrated_world act world) reply) → Works Stores act world old new shelf (Ok reply)
    answers {reply = reply} finds step = record {
      keeps = found finds;
      ends = record {
        stepped = stepped_to (migrated_world act world) reply;
        step = step;
        text_is = refl;
        class_is = refl;
        said_is = finds.keeps.reads.said;
        at = record { board = finds.done.0; shelf_is = at.shelf_is };
        firm = λ touched. finds.done.1;
      };
      firm = λ none. finds.firm (λ is. absurd (cc is));
      off_board = λ off. never off;
    }

    -- it was to change the board, and perhaps then the shelf
    module _ {mid new : Disk} {T U F : Type 0} {value : T} {result : Result U F} {next : State} {later : ShelfFiles} {reply : Reply}
        (finds : Finds Stores world.state (act.migrated world.state) old mid (Ok value)) (changes : Changes Stores (act.migrated world.state) next mid new result)
        (step : act.Step world (stepped_to (here next later) reply)) where
      after_it : (files : Data.HostFiles) → Stores next files → After Stores act world files
      after_it files stores = record { stepped = stepped_to (here next later) reply; step = step; stores = stores }

      changed : Keeps (BeforeOrAfter Stores act world) old new
      changed = keeps_on (found finds) (keeps_wider (λ files either. ⊎_elim (λ still. inl (as_before files (inr still))) (λ stores. inr (after_it files stores)) either) changes.keeps)

      -- the change failed
      pub change_fails : Works Stores act world old new shelf (Err DiskFault)
      change_fails = record {
        keeps = changed;
        ends = record { silent = λ is. absurd (cc is); stopped = (changed.reads.files, changed.reads.said, at.shelf_is) };
        firm = λ sound. absurd (sound refl);
        off_board = λ off. never off;
      }

    module _ {mid new : Disk} {T U F : Type 0} {value : T} {done : U} {next : State} {reply : Reply}
        (finds : Finds Stores world.state (act.migrated world.state) old mid (Ok value)) (changes : Changes Stores {E = F} (act.migrated world.state) next mid new (Ok done)) where
      -- the board was changed, and the shelf is as wanted
      pub changes_board : {wanted later : ShelfFiles} → later ≡ wanted → act.Step world (stepped_to (here next wanted) reply) → Works Stores act world old new later (Ok reply)
      changes_board {wanted = wanted} later_is step = record {
        keeps = changed finds changes step;
        ends = record {
          stepped = stepped_to (here next wanted) reply;
          step = step;
          text_is = refl;
          class_is = refl;
          said_is = (changed finds changes step).reads.said;
          at = record { board = changes.done.0; shelf_is = later_is };
          firm = λ touched. changes.done.1;
        };
        firm = λ sound firm. changes.done.1;
        off_board = λ off. never off;
      }

      -- the board was changed, and then the shelf failed
      pub export_fails : {wanted later : ShelfFiles} → IsTrue act.reach.exports → SameBut act.reach.names shelf later
          → act.Step world (stepped_to (here next wanted) reply) → Works Stores act world old new later (Err ShelfFault)
      export_fails {later = later} exports same step = record {
        keeps = changed finds changes step;
        ends = record {
          silent = λ is. absurd (cc is);
          stopped = (
            inr (exports, after_it finds changes step _ changes.done.0.stores),
            (changed finds changes step).reads.said,
            (λ name other. same name other ∙ same_shelf act.reach.names name other),
          );
        };
        firm = λ sound firm. changes.done.1;
        off_board = λ off. never off;
      }

-- a command that reaches the shelf alone
module _ {State : Type 0} (Stores : State → Data.HostFiles → Type 0) (act : ShelfAct) {world : World State} {old : Disk} {shelf : ShelfFiles}
    (at : IsAt Stores world old shelf) where
  kept_still : Keeps (BeforeOrAfter Stores (on_shelf act) world) old old
  kept_still = keeps_still (inl (inl at.board.stores)) at.board.settled

  pub serves : {later : ShelfFiles} (result : Result Reply Stop) → Serves act shelf later result → Works Stores (on_shelf act) world old old later result
  serves {later = later} (Ok reply) served = record {
    keeps = kept_still;
    ends = record {
      stepped = stepped_to (here world.state later) reply;
      step = (subst (λ (files : ShelfFiles). act.step files later reply) at.shelf_is served, refl);
      text_is = refl;
      class_is = refl;
      said_is = refl;
      at = record { board = at.board; shelf_is = refl };
      firm = λ on. absurd (true≢false (sym on));
    };
    firm = λ sound firm. firm;
    off_board = λ off. as_now old;
  }
  serves {later = later} (Err ShelfFault) same = record {
    keeps = kept_still;
    ends = record {
      silent = λ is. absurd (cc is);
      stopped = (inl (inl at.board.stores), refl, (λ name other. same name other ∙ ap (λ (files : ShelfFiles). held files name) at.shelf_is));
    };
    firm = λ sound firm. firm;
    off_board = λ off. as_now old;
  }
  serves {later = later} (Err OutOfMemory) same = record {
    keeps = kept_still;
    ends = record { silent = λ is. absurd (cc is); stopped = (inl at.board.stores, refl, same ∙ at.shelf_is) };
    firm = λ sound firm. firm;
    off_board = λ off. as_now old;
  }
  serves (Err DiskFault) none = absurd none
  serves (Err VoiceFault) none = absurd none

-- a count that a call left, and then another call
kept_on : {old mid new : ℕ} {fault result : Status} → (status.Done ≡ fault) ⊎ (mid ≡ old) → status.Done ≢ fault → (result ≡ fault) ⊎ (new ≡ mid) → (result ≡ fault) ⊎ (new ≡ old)
kept_on first other second = ⊎_elim (λ is. absurd (other is)) (λ same. ⊎_elim (λ is. inl is) (λ still. inr (still ∙ same)) second) first

-- calls that end well, and then one
pub causes_on : {old mid new : FaultCounts} {result : Status} → HasCauses old mid status.Done → HasCauses mid new result → HasCauses old new result
causes_on first second = record {
  disk_later = omega (arith, first.disk_later, second.disk_later);
  voice_later = omega (arith, first.voice_later, second.voice_later);
  shelf_later = omega (arith, first.shelf_later, second.shelf_later);
  disk_rose = λ is. omega (arith, first.disk_later, second.disk_rose is);
  voice_rose = λ is. omega (arith, first.voice_later, second.voice_rose is);
  shelf_rose = λ is. omega (arith, first.shelf_later, second.shelf_rose is);
  disk_kept = kept_on first.disk_kept (λ is. absurd (cc is)) second.disk_kept;
  voice_kept = kept_on first.voice_kept (λ is. absurd (cc is)) second.voice_kept;
  shelf_kept = kept_on first.shelf_kept (λ is. absurd (cc is)) second.shelf_kept;
}

-- calls that end well, and then no fault is told
pub causes_quiet : {old new : FaultCounts} {result : Status} → HasCauses old new status.Done → result ≢ status.DiskFault → result ≢ status.VoiceFault → result ≢ status.ShelfFault → HasCauses old new result
causes_quiet causes disk voice shelf = record {
  disk_later = causes.disk_later;
  voice_later = causes.voice_later;
  shelf_later = causes.shelf_later;
  disk_rose = λ is. absurd (disk is);
  voice_rose = λ is. absurd (voice is);
  shelf_rose = λ is. absurd (shelf is);
  disk_kept = inr (⊎_elim (λ is. absurd (cc is)) (λ same. same) causes.disk_kept);
  voice_kept = inr (⊎_elim (λ is. absurd (cc is)) (λ same. same) causes.voice_kept);
  shelf_kept = inr (⊎_elim (λ is. absurd (cc is)) (λ same. same) causes.shelf_kept);
}

-- and then an entry of a class came
pub causes_class : {old new : FaultCounts} (so_far : Status) (class : Class) → (so_far ≡ status.Done) ⊎ (so_far ≡ status.Refused) → HasCauses old new status.Done → HasCauses old new (with_class so_far class)
causes_class {old} {new} so_far Done quiet causes = ⊎_elim
    (λ done. subst (HasCauses old new) (sym done) causes)
    (λ refused. subst (HasCauses old new) (sym refused) (causes_quiet causes (λ is. absurd (cc is)) (λ is. absurd (cc is)) (λ is. absurd (cc is)))) quiet
causes_class so_far Refused quiet causes = causes_quiet causes (λ is. absurd (cc is)) (λ is. absurd (cc is)) (λ is. absurd (cc is))
causes_class so_far Usage quiet causes = causes_quiet causes (λ is. absurd (cc is)) (λ is. absurd (cc is)) (λ is. absurd (cc is))
causes_class so_far Damaged quiet causes = causes_quiet causes (λ is. absurd (cc is)) (λ is. absurd (cc is)) (λ is. absurd (cc is))

-- where the shelf was only read
pub works_same : {State : Type 0} (Stores : State → Data.HostFiles → Type 0) (act : Act State) {world : World State} {old new : Disk} {shelf later : ShelfFiles} {result : Result Reply Stop}
    → later ≡ shelf → Works Stores act world old new shelf result → Works Stores act world old new later result
works_same Stores act {world} {old} {new} {shelf} {later} {result} same works = subst (λ (files : ShelfFiles). Works Stores act world old new files result) (sym same) works

-- a reply was said behind a command, whole or not
pub spoken_causes : {old mid : FaultCounts} {disk voice : ℕ} {T E : Type 0} (class : Class) (spoken : Result T E) → HasCauses old mid status.Done → disk ≡ mid.disk → HasCause mid.voice voice spoken
    → HasCauses old (counts disk voice mid.shelf) (ended (once_said class spoken))
spoken_causes {old} {mid} {disk} {voice} class spoken causes same cause = causes_on causes (said spoken cause)
  where
    said : {T E : Type 0} (s : Result T E) → HasCause mid.voice voice s → HasCauses mid (counts disk voice mid.shelf) (ended (once_said class s))
    said (Ok value) c = record {
      disk_later = omega (arith, same);
      voice_later = c.later;
      shelf_later = omega arith;
      disk_rose = λ is. absurd (cc is);
      voice_rose = λ is. absurd (cc is);
      shelf_rose = λ is. absurd (cc is);
      disk_kept = inr same;
      voice_kept = inr c.kept;
      shelf_kept = inr refl;
    }
    said (Err fault) c = record {
      disk_later = omega (arith, same);
      voice_later = c.later;
      shelf_later = omega arith;
      disk_rose = λ is. absurd (cc is);
      voice_rose = λ is. c.failed;
      shelf_rose = λ is. absurd (cc is);
      disk_kept = inr same;
      voice_kept = inl refl;
      shelf_kept = inr refl;
    }
