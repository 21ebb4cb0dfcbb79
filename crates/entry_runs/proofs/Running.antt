-- The induction over the entries of a run, made once for all doors.
use Rattle.std.proofs.Common.{◌≡◌, ◌≢◌, ◌⊎◌, inl, inr, ⊎_elim, ℕ, Bool, true, false, List, [], ◌∷◌, ◌++◌, refl, sym, ◌∙◌, ap, subst, arith, append_assoc, ◌+◌, ◌<◌, length, get_or, drop}
use Rattle.std.proofs.lemmas.Bool.{true≢false}
use Rattle.std.proofs.lemmas.List.{append-nil, drop_more}
use Rattle.std.proofs.lemmas.List.Folds.{list_any-append}
use Rattle.std.specs.Prelude.{◌||◌, Result, Ok, Err, IsErrOf, IsTrue}
use Rattle.door_outside.specs.Disk.{Disk, Image, Now, AllNow, Between}
use Rattle.door_outside.specs.Shelf.{ShelfFiles}
use Rattle.door_outside.proofs.Moments.{still, joined, weaker}
use Rattle.intent_journal.specs.Hosts.{IsFirm, IsSettled}
use Rattle.intent_journal.specs.Patches as Data
use Rattle.intent_journal.specs.Recovered.{recovered}
use Rattle.entry_runs.specs.Door.{World, Door, Step, touches, any_touches, AreLawful}
use Rattle.entry_runs.specs.Entry.{IsAt, Carried, InReply, OffBoard, InEntry, Performs}
use Rattle.entry_runs.specs.Promise.{AsThen, AllSince, carried_out, FaultCounts, HasCauses, Before, After, Replies, Stopped, IsWhole, IsRunCutShort, EndsAs, Completes, Heard, IsHeld, IsMigrating, IsUntouched, Survives}
use Rattle.entry_runs.specs.Runs.{Stepped, RunOutcome, Runs, GoesOn, IsReached, AreTaken, is_last, with_class, status_after, status_of, stopped_status}
use Rattle.entry_runs.specs.declared.class.Class.{Class}
use Rattle.entry_runs.specs.declared.class.Class.TheVariants.{Done, Refused, Usage, Damaged}
use Rattle.entry_runs.specs.declared.status.Status.{Status}
use Rattle.entry_runs.specs.declared.status.Status.TheVariants as status
use Rattle.entry_runs.specs.declared.stop.Stop.{Stop}
use Rattle.entry_runs.specs.declared.stop.Stop.TheVariants.{DiskFault, ShelfFault, VoiceFault, OutOfMemory}
use Rattle.entry_runs.proofs.Voice.{as_now, as_before}

goes_more : (classes : List Class) (class : Class) → GoesOn classes → is_last class ≡ false → GoesOn (classes ++ class ∷ [])
goes_more [] class goes one = (one, tt)
goes_more (c ∷ classes) class goes one = (goes.0, goes_more classes class goes.1 one)

reached_all : (classes : List Class) → GoesOn classes → IsReached classes
reached_all [] goes = tt
reached_all (c ∷ classes) goes = inr (goes.0, reached_all classes goes.1)

reached_more : (classes : List Class) (class : Class) → GoesOn classes → IsReached (classes ++ class ∷ [])
reached_more [] class goes = inl refl
reached_more (c ∷ classes) class goes = inr (goes.0, reached_more classes class goes.1)

taken_all : (Entry : Type 0) (classes : List Class) → GoesOn classes → AreTaken {Entry = Entry} classes []
taken_all Entry [] goes = refl
taken_all Entry (c ∷ classes) goes = inr (goes.0, taken_all Entry classes goes.1)

taken_last : {Entry : Type 0} (classes : List Class) (class : Class) (left : List Entry) → GoesOn classes → is_last class ≡ true → AreTaken (classes ++ class ∷ []) left
taken_last [] class left goes last = inl (last, refl)
taken_last (c ∷ classes) class left goes last = inr (goes.0, taken_last classes class left goes.1 last)

status_more : (so_far : Status) (classes : List Class) (class : Class) → status_after so_far (classes ++ class ∷ []) ≡ with_class (status_after so_far classes) class
status_more so_far [] class = refl
status_more so_far (c ∷ classes) class = status_more (with_class so_far c) classes class

-- an outcome, and one entry more
abbrev one_more : {State : Type 0} → RunOutcome (World State) → Stepped (World State) → RunOutcome (World State)
one_more outcome stepped = record { world = stepped.world; replies = outcome.replies ++ stepped.reply; classes = outcome.classes ++ stepped.class ∷ [] }

module _ {State Entry : Type 0} (Does : World State → Entry → Stepped (World State) → Type 0) where
  runs_more : (start : World State) (front : List Entry) (outcome : RunOutcome (World State)) (entry : Entry) (stepped : Stepped (World State)) → Runs Does start front outcome → Does outcome.world entry stepped
      → Runs Does start (front ++ entry ∷ []) (one_more outcome stepped)
  runs_more start [] outcome entry stepped runs step = (
    stepped,
    record { world = stepped.world; replies = []; classes = [] },
    subst (λ (w : World State). Does w entry stepped) (ap (λ (o : RunOutcome (World State)). o.world) runs) step,
    refl,
    (λ i. record {
      world = stepped.world;
      replies = (ap (λ (o : RunOutcome (World State)). o.replies ++ stepped.reply) runs ∙ sym (append-nil stepped.reply)) i;
      classes = ap (λ (o : RunOutcome (World State)). o.classes ++ stepped.class ∷ []) runs i;
    }),
  )
  runs_more start (e ∷ front) outcome entry stepped runs step =
      let one = runs.0 in
      let rest = runs.1 in
      let is = runs.4 in (
        one,
        one_more rest stepped,
        runs.2,
        runs_more one.world front rest entry stepped runs.3 (subst (λ (w : World State). Does w entry stepped) (ap (λ (o : RunOutcome (World State)). o.world) is) step),
        (λ i. record {
          world = stepped.world;
          replies = (ap (λ (o : RunOutcome (World State)). o.replies ++ stepped.reply) is ∙ append_assoc one.reply rest.replies stepped.reply) i;
          classes = ap (λ (o : RunOutcome (World State)). o.classes ++ stepped.class ∷ []) is i;
        }),
      )

or_false : (a b : Bool) → (a || b) ≡ false → (a ≡ false) × (b ≡ false)
or_false true b is = absurd (true≢false is)
or_false false b is = (refl, is)

false_or : (a b : Bool) → a ≡ false → b ≡ false → (a || b) ≡ false
false_or true b a_is b_is = absurd (true≢false a_is)
false_or false b a_is b_is = b_is

by_bool : (b : Bool) → (b ≡ false) ⊎ IsTrue b
by_bool true = inr refl
by_bool false = inl refl

module _ {State Entry : Type 0} (door : Door State Entry) where
  touch_more : (front : List Entry) (entry : Entry) → any_touches door front ≡ false → touches door entry ≡ false → any_touches door (front ++ entry ∷ []) ≡ false
  touch_more front entry none off = list_any-append (touches door) front (entry ∷ []) ∙ false_or _ _ none (false_or _ false off refl)

  -- some touch the board: it was an earlier one, or this one
  touch_last : (front : List Entry) (entry : Entry) → IsTrue (any_touches door (front ++ entry ∷ [])) → any_touches door front ≡ false → IsTrue (touches door entry)
  touch_last front entry some none = elim (by_bool (touches door entry)) [
    | inl off ↦ absurd (true≢false (sym some ∙ touch_more front entry none off))
    | inr on ↦ on
  ]

  -- what a crash in a run leaves
  abbrev pub InRun : World State → List Entry → Disk → Image → Type 0
  InRun start entries old image = IsHeld door start entries old image ⊎ IsUntouched door start entries old image

  -- So far these entries were carried out or refused, and the rest is left. This is the invariant of a run's loop.
  pub record Running (start : World State) (entries rest : List Entry) (old now : Disk) (shelf : ShelfFiles) (so_far : Status) : Type 0 where
    pub done : List Entry
    pub outcome : RunOutcome (World State)
    pub split : entries ≡ done ++ rest
    pub runs : Runs (Step door) start done outcome
    pub goes_on : GoesOn outcome.classes
    pub status_is : so_far ≡ status_of outcome.classes
    pub said_is : now.said ≡ old.said ++ outcome.replies
    pub at : IsAt door.Stores outcome.world now shelf
    pub moments : Between old now (InRun start entries old)
    pub firm : IsFirm old → IsFirm now
    -- no entry touched the board yet, and the images are as at entry; or the host is firm
    pub phase : ((any_touches door done ≡ false) × AllNow now (AsThen old)) ⊎ IsFirm now

  -- on a firm host every image recovers to the board
  durable_by : (disk : Disk) (state : State) → door.Stores state (recovered disk.files) → IsFirm disk → AllNow disk (λ image. door.Stores state (recovered image.files))
  durable_by disk state stores firm image left = subst (door.Stores state) (sym (firm image left)) stores

  -- a run that is at an entry
  pub at_next : {start : World State} {entries rest : List Entry} {entry : Entry} {back : List Entry} {old now : Disk} {shelf : ShelfFiles} {so_far : Status}
      → rest ≡ entry ∷ back → Running start entries rest old now shelf so_far → Running start entries (entry ∷ back) old now shelf so_far
  at_next {start} {entries} {rest} {entry} {back} {old} {now} {shelf} {so_far} is running = subst (λ (es : List Entry). Running start entries es old now shelf so_far) is running

  pub starts : {start : World State} {disk : Disk} {shelf : ShelfFiles} (entries : List Entry) → IsAt door.Stores start disk shelf
      → Running start entries entries disk disk shelf status.Done
  starts {start = start} {disk = disk} entries at = record {
    done = [];
    outcome = record { world = start; replies = []; classes = [] };
    split = refl;
    runs = refl;
    goes_on = tt;
    status_is = refl;
    said_is = sym (append-nil disk.said);
    at = at;
    moments = still disk _;
    firm = λ firm. firm;
    phase = inl (refl, as_now disk);
  }

  module _ (law : AreLawful door) where
    -- entries that don't touch the board leave it
    stores_still : (start : World State) (front : List Entry) (outcome : RunOutcome (World State)) → Runs (Step door) start front outcome → any_touches door front ≡ false
        → (files : Data.HostFiles) → door.Stores start.state files → door.Stores outcome.world.state files
    stores_still start [] outcome runs none files stores = subst (λ (w : World State). door.Stores w.state files) (sym (ap (λ (o : RunOutcome (World State)). o.world) runs)) stores
    stores_still start (e ∷ front) outcome runs none files stores =
        let one = runs.0 in
        let off = or_false (touches door e) (any_touches door front) none in
        subst (λ (w : World State). door.Stores w.state files) (sym (ap (λ (o : RunOutcome (World State)). o.world) runs.4))
        (stores_still one.world front runs.1 runs.3 off.1 files (subst (λ (state : State). door.Stores state files) (sym ((law e).leaves_board off.0 start one runs.2)) stores))

    untouched_held : {start : World State} {entries : List Entry} {old : Disk} → IsFirm old → door.Stores start.state (recovered old.files) → (image : Image)
        → InRun start entries old image → IsHeld door start entries old image
    untouched_held {start} {entries} {old} firm stores image (inl held) = held
    untouched_held {start} {entries} {old} firm stores image (inr untouched) =
        let then = untouched.files in
        let same : recovered image.files ≡ recovered old.files = ap recovered then.files ∙ firm then.before then.could_be in
        record {
          reply = untouched.reply;
          stores = inl (stores_still start untouched.reply.front untouched.reply.outcome untouched.reply.runs untouched.off_board _ (subst (door.Stores start.state) (sym same) stores));
        }

    at_entry : {start : World State} {entries : List Entry} {old : Disk} → (image : Image) → Now old image → InRun start entries old image
    at_entry {start} {entries} {old} image left = inr (record {
      reply = record {
        front = [];
        back = entries;
        outcome = record { world = start; replies = []; classes = [] };
        heard = [];
        split = refl;
        runs = refl;
        reached = tt;
        part = record { unheard = []; whole = refl };
        said_is = old.stays image left ∙ sym (append-nil old.said);
      };
      off_board = refl;
      files = as_now old image left;
    })

    survives_by : {start : World State} {entries : List Entry} {old new : Disk} → door.Stores start.state (recovered old.files) → Between old new (InRun start entries old) → IsSettled new
        → Survives door start entries old new
    survives_by {start} {entries} {old} {new} stores moments settled =
        let each : AllSince old new (InRun start entries old) = λ image left. ⊎_elim (λ before. at_entry image before) (λ in_it. in_it) (moments.each old.clock image (omega arith) left) in
        record {
          each = each;
          firm = λ firm image left. untouched_held firm stores image (each image left);
          settled = settled;
        }

    -- one entry more
    module _ {start : World State} {entries : List Entry} {entry : Entry} {back : List Entry} {old mid : Disk} {shelf : ShelfFiles} {so_far : Status}
        (running : Running start entries (entry ∷ back) old mid shelf so_far) where
      abbrev world : World State
      world = running.outcome.world

      abbrev with_one : Stepped (World State) → RunOutcome (World State)
      with_one stepped = one_more running.outcome stepped

      -- an entry that was carried out, to its end or not, is among those that a run got to
      abbrev heard_more : {said : List ℕ} → Replies (door.act entry) world mid.said said → Heard door start entries old.said said
      heard_more reply = record {
        front = running.done ++ entry ∷ [];
        back = back;
        outcome = with_one reply.stepped;
        heard = running.outcome.replies ++ reply.heard;
        split = running.split ∙ sym (append_assoc running.done (entry ∷ []) back);
        runs = runs_more (Step door) start running.done running.outcome entry reply.stepped running.runs reply.step;
        reached = reached_more running.outcome.classes reply.stepped.class running.goes_on;
        part = record {
          unheard = reply.part.unheard;
          whole = ap (λ (l : List ℕ). running.outcome.replies ++ l) reply.part.whole ∙ sym (append_assoc running.outcome.replies reply.heard reply.part.unheard);
        };
        said_is = reply.said_is ∙ ap (λ (l : List ℕ). l ++ reply.heard) running.said_is ∙ append_assoc old.said running.outcome.replies reply.heard;
      }

      -- the board, or what this entry migrates it to
      before_it : (files : Data.HostFiles) → Before door.Stores (door.act entry) world.state files → door.Stores world.state files ⊎ IsMigrating door running.outcome (entry ∷ back) files
      before_it files either = ⊎_elim
          (λ still. inl still)
          (λ migrated. inr (record { goes_on = running.goes_on; next = entry; back = back; left_is = refl; touched = migrated.0; stores = migrated.1 }))
          either

      held_before : (image : Image) → Before door.Stores (door.act entry) world.state (recovered image.files) → image.said ≡ mid.said → InRun start entries old image
      held_before image stores said = inl (record {
        reply = record {
          front = running.done;
          back = entry ∷ back;
          outcome = running.outcome;
          heard = running.outcome.replies;
          split = running.split;
          runs = running.runs;
          reached = reached_all running.outcome.classes running.goes_on;
          part = record { unheard = []; whole = sym (append-nil running.outcome.replies) };
          said_is = said ∙ running.said_is;
        };
        stores = before_it (recovered image.files) stores;
      })

      held_after : (image : Image) → InReply door.Stores (door.act entry) world mid.said image → InRun start entries old image
      held_after image it = inl (record { reply = heard_more it.reply; stores = inl it.stores })

      -- nothing of its reply was said
      unsaid : (image : Image) → After door.Stores (door.act entry) world (recovered image.files) → image.said ≡ mid.said → InReply door.Stores (door.act entry) world mid.said image
      unsaid image it said = record {
        reply = record {
          stepped = it.stepped;
          step = it.step;
          heard = [];
          part = record { unheard = it.stepped.reply; whole = refl };
          said_is = said ∙ sym (append-nil mid.said);
        };
        stores = it.stores;
      }

      held_off_board : (image : Image) → OffBoard door.Stores (door.act entry) world mid image → InRun start entries old image
      held_off_board image it = ⊎_elim
          (λ early. inr (record {
            reply = heard_more it.reply;
            off_board = touch_more running.done entry early.0 it.off_board;
            files = as_before old mid early.1 image it.files;
          }))
          (λ firm.
          let same : recovered image.files ≡ recovered mid.files = ap recovered it.files.files ∙ firm it.files.before it.files.could_be in
          inl (record {
            reply = heard_more it.reply;
            stores = inl (subst (λ (state : State). door.Stores state (recovered image.files)) (sym ((law entry).leaves_board it.off_board world it.reply.stepped it.reply.step)) (subst (door.Stores world.state) (sym same) running.at.board.stores));
          }))
          running.phase

      in_run : (image : Image) → InEntry door.Stores (door.act entry) world mid image → InRun start entries old image
      in_run image (inl it) = ⊎_elim (λ before. held_before image before it.said) (λ after. held_after image (unsaid image after it.said)) it.files
      in_run image (inr (inl it)) = held_after image it
      in_run image (inr (inr it)) = held_off_board image it

      module _ {new : Disk} {later : ShelfFiles} {result : Result Class Stop} (performs : Performs door.Stores (door.act entry) world mid new later result) where
        moments_on : Between old new (InRun start entries old)
        moments_on = joined running.moments (weaker performs.moments in_run)

        -- what a crash leaves up to the end of the entry
        pub survives_on : door.Stores start.state (recovered old.files) → Survives door start entries old new
        survives_on stores = survives_by stores moments_on performs.settled

        -- where the host was firm at entry, or an earlier entry touched the board, it is firm unless the disk failed
        firm_on : ¬ IsErrOf result DiskFault → IsFirm old ⊎ IsTrue (any_touches door running.done) → IsFirm new
        firm_on sound (inl firm) = performs.firm sound (running.firm firm)
        firm_on sound (inr touched) = ⊎_elim (λ early. absurd (true≢false (sym touched ∙ early.0))) (performs.firm sound) running.phase

      -- the entry was carried out, refused or answered
      module _ {new : Disk} {later : ShelfFiles} {class : Class} (performs : Performs door.Stores (door.act entry) world mid new later (Ok class)) where
        abbrev carried : Carried door.Stores (door.act entry) world mid new later class
        carried = performs.ends

        went_on : ¬ IsErrOf {T = Class} {E = Stop} (Ok class) DiskFault
        went_on is = absurd (cc is)

        status_on : with_class so_far class ≡ status_of (with_one carried.stepped).classes
        status_on = (λ i. with_class (running.status_is i) (sym carried.class_is i)) ∙ sym (status_more status.Done running.outcome.classes carried.stepped.class)

        said_on : new.said ≡ old.said ++ (with_one carried.stepped).replies
        said_on = carried.said_is ∙ ap (λ (l : List ℕ). l ++ carried.stepped.reply) running.said_is ∙ append_assoc old.said running.outcome.replies carried.stepped.reply

        pub runs_on : is_last class ≡ false → Running start entries back old new later (with_class so_far class)
        runs_on goes = record {
          done = running.done ++ entry ∷ [];
          outcome = with_one carried.stepped;
          split = running.split ∙ sym (append_assoc running.done (entry ∷ []) back);
          runs = runs_more (Step door) start running.done running.outcome entry carried.stepped running.runs carried.step;
          goes_on = goes_more running.outcome.classes carried.stepped.class running.goes_on (ap is_last carried.class_is ∙ goes);
          status_is = status_on;
          said_is = said_on;
          at = carried.at;
          moments = moments_on performs;
          firm = λ firm. performs.firm went_on (running.firm firm);
          phase = elim (by_bool (touches door entry)) [
            | inl off ↦ ⊎_elim
                (λ early. inl (touch_more running.done entry early.0 off, (λ image left. as_before old mid early.1 image (performs.off_board off image left))))
                (λ firm. inr (performs.firm went_on firm)) running.phase
            | inr on ↦ inr (performs.touched on tt)
          ];
        }

        pub ends_at : is_last class ≡ true → IsWhole door (with_class so_far class) start entries old new later
        ends_at last = record {
          taken = running.done ++ entry ∷ [];
          left = back;
          outcome = with_one carried.stepped;
          split = running.split ∙ sym (append_assoc running.done (entry ∷ []) back);
          runs = runs_more (Step door) start running.done running.outcome entry carried.stepped running.runs carried.step;
          are_taken = taken_last running.outcome.classes carried.stepped.class back running.goes_on (ap is_last carried.class_is ∙ last);
          status_is = status_on;
          stores = carried.at.board.stores;
          said_is = said_on;
          shelf_is = carried.at.shelf_is;
          rests = rests_after;
          durable = λ from. durable_by new carried.stepped.world.state carried.at.board.stores (rests_after from);
        }
          where
            rests_after : IsFirm old ⊎ IsTrue (any_touches door (running.done ++ entry ∷ [])) → IsFirm new
            rests_after from = ⊎_elim (λ firm. performs.firm went_on (running.firm firm))
                (λ touched. ⊎_elim (λ early. performs.touched (touch_last running.done entry touched early.0) tt) (λ firm. performs.firm went_on firm) running.phase) from

      stopped_firm : {new : Disk} {later : ShelfFiles} (stop : Stop) → Performs door.Stores (door.act entry) world mid new later (Err stop)
          → stop ≢ DiskFault → IsFirm old ⊎ IsTrue (any_touches door (carried_out stop running.done entry)) → IsFirm new
      stopped_firm DiskFault performs sound from = absurd (sound refl)
      stopped_firm ShelfFault performs sound from = firm_on performs (λ is. absurd (cc is)) from
      stopped_firm OutOfMemory performs sound from = firm_on performs (λ is. absurd (cc is)) from
      stopped_firm VoiceFault performs sound (inl firm) = firm_on performs (λ is. absurd (cc is)) (inl firm)
      stopped_firm VoiceFault performs sound (inr touched) =
          ⊎_elim (λ early. performs.touched (touch_last running.done entry touched early.0) tt) (λ firm. performs.firm (λ is. absurd (cc is)) firm) running.phase

      -- the entry was stopped
      pub stops : {new : Disk} {later : ShelfFiles} {stop : Stop} → Performs door.Stores (door.act entry) world mid new later (Err stop)
          → IsRunCutShort door (stopped_status stop) start entries old new later
      stops {new = new} {later = later} {stop = stop} performs = record {
        front = running.done;
        entry = entry;
        back = back;
        outcome = running.outcome;
        stop = stop;
        split = running.split;
        runs = running.runs;
        goes_on = running.goes_on;
        status_is = refl;
        stopped = subst (λ (l : List ℕ). Stopped door.Stores (door.act entry) stop world l new later) running.said_is performs.ends;
        rests = stopped_firm stop performs;
      }

    rests_at_end : {start : World State} {entries rest : List Entry} {old now : Disk} {shelf : ShelfFiles} {so_far : Status}
        → (running : Running start entries rest old now shelf so_far) → IsFirm old ⊎ IsTrue (any_touches door running.done) → IsFirm now
    rests_at_end running from =
        ⊎_elim (λ firm. running.firm firm) (λ touched. ⊎_elim (λ early. absurd (true≢false (sym touched ∙ early.0))) (λ firm. firm) running.phase) from

    -- no entry is left
    pub ends : {start : World State} {entries rest : List Entry} {old now : Disk} {shelf : ShelfFiles} {so_far : Status}
        → rest ≡ [] → Running start entries rest old now shelf so_far → IsWhole door so_far start entries old now shelf
    ends {now = now} none running = record {
      taken = running.done;
      left = [];
      outcome = running.outcome;
      split = running.split ∙ ap (λ (es : List Entry). running.done ++ es) none;
      runs = running.runs;
      are_taken = taken_all _ running.outcome.classes running.goes_on;
      status_is = running.status_is;
      stores = running.at.board.stores;
      said_is = running.said_is;
      shelf_is = running.at.shelf_is;
      rests = rests_at_end running;
      durable = λ from. durable_by now running.outcome.world.state running.at.board.stores (rests_at_end running from);
    }

    pub survives : {start : World State} {entries rest : List Entry} {old now : Disk} {shelf : ShelfFiles} {so_far : Status}
        → door.Stores start.state (recovered old.files) → Running start entries rest old now shelf so_far → Survives door start entries old now
    survives stores running = survives_by stores running.moments running.at.board.settled

  -- where no count rose, a run that was cut short found no memory
  pub completes : {result : Status} {start : World State} {entries : List Entry} {old new : Disk} {shelf : ShelfFiles} {counts after : FaultCounts}
      → HasCauses counts after result → EndsAs door result start entries old new shelf → Completes door counts after result start entries old new shelf
  completes {result} {start} {entries} {old} {new} {shelf} causes (inl whole) none = inr whole
  completes {result} {start} {entries} {old} {new} {shelf} causes (inr cut) none = by_stop cut.stop cut.status_is
    where
      by_stop : (stop : Stop) → result ≡ stopped_status stop → (result ≡ status.OutOfMemory) ⊎ IsWhole door result start entries old new shelf
      by_stop DiskFault is = absurd (none.disk (causes.disk_rose is))
      by_stop ShelfFault is = absurd (none.shelf (causes.shelf_rose is))
      by_stop VoiceFault is = absurd (none.voice (causes.voice_rose is))
      by_stop OutOfMemory is = inl is

-- the entry that a loop over entries is at
pub next_entry : {E : Type 0} (entries : List E) (i : ℕ) (entry : E) → i < length entries → entry ≡ get_or entries i entry → drop i entries ≡ entry ∷ drop (i + 1) entries
next_entry entries i entry below is = drop_more entries i entry below ∙ ap (λ e. e ∷ drop (i + 1) entries) (sym is)

-- a run that goes on has been done or refused so far
pub quiet_on : (so_far : Status) (class : Class) → (so_far ≡ status.Done) ⊎ (so_far ≡ status.Refused) → is_last class ≡ false
    → (with_class so_far class ≡ status.Done) ⊎ (with_class so_far class ≡ status.Refused)
quiet_on so_far Done quiet goes = quiet
quiet_on so_far Refused quiet goes = inr refl
quiet_on so_far Usage quiet goes = absurd (true≢false goes)
quiet_on so_far Damaged quiet goes = absurd (true≢false goes)
