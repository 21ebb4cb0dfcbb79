-- Runs as passages, and passages one behind the other as one history.
use Rattle.std.proofs.Common.{◌≡◌, ◌⊎◌, ◌≤◌, inl, inr, ⊎_elim, ℕ, zero, suc, List, [], ◌∷◌, ◌++◌, length, Option, Some, None, refl, sym, ◌∙◌, ap, subst, append_assoc}
use Rattle.std.proofs.lemmas.List.{append-nil, map-append}
use Rattle.std.proofs.lemmas.List.Elements.{All-nil, All-cons, All-append, Contains-append_left, Contains-append_right, Contains-push}
use Rattle.std.specs.Prelude.{Contains, slice_get}
use Rattle.cmd_board.proofs.BoardActs.{migrated_once}
use Rattle.cmd_board.proofs.StateLaws.{one_state, some_state}
use Rattle.cmd_board.specs.State.{State, NotMade, Made, Old, Spoiled, AreSpoiled, IsSpoiled, Stores, migrated}
use Rattle.board_laws.proofs.KeptLaws.{stays_offered}
use Rattle.board_laws.proofs.OnceLaws.{changes_once}
use Rattle.board_laws.proofs.PassedLaws.{is_passed}
use Rattle.board_laws.specs.History.{Deed, IsBeginning, IsHistory, LeadsTo, after, left_by}
use Rattle.cmd_entries.specs.Entries.{EntriesRead}
use Rattle.cmd_entries.specs.declared.entry.Entry.{Entry}
use Rattle.door_outside.specs.Disk.{Disk, Image, AllNow, as_read}
use Rattle.door_outside.specs.Shelf as Shelf
use Rattle.door_outside.specs.Shelf.{SameBut, held}
use Rattle.entry_runs.specs.Door.{World, here, Step}
use Rattle.entry_runs.specs.Promise.{AllSince, Before, IsFront, IsHeld, IsRunCutShort, IsUntouched, IsWhole, Stopped}
use Rattle.entry_runs.specs.Runs.{RunOutcome, Runs, Stepped, stopped_status}
use Rattle.entry_runs.specs.declared.status.Status.{Status}
use Rattle.entry_runs.specs.declared.stop.Stop.{Stop}
use Rattle.entry_runs.specs.declared.stop.Stop.TheVariants.{DiskFault, ShelfFault, VoiceFault, OutOfMemory}
use Rattle.intent_journal.specs.Hosts.{IsSettled}
use Rattle.intent_journal.specs.Patches.{HostFiles, data_files}
use Rattle.intent_journal.specs.Recovered.{recovered}
use Rattle.mail_cli.proofs.BoardEntries.{are_commands}
use Rattle.mail_cli.proofs.EntryLaws.{entry_keeps_state, lawful, one_migration}
use Rattle.mail_cli.proofs.Histories.{IsEither, all_moved, from_either, with_one, runs_more, stand_for}
use Rattle.mail_cli.proofs.Reading.{read_ends, read_survives, unread_ends, unread_survives}
use Rattle.mail_cli.specs.BoardEntry.{board_command, steps}
use Rattle.mail_cli.specs.Histories.{AreTried, StandFor, reached}
use Rattle.mail_cli.specs.Passages.{AreJoined, AreTold, Begun, Brings, BringsAsThen, BringsToExit, BringsToImage, EndsStopped, EndsWhole, HaveBrought, IsOnePassage, IsPassage, KeepPromises, Passage, RunJoins, TakesFirst, begun, passage}
use Rattle.mail_cli.specs.Run.{EntriesEnd, EntriesSurvive, NeverSpoils, RunEnds, RunSurvives}
use Rattle.mail_cli.specs.Step.{act, door}

-- ---- one run
-- the whole of what was to be said
abbrev all_heard : (replies : List ℕ) → IsFront replies replies
all_heard replies = record { unheard = []; whole = sym (append-nil replies) }

-- an entry was stopped before it changed anything, or after the board was migrated
before_stands : (now : ℕ) (entry : Entry) (state : State) (files : HostFiles) → Before Stores (act now entry) state files → StandFor state files
before_stands now entry state files (inl still) = inl still
before_stands now entry state files (inr (touched, moved_on)) = inr (subst (λ (s : State). Stores s files) (one_migration now entry state touched) moved_on)

module _ (run : Begun) (old new : Disk) (state : State) (stores : Stores state (recovered old.files)) (all : List Entry) (tried : AreTried run.words run.shelf all) where
  whole_ends : EntriesRead run.words run.shelf all → (result : Status) (later : Shelf.ShelfFiles) → IsWhole (door run.now) result (here state run.shelf) all old new later → EndsWhole run old new result later
  whole_ends reads result later whole = record {
    brings = record {
      entries = whole.taken;
      outcome = whole.outcome;
      first = record { all = all; left = whole.left; tried = tried; split = whole.split };
      is = record { start = state; stores = stores; runs = whole.runs; leaves = inl whole.stores };
      heard = whole.outcome.replies;
      part = all_heard whole.outcome.replies;
      said_is = whole.said_is;
    };
    read = reads;
    are_taken = whole.are_taken;
    status_is = whole.status_is;
    all_said = refl;
    shelf_is = whole.shelf_is;
  }

  -- ---- it was stopped in an entry
  module _ (front back : List Entry) (entry : Entry) (outcome : RunOutcome (World State)) (split : all ≡ front ++ entry ∷ back) (runs : Runs (Step (door run.now)) (here state run.shelf) front outcome) where
    -- before that changed anything
    abbrev early : Before Stores (act run.now entry) outcome.world.state (recovered new.files) → new.said ≡ old.said ++ outcome.replies → BringsToExit run old new
    early before said = record {
      entries = front;
      outcome = outcome;
      first = record { all = all; left = entry ∷ back; tried = tried; split = split };
      is = record { start = state; stores = stores; runs = runs; leaves = before_stands run.now entry outcome.world.state (recovered new.files) before };
      heard = outcome.replies;
      part = all_heard outcome.replies;
      said_is = said;
    }

    -- once it was carried out, and a front of its reply was said
    abbrev late : (stepped : Stepped (World State)) → Step (door run.now) outcome.world entry stepped → Stores stepped.world.state (recovered new.files) → (heard : List ℕ) → IsFront heard stepped.reply
        → new.said ≡ (old.said ++ outcome.replies) ++ heard → BringsToExit run old new
    late stepped step then heard part said = record {
      entries = front ++ entry ∷ [];
      outcome = with_one outcome stepped;
      first = record { all = all; left = back; tried = tried; split = split ∙ sym (append_assoc front (entry ∷ []) back) };
      is = record { start = state; stores = stores; runs = runs_more (Step (door run.now)) (here state run.shelf) front entry outcome stepped runs step; leaves = inl then };
      heard = outcome.replies ++ heard;
      part = record { unheard = part.unheard; whole = ap (λ (l : List ℕ). outcome.replies ++ l) part.whole ∙ sym (append_assoc outcome.replies heard part.unheard) };
      said_is = said ∙ append_assoc old.said outcome.replies heard;
    }

    stopped_in : Contains all entry
    stopped_in = subst (λ (es : List Entry). Contains es entry) (sym split) (Contains-append_right front (entry ∷ back) entry (Contains-append_left (entry ∷ []) back entry (Contains-push [] entry)))

    -- and nothing of its reply was said, nor perhaps its files written
    unsaid : (stop : Stop) (result : Status) (later : Shelf.ShelfFiles) → result ≡ stopped_status stop → (stepped : Stepped (World State)) → Step (door run.now) outcome.world entry stepped → Stores stepped.world.state (recovered new.files)
        → new.said ≡ old.said ++ outcome.replies → SameBut (act run.now entry).reach.names outcome.world.shelf later → EndsStopped run old new result later
    unsaid stop result later is stepped step then said same = record {
      brings = late stepped step then [] (record { unheard = stepped.reply; whole = refl }) (said ∙ sym (append-nil (old.said ++ outcome.replies)));
      stop = stop;
      status_is = is;
      shelf_is = inr (entry, stopped_in, (λ name other. same name other ∙ sym ((lawful run.now entry).within_reach outcome.world stepped step name other)));
    }

    same_but : (later : Shelf.ShelfFiles) → later ≡ outcome.world.shelf → SameBut (act run.now entry).reach.names outcome.world.shelf later
    same_but later same name other = ap (λ (files : Shelf.ShelfFiles). held files name) same

    stopped_ends : (stop : Stop) (result : Status) (later : Shelf.ShelfFiles) → result ≡ stopped_status stop → Stopped Stores (act run.now entry) stop outcome.world (old.said ++ outcome.replies) new later → EndsStopped run old new result later
    stopped_ends DiskFault result later is (inl before, said, same) = record { brings = early before said; stop = DiskFault; status_is = is; shelf_is = inl same }
    stopped_ends DiskFault result later is (inr then, said, same) = unsaid DiskFault result later is then.stepped then.step then.stores said (same_but later same)
    stopped_ends ShelfFault result later is (inl before, said, same) = record { brings = early before said; stop = ShelfFault; status_is = is; shelf_is = inr (entry, stopped_in, same) }
    stopped_ends ShelfFault result later is (inr (exports, then), said, same) = unsaid ShelfFault result later is then.stepped then.step then.stores said same
    stopped_ends VoiceFault result later is (reply, then, same) = record {
      brings = late reply.stepped reply.step then reply.heard reply.part reply.said_is;
      stop = VoiceFault;
      status_is = is;
      shelf_is = inl same;
    }
    stopped_ends OutOfMemory result later is (before, said, same) = record { brings = early before said; stop = OutOfMemory; status_is = is; shelf_is = inl same }

  cut_ends : (result : Status) (later : Shelf.ShelfFiles) → IsRunCutShort (door run.now) result (here state run.shelf) all old new later → EndsStopped run old new result later
  cut_ends result later cut = stopped_ends cut.front cut.back cut.entry cut.outcome cut.split cut.runs cut.stop result later cut.status_is cut.stopped

  -- ---- a crash came
  held_brings : (image : Image) → IsHeld (door run.now) (here state run.shelf) all old image → BringsToImage run old new image
  held_brings image it = record {
    entries = it.reply.front;
    outcome = it.reply.outcome;
    first = record { all = all; left = it.reply.back; tried = tried; split = it.reply.split };
    is = record {
      start = state;
      stores = stores;
      runs = it.reply.runs;
      leaves = ⊎_elim (λ still. inl still) (λ on. inr (subst (λ (s : State). Stores s (recovered image.files)) (one_migration run.now on.next it.reply.outcome.world.state on.touched) on.stores)) it.stores;
    };
    heard = it.reply.heard;
    part = it.reply.part;
    said_is = it.reply.said_is;
  }

  -- entries that touch no board do what they did on the state for which that image's files stand
  untouched_brings : (image : Image) → IsUntouched (door run.now) (here state run.shelf) all old image → BringsAsThen run old new image
  untouched_brings image it =
      let then : (other : State) × Stores other (recovered it.files.before.files) = some_state (recovered it.files.before.files) in
      let next = all_moved run.now it.reply.front (here state run.shelf) it.reply.outcome then.0 it.off_board it.reply.runs in
      let same : recovered it.files.before.files ≡ recovered image.files = ap recovered (sym it.files.files) in
      record {
        before = it.files.before;
        could_be = it.files.could_be;
        files = it.files.files;
        brings = record {
          entries = it.reply.front;
          outcome = next.0;
          first = record { all = all; left = it.reply.back; tried = tried; split = it.reply.split };
          is = record {
            start = then.0;
            stores = then.1;
            runs = next.1;
            leaves = inl (subst (λ (s : State). Stores s (recovered image.files)) (sym next.2) (subst (Stores then.0) same then.1));
          };
          heard = it.reply.heard;
          part = record { unheard = it.reply.part.unheard; whole = sym next.3 ∙ it.reply.part.whole };
          said_is = it.reply.said_is;
        };
        off_board = it.off_board;
      }

-- the entries weren't read
unread_stopped : (run : Begun) (old new : Disk) (state : State) → Stores state (recovered old.files) → (stop : Stop) (result : Status) (later : Shelf.ShelfFiles) → result ≡ stopped_status stop → Stores state (recovered new.files)
    → new.said ≡ old.said → later ≡ run.shelf → EndsStopped run old new result later
unread_stopped run old new state stores stop result later is still said same = record {
  brings = record {
    entries = [];
    outcome = record { world = here state run.shelf; replies = []; classes = [] };
    first = record { all = []; left = []; tried = inr refl; split = refl };
    is = record { start = state; stores = stores; runs = refl; leaves = inl still };
    heard = [];
    part = all_heard [];
    said_is = said ∙ sym (append-nil old.said);
  };
  stop = stop;
  status_is = is;
  shelf_is = inl same;
}

module _ (now : ℕ) (words : List (List ℕ)) (result : Status) (old new : Disk) (shelf later : Shelf.ShelfFiles) where
  exit_of : (state : State) → Stores state (recovered old.files) → RunEnds now words result old new shelf later → EndsWhole (begun now words shelf) old new result later ⊎ EndsStopped (begun now words shelf) old new result later
  exit_of state stores leaves = ⊎_elim
      (λ read. ⊎_elim
      (λ whole. inl (whole_ends (begun now words shelf) old new state stores read.0 (inl read.1) read.1 result later whole))
      (λ cut. inr (cut_ends (begun now words shelf) old new state stores read.0 (inl read.1) result later cut)) read.2)
      (λ unread. inr (unread_stopped (begun now words shelf) old new state stores unread.stop result later unread.status_is unread.stores unread.said_is unread.shelf_is))
      (leaves state stores)

  pub one_passage : RunEnds now words result old new shelf later → RunSurvives now words old new shelf → IsOnePassage (begun now words shelf) old new result later
  one_passage leaves survives =
      let at : (state : State) × Stores state (recovered old.files) = some_state (recovered old.files) in
      let all = survives at.0 at.1 in
      record {
        exit = exit_of at.0 at.1 leaves;
        each = λ image left. ⊎_elim
            (λ it. inl (held_brings (begun now words shelf) old new at.0 at.1 all.0 all.1 image it))
            (λ it. inr (untouched_brings (begun now words shelf) old new at.0 at.1 all.0 all.1 image it))
            (all.2.each image left);
        firm = λ firm image left. held_brings (begun now words shelf) old new at.0 at.1 all.0 all.1 image (all.2.firm firm image left);
      }

-- its entries weren't read
pub unread_passage : (now : ℕ) (words : List (List ℕ)) (stop : Stop) (result : Status) (disk : Disk) (shelf later : Shelf.ShelfFiles) → (stop ≡ ShelfFault) ⊎ (stop ≡ OutOfMemory) → result ≡ stopped_status stop → later ≡ shelf
    → IsSettled disk → IsOnePassage (begun now words shelf) disk disk result later
unread_passage now words stop result disk shelf later from is same settled =
    one_passage now words result disk disk shelf later (unread_ends now words stop result disk shelf later from is same) (unread_survives now words disk shelf settled)

-- they were, and the shelf holds what it did
pub read_passage : (now : ℕ) (words : List (List ℕ)) (entries : List Entry) (result : Status) (old new : Disk) (shelf between later : Shelf.ShelfFiles) → between ≡ shelf → EntriesRead words shelf entries
    → EntriesEnd now entries result old new between later → EntriesSurvive now entries old new between → IsOnePassage (begun now words shelf) old new result later
read_passage now words entries result old new shelf between later same reads leaves survives = one_passage now words result old new shelf later
    (read_ends now words entries old new shelf between same reads result later leaves)
    (read_survives now words entries old new shelf between same reads survives)

-- to its exit, whichever it is
exit_brings : {run : Begun} {old new : Disk} {result : Status} {later : Shelf.ShelfFiles} → EndsWhole run old new result later ⊎ EndsStopped run old new result later → BringsToExit run old new
exit_brings (inl whole) = whole.brings
exit_brings (inr stopped) = stopped.brings

-- ---- one run more
joined_more : (first mid last : HostFiles) (passages : List Passage) (p : Passage) → AreJoined first passages mid → IsPassage mid p last → AreJoined first (passages ++ p ∷ []) last
joined_more first mid last [] p joined is = (last, subst (λ (files : HostFiles). IsPassage files p last) joined is, refl)
joined_more first mid last (q ∷ passages) p joined is = (joined.0, joined.1, joined_more joined.0 mid last passages p joined.2 is)

brought_more : {run : Begun} {first mid last : HostFiles} {runs : List Begun} {so_far said : List ℕ} → HaveBrought first runs mid → Brings run mid last so_far said → HaveBrought first (runs ++ run ∷ []) last
brought_more {run} {first} {mid} {last} {runs} brought brings =
    let p : Passage = passage run brings.entries brings.outcome in
    record {
      passages = brought.passages ++ p ∷ [];
      runs_are = map-append (λ (q : Passage). q.run) brought.passages (p ∷ []) ∙ ap (λ (rs : List Begun). rs ++ run ∷ []) brought.runs_are;
      entries_are = All-append TakesFirst brought.passages (p ∷ []) brought.entries_are (All-cons TakesFirst p [] brings.first (All-nil TakesFirst));
      joined = joined_more first mid last brought.passages p brought.joined brings.is;
    }

module _ {run : Begun} {old new : Disk} {result : Status} {later : Shelf.ShelfFiles} (one : IsOnePassage run old new result later) where
  each_brought : (first : HostFiles) (runs : List Begun) → AllNow old (λ image. HaveBrought first runs (recovered image.files)) → AllSince old new (λ image. HaveBrought first (runs ++ run ∷ []) (recovered image.files))
  each_brought first runs brought image left = ⊎_elim
      (λ to. brought_more (brought (as_read old) old.reads) to)
      (λ then. brought_more (brought then.before then.could_be) then.brings)
      (one.each image left)

  pub run_joins : old.clock ≤ new.clock → RunJoins run old new
  run_joins order = record {
    exit = λ first runs brought. brought_more brought (exit_brings one.exit);
    firm = λ firm first runs brought image left. brought_more brought (one.firm firm image left);
    each = each_brought;
    now = λ first runs brought image left. each_brought first runs brought image (new.counts old.clock image order left);
  }

-- ---- files that are no board's
spoiled_before : (state : State) → IsSpoiled (migrated state) → IsSpoiled state
spoiled_before NotMade spoiled = spoiled
spoiled_before (Made b) spoiled = spoiled
spoiled_before (Old b) spoiled = spoiled
spoiled_before (Spoiled files) spoiled = spoiled

state_unspoiled : (state : State) (files : HostFiles) → Stores state files → ¬ AreSpoiled files → ¬ IsSpoiled state
state_unspoiled NotMade files stores none spoiled = spoiled
state_unspoiled (Made b) files stores none spoiled = spoiled
state_unspoiled (Old b) files stores none spoiled = spoiled
state_unspoiled (Spoiled held) files stores none spoiled = none stores.1

files_unspoiled : (state : State) (files : HostFiles) → Stores state files → ¬ IsSpoiled state → ¬ AreSpoiled files
files_unspoiled state files stores none spoiled = none (subst IsSpoiled (one_state files (Spoiled (data_files files)) state (refl, spoiled) stores) tt)

stand_unspoiled : (state : State) (files : HostFiles) → StandFor state files → ¬ IsSpoiled state → ¬ AreSpoiled files
stand_unspoiled state files (inl still) none = files_unspoiled state files still none
stand_unspoiled state files (inr then) none = files_unspoiled (migrated state) files then (λ spoiled. none (spoiled_before state spoiled))

begins_unspoiled : (state : State) → IsBeginning state → ¬ IsSpoiled state
begins_unspoiled NotMade begins spoiled = spoiled
begins_unspoiled (Made b) begins spoiled = spoiled
begins_unspoiled (Old b) begins spoiled = spoiled
begins_unspoiled (Spoiled files) begins spoiled = begins

runs_unspoiled : (now : ℕ) (entries : List Entry) (world : World State) (outcome : RunOutcome (World State)) → Runs (Step (door now)) world entries outcome → ¬ IsSpoiled world.state → ¬ IsSpoiled outcome.world.state
runs_unspoiled now [] world outcome runs none = subst (λ (w : World State). ¬ IsSpoiled w.state) (sym (ap (λ (o : RunOutcome (World State)). o.world) runs)) none
runs_unspoiled now (entry ∷ entries) world outcome runs none =
    subst (λ (w : World State). ¬ IsSpoiled w.state) (sym (ap (λ (o : RunOutcome (World State)). o.world) runs.4))
    (runs_unspoiled now entries runs.0.world runs.1 runs.3 (λ spoiled. none ((entry_keeps_state now entry).still_spoiled world runs.0 runs.2 spoiled)))

brings_unspoiled : {run : Begun} {before behind : HostFiles} {so_far said : List ℕ} → Brings run before behind so_far said → ¬ AreSpoiled before → ¬ AreSpoiled behind
brings_unspoiled {run} {before} {behind} brings none =
    stand_unspoiled brings.outcome.world.state behind brings.is.leaves
    (runs_unspoiled run.now brings.entries (here brings.is.start run.shelf) brings.outcome brings.is.runs (state_unspoiled brings.is.start before brings.is.stores none))

pub never_spoiled : (start : State) → IsBeginning start → (deeds : List (Deed Entry)) → IsHistory steps start deeds → (n : ℕ) → ¬ IsSpoiled (after start deeds n)
never_spoiled start begins deeds history zero = begins_unspoiled start begins
never_spoiled start begins deeds history (suc n) = by (never_spoiled start begins deeds history n) (slice_get deeds n) refl
  where
    by : ¬ IsSpoiled (after start deeds n) → (o : Option (Deed Entry)) → slice_get deeds n ≡ o → ¬ IsSpoiled (left_by (after start deeds n) o)
    by none None is spoiled = none spoiled
    by none (Some d) is spoiled = none ((entry_keeps_state d.now d.entry).still_spoiled (here (after start deeds n) d.shelf) d.stepped (history n d is) spoiled)

pub run_spoils_none : {run : Begun} {old new : Disk} {result : Status} {later : Shelf.ShelfFiles} → IsOnePassage run old new result later → NeverSpoils old new
run_spoils_none {run} {old} {new} one none = record {
  exit = brings_unspoiled (exit_brings one.exit) none;
  each = λ image left. ⊎_elim
      (λ to. inl (brings_unspoiled to none))
      (λ then. inr (record { before = then.before; could_be = then.could_be; files = then.files }))
      (one.each image left);
  always = λ at image left. ⊎_elim
      (λ to. brings_unspoiled to none)
      (λ then. brings_unspoiled then.brings (at then.before then.could_be))
      (one.each image left);
}

-- ---- many runs
-- the state that files stand for, where they stand for another or for that migrated
which_is : (state other : State) (files : HostFiles) → StandFor state files → Stores other files → IsEither state other
which_is state other files (inl stores) stands = inl (one_state files other state stands stores)
which_is state other files (inr stores) stands = inr (one_state files other (migrated state) stands stores)

told_behind : (start : State) (deeds : List (Deed Entry)) (first last : HostFiles) (passages : List Passage) → IsHistory steps start deeds → StandFor (reached start deeds) first → AreJoined first passages last → AreTold start deeds passages last
told_behind start deeds first last [] history stands joined = record {
  more = [];
  entries_are = refl;
  history = subst (IsHistory steps start) (sym (append-nil deeds)) history;
  stores = subst (StandFor (reached start (deeds ++ []))) (sym joined) (subst (λ (ds : List (Deed Entry)). StandFor (reached start ds) first) (sym (append-nil deeds)) stands);
}
told_behind start deeds first last (p ∷ passages) history stands joined =
    let between : HostFiles = joined.0 in
    let is : IsPassage first p between = joined.1 in
    let one = which_is (reached start deeds) is.start first stands is.stores in
    let next = from_either start p.run.now deeds history is.start one p.run.shelf p.entries p.outcome is.runs in
    let on = next.1 in
    let left = stand_for next.0 p.outcome.world.state between next.2 is.leaves in
    let rest = told_behind start (deeds ++ on.more) between last passages on.history (subst (λ (s : State). StandFor s between) (sym on.leads) left) joined.2 in
    let same : (deeds ++ on.more) ++ rest.more ≡ deeds ++ (on.more ++ rest.more) = append_assoc deeds on.more rest.more in
    record {
      more = on.more ++ rest.more;
      entries_are = map-append (λ (deed : Deed Entry). deed.entry) on.more rest.more ∙ (λ i. on.are.entries_are i ++ rest.entries_are i);
      history = subst (IsHistory steps start) same rest.history;
      stores = subst (λ (ds : List (Deed Entry)). StandFor (reached start ds) last) same rest.stores;
    }

no_history : (start : State) → IsHistory steps start []
no_history start n deed is = absurd (cc is)

-- either is one board
one_board : (state other : State) → IsEither state other → migrated state ≡ migrated other
one_board state other (inl same) = ap migrated (sym same)
one_board state other (inr same) = sym (ap migrated same ∙ migrated_once state)

pub keep_promises : (start : State) → IsBeginning start → (first last : HostFiles) (passages : List Passage) → Stores start first → AreJoined first passages last → KeepPromises start passages last
keep_promises start begins first last passages stores joined =
    let all : AreTold start [] passages last = told_behind start [] first last passages (no_history start) (inl stores) joined in
    record {
      told = all;
      offers = λ state board stands made i within then there user no_ack limit m offers live most enough.
          let one = which_is (reached start all.more) state last all.stores stands in
          stays_offered board_command steps are_commands start begins all.more all.history i (length all.more) within then board there
          (one_board (reached start all.more) state one ∙ made) user no_ack limit m offers live most enough;
      passed = λ none state board stands made user m seen pointer there upto.
          let one = which_is (reached start all.more) state last all.stores stands in
          is_passed board_command steps are_commands all.more (subst (λ (s : State). IsHistory steps s all.more) none all.history) (length all.more) board
          (subst (λ (s : State). LeadsTo s all.more (length all.more) board) none (one_board (reached start all.more) state one ∙ made)) user m seen pointer there upto;
      posts = λ user digest i j former changed second again. changes_once board_command steps are_commands start all.more all.history user digest i j former changed second again;
      unspoiled = stand_unspoiled (reached start all.more) last all.stores (never_spoiled start begins all.more all.history (length all.more));
    }

-- no run brings files to themselves
pub none_brought : (files : HostFiles) → HaveBrought files [] files
none_brought files = record { passages = []; runs_are = refl; entries_are = All-nil TakesFirst; joined = refl }
