-- A run, and what a crash leaves of it, behind a history.
use Rattle.std.proofs.Common.{◌≡◌, ◌⊎◌, inl, inr, ⊎_elim, ℕ, zero, suc, ◌+◌, ◌<◌, ◌≤◌, Bool, true, false, List, [], ◌∷◌, ◌++◌, length, Option, Some, None, refl, sym, ◌∙◌, ap, subst, append_assoc, arith, length-append}
use Rattle.std.proofs.lemmas.Bool.{cases_lt, true≢false}
use Rattle.std.proofs.lemmas.List.{append-nil}
use Rattle.std.proofs.lemmas.List.Elements.{All-nil, All-cons}
use Rattle.std.proofs.lemmas.Option.{slice_get_within}
use Rattle.std.specs.Prelude.{slice_get, ◌||◌}
use Rattle.door_outside.specs.Disk.{Disk, Image}
use Rattle.door_outside.specs.Shelf as Shelf
use Rattle.entry_runs.specs.Door.{World, here, Step, any_touches, touches}
use Rattle.entry_runs.specs.Runs.{RunOutcome, Runs, Stepped}
use Rattle.entry_runs.specs.Promise.{Before, IsHeld, IsUntouched, EndsAs, Stopped}
use Rattle.entry_runs.specs.declared.status.Status.{Status}
use Rattle.entry_runs.specs.declared.stop.Stop.{Stop}
use Rattle.entry_runs.specs.declared.stop.Stop.TheVariants.{DiskFault, ShelfFault, VoiceFault, OutOfMemory}
use Rattle.intent_journal.specs.Patches.{HostFiles}
use Rattle.intent_journal.specs.Recovered.{recovered}
use Rattle.cmd_board.proofs.BoardActs.{migrated_once}
use Rattle.cmd_board.specs.State.{State, Stores, migrated}
use Rattle.board_laws.specs.History.{Deed, IsHistory, after, left_by}
use Rattle.cmd_entries.specs.declared.command.Command.TheVariants as command
use Rattle.cmd_entries.specs.declared.entry.Entry.{Entry}
use Rattle.cmd_entries.specs.declared.entry.Entry.TheVariants.{Run, Wrong, Refuse}
use Rattle.mail_cli.proofs.EntryLaws.{lawful, one_migration}
use Rattle.mail_cli.specs.BoardEntry.{steps}
use Rattle.mail_cli.specs.Histories.{Continues, HoldsAsThen, HoldsFront, RunBreaksSo, RunContinues, RunEndsSo, StandFor, reached}
use Rattle.mail_cli.specs.Run.{RunEnds, RunSurvives}
use Rattle.mail_cli.specs.Step.{act, door}

-- ---- one deed more
at_front : {A : Type 0} (xs ys : List A) (n : ℕ) → n < length xs → slice_get (xs ++ ys) n ≡ slice_get xs n
at_front [] ys n below = absurd (omega (arith, below))
at_front (x ∷ xs) ys zero below = refl
at_front (x ∷ xs) ys (suc n) below = at_front xs ys n (omega (arith, below))

at_end : {A : Type 0} (xs : List A) (y : A) → slice_get (xs ++ y ∷ []) (length xs) ≡ Some y
at_end [] y = refl
at_end (x ∷ xs) y = at_end xs y

module _ (start : State) where
  after_front : (deeds more : List (Deed Entry)) (n : ℕ) → n ≤ length deeds → after start (deeds ++ more) n ≡ after start deeds n
  after_front deeds more zero within = refl
  after_front deeds more (suc n) within =
      (λ i. left_by (after_front deeds more n (omega (arith, within)) i) (at_front deeds more n (omega (arith, within)) i))

  one_reached : (deeds : List (Deed Entry)) (deed : Deed Entry) → reached start (deeds ++ deed ∷ []) ≡ deed.stepped.world.state
  one_reached deeds deed =
      let long : length (deeds ++ deed ∷ []) ≡ suc (length deeds) = omega (arith, length-append deeds (deed ∷ [])) in
      ap (after start (deeds ++ deed ∷ [])) long ∙ ap (left_by (after start (deeds ++ deed ∷ []) (length deeds))) (at_end deeds deed)

  -- a deed behind a history
  one_more : (deeds : List (Deed Entry)) (deed : Deed Entry) → IsHistory steps start deeds → steps deed.now deed.entry (here (reached start deeds) deed.shelf) deed.stepped → IsHistory steps start (deeds ++ deed ∷ [])
  one_more deeds deed history step n d is = elim (cases_lt n (length deeds)) [
    | inl before ↦
        subst (λ (s : State). steps d.now d.entry (here s d.shelf) d.stepped) (sym (after_front deeds (deed ∷ []) n (omega arith)))
        (history n d (sym (at_front deeds (deed ∷ []) n before) ∙ is))
    | inr past ↦
        let within = slice_get_within (deeds ++ deed ∷ []) n d is in
        let at : n ≡ length deeds = omega (arith, within, past, length-append deeds (deed ∷ [])) in
        let same : Some deed ≡ Some d = sym (at_end deeds deed) ∙ (ap (slice_get (deeds ++ deed ∷ [])) (sym at) ∙ is) in
        let one : deed ≡ d = cc in
        subst (λ (x : Deed Entry). steps x.now x.entry (here (after start (deeds ++ deed ∷ []) n) x.shelf) x.stepped) one
        (subst (λ (s : State). steps deed.now deed.entry (here s deed.shelf) deed.stepped)
        (sym (ap (after start (deeds ++ deed ∷ [])) at ∙ after_front deeds (deed ∷ []) (length deeds) (omega arith))) step)
  ]

  -- ---- some entries more
  none_more : (now : ℕ) (deeds : List (Deed Entry)) (state : State) → IsHistory steps start deeds → reached start deeds ≡ state → Continues now start deeds [] state
  none_more now deeds state history leads = record {
    more = [];
    are = record { entries_are = refl; moments_are = All-nil (λ (deed : Deed Entry). deed.now ≡ now) };
    history = subst (IsHistory steps start) (sym (append-nil deeds)) history;
    leads = ap (reached start) (append-nil deeds) ∙ leads;
  }

  -- a deed, and others behind it
  and_more : (now : ℕ) (deeds : List (Deed Entry)) (deed : Deed Entry) (entries : List Entry) (state : State) → deed.now ≡ now → Continues now start (deeds ++ deed ∷ []) entries state → Continues now start deeds (deed.entry ∷ entries) state
  and_more now deeds deed entries state moment rest =
      let same : (deeds ++ deed ∷ []) ++ rest.more ≡ deeds ++ deed ∷ rest.more = append_assoc deeds (deed ∷ []) rest.more in
      record {
        more = deed ∷ rest.more;
        are = record {
          entries_are = ap (λ (es : List Entry). deed.entry ∷ es) rest.are.entries_are;
          moments_are = All-cons (λ (d : Deed Entry). d.now ≡ now) deed rest.more moment rest.are.moments_are;
        };
        history = subst (IsHistory steps start) same rest.history;
        leads = ap (reached start) (sym same) ∙ rest.leads;
      }

  to_state : {now : ℕ} {deeds : List (Deed Entry)} {entries : List Entry} {one other : State} → one ≡ other → Continues now start deeds entries one → Continues now start deeds entries other
  to_state {now} {deeds} {entries} same on = subst (Continues now start deeds entries) same on

  pub runs_continue : (now : ℕ) (deeds : List (Deed Entry)) → IsHistory steps start deeds → (shelf : Shelf.ShelfFiles) (entries : List Entry) (outcome : RunOutcome (World State))
      → Runs (Step (door now)) (here (reached start deeds) shelf) entries outcome → Continues now start deeds entries outcome.world.state
  runs_continue now deeds history shelf [] outcome runs = none_more now deeds outcome.world.state history (sym (ap (λ (o : RunOutcome (World State)). o.world.state) runs))
  runs_continue now deeds history shelf (entry ∷ entries) outcome runs =
      let stepped = runs.0 in
      let deed : Deed Entry = record { entry = entry; now = now; shelf = shelf; stepped = stepped } in
      let leads : reached start (deeds ++ deed ∷ []) ≡ stepped.world.state = one_reached deeds deed in
      to_state (sym (ap (λ (o : RunOutcome (World State)). o.world.state) runs.4))
      (and_more now deeds deed entries runs.1.world.state refl
      (runs_continue now (deeds ++ deed ∷ []) (one_more deeds deed history runs.2) stepped.world.shelf entries runs.1
      (subst (λ (s : State). Runs (Step (door now)) (here s stepped.world.shelf) entries runs.1) (sym leads) runs.3)))

-- ---- files of today's version
-- an entry leaves a board in such files, where it found one in such
next_migrated : (now : ℕ) (entry : Entry) (world : World State) (stepped : Stepped (World State)) → Step (door now) world entry stepped → migrated world.state ≡ world.state → migrated stepped.world.state ≡ stepped.world.state
next_migrated now entry world stepped step was = by (touches (door now) entry) refl
  where
    by : (touched : Bool) → touches (door now) entry ≡ touched → migrated stepped.world.state ≡ stepped.world.state
    by true on = sym (one_migration now entry stepped.world.state on) ∙ (lawful now entry).leaves_migrated on world stepped step
    by false off = let same = (lawful now entry).leaves_board off world stepped step in ap migrated same ∙ (was ∙ sym same)

-- so a history that begins with files of today's version never has others
pub all_migrated : (start : State) → migrated start ≡ start → (deeds : List (Deed Entry)) → IsHistory steps start deeds → (n : ℕ) → migrated (after start deeds n) ≡ after start deeds n
all_migrated start begins deeds history zero = begins
all_migrated start begins deeds history (suc n) = by (all_migrated start begins deeds history n) (slice_get deeds n) refl
  where
    by : migrated (after start deeds n) ≡ after start deeds n → (o : Option (Deed Entry)) → slice_get deeds n ≡ o → migrated (left_by (after start deeds n) o) ≡ left_by (after start deeds n) o
    by was None none = was
    by was (Some d) is = next_migrated d.now d.entry (here (after start deeds n) d.shelf) d.stepped (history n d is) was

-- a run leaves a board in such files, where it found one in such
run_migrated : (now : ℕ) (entries : List Entry) (world : World State) (outcome : RunOutcome (World State)) → migrated world.state ≡ world.state → Runs (Step (door now)) world entries outcome → migrated outcome.world.state ≡ outcome.world.state
run_migrated now [] world outcome was runs =
    let same : outcome.world.state ≡ world.state = ap (λ (o : RunOutcome (World State)). o.world.state) runs in
    ap migrated same ∙ (was ∙ sym same)
run_migrated now (entry ∷ entries) world outcome was runs =
    let same : outcome.world.state ≡ runs.1.world.state = ap (λ (o : RunOutcome (World State)). o.world.state) runs.4 in
    ap migrated same ∙ (run_migrated now entries runs.0.world runs.1 (next_migrated now entry world runs.0 runs.2 was) runs.3 ∙ sym same)

-- ---- one entry more
abbrev pub with_one : RunOutcome (World State) → Stepped (World State) → RunOutcome (World State)
with_one outcome stepped = record { world = stepped.world; replies = outcome.replies ++ stepped.reply; classes = outcome.classes ++ stepped.class ∷ [] }

module _ (Does : World State → Entry → Stepped (World State) → Type 0) where
  pub runs_more : (start : World State) (front : List Entry) (entry : Entry) (outcome : RunOutcome (World State)) (stepped : Stepped (World State)) → Runs Does start front outcome → Does outcome.world entry stepped
      → Runs Does start (front ++ entry ∷ []) (with_one outcome stepped)
  runs_more start [] entry outcome stepped runs step = (
    stepped,
    record { world = stepped.world; replies = []; classes = [] },
    subst (λ (w : World State). Does w entry stepped) (ap (λ (o : RunOutcome (World State)). o.world) runs) step,
    refl,
    (λ i. record {
      world = stepped.world;
      replies = (ap (λ (o : RunOutcome (World State)). o.replies ++ stepped.reply) runs ∙ sym (append-nil stepped.reply)) i;
      classes = ap (λ (o : RunOutcome (World State)). o.classes ++ stepped.class ∷ []) runs i;
    }),
  )
  runs_more start (e ∷ front) entry outcome stepped runs step = (
    runs.0,
    with_one runs.1 stepped,
    runs.2,
    runs_more runs.0.world front entry runs.1 stepped runs.3 (subst (λ (w : World State). Does w entry stepped) (ap (λ (o : RunOutcome (World State)). o.world) runs.4) step),
    (λ i. record {
      world = stepped.world;
      replies = (ap (λ (o : RunOutcome (World State)). o.replies ++ stepped.reply) runs.4 ∙ append_assoc runs.0.reply runs.1.replies stepped.reply) i;
      classes = ap (λ (o : RunOutcome (World State)). o.classes ++ stepped.class ∷ []) runs.4 i;
    }),
  )

module _ (start : State) where
  pub stopped_continues : (now : ℕ) (deeds : List (Deed Entry)) → IsHistory steps start deeds → (shelf : Shelf.ShelfFiles) (front : List Entry) (entry : Entry) (outcome : RunOutcome (World State)) (stepped : Stepped (World State))
      → Runs (Step (door now)) (here (reached start deeds) shelf) front outcome → Step (door now) outcome.world entry stepped → Continues now start deeds (front ++ entry ∷ []) stepped.world.state
  stopped_continues now deeds history shelf front entry outcome stepped runs step =
      runs_continue start now deeds history shelf (front ++ entry ∷ []) (with_one outcome stepped) (runs_more (Step (door now)) (here (reached start deeds) shelf) front entry outcome stepped runs step)

-- ---- entries that don't touch the board
-- what they do doesn't depend on it
moved : (now : ℕ) (entry : Entry) (world : World State) (stepped : Stepped (World State)) (state : State) → touches (door now) entry ≡ false → Step (door now) world entry stepped
    → Step (door now) (here state world.shelf) entry (record { world = here state stepped.world.shelf; reply = stepped.reply; class = stepped.class })
moved now (Run (command.Ack user packet)) world stepped state off step = absurd (true≢false off)
moved now (Run (command.Adopt conference prefix)) world stepped state off step = absurd (true≢false off)
moved now (Run (command.Batch file)) world stepped state off step = (step.0, refl)
moved now (Run command.Check) world stepped state off step = absurd (true≢false off)
moved now (Run (command.Compose folder conference sheet rep)) world stepped state off step = (step.0, refl)
moved now (Run (command.Enroll name flags conferences)) world stepped state off step = absurd (true≢false off)
moved now (Run (command.Export user limit folder)) world stepped state off step = absurd (true≢false off)
moved now (Run (command.Import conference file)) world stepped state off step = absurd (true≢false off)
moved now (Run (command.Init file)) world stepped state off step = absurd (true≢false off)
moved now (Run (command.Kill conference number)) world stepped state off step = absurd (true≢false off)
moved now (Run (command.Pack conference)) world stepped state off step = absurd (true≢false off)
moved now (Run (command.List file)) world stepped state off step = (step.0, refl)
moved now (Run (command.Read folder)) world stepped state off step = (step.0, refl)
moved now (Run (command.Reply folder place text rep)) world stepped state off step = (step.0, refl)
moved now (Run (command.Sample seed count)) world stepped state off step = absurd (true≢false off)
moved now (Run (command.Show folder place)) world stepped state off step = (step.0, refl)
moved now (Run (command.Scan file)) world stepped state off step = (step.0, refl)
moved now (Run (command.Toss file)) world stepped state off step = absurd (true≢false off)
moved now (Run (command.Upload user file)) world stepped state off step = absurd (true≢false off)
moved now (Wrong which) world stepped state off step = (step.0, refl)
moved now (Refuse why) world stepped state off step = (step.0, refl)

or_false : (a b : Bool) → (a || b) ≡ false → (a ≡ false) × (b ≡ false)
or_false true b is = absurd (true≢false is)
or_false false b is = (refl, is)

pub all_moved : (now : ℕ) (entries : List Entry) (start : World State) (outcome : RunOutcome (World State)) (state : State) → any_touches (door now) entries ≡ false → Runs (Step (door now)) start entries outcome
    → (next : RunOutcome (World State)) × Runs (Step (door now)) (here state start.shelf) entries next × (next.world.state ≡ state) × (outcome.replies ≡ next.replies)
all_moved now [] start outcome state off runs = (record { world = here state start.shelf; replies = []; classes = [] }, refl, refl, ap (λ (o : RunOutcome (World State)). o.replies) runs)
all_moved now (entry ∷ entries) start outcome state off runs =
    let parts = or_false (touches (door now) entry) (any_touches (door now) entries) off in
    let one : Stepped (World State) = record { world = here state runs.0.world.shelf; reply = runs.0.reply; class = runs.0.class } in
    let rest = all_moved now entries runs.0.world runs.1 state parts.1 runs.3 in (
      record { world = rest.0.world; replies = one.reply ++ rest.0.replies; classes = one.class ∷ rest.0.classes },
      (one, rest.0, moved now entry start runs.0 state parts.0 runs.2, rest.1, refl),
      rest.2,
      ap (λ (o : RunOutcome (World State)). o.replies) runs.4 ∙ ap (λ (replies : List ℕ). runs.0.reply ++ replies) rest.3,
    )

pub untouched_continues : (start : State) (now : ℕ) (deeds : List (Deed Entry)) → IsHistory steps start deeds → (state : State) (shelf : Shelf.ShelfFiles) (entries : List Entry) (outcome : RunOutcome (World State)) → any_touches (door now) entries ≡ false
    → Runs (Step (door now)) (here state shelf) entries outcome → Continues now start deeds entries (reached start deeds)
untouched_continues start now deeds history state shelf entries outcome off runs =
    let next = all_moved now entries (here state shelf) outcome (reached start deeds) off runs in
    to_state start next.2 (runs_continue start now deeds history shelf entries next.0 next.1)

-- ---- entries on the migrated board
-- what they make of it they make of the board before
all_unmigrated : (now : ℕ) (entries : List Entry) (state : State) (shelf : Shelf.ShelfFiles) (outcome : RunOutcome (World State)) → Runs (Step (door now)) (here (migrated state) shelf) entries outcome
    → (other : RunOutcome (World State)) × Runs (Step (door now)) (here state shelf) entries other × (migrated other.world.state ≡ outcome.world.state)
all_unmigrated now [] state shelf outcome runs = (record { world = here state shelf; replies = []; classes = [] }, refl, sym (ap (λ (o : RunOutcome (World State)). o.world.state) runs))
all_unmigrated now (entry ∷ entries) state shelf outcome runs = by (all_unmigrated now entries state) (touches (door now) entry) refl
  where
    last : runs.1.world.state ≡ outcome.world.state
    last = sym (ap (λ (o : RunOutcome (World State)). o.world.state) runs.4)

    by : ((later : Shelf.ShelfFiles) (rest : RunOutcome (World State)) → Runs (Step (door now)) (here (migrated state) later) entries rest → (other : RunOutcome (World State)) × Runs (Step (door now)) (here state later) entries other × (migrated other.world.state ≡ rest.world.state))
        → (touched : Bool) → touches (door now) entry ≡ touched
        → (other : RunOutcome (World State)) × Runs (Step (door now)) (here state shelf) (entry ∷ entries) other × (migrated other.world.state ≡ outcome.world.state)
    by rest true on =
        let step : Step (door now) (here state shelf) entry runs.0 =
        ((lawful now entry).same_migrated (here state shelf) runs.0).0 (subst (λ (s : State). Step (door now) (here s shelf) entry runs.0) (sym (one_migration now entry state on)) runs.2) in
        let left : migrated runs.0.world.state ≡ runs.0.world.state = sym (one_migration now entry runs.0.world.state on) ∙ (lawful now entry).leaves_migrated on (here state shelf) runs.0 step in (
          record { world = runs.1.world; replies = runs.0.reply ++ runs.1.replies; classes = runs.0.class ∷ runs.1.classes },
          (runs.0, runs.1, step, runs.3, refl),
          run_migrated now entries runs.0.world runs.1 left runs.3 ∙ last,
        )
    by rest false off =
        let same : runs.0.world.state ≡ migrated state = (lawful now entry).leaves_board off (here (migrated state) shelf) runs.0 runs.2 in
        let one : Stepped (World State) = record { world = here state runs.0.world.shelf; reply = runs.0.reply; class = runs.0.class } in
        let more = rest runs.0.world.shelf runs.1 (subst (λ (s : State). Runs (Step (door now)) (here s runs.0.world.shelf) entries runs.1) same runs.3) in (
          record { world = more.0.world; replies = one.reply ++ more.0.replies; classes = one.class ∷ more.0.classes },
          (one, more.0, moved now entry (here (migrated state) shelf) runs.0 state off runs.2, more.1, refl),
          more.2 ∙ last,
        )

pub migrated_continues : (start : State) (now : ℕ) (deeds : List (Deed Entry)) → IsHistory steps start deeds → (shelf : Shelf.ShelfFiles) (entries : List Entry) (outcome : RunOutcome (World State))
    → Runs (Step (door now)) (here (migrated (reached start deeds)) shelf) entries outcome → (state : State) × Continues now start deeds entries state × (migrated state ≡ outcome.world.state)
migrated_continues start now deeds history shelf entries outcome runs =
    let other = all_unmigrated now entries (reached start deeds) shelf outcome runs in
    (other.0.world.state, runs_continue start now deeds history shelf entries other.0 other.1, other.2)

-- ---- entries from the state that a history leads to, or from that migrated
abbrev pub IsEither : State → State → Type 0
IsEither state other = (other ≡ state) ⊎ (other ≡ migrated state)

pub from_either : (start : State) (now : ℕ) (deeds : List (Deed Entry)) → IsHistory steps start deeds → (state : State) → IsEither (reached start deeds) state → (shelf : Shelf.ShelfFiles) (entries : List Entry) (outcome : RunOutcome (World State))
    → Runs (Step (door now)) (here state shelf) entries outcome → (other : State) × Continues now start deeds entries other × IsEither other outcome.world.state
from_either start now deeds history state (inl same) shelf entries outcome runs =
    (outcome.world.state, runs_continue start now deeds history shelf entries outcome (subst (λ (s : State). Runs (Step (door now)) (here s shelf) entries outcome) same runs), inl refl)
from_either start now deeds history state (inr same) shelf entries outcome runs =
    let more = migrated_continues start now deeds history shelf entries outcome (subst (λ (s : State). Runs (Step (door now)) (here s shelf) entries outcome) same runs) in
    (more.0, more.1, inr (sym more.2))

pub stand_for : (state other : State) (files : HostFiles) → IsEither state other → StandFor other files → StandFor state files
stand_for state other files (inl same) stands = subst (λ (s : State). StandFor s files) same stands
stand_for state other files (inr same) stands = inr (⊎_elim
    (λ still. subst (λ (s : State). Stores s files) same still)
    (λ then. subst (λ (s : State). Stores s files) (ap migrated same ∙ migrated_once state) then)
    stands)

-- ---- one run
module _ (now : ℕ) (start : State) (deeds : List (Deed Entry)) (history : IsHistory steps start deeds) (state : State) (is : IsEither (reached start deeds) state) (shelf : Shelf.ShelfFiles) where
  holds_front : (front back entries : List Entry) (outcome : RunOutcome (World State)) (files : HostFiles) → entries ≡ front ++ back
      → Runs (Step (door now)) (here state shelf) front outcome → StandFor outcome.world.state files → HoldsFront now start deeds entries files
  holds_front front back entries outcome files split runs stands =
      let on = from_either start now deeds history state is shelf front outcome runs in
      record {
        front = front;
        back = back;
        split = split;
        state = on.0;
        continues = on.1;
        stores = stand_for on.0 outcome.world.state files on.2 stands;
      }

  -- and an entry more
  holds_stopped : (front back entries : List Entry) (entry : Entry) (outcome : RunOutcome (World State)) (stepped : Stepped (World State)) (files : HostFiles) → entries ≡ front ++ entry ∷ back
      → Runs (Step (door now)) (here state shelf) front outcome → Step (door now) outcome.world entry stepped → Stores stepped.world.state files → HoldsFront now start deeds entries files
  holds_stopped front back entries entry outcome stepped files split runs step stores =
      holds_front (front ++ entry ∷ []) back entries (with_one outcome stepped) files (split ∙ sym (append_assoc front (entry ∷ []) back)) (runs_more (Step (door now)) (here state shelf) front entry outcome stepped runs step) (inl stores)

  -- it was stopped before an entry, which may have migrated the board
  holds_before : (front back entries : List Entry) (entry : Entry) (outcome : RunOutcome (World State)) (files : HostFiles) → entries ≡ front ++ entry ∷ back
      → Runs (Step (door now)) (here state shelf) front outcome → Before Stores (act now entry) outcome.world.state files → HoldsFront now start deeds entries files
  holds_before front back entries entry outcome files split runs before = holds_front front (entry ∷ back) entries outcome files split runs (⊎_elim
      (λ still. inl still)
      (λ moved_on. inr (subst (λ (s : State). Stores s files) (one_migration now entry outcome.world.state moved_on.0) moved_on.1))
      before)

  cut_front : (front back entries : List Entry) (entry : Entry) (outcome : RunOutcome (World State)) (stop : Stop) (so_far : List ℕ) (disk : Disk) (later : Shelf.ShelfFiles) → entries ≡ front ++ entry ∷ back
      → Runs (Step (door now)) (here state shelf) front outcome → Stopped Stores (act now entry) stop outcome.world so_far disk later → HoldsFront now start deeds entries (recovered disk.files)
  cut_front front back entries entry outcome DiskFault so_far disk later split runs stopped = ⊎_elim
      (λ still. holds_before front back entries entry outcome (recovered disk.files) split runs still)
      (λ then. holds_stopped front back entries entry outcome then.stepped (recovered disk.files) split runs then.step then.stores) stopped.0
  cut_front front back entries entry outcome ShelfFault so_far disk later split runs stopped = ⊎_elim
      (λ still. holds_before front back entries entry outcome (recovered disk.files) split runs still)
      (λ then. holds_stopped front back entries entry outcome then.1.stepped (recovered disk.files) split runs then.1.step then.1.stores) stopped.0
  cut_front front back entries entry outcome VoiceFault so_far disk later split runs stopped =
      holds_stopped front back entries entry outcome stopped.0.stepped (recovered disk.files) split runs stopped.0.step stopped.1
  cut_front front back entries entry outcome OutOfMemory so_far disk later split runs stopped = holds_before front back entries entry outcome (recovered disk.files) split runs stopped.0

  leaves_front : (result : Status) (entries : List Entry) (old new : Disk) (later : Shelf.ShelfFiles) → EndsAs (door now) result (here state shelf) entries old new later → HoldsFront now start deeds entries (recovered new.files)
  leaves_front result entries old new later (inl whole) = holds_front whole.taken whole.left entries whole.outcome (recovered new.files) whole.split whole.runs (inl whole.stores)
  leaves_front result entries old new later (inr cut) = cut_front cut.front cut.back entries cut.entry cut.outcome cut.stop (old.said ++ cut.outcome.replies) new later cut.split cut.runs cut.stopped

  held_front : (entries : List Entry) (old : Disk) (image : Image) → IsHeld (door now) (here state shelf) entries old image → HoldsFront now start deeds entries (recovered image.files)
  held_front entries old image held = holds_front held.reply.front held.reply.back entries held.reply.outcome (recovered image.files) held.reply.split held.reply.runs (⊎_elim
      (λ still. inl still)
      (λ it. inr (subst (λ (s : State). Stores s (recovered image.files)) (one_migration now it.next held.reply.outcome.world.state it.touched) it.stores))
      held.stores)

untouched_holds : (now : ℕ) (state : State) (shelf : Shelf.ShelfFiles) (entries : List Entry) (old : Disk) (image : Image) → IsUntouched (door now) (here state shelf) entries old image → HoldsAsThen now entries old image
untouched_holds now state shelf entries old image it = record {
  before = it.files.before;
  could_be = it.files.could_be;
  holds = λ start deeds history stands. record {
    front = it.reply.front;
    back = it.reply.back;
    split = it.reply.split;
    state = reached start deeds;
    continues = untouched_continues start now deeds history state shelf it.reply.front it.reply.outcome it.off_board it.reply.runs;
    stores = subst (λ (files : HostFiles). StandFor (reached start deeds) (recovered files)) (sym it.files.files) stands;
  };
}

module _ (now : ℕ) (words : List (List ℕ)) (old new : Disk) (shelf : Shelf.ShelfFiles) (start : State) (deeds : List (Deed Entry)) (history : IsHistory steps start deeds)
    (state : State) (is : IsEither (reached start deeds) state) (stores : Stores state (recovered old.files)) where
  ends_so : (result : Status) (later : Shelf.ShelfFiles) → RunEnds now words result old new shelf later → RunEndsSo now words start deeds new shelf
  ends_so result later leaves = ⊎_elim
      (λ read. (read.0, inl read.1, leaves_front now start deeds history state is shelf result read.0 old new later read.2))
      (λ unread. (
        [],
        inr refl,
        holds_front now start deeds history state is shelf [] [] [] (record { world = here state shelf; replies = []; classes = [] }) (recovered new.files) refl refl (inl unread.stores),
      ))
      (leaves state stores)

  breaks_so : RunSurvives now words old new shelf → RunBreaksSo now words start deeds old new shelf
  breaks_so survives =
      let all = survives state stores in (
        all.0,
        all.1,
        (λ image left. ⊎_elim
            (λ held. inl (held_front now start deeds history state is shelf all.0 old image held))
            (λ as_then. inr (untouched_holds now state shelf all.0 old image as_then))
            (all.2.each image left)),
      )

pub run_continues : (now : ℕ) (words : List (List ℕ)) (result : Status) (old new : Disk) (shelf later : Shelf.ShelfFiles) → RunEnds now words result old new shelf later → RunSurvives now words old new shelf
    → RunContinues now words old new shelf
run_continues now words result old new shelf later leaves survives start deeds history (inl stores) =
    (ends_so now words old new shelf start deeds history (reached start deeds) (inl refl) stores result later leaves, breaks_so now words old new shelf start deeds history (reached start deeds) (inl refl) stores survives)
run_continues now words result old new shelf later leaves survives start deeds history (inr stores) = (
  ends_so now words old new shelf start deeds history (migrated (reached start deeds)) (inr refl) stores result later leaves,
  breaks_so now words old new shelf start deeds history (migrated (reached start deeds)) (inr refl) stores survives,
)
