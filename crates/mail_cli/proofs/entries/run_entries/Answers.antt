use Rattle.std.proofs.Common.{rules, ◌≡◌, inl, inr, refl, sym, ◌∙◌, ap, length, arith}
use Rattle.std.proofs.Math.Nat.{le_trans}
use Rattle.std.proofs.lemmas.List.{drop_all}
use Rattle.door_outside.specs.Shelf.{ShelfFiles}
use Rattle.entry_runs.proofs.Commands.{causes_on, causes_class}
use Rattle.entry_runs.proofs.Running.{next_entry, at_next, starts, runs_on, ends_at, stops, ends, survives, survives_on, quiet_on}
use Rattle.entry_runs.specs.Door.{touches}
use Rattle.entry_runs.specs.Runs.{with_class}
use Rattle.entry_runs.specs.declared.class.Class.TheVariants.{Done, Damaged}
use Rattle.cmd_board.proofs.StateLaws.{some_state}
use Rattle.cmd_board.specs.State.{State, Stores}
use Rattle.intent_journal.specs.Recovered.{recovered}
use Rattle.mail_cli.specs.Step.{door, entry_uses_shelf}
use Rattle.mail_cli.proofs.AnyShelf.{firm_on, rests_on, spoiled_on, stop_answered, stop_is}
use Rattle.mail_cli.proofs.EntryLaws.{lawful}
use Rattle.mail_cli.proofs.CommandBounds.{one_between, one_bound}
use Rattle.mail_cli.proofs.Staying.{and_on, none_at, nothing_done}
use Rattle.mail_cli.proofs.Wrongs.{wrong_head, not_begun, has_wrong, some_from, ends_usage, ends_damaged, quiet_usage, quiet_damaged, stopped_usage, stopped_damaged, unsaid_usage, goes_right}
use Rattle.mail_cli.proofs.entries.run_entries.Goals as goal

pub loop-entry-init : goal.loop-entry-init
loop-entry-init g c = record {
  sure = c.requires.sure;
  kept = c.requires.kept;
  running = λ tells shelf_tells state stores. starts (door c.args.now) c.args.entries.now (record {
    board = record { settled = c.requires.settled tells; stores = stores };
    shelf_is = refl;
  });
  running_any = λ none tells files state stores. starts (door c.args.now) c.args.entries.now (record {
    board = record { settled = c.requires.settled tells; stores = stores };
    shelf_is = refl;
  });
  firm = λ tells firm. firm;
  rests = λ tells below. absurd (omega (arith, below));
  spoiled = λ tells after. after;
  causes = search rules;
  quiet = inl refl;
  first = λ below. absurd (omega (arith, below));
  files = λ none tells. nothing_done (g.H.Host.disk c.args.host.now);
  disk_faults = λ none. refl;
  shelf = λ none. refl;
  unbegun = λ none. (refl, refl);
  wrote = λ tells shelf_tells below. absurd (omega (arith, below));
  wrote_any = λ none tells files below. absurd (omega (arith, below));
  wrote_between = λ tells below. absurd (omega (arith, below));
}

pub returns-in-Err-clause-ends : goal.returns-in-Err-clause-ends
returns-in-Err-clause-ends g c tells shelf_tells state stores =
    let more = next_entry c.args.entries.now c.loop-entry.entry-index c.entry-item.result (omega arith) c.entry-item.is in
    let running = at_next (door c.args.now) more (c.loop-entry.invariant.running tells shelf_tells state stores) in
    rw c.status.ensures (inr (stops (door c.args.now) (lawful c.args.now) running (c.in-Err.ensures.performs tells shelf_tells running.outcome.world running.at)))

pub returns-in-Err-clause-survives : goal.returns-in-Err-clause-survives
returns-in-Err-clause-survives g c tells shelf_tells state stores =
    let more = next_entry c.args.entries.now c.loop-entry.entry-index c.entry-item.result (omega arith) c.entry-item.is in
    let running = at_next (door c.args.now) more (c.loop-entry.invariant.running tells shelf_tells state stores) in
    survives_on (door c.args.now) (lawful c.args.now) running (c.perform.ensures.performs tells shelf_tells running.outcome.world running.at) stores

pub returns-in-Err-clause-later : goal.returns-in-Err-clause-later
returns-in-Err-clause-later g c tells shelf_tells =
    let more = next_entry c.args.entries.now c.loop-entry.entry-index c.entry-item.result (omega arith) c.entry-item.is in
    let at : (state : State) × Stores state (recovered (g.H.Host.disk c.args.host.now).files) = some_state (recovered (g.H.Host.disk c.args.host.now).files) in
    let running = at_next (door c.args.now) more (c.loop-entry.invariant.running tells shelf_tells at.0 at.1) in
    le_trans running.moments.later (c.perform.ensures.performs tells shelf_tells running.outcome.world running.at).moments.later

pub returns-in-Err-clause-firm : goal.returns-in-Err-clause-firm
returns-in-Err-clause-firm g c tells sound firm =
    firm_on (touches (door c.args.now) c.entry-item.result) (λ on. c.in-Err.ensures.keeps on tells) (λ off. c.perform.ensures.files_stay off tells) (stop_is c.status.ensures sound) (c.loop-entry.invariant.firm tells firm)

pub returns-in-Err-clause-rests : goal.returns-in-Err-clause-rests
returns-in-Err-clause-rests g c tells answered begins =
    let more = next_entry c.args.entries.now c.loop-entry.entry-index c.entry-item.result (omega arith) c.entry-item.is in
    rests_on c.args.now c.loop-entry.entry-index more (c.loop-entry.invariant.rests tells) (λ on. c.in-Err.ensures.keeps on tells) (λ off. c.perform.ensures.files_stay off tells) (stop_answered c.in-Err.stop c.status.ensures answered) begins

pub returns-in-Err-clause-damaged_rests : goal.returns-in-Err-clause-damaged_rests
returns-in-Err-clause-damaged_rests g c tells is = stopped_damaged c.in-Err.stop (sym c.status.ensures ∙ is)

pub returns-in-Err-clause-damaged : goal.returns-in-Err-clause-damaged
returns-in-Err-clause-damaged g c tells is = stopped_damaged c.in-Err.stop (sym c.status.ensures ∙ is)

pub returns-in-Err-clause-touched : goal.returns-in-Err-clause-touched
returns-in-Err-clause-touched g c is = stopped_damaged c.in-Err.stop (sym c.status.ensures ∙ is)

pub returns-in-Err-clause-causes : goal.returns-in-Err-clause-causes
returns-in-Err-clause-causes g c = rw c.status.ensures (causes_on c.loop-entry.invariant.causes c.in-Err.ensures.causes)

pub returns-in-Err-clause-usage : goal.returns-in-Err-clause-usage
returns-in-Err-clause-usage g c is = stopped_usage c.in-Err.stop (sym c.status.ensures ∙ is)

pub returns-in-Err-clause-wrong : goal.returns-in-Err-clause-wrong
returns-in-Err-clause-wrong g c begins =
    let more = next_entry c.args.entries.now c.loop-entry.entry-index c.entry-item.result (omega arith) c.entry-item.is in
    unsaid_usage c.in-Err.stop c.status.result c.status.ensures (c.in-Err.ensures.wrong (wrong_head c.loop-entry.entry-index more c.loop-entry.invariant.first begins))

pub returns-in-Err-clause-files_stay : goal.returns-in-Err-clause-files_stay
returns-in-Err-clause-files_stay g c none tells =
    let more = next_entry c.args.entries.now c.loop-entry.entry-index c.entry-item.result (omega arith) c.entry-item.is in
    and_on (c.loop-entry.invariant.files none tells) (c.perform.ensures.files_stay (none_at (touches (door c.args.now)) c.args.entries.now _ c.entry-item.result c.loop-entry.entry-index more none) tells)

pub returns-in-Err-clause-disk_faults_stay : goal.returns-in-Err-clause-disk_faults_stay
returns-in-Err-clause-disk_faults_stay g c none =
    let more = next_entry c.args.entries.now c.loop-entry.entry-index c.entry-item.result (omega arith) c.entry-item.is in
    c.perform.ensures.disk_faults_stay (none_at (touches (door c.args.now)) c.args.entries.now _ c.entry-item.result c.loop-entry.entry-index more none) ∙ c.loop-entry.invariant.disk_faults none

pub returns-in-Err-clause-shelf_stays : goal.returns-in-Err-clause-shelf_stays
returns-in-Err-clause-shelf_stays g c none =
    let more = next_entry c.args.entries.now c.loop-entry.entry-index c.entry-item.result (omega arith) c.entry-item.is in
    c.perform.ensures.shelf_stays (none_at entry_uses_shelf c.args.entries.now _ c.entry-item.result c.loop-entry.entry-index more none) ∙ c.loop-entry.invariant.shelf none

pub returns-then-is_last-clause-ends : goal.returns-then-is_last-clause-ends
returns-then-is_last-clause-ends g c tells shelf_tells state stores =
    let more = next_entry c.args.entries.now c.loop-entry.entry-index c.entry-item.result (omega arith) c.entry-item.is in
    let running = at_next (door c.args.now) more (c.loop-entry.invariant.running tells shelf_tells state stores) in
    rw c.after-status.ensures (inl (ends_at (door c.args.now) (lawful c.args.now) running (c.in-Ok.ensures.performs tells shelf_tells running.outcome.world running.at) (sym c.is_last.ensures ∙ c.if-is_last.true)))

pub returns-then-is_last-clause-survives : goal.returns-then-is_last-clause-survives
returns-then-is_last-clause-survives g c tells shelf_tells state stores =
    let more = next_entry c.args.entries.now c.loop-entry.entry-index c.entry-item.result (omega arith) c.entry-item.is in
    let running = at_next (door c.args.now) more (c.loop-entry.invariant.running tells shelf_tells state stores) in
    survives_on (door c.args.now) (lawful c.args.now) running (c.perform.ensures.performs tells shelf_tells running.outcome.world running.at) stores

pub returns-then-is_last-clause-later : goal.returns-then-is_last-clause-later
returns-then-is_last-clause-later g c tells shelf_tells =
    let more = next_entry c.args.entries.now c.loop-entry.entry-index c.entry-item.result (omega arith) c.entry-item.is in
    let at : (state : State) × Stores state (recovered (g.H.Host.disk c.args.host.now).files) = some_state (recovered (g.H.Host.disk c.args.host.now).files) in
    let running = at_next (door c.args.now) more (c.loop-entry.invariant.running tells shelf_tells at.0 at.1) in
    le_trans running.moments.later (c.perform.ensures.performs tells shelf_tells running.outcome.world running.at).moments.later

pub returns-then-is_last-clause-firm : goal.returns-then-is_last-clause-firm
returns-then-is_last-clause-firm g c tells sound firm =
    firm_on (touches (door c.args.now) c.entry-item.result) (λ on. c.in-Ok.ensures.keeps on tells) (λ off. c.perform.ensures.files_stay off tells) (λ fault. absurd (cc fault)) (c.loop-entry.invariant.firm tells firm)

pub returns-then-is_last-clause-rests : goal.returns-then-is_last-clause-rests
returns-then-is_last-clause-rests g c tells answered begins =
    let more = next_entry c.args.entries.now c.loop-entry.entry-index c.entry-item.result (omega arith) c.entry-item.is in
    rests_on c.args.now c.loop-entry.entry-index more (c.loop-entry.invariant.rests tells) (λ on. c.in-Ok.ensures.keeps on tells) (λ off. c.perform.ensures.files_stay off tells) tt begins

pub returns-then-is_last-clause-damaged_rests : goal.returns-then-is_last-clause-damaged_rests
returns-then-is_last-clause-damaged_rests g c tells is =
    let damaged : c.in-Ok.class ≡ Damaged = ends_damaged c.loop-entry.status c.in-Ok.class c.loop-entry.invariant.quiet (sym c.after-status.ensures ∙ is) in
    (c.in-Ok.ensures.keeps (c.in-Ok.ensures.damaged damaged) tells).rests tt

pub returns-then-is_last-clause-damaged : goal.returns-then-is_last-clause-damaged
returns-then-is_last-clause-damaged g c tells is =
    let damaged : c.in-Ok.class ≡ Damaged = ends_damaged c.loop-entry.status c.in-Ok.class c.loop-entry.invariant.quiet (sym c.after-status.ensures ∙ is) in
    c.loop-entry.invariant.spoiled tells ((c.in-Ok.ensures.keeps (c.in-Ok.ensures.damaged damaged) tells).only_spoiled damaged)

pub returns-then-is_last-clause-touched : goal.returns-then-is_last-clause-touched
returns-then-is_last-clause-touched g c is =
    let more = next_entry c.args.entries.now c.loop-entry.entry-index c.entry-item.result (omega arith) c.entry-item.is in
    some_from (touches (door c.args.now)) c.args.entries.now _ c.entry-item.result c.loop-entry.entry-index more
    (c.in-Ok.ensures.damaged (ends_damaged c.loop-entry.status c.in-Ok.class c.loop-entry.invariant.quiet (sym c.after-status.ensures ∙ is)))

pub returns-then-is_last-clause-causes : goal.returns-then-is_last-clause-causes
returns-then-is_last-clause-causes g c = rw c.after-status.ensures (causes_class c.loop-entry.status c.in-Ok.class c.loop-entry.invariant.quiet (causes_on c.loop-entry.invariant.causes c.in-Ok.ensures.causes))

pub returns-then-is_last-clause-usage : goal.returns-then-is_last-clause-usage
returns-then-is_last-clause-usage g c is =
    let more = next_entry c.args.entries.now c.loop-entry.entry-index c.entry-item.result (omega arith) c.entry-item.is in
    has_wrong c.loop-entry.entry-index more (c.in-Ok.ensures.usage.0 (ends_usage c.loop-entry.status c.in-Ok.class c.loop-entry.invariant.quiet (sym c.after-status.ensures ∙ is)))

pub returns-then-is_last-clause-wrong : goal.returns-then-is_last-clause-wrong
returns-then-is_last-clause-wrong g c begins =
    let more = next_entry c.args.entries.now c.loop-entry.entry-index c.entry-item.result (omega arith) c.entry-item.is in
    inl (c.after-status.ensures ∙ ap (with_class c.loop-entry.status) (c.in-Ok.ensures.usage.1 (wrong_head c.loop-entry.entry-index more c.loop-entry.invariant.first begins)))

pub returns-then-is_last-clause-files_stay : goal.returns-then-is_last-clause-files_stay
returns-then-is_last-clause-files_stay g c none tells =
    let more = next_entry c.args.entries.now c.loop-entry.entry-index c.entry-item.result (omega arith) c.entry-item.is in
    and_on (c.loop-entry.invariant.files none tells) (c.perform.ensures.files_stay (none_at (touches (door c.args.now)) c.args.entries.now _ c.entry-item.result c.loop-entry.entry-index more none) tells)

pub returns-then-is_last-clause-disk_faults_stay : goal.returns-then-is_last-clause-disk_faults_stay
returns-then-is_last-clause-disk_faults_stay g c none =
    let more = next_entry c.args.entries.now c.loop-entry.entry-index c.entry-item.result (omega arith) c.entry-item.is in
    c.perform.ensures.disk_faults_stay (none_at (touches (door c.args.now)) c.args.entries.now _ c.entry-item.result c.loop-entry.entry-index more none) ∙ c.loop-entry.invariant.disk_faults none

pub returns-then-is_last-clause-shelf_stays : goal.returns-then-is_last-clause-shelf_stays
returns-then-is_last-clause-shelf_stays g c none =
    let more = next_entry c.args.entries.now c.loop-entry.entry-index c.entry-item.result (omega arith) c.entry-item.is in
    c.perform.ensures.shelf_stays (none_at entry_uses_shelf c.args.entries.now _ c.entry-item.result c.loop-entry.entry-index more none) ∙ c.loop-entry.invariant.shelf none

pub returns-clause-ends : goal.returns-clause-ends
returns-clause-ends g c tells shelf_tells state stores =
    inl (ends (door c.args.now) (lawful c.args.now) (drop_all c.loop-entry.entry-index c.args.entries.now (omega arith)) (c.loop-entry.invariant.running tells shelf_tells state stores))

pub returns-clause-survives : goal.returns-clause-survives
returns-clause-survives g c tells shelf_tells state stores =
    survives (door c.args.now) (lawful c.args.now) stores (c.loop-entry.invariant.running tells shelf_tells state stores)

pub returns-clause-later : goal.returns-clause-later
returns-clause-later g c tells shelf_tells =
    let at : (state : State) × Stores state (recovered (g.H.Host.disk c.args.host.now).files) = some_state (recovered (g.H.Host.disk c.args.host.now).files) in
    (c.loop-entry.invariant.running tells shelf_tells at.0 at.1).moments.later

pub returns-clause-firm : goal.returns-clause-firm
returns-clause-firm g c tells sound firm = c.loop-entry.invariant.firm tells firm

pub returns-clause-rests : goal.returns-clause-rests
returns-clause-rests g c tells answered begins = c.loop-entry.invariant.rests tells (omega (arith, ap length begins.2)) begins

pub returns-clause-damaged_rests : goal.returns-clause-damaged_rests
returns-clause-damaged_rests g c tells is = quiet_damaged c.loop-entry.invariant.quiet is

pub returns-clause-damaged : goal.returns-clause-damaged
returns-clause-damaged g c tells is = quiet_damaged c.loop-entry.invariant.quiet is

pub returns-clause-touched : goal.returns-clause-touched
returns-clause-touched g c is = quiet_damaged c.loop-entry.invariant.quiet is

pub returns-clause-causes : goal.returns-clause-causes
returns-clause-causes g c = causes_class c.loop-entry.status Done c.loop-entry.invariant.quiet c.loop-entry.invariant.causes

pub returns-clause-usage : goal.returns-clause-usage
returns-clause-usage g c is = quiet_usage c.loop-entry.invariant.quiet is

pub returns-clause-wrong : goal.returns-clause-wrong
returns-clause-wrong g c begins = absurd (c.loop-entry.invariant.first (omega (arith, ap length begins.3)) begins)

pub returns-clause-files_stay : goal.returns-clause-files_stay
returns-clause-files_stay g c none tells = c.loop-entry.invariant.files none tells

pub returns-clause-disk_faults_stay : goal.returns-clause-disk_faults_stay
returns-clause-disk_faults_stay g c none = c.loop-entry.invariant.disk_faults none

pub returns-clause-shelf_stays : goal.returns-clause-shelf_stays
returns-clause-shelf_stays g c none = c.loop-entry.invariant.shelf none

pub loop-entry-preserved : goal.loop-entry-preserved
loop-entry-preserved g c = record {
  sure = c.perform.ensures.sure;
  kept = c.perform.ensures.kept;
  running = λ tells shelf_tells state stores.
      let more = next_entry c.args.entries.now c.loop-entry.entry-index c.entry-item.result (omega arith) c.entry-item.is in
      let running = at_next (door c.args.now) more (c.loop-entry.invariant.running tells shelf_tells state stores) in
      rw c.after-status.ensures (runs_on (door c.args.now) (lawful c.args.now) running (c.in-Ok.ensures.performs tells shelf_tells running.outcome.world running.at) (sym c.is_last.ensures ∙ c.if-is_last.false));
  running_any = λ none tells files state stores.
      let more = next_entry c.args.entries.now c.loop-entry.entry-index c.entry-item.result (omega arith) c.entry-item.is in
      let off = none_at entry_uses_shelf c.args.entries.now _ c.entry-item.result c.loop-entry.entry-index more none in
      let running = at_next (door c.args.now) more (c.loop-entry.invariant.running_any none tells files state stores) in
      rw c.after-status.ensures (runs_on (door c.args.now) (lawful c.args.now) running (c.in-Ok.ensures.performs_any off tells files running.outcome.world running.at) (sym c.is_last.ensures ∙ c.if-is_last.false));
  firm = λ tells firm. firm_on (touches (door c.args.now) c.entry-item.result) (λ on. c.in-Ok.ensures.keeps on tells) (λ off. c.perform.ensures.files_stay off tells) (λ fault. absurd (cc fault)) (c.loop-entry.invariant.firm tells firm);
  rests = λ tells below begins.
      let more = next_entry c.args.entries.now c.loop-entry.entry-index c.entry-item.result (omega arith) c.entry-item.is in
      rests_on c.args.now c.loop-entry.entry-index more (c.loop-entry.invariant.rests tells) (λ on. c.in-Ok.ensures.keeps on tells) (λ off. c.perform.ensures.files_stay off tells) tt begins;
  spoiled = λ tells after. c.loop-entry.invariant.spoiled tells (spoiled_on (touches (door c.args.now) c.entry-item.result) (λ on. c.in-Ok.ensures.keeps on tells) (λ off. c.perform.ensures.files_stay off tells) after);
  causes = causes_on c.loop-entry.invariant.causes c.in-Ok.ensures.causes;
  quiet = rw c.after-status.ensures (quiet_on c.loop-entry.status c.in-Ok.class c.loop-entry.invariant.quiet (sym c.is_last.ensures ∙ c.if-is_last.false));
  first =
      let more = next_entry c.args.entries.now c.loop-entry.entry-index c.entry-item.result (omega arith) c.entry-item.is in
      not_begun c.loop-entry.entry-index more c.loop-entry.invariant.first
      (goes_right c.in-Ok.class c.entry-item.result c.in-Ok.ensures.usage.1 (sym c.is_last.ensures ∙ c.if-is_last.false));
  files = λ none tells.
      let more = next_entry c.args.entries.now c.loop-entry.entry-index c.entry-item.result (omega arith) c.entry-item.is in
      and_on (c.loop-entry.invariant.files none tells) (c.perform.ensures.files_stay (none_at (touches (door c.args.now)) c.args.entries.now _ c.entry-item.result c.loop-entry.entry-index more none) tells);
  disk_faults = λ none.
      let more = next_entry c.args.entries.now c.loop-entry.entry-index c.entry-item.result (omega arith) c.entry-item.is in
      c.perform.ensures.disk_faults_stay (none_at (touches (door c.args.now)) c.args.entries.now _ c.entry-item.result c.loop-entry.entry-index more none) ∙ c.loop-entry.invariant.disk_faults none;
  shelf = λ none.
      let more = next_entry c.args.entries.now c.loop-entry.entry-index c.entry-item.result (omega arith) c.entry-item.is in
      c.perform.ensures.shelf_stays (none_at entry_uses_shelf c.args.entries.now _ c.entry-item.result c.loop-entry.entry-index more none) ∙ c.loop-entry.invariant.shelf none;
  unbegun = λ none. absurd (omega (arith, none));
  wrote = λ tells shelf_tells below.
      let more = next_entry c.args.entries.now c.loop-entry.entry-index c.entry-item.result (omega arith) c.entry-item.is in
      one_bound c.args.now g.H.Host.disk g.S.Shelf.files c.args.entries.now _ c.entry-item.result c.loop-entry.entry-index more c.loop-entry.invariant.unbegun c.perform.new.host (c.perform.ensures.wrote tells shelf_tells);
  wrote_any = λ none tells files below.
      let more = next_entry c.args.entries.now c.loop-entry.entry-index c.entry-item.result (omega arith) c.entry-item.is in
      let off = none_at entry_uses_shelf c.args.entries.now _ c.entry-item.result c.loop-entry.entry-index more none in
      one_bound c.args.now g.H.Host.disk (λ (shelf : ShelfFiles). shelf) c.args.entries.now _ c.entry-item.result c.loop-entry.entry-index more (λ first. ((c.loop-entry.invariant.unbegun first).0, refl)) c.perform.new.host (c.perform.ensures.wrote_any off tells files);
  wrote_between = λ tells below.
      let more = next_entry c.args.entries.now c.loop-entry.entry-index c.entry-item.result (omega arith) c.entry-item.is in
      one_between c.args.now g.H.Host.disk c.args.entries.now _ c.entry-item.result c.loop-entry.entry-index more (λ first. (c.loop-entry.invariant.unbegun first).0) c.perform.new.host (c.in-Ok.ensures.wrote_between tells (λ fault. absurd (cc fault)));
}

pub returns-in-Err-clause-wrote : goal.returns-in-Err-clause-wrote
returns-in-Err-clause-wrote g c tells shelf_tells =
    let more = next_entry c.args.entries.now c.loop-entry.entry-index c.entry-item.result (omega arith) c.entry-item.is in
    one_bound c.args.now g.H.Host.disk g.S.Shelf.files c.args.entries.now _ c.entry-item.result c.loop-entry.entry-index more c.loop-entry.invariant.unbegun c.perform.new.host (c.perform.ensures.wrote tells shelf_tells)

pub returns-then-is_last-clause-wrote : goal.returns-then-is_last-clause-wrote
returns-then-is_last-clause-wrote g c tells shelf_tells =
    let more = next_entry c.args.entries.now c.loop-entry.entry-index c.entry-item.result (omega arith) c.entry-item.is in
    one_bound c.args.now g.H.Host.disk g.S.Shelf.files c.args.entries.now _ c.entry-item.result c.loop-entry.entry-index more c.loop-entry.invariant.unbegun c.perform.new.host (c.perform.ensures.wrote tells shelf_tells)

pub returns-clause-wrote : goal.returns-clause-wrote
returns-clause-wrote g c tells shelf_tells = λ other is. c.loop-entry.invariant.wrote tells shelf_tells (omega (arith, ap length is)) other is

-- ---- where no entry names a file of the shelf
pub returns-in-Err-clause-ends_any : goal.returns-in-Err-clause-ends_any
returns-in-Err-clause-ends_any g c none tells files state stores =
    let more = next_entry c.args.entries.now c.loop-entry.entry-index c.entry-item.result (omega arith) c.entry-item.is in
    let off = none_at entry_uses_shelf c.args.entries.now _ c.entry-item.result c.loop-entry.entry-index more none in
    let running = at_next (door c.args.now) more (c.loop-entry.invariant.running_any none tells files state stores) in
    rw c.status.ensures (inr (stops (door c.args.now) (lawful c.args.now) running (c.in-Err.ensures.performs_any off tells files running.outcome.world running.at)))

pub returns-in-Err-clause-survives_any : goal.returns-in-Err-clause-survives_any
returns-in-Err-clause-survives_any g c none tells files state stores =
    let more = next_entry c.args.entries.now c.loop-entry.entry-index c.entry-item.result (omega arith) c.entry-item.is in
    let off = none_at entry_uses_shelf c.args.entries.now _ c.entry-item.result c.loop-entry.entry-index more none in
    let running = at_next (door c.args.now) more (c.loop-entry.invariant.running_any none tells files state stores) in
    survives_on (door c.args.now) (lawful c.args.now) running (c.perform.ensures.performs_any off tells files running.outcome.world running.at) stores

pub returns-in-Err-clause-later_any : goal.returns-in-Err-clause-later_any
returns-in-Err-clause-later_any g c none tells =
    let at : (state : State) × Stores state (recovered (g.H.Host.disk c.args.host.now).files) = some_state (recovered (g.H.Host.disk c.args.host.now).files) in
    let more = next_entry c.args.entries.now c.loop-entry.entry-index c.entry-item.result (omega arith) c.entry-item.is in
    let off = none_at entry_uses_shelf c.args.entries.now _ c.entry-item.result c.loop-entry.entry-index more none in
    let running = at_next (door c.args.now) more (c.loop-entry.invariant.running_any none tells (g.S.Shelf.files c.args.shelf.now) at.0 at.1) in
    le_trans running.moments.later (c.in-Err.ensures.performs_any off tells (g.S.Shelf.files c.args.shelf.now) running.outcome.world running.at).moments.later

pub returns-in-Err-clause-wrote_any : goal.returns-in-Err-clause-wrote_any
returns-in-Err-clause-wrote_any g c none tells files =
    let more = next_entry c.args.entries.now c.loop-entry.entry-index c.entry-item.result (omega arith) c.entry-item.is in
    let off = none_at entry_uses_shelf c.args.entries.now _ c.entry-item.result c.loop-entry.entry-index more none in
    one_bound c.args.now g.H.Host.disk (λ (shelf : ShelfFiles). shelf) c.args.entries.now _ c.entry-item.result c.loop-entry.entry-index more (λ first. ((c.loop-entry.invariant.unbegun first).0, refl)) c.perform.new.host (c.perform.ensures.wrote_any off tells files)

pub returns-then-is_last-clause-ends_any : goal.returns-then-is_last-clause-ends_any
returns-then-is_last-clause-ends_any g c none tells files state stores =
    let more = next_entry c.args.entries.now c.loop-entry.entry-index c.entry-item.result (omega arith) c.entry-item.is in
    let off = none_at entry_uses_shelf c.args.entries.now _ c.entry-item.result c.loop-entry.entry-index more none in
    let running = at_next (door c.args.now) more (c.loop-entry.invariant.running_any none tells files state stores) in
    rw c.after-status.ensures (inl (ends_at (door c.args.now) (lawful c.args.now) running (c.in-Ok.ensures.performs_any off tells files running.outcome.world running.at) (sym c.is_last.ensures ∙ c.if-is_last.true)))

pub returns-then-is_last-clause-survives_any : goal.returns-then-is_last-clause-survives_any
returns-then-is_last-clause-survives_any g c none tells files state stores =
    let more = next_entry c.args.entries.now c.loop-entry.entry-index c.entry-item.result (omega arith) c.entry-item.is in
    let off = none_at entry_uses_shelf c.args.entries.now _ c.entry-item.result c.loop-entry.entry-index more none in
    let running = at_next (door c.args.now) more (c.loop-entry.invariant.running_any none tells files state stores) in
    survives_on (door c.args.now) (lawful c.args.now) running (c.perform.ensures.performs_any off tells files running.outcome.world running.at) stores

pub returns-then-is_last-clause-later_any : goal.returns-then-is_last-clause-later_any
returns-then-is_last-clause-later_any g c none tells =
    let at : (state : State) × Stores state (recovered (g.H.Host.disk c.args.host.now).files) = some_state (recovered (g.H.Host.disk c.args.host.now).files) in
    let more = next_entry c.args.entries.now c.loop-entry.entry-index c.entry-item.result (omega arith) c.entry-item.is in
    let off = none_at entry_uses_shelf c.args.entries.now _ c.entry-item.result c.loop-entry.entry-index more none in
    let running = at_next (door c.args.now) more (c.loop-entry.invariant.running_any none tells (g.S.Shelf.files c.args.shelf.now) at.0 at.1) in
    le_trans running.moments.later (c.in-Ok.ensures.performs_any off tells (g.S.Shelf.files c.args.shelf.now) running.outcome.world running.at).moments.later

pub returns-then-is_last-clause-wrote_any : goal.returns-then-is_last-clause-wrote_any
returns-then-is_last-clause-wrote_any g c none tells files =
    let more = next_entry c.args.entries.now c.loop-entry.entry-index c.entry-item.result (omega arith) c.entry-item.is in
    let off = none_at entry_uses_shelf c.args.entries.now _ c.entry-item.result c.loop-entry.entry-index more none in
    one_bound c.args.now g.H.Host.disk (λ (shelf : ShelfFiles). shelf) c.args.entries.now _ c.entry-item.result c.loop-entry.entry-index more (λ first. ((c.loop-entry.invariant.unbegun first).0, refl)) c.perform.new.host (c.perform.ensures.wrote_any off tells files)

pub returns-clause-ends_any : goal.returns-clause-ends_any
returns-clause-ends_any g c none tells files state stores =
    inl (ends (door c.args.now) (lawful c.args.now) (drop_all c.loop-entry.entry-index c.args.entries.now (omega arith)) (c.loop-entry.invariant.running_any none tells files state stores))

pub returns-clause-survives_any : goal.returns-clause-survives_any
returns-clause-survives_any g c none tells files state stores =
    survives (door c.args.now) (lawful c.args.now) stores (c.loop-entry.invariant.running_any none tells files state stores)

pub returns-clause-later_any : goal.returns-clause-later_any
returns-clause-later_any g c none tells =
    let at : (state : State) × Stores state (recovered (g.H.Host.disk c.args.host.now).files) = some_state (recovered (g.H.Host.disk c.args.host.now).files) in
    (c.loop-entry.invariant.running_any none tells (g.S.Shelf.files c.args.shelf.now) at.0 at.1).moments.later

pub returns-clause-wrote_any : goal.returns-clause-wrote_any
returns-clause-wrote_any g c none tells files = λ other is. c.loop-entry.invariant.wrote_any none tells files (omega (arith, ap length is)) other is

-- ---- what is written, whatever the shelf holds
pub returns-in-Err-clause-wrote_between : goal.returns-in-Err-clause-wrote_between
returns-in-Err-clause-wrote_between g c tells sound =
    let more = next_entry c.args.entries.now c.loop-entry.entry-index c.entry-item.result (omega arith) c.entry-item.is in
    one_between c.args.now g.H.Host.disk c.args.entries.now _ c.entry-item.result c.loop-entry.entry-index more (λ first. (c.loop-entry.invariant.unbegun first).0) c.perform.new.host (c.in-Err.ensures.wrote_between tells (stop_is c.status.ensures sound))

pub returns-then-is_last-clause-wrote_between : goal.returns-then-is_last-clause-wrote_between
returns-then-is_last-clause-wrote_between g c tells sound =
    let more = next_entry c.args.entries.now c.loop-entry.entry-index c.entry-item.result (omega arith) c.entry-item.is in
    one_between c.args.now g.H.Host.disk c.args.entries.now _ c.entry-item.result c.loop-entry.entry-index more (λ first. (c.loop-entry.invariant.unbegun first).0) c.perform.new.host (c.in-Ok.ensures.wrote_between tells (λ fault. absurd (cc fault)))

pub returns-clause-wrote_between : goal.returns-clause-wrote_between
returns-clause-wrote_between g c tells sound = λ other is. c.loop-entry.invariant.wrote_between tells (omega (arith, ap length is)) other is
