use Rattle.std.proofs.Common.{◌≡◌, ◌∙◌, ◌+◌, ◌<◌, false, List, [], ◌∷◌, length, drop, get_or, sym, ap, subst, arith}
use Rattle.std.specs.Prelude.{All}
use Rattle.std.proofs.lemmas.List.{drop_all}
use Rattle.std.proofs.lemmas.List.Elements.{All-push}
use Rattle.std.proofs.lemmas.Result.{err_from_is_err_and}
use Rattle.board_ledger.specs.damage_rules.Rules.{Stops}
use Rattle.board_ledger.specs.intent_journal.Patches.{HostFiles}
use Rattle.jam_base.specs.Change.{files_of_place}
use Rattle.jam_base.specs.Contents.{Contents}
use Rattle.jam_base.specs.Outlined.{outlined}
use Rattle.jam_base.specs.jam_layout.Layout.{conference_of}
use Rattle.board_ledger.specs.setup_file.declared.conference.Conference.{Conference as SetupConference}
use Rattle.board_layout.specs.Board.{shape_of}
use Rattle.board_layout.specs.Rules.{IsOutlineOf, ReadSo, damage_of_read}
use Rattle.board_layout.proofs.ReadingBases.{BasesRead, WholesRead, bases_more, next_left, wholes_done, wholes_fail, wholes_more}
use Rattle.door_outside.proofs.Disks.{unchanged_twice}
use Rattle.board_layout.proofs.ReadingClauses.{kept_at_ok}
use Rattle.board_ledger.specs.setup_file.declared.fields.SetupFields.{SetupFields}
use Rattle.board_layout.proofs.bases.read_bases.Goals as goal

pub loop-place-preserved : goal.loop-place-preserved
loop-place-preserved g c =
    let l = c.args.ledger.now in
    let setup : List SetupConference = l.setup.conferences in
    let place = c.loop-place.place in
    let conference : SetupConference = c.conference-item.result in
    let base : Contents = c.in_ok-base.base in
    let files : HostFiles = (g.H.Host.disk c.args.host.now).files in
    let within : place < length setup = omega (arith, ap length (c.as_slice-conference-items.ensures ∙ ap (λ (s : SetupFields). s.conferences) c.fields.ensures.fields)) in
    let is : conference ≡ get_or setup place conference = c.conference-item.is ∙ ap (λ (xs : List SetupConference). get_or xs place conference) (c.as_slice-conference-items.ensures ∙ ap (λ (s : SetupFields). s.conferences) c.fields.ensures.fields) in
    let next : drop place setup ≡ conference ∷ drop (place + 1) setup = next_left setup place conference within is in
    let so_far = subst (λ (left : List SetupConference). BasesRead false l place left files c.loop-place.bases) next c.loop-place.invariant.so_far in
    let more = bases_more false l place conference (drop (place + 1) setup) files c.loop-place.bases so_far base c.in_ok-base.ensures.shape c.in_ok-base.ensures.conference (λ never. absurd (cc never)) (λ never. absurd (cc never)) in
    record {
      so_far = subst (λ (bases : List Contents). BasesRead false l (place + 1) (drop (place + 1) setup) files bases) (sym c.in_ok-add.ensures.ok) more;
      outlines = subst (All (λ (k : Contents). outlined k ≡ k)) (sym c.in_ok-add.ensures.ok) (All-push (λ (k : Contents). outlined k ≡ k) c.loop-place.bases base c.loop-place.invariant.outlines c.in_ok-base.ensures.outline);
      wholes = λ tells. subst (λ (bases : List Contents). WholesRead l (place + 1) (drop (place + 1) setup) files bases) (sym c.in_ok-add.ensures.ok)
          (wholes_more l place conference (drop (place + 1) setup) files c.loop-place.bases (subst (λ (left : List SetupConference). WholesRead l place left files c.loop-place.bases) next (c.loop-place.invariant.wholes tells)) base c.in_ok-base.ensures.shape
          (subst (λ (now : HostFiles). ReadSo (IsOutlineOf (files_of_place place now)) base (conference_of (shape_of l place conference.kind) (files_of_place place now))) (c.loop-place.invariant.unchanged tells).files (c.in_ok-base.ensures.gives tells)));
      unchanged = λ tells. unchanged_twice _ _ _ (c.loop-place.invariant.unchanged tells) (c.read_place.ensures.unchanged tells);
      voice = c.read_place.ensures.voice ∙ c.loop-place.invariant.voice;
      cause = kept_at_ok base _ _ c.in_ok-base.ensures.cause ∙ c.loop-place.invariant.cause;
    }

pub returns-in_err-base-clause-gives : goal.returns-in_err-base-clause-gives
returns-in_err-base-clause-gives g c =
    let p = err_from_is_err_and c.from_residual.result c.from_residual.ensures.1 in
    let l = c.args.ledger.now in
    let setup : List SetupConference = l.setup.conferences in
    let place = c.loop-place.place in
    let conference : SetupConference = c.conference-item.result in
    let files : HostFiles = (g.H.Host.disk c.args.host.now).files in
    let e = damage_of_read c.in_err-base.field-0.0 in
    rw (p.1, p.2) (λ tells.
    let within : place < length setup = omega (arith, ap length (c.as_slice-conference-items.ensures ∙ ap (λ (s : SetupFields). s.conferences) c.fields.ensures.fields)) in
    let is : conference ≡ get_or setup place conference = c.conference-item.is ∙ ap (λ (xs : List SetupConference). get_or xs place conference) (c.as_slice-conference-items.ensures ∙ ap (λ (s : SetupFields). s.conferences) c.fields.ensures.fields) in
    let so = subst (λ (left : List SetupConference). WholesRead l place left files c.loop-place.bases) (next_left setup place conference within is) (c.loop-place.invariant.wholes tells) in
    wholes_fail l place conference (drop (place + 1) setup) files c.loop-place.bases so e
    (subst (λ (now : HostFiles). Stops e (conference_of (shape_of l place conference.kind) (files_of_place place now))) (c.loop-place.invariant.unchanged tells).files (c.in_err-base.ensures.gives tells)))

pub returns-clause-gives : goal.returns-clause-gives
returns-clause-gives g c = λ tells.
    let l = c.args.ledger.now in
    let setup : List SetupConference = l.setup.conferences in
    let files : HostFiles = (g.H.Host.disk c.args.host.now).files in
    let none : drop c.loop-place.place setup ≡ [] = drop_all c.loop-place.place setup (omega (arith, ap length (c.as_slice-conference-items.ensures ∙ ap (λ (s : SetupFields). s.conferences) c.fields.ensures.fields), c.loop-place-test.false)) in
    wholes_done l c.loop-place.place files c.loop-place.bases (subst (λ (left : List SetupConference). WholesRead l c.loop-place.place left files c.loop-place.bases) none (c.loop-place.invariant.wholes tells))
