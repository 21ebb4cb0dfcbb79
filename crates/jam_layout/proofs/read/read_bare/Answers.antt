use Rattle.std.proofs.Common.{◌∙◌, sym, ap}
use Rattle.damage_rules.proofs.ReadingClauses.{if_read_so, is_damage, only_damage, only_ok}
use Rattle.jam_layout.specs.Bare.{bare_in, bare_of, IsBareOf}
use Rattle.jam_layout.specs.Layout.{conference_of}
use Rattle.jam_layout.specs.Valid.{BaseFilesFit}
use Rattle.jam_layout.specs.declared.bare.BareConference.{BareConference}
use Rattle.jam_layout.proofs.ConferenceLayout.{is_layout, layout_is}
use Rattle.jam_layout.proofs.MappedReads.{damage_mapped, mapped, mapped_ok}
use Rattle.jam_layout.proofs.ReadingClauses.{base_tells}
use Rattle.jam_layout.proofs.read.read_bare.Goals as goal

pub returns-clause-ok : goal.returns-clause-ok
returns-clause-ok c =
    if_read_so base_tells c.bare_in.result (bare_in c.args.shape.now c.args.files.now) (λ (x : BareConference). IsBareOf c.args.shape.now c.args.files.now x) (λ x. BaseFilesFit c.args.files.now) c.bare_in.ensures.gives c.bare_in.ensures.files (λ x e fits.
    let a = mapped_ok bare_of (conference_of c.args.shape.now c.args.files.now) x e in
    let l = layout_is c.args.shape.now c.args.files.now a.0 fits a.1 in
    record { whole = a.0; bared = sym a.2; valid = l.1; stored = l.0 })

pub returns-clause-only_ok : goal.returns-clause-only_ok
returns-clause-only_ok c = λ x ok e.
    only_ok base_tells c.bare_in.result (bare_in c.args.shape.now c.args.files.now) (bare_of x) c.bare_in.ensures.gives
    (ap (mapped bare_of) (ap (conference_of c.args.shape.now) e ∙ is_layout c.args.shape.now x c.bare_in.ensures.shape ok))

pub returns-clause-damaged : goal.returns-clause-damaged
returns-clause-damaged c = λ d e.
    sym (damage_mapped bare_of (conference_of c.args.shape.now c.args.files.now)) ∙ is_damage base_tells c.bare_in.result (bare_in c.args.shape.now c.args.files.now) d c.bare_in.ensures.gives e

pub returns-clause-only_damaged : goal.returns-clause-only_damaged
returns-clause-only_damaged c = λ d e.
    only_damage base_tells c.bare_in.result (bare_in c.args.shape.now c.args.files.now) d c.bare_in.ensures.gives (damage_mapped bare_of (conference_of c.args.shape.now c.args.files.now) ∙ e)
