use Rattle.std.proofs.Common.{◌∙◌, sym, ap, subst}
use Rattle.board_ledger.proofs.damage_rules.KeptRules.{ok_is}
use Rattle.jam_base.specs.jam_layout.Layout.{layout}
use Rattle.jam_base.specs.jam_layout.Valid.{IsConference, IsShape}
use Rattle.jam_base.specs.jam_layout.declared.shape.Shape.{Shape}
use Rattle.jam_base.specs.Contents.{Contents}
use Rattle.board_layout.proofs.LedgerShapes.{shape_is, shape_fits}
use Rattle.board_layout.proofs.OutlineLaws.{own_conference, own_outlined}
use Rattle.board_layout.proofs.ReadingClauses.{base_read}
use Rattle.board_layout.proofs.bases.read_place.Goals as goal

pub read_base-requires-clause-shape : goal.read_base-requires-clause-shape
read_base-requires-clause-shape g c = subst IsShape (sym c.in_ok-shape.ensures) (shape_is c.args.ledger.now c.args.place c.args.kind c.requires.place)

pub returns-clause-conference : goal.returns-clause-conference
returns-clause-conference g c =
    let read = c.in_ok-read_base.ensures.ok in
    let base : Contents = c.in_ok-read_base.field-0 in
    own_conference base read.whole read.alike (subst (λ (s : Shape). IsConference s read.whole) (sym read.shaped) read.valid)

pub returns-clause-outline : goal.returns-clause-outline
returns-clause-outline g c =
    let read = c.in_ok-read_base.ensures.ok in
    own_outlined c.in_ok-read_base.field-0 read.whole read.alike

pub returns-clause-gives : goal.returns-clause-gives
returns-clause-gives g c = λ told.
    let read = c.in_ok-read_base.ensures.ok in
    let base : Contents = c.in_ok-read_base.field-0 in
    let from = ok_is _ _ (c.in_ok-files.ensures.gives told) in
    record {
      whole = read.whole;
      is_read = base_read _ _ _ _ _ c.in_ok-shape.ensures from (shape_fits c.args.ledger.now c.args.place c.args.kind c.requires.ledger) read.valid read.stored;
      holds = record {
        alike = read.alike;
        valid = subst (λ (s : Shape). IsConference s read.whole) (sym read.shaped) read.valid;
        stored = from ∙ (read.stored ∙ ap (λ (s : Shape). layout s read.whole) (sym read.shaped));
      };
    }
