use Rattle.std.proofs.Common.{◌≡◌, ◌<◌, ◌+◌, ℕ, [], slice_get, Some, sym, subst, arith}
use Rattle.std.proofs.lemmas.Option.{slice_get_within}
use Rattle.board_changes.specs.Changed.{empty_conferences}
use Rattle.board_changes.specs.Gathered.{Gathered}
use Rattle.board_changes.proofs.MadeLaws.{fresh_joins, fresh_gathers}
use Rattle.board_layout.proofs.BasePlaces.{shapes_count}
use Rattle.board_layout.proofs.LedgerShapes.{shape_is}
use Rattle.board_layout.specs.Board.{shapes_of}
use Rattle.board_layout.specs.Layout.{AreEmpty, layouts}
use Rattle.board_ledger.specs.Ledger.{ledger_text}
use Rattle.board_ledger.specs.Valid.{IsLedger}
use Rattle.board_ledger.specs.declared.ledger.Ledger.{Ledger}
use Rattle.board_layout.specs.jam_layout.Valid.{IsShape}
use Rattle.board_layout.specs.jam_layout.declared.shape.Shape.{Shape}
use Rattle.board_changes.proofs.make.fresh_base.Goals as goal

-- the place is one of the 64
place_within : (l : Ledger) (place : ℕ) (shape : Shape) → IsLedger l → slice_get (shapes_of l) place ≡ Some shape → place < 64
place_within l place shape ok here = omega (arith, slice_get_within (shapes_of l) place shape here, shapes_count l 0 l.setup.conferences, ok.setup.conferences.many)

pub shape_at-requires-clause-place : goal.shape_at-requires-clause-place
shape_at-requires-clause-place c = place_within c.args.ledger.now c.args.place _ c.requires.ledger c.requires.shape

pub fresh-requires : goal.fresh-requires
fresh-requires c = subst IsShape (sym c.in_ok-shape.ensures) (shape_is c.args.ledger.now c.args.place c.args.kind (place_within c.args.ledger.now c.args.place _ c.requires.ledger c.requires.shape))

pub add_all-requires : goal.add_all-requires
add_all-requires c =
    fresh_joins c.args.ledger.now c.args.place c.args.kind c.in_ok-shape.shape c.args.intent.now c.in_ok-change.change.patches c.in_ok-shape.ensures c.requires.shape (place_within c.args.ledger.now c.args.place _ c.requires.ledger c.requires.shape)
    c.requires.gathered c.in_ok-change.ensures.files c.in_ok-change.ensures.intent c.requires.fit

pub returns-clause-gathers : goal.returns-clause-gathers
returns-clause-gathers c =
    subst (Gathered AreEmpty (ledger_text c.args.ledger.now) [] (layouts (shapes_of c.args.ledger.now) (empty_conferences (shapes_of c.args.ledger.now))) (c.args.place + 1)) (sym c.in_ok-add_all.ensures)
    (fresh_gathers c.args.ledger.now c.args.place c.args.kind c.in_ok-shape.shape c.args.intent.now c.in_ok-change.change.patches c.in_ok-shape.ensures c.requires.shape (place_within c.args.ledger.now c.args.place _ c.requires.ledger c.requires.shape)
    c.requires.gathered c.in_ok-change.ensures.files c.in_ok-change.ensures.intent)
