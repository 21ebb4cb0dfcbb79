use Rattle.std.proofs.Common.{◌≡◌, ◌<◌, ℕ, [], ◌∷◌, ◌++◌, List, length, slice_get, get_or, Some, sym, ap, ◌∙◌, subst, arith}
use Rattle.std.proofs.lemmas.List.{take_all}
use Rattle.std.proofs.lemmas.Option.{slice_get-get_or}
use Rattle.board_changes.specs.Changed.{empty_conferences}
use Rattle.board_changes.specs.Gathered.{Gathered}
use Rattle.board_changes.proofs.PlaceLaws.{shape_in, empty_in, empty_count, pushed}
use Rattle.board_layout.proofs.BasePlaces.{shapes_count}
use Rattle.board_layout.specs.Board.{shape_of, shapes_of, shapes_in, conferences_in}
use Rattle.board_layout.specs.Layout.{AreEmpty, layouts}
use Rattle.board_ledger.specs.Ledger.{ledger_text}
use Rattle.board_ledger.specs.declared.ledger.Ledger.{Ledger}
use Rattle.board_layout.specs.jam_base.Contents.{Contents}
use Rattle.board_ledger.specs.setup_file.declared.conference.Conference.{Conference as SetupConference}
use Rattle.board_ledger.specs.setup_file.declared.fields.SetupFields.{SetupFields}
use Rattle.board_changes.proofs.make.fresh_bases.Goals as goal

-- the shape of the conference of a place
shape_here : (l : Ledger) (items : List SetupConference) (place : ℕ) (c : SetupConference) → items ≡ l.setup.conferences → place < length items → c ≡ get_or items place c → slice_get (shapes_of l) place ≡ Some (shape_of l place c.kind)
shape_here l items place c same within is = shape_in l place c (subst (λ (xs : List SetupConference). slice_get xs place ≡ Some c) same (slice_get-get_or items place c within ∙ ap Some (sym is)))

pub fresh_base-requires-clause-shape : goal.fresh_base-requires-clause-shape
fresh_base-requires-clause-shape c = shape_here c.args.ledger.now c.as_slice-conference-items.result.now c.loop-place.place c.conference-item.result (c.as_slice-conference-items.ensures ∙ ap (λ (s : SetupFields). s.conferences) c.fields.ensures.fields) (omega arith) c.conference-item.is

pub loop-place-preserved : goal.loop-place-preserved
loop-place-preserved c =
    let l : Ledger = c.args.ledger.now in
    let place = c.loop-place.place in
    let base : Contents = c.in_ok-fresh_base.field-0 in
    let bases : List Contents = c.loop-place.bases in
    let v = c.loop-place.invariant in
    let kind = c.conference-item.result.kind in
    let here = shape_here l c.as_slice-conference-items.result.now place c.conference-item.result (c.as_slice-conference-items.ensures ∙ ap (λ (s : SetupFields). s.conferences) c.fields.ensures.fields) (omega arith) c.conference-item.is in
    let made = c.in_ok-fresh_base.ensures.base in
    let added : c.add.new.self ≡ bases ++ base ∷ [] = c.in_ok-add.ensures.ok in
    record {
      shapes = ap shapes_in added ∙ pushed (λ (b : Contents). b.shape) bases (shapes_of l) place base v.shapes (here ∙ ap (λ (b : Contents). Some b.shape) (sym made));
      conferences = ap conferences_in added ∙ pushed (λ (b : Contents). b.conference) bases (empty_conferences (shapes_of l)) place base v.conferences (empty_in (shapes_of l) place (shape_of l place kind) here ∙ ap (λ (b : Contents). Some b.conference) (sym made));
      gathered = c.in_ok-fresh_base.ensures.gathers;
      all = v.all;
      end = v.end;
    }

pub returns-clause-shapes : goal.returns-clause-shapes
returns-clause-shapes c =
    let l : Ledger = c.args.ledger.now in
    c.loop-place.invariant.shapes ∙ take_all c.loop-place.place (shapes_of l) (omega (arith, c.loop-place.invariant.end, shapes_count l 0 l.setup.conferences))

pub returns-clause-conferences : goal.returns-clause-conferences
returns-clause-conferences c =
    let l : Ledger = c.args.ledger.now in
    c.loop-place.invariant.conferences ∙ take_all c.loop-place.place (empty_conferences (shapes_of l)) (omega (arith, c.loop-place.invariant.end, shapes_count l 0 l.setup.conferences, empty_count (shapes_of l)))

pub returns-clause-gathers : goal.returns-clause-gathers
returns-clause-gathers c =
    let l : Ledger = c.args.ledger.now in
    let all : c.loop-place.place ≡ length (shapes_of l) = omega (arith, c.loop-place.invariant.end, shapes_count l 0 l.setup.conferences) in
    subst (λ (n : ℕ). Gathered AreEmpty (ledger_text l) [] (layouts (shapes_of l) (empty_conferences (shapes_of l))) n c.loop-place.intent) all c.loop-place.invariant.gathered
