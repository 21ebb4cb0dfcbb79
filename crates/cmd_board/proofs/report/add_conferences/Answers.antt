use Rattle.std.proofs.Common.{◌≡◌, ◌+◌, ◌<◌, ◌∷◌, [], ◌++◌, List, ℕ, drop, length, sym, ◌∙◌, ap, subst, arith}
use Rattle.std.proofs.lemmas.List.{append-nil, drop_all}
use Rattle.entry_runs.proofs.Running.{next_entry}
use Rattle.board_layout.specs.Board.{Board}
use Rattle.setup_file.specs.declared.conference.Conference.{Conference as SetupConference}
use Rattle.cmd_board.specs.Check.{checked_lines, slots_text}
use Rattle.cmd_board.proofs.ReportLaws.{lines_more, place_within}
use Rattle.cmd_board.proofs.report.add_conferences.Goals as goal

pub slot_count-requires : goal.slot_count-requires
slot_count-requires c = place_within c.args.board.now.board c.loop-place.place c.setup.ensures.valid (omega (arith, ap length c.loop-place.invariant.all))

pub live_count-requires : goal.live_count-requires
live_count-requires c = place_within c.args.board.now.board c.loop-place.place c.setup.ensures.valid (omega (arith, ap length c.loop-place.invariant.all))

pub loop-place-preserved : goal.loop-place-preserved
loop-place-preserved c =
    let b : Board = c.args.board.now.board in
    let named : List SetupConference = b.ledger.setup.conferences in
    let place : ℕ = c.loop-place.place in
    let below : place < length named = omega (arith, ap length c.loop-place.invariant.all) in
    let items : List SetupConference = c.as_slice-conferences.result.now in
    let one : SetupConference = c.index-conferences-place.result in
    let next : drop place named ≡ one ∷ drop (place + 1) named =
    subst (λ (xs : List SetupConference). drop place xs ≡ one ∷ drop (place + 1) xs) c.loop-place.invariant.all (next_entry items place one (omega arith) c.index-conferences-place.is) in
    let slots : ℕ = c.slot_count.result in
    let live : ℕ = c.live_count.result in
    let rest : List ℕ = checked_lines (drop (place + 1) named) (drop (place + 1) b.conferences) in
    record {
      lines = ap (λ (text : List ℕ). text ++ rest) (c.in_ok-add_tally.ensures ∙ ap (λ (text : List ℕ). text ++ slots_text slots live) c.in_ok-add_label.ensures)
          ∙ (lines_more named b.conferences place slots live one c.loop-place.text next (place_within b place c.setup.ensures.valid below) c.slot_count.ensures c.live_count.ensures
          ∙ c.loop-place.invariant.lines);
      all = c.loop-place.invariant.all;
      end = c.loop-place.invariant.end;
    }

pub returns : goal.returns
returns c =
    let b : Board = c.args.board.now.board in
    let named : List SetupConference = b.ledger.setup.conferences in
    let none : drop c.loop-place.place named ≡ [] = drop_all c.loop-place.place named (omega (arith, ap length c.loop-place.invariant.all)) in
    sym (append-nil c.loop-place.text)
    ∙ (ap (λ (xs : List SetupConference). c.loop-place.text ++ checked_lines xs (drop c.loop-place.place b.conferences)) (sym none) ∙ c.loop-place.invariant.lines)
