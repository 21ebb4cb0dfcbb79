use Rattle.std.proofs.Common.{◌≡◌, [], take, length}
use Rattle.board_changes.specs.Changed.{empty_conferences}
use Rattle.board_changes.specs.Gathered.{Gathered}
use Rattle.board_layout.specs.Board.{shapes_of, shapes_in, conferences_in}
use Rattle.board_layout.specs.Layout.{AreEmpty, layouts}
use Rattle.board_ledger.specs.Ledger.{ledger_text}
use Rattle.board_changes.proofs.make.fresh_bases.Given as goal

-- the bases of the places so far were made, and their patches gathered
abbrev pub invariant-loop-place : goal.invariant-loop-place
invariant-loop-place l = record {
  shapes : shapes_in l.bases ≡ take l.place (shapes_of l.ledger);
  conferences : conferences_in l.bases ≡ take l.place (empty_conferences (shapes_of l.ledger));
  gathered : Gathered AreEmpty (ledger_text l.ledger) [] (layouts (shapes_of l.ledger) (empty_conferences (shapes_of l.ledger))) l.place l.intent;
  all : l.conference-items ≡ l.ledger.setup.conferences;
  end : l.place-end ≡ length l.ledger.setup.conferences;
}
