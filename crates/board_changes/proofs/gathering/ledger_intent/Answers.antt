use Rattle.std.proofs.Common.{inl}
use Rattle.board_ledger.specs.Ledger.{ledger_text}
use Rattle.board_changes.proofs.GatherLaws.{takes_ledger}
use Rattle.board_changes.proofs.LedgerBounds.{ledger_at_most}
use Rattle.board_changes.proofs.gathering.ledger_intent.Goals as goal

pub write-requires : goal.write-requires
write-requires c = inl c.requires

pub add-requires : goal.add-requires
add-requires c =
    rw (c.new-intent.ensures, c.ledger.ensures, c.in_ok-bytes.ensures) (takes_ledger (ledger_text c.args.ledger.now) (ledger_at_most c.args.ledger.now c.requires))
