use Rattle.std.proofs.Common.{◌-◌, [], sym, subst}
use Rattle.std.specs.Prelude.{slice_get}
use Rattle.board_changes.specs.Gathered.{Joins}
use Rattle.board_ledger.proofs.UserPutLaws.{as_long, room_there}
use Rattle.board_ledger.specs.declared.ledger.Ledger.{Ledger}
use Rattle.offer_changes.proofs.PutLaws.{user_joins}
use Rattle.offer_changes.proofs.user.user_intent.Goals as goal

pub intent_with-requires : goal.intent_with-requires
intent_with-requires c =
    let l : Ledger = c.args.ledger.now in
    let there = room_there (slice_get l.users (c.args.id - 1)) c.args.user.now c.requires.room in
    let same = as_long l (c.args.id - 1) there.0 c.args.user.now there.1 there.2 c.requires.ledger c.requires.next in
    subst (Joins []) (sym c.in_ok-patches.ensures.puts) (user_joins l c.args.id there.0 c.args.user.now there.1 same c.requires.next)
