use Rattle.std.proofs.Common.{rules, ◌<◌, length}
use Rattle.cmd_board.proofs.ReportLaws.{place_within}
use Rattle.test_limits.proofs.tests.messages.generated.Goals as goal

pub msgid_of-requires : goal.msgid_of-requires
msgid_of-requires c =
    let here : c.args.place < length c.args.board.now.board.ledger.setup.conferences = search rules in
    place_within c.args.board.now.board c.args.place c.setup.ensures.valid here

pub has_msgid-held-requires : goal.has_msgid-held-requires
has_msgid-held-requires c =
    let here : c.args.place < length c.args.board.now.board.ledger.setup.conferences = search rules in
    place_within c.args.board.now.board c.args.place c.setup.ensures.valid here
