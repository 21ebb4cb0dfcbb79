use Rattle.std.proofs.Common.{Option, refl}
use Rattle.std.proofs.lemmas.Result.{on_ok_weaker}
use Rattle.slot_changes.specs.board_changes.declared.change.BoardChange.{BoardChange}
use Rattle.board_layout.specs.Board.{Board}
use Rattle.board_layout.specs.jam_base.declared.change.BaseChange.{BaseChange}
use Rattle.post_changes.proofs.PostLaws.{posted_there}
use Rattle.post_changes.proofs.PostSteps.{post_joins, post_more}
use Rattle.post_changes.specs.Posting.{next_ledger}
use Rattle.post_changes.proofs.post.add_base.Goals as goal

pub place_posted-requires-clause-next : goal.place_posted-requires-clause-next
place_posted-requires-clause-next c =
    posted_there c.args.board.now c.args.posts.now (next_ledger c.args.board.now c.args.change.now) c.requires.board c.requires.so_far.shapes c.requires.so_far.next c.args.place c.args.base.now c.requires.base

pub gather-requires : goal.gather-requires
gather-requires c =
    post_joins c.args.board.now c.args.posts.now c.args.place c.args.base.now c.args.change.now c.in_ok-made.made c.requires.board c.requires.base c.in_ok-made.ensures.base c.in_ok-made.ensures.changes c.in_ok-made.ensures.each c.requires.so_far

pub returns-clause-so_far : goal.returns-clause-so_far
returns-clause-so_far c =
    let b : Board = c.args.board.now in
    let made : Option BaseChange = c.in_ok-made.made in
    let after : BoardChange = record { ledger = c.args.change.now.ledger; bases = c.add.new.self; intent = c.gather.new.intent } in
    on_ok_weaker c.add.result
    (λ added. post_more b c.args.posts.now c.args.place c.args.base.now c.args.change.now made c.requires.board c.requires.base c.in_ok-made.ensures.base c.in_ok-made.ensures.changes c.in_ok-made.ensures.each c.requires.so_far after
    c.in_ok-next.next c.in_ok-made.ensures.costs c.in_ok-next.ensures.base refl added c.in_ok-next.ensures.gathers)
    c.add.ensures.ok
