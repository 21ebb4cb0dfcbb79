use Rattle.std.proofs.Common.{ap, subst}
use Rattle.board_layout.specs.Board.{Board}
use Rattle.board_layout.specs.Layout.{IsLayout}
use Rattle.board_layout.specs.Outlines.{board_outline}
use Rattle.door_outside.specs.Disk.{AllNow, Between}
use Rattle.mail_board.proofs.CommitLaws.{calm_now}
use Rattle.mail_board.proofs.DataLaws.{layout_moves}
use Rattle.mail_board.proofs.OneHost.{alike_held}
use Rattle.mail_board.specs.Held.{BeforeOrNext, Follows, Rests}
use Rattle.door_export.specs.Ack.{ack_of, after_ack}
use Rattle.door_export.proofs.acknowledging.acknowledge.Goals as goal

pub returns-in_err-acknowledged-clause-now : goal.returns-in_err-acknowledged-clause-now
returns-in_err-acknowledged-clause-now g c = λ tells certain b holds.
    calm_now (IsLayout b) (layout_moves b) (after_ack b (ack_of c.args.user.now c.args.packet c.args.now b)) (g.H.Host.disk c.args.host.now) holds.1.calm holds.1.files

-- ---- the change was not made
pub returns-in_err-change-clause-moments : goal.returns-in_err-change-clause-moments
returns-in_err-change-clause-moments g c = λ tells certain b holds.
    let old = g.H.Host.disk c.args.host.now in
    let next = ap (after_ack b) (c.in_ok-acknowledged.ensures.board b (alike_held c.args.board.now.board old (c.requires.rests tells certain) b holds)) in
    subst (λ (n : Board). Between old (g.H.Host.disk c.change.new.host) (BeforeOrNext (IsLayout b) n old)) next (c.change.ensures.moments tells certain b holds)

pub returns-in_err-change-clause-now : goal.returns-in_err-change-clause-now
returns-in_err-change-clause-now g c = λ tells certain b holds.
    let old = g.H.Host.disk c.args.host.now in
    let next = ap (after_ack b) (c.in_ok-acknowledged.ensures.board b (alike_held c.args.board.now.board old (c.requires.rests tells certain) b holds)) in
    subst (λ (n : Board). AllNow (g.H.Host.disk c.change.new.host) (BeforeOrNext (IsLayout b) n old)) next (c.change.ensures.now tells certain b holds)

-- ---- it was
pub returns-clause-moments : goal.returns-clause-moments
returns-clause-moments g c = λ tells certain b holds.
    let old = g.H.Host.disk c.args.host.now in
    let next = ap (after_ack b) (c.in_ok-acknowledged.ensures.board b (alike_held c.args.board.now.board old (c.requires.rests tells certain) b holds)) in
    subst (λ (n : Board). Between old (g.H.Host.disk c.change.new.host) (BeforeOrNext (IsLayout b) n old)) next (c.change.ensures.moments tells certain b holds)

pub returns-clause-now : goal.returns-clause-now
returns-clause-now g c = λ tells certain b holds.
    let old = g.H.Host.disk c.args.host.now in
    let next = ap (after_ack b) (c.in_ok-acknowledged.ensures.board b (alike_held c.args.board.now.board old (c.requires.rests tells certain) b holds)) in
    subst (λ (n : Board). AllNow (g.H.Host.disk c.change.new.host) (BeforeOrNext (IsLayout b) n old)) next (c.change.ensures.now tells certain b holds)

pub returns-clause-board : goal.returns-clause-board
returns-clause-board g c =
    let held : Board = c.args.board.now.board in
    let next = ap (after_ack held) (c.in_ok-acknowledged.ensures.board held (λ i. board_outline held)) in
    subst (λ (n : Board). Follows n c.change.new.self) next c.in_ok-change.ensures.board

pub returns-clause-next : goal.returns-clause-next
returns-clause-next g c = λ tells b holds.
    let old = g.H.Host.disk c.args.host.now in
    let next = ap (after_ack b) (c.in_ok-acknowledged.ensures.board b (alike_held c.args.board.now.board old (c.requires.rests tells c.in_ok-acknowledged.ensures.sure) b holds)) in
    subst (λ (n : Board). Rests n (g.H.Host.disk c.change.new.host)) next (c.in_ok-change.ensures.next tells b holds)
