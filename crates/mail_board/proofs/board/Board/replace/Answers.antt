use Rattle.std.proofs.Common.{◌≡◌, sym, ap, ◌∙◌, subst}
use Rattle.post_changes.proofs.board_changes.NextLaws.{next_is, next_board, next_shapes}
use Rattle.board_layout.proofs.OutlineLaws.{outline_again, outline_valid}
use Rattle.board_layout.specs.Board.{Board}
use Rattle.board_layout.specs.Layout.{IsLayout}
use Rattle.board_layout.specs.Outlines.{board_outline}
use Rattle.board_layout.specs.Valid.{IsBoard}
use Rattle.post_changes.specs.slot_changes.Packed.{FitsSlots, replaced}
use Rattle.mail_board.proofs.CommitLaws.{calm_now, commit_moments, commit_now, commit_rests}
use Rattle.mail_board.proofs.DataLaws.{layout_moves}
use Rattle.mail_board.proofs.OneHost.{holds_one}
use Rattle.mail_board.proofs.ReplacedSlots.{follows_replaced, leads_replaced}
use Rattle.mail_board.specs.Held.{HeldBoard}
use Rattle.mail_board.proofs.board.Board.replace.Goals as goal

pub returns-in_err-next-clause-now : goal.returns-in_err-next-clause-now
returns-in_err-next-clause-now g c = λ told certain b holds. calm_now (IsLayout b) (layout_moves b) (replaced c.args.place c.args.slots.now b) (g.H.Host.disk c.args.host.now) holds.1.calm holds.1.files

pub returns-in-Err-clause-moments : goal.returns-in-Err-clause-moments
returns-in-Err-clause-moments g c = λ told certain b holds.
    let disk = g.H.Host.disk c.args.host.now in
    let leads = leads_replaced c.args.place c.args.slots.now c.args.self.now.board disk (c.requires.rests told certain) b holds c.self.inside.stored (ap (λ (h : HeldBoard). h.board) c.self.view_is) c.in_ok-next.next.intent c.in_ok-next.ensures.each in
    commit_moments (IsLayout b) (layout_moves b) (replaced c.args.place c.args.slots.now b) c.in_ok-next.next.intent leads disk holds.1.files (g.H.Host.disk c.commit.new.host) (c.commit.ensures.moments told)

pub returns-in-Err-clause-now : goal.returns-in-Err-clause-now
returns-in-Err-clause-now g c = λ told certain b holds.
    let disk = g.H.Host.disk c.args.host.now in
    let leads = leads_replaced c.args.place c.args.slots.now c.args.self.now.board disk (c.requires.rests told certain) b holds c.self.inside.stored (ap (λ (h : HeldBoard). h.board) c.self.view_is) c.in_ok-next.next.intent c.in_ok-next.ensures.each in
    commit_now (IsLayout b) (layout_moves b) (replaced c.args.place c.args.slots.now b) c.in_ok-next.next.intent leads disk holds.1.files (g.H.Host.disk c.commit.new.host) (c.commit.ensures.now told)

pub renew-requires-clause-board : goal.renew-requires-clause-board
renew-requires-clause-board g c =
    let next : Board = replaced c.args.place c.args.slots.now c.self.inside.stored in
    next_board c.self.inside.stored (board_outline next) c.in_ok-next.next c.in_ok-next.ensures.becomes (outline_valid next ((subst (FitsSlots c.args.place c.args.slots.now) (sym (ap (λ (h : HeldBoard). h.board) c.self.view_is)) c.requires.fits).1))

pub renew-requires-clause-shapes : goal.renew-requires-clause-shapes
renew-requires-clause-shapes g c =
    let next : Board = replaced c.args.place c.args.slots.now c.self.inside.stored in
    next_shapes c.self.inside.stored (board_outline next) c.in_ok-next.next c.in_ok-next.ensures.becomes (outline_valid next ((subst (FitsSlots c.args.place c.args.slots.now) (sym (ap (λ (h : HeldBoard). h.board) c.self.view_is)) c.requires.fits).1))

pub renew-requires-clause-outline : goal.renew-requires-clause-outline
renew-requires-clause-outline g c =
    let next : Board = replaced c.args.place c.args.slots.now c.self.inside.stored in
    subst (λ (b : Board). board_outline b ≡ b) (sym (next_is c.self.inside.stored (board_outline next) c.in_ok-next.next c.in_ok-next.ensures.becomes (outline_valid next ((subst (FitsSlots c.args.place c.args.slots.now) (sym (ap (λ (h : HeldBoard). h.board) c.self.view_is)) c.requires.fits).1)))) (outline_again next)

pub returns-clause-moments : goal.returns-clause-moments
returns-clause-moments g c = λ told certain b holds.
    let disk = g.H.Host.disk c.args.host.now in
    let leads = leads_replaced c.args.place c.args.slots.now c.args.self.now.board disk (c.requires.rests told certain) b holds c.self.inside.stored (ap (λ (h : HeldBoard). h.board) c.self.view_is) c.in_ok-next.next.intent c.in_ok-next.ensures.each in
    commit_moments (IsLayout b) (layout_moves b) (replaced c.args.place c.args.slots.now b) c.in_ok-next.next.intent leads disk holds.1.files (g.H.Host.disk c.commit.new.host) (c.commit.ensures.moments told)

pub returns-clause-now : goal.returns-clause-now
returns-clause-now g c = λ told certain b holds.
    let disk = g.H.Host.disk c.args.host.now in
    let leads = leads_replaced c.args.place c.args.slots.now c.args.self.now.board disk (c.requires.rests told certain) b holds c.self.inside.stored (ap (λ (h : HeldBoard). h.board) c.self.view_is) c.in_ok-next.next.intent c.in_ok-next.ensures.each in
    commit_now (IsLayout b) (layout_moves b) (replaced c.args.place c.args.slots.now b) c.in_ok-next.next.intent leads disk holds.1.files (g.H.Host.disk c.commit.new.host) (c.commit.ensures.now told)

pub returns-clause-board : goal.returns-clause-board
returns-clause-board g c =
    let stored : c.self.inside.stored ≡ c.args.self.now.board = ap (λ (h : HeldBoard). h.board) c.self.view_is in
    let made : Board = replaced c.args.place c.args.slots.now c.self.inside.stored in
    let board : c.renew.new.self ≡ board_outline (replaced c.args.place c.args.slots.now c.args.self.now.board) =
    c.renew.ensures ∙ (next_is c.self.inside.stored (board_outline made) c.in_ok-next.next c.in_ok-next.ensures.becomes (outline_valid made ((subst (FitsSlots c.args.place c.args.slots.now) (sym stored) c.requires.fits).1))
    ∙ ap (λ (b : Board). board_outline (replaced c.args.place c.args.slots.now b)) stored) in
    record {
      valid = subst IsBoard (sym board) (outline_valid (replaced c.args.place c.args.slots.now c.args.self.now.board) (c.requires.fits.1));
      alike = ap board_outline board ∙ outline_again (replaced c.args.place c.args.slots.now c.args.self.now.board);
      sure = c.if-self.false;
    }

pub returns-clause-next : goal.returns-clause-next
returns-clause-next g c = λ told b holds.
    let certain = sym (ap (λ (h : HeldBoard). h.doubtful) c.self.view_is) ∙ c.if-self.false in
    let disk = g.H.Host.disk c.args.host.now in
    let leads = leads_replaced c.args.place c.args.slots.now c.args.self.now.board disk (c.requires.rests told certain) b holds c.self.inside.stored (ap (λ (h : HeldBoard). h.board) c.self.view_is) c.in_ok-next.next.intent c.in_ok-next.ensures.each in
    commit_rests (IsLayout b) (layout_moves b) (replaced c.args.place c.args.slots.now b) c.in_ok-next.next.intent leads disk holds.1.files (g.H.Host.disk c.commit.new.host) (c.in_default.ensures.calm told) (c.in_default.ensures.done told)

pub returns-clause-rests : goal.returns-clause-rests
returns-clause-rests g c = λ told.
    let certain = sym (ap (λ (h : HeldBoard). h.doubtful) c.self.view_is) ∙ c.if-self.false in
    let disk = g.H.Host.disk c.args.host.now in
    let stored : c.self.inside.stored ≡ c.args.self.now.board = ap (λ (h : HeldBoard). h.board) c.self.view_is in
    let rests = c.requires.rests told certain in
    let b : Board = rests.stands.board in
    let holds = holds_one c.args.self.now.board disk rests in
    let made : Board = replaced c.args.place c.args.slots.now c.self.inside.stored in
    let board : c.renew.new.self ≡ board_outline (replaced c.args.place c.args.slots.now c.args.self.now.board) =
    c.renew.ensures ∙ (next_is c.self.inside.stored (board_outline made) c.in_ok-next.next c.in_ok-next.ensures.becomes (outline_valid made ((subst (FitsSlots c.args.place c.args.slots.now) (sym stored) c.requires.fits).1))
    ∙ ap (λ (b : Board). board_outline (replaced c.args.place c.args.slots.now b)) stored) in
    let leads = leads_replaced c.args.place c.args.slots.now c.args.self.now.board disk rests b holds c.self.inside.stored stored c.in_ok-next.next.intent c.in_ok-next.ensures.each in
    follows_replaced c.args.place c.args.slots.now c.args.self.now.board disk rests c.renew.new.self (g.H.Host.disk c.commit.new.host) (subst IsBoard stored c.in_ok-next.ensures.board) c.requires.fits (ap board_outline board ∙ outline_again (replaced c.args.place c.args.slots.now c.args.self.now.board))
    (commit_rests (IsLayout b) (layout_moves b) (replaced c.args.place c.args.slots.now b) c.in_ok-next.next.intent leads disk holds.1.files (g.H.Host.disk c.commit.new.host) (c.in_default.ensures.calm told) (c.in_default.ensures.done told))
