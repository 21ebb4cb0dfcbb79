use Rattle.std.proofs.Common.{rules, ◌≡◌, Err, inl, inr, refl, sym, ap, subst}
use Rattle.board_layout.specs.Board.{Board}
use Rattle.board_layout.specs.Layout.{IsLayout}
use Rattle.door_outside.specs.Disk.{AllNow, Between, Unchanged}
use Rattle.mail_board.proofs.OneHost.{holds_still, rests_still}
use Rattle.mail_board.specs.Changes.{changed}
use Rattle.mail_board.specs.Held.{BeforeOrNext, Follows, HeldBoard, Rests, RestsOn}
use Rattle.mail_board.specs.declared.change.ChangeError.{ChangeError}
use Rattle.door_export.proofs.ExportLaws.{kept_never, undone, undone_sure}
use Rattle.mail_board.proofs.FetchedHosts.{behind_moments, behind_now, fetched_now}
use Rattle.door_export.specs.Export.{after_export, export_of}
use Rattle.door_export.specs.Exporting.{export_change_error}
use Rattle.door_export.proofs.exporting.export.Goals as goal

pub returns-in_err-exporting-clause-now : goal.returns-in_err-exporting-clause-now
returns-in_err-exporting-clause-now g c = λ tells certain b holds.
    fetched_now b (after_export b (export_of c.args.user.now c.args.limit c.args.now b)) (g.H.Host.disk c.args.host.now) (g.H.Host.disk c.prepared.new.host) holds (c.prepared.ensures.unchanged tells)

pub returns-in_err-exporting-clause-rests : goal.returns-in_err-exporting-clause-rests
returns-in_err-exporting-clause-rests g c = λ tells certain still.
    rests_still c.args.board.now.board (g.H.Host.disk c.args.host.now) (g.H.Host.disk c.prepared.new.host) (c.prepared.ensures.unchanged tells) (c.requires.rests tells certain)

pub returns-in_err-names-clause-now : goal.returns-in_err-names-clause-now
returns-in_err-names-clause-now g c = λ tells certain b holds.
    fetched_now b (after_export b (export_of c.args.user.now c.args.limit c.args.now b)) (g.H.Host.disk c.args.host.now) (g.H.Host.disk c.prepared.new.host) holds (c.prepared.ensures.unchanged tells)

pub returns-in_err-names-clause-rests : goal.returns-in_err-names-clause-rests
returns-in_err-names-clause-rests g c = λ tells certain still.
    rests_still c.args.board.now.board (g.H.Host.disk c.args.host.now) (g.H.Host.disk c.prepared.new.host) (c.prepared.ensures.unchanged tells) (c.requires.rests tells certain)

pub change-requires-clause-rests : goal.change-requires-clause-rests
change-requires-clause-rests g c = λ tells certain.
    rests_still c.args.board.now.board (g.H.Host.disk c.args.host.now) (g.H.Host.disk c.prepared.new.host) (c.prepared.ensures.unchanged tells) (c.requires.rests tells certain)

pub returns-in_err-change-clause-moments : goal.returns-in_err-change-clause-moments
returns-in_err-change-clause-moments g c = λ tells certain b holds.
    let old = g.H.Host.disk c.args.host.now in
    let mid = g.H.Host.disk c.prepared.new.host in
    let new = g.H.Host.disk c.change.new.host in
    let same = c.prepared.ensures.unchanged tells in
    let next = ap (after_export b) (c.in_ok-exporting.ensures.packet tells b holds) in
    subst (λ (n : Board). Between old new (BeforeOrNext (IsLayout b) n old)) next
    (behind_moments b (changed c.in_ok-exporting.exporting.change b) old mid new same (c.change.ensures.moments tells certain b (holds_still b old mid same holds)))

pub returns-in_err-change-clause-now : goal.returns-in_err-change-clause-now
returns-in_err-change-clause-now g c = λ tells certain b holds.
    let old = g.H.Host.disk c.args.host.now in
    let mid = g.H.Host.disk c.prepared.new.host in
    let new = g.H.Host.disk c.change.new.host in
    let same = c.prepared.ensures.unchanged tells in
    let next = ap (after_export b) (c.in_ok-exporting.ensures.packet tells b holds) in
    subst (λ (n : Board). AllNow new (BeforeOrNext (IsLayout b) n old)) next
    (behind_now b (changed c.in_ok-exporting.exporting.change b) old mid new same (c.change.ensures.now tells certain b (holds_still b old mid same holds)))

pub returns-in-Ok-clause-moments : goal.returns-in-Ok-clause-moments
returns-in-Ok-clause-moments g c = λ tells certain b holds.
    let old = g.H.Host.disk c.args.host.now in
    let mid = g.H.Host.disk c.prepared.new.host in
    let new = g.H.Host.disk c.change.new.host in
    let same = c.prepared.ensures.unchanged tells in
    let next = ap (after_export b) (c.in_ok-exporting.ensures.packet tells b holds) in
    subst (λ (n : Board). Between old new (BeforeOrNext (IsLayout b) n old)) next
    (behind_moments b (changed c.in_ok-exporting.exporting.change b) old mid new same (c.change.ensures.moments tells certain b (holds_still b old mid same holds)))

pub returns-in-Ok-clause-now : goal.returns-in-Ok-clause-now
returns-in-Ok-clause-now g c = λ tells certain b holds.
    let old = g.H.Host.disk c.args.host.now in
    let mid = g.H.Host.disk c.prepared.new.host in
    let new = g.H.Host.disk c.change.new.host in
    let same = c.prepared.ensures.unchanged tells in
    let next = ap (after_export b) (c.in_ok-exporting.ensures.packet tells b holds) in
    subst (λ (n : Board). AllNow new (BeforeOrNext (IsLayout b) n old)) next
    (behind_now b (changed c.in_ok-exporting.exporting.change b) old mid new same (c.change.ensures.now tells certain b (holds_still b old mid same holds)))

pub returns-clause-moments : goal.returns-clause-moments
returns-clause-moments g c = λ tells certain b holds.
    let old = g.H.Host.disk c.args.host.now in
    let mid = g.H.Host.disk c.prepared.new.host in
    let new = g.H.Host.disk c.change.new.host in
    let same = c.prepared.ensures.unchanged tells in
    let next = ap (after_export b) (c.in_ok-exporting.ensures.packet tells b holds) in
    subst (λ (n : Board). Between old new (BeforeOrNext (IsLayout b) n old)) next
    (behind_moments b (changed c.in_ok-exporting.exporting.change b) old mid new same (c.change.ensures.moments tells certain b (holds_still b old mid same holds)))

pub returns-clause-now : goal.returns-clause-now
returns-clause-now g c = λ tells certain b holds.
    let old = g.H.Host.disk c.args.host.now in
    let mid = g.H.Host.disk c.prepared.new.host in
    let new = g.H.Host.disk c.change.new.host in
    let same = c.prepared.ensures.unchanged tells in
    let next = ap (after_export b) (c.in_ok-exporting.ensures.packet tells b holds) in
    subst (λ (n : Board). AllNow new (BeforeOrNext (IsLayout b) n old)) next
    (behind_now b (changed c.in_ok-exporting.exporting.change b) old mid new same (c.change.ensures.now tells certain b (holds_still b old mid same holds)))

pub returns-in-Ok-clause-board : goal.returns-in-Ok-clause-board
returns-in-Ok-clause-board g c = λ kept.
    subst (λ (n : Board). Follows n c.change.new.self) (sym c.in_ok-exporting.ensures.board) c.in_ok-change.ensures.board

pub returns-in-Ok-clause-next : goal.returns-in-Ok-clause-next
returns-in-Ok-clause-next g c = λ kept tells b holds.
    let old = g.H.Host.disk c.args.host.now in
    let mid = g.H.Host.disk c.prepared.new.host in
    let next = ap (after_export b) (c.in_ok-exporting.ensures.packet tells b holds) in
    subst (λ (n : Board). Rests n (g.H.Host.disk c.change.new.host)) next (c.in_ok-change.ensures.next tells b (holds_still b old mid (c.prepared.ensures.unchanged tells) holds))

pub returns-clause-board : goal.returns-clause-board
returns-clause-board g c = λ kept.
    subst (λ (n : Board). Follows n c.change.new.self) (sym c.in_ok-exporting.ensures.board) c.in_ok-change.ensures.board

pub returns-clause-next : goal.returns-clause-next
returns-clause-next g c = λ kept tells b holds.
    let old = g.H.Host.disk c.args.host.now in
    let mid = g.H.Host.disk c.prepared.new.host in
    let next = ap (after_export b) (c.in_ok-exporting.ensures.packet tells b holds) in
    subst (λ (n : Board). Rests n (g.H.Host.disk c.change.new.host)) next (c.in_ok-change.ensures.next tells b (holds_still b old mid (c.prepared.ensures.unchanged tells) holds))

pub returns-in_err-change-clause-unchanged : goal.returns-in_err-change-clause-unchanged
returns-in_err-change-clause-unchanged g c early =
    let e : ChangeError = c.in_err-change.field-0.0 in
    let is : c.from_residual-in_err-change.result ≡ Err (export_change_error e) = search rules in
    let host_is : c.change.new.host ≡ c.prepared.new.host = elim (undone e c.from_residual-in_err-change.result is early) [
      | inl doubt ↦ (c.in_err-change.ensures.unchanged (ap Err doubt)).1
      | inr starved ↦ (c.in_err-change.ensures.starved (ap Err starved)).1
    ] in
    let board_is : c.change.new.self ≡ c.args.board.now = elim (undone e c.from_residual-in_err-change.result is early) [
      | inl doubt ↦ (c.in_err-change.ensures.unchanged (ap Err doubt)).0
      | inr starved ↦ (c.in_err-change.ensures.starved (ap Err starved)).0
    ] in (
      record {
        board = board_is;
        disk = λ tells. subst (λ host. Unchanged (g.H.Host.disk c.args.host.now) (g.H.Host.disk host)) (sym host_is) (c.prepared.ensures.unchanged tells);
      },
      refl,
    )

-- ---- no error of the change keeps the offer
pub returns-in_err-change-clause-board : goal.returns-in_err-change-clause-board
returns-in_err-change-clause-board g c kept =
    let e : ChangeError = c.in_err-change.field-0.0 in
    let is : c.from_residual-in_err-change.result ≡ Err (export_change_error e) = search rules in
    absurd (kept_never e c.from_residual-in_err-change.result is kept)

pub returns-in_err-change-clause-next : goal.returns-in_err-change-clause-next
returns-in_err-change-clause-next g c kept =
    let e : ChangeError = c.in_err-change.field-0.0 in
    let is : c.from_residual-in_err-change.result ≡ Err (export_change_error e) = search rules in
    absurd (kept_never e c.from_residual-in_err-change.result is kept)

-- behind one that leaves the board in no doubt all is as it was
pub returns-in_err-change-clause-rests : goal.returns-in_err-change-clause-rests
returns-in_err-change-clause-rests g c = λ tells certain still.
    let e : ChangeError = c.in_err-change.field-0.0 in
    let held = c.args.board.now in
    let mid = c.prepared.new.host in
    let rests : RestsOn held.board (g.H.Host.disk mid) =
    rests_still held.board (g.H.Host.disk c.args.host.now) (g.H.Host.disk mid) (c.prepared.ensures.unchanged tells) (c.requires.rests tells certain) in
    let left : (c.change.new.self ≡ held) × (c.change.new.host ≡ mid) = elim (undone_sure e held c.change.new.self (λ is. c.in_err-change.ensures.fault (ap Err is)) still) [
      | inl doubt ↦ c.in_err-change.ensures.unchanged (ap Err doubt)
      | inr starved ↦ c.in_err-change.ensures.starved (ap Err starved)
    ] in
    subst (λ (new : HeldBoard). RestsOn new.board (g.H.Host.disk c.change.new.host)) (sym left.0) (subst (λ host. RestsOn held.board (g.H.Host.disk host)) (sym left.1) rests)
