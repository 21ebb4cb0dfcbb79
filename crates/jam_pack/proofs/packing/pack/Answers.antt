use Rattle.std.proofs.Common.{rules, ◌≡◌, ◌≢◌, Err, inl, inr, sym, ap, ◌∙◌, subst}
use Rattle.board_layout.specs.Board.{Board}
use Rattle.board_layout.specs.Layout.{IsLayout}
use Rattle.board_layout.specs.Outlines.{board_outline}
use Rattle.door_outside.specs.Disk.{AllNow, Between, Unchanged}
use Rattle.mail_board.proofs.FetchedHosts.{behind_moments, behind_now, fetched_now, unchanged_never}
use Rattle.mail_board.proofs.OneHost.{alike_held, holds_still, rests_still}
use Rattle.mail_board.specs.Held.{BeforeOrNext, HeldBoard, Rests, RestsOn}
use Rattle.mail_board.specs.declared.change.ChangeError.{ChangeError}
use Rattle.slot_changes.specs.Packed.{packed, packed_count, replaced}
use Rattle.jam_pack.proofs.PackErrors.{undone, undone_sure}
use Rattle.jam_pack.proofs.PackedBoards.{count_alike, fetched_alike, fetched_fit, fetched_next, packed_stays}
use Rattle.jam_pack.specs.Packing.{pack_change_error}
use Rattle.jam_pack.proofs.packing.pack.Goals as goal

-- ---- no message is deleted
pub returns-then-count-eq0-clause-now : goal.returns-then-count-eq0-clause-now
returns-then-count-eq0-clause-now g c = λ tells certain b holds.
    fetched_now b (packed c.args.place b) (g.H.Host.disk c.args.host.now) (g.H.Host.disk c.args.host.now) holds (unchanged_never (g.H.Host.disk c.args.host.now))

pub returns-then-count-eq0-clause-board : goal.returns-then-count-eq0-clause-board
returns-then-count-eq0-clause-board g c =
    let held : Board = c.args.board.now.board in
    let none : packed_count c.args.place held ≡ 0 = sym (c.packed_count-count.ensures ∙ ap (packed_count c.args.place) c.stored.ensures.board) ∙ c.if-count-eq0.true in
    record {
      valid = c.stored.ensures.valid;
      alike = ap board_outline (sym (packed_stays held c.args.place c.stored.ensures.valid none));
      sure = sym c.doubtful.ensures ∙ c.if-doubtful.false;
    }

pub returns-then-count-eq0-clause-next : goal.returns-then-count-eq0-clause-next
returns-then-count-eq0-clause-next g c = λ tells b holds.
    let held : Board = c.args.board.now.board in
    let disk = g.H.Host.disk c.args.host.now in
    let alike = alike_held held disk (c.requires.rests tells (sym c.doubtful.ensures ∙ c.if-doubtful.false)) b holds in
    let none : packed_count c.args.place held ≡ 0 = sym (c.packed_count-count.ensures ∙ ap (packed_count c.args.place) c.stored.ensures.board) ∙ c.if-count-eq0.true in
    subst (λ (n : Board). Rests n disk) (sym (packed_stays b c.args.place holds.0 (count_alike b held alike c.args.place ∙ none))) holds.1

-- ---- the slots were not fetched
pub returns-in_err-slots-clause-now : goal.returns-in_err-slots-clause-now
returns-in_err-slots-clause-now g c = λ tells certain b holds.
    fetched_now b (packed c.args.place b) (g.H.Host.disk c.args.host.now) (g.H.Host.disk c.slots_of.new.host) holds (c.slots_of.ensures.unchanged tells)

pub returns-in_err-slots-clause-rests : goal.returns-in_err-slots-clause-rests
returns-in_err-slots-clause-rests g c = λ tells certain still.
    rests_still c.args.board.now.board (g.H.Host.disk c.args.host.now) (g.H.Host.disk c.slots_of.new.host) (c.slots_of.ensures.unchanged tells) (c.requires.rests tells certain)

-- ---- the change
pub replace-requires-clause-fits : goal.replace-requires-clause-fits
replace-requires-clause-fits g c =
    let held : Board = c.args.board.now.board in
    let some : packed_count c.args.place held ≢ 0 = λ none. c.if-count-eq0.false (c.packed_count-count.ensures ∙ (ap (packed_count c.args.place) c.stored.ensures.board ∙ none)) in
    fetched_fit held c.args.place c.stored.ensures.valid some c.in_ok-slots.slots c.in_ok-slots.ensures.outline c.in_ok-slots.ensures.lines

pub replace-requires-clause-rests : goal.replace-requires-clause-rests
replace-requires-clause-rests g c = λ tells certain.
    rests_still c.args.board.now.board (g.H.Host.disk c.args.host.now) (g.H.Host.disk c.slots_of.new.host) (c.slots_of.ensures.unchanged tells) (c.requires.rests tells certain)

pub returns-in_err-replace-clause-moments : goal.returns-in_err-replace-clause-moments
returns-in_err-replace-clause-moments g c = λ tells certain b holds.
    let old = g.H.Host.disk c.args.host.now in
    let mid = g.H.Host.disk c.slots_of.new.host in
    let new = g.H.Host.disk c.replace.new.host in
    let same = c.slots_of.ensures.unchanged tells in
    let held : Board = c.args.board.now.board in
    let alike = alike_held held old (c.requires.rests tells certain) b holds in
    let some : packed_count c.args.place held ≢ 0 = λ none. c.if-count-eq0.false (c.packed_count-count.ensures ∙ (ap (packed_count c.args.place) c.stored.ensures.board ∙ none)) in
    let next = fetched_next held b alike holds.0 c.args.place some c.in_ok-slots.slots (c.in_ok-slots.ensures.slots tells b holds) in
    subst (λ (n : Board). Between old new (BeforeOrNext (IsLayout b) n old)) next
    (behind_moments b (replaced c.args.place c.in_ok-slots.slots b) old mid new same (c.replace.ensures.moments tells certain b (holds_still b old mid same holds)))

pub returns-in_err-replace-clause-now : goal.returns-in_err-replace-clause-now
returns-in_err-replace-clause-now g c = λ tells certain b holds.
    let old = g.H.Host.disk c.args.host.now in
    let mid = g.H.Host.disk c.slots_of.new.host in
    let new = g.H.Host.disk c.replace.new.host in
    let same = c.slots_of.ensures.unchanged tells in
    let held : Board = c.args.board.now.board in
    let alike = alike_held held old (c.requires.rests tells certain) b holds in
    let some : packed_count c.args.place held ≢ 0 = λ none. c.if-count-eq0.false (c.packed_count-count.ensures ∙ (ap (packed_count c.args.place) c.stored.ensures.board ∙ none)) in
    let next = fetched_next held b alike holds.0 c.args.place some c.in_ok-slots.slots (c.in_ok-slots.ensures.slots tells b holds) in
    subst (λ (n : Board). AllNow new (BeforeOrNext (IsLayout b) n old)) next
    (behind_now b (replaced c.args.place c.in_ok-slots.slots b) old mid new same (c.replace.ensures.now tells certain b (holds_still b old mid same holds)))

pub returns-in_err-replace-clause-unchanged : goal.returns-in_err-replace-clause-unchanged
returns-in_err-replace-clause-unchanged g c early =
    let e : ChangeError = c.in_err-replace.field-0.0 in
    let is : c.from_residual-in_err-replace.result ≡ Err (pack_change_error e) = search rules in
    let host_is : c.replace.new.host ≡ c.slots_of.new.host = elim (undone e c.from_residual-in_err-replace.result is early) [
      | inl doubt ↦ (c.in_err-replace.ensures.unchanged (ap Err doubt)).1
      | inr starved ↦ (c.in_err-replace.ensures.starved (ap Err starved)).1
    ] in
    let board_is : c.replace.new.self ≡ c.args.board.now = elim (undone e c.from_residual-in_err-replace.result is early) [
      | inl doubt ↦ (c.in_err-replace.ensures.unchanged (ap Err doubt)).0
      | inr starved ↦ (c.in_err-replace.ensures.starved (ap Err starved)).0
    ] in
    record {
      board = board_is;
      disk = λ tells. subst (λ host. Unchanged (g.H.Host.disk c.args.host.now) (g.H.Host.disk host)) (sym host_is) (c.slots_of.ensures.unchanged tells);
    }

-- behind one that leaves the board in no doubt all is as it was
pub returns-in_err-replace-clause-rests : goal.returns-in_err-replace-clause-rests
returns-in_err-replace-clause-rests g c = λ tells certain still.
    let e : ChangeError = c.in_err-replace.field-0.0 in
    let held = c.args.board.now in
    let mid = c.slots_of.new.host in
    let rests : RestsOn held.board (g.H.Host.disk mid) =
    rests_still held.board (g.H.Host.disk c.args.host.now) (g.H.Host.disk mid) (c.slots_of.ensures.unchanged tells) (c.requires.rests tells certain) in
    let left : (c.replace.new.self ≡ held) × (c.replace.new.host ≡ mid) = elim (undone_sure e held c.replace.new.self (λ is. c.in_err-replace.ensures.fault (ap Err is)) still) [
      | inl doubt ↦ c.in_err-replace.ensures.unchanged (ap Err doubt)
      | inr starved ↦ c.in_err-replace.ensures.starved (ap Err starved)
    ] in
    subst (λ (new : HeldBoard). RestsOn new.board (g.H.Host.disk c.replace.new.host)) (sym left.0) (subst (λ host. RestsOn held.board (g.H.Host.disk host)) (sym left.1) rests)

-- ---- it was made
pub returns-clause-moments : goal.returns-clause-moments
returns-clause-moments g c = λ tells certain b holds.
    let old = g.H.Host.disk c.args.host.now in
    let mid = g.H.Host.disk c.slots_of.new.host in
    let new = g.H.Host.disk c.replace.new.host in
    let same = c.slots_of.ensures.unchanged tells in
    let held : Board = c.args.board.now.board in
    let alike = alike_held held old (c.requires.rests tells certain) b holds in
    let some : packed_count c.args.place held ≢ 0 = λ none. c.if-count-eq0.false (c.packed_count-count.ensures ∙ (ap (packed_count c.args.place) c.stored.ensures.board ∙ none)) in
    let next = fetched_next held b alike holds.0 c.args.place some c.in_ok-slots.slots (c.in_ok-slots.ensures.slots tells b holds) in
    subst (λ (n : Board). Between old new (BeforeOrNext (IsLayout b) n old)) next
    (behind_moments b (replaced c.args.place c.in_ok-slots.slots b) old mid new same (c.replace.ensures.moments tells certain b (holds_still b old mid same holds)))

pub returns-clause-now : goal.returns-clause-now
returns-clause-now g c = λ tells certain b holds.
    let old = g.H.Host.disk c.args.host.now in
    let mid = g.H.Host.disk c.slots_of.new.host in
    let new = g.H.Host.disk c.replace.new.host in
    let same = c.slots_of.ensures.unchanged tells in
    let held : Board = c.args.board.now.board in
    let alike = alike_held held old (c.requires.rests tells certain) b holds in
    let some : packed_count c.args.place held ≢ 0 = λ none. c.if-count-eq0.false (c.packed_count-count.ensures ∙ (ap (packed_count c.args.place) c.stored.ensures.board ∙ none)) in
    let next = fetched_next held b alike holds.0 c.args.place some c.in_ok-slots.slots (c.in_ok-slots.ensures.slots tells b holds) in
    subst (λ (n : Board). AllNow new (BeforeOrNext (IsLayout b) n old)) next
    (behind_now b (replaced c.args.place c.in_ok-slots.slots b) old mid new same (c.replace.ensures.now tells certain b (holds_still b old mid same holds)))

pub returns-clause-board : goal.returns-clause-board
returns-clause-board g c =
    let held : Board = c.args.board.now.board in
    let some : packed_count c.args.place held ≢ 0 = λ none. c.if-count-eq0.false (c.packed_count-count.ensures ∙ (ap (packed_count c.args.place) c.stored.ensures.board ∙ none)) in
    let follows = c.in_ok-replace.ensures.board in
    record {
      valid = follows.valid;
      alike = follows.alike ∙ fetched_alike held c.args.place c.stored.ensures.valid some c.in_ok-slots.slots c.in_ok-slots.ensures.outline c.in_ok-slots.ensures.lines;
      sure = follows.sure;
    }

pub returns-clause-next : goal.returns-clause-next
returns-clause-next g c = λ tells b holds.
    let old = g.H.Host.disk c.args.host.now in
    let mid = g.H.Host.disk c.slots_of.new.host in
    let held : Board = c.args.board.now.board in
    let certain = c.doubtful.ensures in
    let alike = alike_held held old (c.requires.rests tells (sym certain ∙ c.if-doubtful.false)) b holds in
    let some : packed_count c.args.place held ≢ 0 = λ none. c.if-count-eq0.false (c.packed_count-count.ensures ∙ (ap (packed_count c.args.place) c.stored.ensures.board ∙ none)) in
    let next = fetched_next held b alike holds.0 c.args.place some c.in_ok-slots.slots (c.in_ok-slots.ensures.slots tells b holds) in
    subst (λ (n : Board). Rests n (g.H.Host.disk c.replace.new.host)) next (c.in_ok-replace.ensures.next tells b (holds_still b old mid (c.slots_of.ensures.unchanged tells) holds))
