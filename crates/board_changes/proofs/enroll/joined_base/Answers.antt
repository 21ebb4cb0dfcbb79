use Rattle.std.proofs.Common.{rules, ◌≡◌, ◌<◌, ◌+◌, ℕ, Bool, true, List, length, sym, ap, ◌∙◌, subst, arith}
use Rattle.std.specs.Prelude.{All}
use Rattle.board_changes.proofs.EachMember.{away_gathers, member_gathers, member_joins}
use Rattle.board_changes.proofs.MemberLaws.{ids_below, joins_base, place_next, readers_at, stays_base}
use Rattle.board_changes.specs.Changed.{with_member}
use Rattle.board_changes.specs.Outlined.{GatheredEach}
use Rattle.board_layout.specs.Board.{Board, readers_from}
use Rattle.board_ledger.specs.Users.{is_member}
use Rattle.board_ledger.specs.declared.user.User.{User}
use Rattle.board_layout.specs.jam_base.Contents.{Contents, with_reader}
use Rattle.board_layout.specs.jam_base.Outlined.{TurnsEach}
use Rattle.board_layout.specs.jam_layout.declared.reader.Reader.{Reader}
use Rattle.board_changes.proofs.enroll.joined_base.Goals as goal

pub is_member-requires : goal.is_member-requires
is_member-requires c = omega (arith, c.from.ensures, place_next c.args.board.now c.args.user.now c.args.place c.args.base.now c.requires.next c.requires.base)

pub returns-then-not-is_member-clause-base : goal.returns-then-not-is_member-clause-base
returns-then-not-is_member-clause-base c =
    stays_base c.args.board.now c.args.user.now c.args.place c.args.base.now c.requires.base
    (sym (c.is_member.ensures ∙ ap (is_member c.args.user.now) c.from.ensures) ∙ c.if-not-is_member.true)

pub returns-then-not-is_member-clause-gathers : goal.returns-then-not-is_member-clause-gathers
returns-then-not-is_member-clause-gathers c =
    away_gathers c.args.board.now c.args.user.now c.args.place c.args.base.now c.args.intent.now c.requires.board c.requires.next c.requires.base c.requires.gathered
    (sym (c.is_member.ensures ∙ ap (is_member c.args.user.now) c.from.ensures) ∙ c.if-not-is_member.true)

pub joined-requires : goal.joined-requires
joined-requires c =
    let ids = ids_below c.args.place 1 (length c.args.board.now.ledger.users + 1) c.args.board.now.ledger.users (omega arith) in
    let users : length c.args.board.now.ledger.users ≡ c.len.result = search rules in
    subst (λ (rs : List Reader). All (λ (r : Reader). r.id < c.len.result + 1) rs) (sym (readers_at c.args.board.now c.args.place c.args.base.now c.requires.base))
    (subst (λ (n : ℕ). All (λ (r : Reader). r.id < n + 1) (readers_from c.args.place 1 c.args.board.now.ledger.users)) users ids)

-- the user is a member
member : (u : User) (place from : ℕ) (is : Bool) → is ≡ is_member u from → from ≡ place → is ≡ true → is_member u place ≡ true
member u place from is told same there = sym (told ∙ ap (is_member u) same) ∙ there

pub add_all-requires : goal.add_all-requires
add_all-requires c =
    let b : Board = c.args.board.now in
    let u : User = c.args.user.now in
    let base : Contents = c.args.base.now in
    let users : c.len.result ≡ length b.ledger.users = search rules in
    let named : c.as_slice.result.now ≡ u.name = search rules in
    let join : with_reader (c.len.result + 1) c.as_slice.result.now ≡ with_reader (length b.ledger.users + 1) u.name = λ i. with_reader (users i + 1) (named i) in
    member_joins b u c.args.place base c.args.intent.now c.requires.board c.requires.next c.requires.base c.requires.gathered
    (member u c.args.place c.from.result c.is_member.result c.is_member.ensures c.from.ensures c.if-not-is_member.false)
    c.in_ok-change.change.base c.in_ok-change.change.patches (search rules) (subst (λ (f : Contents → Contents). TurnsEach base f c.in_ok-change.change.patches) join c.in_ok-change.ensures.each) c.in_ok-change.ensures.intent

pub returns-clause-base : goal.returns-clause-base
returns-clause-base c =
    joins_base c.args.board.now c.args.user.now c.args.place c.args.base.now c.in_ok-change.change.base c.requires.base
    (member c.args.user.now c.args.place c.from.result c.is_member.result c.is_member.ensures c.from.ensures c.if-not-is_member.false) (search rules)

pub returns-clause-gathers : goal.returns-clause-gathers
returns-clause-gathers c =
    let b : Board = c.args.board.now in
    let u : User = c.args.user.now in
    let base : Contents = c.args.base.now in
    let users : c.len.result ≡ length b.ledger.users = search rules in
    let named : c.as_slice.result.now ≡ u.name = search rules in
    let join : with_reader (c.len.result + 1) c.as_slice.result.now ≡ with_reader (length b.ledger.users + 1) u.name = λ i. with_reader (users i + 1) (named i) in
    subst (GatheredEach b (with_member u) (c.args.place + 1)) (sym c.in_ok-add_all.ensures)
    (member_gathers b u c.args.place base c.args.intent.now c.requires.board c.requires.next c.requires.base c.requires.gathered
    (member u c.args.place c.from.result c.is_member.result c.is_member.ensures c.from.ensures c.if-not-is_member.false)
    c.in_ok-change.change.base c.in_ok-change.change.patches (search rules) (subst (λ (f : Contents → Contents). TurnsEach base f c.in_ok-change.change.patches) join c.in_ok-change.ensures.each) c.in_ok-change.ensures.intent)
