use Rattle.std.proofs.Common.{◌<◌, ℕ, ◌+◌, length, ap, arith}
use Rattle.board_layout.specs.Board.{Board}
use Rattle.mail_intake.proofs.TallyLaws.{count_there, few_slots, place_taken, tally_more}
use Rattle.mail_intake.specs.declared.tally.Tally.{Tally}
use Rattle.mail_intake.proofs.tally.Tally.add.Goals as goal

pub size_with-self-requires-clause-place : goal.size_with-self-requires-clause-place
size_with-self-requires-clause-place c = place_taken c.args.board.now c.args.self.now.posts c.args.place c.args.message c.requires.tally.board c.requires.takes

pub index_mut-slots-requires : goal.index_mut-slots-requires
index_mut-slots-requires c =
    let within : c.args.place < length c.args.board.now.conferences = place_taken c.args.board.now c.args.self.now.posts c.args.place c.args.message c.requires.tally.board c.requires.takes in
    omega (arith, within, c.from.ensures, c.requires.tally.count)

pub overflow_add-slots : goal.overflow_add-slots
overflow_add-slots c =
    let b : Board = c.args.board.now in
    let t : Tally = c.args.self.now in
    let within : c.args.place < length b.conferences = place_taken b t.posts c.args.place c.args.message c.requires.tally.board c.requires.takes in
    let counted = count_there b t c.args.place c.from.result c.index_mut-slots.result.now c.requires.tally within c.from.ensures c.index_mut-slots.ensures.value in
    omega (arith, counted, few_slots b t c.args.place c.args.message c.size_with-self.ensures.board c.requires.tally c.requires.takes c.requires.room)

pub returns-clause-tally : goal.returns-clause-tally
returns-clause-tally c =
    tally_more c.args.board.now c.args.self.now c.args.place c.args.message c.size_with-self.ensures.board c.requires.tally c.requires.takes c.requires.room c.add.new.self c.from.result c.index_mut-slots.result.now c.size_with-self.result c.in_ok-add.ensures.ok
    c.from.ensures c.index_mut-slots.ensures.value c.size_with-self.ensures.size

pub returns-clause-number : goal.returns-clause-number
returns-clause-number c =
    let b : Board = c.args.board.now in
    let t : Tally = c.args.self.now in
    let within : c.args.place < length b.conferences = place_taken b t.posts c.args.place c.args.message c.requires.tally.board c.requires.takes in
    ap (λ (n : ℕ). n + 1) (count_there b t c.args.place c.from.result c.index_mut-slots.result.now c.requires.tally within c.from.ensures c.index_mut-slots.ensures.value)
