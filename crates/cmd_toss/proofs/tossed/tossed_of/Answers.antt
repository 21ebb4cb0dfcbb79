use Rattle.std.proofs.Common.{◌≡◌, ℕ, ◌+◌, List, refl, ap, arith}
use Rattle.board_layout.specs.Board.{Board}
use Rattle.fts_packet.specs.declared.packet.FtsMessage.{FtsMessage}
use Rattle.cmd_toss.proofs.PacketLaws.{few_messages}
use Rattle.cmd_toss.proofs.TossLaws.{all_tossed, first_tossed, next_tossed}
use Rattle.cmd_toss.specs.Tossed.{tossed}
use Rattle.cmd_toss.proofs.tossed.tossed_of.Goals as goal

pub loop-message-init : goal.loop-message-init
loop-message-init c =
    let none = c.in_ok-tossed.ensures c.args.now in
    record {
      so_far = first_tossed c.args.now c.args.board.now c.in_ok-tossed.tossed c.args.messages.now none;
      at = refl;
      tally = none.tally;
      seen = none.seen;
    }

pub overflow_add-at : goal.overflow_add-at
overflow_add-at c = omega (arith, c.loop-message.invariant.at, c.loop-message-test.true, few_messages c.args.messages.now c.requires.read)

pub loop-message-preserved : goal.loop-message-preserved
loop-message-preserved c =
    let b : Board = c.args.board.now in
    let messages : List FtsMessage = c.args.messages.now in
    let v = c.loop-message.invariant in
    let at : c.loop-message.at + 1 ≡ c.loop-message.message-index + 1 = ap (λ (n : ℕ). n + 1) v.at in
    record {
      so_far = next_tossed b c.args.now c.loop-message.message-index (c.loop-message.at + 1) (c.loop-message.at + 1 + 1) (c.loop-message.tossed.lines, c.loop-message.tossed.tally.posts) (c.add_next.new.self.lines, c.add_next.new.self.tally.posts)
          (tossed b c.args.now messages) messages c.message-item.result c.loop-message-test.true c.message-item.is at refl c.in_ok-add_next.ensures.step v.so_far;
      at = at;
      tally = c.in_ok-add_next.ensures.known.0;
      seen = c.in_ok-add_next.ensures.known.1;
    }

pub returns : goal.returns
returns c =
    let b : Board = c.args.board.now in
    let messages : List FtsMessage = c.args.messages.now in
    let v = c.loop-message.invariant in
    record {
      so_far = all_tossed b c.args.now c.loop-message.message-index (c.loop-message.at + 1) (c.loop-message.tossed.lines, c.loop-message.tossed.tally.posts) (tossed b c.args.now messages) messages (omega arith) v.so_far;
      tally = v.tally;
      seen = v.seen;
    }
