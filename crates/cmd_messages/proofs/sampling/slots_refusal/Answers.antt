use Rattle.std.proofs.Common.{◌≡◌, ℕ, ◌+◌, ◌<◌, List, length, Some, refl, ◌∙◌, ap, arith}
use Rattle.post_changes.specs.board_changes.Changed.{base_at}
use Rattle.board_layout.specs.Board.{Board}
use Rattle.board_layout.specs.jam_base.Contents.{Contents}
use Rattle.packet_verdicts.proofs.Places.{few_slots, small_place}
use Rattle.packet_verdicts.proofs.PostLists.{few_in}
use Rattle.packet_verdicts.proofs.Spreading.{as_many}
use Rattle.post_changes.proofs.PlacePosts.{base_here}
use Rattle.post_changes.specs.Posted.{spread}
use Rattle.cmd_messages.proofs.SamplingLaws.{count_there}
use Rattle.cmd_messages.proofs.SlotCounts.{all_refuse, counts_length, first_past, none_past, refuse_more, slots_here}
use Rattle.cmd_messages.specs.Sample.{slot_counts}
use Rattle.cmd_messages.specs.declared.posts.Sampling.{Sampling}
use Rattle.cmd_board.specs.shelf_files.declared.refusal.Refusal.TheVariants.{Slots}
use Rattle.cmd_messages.proofs.sampling.slots_refusal.Goals as goal

pub loop-place-init : goal.loop-place-init
loop-place-init c = record {
  left = all_refuse (slot_counts (spread c.args.sampling.now.posts c.args.board.now));
  all = c.bases-base-items.ensures.contents;
  end = ap length c.bases-base-items.ensures.contents;
}

pub index-requires : goal.index-requires
index-requires c =
    let b : Board = c.args.board.now in
    let count = c.requires.sampling.places in
    let within : c.loop-place.place < length b.ledger.setup.conferences = omega (arith, as_many b c.bases-base-items.ensures.board, ap length c.bases-base-items.ensures.contents) in
    omega (arith, count, small_place b c.loop-place.place c.bases-base-items.ensures.board within)

pub overflow_add-slots : goal.overflow_add-slots
overflow_add-slots c =
    let b : Board = c.args.board.now in
    let s : Sampling = c.args.sampling.now in
    let place : ℕ = c.loop-place.place in
    let base : Contents = c.base-item.result in
    let ok = c.bases-base-items.ensures.board in
    let within : place < length b.ledger.setup.conferences = omega (arith, as_many b ok, ap length c.bases-base-items.ensures.contents) in
    let here : base_at place b ≡ Some base = base_here b c.bases-base-items.result.now place base c.bases-base-items.ensures.contents (omega arith) c.base-item.is in
    let few = c.requires.few in
    omega (arith, c.slot_count.ensures, few_slots b place base ok here, count_there b s c.requires.sampling place place c.index.result.now (small_place b place ok within) refl c.index.ensures, few_in place s.posts, few)

pub returns-then-slots-gt-SLOT_LIMIT : goal.returns-then-slots-gt-SLOT_LIMIT
returns-then-slots-gt-SLOT_LIMIT c =
    let b : Board = c.args.board.now in
    let s : Sampling = c.args.sampling.now in
    let place : ℕ = c.loop-place.place in
    let base : Contents = c.base-item.result in
    let ok = c.bases-base-items.ensures.board in
    let counts : List ℕ = slot_counts (spread s.posts b) in
    let slots : ℕ = c.slot_count.result + c.index.result.now in
    let within : place < length b.ledger.setup.conferences = omega (arith, as_many b ok, ap length c.bases-base-items.ensures.contents) in
    let here : base_at place b ≡ Some base = base_here b c.bases-base-items.result.now place base c.bases-base-items.ensures.contents (omega arith) c.base-item.is in
    let posted = count_there b s c.requires.sampling place place c.index.result.now (small_place b place ok within) refl c.index.ensures in
    ap (λ n. Some (Slots n)) c.from.ensures
    ∙ first_past counts place slots c.loop-place.invariant.left (omega (arith, within, as_many b ok, counts_length b s.posts ok)) (slots_here b s.posts ok place base c.slot_count.result c.index.result.now here c.slot_count.ensures posted within)
    c.if-slots-gt-SLOT_LIMIT.true

pub loop-place-preserved : goal.loop-place-preserved
loop-place-preserved c =
    let b : Board = c.args.board.now in
    let s : Sampling = c.args.sampling.now in
    let place : ℕ = c.loop-place.place in
    let base : Contents = c.base-item.result in
    let ok = c.bases-base-items.ensures.board in
    let counts : List ℕ = slot_counts (spread s.posts b) in
    let slots : ℕ = c.slot_count.result + c.index.result.now in
    let within : place < length b.ledger.setup.conferences = omega (arith, as_many b ok, ap length c.bases-base-items.ensures.contents) in
    let here : base_at place b ≡ Some base = base_here b c.bases-base-items.result.now place base c.bases-base-items.ensures.contents (omega arith) c.base-item.is in
    let posted = count_there b s c.requires.sampling place place c.index.result.now (small_place b place ok within) refl c.index.ensures in
    let v = c.loop-place.invariant in
    record {
      left = refuse_more counts place slots v.left (omega (arith, within, as_many b ok, counts_length b s.posts ok)) (slots_here b s.posts ok place base c.slot_count.result c.index.result.now here c.slot_count.ensures posted within)
          c.if-slots-gt-SLOT_LIMIT.false;
      all = v.all;
      end = v.end;
    }

pub returns : goal.returns
returns c =
    let b : Board = c.args.board.now in
    let s : Sampling = c.args.sampling.now in
    none_past (slot_counts (spread s.posts b)) c.loop-place.place c.loop-place.invariant.left (omega (arith, counts_length b s.posts c.bases-base-items.ensures.board, ap length c.bases-base-items.ensures.contents))
