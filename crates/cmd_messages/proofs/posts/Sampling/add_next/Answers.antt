use Rattle.std.proofs.Common.{◌≡◌, ◌<◌, ℕ, ◌+◌, length, ap, ◌∙◌, arith}
use Rattle.std.proofs.lemmas.Result.{on_ok_weaker}
use Rattle.board_layout.specs.Board.{Board}
use Rattle.packet_verdicts.proofs.Places.{small_place}
use Rattle.post_changes.specs.Posted.{spread}
use Rattle.cmd_messages.proofs.SamplingLaws.{count_there, drafts, few_there, sampling_more}
use Rattle.cmd_messages.specs.Draws.{draws_of}
use Rattle.cmd_messages.specs.Sample.{drawn_replyid, sampled_message}
use Rattle.cmd_messages.specs.declared.posts.Sampling.{Sampling}
use Rattle.cmd_messages.proofs.posts.Sampling.add_next.Goals as goal

pub replyid_of-requires-clause-few : goal.replyid_of-requires-clause-few
replyid_of-requires-clause-few c =
    let b : Board = c.args.board.now in
    few_there b c.args.self.now c.requires.sampling c.draws-draws.result.place c.from-place.result c.index.result.now (small_place b c.draws-draws.result.place c.draws-draws.ensures.board c.draws-draws.ensures.place) c.from-place.ensures c.index.ensures c.requires.few

pub overflow_add-index_mut : goal.overflow_add-index_mut
overflow_add-index_mut c =
    let b : Board = c.args.board.now in
    let within : c.draws-draws.result.place < 64 = small_place b c.draws-draws.result.place c.draws-draws.ensures.board c.draws-draws.ensures.place in
    omega (arith, few_there b c.args.self.now c.requires.sampling c.draws-draws.result.place c.from-place.result c.index_mut.result.now within c.from-place.ensures c.index_mut.ensures.value c.requires.few)

pub returns-clause-sampling : goal.returns-clause-sampling
returns-clause-sampling c =
    let b : Board = c.args.board.now in
    let s : Sampling = c.args.self.now in
    let known = c.requires.sampling in
    let d = c.draws-draws.result in
    let within : d.place < 64 = small_place b d.place c.draws-draws.ensures.board c.draws-draws.ensures.place in
    let drawn : d ≡ draws_of s.seed (length s.posts) b = c.draws-draws.ensures.draws s.seed (length s.posts) known.number in
    let count = count_there b s known d.place c.from-place.result c.index.result.now within c.from-place.ensures c.index.ensures in
    let reply : c.in_ok-replyid.replyid ≡ drawn_replyid d (spread s.posts b) = c.in_ok-replyid.ensures s.posts (drafts b s known) count in
    let made : c.in_ok-message.message ≡ sampled_message s.seed s.moment (length s.posts + 1) d (spread s.posts b) =
    c.in_ok-message.ensures.message s.posts reply ∙ ap (λ (n : ℕ). sampled_message s.seed s.moment (n + 1) d (spread s.posts b)) c.len.ensures in
    on_ok_weaker c.add.result
    (λ is. sampling_more b s known d c.in_ok-message.message c.draws-draws.new.self c.from-place.result c.index_mut.result.now within c.from-place.ensures c.index_mut.ensures.value drawn made c.add.new.self
    (c.draws-draws.ensures.number s.seed (length s.posts) known.number) c.in_ok-message.ensures.typed is)
    c.add.ensures.ok
