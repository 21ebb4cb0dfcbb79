use Rattle.std.proofs.Common.{◌≡◌, ◌^◌, ◌<◌, ℕ, length, map, List, None, false, sym, ap, ◌∙◌, subst, arith}
use Rattle.cmd_board.specs.Enroll.{first_refusal}
use Rattle.board_layout.specs.Board.{Board}
use Rattle.jam_records.specs.declared.message.Message.{Message}
use Rattle.cmd_board.specs.mail_board.declared.change.Change.TheVariants.{Spread}
use Rattle.post_changes.specs.Posted.{ArePlaced, spread}
use Rattle.cmd_messages.proofs.SampleFitLaws.{sample_fits, sample_short}
use Rattle.cmd_messages.proofs.SampleLists.{are_placed, posts_count}
use Rattle.cmd_messages.proofs.SlotCounts.{slots_small}
use Rattle.cmd_messages.proofs.TurnLaws.{appends, is_wrong, right_count, size_refuses, size_small, slots_refuse}
use Rattle.cmd_messages.specs.Sample.{sampled_posts, slot_counts, slots_case}
use Rattle.cmd_messages.proofs.sampling.prepared.Goals as goal

pub slots_refusal-requires-clause-few : goal.slots_refusal-requires-clause-few
slots_refusal-requires-clause-few c =
    omega (arith, ap length c.in_ok-sampling.ensures.posts, posts_count c.args.seed c.args.now c.stored.result.now c.args.count, c.if-count-gt-COUNT_LIMIT.false)

pub returns-in-Some : goal.returns-in-Some
returns-in-Some c =
    let b : Board = c.args.board.now.board in
    let posts : List (ℕ × Message) = c.in_ok-sampling.sampling.posts in
    let made : posts ≡ sampled_posts c.args.seed c.args.now b c.args.count = c.in_ok-sampling.ensures.posts ∙ ap (λ (other : Board). sampled_posts c.args.seed c.args.now other c.args.count) c.stored.ensures.board in
    let right : is_wrong c.args.count ≡ false = right_count c.args.count (omega (arith, c.if-count-eq0.false)) c.if-count-gt-COUNT_LIMIT.false in
    slots_refuse c.args.seed c.args.count c.args.now b right posts made c.in-Some.refusal
    (ap (λ (other : Board). first_refusal (map slots_case (slot_counts (spread posts other)))) (sym c.stored-2.ensures.board) ∙ (sym c.slots_refusal.ensures ∙ c.in-Some.is))

pub size_refusal-requires-clause-exists : goal.size_refusal-requires-clause-exists
size_refusal-requires-clause-exists c =
    let b : Board = c.args.board.now.board in
    let posts : List (ℕ × Message) = c.in_ok-sampling.sampling.posts in
    let made : posts ≡ sampled_posts c.args.seed c.args.now b c.args.count = c.in_ok-sampling.ensures.posts ∙ ap (λ (other : Board). sampled_posts c.args.seed c.args.now other c.args.count) c.stored.ensures.board in
    subst (λ (ps : List (ℕ × Message)). ArePlaced ps b) (sym made) (are_placed c.args.seed c.args.now b c.args.count c.requires)

pub size_refusal-requires-clause-short : goal.size_refusal-requires-clause-short
size_refusal-requires-clause-short c =
    let b : Board = c.args.board.now.board in
    let posts : List (ℕ × Message) = c.in_ok-sampling.sampling.posts in
    let made : posts ≡ sampled_posts c.args.seed c.args.now b c.args.count = c.in_ok-sampling.ensures.posts ∙ ap (λ (other : Board). sampled_posts c.args.seed c.args.now other c.args.count) c.stored.ensures.board in
    let small : c.args.seed < 2 ^ 32 = omega arith in
    sample_short c.args.seed c.args.now b c.requires small c.args.count c.if-count-gt-COUNT_LIMIT.false posts made c.in_ok-sampling.ensures.sampling.typed

pub returns-in-Some-size_refusal : goal.returns-in-Some-size_refusal
returns-in-Some-size_refusal c =
    let b : Board = c.args.board.now.board in
    let posts : List (ℕ × Message) = c.in_ok-sampling.sampling.posts in
    let made : posts ≡ sampled_posts c.args.seed c.args.now b c.args.count = c.in_ok-sampling.ensures.posts ∙ ap (λ (other : Board). sampled_posts c.args.seed c.args.now other c.args.count) c.stored.ensures.board in
    let right : is_wrong c.args.count ≡ false = right_count c.args.count (omega (arith, c.if-count-eq0.false)) c.if-count-gt-COUNT_LIMIT.false in
    let few : first_refusal (map slots_case (slot_counts (spread posts b))) ≡ None =
    ap (λ (other : Board). first_refusal (map slots_case (slot_counts (spread posts other)))) (sym c.stored-2.ensures.board) ∙ (sym c.slots_refusal.ensures ∙ c.in_default.is) in
    size_refuses c.args.seed c.args.count c.args.now b right posts made few c.in-Some-size_refusal.refusal (sym c.size_refusal.ensures ∙ c.in-Some-size_refusal.is)

pub returns : goal.returns
returns c =
    let b : Board = c.args.board.now.board in
    let posts : List (ℕ × Message) = c.in_ok-sampling.sampling.posts in
    let made : posts ≡ sampled_posts c.args.seed c.args.now b c.args.count = c.in_ok-sampling.ensures.posts ∙ ap (λ (other : Board). sampled_posts c.args.seed c.args.now other c.args.count) c.stored.ensures.board in
    let right : is_wrong c.args.count ≡ false = right_count c.args.count (omega (arith, c.if-count-eq0.false)) c.if-count-gt-COUNT_LIMIT.false in
    let small : c.args.seed < 2 ^ 32 = omega arith in
    let few : first_refusal (map slots_case (slot_counts (spread posts b))) ≡ None =
    ap (λ (other : Board). first_refusal (map slots_case (slot_counts (spread posts other)))) (sym c.stored-2.ensures.board) ∙ (sym c.slots_refusal.ensures ∙ c.in_default.is) in
    let short = sym c.size_refusal.ensures ∙ c.in_default-size_refusal.is in (
      sample_fits c.args.seed c.args.now b c.requires small c.args.count c.if-count-gt-COUNT_LIMIT.false posts made c.in_ok-sampling.ensures.sampling.typed (slots_small b posts c.requires few) (size_small (spread posts b) short),
      appends c.args.seed c.args.count c.args.now b right posts made few short,
      tt,
      ap Spread made,
    )
