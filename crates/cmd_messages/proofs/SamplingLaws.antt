-- What is known between two messages of a sample, before the first one and with one more.
use Rattle.std.proofs.Common.{◌≡◌, ℕ, ◌+◌, ◌*◌, ◌<◌, ◌≤◌, List, [], ◌∷◌, ◌++◌, length, replicate, get_or, set, refl, sym, ◌∙◌, ap, subst, inl, inr, arith, length-append}
use Rattle.std.specs.Prelude.{All}
use Rattle.std.specs.Vec.{with_item}
use Rattle.std.proofs.lemmas.Bool.{cases_eq, ne_eqb}
use Rattle.std.proofs.lemmas.List.{get_or-set_other, get_or-set_same, length-replicate, length-set}
use Rattle.std.proofs.lemmas.List.Elements.{All-get_or, All-nil, All-push, All-replicate}
use Rattle.std.proofs.lemmas.Option.{get_or_from_slice_get, slice_get-get_or}
use Rattle.board_layout.specs.Board.{Board}
use Rattle.jam_records.specs.declared.message.Message.{Message}
use Rattle.packet_verdicts.proofs.PostLists.{few_in, posts_hit, posts_miss}
use Rattle.post_changes.specs.Posted.{posts_in, spread}
use Rattle.cmd_messages.proofs.SampleLists.{next_post, no_msgids, no_posts, one_more}
use Rattle.cmd_messages.specs.Draws.{draws_of, drawn_number}
use Rattle.cmd_messages.specs.Sample.{sampled_message, sampled_posts}
use Rattle.cmd_messages.specs.Sampling.{IsSampling}
use Rattle.packet_verdicts.specs.Typed.{IsTypedPost}
use Rattle.cmd_messages.specs.declared.draws.Draws.{Draws}
use Rattle.cmd_messages.specs.declared.draws.Numbers.{Numbers}
use Rattle.cmd_messages.specs.declared.posts.Sampling.{Sampling}
use Rattle.jam_layout.specs.Messages.{IsTyped}

-- ---- before the first message
none_posted : (place : ℕ) → place < 64 → ◌≡◌ {A = ℕ} (get_or (replicate 64 0) place 0) 0
none_posted place within = All-get_or (λ (n : ℕ). n ≡ 0) (replicate 64 0) place 0 (omega (arith, within, length-replicate {A = ℕ} 64 0)) (All-replicate (λ (n : ℕ). n ≡ 0) 64 0 refl)

zeroth : (seed n : ℕ) → n ≡ 0 → drawn_number seed (4 * n) ≡ seed
unfolding drawn_number
zeroth seed n none = ap (λ m. drawn_number seed (4 * m)) none

pub no_sampling : (b : Board) (s : Sampling) → s.numbers.last ≡ s.seed → s.posts ≡ [] → s.posted.items ≡ replicate 64 0 → IsSampling b s
no_sampling b s last none zeros = record {
  number = last ∙ sym (zeroth s.seed (length s.posts) (ap length none));
  posts = none ∙ sym (ap (λ n. sampled_posts s.seed s.moment b n) (ap length none) ∙ no_posts s.seed s.moment b);
  places = ap length zeros ∙ length-replicate {A = ℕ} 64 0;
  counts = λ place within. ap (λ (ns : List ℕ). get_or ns place 0) zeros ∙ (none_posted place within ∙ sym (ap (λ (ps : List (ℕ × Message)). length (posts_in place ps)) none));
  typed = subst (All IsTypedPost) (sym none) (All-nil IsTypedPost);
}

-- ---- what is counted
module _ (b : Board) (s : Sampling) (known : IsSampling b s) where
  pub drafts : All (λ (p : ℕ × Message). p.1.msgid ≡ []) s.posts
  drafts = subst (All (λ (p : ℕ × Message). p.1.msgid ≡ [])) (sym known.posts) (no_msgids s.seed s.moment b (length s.posts))

  -- a count that is kept is the one of its place
  pub count_there : (place k n : ℕ) → place < 64 → k ≡ place → n ≡ get_or s.posted.items k n → n ≡ length (posts_in place s.posts)
  count_there place k n within same here =
      let count = known.places in
      let inside : k < length s.posted.items = omega arith in
      here ∙ (get_or_from_slice_get s.posted.items k (get_or s.posted.items k 0) n (slice_get-get_or s.posted.items k 0 inside) ∙ (ap (λ (j : ℕ). get_or s.posted.items j 0) same ∙ known.counts place within))

  pub few_there : (place k n : ℕ) → place < 64 → k ≡ place → n ≡ get_or s.posted.items k n → length s.posts < 5000 → n ≤ 5000
  few_there place k n within same here few = omega (arith, count_there place k n within same here, few_in place s.posts, few)

  -- ---- one message more
  module _ (d : Draws) (m : Message) (numbers : Numbers) (k n : ℕ) (within : d.place < 64) (same : k ≡ d.place) (here : n ≡ get_or s.posted.items k n) (drawn : d ≡ draws_of s.seed (length s.posts) b)
      (made : m ≡ sampled_message s.seed s.moment (length s.posts + 1) d (spread s.posts b)) where
    post_is : ◌≡◌ {A = ℕ × Message} (d.place, m) (next_post s.seed s.moment b (length s.posts))
    post_is =
        let message : m ≡ sampled_message s.seed s.moment (length s.posts + 1) (draws_of s.seed (length s.posts) b) (spread (sampled_posts s.seed s.moment b (length s.posts)) b) =
        made ∙ (λ i. sampled_message s.seed s.moment (length s.posts + 1) (drawn i) (spread (known.posts i) b)) in
        λ i. ((drawn i).place, message i)

    more : List (ℕ × Message)
    more = s.posts ++ (d.place, m) ∷ []

    more_count : length more ≡ length s.posts + 1
    unfolding more
    more_count = omega (arith, length-append s.posts ((d.place, m) ∷ []))

    more_is : more ≡ sampled_posts s.seed s.moment b (length more)
    unfolding more
    more_is =
        (λ i. known.posts i ++ post_is i ∷ []) ∙ (sym (one_more s.seed s.moment b (length s.posts)) ∙ ap (λ (j : ℕ). sampled_posts s.seed s.moment b j) (sym more_count))

    counts : (place : ℕ) → place < 64 → get_or (set s.posted.items k (n + 1)) place 0 ≡ length (posts_in place more)
    unfolding more
    counts place low =
        let count = known.places in
        let inside : k < length s.posted.items = omega arith in
        elim (cases_eq d.place place) [
          | inl alike ↦
              let at : k ≡ place = same ∙ alike in
              let hit : length (posts_in d.place (s.posts ++ (d.place, m) ∷ [])) ≡ length (posts_in d.place s.posts) + 1 = omega (arith, ap length (posts_hit d.place s.posts m), length-append (posts_in d.place s.posts) (m ∷ [])) in
              ap (λ (j : ℕ). get_or (set s.posted.items k (n + 1)) j 0) (sym at)
              ∙ (get_or-set_same s.posted.items k (n + 1) 0 inside ∙ (ap (λ j. j + 1) (count_there d.place k n within same here) ∙ (sym hit ∙ ap (λ (j : ℕ). length (posts_in j (s.posts ++ (d.place, m) ∷ []))) alike)))
          | inr other ↦
              get_or-set_other s.posted.items k place (n + 1) 0 (λ e. other (sym same ∙ sym e)) ∙ (known.counts place low ∙ sym (ap length (posts_miss place d.place s.posts m (ne_eqb d.place place other))))
        ]

    pub sampling_more : (posts : List (ℕ × Message)) → numbers.last ≡ drawn_number s.seed (4 * (length s.posts + 1)) → IsTyped m → posts ≡ s.posts ++ (d.place, m) ∷ []
        → IsSampling b record { seed = s.seed; moment = s.moment; numbers = numbers; posts = posts; posted = with_item s.posted k (n + 1) }
    unfolding more
    sampling_more posts number typed is =
        let all : IsSampling b record { seed = s.seed; moment = s.moment; numbers = numbers; posts = s.posts ++ (d.place, m) ∷ []; posted = with_item s.posted k (n + 1) } = record {
          number = number ∙ ap (λ (j : ℕ). drawn_number s.seed (4 * j)) (sym more_count);
          posts = more_is;
          places = length-set s.posted.items k (n + 1) ∙ known.places;
          counts = counts;
          typed = All-push IsTypedPost s.posts (d.place, m) known.typed typed;
        } in
        subst (λ (ps : List (ℕ × Message)). IsSampling b record { seed = s.seed; moment = s.moment; numbers = numbers; posts = ps; posted = with_item s.posted k (n + 1) }) (sym is) all
