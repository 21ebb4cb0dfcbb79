-- The drafts of a packet are for places that are there.
use Rattle.std.proofs.Common.{◌≡◌, ℕ, ◌<◌, List, [], ◌∷◌, length, refl, arith}
use Rattle.std.specs.Prelude.{Option, Some, None, fold}
use Rattle.std.proofs.lemmas.List.Elements.{All-nil, All-push}
use Rattle.board_layout.proofs.BoardLookups.{conferences_count}
use Rattle.board_layout.specs.Board.{Board}
use Rattle.board_layout.specs.Valid.{IsBoard}
use Rattle.jam_records.specs.declared.message.Message.{Message}
use Rattle.netmail_rules.specs.declared.verdict.Verdict.{Verdict}
use Rattle.netmail_rules.specs.declared.verdict.Verdict.TheVariants.{Post, Refused}
use Rattle.packet_verdicts.proofs.Places.{place_within}
use Rattle.packet_verdicts.specs.Judged.{judged, judged_next, posts_after}
use Rattle.packet_verdicts.specs.Views.{addressed_place, verdict_on}
use Rattle.packet_verdicts.specs.declared.outcome.Outcome.{Outcome}
use Rattle.post_changes.specs.Posted.{ArePlaced, spread}
use Rattle.qwk_blocks.specs.declared.message.QwkMessage.{QwkMessage}

module _ (b : Board) (id now : ℕ) (ok : IsBoard b) where
  placed_after : (number o : Option ℕ) (w : Verdict) (posts : List (ℕ × Message)) → addressed_place number b ≡ o → ArePlaced posts b → ArePlaced (posts_after o w posts) b
  placed_after number None (Post d) posts here all = all
  placed_after number None (Refused r) posts here all = all
  placed_after number (Some place) (Refused r) posts here all = all
  placed_after number (Some place) (Post d) posts here all =
      let within : place < length b.conferences = omega (arith, place_within number b place here, conferences_count b ok) in
      All-push (λ (post : ℕ × Message). post.0 < length b.conferences) posts (place, d) all within

  all_after : (so_far : List Outcome × List (ℕ × Message)) (messages : List QwkMessage) → ArePlaced so_far.1 b → ArePlaced (fold (judged_next b id now) so_far messages).1 b
  all_after so_far [] all = all
  all_after so_far (m ∷ messages) all =
      all_after (judged_next b id now so_far m) messages (placed_after m.header.number (addressed_place m.header.number b) (verdict_on (spread so_far.1 b) id m now) so_far.1 refl all)

pub drafts_are_placed : (b : Board) (id now : ℕ) (messages : List QwkMessage) → IsBoard b → ArePlaced (judged b id now messages).1 b
unfolding judged
drafts_are_placed b id now messages ok = all_after b id now ok ([], []) messages (All-nil (λ (post : ℕ × Message). post.0 < length b.conferences))
