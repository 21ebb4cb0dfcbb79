-- The posts of a sample: how many they are, and what holds of each.
use Rattle.std.proofs.Common.{◌≡◌, ℕ, zero, suc, ◌+◌, ◌*◌, ◌<◌, [], ◌∷◌, ◌++◌, length, refl, ap, arith, length-append}
use Rattle.std.specs.Prelude.{All}
use Rattle.std.proofs.lemmas.List.Elements.{All-nil, All-push}
use Rattle.board_layout.proofs.BoardLookups.{conferences_count}
use Rattle.board_layout.specs.Board.{Board}
use Rattle.board_layout.specs.Valid.{IsBoard}
use Rattle.jam_records.specs.declared.message.Message.{Message}
use Rattle.post_changes.specs.Posted.{ArePlaced, spread}
use Rattle.cmd_messages.proofs.DrawLaws.{drawn_below}
use Rattle.cmd_messages.specs.Sample.{sampled_post, sampled_posts}

-- the post that comes behind so many others
abbrev pub next_post : ℕ → ℕ → Board → ℕ → ℕ × Message
next_post seed now b n = sampled_post seed now n (spread (sampled_posts seed now b n) b)

pub no_posts : (seed now : ℕ) (b : Board) → sampled_posts seed now b 0 ≡ []
unfolding sampled_posts
no_posts seed now b = refl

pub one_more : (seed now : ℕ) (b : Board) (n : ℕ) → sampled_posts seed now b (n + 1) ≡ sampled_posts seed now b n ++ next_post seed now b n ∷ []
unfolding sampled_posts
one_more seed now b n = let same : n + 1 ≡ suc n = omega arith in ap (sampled_posts seed now b) same

pub posts_count : (seed now : ℕ) (b : Board) (n : ℕ) → length (sampled_posts seed now b n) ≡ n
unfolding sampled_posts
posts_count seed now b zero = refl
posts_count seed now b (suc n) = omega (arith, length-append (sampled_posts seed now b n) (next_post seed now b n ∷ []), posts_count seed now b n)

-- what holds of the post behind each number of others holds of all
pub each_post : (P : ℕ × Message → Type 0) (seed now : ℕ) (b : Board) (n : ℕ) → ((k : ℕ) → k < n → P (next_post seed now b k)) → All P (sampled_posts seed now b n)
unfolding sampled_posts
each_post P seed now b zero each = All-nil P
each_post P seed now b (suc n) each = All-push P (sampled_posts seed now b n) (next_post seed now b n) (each_post P seed now b n (λ k less. each k (omega (arith, less)))) (each n (omega arith))

-- none has a msgid yet
pub no_msgids : (seed now : ℕ) (b : Board) (n : ℕ) → All (λ (p : ℕ × Message). p.1.msgid ≡ []) (sampled_posts seed now b n)
no_msgids seed now b n = each_post (λ (p : ℕ × Message). p.1.msgid ≡ []) seed now b n (λ k less. refl)

-- each is in a place of the board
pub place_within : (seed now : ℕ) (b : Board) (k : ℕ) → IsBoard b → (next_post seed now b k).0 < length b.ledger.setup.conferences
place_within seed now b k ok = drawn_below seed (4 * k + 1) (length b.ledger.setup.conferences) (let some = ok.ledger.setup.conferences.some in omega (arith, some))

pub are_placed : (seed now : ℕ) (b : Board) (n : ℕ) → IsBoard b → ArePlaced (sampled_posts seed now b n) b
are_placed seed now b n ok = each_post (λ (p : ℕ × Message). p.0 < length b.conferences) seed now b n (λ k less. omega (arith, place_within seed now b k ok, conferences_count b ok))
