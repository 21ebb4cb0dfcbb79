-- The numbers of a sample, four for each message.
use Rattle.std.proofs.Common.{◌≡◌, ℕ, suc, ◌+◌, ◌*◌, ◌/◌, ◌%◌, ◌<◌, length, refl, sym, ◌∙◌, ap, arith}
use Rattle.std.proofs.lemmas.Nat.{mod_below}
use Rattle.board_layout.specs.Board.{Board}
use Rattle.cmd_messages.specs.Draws.{draw_of, draws_of, next_drawn_number, drawn_number}
use Rattle.cmd_messages.specs.declared.draws.Draws.{Draws}

number_step : (seed k : ℕ) → next_drawn_number (drawn_number seed k) ≡ drawn_number seed (k + 1)
unfolding drawn_number
number_step seed k = let same : suc k ≡ k + 1 = omega arith in ap (drawn_number seed) same

next_is : (seed k j x y : ℕ) → x ≡ drawn_number seed k → y ≡ next_drawn_number x → j ≡ k + 1 → y ≡ drawn_number seed j
next_is seed k j x y is next same = next ∙ (ap next_drawn_number is ∙ (number_step seed k ∙ ap (drawn_number seed) (sym same)))

-- ---- four numbers behind another
module _ (seed behind start one two three four : ℕ) (is : start ≡ drawn_number seed (4 * behind)) (first : one ≡ next_drawn_number start) (second : two ≡ next_drawn_number one) (third : three ≡ next_drawn_number two) (fourth : four ≡ next_drawn_number three) where
  one_is : one ≡ drawn_number seed (4 * behind + 1)
  one_is = next_is seed (4 * behind) (4 * behind + 1) start one is first refl

  two_is : two ≡ drawn_number seed (4 * behind + 2)
  two_is = next_is seed (4 * behind + 1) (4 * behind + 2) one two one_is second (omega arith)

  three_is : three ≡ drawn_number seed (4 * behind + 3)
  three_is = next_is seed (4 * behind + 2) (4 * behind + 3) two three two_is third (omega arith)

  four_is : four ≡ drawn_number seed (4 * behind + 4)
  four_is = next_is seed (4 * behind + 3) (4 * behind + 4) three four three_is fourth (omega arith)

  pub numbers_behind : four ≡ drawn_number seed (4 * (behind + 1))
  numbers_behind = let same : 4 * behind + 4 ≡ 4 * (behind + 1) = omega arith in four_is ∙ ap (drawn_number seed) same

  pub draws_are : (b : Board) (conferences users place recipient reply lines : ℕ) → conferences ≡ length b.ledger.setup.conferences → users ≡ length b.ledger.users + 1
      → place ≡ (one / 65536) % conferences → recipient ≡ (two / 65536) % users → reply ≡ (three / 65536) % 4 → lines ≡ (four / 65536) % 8 + 1
      → ◌≡◌ {A = Draws} (record { place = place; recipient = recipient; reply = reply; lines = lines }) (draws_of seed behind b)
  draws_are b conferences users place recipient reply lines some more p r a l =
      let place_is : place ≡ draw_of seed (4 * behind + 1) (length b.ledger.setup.conferences) = p ∙ (λ i. (one_is i / 65536) % some i) in
      let recipient_is : recipient ≡ draw_of seed (4 * behind + 2) (length b.ledger.users + 1) = r ∙ (λ i. (two_is i / 65536) % more i) in
      let reply_is : reply ≡ draw_of seed (4 * behind + 3) 4 = a ∙ ap (λ n. (n / 65536) % 4) three_is in
      let lines_is : lines ≡ draw_of seed (4 * behind + 4) 8 + 1 = l ∙ ap (λ n. (n / 65536) % 8 + 1) four_is in
      λ i. record { place = place_is i; recipient = recipient_is i; reply = reply_is i; lines = lines_is i }

-- ---- what is drawn
pub drawn_below : (seed k m : ℕ) → 0 < m → draw_of seed k m < m
drawn_below seed k m some = mod_below (drawn_number seed k / 65536) m some

-- ---- an example
pub one_drawn : (b : Board) → length b.ledger.setup.conferences ≡ 3 → length b.ledger.users ≡ 2 → draws_of 1 0 b ≡ record { place = 1; recipient = 2; reply = 2; lines = 4 }
unfolding drawn_number
one_drawn b three two =
    let place : draw_of 1 1 (length b.ledger.setup.conferences) ≡ 1 = ap (draw_of 1 1) three in
    let recipient : draw_of 1 2 (length b.ledger.users + 1) ≡ 2 = ap (λ n. draw_of 1 2 (n + 1)) two in
    λ i. record { place = place i; recipient = recipient i; reply = 2; lines = 4 }
