-- What a packet shows of the messages that the host gives.
use Rattle.std.proofs.Common.{◌≡◌, ℕ, ◌+◌, ◌≤◌, List, [], ◌∷◌, ◌++◌, length, take, Option, Some, None, refl, sym, ap, ◌∙◌, arith, length-append}
use Rattle.std.specs.Prelude.{All, IfSome, option_map}
use Rattle.std.specs.List.{cons_option}
use Rattle.std.proofs.lemmas.List.{append-nil}
use Rattle.std.proofs.lemmas.List.Elements.{All-append, All-cons, All-nil}
use Rattle.board_layout.specs.Board.{Board}
use Rattle.board_layout.specs.Outlines.{board_outline}
use Rattle.board_layout.specs.Lookups.{message_at}
use Rattle.jam_layout.specs.Outlines.{message_outline}
use Rattle.jam_records.specs.declared.message.Message.{Message}
use Rattle.mail_board.specs.Held.{AreAlike}
use Rattle.offered_packets.proofs.OutlineLaws.{outline_message, outline_shown}
use Rattle.offered_packets.specs.Shown.{IsShort, shown, shown_all, shown_message}
use Rattle.offered_packets.specs.declared.offered_message.OfferedMessage.{OfferedMessage}
use Rattle.qwk_blocks.specs.declared.message.QwkMessage.{QwkMessage}

-- ---- a message that is there
module _ (b : Board) (place number : ℕ) where
  pub outline_there : (m : Message) → option_map message_outline (Some m) ≡ option_map message_outline (message_at b place number) → message_at (board_outline b) place number ≡ Some (message_outline m)
  outline_there m found = outline_message b place number ∙ sym found

  pub shown_there : (logical : ℕ) (m : Message) (q : QwkMessage) → Some m ≡ message_at b place number → q ≡ shown_message b place number logical m → Some q ≡ shown b place number logical
  unfolding shown
  shown_there logical m q found is = ap Some is ∙ ap (option_map (shown_message b place number logical)) found

  pub shown_nowhere : (logical : ℕ) → None ≡ message_at b place number → None ≡ shown b place number logical
  unfolding shown
  shown_nowhere logical found = ap (option_map (shown_message b place number logical)) found

-- boards with one outline show a message at hand alike
pub shown_alike : (a b : Board) → AreAlike a b → (place number logical : ℕ) (m : Message) → shown_message a place number logical m ≡ shown_message b place number logical m
shown_alike a b alike place number logical m =
    sym (outline_shown a place number logical m) ∙ (ap (λ (o : Board). shown_message o place number logical m) alike ∙ outline_shown b place number logical m)

-- ---- a packet so far, and one message more
pub none_shown : (b : Board) (messages : List OfferedMessage) → [] ≡ shown_all b (take 0 messages)
unfolding shown_all
none_shown b messages = refl

pub more_short : (packet : List QwkMessage) (one : Option QwkMessage) → All IsShort packet → IfSome one IsShort → All IsShort (packet ++ cons_option one [])
more_short packet None short one = All-append IsShort packet [] short (All-nil IsShort)
more_short packet (Some q) short one = All-append IsShort packet (q ∷ []) short (All-cons IsShort q [] one (All-nil IsShort))

pub more_few : (packet : List QwkMessage) (one : Option QwkMessage) (i : ℕ) → length packet ≤ i → length (packet ++ cons_option one []) ≤ i + 1
more_few packet None i few = omega (arith, ap length (append-nil packet), few)
more_few packet (Some q) i few = omega (arith, length-append packet (q ∷ []), few)
