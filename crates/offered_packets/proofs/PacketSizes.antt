-- How long packets are, and that each of their messages can be written.
use Rattle.std.proofs.Common.{◌≡◌, ℕ, ◌+◌, ◌*◌, ◌^◌, ◌<◌, ◌≤◌, List, [], ◌∷◌, length, refl, sym, ap, ◌∙◌, arith, length-append}
use Rattle.std.specs.Prelude.{Option, Some, None, IfSome, filter_map, codes, decimal, option_map}
use Rattle.std.specs.List.{All, cons_option, enumerate_from, flat_map}
use Rattle.std.proofs.lemmas.Fmt.{length-decimal-le}
use Rattle.std.proofs.lemmas.List.Elements.{All-nil, All-cons, All-head, All-tail, All-weaker}
use Rattle.board_layout.specs.Board.{Board}
use Rattle.board_layout.specs.Valid.{IsBoard}
use Rattle.board_layout.specs.Lookups.{message_at}
use Rattle.board_layout.specs.jam_layout.Outlines.{message_outline}
use Rattle.jam_records.specs.declared.message.Message.{Message}
use Rattle.qwk_blocks.specs.Text.{joined_lines}
use Rattle.qwk_blocks.specs.Written.{message_text, header_block, padded, blocks_of, spelling, Writable}
use Rattle.qwk_blocks.specs.declared.message.QwkMessage.{QwkMessage}
use Rattle.qwk_blocks.proofs.Written.{header_back, length_padded}
use Rattle.offered_packets.specs.Shown.{shown_message, shown, shown_all, notice, IsShort}
use Rattle.offered_packets.specs.declared.offered_message.OfferedMessage.{OfferedMessage}
use Rattle.offered_packets.proofs.OutlineLaws.{outline_message}
use Rattle.offered_packets.proofs.ShownMessages.{is_short}
use Rattle.offered_packets.proofs.Packets.{shown_at}

one_short : (b : Board) (place number logical : ℕ) (found : Option Message) → IsBoard b → logical < 2 ^ 16 → found ≡ message_at b place number → IfSome (option_map (shown_message b place number logical) found) IsShort
one_short b place number logical None ok small is = tt
one_short b place number logical (Some m) ok small is = is_short b place number logical m ok small (outline_message b place number ∙ ap (option_map message_outline) (sym is))

pub shown_short : (b : Board) (place number logical : ℕ) → IsBoard b → logical < 2 ^ 16 → IfSome (shown b place number logical) IsShort
unfolding shown
shown_short b place number logical ok small = one_short b place number logical (message_at b place number) ok small refl

if_writable : (found : Option QwkMessage) → IfSome found IsShort → IfSome found Writable
if_writable None short = tt
if_writable (Some m) short = short.writable

pub shown_writable : (b : Board) (place number logical : ℕ) → IsBoard b → logical < 2 ^ 16 → IfSome (shown b place number logical) Writable
shown_writable b place number logical ok small = if_writable (shown b place number logical) (shown_short b place number logical ok small)

one_more : (one : Option QwkMessage) (messages : List QwkMessage) → IfSome one IsShort → All IsShort messages → All IsShort (cons_option one messages)
one_more None messages short all = all
one_more (Some m) messages short all = All-cons IsShort m messages short all

from_here : (b : Board) (n : ℕ) (messages : List OfferedMessage) → IsBoard b → n + length messages ≤ 2 ^ 16 → All IsShort (filter_map (shown_at b) (enumerate_from n messages))
from_here b n [] ok few = All-nil IsShort
from_here b n (m ∷ messages) ok few =
    one_more (shown b m.place m.number n) (filter_map (shown_at b) (enumerate_from (n + 1) messages)) (shown_short b m.place m.number n ok (omega arith)) (from_here b (n + 1) messages ok (omega arith))

all_short : (b : Board) (messages : List OfferedMessage) → IsBoard b → length messages < 2 ^ 16 → All IsShort (shown_all b messages)
unfolding shown_all
all_short b messages ok few = from_here b 1 messages ok (omega arith)

pub are_writable : (messages : List QwkMessage) → All IsShort messages → All Writable messages
are_writable messages short = All-weaker IsShort Writable (λ m short. short.writable) messages short

pub all_writable : (b : Board) (messages : List OfferedMessage) → IsBoard b → length messages < 2 ^ 16 → All Writable (shown_all b messages)
all_writable b messages ok few = are_writable (shown_all b messages) (all_short b messages ok few)

-- ---- how long
one_length : (m : QwkMessage) → IsShort m → length (message_text m) ≤ 16768
unfolding message_text
one_length m short =
    let blocks : ℕ = blocks_of (length (joined_lines m.lines)) in
    let header : length (header_block m.header (1 + blocks)) ≡ 128 = (header_back m.header (1 + blocks) short.writable.header (omega arith) short.writable.blocks).size in
    let text : length (padded (128 * blocks) (joined_lines m.lines)) ≡ 128 * blocks = length_padded (128 * blocks) (joined_lines m.lines) (omega arith) in
    omega (arith, length-append (header_block m.header (1 + blocks)) (padded (128 * blocks) (joined_lines m.lines)), short.short)

all_length : (messages : List QwkMessage) → All IsShort messages → length (flat_map message_text messages) ≤ 16768 * length messages
all_length [] short = omega arith
all_length (m ∷ messages) short = omega (
  arith,
  length-append (message_text m) (flat_map message_text messages),
  one_length m (All-head IsShort m messages short),
  all_length messages (All-tail IsShort m messages short),
)

option_count : (one : Option QwkMessage) (messages : List QwkMessage) → length (cons_option one messages) ≤ 1 + length messages
option_count None messages = omega arith
option_count (Some m) messages = omega arith

shown_count : (b : Board) (n : ℕ) (messages : List OfferedMessage) → length (filter_map (shown_at b) (enumerate_from n messages)) ≤ length messages
shown_count b n [] = omega arith
shown_count b n (m ∷ messages) = omega (arith, option_count (shown b m.place m.number n) (filter_map (shown_at b) (enumerate_from (n + 1) messages)), shown_count b (n + 1) messages)

count_all : (b : Board) (messages : List OfferedMessage) → length (shown_all b messages) ≤ length messages
unfolding shown_all
count_all b messages = shown_count b 1 messages

pub notice_short : (number : ℕ) → number < 2 ^ 32 → length (notice number) ≤ 128
unfolding notice
notice_short number small = omega (arith, length-append (codes "Produced by qwkdoor, packet ") (decimal number), length-decimal-le 10 number (omega arith) (omega arith) (omega arith))

pub spelling_short : (messages : List QwkMessage) (number : ℕ) → All IsShort messages → length messages < 2 ^ 16 → number < 2 ^ 32 → length (spelling (notice number) messages) < 2 ^ 31
spelling_short messages number short few small = omega (
  arith,
  length-append (padded 128 (notice number)) (flat_map message_text messages),
  length_padded 128 (notice number) (notice_short number small),
  all_length messages short,
)

pub packet_short : (b : Board) (messages : List OfferedMessage) (number : ℕ) → IsBoard b → length messages < 2 ^ 16 → number < 2 ^ 32 → length (spelling (notice number) (shown_all b messages)) < 2 ^ 31
packet_short b messages number ok few small = spelling_short (shown_all b messages) number (all_short b messages ok few) (omega (arith, count_all b messages)) small
