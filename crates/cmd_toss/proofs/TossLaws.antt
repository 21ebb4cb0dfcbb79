-- What becomes of the messages of a packet: of none, of one more, and of all.
use Rattle.std.proofs.Common.{◌≡◌, ℕ, ◌+◌, ◌<◌, ◌≤◌, suc, List, [], ◌∷◌, length, drop, get_or, refl, sym, ap, ◌∙◌, arith}
use Rattle.std.proofs.Math.Seq.{drop-cons}
use Rattle.std.proofs.lemmas.List.{drop_all}
use Rattle.board_layout.specs.Board.{Board}
use Rattle.fts_packet.specs.Tossed.{toss_verdict}
use Rattle.fts_packet.specs.declared.packet.FtsMessage.{FtsMessage}
use Rattle.jam_records.specs.declared.message.Message.{Message}
use Rattle.mail_intake.specs.Tallies.{IsTally}
use Rattle.cmd_toss.specs.Tossed.{tossed, tossed_as, tossed_from}
use Rattle.cmd_toss.specs.Tossing.{AreSeen, AreTossed}
use Rattle.cmd_toss.specs.declared.tossed.Tossed.{Tossed as Toss}

-- before the first message
tossed_none : (b : Board) (now : ℕ) → tossed b now [] ≡ ([], [])
unfolding tossed_from
tossed_none b now = refl

pub none_tossed : (now : ℕ) (b : Board) (t : Toss) → t.lines ≡ [] → t.tally.posts ≡ [] → IsTally b t.tally → AreSeen b t.tally.posts t.seen → AreTossed now b [] t
none_tossed now b t lines posts tally seen = record { so_far = (λ i. (lines i, posts i)) ∙ sym (tossed_none b now); tally = tally; seen = seen }

pub first_tossed : (now : ℕ) (b : Board) (t : Toss) (messages : List FtsMessage) → AreTossed now b [] t → tossed_from b now 1 (t.lines, t.tally.posts) messages ≡ tossed b now messages
first_tossed now b t messages known = ap (λ (so_far : List ℕ × List (ℕ × Message)). tossed_from b now 1 so_far messages) (known.so_far ∙ tossed_none b now)

-- one message more
from_more : (b : Board) (now at : ℕ) (so_far : List ℕ × List (ℕ × Message)) (m : FtsMessage) (rest : List FtsMessage)
    → tossed_from b now at so_far (m ∷ rest) ≡ tossed_from b now (at + 1) (tossed_as b at so_far (toss_verdict b.ledger.setup m now)) rest
unfolding tossed_from
from_more b now at so_far m rest = refl

pub next_tossed : (b : Board) (now i at next : ℕ) (so_far new all : List ℕ × List (ℕ × Message)) (messages : List FtsMessage) (m : FtsMessage) → i < length messages → m ≡ get_or messages i m
    → at ≡ i + 1 → next ≡ at + 1 → new ≡ tossed_as b at so_far (toss_verdict b.ledger.setup m now) → tossed_from b now at so_far (drop i messages) ≡ all → tossed_from b now next new (drop (i + 1) messages) ≡ all
next_tossed b now i at next so_far new all messages m within is at_is next_is step before =
    let on : i + 1 ≡ suc i = omega arith in
    let rest : m ∷ drop (i + 1) messages ≡ drop i messages = (λ k. is k ∷ drop (on k) messages) ∙ sym (drop-cons messages i m within) in
    (λ k. tossed_from b now (next_is k) (step k) (drop (i + 1) messages))
    ∙ (sym (from_more b now at so_far m (drop (i + 1) messages)) ∙ (ap (tossed_from b now at so_far) rest ∙ before))

-- behind the last
from_none : (b : Board) (now at : ℕ) (so_far : List ℕ × List (ℕ × Message)) → tossed_from b now at so_far [] ≡ so_far
unfolding tossed_from
from_none b now at so_far = refl

pub all_tossed : (b : Board) (now i at : ℕ) (so_far all : List ℕ × List (ℕ × Message)) (messages : List FtsMessage) → length messages ≤ i → tossed_from b now at so_far (drop i messages) ≡ all → so_far ≡ all
all_tossed b now i at so_far all messages past before = sym (from_none b now at so_far) ∙ (ap (tossed_from b now at so_far) (sym (drop_all i messages past)) ∙ before)
