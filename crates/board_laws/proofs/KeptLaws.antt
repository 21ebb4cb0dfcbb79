-- What is new to a user stays new to him, while it is live and he acknowledges no packet.
use Rattle.std.proofs.Common.{◌≡◌, inl, inr, ℕ, suc, ◌<◌, ◌≤◌, true, List, length, Some, None, sym, ap, ◌∙◌, subst, arith}
use Rattle.std.specs.Prelude.{slice_get}
use Rattle.std.proofs.lemmas.Bool.{and_from, and_parts}
use Rattle.std.proofs.lemmas.Option.{none-some}
use Rattle.cmd_messages.specs.cmd_board.State.{State, Made}
use Rattle.board_layout.specs.Board.{Board}
use Rattle.board_layout.specs.Lookups.{pointer_at, user_of, slots_in, message_at}
use Rattle.board_laws.proofs.Changing.{AcksBy}
use Rattle.board_laws.proofs.Fresh.{board_whole, fresh_whole}
use Rattle.board_laws.proofs.Grown.{IsWhole}
use Rattle.board_laws.proofs.Moves.{AcksIn, Makes, Move, Packs, bases_moved, moved, pointers_moved, setup_moved, users_moved, whole_moved}
use Rattle.board_laws.proofs.Offers.{IsNew, all_offered, offered_new}
use Rattle.board_laws.proofs.Readers.{PointerFollows}
use Rattle.board_laws.proofs.Sequences.{AreCommands, everywhere, onward, same_made}
use Rattle.board_laws.proofs.Slots.{slots_count}
use Rattle.board_laws.proofs.Turns.{Because, BecauseOf}
use Rattle.board_laws.proofs.Views.{allowed_on, live_on, seen_within, slots_follow}
use Rattle.board_laws.specs.BoardCommand.{BoardCommand}
use Rattle.board_laws.specs.History.{IsBeginning, IsHistory, Deed, LeadsTo, Steps}
use Rattle.board_laws.specs.Kept.{IsAck, IsLive, NoAckBetween, StaysMade, StaysOffered}
use Rattle.jam_base.specs.Slots.{has_live}
use Rattle.cmd_messages.specs.mail_board.declared.change.Change.{Change}
use Rattle.cmd_messages.specs.mail_board.declared.change.Change.TheVariants.{Enroll, Append, Spread, Kill, Offer, Acknowledge, Upload}
use Rattle.offered_packets.specs.Sees.{is_allowed, sees}
use Rattle.offered_packets.specs.declared.offered_message.OfferedMessage.{OfferedMessage}

-- the number is above a pointer of the user, and he may see the message while it is live
pub record IsAhead (b : Board) (user : ℕ) (m : OfferedMessage) : Type 0 where
  pub whole : IsWhole b
  pub pointer : ℕ
  pub there : pointer_at m.place user b ≡ Some pointer
  pub above : pointer < m.number
  pub within : m.number ≤ length (slots_in b m.place)
  pub may : IsLive b m → is_allowed b.ledger m.place (user_of user b) (message_at b m.place m.number) ≡ true

may_see_new : (b : Board) (user : ℕ) (m : OfferedMessage) → sees b user m.place m.number ≡ true → is_allowed b.ledger m.place (user_of user b) (message_at b m.place m.number) ≡ true
unfolding sees
may_see_new b user m seen = (and_parts (has_live m.number (slots_in b m.place)) (is_allowed b.ledger m.place (user_of user b) (message_at b m.place m.number)) seen).1

sees_live : (b : Board) (user : ℕ) (m : OfferedMessage) → IsLive b m → is_allowed b.ledger m.place (user_of user b) (message_at b m.place m.number) ≡ true → sees b user m.place m.number ≡ true
unfolding sees
sees_live b user m live may = and_from (has_live m.number (slots_in b m.place)) (is_allowed b.ledger m.place (user_of user b) (message_at b m.place m.number)) live may

-- one change leaves it so, and so does a pack
ahead_next : (b : Board) (user : ℕ) (m : OfferedMessage) (move : Move) (ahead : IsAhead b user m) → (AcksIn b ahead.whole user move → ⊥) → IsAhead (moved move b) user m
ahead_next b user m move ahead apart =
    let c : Board = moved move b in
    let whole : IsWhole c = whole_moved b ahead.whole move in
    let slots = slots_follow b c ahead.whole whole (bases_moved b ahead.whole move) m.place in
    let within = ahead.within in
    record {
      whole = whole;
      pointer = ahead.pointer;
      there = stays (pointers_moved b ahead.whole user move apart m.place);
      above = ahead.above;
      within = omega (arith, within, slots_count (slots_in b m.place) (slots_in c m.place) slots);
      may = λ live.
          allowed_on b c user (setup_moved move b) (users_moved user b move) m.place slots m.number within live
          (ahead.may (live_on b c user (setup_moved move b) (users_moved user b move) m.place slots m.number within live));
    }
  where
    stays : PointerFollows (user_of user b ≡ None) (pointer_at m.place user b) (pointer_at m.place user (moved move b)) → pointer_at m.place user (moved move b) ≡ Some ahead.pointer
    stays (inl same) = same ∙ ahead.there
    stays (inr (none, first, nobody)) = absurd (none-some ahead.pointer (sym none ∙ ahead.there))

module _ {Entry : Type 0} (command_of : Entry → BoardCommand) (Step : Steps Entry) (commands : AreCommands command_of Step) (start : State) (deeds : List (Deed Entry)) (are : IsHistory Step start deeds) where
  pub all_whole : IsBeginning start → (n : ℕ) (b : Board) → LeadsTo start deeds n b → IsWhole b
  all_whole begins = everywhere command_of Step commands start deeds are (λ n b. IsWhole b) begins (λ b ok is. board_whole b ok) (λ n setup now. fresh_whole setup now) (λ n d b move is board because whole. whole_moved b whole move) (λ n b whole. whole)

  -- an acknowledgement of the user is a deed of his
  pub acks_at : (n : ℕ) (d : Deed Entry) (b : Board) (whole : IsWhole b) (user : ℕ) (change : Change) → slice_get deeds n ≡ Some d → LeadsTo start deeds n b → Because d.now b (command_of d.entry) d.stepped.class change → AcksBy b whole user change
      → (packet : ℕ) × IsAck command_of start deeds n user packet
  acks_at n d b whole user (Enroll name net members) is board because own = absurd own
  acks_at n d b whole user (Append place messages) is board because own = absurd own
  acks_at n d b whole user (Spread posts) is board because own = absurd own
  acks_at n d b whole user (Kill place number) is board because own = absurd own
  acks_at n d b whole user (Offer other highs) is board because own = absurd own
  acks_at n d b whole user (Acknowledge other packet now) is board because own = (
    packet,
    record {
      deed = d;
      board = b;
      carried = record { there = is; board_is = board; done = because.done };
      name = because.name;
      command = because.command;
      user_is = because.user_is ∙ ap Some own;
    },
  )
  acks_at n d b whole user (Upload other digest refused posts) is board because own = absurd own

  acks_in : (n : ℕ) (d : Deed Entry) (b : Board) (whole : IsWhole b) (user : ℕ) (move : Move) → slice_get deeds n ≡ Some d → LeadsTo start deeds n b → BecauseOf d.now b (command_of d.entry) d.stepped.class move → AcksIn b whole user move
      → (packet : ℕ) × IsAck command_of start deeds n user packet
  acks_in n d b whole user (Makes change) is board because own = acks_at n d b whole user change is board because own
  acks_in n d b whole user (Packs place) is board because own = absurd own

  module _ (i j : ℕ) (user : ℕ) (none : NoAckBetween command_of start deeds i j user) (m : OfferedMessage) where
    abbrev StaysAhead : ℕ → Board → Type 0
    StaysAhead n b = n ≤ j → IsAhead b user m

    next : (n : ℕ) (d : Deed Entry) (b : Board) (move : Move) → i ≤ n → slice_get deeds n ≡ Some d → LeadsTo start deeds n b → BecauseOf d.now b (command_of d.entry) d.stepped.class move → StaysAhead n b → StaysAhead (suc n) (moved move b)
    next n d b move from is board because stays upto =
        let ahead : IsAhead b user m = stays (omega (arith, upto)) in
        ahead_next b user m move ahead (λ own. let ack = acks_in n d b ahead.whole user move is board because own in none n ack.0 from (omega (arith, upto)) ack.1)

    pub still_ahead : i ≤ j → (b c : Board) → LeadsTo start deeds i b → LeadsTo start deeds j c → IsAhead b user m → IsAhead c user m
    still_ahead order b c first last ahead =
        let reached = onward command_of Step commands start deeds are StaysAhead i next (λ n b stays upto. stays (omega (arith, upto))) j order (b, first, λ upto. ahead) in
        let same : Made reached.0 ≡ Made c = sym reached.1 ∙ last in
        subst (λ (b : Board). IsAhead b user m) (same_made reached.0 c same) (reached.2 (omega arith))

-- ---- the laws
module _ {Entry : Type 0} (command_of : Entry → BoardCommand) (Step : Steps Entry) (commands : AreCommands command_of Step) where
  pub stays_made : StaysMade command_of Step
  stays_made start deeds are i j order b board =
      let reached = onward command_of Step commands start deeds are (λ n b. Unit {0}) i (λ n d b move from is board because holds. tt) (λ n b holds. tt) j order (b, board, tt) in
      (reached.0, reached.1)

  pub stays_offered : StaysOffered command_of Step
  stays_offered start begins deeds are i j order b c first last user none limit m has live most enough =
      let new : IsNew b user m = offered_new b user limit m has in
      let ahead : IsAhead c user m = still_ahead command_of Step commands start deeds are i j user none m order b c first last
      (record { whole = all_whole command_of Step commands start deeds are begins i b first; pointer = new.pointer; there = new.there; above = new.above; within = (seen_within b user m.place m.number new.seen).1; may = λ live. may_see_new b user m new.seen }) in
      all_offered c user most m (record { pointer = ahead.pointer; there = ahead.there; above = ahead.above; seen = sees_live c user m live (ahead.may live) }) enough
