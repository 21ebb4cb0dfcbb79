-- Each message that is offered is shown.
use Rattle.std.proofs.Common.{◌≡◌, ℕ, ◌+◌, true, List, [], ◌∷◌, length, refl, ap, arith}
use Rattle.std.specs.Prelude.{Option, Some, None, option_map, filter_map}
use Rattle.std.specs.List.{All, filter, cons_option, enumerate_from}
use Rattle.std.proofs.lemmas.Bool.{and_parts, false≢true}
use Rattle.std.proofs.lemmas.Option.{none-some}
use Rattle.std.proofs.lemmas.List.Elements.{All-head, All-tail, All-take, filter_passes}
use Rattle.board_layout.specs.Board.{Board}
use Rattle.board_ledger.specs.declared.ledger.Ledger.{Ledger}
use Rattle.board_ledger.specs.declared.user.User.{User}
use Rattle.board_layout.specs.jam_base.Slots.{has_live}
use Rattle.jam_records.specs.declared.message.Message.{Message}
use Rattle.qwk_blocks.specs.declared.message.QwkMessage.{QwkMessage}
use Rattle.board_layout.specs.Lookups.{pointer_at, user_of, slots_in, message_at}
use Rattle.offered_packets.specs.Offered.{is_above, is_new, all_numbers, offered}
use Rattle.offered_packets.specs.Sees.{is_allowed, sees}
use Rattle.offered_packets.specs.Shown.{shown_message, shown, shown_all, packet}
use Rattle.offered_packets.specs.declared.offered_message.OfferedMessage.{OfferedMessage}
use Rattle.offered_packets.proofs.Packets.{shown_at}

allowed_there : (l : Ledger) (place : ℕ) (u : Option User) (m : Option Message) → is_allowed l place u m ≡ true → (found : Message) × (m ≡ Some found)
allowed_there l place None m e = absurd (false≢true e)
allowed_there l place (Some u) None e = absurd (false≢true e)
allowed_there l place (Some u) (Some m) e = (m, refl)

new_there : (b : Board) (id : ℕ) (m : OfferedMessage) → is_new b id m ≡ true → (found : Message) × (message_at b m.place m.number ≡ Some found)
unfolding sees
new_there b id m e =
    let seen : sees b id m.place m.number ≡ true = (and_parts (is_above (pointer_at m.place id b) m.number) (sees b id m.place m.number) e).1 in
    let allowed : is_allowed b.ledger m.place (user_of id b) (message_at b m.place m.number) ≡ true
    = (and_parts (has_live m.number (slots_in b m.place)) (is_allowed b.ledger m.place (user_of id b) (message_at b m.place m.number)) seen).1 in
    allowed_there b.ledger m.place (user_of id b) (message_at b m.place m.number) allowed

count_one : (one : Option QwkMessage) (q : QwkMessage) (others : List QwkMessage) → one ≡ Some q → length (cons_option one others) ≡ length others + 1
count_one None q others e = absurd (none-some q e)
count_one (Some p) q others e = omega arith

all_shown : (b : Board) (id n : ℕ) (messages : List OfferedMessage) → All (λ m. is_new b id m ≡ true) messages → length (filter_map (shown_at b) (enumerate_from n messages)) ≡ length messages
unfolding shown
all_shown b id n [] new = refl
all_shown b id n (m ∷ messages) new =
    let there : (found : Message) × (message_at b m.place m.number ≡ Some found) = new_there b id m (All-head (λ m. is_new b id m ≡ true) m messages new) in
    let is : shown b m.place m.number n ≡ Some (shown_message b m.place m.number n there.0) = ap (option_map (shown_message b m.place m.number n)) there.1 in
    omega (
      arith,
      count_one (shown b m.place m.number n) (shown_message b m.place m.number n there.0) (filter_map (shown_at b) (enumerate_from (n + 1) messages)) is,
      all_shown b id (n + 1) messages (All-tail (λ m. is_new b id m ≡ true) m messages new),
    )

pub each_is_shown : (b : Board) (id limit : ℕ) → length (packet b id limit) ≡ length (offered b id limit)
unfolding offered shown_all
each_is_shown b id limit = all_shown b id 1 (offered b id limit) (All-take (λ m. is_new b id m ≡ true) limit (filter (is_new b id) (all_numbers b)) (filter_passes (is_new b id) (all_numbers b)))
