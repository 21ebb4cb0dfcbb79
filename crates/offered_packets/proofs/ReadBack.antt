-- What a reader sees of the messages of a packet.
use Rattle.std.proofs.Common.{◌≡◌, ℕ, ◌+◌, List, [], ◌∷◌, map, refl, ap, ◌∙◌}
use Rattle.std.specs.Prelude.{Option, Some, None, option_map, filter_map}
use Rattle.std.specs.List.{cons_option, enumerate_from}
use Rattle.board_layout.specs.Board.{Board}
use Rattle.board_layout.specs.Lookups.{message_at}
use Rattle.jam_records.specs.declared.message.Message.{Message}
use Rattle.long_names.specs.Plain.{plain}
use Rattle.long_names.proofs.Back.{back_capitals}
use Rattle.qwk_blocks.specs.declared.message.QwkMessage.{QwkMessage}
use Rattle.offered_packets.specs.Shown.{whole_message, shown_message, shown, shown_all, read_message, read_at, read_all}
use Rattle.offered_packets.specs.declared.offered_message.OfferedMessage.{OfferedMessage}
use Rattle.offered_packets.proofs.Packets.{shown_at}

one_read : (b : Board) (place number logical : ℕ) (found : Option Message) → option_map plain (option_map (shown_message b place number logical) found) ≡ option_map (read_message b place number logical) found
one_read b place number logical None = refl
one_read b place number logical (Some m) = ap Some (back_capitals (whole_message b place number logical m))

map_cons : (one : Option QwkMessage) (messages : List QwkMessage) → map plain (cons_option one messages) ≡ cons_option (option_map plain one) (map plain messages)
map_cons None messages = refl
map_cons (Some m) messages = refl

read_from : (b : Board) (n : ℕ) (messages : List OfferedMessage) → map plain (filter_map (shown_at b) (enumerate_from n messages)) ≡ filter_map (read_at b) (enumerate_from n messages)
unfolding shown
read_from b n [] = refl
read_from b n (m ∷ messages) =
    let rest : List QwkMessage = filter_map (shown_at b) (enumerate_from (n + 1) messages) in
    map_cons (shown b m.place m.number n) rest
    ∙ (ap (λ o. cons_option o (map plain rest)) (one_read b m.place m.number n (message_at b m.place m.number))
    ∙ ap (cons_option (read_at b (n, m))) (read_from b (n + 1) messages))

pub all_read : (b : Board) (messages : List OfferedMessage) → map plain (shown_all b messages) ≡ read_all b messages
unfolding shown_all read_all
all_read b messages = read_from b 1 messages
