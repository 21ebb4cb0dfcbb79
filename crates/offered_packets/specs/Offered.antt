-- What a user is offered of a board.
use Rattle.std.specs.Prelude.{ℕ, List, length, map, filter, take, fold, max, Option, Some, None, flat_map, Bool, false, ◌&&◌, ◌==◌, nat_lt}
use Rattle.std.specs.List.{range_with_len}
use Rattle.board_layout.specs.Board.{Board}
use Rattle.board_layout.specs.Lookups.{pointer_at, slots_in}
use Rattle.offered_packets.specs.Sees.{sees}
use Rattle.offered_packets.specs.declared.offered_message.OfferedMessage.{OfferedMessage}

-- all message numbers of the conference in a place, rising
abbrev pub numbers_in : Board → ℕ → List OfferedMessage
numbers_in b place = map (λ number. record { place = place; number = number }) (range_with_len 1 (length (slots_in b place)))

-- all message numbers of a board, by place
abbrev pub all_numbers : Board → List OfferedMessage
all_numbers b = flat_map (numbers_in b) (range_with_len 0 (length b.conferences))

-- there is a pointer, and the number is above it
abbrev pub is_above : Option ℕ → ℕ → Bool
is_above None number = false
is_above (Some pointer) number = nat_lt pointer number

-- the user of an id sees the message, and hasn't come to it yet
abbrev pub is_new : Board → ℕ → OfferedMessage → Bool
is_new b id m = is_above (pointer_at m.place id b) m.number && sees b id m.place m.number

-- the offered list: the first messages that are new to the user, as many as the limit allows
unfoldable pub offered : Board → ℕ → ℕ → List OfferedMessage
offered b id limit = take limit (filter (is_new b id) (all_numbers b))

-- the greatest number that is offered of the conference in a place, or 0
abbrev pub high_of : List OfferedMessage → ℕ → ℕ
high_of messages place = fold max 0 (map (λ m. m.number) (filter (λ m. m.place == place) messages))

-- that of each conference
unfoldable pub highs : Board → List OfferedMessage → List ℕ
highs b messages = map (high_of messages) (range_with_len 0 (length b.conferences))
