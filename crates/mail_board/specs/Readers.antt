-- What is asked of a board.
use Rattle.std.specs.Prelude.{ℕ, ◌+◌, ◌-◌, List, length, slice_get, position, Bool, false, Option, Some, None, option_map, option_and_then, ◌&&◌, ◌==◌}
use Rattle.std.specs.List.{find, list_any}
use Rattle.std.specs.Option.{option_map_or}
use Rattle.std.specs.Str.{bytes_eq, str_eq_ignore_ascii_case}
use Rattle.open_offers.specs.declared.offer.OpenOffer.{OpenOffer}
use Rattle.board_ledger.specs.declared.upload.Counts.{Counts}
use Rattle.board_ledger.specs.declared.user.User.{User}
use Rattle.board_layout.specs.Board.{Board}
use Rattle.board_layout.specs.Lookups.{user_of}
use Rattle.jam_layout.specs.jam_threads.Children.{has_msgid}

-- a slot of a place holds a message with this msgid
abbrev pub has_msgid_in : ℕ → List ℕ → Board → Bool
has_msgid_in place msgid b = option_map_or (λ c. list_any (has_msgid msgid) c.slots) (slice_get b.conferences place) false

-- the id of the user of a name, ignoring ASCII case
abbrev pub user_id : List ℕ → Board → Option ℕ
user_id name b = option_map (λ place. place + 1) (position (λ u. str_eq_ignore_ascii_case u.name name) b.ledger.users)

-- the number of the last of open offers, which is the greatest
abbrev pub last_number : List OpenOffer → Option ℕ
last_number offers = option_map (λ o. o.number) (slice_get offers (length offers - 1))

-- the greatest number of an open offer of the user of an id
abbrev pub offer_of : ℕ → Board → Option ℕ
offer_of id b = option_and_then (λ u. last_number u.offers) (user_of id b)

-- the user has an open offer of a number
abbrev pub has_open : ℕ → Option User → Bool
has_open packet None = false
has_open packet (Some u) = list_any (λ o. o.number == packet) u.offers

-- the user of an id has one
abbrev pub is_offered : ℕ → ℕ → Board → Bool
is_offered id packet b = has_open packet (user_of id b)

-- what became of the packet of this digest that a user sent
abbrev pub upload_of : ℕ → List ℕ → Board → Option Counts
upload_of id digest b = option_map (λ r. r.counts) (find (λ r. r.user == id && bytes_eq r.digest digest) b.ledger.uploads)
