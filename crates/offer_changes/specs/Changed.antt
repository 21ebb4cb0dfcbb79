-- Boards after the offer of a packet, and after its acknowledgement.
use Rattle.std.specs.Prelude.{ℕ, ◌+◌, ◌-◌, ◌<◌, List, [], ◌∷◌, ◌++◌, length, drop, Option, Some, None, option_map, unwrap_or, Bool, false, not, ◌==◌, IsSome, IsSomeAnd, nat_lt, if◌then◌else◌}
use Rattle.std.specs.List.{filter, find}
use Rattle.board_layout.specs.Board.{Board, board_with}
use Rattle.board_layout.specs.Lookups.{user_of}
use Rattle.board_layout.specs.Renewed.{contents_of}
use Rattle.board_ledger.specs.UserPuts.{with_user_at}
use Rattle.board_ledger.specs.declared.ledger.Ledger.{Ledger}
use Rattle.open_offers.specs.declared.offer.OpenOffer.{OpenOffer}
use Rattle.board_ledger.specs.declared.user.User.{User}
use Rattle.board_layout.specs.jam_base.Contents.{Contents, pointer_of, with_acknowledged}

-- ---- the users of a board
-- there is a user of an id, from 1
abbrev pub HasUser : ℕ → Board → Type 0
HasUser id b = IsSome (user_of id b)

-- there is one, and his last packet isn't the last that there can be
abbrev pub MayOffer : ℕ → Board → Type 0
MayOffer id b = IsSomeAnd (user_of id b) (λ u. u.last < 0xFFFF_FFFF)

-- the open offer of a number
abbrev pub offer_in : ℕ → List OpenOffer → Option OpenOffer
offer_in packet offers = find (λ o. o.number == packet) offers

-- there is one, and the packet of this number is offered to him
abbrev pub HasOffer : ℕ → ℕ → Board → Type 0
HasOffer id packet b = IsSomeAnd (user_of id b) (λ u. IsSome (offer_in packet u.offers))

-- another user in place of the one of an id
abbrev pub with_user_replaced : ℕ → User → Ledger → Ledger
with_user_replaced id u l = with_user_at (id - 1) u l

-- what is made of the user of an id, where there is one
abbrev pub for_user : (User → Board → Board) → Option User → Board → Board
for_user f None b = b
for_user f (Some u) b = f u b

-- ---- an offer
-- the latest four of open offers in rising number
abbrev pub latest : List OpenOffer → List OpenOffer
latest offers = drop (length offers - 4) offers

-- one packet more is offered to the user, with these highs; where five offers would be open, the first goes
abbrev pub with_offer : List ℕ → User → User
with_offer highs u = record u {
  last = u.last + 1;
  offers = latest (u.offers ++ record { number = u.last + 1; highs = highs } ∷ []);
}

abbrev pub offered_to : ℕ → List ℕ → User → Board → Board
offered_to id highs u b = record { ledger = with_user_replaced id (with_offer highs u) b.ledger; conferences = b.conferences }

-- the board on which one packet more is offered to the user of an id, with these highs
abbrev pub offer_made : ℕ → List ℕ → Board → Board
offer_made id highs b = for_user (offered_to id highs) (user_of id b) b

-- ---- its acknowledgement
-- the open offers but that of a number
abbrev pub other_offers : ℕ → List OpenOffer → List OpenOffer
other_offers packet offers = filter (λ o. not (o.number == packet)) offers

-- that offer isn't open any more
abbrev pub without_offer : ℕ → User → User
without_offer packet u = record u { offers = other_offers packet u.offers }

-- a high is above a last-read pointer that there is
abbrev pub is_high_above : ℕ → Option ℕ → Bool
is_high_above high None = false
is_high_above high (Some pointer) = nat_lt pointer high

-- the user of an id and a name has acknowledged a base up to a high at a moment, where the high is above his pointer
abbrev pub read_up_to : ℕ → List ℕ → ℕ → ℕ → Contents → Contents
read_up_to id name now high base =
    if is_high_above high (pointer_of id base.shape.readers base.conference.pointers) then with_acknowledged id name high now base else base

-- so he has each base, up to its high
abbrev pub all_read : ℕ → List ℕ → ℕ → List Contents → List ℕ → List Contents
all_read id name now [] highs = []
all_read id name now (base ∷ bases) [] = base ∷ bases
all_read id name now (base ∷ bases) (high ∷ highs) = read_up_to id name now high base ∷ all_read id name now bases highs

-- the user has acknowledged an open offer of his, which goes
abbrev pub read_offer : ℕ → ℕ → User → OpenOffer → Board → Board
read_offer id now u o b =
    board_with (with_user_replaced id (without_offer o.number u) b.ledger) (all_read id u.name now (contents_of b) o.highs)

-- so he has that of a number, where there is one
abbrev pub read_by : ℕ → ℕ → ℕ → User → Board → Board
read_by id packet now u b =
    unwrap_or (option_map (λ o. read_offer id now u o b) (offer_in packet u.offers)) b

-- the board on which the user of an id has acknowledged the packet of a number at a moment, where it is offered to him
abbrev pub acknowledged : ℕ → ℕ → ℕ → Board → Board
acknowledged id packet now b = for_user (read_by id packet now) (user_of id b) b
