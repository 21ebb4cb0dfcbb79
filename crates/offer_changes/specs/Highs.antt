-- Which highs a user may be offered.
use Rattle.std.specs.Prelude.{ℕ, List, length, Bool, ◌&&◌, ◌==◌}
use Rattle.board_layout.specs.Board.{Board}
use Rattle.board_layout.specs.Valid.{highs_fit}
use Rattle.open_offers.specs.Offers.{are_of_member}
use Rattle.board_ledger.specs.declared.user.User.{User}

-- there is one for each conference, none is above the count of slots there, and it is 0 where the user isn't a member
abbrev pub may_have : Board → User → List ℕ → Bool
may_have b u highs = (length highs == length b.conferences && highs_fit b.conferences highs) && are_of_member u.members 0 highs
