-- What a valid board is.
use Rattle.std.specs.Prelude.{ℕ, ◌≤◌, List, [], ◌∷◌, length, All, Bool, true, IsTrue, ◌&&◌, nat_le}
use Rattle.std.specs.List.{list_all, AllZip}
use Rattle.board_ledger.specs.Valid.{IsLedger}
use Rattle.board_ledger.specs.open_offers.declared.offer.OpenOffer.{OpenOffer}
use Rattle.jam_base.specs.jam_layout.Valid.{IsConference}
use Rattle.jam_base.specs.jam_layout.declared.conference.ConferenceContents.{ConferenceContents}
use Rattle.board_layout.specs.Board.{Board, shapes_of}
use Rattle.board_layout.specs.Layout.{board_size}

-- how many bytes the data files may have together
abbrev pub board_limit : ℕ
board_limit = 34603008

-- each high is at most the count of slots of its conference
abbrev pub highs_fit : List ConferenceContents → List ℕ → Bool
highs_fit [] highs = true
highs_fit (c ∷ conferences) [] = true
highs_fit (c ∷ conferences) (high ∷ highs) = nat_le high (length c.slots) && highs_fit conferences highs

-- so it is in each of these offers
abbrev pub offers_fit : List ConferenceContents → List OpenOffer → Bool
offers_fit conferences offers = list_all (λ o. highs_fit conferences o.highs) offers

pub record IsBoard (b : Board) : Type 0 where
  pub ledger : IsLedger b.ledger
  pub conferences : AllZip IsConference (shapes_of b.ledger) b.conferences
  pub highs : All (λ u. IsTrue (offers_fit b.conferences u.offers)) b.ledger.users
  pub small : board_size b ≤ board_limit
