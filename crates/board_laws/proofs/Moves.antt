-- What a command does to a board: it makes a change, or packs a place.
use Rattle.std.proofs.Common.{◌≡◌, inl, ℕ, None, sym, ap, subst}
use Rattle.std.specs.List.{AllZip}
use Rattle.post_changes.specs.board_changes.Changed.{base_at}
use Rattle.board_layout.specs.Board.{Board}
use Rattle.board_layout.specs.Lookups.{pointer_at, user_of}
use Rattle.board_layout.specs.Renewed.{contents_of}
use Rattle.board_laws.proofs.Bases.{BaseGrows, base_itself, packed_grows, packed_pointer}
use Rattle.board_laws.proofs.Changing.{AcksBy, Follows, at_place, bases_grow, itself, one_count, pointers_follow, setup_stays, whole_next}
use Rattle.board_laws.proofs.Grown.{IsWhole, zip_back, zip_one}
use Rattle.board_laws.proofs.Readers.{PointerFollows}
use Rattle.board_laws.proofs.Users.{KeepsOffers, OffersTo, UserFollows, offers_stay, same_ledger, same_offers, same_user, same_users, user_follows}
use Rattle.board_ledger.specs.declared.ledger.Ledger.{Ledger}
use Rattle.jam_base.specs.Contents.{Contents}
use Rattle.cmd_messages.specs.mail_board.Changes.{changed}
use Rattle.cmd_messages.specs.mail_board.declared.change.Change.{Change}
use Rattle.post_changes.proofs.slot_changes.PackLaws.{packed_shape}
use Rattle.post_changes.specs.slot_changes.Packed.{packed, with_packed}

pub data Move : Type 0 where
  Makes : Change → Move
  Packs : ℕ → Move

-- the board after it
abbrev pub moved : Move → Board → Board
moved (Makes change) b = changed change b
moved (Packs place) b = packed place b

-- ---- what stays
pub setup_moved : (move : Move) (b : Board) → (moved move b).ledger.setup ≡ b.ledger.setup
setup_moved (Makes change) b = setup_stays change b
setup_moved (Packs place) b = ap (λ (l : Ledger). l.setup) (same_ledger place _ b)

pub users_moved : (id : ℕ) (b : Board) (move : Move) → UserFollows (user_of id b) (user_of id (moved move b))
users_moved id b (Makes change) = user_follows id b change
users_moved id b (Packs place) = subst (UserFollows (user_of id b)) (sym (same_users id b (packed place b) (ap (λ (l : Ledger). l.users) (same_ledger place _ b)))) (same_user (user_of id b))

-- it is an offer to the user
abbrev pub OffersIn : ℕ → Board → Move → Type 0
OffersIn id b (Makes change) = OffersTo id b change
OffersIn id b (Packs place) = ⊥

pub offers_moved : (id : ℕ) (b : Board) (move : Move) → (OffersIn id b move → ⊥) → KeepsOffers (user_of id b) (user_of id (moved move b))
offers_moved id b (Makes change) apart = offers_stay id b change apart
offers_moved id b (Packs place) apart = subst (KeepsOffers (user_of id b)) (sym (same_users id b (packed place b) (ap (λ (l : Ledger). l.users) (same_ledger place _ b)))) (same_offers (user_of id b))

-- ---- the bases
module _ (b : Board) (whole : IsWhole b) where
  pub bases_moved : (move : Move) → AllZip BaseGrows (contents_of b) (contents_of (moved move b))
  bases_moved (Makes change) = bases_grow b whole change
  bases_moved (Packs place) = zip_one b whole BaseGrows base_itself place with_packed packed_shape packed_grows

  pub whole_moved : (move : Move) → IsWhole (moved move b)
  whole_moved (Makes change) = whole_next b whole change
  whole_moved (Packs place) = record {
    count = one_count b whole place with_packed (base_at place b);
    even = λ at y here.
        let x = zip_back BaseGrows (contents_of b) (contents_of (packed place b)) at y (bases_moved (Packs place)) here in
        let grown = x.2 in
        grown.even (whole.even at x.0 x.1);
  }

  -- ---- the pointers of a user
  module _ (id : ℕ) where
    -- it is an acknowledgement by the user
    abbrev pub AcksIn : Move → Type 0
    AcksIn (Makes change) = AcksBy b whole id change
    AcksIn (Packs place) = ⊥

    pub pointers_moved : (move : Move) → (AcksIn move → ⊥) → (place : ℕ) → PointerFollows (user_of id b ≡ None) (pointer_at place id b) (pointer_at place id (moved move b))
    pointers_moved (Makes change) apart place = pointers_follow b whole id change apart place
    pointers_moved (Packs at) apart place =
        at_place b whole id (contents_of b) (contents_of (packed at b)) place
        (zip_one b whole (Follows b whole id) (itself b whole id) at with_packed packed_shape (λ (x : Contents). inl (packed_pointer id x)))
