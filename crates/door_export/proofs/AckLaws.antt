-- An acknowledgement that isn't refused is a change that fits, so the board after it is valid.
use Rattle.std.proofs.Common.{◌≡◌, ℕ, ◌<◌, ◌^◌, Bool, true, false, cond, ◌||◌, eqb, List, [], ◌∷◌, Option, Some, None, Ok, Err, refl, sym, ap, ◌∙◌}
use Rattle.std.specs.Prelude.{IsSome}
use Rattle.std.specs.List.{list_any}
use Rattle.std.proofs.lemmas.Bool.{cond-true, false≢true}
use Rattle.board_layout.specs.Board.{Board}
use Rattle.board_layout.specs.Lookups.{user_of}
use Rattle.board_layout.specs.Valid.{IsBoard}
use Rattle.board_ledger.specs.declared.user.User.{User}
use Rattle.mail_board.specs.Changes.{Fits}
use Rattle.mail_board.specs.Readers.{has_open, is_offered, offer_of, user_id}
use Rattle.mail_board.specs.declared.change.Change.TheVariants.{Acknowledge}
use Rattle.mail_board.proofs.offer_changes.AcknowledgeLaws.{acknowledged_board}
use Rattle.mail_board.proofs.offer_changes.FitLaws.{offer_kept}
use Rattle.mail_board.specs.offer_changes.Changed.{acknowledged, offer_in}
use Rattle.open_offers.specs.declared.offer.OpenOffer.{OpenOffer}
use Rattle.door_export.specs.Ack.{NoPacket, ack_as, ack_of, ack_offer, after_ack}

pub ack_board : (name : List ℕ) (packet now : ℕ) (b : Board) → now < 2 ^ 32 → IsBoard b → IsBoard (after_ack b (ack_of name packet now b))
ack_board name packet now b small ok = by_id (user_id name b)
  where
    by_packet : (id : ℕ) (open_now : Bool) → IsBoard (after_ack b (cond open_now (Ok (acknowledged id packet now b)) (Err (NoPacket (offer_of id b)))))
    by_packet id true = acknowledged_board b id packet now small ok
    by_packet id false = ok

    by_id : (o : Option ℕ) → IsBoard (after_ack b (ack_as packet now b o))
    by_id None = ok
    by_id (Some id) = by_packet id (is_offered id packet b)

-- ---- what is answered
pub ack_found : (name : List ℕ) (packet now : ℕ) (b : Board) (id : ℕ) → user_id name b ≡ Some id → ack_of name packet now b ≡ ack_offer packet now b id
ack_found name packet now b id is = ap (ack_as packet now b) is

-- one has
pub is_open : (packet now : ℕ) (b : Board) (id : ℕ) → is_offered id packet b ≡ true → ack_offer packet now b id ≡ Ok (acknowledged id packet now b)
is_open packet now b id is = cond-true (is_offered id packet b) (Ok (acknowledged id packet now b)) (Err (NoPacket (offer_of id b))) is

-- an offer that one finds by its number is there
found_there : (packet : ℕ) (offers : List OpenOffer) → list_any (λ o. eqb o.number packet) offers ≡ true → IsSome (offer_in packet offers)
found_there packet [] is = absurd (false≢true is)
found_there packet (o ∷ offers) is = by (found_there packet offers) (eqb o.number packet) is
  where
    by : (list_any (λ o. eqb o.number packet) offers ≡ true → IsSome (offer_in packet offers)) → (same : Bool)
        → (same || list_any (λ o. eqb o.number packet) offers) ≡ true → IsSome (cond same (Some o) (offer_in packet offers))
    by later true is = refl
    by later false is = later is

pub ack_fits : (b : Board) (id packet now : ℕ) (u : User) → now < 2 ^ 32 → IsBoard b → user_of id b ≡ Some u → is_offered id packet b ≡ true → Fits (Acknowledge id packet now) b
ack_fits b id packet now u small ok here offered =
    (offer_kept b id packet now ok small u here).0 (found_there packet u.offers (sym (ap (has_open packet) here) ∙ offered))
