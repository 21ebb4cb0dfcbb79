-- The place of a conference's number is one of the setup's.
use Rattle.std.proofs.Common.{◌≡◌, ℕ, ◌<◌, ◌≤◌, Bool, eqb, ltb, List, length, refl, arith}
use Rattle.std.specs.Prelude.{IfSome, position, slice_get, Option, Some, None}
use Rattle.std.specs.List.{position_or_len}
use Rattle.std.proofs.lemmas.Bool.{ltb-true}
use Rattle.std.proofs.lemmas.Option.{cond_some, none-some}
use Rattle.post_changes.proofs.board_changes.OneBase.{all_at, are_bases}
use Rattle.board_layout.proofs.BasePlaces.{IsBase}
use Rattle.board_layout.specs.Board.{Board, shapes_of}
use Rattle.board_layout.specs.Renewed.{contents_of}
use Rattle.board_layout.specs.Valid.{IsBoard}
use Rattle.board_layout.specs.jam_base.Contents.{Contents}
use Rattle.board_layout.specs.jam_layout.Limits.{slot_limit}
use Rattle.jam_records.specs.declared.message.Message.{Message}
use Rattle.post_changes.specs.Posted.{spread}
use Rattle.packet_verdicts.specs.Views.{addressed_place}
use Rattle.setup_file.specs.declared.conference.Conference.{Conference as SetupConference}

position_within : {A : Type 0} (p : A → Bool) (xs : List A) (k : ℕ) → position p xs ≡ Some k → k < length xs
position_within p xs k e =
    let parts = cond_some (ltb (position_or_len p xs) (length xs)) (position_or_len p xs) k e in
    omega (arith, ltb-true (position_or_len p xs) (length xs) parts.0, parts.1)

pub place_within : (number : Option ℕ) (b : Board) (place : ℕ) → addressed_place number b ≡ Some place → place < length b.ledger.setup.conferences
place_within None b place e = absurd (none-some place e)
place_within (Some number) b place e = position_within (λ (c : SetupConference). eqb c.number number) b.ledger.setup.conferences place e

-- posts don't change the setup
pub place_same : (number : Option ℕ) (b : Board) (posts : List (ℕ × Message)) → addressed_place number (spread posts b) ≡ addressed_place number b
place_same None b posts = refl
place_same (Some number) b posts = refl

pub few_slots : (b : Board) (place : ℕ) (base : Contents) → IsBoard b → slice_get (contents_of b) place ≡ Some base → length base.conference.slots ≤ slot_limit
few_slots b place base ok here = (all_at IsBase (contents_of b) place base here (are_bases (shapes_of b.ledger) b.conferences ok.conferences)).few

pub small_place : (b : Board) (place : ℕ) → IsBoard b → place < length b.ledger.setup.conferences → place < 64
small_place b place ok within = omega (arith, within, ok.ledger.setup.conferences.many)

pub small_places : (b : Board) (place : Option ℕ) → IsBoard b → IfSome place (λ place. place < length b.ledger.setup.conferences) → IfSome place (λ place. place < 64)
small_places b None ok within = tt
small_places b (Some place) ok within = small_place b place ok within
