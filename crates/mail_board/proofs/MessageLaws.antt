-- The message of a number on the board that the host holds, by the base of the board that is kept.
use Rattle.std.proofs.Common.{◌≡◌, ℕ, zero, suc, ◌<◌, ◌≤◌, Bool, true, false, cond, List, [], ◌∷◌, length, Option, Some, None, refl, sym, ap, ◌∙◌, arith}
use Rattle.std.specs.Prelude.{get_or, option_and_then, option_map, slice_get, ◌==◌}
use Rattle.std.proofs.lemmas.Option.{slice_get-get_or}
use Rattle.post_changes.proofs.board_changes.MemberLaws.{files_at}
use Rattle.post_changes.proofs.board_changes.OneBase.{all_at, are_bases, conferences_back}
use Rattle.board_layout.proofs.BoardLookups.{base_slots, conferences_count, no_slots}
use Rattle.post_changes.specs.board_changes.Changed.{base_at}
use Rattle.board_layout.proofs.BasePlaces.{IsBase}
use Rattle.board_layout.proofs.OneOutline.{alike_base}
use Rattle.board_layout.specs.Board.{Board, shapes_of}
use Rattle.board_layout.specs.Layout.{IsLayout}
use Rattle.board_layout.specs.Lookups.{held_in, message_at}
use Rattle.board_layout.specs.Renewed.{contents_of}
use Rattle.board_layout.specs.Valid.{IsBoard}
use Rattle.door_outside.specs.File.{jdt_file}
use Rattle.intent_journal.specs.Patches.{HostFiles}
use Rattle.board_layout.specs.jam_base.Contents.{Contents}
use Rattle.board_layout.specs.jam_base.Outlined.{outlined}
use Rattle.board_layout.specs.jam_base.Slots.{numbered}
use Rattle.jam_layout.specs.declared.files.BaseFiles.{BaseFiles}
use Rattle.jam_records.specs.declared.message.Message.{Message}
use Rattle.jam_records.specs.declared.message.Slot.{Slot}
use Rattle.jam_records.specs.declared.message.Slot.TheVariants.{Gone}
use Rattle.post_changes.proofs.PlacePosts.{place_there}
use Rattle.mail_board.proofs.BodyLaws.{none_alike}
use Rattle.mail_board.proofs.EachBases.{places_alike}
use Rattle.mail_board.specs.Bodies.{HasBodies}
use Rattle.mail_board.specs.Held.{AreAlike}

-- ---- the base of a place
pub base_there : (b : Board) (bases : List Contents) (place index : ℕ) (base : Contents) → bases ≡ contents_of b → index ≡ place → index < length bases → base ≡ get_or bases index base → base_at place b ≡ Some base
base_there b bases place index base same at within is = (λ i. slice_get (sym same i) (sym at i)) ∙ (slice_get-get_or bases index base within ∙ ap Some (sym is))

-- a list has nothing past its end
past_end : (bases : List Contents) (index : ℕ) → length bases ≤ index → slice_get bases index ≡ None
past_end [] index past = refl
past_end (base ∷ bases) zero past = absurd (omega (arith, past))
past_end (base ∷ bases) (suc index) past = past_end bases index (omega (arith, past))

pub no_base_there : (b : Board) (bases : List Contents) (place index : ℕ) → bases ≡ contents_of b → index ≡ place → length bases ≤ index → base_at place b ≡ None
no_base_there b bases place index same at past = (λ i. slice_get (sym same i) (sym at i)) ∙ past_end bases index past

pub place_small : (b : Board) (place : ℕ) (base : Contents) → IsBoard b → base_at place b ≡ Some base → place < 64
place_small b place base ok here =
    let inside = place_there b place base here in
    let many = ok.ledger.setup.conferences.many in
    omega (arith, inside, many, conferences_count b ok)

pub base_valid : (b : Board) (place : ℕ) (base : Contents) → IsBoard b → base_at place b ≡ Some base → IsBase base
base_valid b place base ok here = all_at IsBase (contents_of b) place base here (are_bases (shapes_of b.ledger) b.conferences ok.conferences)

-- its message
abbrev pub message_of : ℕ → Option Contents → Option Message
message_of number o = option_and_then (λ (base : Contents). held_in (numbered base.conference.slots number)) o

-- no slot holds none
none_held : (number : ℕ) → None ≡ held_in (numbered [] number)
none_held number = by (number == 0)
  where
    by : (none : Bool) → None ≡ held_in (cond none Gone Gone)
    by true = refl
    by false = refl

module _ (b : Board) (place number : ℕ) where
  abbrev in_slots : List Slot → Option Message
  in_slots slots = held_in (numbered slots number)

  pub message_here : (o : Option Contents) → IsBoard b → base_at place b ≡ o → message_at b place number ≡ message_of number o
  message_here None ok here = ap in_slots (no_slots b (contents_of b) place (conferences_back (shapes_of b.ledger) b.conferences ok.conferences) here) ∙ sym (none_held number)
  message_here (Some base) ok here = ap in_slots (sym (base_slots b (contents_of b) place base (conferences_back (shapes_of b.ledger) b.conferences ok.conferences) here))

-- ---- on another board with the outline
module _ (held b : Board) (alike : AreAlike b held) (place number : ℕ) where
  none_there : (o : Option Contents) → IsBoard b → base_at place b ≡ o → option_map outlined o ≡ None → None ≡ message_at b place number
  none_there None ok here none = sym (message_here b place number None ok here)
  none_there (Some other) ok here none = absurd (cc none)

  pub no_base : IsBoard b → base_at place held ≡ None → None ≡ message_at b place number
  no_base ok none = none_there (base_at place b) ok refl (places_alike b held alike place ∙ ap (option_map outlined) none)

  module _ (base : Contents) (here : base_at place held ≡ Some base) where
    pub other : (x : Contents) × (base_at place b ≡ Some x) × (outlined x ≡ outlined base)
    other = alike_base b held alike place base here

    pub no_message : IsBoard b → None ≡ held_in (numbered base.conference.slots number) → None ≡ message_at b place number
    no_message ok none = none_alike base other.0 other.2 number none ∙ sym (message_here b place number (Some other.0) ok other.1)

    pub message_there : (found : Message) → IsBoard b → Some found ≡ held_in (numbered other.0.conference.slots number) → Some found ≡ message_at b place number
    message_there found ok is = is ∙ sym (message_here b place number (Some other.0) ok other.1)

    pub other_bodies : (files : HostFiles) → IsBoard b → IsLayout b files → HasBodies base other.0 (files (jdt_file place))
    other_bodies files ok laid = record {
      valid = base_valid b place other.0 ok other.1;
      alike = other.2;
      file = ap (λ (f : BaseFiles). f.jdt) (laid.places place (place_small b place other.0 ok other.1) ∙ files_at b place other.0 other.1);
    }
