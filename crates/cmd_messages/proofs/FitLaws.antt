-- Messages that a conference may hold, and for which it has the slots, may be appended: the board is valid then, where
-- its files aren't too long, and their size is a number of 64 bits.
use Rattle.std.proofs.Common.{◌≡◌, ℕ, zero, suc, ◌+◌, ◌^◌, ◌<◌, ◌≤◌, List, [], ◌∷◌, length, Option, Some, refl, sym, ap, subst, arith}
use Rattle.std.specs.Option.{option_map_or}
use Rattle.std.specs.Prelude.{All, slice_get}
use Rattle.std.specs.List.{AllZip}
use Rattle.post_changes.proofs.board_changes.OneBase.{all_at, base_was, size_next}
use Rattle.board_layout.proofs.BoardLookups.{conferences_count}
use Rattle.post_changes.specs.board_changes.Changed.{base_at}
use Rattle.board_layout.specs.Board.{Board, shapes_of}
use Rattle.board_layout.specs.Layout.{board_size}
use Rattle.board_layout.specs.Renewed.{contents}
use Rattle.board_layout.specs.Valid.{IsBoard, board_limit}
use Rattle.board_layout.specs.jam_base.Contents.{Contents, with_messages}
use Rattle.jam_layout.proofs.SlotSizes.{size_is, slots_small}
use Rattle.jam_layout.specs.Limits.{slot_limit}
use Rattle.jam_layout.specs.Messages.{IsMessage}
use Rattle.jam_layout.specs.Valid.{IsConference}
use Rattle.jam_layout.specs.declared.conference.ConferenceContents.{ConferenceContents}
use Rattle.jam_layout.specs.declared.shape.Shape.{Shape}
use Rattle.jam_records.specs.declared.message.Kind.{Kind}
use Rattle.jam_records.specs.declared.message.Kind.TheVariants.{Local}
use Rattle.jam_records.specs.declared.message.Message.{Message}
use Rattle.setup_file.specs.Valid.{IsSetupConference}
use Rattle.setup_file.specs.declared.conference.Conference.{Conference as SetupConference}
use Rattle.post_changes.proofs.slot_changes.AppendLaws.{appended_there, base_is, named, shape_stays}
use Rattle.post_changes.proofs.slot_changes.FitLaws.{fits_then}
use Rattle.post_changes.proofs.slot_changes.MsgidLaws.{generated_is, identified_count}
use Rattle.post_changes.proofs.slot_changes.PlaceKinds.{kind_at}
use Rattle.post_changes.proofs.slot_changes.ValueLaws.{all_hold}
use Rattle.post_changes.specs.slot_changes.Changed.{appended}
use Rattle.post_changes.specs.slot_changes.Msgids.{IsMsgid, all_identified, msgid_in}
use Rattle.post_changes.specs.slot_changes.Values.{MayHold}
use Rattle.cmd_board.specs.Places.{kind_of_place, slot_count}

-- ---- what stands in a place
some_at : {A : Type 0} (xs : List A) (place : ℕ) → place < length xs → (x : A) × (slice_get xs place ≡ Some x)
some_at [] place within = absurd (omega (arith, within))
some_at (x ∷ xs) zero within = (x, refl)
some_at (x ∷ xs) (suc place) within = some_at xs place (omega (arith, within))

base_in : (shapes : List Shape) (conferences : List ConferenceContents) (place : ℕ) → AllZip IsConference shapes conferences → place < length conferences
    → (base : Contents) × (slice_get (contents shapes conferences) place ≡ Some base) × (slice_get conferences place ≡ Some base.conference)
base_in shapes [] place all within = absurd (omega (arith, within))
base_in [] (c ∷ conferences) place all within = absurd all
base_in (shape ∷ shapes) (c ∷ conferences) zero all within = (record { shape = shape; conference = c }, refl, refl)
base_in (shape ∷ shapes) (c ∷ conferences) (suc place) all within = base_in shapes conferences place all.1 (omega (arith, within))

-- ---- one place
module _ (b : Board) (place : ℕ) (messages : List Message) (base : Contents) (c : SetupConference) (ok : IsBoard b) (here : base_at place b ≡ Some base) (is : slice_get b.ledger.setup.conferences place ≡ Some c)
    (may : All (MayHold c.kind) messages) (few : length base.conference.slots + length messages ≤ slot_limit) where
  ids : (number : ℕ) → number < 10 ^ 5 → IsMsgid (msgid_in place b number)
  ids number below =
      let small = (all_at IsSetupConference b.ledger.setup.conferences place c is ok.ledger.setup.conferences.each).number in
      generated_is _ b.ledger.setup.bbsid number (omega (arith, small, named b place c is)) ok.ledger.setup.bbsid below

  given : List Message
  given = all_identified (msgid_in place b) (length base.conference.slots + 1) messages

  next_base : IsConference (with_messages given base).shape (with_messages given base).conference
  unfolding given
  next_base =
      let all : All (IsMessage c.kind) given = all_hold c.kind (msgid_in place b) (length base.conference.slots + 1) messages (λ n less. ids n (omega (arith, less, few))) may in
      base_is base given (base_was b place base base ok here refl) (subst (λ (k : Kind). All (IsMessage k) given) (sym (kind_at b place base c here is)) all)
      (omega (arith, few, identified_count (msgid_in place b) (length base.conference.slots + 1) messages))

  pub size_small : board_size (appended place messages b) < 2 ^ 64
  unfolding given
  size_small =
      let new : Contents = with_messages given base in
      let readers : length new.shape.readers ≡ length base.shape.readers = ap (λ (s : Shape). length s.readers) (shape_stays base given) in
      omega (
        arith,
        ap board_size (appended_there b place messages base ok here),
        size_next b place base new ok here (shape_stays base given),
        size_is new.shape new.conference next_base,
        size_is base.shape base.conference (base_was b place base base ok here refl),
        slots_small new.shape new.conference next_base,
        readers,
        ok.small,
      )

-- ---- the board
-- a place with its base, and what the setup says of it
record HasPlace (place : ℕ) (b : Board) : Type 0 where
  base : Contents
  conference : SetupConference
  base_is : base_at place b ≡ Some base
  conference_is : slice_get b.ledger.setup.conferences place ≡ Some conference
  slots : slot_count place b ≡ length base.conference.slots
  kind : kind_of_place place b ≡ conference.kind

has_place : (place : ℕ) (b : Board) → IsBoard b → place < length b.conferences → HasPlace place b
has_place place b ok within =
    let one = base_in (shapes_of b.ledger) b.conferences place ok.conferences within in
    let other = some_at b.ledger.setup.conferences place (omega (arith, within, conferences_count b ok)) in
    record {
      base = one.0;
      conference = other.0;
      base_is = one.1;
      conference_is = other.1;
      slots = ap (λ (o : Option ConferenceContents). option_map_or (λ (c : ConferenceContents). length c.slots) o 0) one.2;
      kind = ap (λ (o : Option SetupConference). option_map_or (λ (c : SetupConference). c.kind) o Local) other.1;
    }

module _ (b : Board) (place : ℕ) (messages : List Message) (ok : IsBoard b) (within : place < length b.conferences) (may : All (MayHold (kind_of_place place b)) messages) (few : slot_count place b + length messages ≤ slot_limit) where
  pub append_fits : board_size (appended place messages b) ≤ board_limit → IsBoard (appended place messages b)
  append_fits small =
      let at = has_place place b ok within in
      fits_then b place messages at.base at.conference ok at.base_is at.conference_is (subst (λ (k : Kind). All (MayHold k) messages) at.kind may) (omega (arith, few, at.slots)) small

  pub append_short : board_size (appended place messages b) < 2 ^ 64
  append_short =
      let at = has_place place b ok within in
      size_small b place messages at.base at.conference ok at.base_is at.conference_is (subst (λ (k : Kind). All (MayHold k) messages) at.kind may) (omega (arith, few, at.slots))
