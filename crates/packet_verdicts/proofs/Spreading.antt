-- The slots of a board with posts.
use Rattle.std.proofs.Common.{◌≡◌, ℕ, zero, suc, ◌+◌, ◌<◌, List, [], ◌∷◌, ◌++◌, length, map, refl, sym, ap, ◌∙◌, subst, arith, length-append}
use Rattle.std.specs.Prelude.{option_map, unwrap_or, slice_get}
use Rattle.std.proofs.lemmas.List.{append-nil, length-map}
use Rattle.post_changes.proofs.board_changes.OneBase.{conferences_back, shapes_back}
use Rattle.board_layout.proofs.BoardLookups.{conferences_count}
use Rattle.board_layout.specs.Board.{Board, conferences_in, shapes_in, shapes_of}
use Rattle.board_layout.specs.Renewed.{contents_of}
use Rattle.board_layout.specs.Valid.{IsBoard}
use Rattle.board_layout.specs.jam_base.Contents.{Contents, with_messages}
use Rattle.board_layout.specs.jam_layout.declared.conference.ConferenceContents.{ConferenceContents}
use Rattle.jam_records.specs.declared.message.Message.{Message}
use Rattle.jam_records.specs.declared.message.Slot.{Slot}
use Rattle.jam_records.specs.declared.message.Slot.TheVariants.{Held}
use Rattle.board_layout.specs.Lookups.{slots_in}
use Rattle.post_changes.specs.Posted.{posts_in, all_posted, spread}
use Rattle.post_changes.proofs.slot_changes.AppendLaws.{shape_stays}
use Rattle.post_changes.proofs.slot_changes.MsgidLaws.{identified_count}
use Rattle.post_changes.proofs.slot_changes.SlotBytes.{all_at_end}
use Rattle.post_changes.specs.slot_changes.Changed.{with_identified}
use Rattle.post_changes.specs.slot_changes.Msgids.{all_identified, msgid_in}

-- the slots of the conference in a place
abbrev pub slots_at : List ConferenceContents → ℕ → List Slot
slots_at conferences place = unwrap_or (option_map (λ (c : ConferenceContents). c.slots) (slice_get conferences place)) []

messages_slots : (base : Contents) (messages : List Message) → (with_messages messages base).conference.slots ≡ base.conference.slots ++ map Held messages
messages_slots base [] = sym (append-nil base.conference.slots)
messages_slots base (m ∷ messages) = all_at_end base.conference.slots (m ∷ messages)

-- ---- bases
posted_slots : (b : Board) (posts : List (ℕ × Message)) (place first j : ℕ) (bases : List Contents) → place ≡ first + j → j < length bases
    → slots_at (conferences_in (all_posted b posts first bases)) j ≡ slots_at (conferences_in bases) j ++ map Held (all_identified (msgid_in place b) (length (slots_at (conferences_in bases) j) + 1) (posts_in place posts))
posted_slots b posts place first j [] e within = absurd (omega arith)
posted_slots b posts place first zero (base ∷ bases) e within =
    let same : place ≡ first = omega arith in
    let given : List Message = all_identified (msgid_in place b) (length base.conference.slots + 1) (posts_in place posts) in
    subst (λ (k : ℕ). (with_identified (msgid_in k b) (posts_in k posts) base).conference.slots ≡ base.conference.slots ++ map Held given) same (messages_slots base given)
posted_slots b posts place first (suc j) (base ∷ bases) e within = posted_slots b posts place (first + 1) j bases (omega arith) (omega arith)

pub posted_shapes : (b : Board) (posts : List (ℕ × Message)) (first : ℕ) (bases : List Contents) → shapes_in (all_posted b posts first bases) ≡ shapes_in bases
posted_shapes b posts first [] = refl
posted_shapes b posts first (base ∷ bases) =
    let given : List Message = all_identified (msgid_in first b) (length base.conference.slots + 1) (posts_in first posts) in
    let head = shape_stays base given in
    let tail = posted_shapes b posts (first + 1) bases in
    λ i. head i ∷ tail i

-- ---- the board
pub as_many : (b : Board) → IsBoard b → length (contents_of b) ≡ length b.ledger.setup.conferences
as_many b ok =
    sym (length-map (contents_of b) (λ (base : Contents). base.conference))
    ∙ (ap length (conferences_back (shapes_of b.ledger) b.conferences ok.conferences) ∙ conferences_count b ok)

pub spread_shapes : (b : Board) (posts : List (ℕ × Message)) → IsBoard b → shapes_in (all_posted b posts 0 (contents_of b)) ≡ shapes_of b.ledger
spread_shapes b posts ok = posted_shapes b posts 0 (contents_of b) ∙ shapes_back (shapes_of b.ledger) b.conferences ok.conferences

pub spread_slots : (b : Board) (posts : List (ℕ × Message)) (place : ℕ) → IsBoard b → place < length b.ledger.setup.conferences
    → slots_in (spread posts b) place ≡ slots_in b place ++ map Held (all_identified (msgid_in place b) (length (slots_in b place) + 1) (posts_in place posts))
spread_slots b posts place ok within =
    subst
    (λ (cs : List ConferenceContents). slots_in (spread posts b) place ≡ slots_at cs place ++ map Held (all_identified (msgid_in place b) (length (slots_at cs place) + 1) (posts_in place posts)))
    (conferences_back (shapes_of b.ledger) b.conferences ok.conferences) (posted_slots b posts place 0 place (contents_of b) (omega arith) (omega (arith, as_many b ok, within)))

pub spread_count : (b : Board) (posts : List (ℕ × Message)) (place : ℕ) → IsBoard b → place < length b.ledger.setup.conferences → length (slots_in (spread posts b) place) ≡ length (slots_in b place) + length (posts_in place posts)
spread_count b posts place ok within =
    let given : List Message = all_identified (msgid_in place b) (length (slots_in b place) + 1) (posts_in place posts) in
    omega (
      arith,
      ap length (spread_slots b posts place ok within),
      length-append (slots_in b place) (map Held given),
      length-map given Held,
      identified_count (msgid_in place b) (length (slots_in b place) + 1) (posts_in place posts),
    )
