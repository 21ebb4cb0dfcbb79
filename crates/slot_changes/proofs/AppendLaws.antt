-- A board with messages appended in a place: its size, and when it is valid.
use Rattle.std.proofs.Common.{◌≡◌, ℕ, ◌+◌, ◌≤◌, List, [], ◌∷◌, ◌++◌, length, map, refl, sym, ap, ◌∙◌, subst, arith}
use Rattle.std.specs.Prelude.{All, option_map, Option, Some, slice_get, sum_by}
use Rattle.std.specs.Option.{option_map_or}
use Rattle.std.proofs.lemmas.List.{drop_at}
use Rattle.std.proofs.lemmas.List.Elements.{All-cons, All-drop, All-head, All-nil, All-tail}
use Rattle.board_changes.proofs.OneBase.{base_fits, base_was, board_next, size_next}
use Rattle.board_changes.specs.Change.{ChangesBase}
use Rattle.board_changes.specs.Changed.{base_at, with_base}
use Rattle.board_changes.specs.Spending.{Spends}
use Rattle.board_layout.specs.Board.{Board}
use Rattle.board_layout.specs.Layout.{board_size, files_in}
use Rattle.board_layout.proofs.OutlineLaws.{outline_size}
use Rattle.board_layout.specs.Outlines.{board_outline}
use Rattle.board_layout.specs.Valid.{IsBoard, board_limit}
use Rattle.board_ledger.specs.declared.ledger.Ledger.{Ledger}
use Rattle.board_ledger.specs.intent_journal.Patches.{byte_count}
use Rattle.board_ledger.specs.intent_journal.declared.patch.Patch.{Patch}
use Rattle.board_layout.proofs.jam_base.SlotChanges.{appended_is, length_all}
use Rattle.board_layout.specs.jam_base.Change.{SuitsIntent}
use Rattle.board_layout.specs.jam_base.Contents.{Contents, with_messages}
use Rattle.board_layout.specs.jam_base.Outlined.{outlined}
use Rattle.board_layout.specs.jam_base.Puts.{Costs}
use Rattle.board_layout.specs.jam_base.Slots.{slots_with_all}
use Rattle.board_layout.specs.jam_base.declared.change.BaseChange.{BaseChange}
use Rattle.jam_layout.specs.Limits.{slot_limit}
use Rattle.jam_layout.specs.Messages.{IsMessage, IsSlot}
use Rattle.jam_layout.specs.Valid.{IsConference}
use Rattle.jam_records.specs.declared.message.Kind.{Kind}
use Rattle.jam_records.specs.declared.message.Message.{Message}
use Rattle.jam_records.specs.declared.message.Slot.{Slot}
use Rattle.jam_records.specs.declared.message.Slot.TheVariants.{Held}
use Rattle.board_ledger.specs.setup_file.declared.conference.Conference.{Conference as SetupConference}
use Rattle.slot_changes.proofs.MsgidLaws.{identified_count}
use Rattle.slot_changes.proofs.SlotBytes.{all_at_end, base_grows, message_size}
use Rattle.slot_changes.specs.Changed.{appended, with_identified}
use Rattle.slot_changes.specs.Msgids.{all_identified, generated, msgid_in, number_of_place}

-- ---- the base
pub shape_stays : (base : Contents) (messages : List Message) → (with_messages messages base).shape ≡ base.shape
shape_stays base [] = refl
shape_stays base (m ∷ messages) = refl

pub more_slots : (base : Contents) (messages : List Message) → length (with_messages messages base).conference.slots ≡ length base.conference.slots + length messages
more_slots base [] = omega arith
more_slots base (m ∷ messages) = length_all base.conference.slots (m ∷ messages)

pub base_is : (base : Contents) (messages : List Message) → IsConference base.shape base.conference → All (IsMessage base.shape.kind) messages → length base.conference.slots + length messages ≤ slot_limit
    → IsConference (with_messages messages base).shape (with_messages messages base).conference
base_is base [] ok all few = ok
base_is base (m ∷ messages) ok all few = appended_is base (slots_with_all base.conference.slots (m ∷ messages)) (m ∷ messages) refl ok all few

-- what holds of slots that hold messages holds of the messages
held_all : (kind : Kind) (messages : List Message) → All (IsSlot kind) (map Held messages) → All (IsMessage kind) messages
held_all kind [] all = All-nil (IsMessage kind)
held_all kind (m ∷ messages) all = All-cons (IsMessage kind) m messages (All-head (IsSlot kind) (Held m) (map Held messages) all) (held_all kind messages (All-tail (IsSlot kind) (Held m) (map Held messages) all))

pub messages_are : (base : Contents) (messages : List Message) → IsConference (with_messages messages base).shape (with_messages messages base).conference → All (IsMessage base.shape.kind) messages
messages_are base [] ok = All-nil (IsMessage base.shape.kind)
messages_are base (m ∷ messages) ok =
    let slots : List Slot = base.conference.slots in
    let behind : List Slot = map Held (m ∷ messages) in
    let all : All (IsSlot base.shape.kind) (slots ++ behind) = subst (All (IsSlot base.shape.kind)) (all_at_end slots (m ∷ messages)) ok.slots in
    held_all base.shape.kind (m ∷ messages) (subst (All (IsSlot base.shape.kind)) (drop_at slots behind (length slots) refl) (All-drop (IsSlot base.shape.kind) (length slots) (slots ++ behind) all))

pub changes : (base : Contents) (messages : List Message) (change : BaseChange) → change.base ≡ outlined (with_messages messages base) → SuitsIntent base.shape.place (files_in change.base) change.patches → ChangesBase base change
changes base messages change is intent = record { shape = ap (λ (c : Contents). c.shape) is ∙ shape_stays base messages; intent = intent }

-- ---- the board
-- the number of a conference that the setup has
pub named : (b : Board) (place : ℕ) (c : SetupConference) → slice_get b.ledger.setup.conferences place ≡ Some c → c.number ≡ number_of_place place b
named b place c is = sym (ap (λ (o : Option SetupConference). option_map_or (λ (k : SetupConference). k.number) o 0) is)

-- messages with msgids that are made of what the board says
pub copies_are : (b : Board) (place : ℕ) (c : SetupConference) (base : Contents) (bbsid : List ℕ) (ledger : Ledger) (count : ℕ) (items messages copies : List Message)
    → slice_get b.ledger.setup.conferences place ≡ Some c → bbsid ≡ ledger.setup.bbsid → ledger ≡ b.ledger → count ≡ length base.conference.slots → items ≡ messages → copies ≡ all_identified (generated c.number bbsid) (count + 1) items
    → copies ≡ all_identified (msgid_in place b) (length base.conference.slots + 1) messages
copies_are b place c base bbsid ledger count items messages copies is id same slots all made =
    let own : bbsid ≡ b.ledger.setup.bbsid = id ∙ ap (λ (l : Ledger). l.setup.bbsid) same in
    made ∙ (λ i. all_identified (generated (named b place c is i) (own i)) (slots i + 1) (all i))

-- how much it puts
pub appended_spends : (b : Board) (place : ℕ) (messages copies : List Message) (base : Contents) (change : BaseChange) (intent : List Patch) → IsBoard b → base_at place b ≡ Some base → change.base ≡ outlined (with_messages copies base) → length copies ≡ length messages
    → Costs (length copies) (files_in base) (files_in change.base) change.patches → intent ≡ change.patches → with_base place (Some change.base) b ≡ board_outline (appended place messages b) → Spends (length messages) b (appended place messages b) intent
appended_spends b place messages copies base change intent ok here is many costs same next =
    let grows = size_next b place base change.base ok here (ap (λ (c : Contents). c.shape) is ∙ shape_stays base copies) in
    record {
      few = omega (arith, costs.few, many, ap (length {A = Patch}) same);
      grown = omega (arith, costs.short, many, ap byte_count same, grows, ap board_size next, outline_size (appended place messages b));
    }

module _ (b : Board) (place : ℕ) (messages : List Message) (base : Contents) (ok : IsBoard b) (here : base_at place b ≡ Some base) where
  given : List Message
  given = all_identified (msgid_in place b) (length base.conference.slots + 1) messages

  pub appended_there : appended place messages b ≡ with_base place (Some (with_messages (all_identified (msgid_in place b) (length base.conference.slots + 1) messages) base)) b
  appended_there = ap (λ (o : Option Contents). with_base place (option_map (with_identified (msgid_in place b) messages) o) b) here

  pub appended_size : board_size (appended place messages b) ≡ board_size b + sum_by message_size (all_identified (msgid_in place b) (length base.conference.slots + 1) messages)
  unfolding given
  appended_size = omega (
    arith,
    ap board_size appended_there,
    size_next b place base (with_messages given base) ok here (shape_stays base given),
    base_grows base given,
  )

  pub appended_board : All (IsMessage base.shape.kind) (all_identified (msgid_in place b) (length base.conference.slots + 1) messages) → length base.conference.slots + length messages ≤ slot_limit → board_size (appended place messages b) ≤ board_limit → IsBoard (appended place messages b)
  unfolding given
  appended_board all few small =
      let count = identified_count (msgid_in place b) (length base.conference.slots + 1) messages in
      let next = board_next b place base (with_messages given base) ok here (shape_stays base given)
      (base_is base given (base_was b place base base ok here refl) all (omega (arith, count, few)))
      (omega (arith, more_slots base given))
      (subst (λ (next : Board). board_size next ≤ board_limit) appended_there small) in
      subst IsBoard (sym appended_there) next

  -- what a valid board tells of the messages
  base_then : IsBoard (appended place messages b) → IsConference (with_messages (all_identified (msgid_in place b) (length base.conference.slots + 1) messages) base).shape (with_messages (all_identified (msgid_in place b) (length base.conference.slots + 1) messages) base).conference
  unfolding given
  base_then next = base_fits b place base (with_messages given base) ok here (shape_stays base given) (subst IsBoard appended_there next)

  pub appended_messages : IsBoard (appended place messages b) → All (IsMessage base.shape.kind) (all_identified (msgid_in place b) (length base.conference.slots + 1) messages)
  unfolding given
  appended_messages next = messages_are base given (base_then next)

  pub appended_few : IsBoard (appended place messages b) → length base.conference.slots + length messages ≤ slot_limit
  unfolding given
  appended_few next = omega (arith, (base_then next).few, more_slots base given, identified_count (msgid_in place b) (length base.conference.slots + 1) messages)
