-- The msgid in the last slot of a place, on a board with posts.
use Rattle.std.proofs.Common.{◌≡◌, ℕ, ◌+◌, ◌-◌, ◌<◌, true, false, cond, eqb, List, [], ◌∷◌, ◌++◌, length, map, get_or, refl, sym, ◌∙◌, ap, subst, arith, append_assoc, length-append}
use Rattle.std.specs.Prelude.{All, option_map, unwrap_or}
use Rattle.std.specs.List.{filter}
use Rattle.std.proofs.Math.Seq.{get_or-append_right}
use Rattle.std.proofs.lemmas.Bool.{cond-false, ne_eqb}
use Rattle.std.proofs.lemmas.List.{append-nil, map-append}
use Rattle.std.proofs.lemmas.List.Elements.{All-cons, All-head, All-nil, All-tail}
use Rattle.board_layout.specs.Board.{Board}
use Rattle.board_layout.specs.Lookups.{held_in, slots_in}
use Rattle.board_layout.specs.Valid.{IsBoard}
use Rattle.board_layout.specs.jam_base.Slots.{numbered}
use Rattle.jam_records.specs.declared.message.Message.{Message}
use Rattle.jam_records.specs.declared.message.Slot.{Slot}
use Rattle.jam_records.specs.declared.message.Slot.TheVariants.{Gone, Held}
use Rattle.packet_verdicts.proofs.PostLists.{identified_more}
use Rattle.packet_verdicts.proofs.Spreading.{spread_slots}
use Rattle.post_changes.specs.Posted.{posts_in, spread}
use Rattle.cmd_messages.specs.Sample.{last_msgid}
use Rattle.post_changes.specs.slot_changes.Msgids.{all_identified, identified, msgid_in, or_else}

-- ---- slots
-- the msgid of the message that a slot holds, nothing where it holds none
abbrev msgid_held : Slot → List ℕ
msgid_held slot = unwrap_or (option_map (λ (m : Message). m.msgid) (held_in slot)) []

-- that of the last slot
abbrev msgid_last : List Slot → List ℕ
msgid_last slots = msgid_held (numbered slots (length slots))

last_slot : (slots : List Slot) (slot : Slot) → numbered (slots ++ slot ∷ []) (length (slots ++ slot ∷ [])) ≡ slot
last_slot slots slot =
    let whole : length (slots ++ slot ∷ []) ≡ length slots + 1 = omega (arith, length-append slots (slot ∷ [])) in
    let some : eqb (length (slots ++ slot ∷ [])) 0 ≡ false = ne_eqb (length (slots ++ slot ∷ [])) 0 (λ e. omega (arith, e, whole)) in
    let place : length (slots ++ slot ∷ []) - 1 - length slots ≡ 0 = omega (arith, whole) in
    cond-false (eqb (length (slots ++ slot ∷ [])) 0) Gone (get_or (slots ++ slot ∷ []) (length (slots ++ slot ∷ []) - 1) Gone) some
    ∙ (get_or-append_right slots (slot ∷ []) (length (slots ++ slot ∷ []) - 1) Gone (omega (arith, whole)) ∙ ap (λ n. get_or (slot ∷ []) n Gone) place)

-- ---- posts in a place
drafts_in : (place : ℕ) (posts : List (ℕ × Message)) → All (λ (p : ℕ × Message). p.1.msgid ≡ []) posts → All (λ (m : Message). m.msgid ≡ []) (posts_in place posts)
drafts_in place [] all = All-nil (λ (m : Message). m.msgid ≡ [])
drafts_in place (p ∷ posts) all =
    let others = drafts_in place posts (All-tail (λ (p : ℕ × Message). p.1.msgid ≡ []) p posts all) in
    elim (eqb p.0 place) as (λ t. All (λ (m : Message). m.msgid ≡ []) (map (λ (q : ℕ × Message). q.1) (cond t (p ∷ filter (λ (q : ℕ × Message). eqb q.0 place) posts) (filter (λ (q : ℕ × Message). eqb q.0 place) posts)))) [
      | true ↦ All-cons (λ (m : Message). m.msgid ≡ []) p.1 (posts_in place posts) (All-head (λ (p : ℕ × Message). p.1.msgid ≡ []) p posts all) others
      | false ↦ others
    ]

-- a list that isn't empty ends with an item
record Ends (messages : List Message) : Type 0 where
  front : List Message
  last : Message
  is : messages ≡ front ++ last ∷ []

ends_with : (messages : List Message) → 0 < length messages → Ends messages
ends_with [] some = absurd (omega (arith, some))
ends_with (m ∷ []) some = record { front = []; last = m; is = refl }
ends_with (m ∷ n ∷ messages) some =
    let rest = ends_with (n ∷ messages) (omega arith) in
    record { front = m ∷ rest.front; last = rest.last; is = ap (λ (ms : List Message). m ∷ ms) rest.is }

last_of_all : (P : Message → Type 0) (front : List Message) (m : Message) → All P (front ++ m ∷ []) → P m
last_of_all P [] m all = All-head P m [] all
last_of_all P (x ∷ front) m all = last_of_all P front m (All-tail P x (front ++ m ∷ []) all)

-- the last of messages with their msgids
last_identified : (slots : List Slot) (msgid : ℕ → List ℕ) (messages : List Message) → All (λ (m : Message). m.msgid ≡ []) messages → 0 < length messages
    → msgid_last (slots ++ map Held (all_identified msgid (length slots + 1) messages)) ≡ msgid (length slots + length messages)
last_identified slots msgid messages none some =
    let ends : Ends messages = ends_with messages some in
    let front : List Message = ends.front in
    let m : Message = ends.last in
    let first : ℕ = length slots + 1 in
    let one : Message = identified (msgid (first + length front)) m in
    let given : List Message = all_identified msgid first front in
    let number : first + length front ≡ length slots + length messages = omega (arith, ap length ends.is, length-append front (m ∷ [])) in
    let own : m.msgid ≡ [] = last_of_all (λ (x : Message). x.msgid ≡ []) front m (subst (All (λ (x : Message). x.msgid ≡ [])) ends.is none) in
    let whole : slots ++ map Held (all_identified msgid first messages) ≡ (slots ++ map Held given) ++ Held one ∷ [] =
    ap (λ (ms : List Message). slots ++ map Held (all_identified msgid first ms)) ends.is
    ∙ (ap (λ (ms : List Message). slots ++ map Held ms) (identified_more msgid first front m)
    ∙ (ap (λ (ss : List Slot). slots ++ ss) (map-append Held given (one ∷ [])) ∙ sym (append_assoc slots (map Held given) (Held one ∷ [])))) in
    ap msgid_last whole
    ∙ (ap msgid_held (last_slot (slots ++ map Held given) (Held one))
    ∙ (ap (λ (xs : List ℕ). or_else xs (msgid (first + length front))) own ∙ ap msgid number))

empty_is : (messages : List Message) → length messages ≡ 0 → messages ≡ []
empty_is [] none = refl
empty_is (m ∷ messages) none = absurd (omega (arith, none))

-- ---- the board
module _ (b : Board) (posts : List (ℕ × Message)) (place : ℕ) (ok : IsBoard b) (within : place < length b.ledger.setup.conferences) where
  pub last_kept : length (posts_in place posts) ≡ 0 → last_msgid place (spread posts b) ≡ last_msgid place b
  last_kept none =
      let slots : slots_in (spread posts b) place ≡ slots_in b place =
      spread_slots b posts place ok within
      ∙ (ap (λ (ms : List Message). slots_in b place ++ map Held (all_identified (msgid_in place b) (length (slots_in b place) + 1) ms)) (empty_is (posts_in place posts) none) ∙ append-nil (slots_in b place)) in
      ap msgid_last slots

  pub last_posted : All (λ (p : ℕ × Message). p.1.msgid ≡ []) posts → 0 < length (posts_in place posts) → last_msgid place (spread posts b) ≡ msgid_in place b (length (slots_in b place) + length (posts_in place posts))
  last_posted none some = ap msgid_last (spread_slots b posts place ok within) ∙ last_identified (slots_in b place) (msgid_in place b) (posts_in place posts) (drafts_in place posts none) some
