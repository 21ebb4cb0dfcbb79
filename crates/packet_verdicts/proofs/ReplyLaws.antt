-- The msgid of the message that an uploaded one refers to, on a board with posts.
use Rattle.std.proofs.Common.{◌≡◌, ◌≢◌, ℕ, zero, suc, ◌+◌, ◌-◌, ◌≤◌, ◌<◌, Bool, true, false, not, cond, eqb, ◌&&◌, List, [], ◌∷◌, ◌++◌, length, map, get_or, refl, sym, ap, ◌∙◌, inl, inr, arith}
use Rattle.std.specs.Prelude.{IsSome, Option, Some, None, option_map, unwrap_or, slice_get}
use Rattle.std.proofs.lemmas.Bool.{cases_eq, cond-true, cond-false, eq-eqb, ne_eqb}
use Rattle.std.proofs.lemmas.List.{get_or_append_left, get_or-append_right}
use Rattle.std.proofs.lemmas.Option.{none-some}
use Rattle.board_layout.specs.Board.{Board}
use Rattle.board_layout.specs.Lookups.{user_of, held_in, slots_in}
use Rattle.board_layout.specs.Valid.{IsBoard}
use Rattle.board_ledger.specs.declared.ledger.Ledger.{Ledger}
use Rattle.board_ledger.specs.declared.user.User.{User}
use Rattle.board_layout.specs.jam_base.Slots.{numbered}
use Rattle.board_layout.specs.jam_layout.Conference.{is_live}
use Rattle.board_layout.specs.jam_layout.Outlines.{slot_bare}
use Rattle.jam_records.specs.declared.message.Message.{Message}
use Rattle.jam_records.specs.declared.message.Slot.{Slot}
use Rattle.jam_records.specs.declared.message.Slot.TheVariants.{Gone, Held}
use Rattle.offered_packets.specs.Sees.{is_allowed, may_see, sees}
use Rattle.post_changes.specs.Posted.{posts_in, spread}
use Rattle.packet_verdicts.specs.Views.{msgid_at, nobody, reply_at, user_with}
use Rattle.packet_verdicts.proofs.Spreading.{spread_slots}
use Rattle.post_changes.specs.slot_changes.Msgids.{all_identified, identified, msgid_in, or_else}

-- ---- slots
numbered_is : (slots : List Slot) (number : ℕ) → number ≢ 0 → numbered slots number ≡ get_or slots (number - 1) Gone
numbered_is slots number some = cond-false (eqb number 0) Gone (get_or slots (number - 1) Gone) (ne_eqb number 0 some)

numbered_none : (slots : List Slot) (number : ℕ) → number ≡ 0 → numbered slots number ≡ Gone
numbered_none slots number none = cond-true (eqb number 0) Gone (get_or slots (number - 1) Gone) (eq-eqb number 0 none)

numbered_kept : (slots more : List Slot) (number : ℕ) → number ≤ length slots → numbered (slots ++ more) number ≡ numbered slots number
numbered_kept slots more number within = elim (cases_eq number 0) [
  | inl none ↦ numbered_none (slots ++ more) number none ∙ sym (numbered_none slots number none)
  | inr some ↦ numbered_is (slots ++ more) number some ∙ (get_or_append_left slots more Gone (number - 1) (omega (arith, some, within)) ∙ sym (numbered_is slots number some))
]

numbered_more : (slots more : List Slot) (number : ℕ) → length slots < number → numbered (slots ++ more) number ≡ get_or more (number - length slots - 1) Gone
numbered_more slots more number high =
    let same : number - 1 - length slots ≡ number - length slots - 1 = omega arith in
    numbered_is (slots ++ more) number (λ e. omega (arith, e, high))
    ∙ (get_or-append_right slots more (length slots) (number - 1) Gone refl (omega (arith, high)) ∙ ap (λ (k : ℕ). get_or more k Gone) same)

-- what a slot gives as the reply of a user
reply_from : Ledger → ℕ → Option User → Slot → List ℕ
reply_from l place u s = cond (is_live s && is_allowed l place u (held_in s)) (unwrap_or (option_map (λ (m : Message). m.msgid) (held_in s)) []) []

reply_by_slot : (b : Board) (id place number : ℕ) → reply_at b id place number ≡ reply_from b.ledger place (user_of id b) (numbered (slots_in b place) number)
unfolding reply_at sees reply_from
reply_by_slot b id place number = refl

-- ---- a message of the board
pub reply_kept : (b : Board) (posts : List (ℕ × Message)) (id place number : ℕ) → IsBoard b → place < length b.ledger.setup.conferences → number ≤ length (slots_in b place) → reply_at b id place number ≡ reply_at (spread posts b) id place number
reply_kept b posts id place number ok within low =
    let given : List Message = all_identified (msgid_in place b) (length (slots_in b place) + 1) (posts_in place posts) in
    let slots : numbered (slots_in (spread posts b) place) number ≡ numbered (slots_in b place) number =
    ap (λ (ss : List Slot). numbered ss number) (spread_slots b posts place ok within) ∙ numbered_kept (slots_in b place) (map Held given) number low in
    reply_by_slot b id place number ∙ (ap (reply_from b.ledger place (user_of id b)) (sym slots) ∙ sym (reply_by_slot (spread posts b) id place number))

-- what is answered where the user doesn't see it, and where he does
pub reply_unseen : (b : Board) (id place number : ℕ) → sees b id place number ≡ false → [] ≡ reply_at b id place number
unfolding reply_at
reply_unseen b id place number ne = sym (ap (λ (t : Bool). cond t (msgid_at b place number) []) ne)

-- a message has its msgid without its body
bare_msgid : (s : Slot) → unwrap_or (option_map (λ (m : Message). m.msgid) (held_in (slot_bare s))) [] ≡ unwrap_or (option_map (λ (m : Message). m.msgid) (held_in s)) []
bare_msgid Gone = refl
bare_msgid (Held m) = refl

pub reply_is : (b : Board) (id place number : ℕ) (o : Option Message) → sees b id place number ≡ true → o ≡ held_in (slot_bare (numbered (slots_in b place) number)) → unwrap_or (option_map (λ (m : Message). m.msgid) o) [] ≡ reply_at b id place number
unfolding reply_at
reply_is b id place number o sure found =
    ap (λ (p : Option Message). unwrap_or (option_map (λ (m : Message). m.msgid) p) []) found
    ∙ (bare_msgid (numbered (slots_in b place) number) ∙ sym (ap (λ (t : Bool). cond t (msgid_at b place number) []) sure))

-- ---- a draft
pub identified_at : (msgid : ℕ → List ℕ) (n k : ℕ) (messages : List Message) (m : Message) → slice_get messages k ≡ Some m → slice_get (all_identified msgid n messages) k ≡ Some (identified (msgid (n + k)) m)
identified_at msgid n k [] m e = absurd (none-some m e)
identified_at msgid n zero (x ∷ messages) m e = let same : n ≡ n + zero = omega arith in ap (option_map (identified (msgid n))) e ∙ ap (λ (i : ℕ). Some (identified (msgid i) m)) same
identified_at msgid n (suc k) (x ∷ messages) m e = let same : n + 1 + k ≡ n + suc k = omega arith in identified_at msgid (n + 1) k messages m e ∙ ap (λ (i : ℕ). Some (identified (msgid i) m)) same

identified_past : (msgid : ℕ → List ℕ) (n k : ℕ) (messages : List Message) → slice_get messages k ≡ None → slice_get (all_identified msgid n messages) k ≡ None
identified_past msgid n k [] e = refl
identified_past msgid n zero (x ∷ messages) e = absurd (none-some x (sym e))
identified_past msgid n (suc k) (x ∷ messages) e = identified_past msgid (n + 1) k messages e

pub some_user : (o : Option User) → IsSome o → o ≡ Some (unwrap_or o nobody)
some_user None there = absurd (cc)
some_user (Some u) there = refl

-- a slot that a list of messages has, or Gone
slot_in : Option Message → Slot
slot_in None = Gone
slot_in (Some m) = Held m

slot_of : (messages : List Message) (k : ℕ) → get_or (map Held messages) k Gone ≡ slot_in (slice_get messages k)
unfolding slot_in
slot_of [] k = refl
slot_of (m ∷ messages) zero = refl
slot_of (m ∷ messages) (suc k) = slot_of messages k

module _ (b : Board) (posts : List (ℕ × Message)) (id place number : ℕ) (ok : IsBoard b) (within : place < length b.ledger.setup.conferences) (high : length (slots_in b place) < number) where
  behind : ℕ
  behind = number - length (slots_in b place) - 1

  given : List Message
  given = all_identified (msgid_in place b) (length (slots_in b place) + 1) (posts_in place posts)

  reply_behind : reply_at (spread posts b) id place number ≡ reply_from b.ledger place (user_of id b) (slot_in (slice_get given behind))
  unfolding behind given
  reply_behind =
      reply_by_slot (spread posts b) id place number
      ∙ ap (reply_from b.ledger place (user_of id b))
      (ap (λ (ss : List Slot). numbered ss number) (spread_slots b posts place ok within)
      ∙ (numbered_more (slots_in b place) (map Held given) number high ∙ slot_of given (number - length (slots_in b place) - 1)))

  pub reply_none : slice_get (posts_in place posts) (number - length (slots_in b place) - 1) ≡ None → [] ≡ reply_at (spread posts b) id place number
  unfolding behind given slot_in reply_from
  reply_none none =
      sym (reply_behind ∙ ap (λ (o : Option Message). reply_from b.ledger place (user_of id b) (slot_in o)) (identified_past (msgid_in place b) (length (slots_in b place) + 1) (number - length (slots_in b place) - 1) (posts_in place posts) none))

  pub reply_draft : (d : Message) → slice_get (posts_in place posts) (number - length (slots_in b place) - 1) ≡ Some d → d.msgid ≡ [] → IsSome (user_of id b)
      → cond (not d.deleted && may_see b.ledger place (user_with id b) d) (msgid_in place b number) [] ≡ reply_at (spread posts b) id place number
  unfolding behind given slot_in reply_from
  reply_draft d here none there =
      let u : User = user_with id b in
      let user : user_of id b ≡ Some u = some_user (user_of id b) there in
      let k : ℕ = number - length (slots_in b place) - 1 in
      let same : length (slots_in b place) + 1 + k ≡ number = omega (arith, high) in
      let held : slice_get given k ≡ Some (identified (msgid_in place b number) d) = identified_at (msgid_in place b) (length (slots_in b place) + 1) k (posts_in place posts) d here ∙ ap (λ (i : ℕ). Some (identified (msgid_in place b i) d)) same in
      let own : or_else d.msgid (msgid_in place b number) ≡ msgid_in place b number = ap (λ (xs : List ℕ). or_else xs (msgid_in place b number)) none in
      sym (reply_behind ∙ (ap (λ (o : Option Message). reply_from b.ledger place (user_of id b) (slot_in o)) held
      ∙ (ap (λ (o : Option User). reply_from b.ledger place o (Held (identified (msgid_in place b number) d))) user
      ∙ ap (λ (xs : List ℕ). cond (not d.deleted && may_see b.ledger place u d) xs []) own)))
