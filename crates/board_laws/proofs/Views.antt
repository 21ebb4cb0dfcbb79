-- What a user may see of a board, and of the board after a change.
use Rattle.std.proofs.Common.{◌≡◌, ℕ, zero, suc, ◌-◌, ◌<◌, ◌≤◌, Bool, true, false, cond, not, ◌&&◌, ◌||◌, eqb, List, [], ◌∷◌, length, get_or, Option, Some, None, refl, sym, ap, ◌∙◌, subst, inl, inr, arith}
use Rattle.std.specs.Prelude.{option_map, slice_get, unwrap_or}
use Rattle.std.specs.Int.{bit_at}
use Rattle.std.specs.List.{AllZip}
use Rattle.std.specs.Str.{str_eq_ignore_ascii_case}
use Rattle.std.proofs.lemmas.Bool.{and_from, and_parts, cases_eq, eq-eqb, ne_eqb, false≢true}
use Rattle.std.proofs.lemmas.Option.{none-some, same_Some}
use Rattle.board_layout.specs.Board.{Board, conferences_in}
use Rattle.board_layout.specs.Lookups.{held_in, user_of, slots_in, message_at}
use Rattle.board_layout.specs.Renewed.{contents_of}
use Rattle.board_laws.proofs.Bases.{BaseGrows}
use Rattle.board_laws.proofs.Grown.{IsWhole, conferences_are}
use Rattle.board_laws.proofs.Slots.{MessageFollows, SlotFollows, SlotsFollow, live_within, slot_at}
use Rattle.board_laws.proofs.Users.{IsSameUser, UserFollows}
use Rattle.board_ledger.specs.declared.ledger.Ledger.{Ledger}
use Rattle.board_ledger.specs.declared.user.User.{User}
use Rattle.jam_base.specs.Contents.{Contents}
use Rattle.jam_base.specs.Slots.{has_live, numbered}
use Rattle.jam_layout.specs.Conference.{is_live}
use Rattle.jam_layout.specs.declared.conference.ConferenceContents.{ConferenceContents}
use Rattle.jam_records.specs.declared.message.Message.{Message}
use Rattle.jam_records.specs.declared.message.Slot.{Slot}
use Rattle.jam_records.specs.declared.message.Slot.TheVariants.{Gone, Held}
use Rattle.offered_packets.specs.Sees.{is_allowed, may_see, sees}

-- ---- the slots of a place
abbrev slots_at : List ConferenceContents → ℕ → List Slot
slots_at conferences place = unwrap_or (option_map (λ (c : ConferenceContents). c.slots) (slice_get conferences place)) []

follow_at : (xs ys : List Contents) (place : ℕ) → AllZip BaseGrows xs ys → SlotsFollow (slots_at (conferences_in xs) place) (slots_at (conferences_in ys) place)
follow_at [] [] place zip = tt
follow_at [] (y ∷ ys) place zip = absurd zip
follow_at (x ∷ xs) [] place zip = absurd zip
follow_at (x ∷ xs) (y ∷ ys) zero zip = let grown = zip.0 in grown.slots
follow_at (x ∷ xs) (y ∷ ys) (suc place) zip = follow_at xs ys place zip.1

pub slots_follow : (b c : Board) → IsWhole b → IsWhole c → AllZip BaseGrows (contents_of b) (contents_of c) → (place : ℕ) → SlotsFollow (slots_in b place) (slots_in c place)
slots_follow b c was is zip place =
    subst (λ (cs : List ConferenceContents). SlotsFollow (slots_at cs place) (slots_in c place)) (conferences_are b was)
    (subst (λ (cs : List ConferenceContents). SlotsFollow (slots_at (conferences_in (contents_of b)) place) (slots_at cs place)) (conferences_are c is) (follow_at (contents_of b) (contents_of c) place zip))

-- ---- the message of a number
numbered_follow : (xs ys : List Slot) (n : ℕ) → SlotsFollow xs ys → n ≤ length xs → SlotFollows (numbered xs n) (numbered ys n)
numbered_follow xs ys n follow within = elim (cases_eq n 0) [
  | inl none ↦
      let test : eqb n 0 ≡ true = eq-eqb n 0 none in
      subst (λ (t : Bool). SlotFollows (cond t Gone (get_or xs (n - 1) Gone)) (cond t Gone (get_or ys (n - 1) Gone))) (sym test) refl
  | inr some ↦
      let test : eqb n 0 ≡ false = ne_eqb n 0 some in
      subst (λ (t : Bool). SlotFollows (cond t Gone (get_or xs (n - 1) Gone)) (cond t Gone (get_or ys (n - 1) Gone))) (sym test) (slot_at xs ys (n - 1) follow (omega (arith, some, within)))
]

live_back : (s t : Slot) (n : Message) → SlotFollows s t → held_in t ≡ Some n → is_live t ≡ true → (m : Message) × (held_in s ≡ Some m) × MessageFollows m n × (is_live s ≡ true)
live_back Gone t n follows held live = absurd (none-some n (sym (ap held_in follows) ∙ held))
live_back (Held m) Gone n follows held live = absurd (false≢true live)
live_back (Held m) (Held k) n follows held live = (m, refl, subst (MessageFollows m) (same_Some k n held) follows, by m.deleted refl)
  where
    by : (d : Bool) → m.deleted ≡ d → not d ≡ true
    by true is = absurd (false≢true (sym (ap not (follows.deleted is)) ∙ live))
    by false is = refl

pub still_live : (s t : Slot) → SlotFollows s t → is_live t ≡ true → is_live s ≡ true
still_live Gone t follows live = absurd (false≢true (sym (ap is_live follows) ∙ live))
still_live (Held m) Gone follows live = absurd (false≢true live)
still_live (Held m) (Held n) follows live = (live_back (Held m) (Held n) n follows refl live).3

-- ---- who may see it
same_sight : (l k : Ledger) (place : ℕ) (u v : User) (m n : Message) → k.setup ≡ l.setup → IsSameUser u v → MessageFollows m n → may_see k place v n ≡ may_see l place u m
same_sight l k place u v m n setup alike follows = λ i.
    eqb (bit_at (alike.members i) place) 1
    && ((not (follows.private i) || (str_eq_ignore_ascii_case (follows.to i) (alike.name i) || str_eq_ignore_ascii_case (follows.from i) (alike.name i)))
    || str_eq_ignore_ascii_case (alike.name i) (setup i).sysop)

module _ (l k : Ledger) (place : ℕ) (setup : k.setup ≡ l.setup) where
  sight_on : (o p : Option User) (s t : Slot) → UserFollows o p → SlotFollows s t → is_live t ≡ true → is_allowed l place o (held_in s) ≡ true → is_allowed k place p (held_in t) ≡ true
  sight_on None p s t users slots live may = absurd (false≢true may)
  sight_on (Some u) None s t users slots live may = absurd users
  sight_on (Some u) (Some v) Gone t users slots live may = absurd (false≢true may)
  sight_on (Some u) (Some v) (Held m) Gone users slots live may = absurd (false≢true live)
  sight_on (Some u) (Some v) (Held m) (Held n) users slots live may = same_sight l k place u v m n setup users slots ∙ may

  sight_back : (o p : Option User) (u : User) (s t : Slot) → o ≡ Some u → UserFollows o p → SlotFollows s t → is_live t ≡ true → is_allowed k place p (held_in t) ≡ true → (is_live s ≡ true) × (is_allowed l place o (held_in s) ≡ true)
  sight_back None p u s t there users slots live may = absurd (none-some u there)
  sight_back (Some w) None u s t there users slots live may = absurd users
  sight_back (Some w) (Some v) u s Gone there users slots live may = absurd (false≢true may)
  sight_back (Some w) (Some v) u Gone (Held n) there users slots live may = absurd (cc slots)
  sight_back (Some w) (Some v) u (Held m) (Held n) there users slots live may = ((live_back (Held m) (Held n) n slots refl live).3, sym (same_sight l k place w v m n setup users slots) ∙ may)

-- ---- one board and a later one
module _ (b c : Board) (id : ℕ) (setup : c.ledger.setup ≡ b.ledger.setup) (users : UserFollows (user_of id b) (user_of id c)) (place : ℕ) (slots : SlotsFollow (slots_in b place) (slots_in c place)) (number : ℕ) where
  -- a message that is live was so, where its slot was there
  pub live_on : number ≤ length (slots_in b place) → has_live number (slots_in c place) ≡ true → has_live number (slots_in b place) ≡ true
  live_on within live = still_live (numbered (slots_in b place) number) (numbered (slots_in c place) number) (numbered_follow (slots_in b place) (slots_in c place) number slots within) live

  -- and one that he might see he may see, while it is live
  pub allowed_on : number ≤ length (slots_in b place) → has_live number (slots_in c place) ≡ true → is_allowed b.ledger place (user_of id b) (message_at b place number) ≡ true
      → is_allowed c.ledger place (user_of id c) (message_at c place number) ≡ true
  allowed_on within live may =
      sight_on b.ledger c.ledger place setup (user_of id b) (user_of id c) (numbered (slots_in b place) number) (numbered (slots_in c place) number) users (numbered_follow (slots_in b place) (slots_in c place) number slots within) live may

  -- what he sees he saw, where its slot was there and he was
  pub sees_back : (u : User) → user_of id b ≡ Some u → number ≤ length (slots_in b place) → sees c id place number ≡ true → sees b id place number ≡ true
  unfolding sees
  sees_back u there within seen =
      let parts = and_parts (has_live number (slots_in c place)) (is_allowed c.ledger place (user_of id c) (message_at c place number)) seen in
      let was = sight_back b.ledger c.ledger place setup (user_of id b) (user_of id c) u (numbered (slots_in b place) number) (numbered (slots_in c place) number) there users
      (numbered_follow (slots_in b place) (slots_in c place) number slots within) parts.0 parts.1 in
      and_from (has_live number (slots_in b place)) (is_allowed b.ledger place (user_of id b) (message_at b place number)) was.0 was.1

-- ---- what is seen is there
module _ (b : Board) (id place number : ℕ) (seen : sees b id place number ≡ true) where
  pub seen_within : (0 < number) × (number ≤ length (slots_in b place))
  unfolding sees
  seen_within = live_within number (slots_in b place) (and_parts (has_live number (slots_in b place)) (is_allowed b.ledger place (user_of id b) (message_at b place number)) seen).0

  pub seen_user : (u : User) × (user_of id b ≡ Some u)
  unfolding sees
  seen_user = by (user_of id b) (and_parts (has_live number (slots_in b place)) (is_allowed b.ledger place (user_of id b) (message_at b place number)) seen).1
    where
      by : (o : Option User) → is_allowed b.ledger place o (message_at b place number) ≡ true → (u : User) × (o ≡ Some u)
      by None may = absurd (false≢true may)
      by (Some u) may = (u, refl)
