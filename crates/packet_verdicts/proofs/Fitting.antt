-- The drafts of a packet leave a board valid.
use Rattle.std.proofs.Common.{◌≡◌, ℕ, ◌+◌, ◌-◌, ◌≤◌, ◌<◌, true, false, cond, eqb, List, [], ◌∷◌, ◌++◌, length, get_or, refl, sym, ap, ◌∙◌, subst, inl, inr, arith, length-append}
use Rattle.std.specs.Prelude.{All, Option, Some, None, option_map, unwrap_or, slice_get, fold, IsSome, IsTrue}
use Rattle.std.proofs.lemmas.Bool.{cases_eq, ne_eqb}
use Rattle.std.proofs.lemmas.List.Elements.{All-cons, All-head, All-nil, All-push, All-tail}
use Rattle.std.proofs.lemmas.Option.{slice_get-get_or, same_Some}
use Rattle.post_changes.proofs.board_changes.OneBase.{all_at}
use Rattle.board_layout.specs.Board.{Board}
use Rattle.board_layout.specs.Layout.{board_size}
use Rattle.board_layout.specs.Lookups.{user_of, slots_in, message_at}
use Rattle.board_layout.specs.Valid.{IsBoard, board_limit}
use Rattle.board_ledger.specs.Uploads.{upload_size}
use Rattle.board_ledger.specs.Users.{IsUser}
use Rattle.board_ledger.specs.declared.user.User.{User}
use Rattle.setup_file.specs.Texts.{is_user_name}
use Rattle.setup_file.specs.declared.conference.Conference.{Conference as SetupConference}
use Rattle.board_layout.specs.jam_layout.Fields.{is_text}
use Rattle.board_layout.specs.jam_layout.Limits.{slot_limit}
use Rattle.board_layout.specs.jam_layout.Messages.{EmptyOr, IsMessage, IsTyped}
use Rattle.jam_records.specs.declared.message.Message.{Message}
use Rattle.netmail_rules.proofs.PostedDrafts.{posted_is_message, posted_has_room}
use Rattle.netmail_rules.specs.Fits.{IsView, HasShortTexts, with_msgid}
use Rattle.netmail_rules.specs.Rules.{new_bytes}
use Rattle.netmail_rules.specs.declared.verdict.Verdict.{Verdict}
use Rattle.netmail_rules.specs.declared.verdict.Verdict.TheVariants.{Post, Refused}
use Rattle.offered_packets.proofs.ShownMessages.{is_there}
use Rattle.offered_packets.specs.Sees.{sees}
use Rattle.qwk_blocks.specs.declared.message.QwkMessage.{QwkMessage}
use Rattle.packet_verdicts.specs.Judged.{judged, judged_next, posts_after}
use Rattle.post_changes.specs.Posted.{posts_in, spread}
use Rattle.packet_verdicts.specs.Typed.{IsTypedPost}
use Rattle.packet_verdicts.specs.declared.outcome.Outcome.{Outcome}
use Rattle.packet_verdicts.specs.Views.{conference_seen, conference_view, msgid_at, next_number, nobody, addressed_place, reply_at, reply_seen, room_of, user_with, verdict_on, view_of}
use Rattle.packet_verdicts.proofs.PostLists.{posts_hit, posts_miss}
use Rattle.packet_verdicts.proofs.Outcomes.{no_msgid}
use Rattle.packet_verdicts.proofs.Places.{place_same, place_within}
use Rattle.board_layout.proofs.BoardLookups.{few_in_place}
use Rattle.packet_verdicts.proofs.Spreading.{spread_count}
use Rattle.packet_verdicts.proofs.SpreadSizes.{draft_bytes, spread_grows}
use Rattle.packet_verdicts.proofs.Steps.{spread_none}
use Rattle.packet_verdicts.proofs.Validity.{AreFit, fit_board, no_conference}
use Rattle.post_changes.specs.slot_changes.Msgids.{IsMsgid, msgid_in, or_else}
use Rattle.post_changes.specs.slot_changes.Values.{MayHold}

-- ---- the view
named : (count : ℕ) (users : List User) (k : ℕ) (o : Option User) → All (IsUser count) users → slice_get users k ≡ o → IsSome o → IsTrue (is_user_name (unwrap_or o nobody).name)
named count users k None all e some = absurd (cc)
named count users k (Some u) all e some = (all_at (IsUser count) users k u e all).name

user_named : (b : Board) (id : ℕ) → IsBoard b → IsSome (user_of id b) → IsTrue (is_user_name (user_with id b).name)
user_named b id ok = elim (eqb id 0) as (λ t. IsSome (cond t None (slice_get b.ledger.users (id - 1))) → IsTrue (is_user_name (unwrap_or (cond t None (slice_get b.ledger.users (id - 1))) nobody).name)) [
  | true ↦ λ some. absurd (cc)
  | false ↦ λ some. named (length b.ledger.setup.conferences) b.ledger.users (id - 1) (slice_get b.ledger.users (id - 1)) ok.ledger.users refl some
]

message_reply : (b : Board) (place number : ℕ) (o : Option Message) → IsBoard b → message_at b place number ≡ o → EmptyOr (is_text 80) (unwrap_or (option_map (λ (m : Message). m.msgid) o) [])
message_reply b place number None ok e = inl refl
message_reply b place number (Some m) ok e = inr (is_there b place number m ok e).message.msgid

right_reply : (b : Board) (id place number : ℕ) → IsBoard b → EmptyOr (is_text 80) (reply_at b id place number)
unfolding reply_at
right_reply b id place number ok = elim (sees b id place number) as (λ t. EmptyOr (is_text 80) (cond t (msgid_at b place number) [])) [
  | true ↦ message_reply b place number (message_at b place number) ok refl
  | false ↦ inl refl
]

right_seen : (b : Board) (id : ℕ) (place reference : Option ℕ) → IsBoard b → EmptyOr (is_text 80) (reply_seen b id place reference)
right_seen b id None reference ok = inl refl
right_seen b id (Some place) None ok = inl refl
right_seen b id (Some place) (Some number) ok = right_reply b id place number ok

right_view : (b : Board) (id : ℕ) (m : QwkMessage) → IsBoard b → IsSome (user_of id b) → IsView (view_of b id m)
right_view b id m ok some = record { user = user_named b id ok some; sysop = ok.ledger.setup.sysop; reply = right_seen b id (addressed_place m.header.number b) m.header.reference ok }

-- ---- one post more
types_with : (d : Message) (msgid : List ℕ) → IsTyped d → IsMsgid msgid → IsTyped (with_msgid msgid d)
types_with d msgid types is = record {
  bytes = record {
    origin = types.bytes.origin;
    destination = types.bytes.destination;
    from = types.bytes.from;
    to = types.bytes.to;
    msgid = is.bytes;
    replyid = types.bytes.replyid;
    subject = types.bytes.subject;
    body = types.bytes.body;
  };
  written = types.written;
  received = types.received;
  processed = types.processed;
}

last_of_all : {A : Type 0} (P : A → Type 0) (xs : List A) (x : A) → All P (xs ++ x ∷ []) → P x
last_of_all P [] x all = All-head P x [] all
last_of_all P (y ∷ xs) x all = last_of_all P xs x (All-tail P y (xs ++ x ∷ []) all)

all_in_front : {A : Type 0} (P : A → Type 0) (xs ys : List A) → All P (xs ++ ys) → All P xs
all_in_front P [] ys all = All-nil P
all_in_front P (x ∷ xs) ys all = All-cons P x xs (All-head P x (xs ++ ys) all) (all_in_front P xs ys (All-tail P x (xs ++ ys) all))

posts_before : (P : ℕ × Message → Type 0) (place : Option ℕ) (w : Verdict) (posts : List (ℕ × Message)) → All P (posts_after place w posts) → All P posts
posts_before P None (Post d) posts all = all
posts_before P None (Refused r) posts all = all
posts_before P (Some place) (Refused r) posts all = all
posts_before P (Some place) (Post d) posts all = all_in_front P posts ((place, d) ∷ []) all

module _ (b : Board) (id now : ℕ) (ok : IsBoard b) where
  -- an upload record has room behind the posts
  HasRoom : List (ℕ × Message) → Type 0
  HasRoom posts = board_size (spread posts b) + upload_size ≤ board_limit

  module _ (posts : List (ℕ × Message)) (m : QwkMessage) where
    -- the conference that the rules see
    seen : (place : ℕ) (c : SetupConference) → slice_get b.ledger.setup.conferences place ≡ Some c → addressed_place m.header.number b ≡ Some place
        → (view_of (spread posts b) id m).conference ≡ Some (conference_view (spread posts b) (user_with id b) place c)
    seen place c is here =
        ap (conference_seen (spread posts b) (user_with id b)) (place_same m.header.number b posts ∙ here) ∙ ap (option_map (conference_view (spread posts b) (user_with id b) place)) is

    -- what a posted draft leaves
    left : (place : ℕ) (c : SetupConference) (d : Message) → slice_get b.ledger.setup.conferences place ≡ Some c → addressed_place m.header.number b ≡ Some place → verdict_on (spread posts b) id m now ≡ Post d
        → (length (slots_in (spread posts b) place) < slot_limit) × (new_bytes d (length (msgid_in place b (next_number (spread posts b) place))) ≤ room_of (spread posts b))
    left place c d is here posted = posted_has_room (view_of (spread posts b) id m) (conference_view (spread posts b) (user_with id b) place c) m now d (seen place c is here) posted

    room_stays : (o : Option ℕ) (w : Verdict) → addressed_place m.header.number b ≡ o → verdict_on (spread posts b) id m now ≡ w → HasRoom posts → HasRoom (posts_after o w posts)
    unfolding HasRoom
    room_stays None (Post d) here posted room = room
    room_stays None (Refused r) here posted room = room
    room_stays (Some place) (Refused r) here posted room = room
    room_stays (Some place) (Post d) here posted room =
        let conferences : List SetupConference = b.ledger.setup.conferences in
        let within : place < length conferences = place_within m.header.number b place here in
        let is : slice_get conferences place ≡ Some (get_or conferences place no_conference) = slice_get-get_or conferences place no_conference within in
        let none : d.msgid ≡ [] = no_msgid (view_of (spread posts b) id m) m now d (sym posted) in
        omega (arith, (left place (get_or conferences place no_conference) d is here posted).1, room, spread_grows b posts place d ok within, draft_bytes d (msgid_in place b (next_number (spread posts b) place)) none)

    module _ (there : IsSome (user_of id b)) (fit : AreFit b posts) (room : HasRoom posts) (short : HasShortTexts m.header) where
      valid : IsBoard (spread posts b)
      unfolding HasRoom
      valid = fit_board b posts ok fit (omega (arith, room))

      may : (place : ℕ) (c : SetupConference) (d : Message) → slice_get b.ledger.setup.conferences place ≡ Some c → addressed_place m.header.number b ≡ Some place → verdict_on (spread posts b) id m now ≡ Post d → IsTyped d → MayHold c.kind d
      may place c d is here posted types msgid id_is =
          let none : d.msgid ≡ [] = no_msgid (view_of (spread posts b) id m) m now d (sym posted) in
          let own : msgid ≡ or_else d.msgid msgid = sym (ap (λ (xs : List ℕ). or_else xs msgid) none) in
          subst (λ (xs : List ℕ). IsMessage c.kind (record d { msgid = xs })) own
          (posted_is_message (view_of (spread posts b) id m) (conference_view (spread posts b) (user_with id b) place c) m now d msgid (seen place c is here) (right_view (spread posts b) id m valid there) short posted id_is.text (types_with d msgid types id_is))

      more_held : (place : ℕ) (c : SetupConference) (d : Message) → slice_get b.ledger.setup.conferences place ≡ Some c → MayHold c.kind d
          → (k : ℕ) (s : SetupConference) → slice_get b.ledger.setup.conferences k ≡ Some s → All (MayHold s.kind) (posts_in k (posts ++ (place, d) ∷ []))
      more_held place c d is holds k s here = elim (cases_eq place k) [
        | inl same ↦
            let alike : c ≡ s = same_Some c s (sym is ∙ (ap (slice_get b.ledger.setup.conferences) same ∙ here)) in
            let one : MayHold s.kind d = subst (λ (x : SetupConference). MayHold x.kind d) alike holds in
            subst (λ (j : ℕ). All (MayHold s.kind) (posts_in k (posts ++ (j, d) ∷ []))) (sym same)
            (subst (All (MayHold s.kind)) (sym (posts_hit k posts d)) (All-push (MayHold s.kind) (posts_in k posts) d (fit.held k s here) one))
        | inr other ↦ subst (All (MayHold s.kind)) (sym (posts_miss k place posts d (ne_eqb place k other))) (fit.held k s here)
      ]

      more_few : (place : ℕ) (d : Message) → length (slots_in (spread posts b) place) < slot_limit → (k : ℕ) → k < length b.ledger.setup.conferences → length (slots_in b k) + length (posts_in k (posts ++ (place, d) ∷ [])) ≤ slot_limit
      more_few place d low k within = elim (cases_eq place k) [
        | inl same ↦
            let slots : length (slots_in b k) + length (posts_in k posts) < slot_limit = omega (arith, spread_count b posts k ok within, low, ap (λ (j : ℕ). length (slots_in (spread posts b) j)) same) in
            let count = ap length (posts_hit k posts d) in
            let alike = ap (λ (j : ℕ). length (posts_in k (posts ++ (j, d) ∷ []))) same in
            omega (arith, slots, count, alike, length-append (posts_in k posts) (d ∷ []))
        | inr other ↦ omega (arith, ap length (posts_miss k place posts d (ne_eqb place k other)), fit.few k within)
      ]

      fit_stays : (o : Option ℕ) (w : Verdict) → addressed_place m.header.number b ≡ o → verdict_on (spread posts b) id m now ≡ w → All IsTypedPost (posts_after o w posts) → AreFit b (posts_after o w posts)
      fit_stays None (Post d) here posted types = fit
      fit_stays None (Refused r) here posted types = fit
      fit_stays (Some place) (Refused r) here posted types = fit
      fit_stays (Some place) (Post d) here posted types =
          let conferences : List SetupConference = b.ledger.setup.conferences in
          let c : SetupConference = get_or conferences place no_conference in
          let is : slice_get conferences place ≡ Some c = slice_get-get_or conferences place no_conference (place_within m.header.number b place here) in
          record {
            held = more_held place c d is (may place c d is here posted (last_of_all IsTypedPost posts (place, d) types));
            few = more_few place d (left place c d is here posted).0;
          }

  -- ---- all messages
  after : List Outcome × List (ℕ × Message) → List QwkMessage → List Outcome × List (ℕ × Message)
  after so_far messages = fold (judged_next b id now) so_far messages

  room_after_all : (so_far : List Outcome × List (ℕ × Message)) (messages : List QwkMessage) → HasRoom so_far.1 → HasRoom (after so_far messages).1
  unfolding after
  room_after_all so_far [] room = room
  room_after_all so_far (m ∷ messages) room =
      room_after_all (judged_next b id now so_far m) messages (room_stays so_far.1 m (addressed_place m.header.number b) (verdict_on (spread so_far.1 b) id m now) refl refl room)

  typed_before : (so_far : List Outcome × List (ℕ × Message)) (messages : List QwkMessage) → All IsTypedPost (after so_far messages).1 → All IsTypedPost so_far.1
  unfolding after
  typed_before so_far [] all = all
  typed_before so_far (m ∷ messages) all =
      posts_before IsTypedPost (addressed_place m.header.number b) (verdict_on (spread so_far.1 b) id m now) so_far.1 (typed_before (judged_next b id now so_far m) messages all)

  fit_after_all : (so_far : List Outcome × List (ℕ × Message)) (messages : List QwkMessage) → IsSome (user_of id b) → AreFit b so_far.1 → HasRoom so_far.1 → All (λ m. HasShortTexts m.header) messages → All IsTypedPost (after so_far messages).1
      → AreFit b (after so_far messages).1
  unfolding after
  fit_after_all so_far [] there fit room short types = fit
  fit_after_all so_far (m ∷ messages) there fit room short types =
      let place : Option ℕ = addressed_place m.header.number b in
      let w : Verdict = verdict_on (spread so_far.1 b) id m now in
      let next : List Outcome × List (ℕ × Message) = judged_next b id now so_far m in
      let one : HasShortTexts m.header = All-head (λ (m : QwkMessage). HasShortTexts m.header) m messages short in
      fit_after_all next messages there (fit_stays so_far.1 m there fit room one place w refl refl (typed_before next messages types)) (room_stays so_far.1 m place w refl refl room)
      (All-tail (λ (m : QwkMessage). HasShortTexts m.header) m messages short) types

  -- ---- before the first message
  none_fit : AreFit b []
  none_fit = record {
    held = λ place c is. All-nil (MayHold c.kind);
    few = λ place within. let least : length (slots_in b place) ≤ slot_limit = few_in_place b place ok in omega (arith, least);
  }

  no_post_room : board_size b + upload_size ≤ board_limit → HasRoom []
  unfolding HasRoom
  no_post_room room = omega (arith, room, ap board_size (spread_none b ok))

-- ---- the laws
pub room_is_left : (b : Board) (user now : ℕ) (messages : List QwkMessage) → IsBoard b → board_size b + upload_size ≤ board_limit → board_size (spread (judged b user now messages).1 b) + upload_size ≤ board_limit
unfolding judged after HasRoom
room_is_left b user now messages ok room = room_after_all b user now ok ([], []) messages (no_post_room b user now ok room)

pub board_stays : (b : Board) (user now : ℕ) (messages : List QwkMessage) → IsBoard b → IsSome (user_of user b) → board_size b + upload_size ≤ board_limit → All (λ m. HasShortTexts m.header) messages → All IsTypedPost (judged b user now messages).1
    → IsBoard (spread (judged b user now messages).1 b)
unfolding judged after HasRoom
board_stays b user now messages ok there room short types =
    let left = room_is_left b user now messages ok room in
    fit_board b (judged b user now messages).1 ok (fit_after_all b user now ok ([], []) messages there (none_fit b user now ok) (no_post_room b user now ok room) short types) (omega (arith, left))
