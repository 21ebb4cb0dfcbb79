-- A change that posts messages makes as many slots more, so that its bound is that of the slots.
use Rattle.std.proofs.Common.{◌≡◌, inl, inr, ℕ, zero, suc, ◌+◌, ◌-◌, ◌<◌, ◌≤◌, List, [], ◌∷◌, length, refl, sym, ap, ◌∙◌, subst, arith}
use Rattle.std.specs.Prelude.{All, Some, sum_by}
use Rattle.std.proofs.lemmas.Bool.{cases_eq}
use Rattle.std.proofs.lemmas.List.{get_or-map, length-map, map-set}
use Rattle.std.proofs.lemmas.List.Elements.{All-head, All-tail}
use Rattle.std.proofs.lemmas.List.Sums.{sum_by-cons, sum_by-set}
use Rattle.std.proofs.lemmas.Option.{get_or_from_slice_get, slice_get_cases}
use Rattle.post_changes.proofs.board_changes.OneBase.{conferences_back}
use Rattle.post_changes.specs.board_changes.Changed.{base_at}
use Rattle.board_layout.specs.Board.{Board, conferences_in, shapes_of}
use Rattle.board_layout.specs.Renewed.{contents_of}
use Rattle.board_layout.specs.Valid.{IsBoard}
use Rattle.board_ledger.specs.declared.ledger.Ledger.{Ledger}
use Rattle.board_layout.specs.jam_base.Contents.{Contents, with_messages}
use Rattle.jam_layout.specs.declared.conference.ConferenceContents.{ConferenceContents}
use Rattle.jam_records.specs.declared.message.Message.{Message}
use Rattle.post_changes.proofs.PlacePosts.{elsewhere, here, posted_slots}
use Rattle.post_changes.specs.Posted.{ArePlaced, all_posted, posted_in, posted_with, posts_in, upload_record, with_record}
use Rattle.post_changes.proofs.slot_changes.AppendLaws.{appended_there, more_slots}
use Rattle.post_changes.proofs.slot_changes.MsgidLaws.{identified_count}
use Rattle.post_changes.specs.slot_changes.Changed.{appended}
use Rattle.post_changes.specs.slot_changes.Msgids.{all_identified, msgid_in}
use Rattle.mail_board.specs.Changes.{changed, Fits}
use Rattle.mail_board.specs.Written.{IsPosting, KeepsBound, KeepsBoundOf, WritesFew, growth, slot_total}
use Rattle.mail_board.specs.declared.change.Change.{Change}
use Rattle.mail_board.specs.declared.change.Change.TheVariants.{Enroll, Append, Spread, Kill, Offer, Acknowledge, Upload}

-- ---- posts by place
-- how many posts are in so many places from one on
posts_from : ℕ → List (ℕ × Message) → ℕ → ℕ
posts_from place posts zero = 0
posts_from place posts (suc count) = length (posts_in place posts) + posts_from (place + 1) posts count

module _ (post : ℕ × Message) (posts : List (ℕ × Message)) where
  -- a post in an earlier place
  passed_by : (place count : ℕ) → post.0 < place → posts_from place (post ∷ posts) count ≡ posts_from place posts count
  unfolding posts_from
  passed_by place zero before = refl
  passed_by place (suc count) before =
      omega (arith, ap (length {A = Message}) (elsewhere place post posts (λ is. omega (arith, is, before))), passed_by (place + 1) count (omega (arith, before)))

  -- a post in one of them
  one_more : (place count : ℕ) → place ≤ post.0 → post.0 < place + count → posts_from place (post ∷ posts) count ≡ posts_from place posts count + 1
  unfolding posts_from
  one_more place zero from within = absurd (omega (arith, from, within))
  one_more place (suc count) from within = elim (cases_eq post.0 place) [
    | inl is ↦ omega (arith, ap (length {A = Message}) (here place post posts is), passed_by (place + 1) count (omega (arith, is)))
    | inr away ↦ omega (arith, ap (length {A = Message}) (elsewhere place post posts away), one_more (place + 1) count (omega (arith, from, away)) (omega (arith, within)))
  ]

none_from : (place count : ℕ) → posts_from place [] count ≡ 0
unfolding posts_from
none_from place zero = refl
none_from place (suc count) = omega (arith, none_from (place + 1) count)

all_from : (posts : List (ℕ × Message)) (count : ℕ) → All (λ (post : ℕ × Message). post.0 < count) posts → posts_from 0 posts count ≡ length posts
all_from [] count placed = none_from 0 count
all_from (post ∷ posts) count placed =
    let inside : post.0 < count = All-head (λ (p : ℕ × Message). p.0 < count) post posts placed in
    omega (arith, one_more post posts 0 count (omega arith) (omega (arith, inside)), all_from posts count (All-tail (λ (p : ℕ × Message). p.0 < count) post posts placed))

-- ---- slots
slots_of_all : List ConferenceContents → ℕ
slots_of_all conferences = sum_by (λ (c : ConferenceContents). length c.slots) conferences

all_slots : (b : Board) (posts : List (ℕ × Message)) (place : ℕ) (bases : List Contents)
    → slots_of_all (conferences_in (all_posted b posts place bases)) ≡ slots_of_all (conferences_in bases) + posts_from place posts (length bases)
unfolding slots_of_all posts_from
all_slots b posts place [] = refl
all_slots b posts place (base ∷ bases) = omega (
  arith,
  sum_by-cons (λ (c : ConferenceContents). length c.slots) (posted_in b posts place base).conference (conferences_in (all_posted b posts (place + 1) bases)),
  sum_by-cons (λ (c : ConferenceContents). length c.slots) base.conference (conferences_in bases),
  posted_slots b posts place base,
  all_slots b posts (place + 1) bases,
)

module _ (b : Board) (ok : IsBoard b) where
  conferences_are : conferences_in (contents_of b) ≡ b.conferences
  conferences_are = conferences_back (shapes_of b.ledger) b.conferences ok.conferences

  bases_count : length (contents_of b) ≡ length b.conferences
  bases_count = sym (length-map (contents_of b) (λ (base : Contents). base.conference)) ∙ ap (length {A = ConferenceContents}) conferences_are

  spread_slots_total : (l : Ledger) (posts : List (ℕ × Message)) → ArePlaced posts b → slot_total (posted_with l posts b) ≡ slot_total b + length posts
  unfolding slots_of_all
  spread_slots_total l posts placed = omega (
    arith,
    all_slots b posts 0 (contents_of b),
    ap slots_of_all conferences_are,
    all_from posts (length (contents_of b)) (subst (λ (count : ℕ). All (λ (post : ℕ × Message). post.0 < count) posts) (sym bases_count) placed),
  )

  appended_slots_total : (place : ℕ) (messages : List Message) → place < length b.conferences → slot_total (appended place messages b) ≡ slot_total b + length messages
  unfolding slots_of_all
  appended_slots_total place messages inside = elim (slice_get_cases (contents_of b) place).1 [
    | inl found ↦ at found.0 found.2
    | inr past ↦ absurd (omega (arith, past.0, inside, bases_count))
  ]
    where
      at : (base : Contents) → base_at place b ≡ Some base → slot_total (appended place messages b) ≡ slot_total b + length messages
      at base there =
          let given : List Message = all_identified (msgid_in place b) (length base.conference.slots + 1) messages in
          let conferences : List ConferenceContents = conferences_in (contents_of b) in
          let new : Contents = with_messages given base in
          omega (
            arith,
            ap slot_total (appended_there b place messages base ok there),
            ap slots_of_all (map-set (λ (c : Contents). c.conference) (contents_of b) place new),
            sum_by-set (λ (c : ConferenceContents). length c.slots) conferences place new.conference base.conference (omega (arith, inside, bases_count, length-map (contents_of b) (λ (c : Contents). c.conference))),
            ap (λ (c : ConferenceContents). length c.slots) (get_or-map (λ (c : Contents). c.conference) (contents_of b) place base base.conference (omega (arith, inside, bases_count))),
            ap (λ (c : Contents). length c.conference.slots) (get_or_from_slice_get (contents_of b) place base base there),
            ap slots_of_all conferences_are,
            more_slots base given,
            identified_count (msgid_in place b) (length base.conference.slots + 1) messages,
          )

-- ---- the bound
-- the bound of more messages is no less
more_allowed : (count more bytes before now : ℕ) → count ≤ more → KeepsBound count bytes before now → KeepsBound more bytes before now
more_allowed count more bytes before now fewer kept = omega (arith, fewer, kept)

pub posting_keeps : (change : Change) (b : Board) (before now : ℕ) → IsPosting change → IsBoard b → Fits change b → WritesFew change b before now → KeepsBoundOf b (changed change b) before now
posting_keeps (Enroll name net members) b before now posting ok fits few = absurd posting
posting_keeps (Append place messages) b before now posting ok fits few =
    more_allowed (length messages) (slot_total (appended place messages b) - slot_total b) (growth (Append place messages) b) before now
    (omega (arith, appended_slots_total b ok place messages fits.0)) few
posting_keeps (Spread posts) b before now posting ok fits few =
    more_allowed (length posts) (slot_total (changed (Spread posts) b) - slot_total b) (growth (Spread posts) b) before now
    (omega (arith, spread_slots_total b ok b.ledger posts fits.0)) few
posting_keeps (Kill place number) b before now posting ok fits few = absurd posting
posting_keeps (Offer user highs) b before now posting ok fits few = absurd posting
posting_keeps (Acknowledge user packet moment) b before now posting ok fits few = absurd posting
posting_keeps (Upload user digest refused posts) b before now posting ok fits few =
    more_allowed (length posts) (slot_total (changed (Upload user digest refused posts) b) - slot_total b) (growth (Upload user digest refused posts) b) before now
    (omega (arith, spread_slots_total b ok (with_record (upload_record user digest refused posts) b.ledger) posts fits.0)) few

-- nothing was written
pub none_keeps : (b next : Board) (before : ℕ) → KeepsBoundOf b next before before
none_keeps b next before = omega arith
