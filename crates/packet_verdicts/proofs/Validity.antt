-- When a board with posts is valid.
use Rattle.std.proofs.Common.{◌≡◌, ℕ, suc, ◌+◌, ◌^◌, ◌≤◌, ◌<◌, false, ◌&&◌, leb, List, [], ◌∷◌, length, get_or, refl, sym, ap, subst, arith}
use Rattle.std.specs.Prelude.{All, Some, slice_get}
use Rattle.std.specs.List.{list_all}
use Rattle.std.proofs.lemmas.Bool.{and_parts, leb-true}
use Rattle.std.proofs.lemmas.List.Elements.{All-cons, All-head, All-nil, All-tail}
use Rattle.std.proofs.lemmas.Option.{slice_get-get_or, slice_get_within}
use Rattle.post_changes.proofs.board_changes.OneBase.{all_at, are_bases, conferences_back}
use Rattle.board_layout.proofs.BasePlaces.{IsBase}
use Rattle.board_layout.specs.Board.{Board, conferences_in, shapes_of}
use Rattle.board_layout.specs.Layout.{board_size}
use Rattle.board_layout.specs.Renewed.{contents_of}
use Rattle.board_layout.specs.Valid.{IsBoard, board_limit}
use Rattle.board_layout.specs.jam_base.Contents.{Contents}
use Rattle.board_layout.specs.jam_layout.Fields.{is_text}
use Rattle.board_layout.specs.jam_layout.Limits.{slot_limit}
use Rattle.board_layout.specs.jam_layout.Messages.{IsMessage}
use Rattle.jam_records.specs.declared.message.Kind.{Kind}
use Rattle.jam_records.specs.declared.message.Kind.TheVariants.{Local}
use Rattle.jam_records.specs.declared.message.Message.{Message}
use Rattle.board_layout.proofs.BoardLookups.{base_slots}
use Rattle.board_layout.specs.Lookups.{slots_in}
use Rattle.post_changes.proofs.FitLaws.{spread_fits}
use Rattle.post_changes.specs.Posted.{posts_in, all_posted, spread}
use Rattle.packet_verdicts.proofs.Spreading.{as_many}
use Rattle.setup_file.specs.Valid.{IsSetupConference}
use Rattle.setup_file.specs.declared.conference.Conference.{Conference as SetupConference}
use Rattle.post_changes.proofs.slot_changes.AppendLaws.{base_is, named}
use Rattle.post_changes.proofs.slot_changes.MsgidLaws.{generated_is, identified_count}
use Rattle.post_changes.proofs.slot_changes.PlaceKinds.{kind_at}
use Rattle.post_changes.proofs.slot_changes.ValueLaws.{all_hold}
use Rattle.post_changes.specs.slot_changes.Changed.{with_identified}
use Rattle.post_changes.specs.slot_changes.Msgids.{IsMsgid, all_identified, msgid_in}
use Rattle.post_changes.specs.slot_changes.Values.{MayHold}

-- each place may hold its posts, and has slots for them
pub record AreFit (b : Board) (posts : List (ℕ × Message)) : Type 0 where
  pub held : (place : ℕ) (c : SetupConference) → slice_get b.ledger.setup.conferences place ≡ Some c → All (MayHold c.kind) (posts_in place posts)
  pub few : (place : ℕ) → place < length b.ledger.setup.conferences → length (slots_in b place) + length (posts_in place posts) ≤ slot_limit

-- the msgids of a place are such as messages may have
pub ids : (b : Board) (place : ℕ) (c : SetupConference) (number : ℕ) → IsBoard b → slice_get b.ledger.setup.conferences place ≡ Some c → number < 10 ^ 5 → IsMsgid (msgid_in place b number)
ids b place c number ok is few =
    let small = (all_at IsSetupConference b.ledger.setup.conferences place c is ok.ledger.setup.conferences.each).number in
    generated_is _ b.ledger.setup.bbsid number (omega (arith, small, named b place c is)) ok.ledger.setup.bbsid few

-- some conference of a setup, for places past the last
pub no_conference : SetupConference
no_conference = record { number = 0; kind = Local; readonly = false; private = false; name = [] }

pub short_id : (b : Board) (place number : ℕ) → IsBoard b → place < length b.ledger.setup.conferences → number < 10 ^ 5 → length (msgid_in place b number) ≤ 80
unfolding is_text
short_id b place number ok within few =
    let msgid : List ℕ = msgid_in place b number in
    let is = ids b place (get_or b.ledger.setup.conferences place no_conference) number ok (slice_get-get_or b.ledger.setup.conferences place no_conference within) few in
    let parts = and_parts (leb 1 (length msgid) && leb (length msgid) 80) (list_all (λ c. leb 0x20 c) msgid) is.text in
    leb-true (length msgid) 80 (and_parts (leb 1 (length msgid)) (leb (length msgid) 80) parts.0).1

-- ---- bases
-- the base may have the posts of a place at its end
record Takes (b : Board) (posts : List (ℕ × Message)) (place : ℕ) (base : Contents) : Type 0 where
  all : All (IsMessage base.shape.kind) (all_identified (msgid_in place b) (length base.conference.slots + 1) (posts_in place posts))
  few : length base.conference.slots + length (posts_in place posts) ≤ slot_limit

all_take : (b : Board) (posts : List (ℕ × Message)) (first : ℕ) (bases : List Contents) → All IsBase bases → ((j : ℕ) (base : Contents) → slice_get bases j ≡ Some base → Takes b posts (first + j) base) → All IsBase (all_posted b posts first bases)
all_take b posts first [] all takes = All-nil IsBase
all_take b posts first (base ∷ bases) all takes =
    let same : first + 0 ≡ first = omega arith in
    let t : Takes b posts first base = subst (λ (k : ℕ). Takes b posts k base) same (takes 0 base refl) in
    let count = identified_count (msgid_in first b) (length base.conference.slots + 1) (posts_in first posts) in
    let few = t.few in
    All-cons IsBase (with_identified (msgid_in first b) (posts_in first posts) base) (all_posted b posts (first + 1) bases)
    (base_is base (all_identified (msgid_in first b) (length base.conference.slots + 1) (posts_in first posts)) (All-head IsBase base bases all) t.all (omega (arith, count, few)))
    (all_take b posts (first + 1) bases (All-tail IsBase base bases all) (λ j other e. let next : first + suc j ≡ first + 1 + j = omega arith in subst (λ (k : ℕ). Takes b posts k other) next (takes (suc j) other e)))

-- ---- the board
module _ (b : Board) (posts : List (ℕ × Message)) (ok : IsBoard b) (fit : AreFit b posts) where
  back : conferences_in (contents_of b) ≡ b.conferences
  back = conferences_back (shapes_of b.ledger) b.conferences ok.conferences

  slots_here : (place : ℕ) (base : Contents) → slice_get (contents_of b) place ≡ Some base → length (slots_in b place) ≡ length base.conference.slots
  slots_here place base here = sym (ap length (base_slots b (contents_of b) place base back here))

  takes : (place : ℕ) (base : Contents) → slice_get (contents_of b) place ≡ Some base → Takes b posts place base
  takes place base here =
      let inside : place < length b.ledger.setup.conferences = omega (arith, slice_get_within (contents_of b) place base here, as_many b ok) in
      let c : SetupConference = get_or b.ledger.setup.conferences place no_conference in
      let is : slice_get b.ledger.setup.conferences place ≡ Some c = slice_get-get_or b.ledger.setup.conferences place no_conference inside in
      let count : length (slots_in b place) ≡ length base.conference.slots = slots_here place base here in
      let few : length base.conference.slots + length (posts_in place posts) ≤ slot_limit = omega (arith, fit.few place inside, count) in
      let all : All (IsMessage c.kind) (all_identified (msgid_in place b) (length base.conference.slots + 1) (posts_in place posts)) =
      all_hold c.kind (msgid_in place b) (length base.conference.slots + 1) (posts_in place posts) (λ n less. ids b place c n ok is (omega (arith, less, few))) (fit.held place c is) in
      record {
        all = subst (λ (k : Kind). All (IsMessage k) (all_identified (msgid_in place b) (length base.conference.slots + 1) (posts_in place posts))) (sym (kind_at b place base c here is)) all;
        few = few;
      }

  pub fit_board : board_size (spread posts b) ≤ board_limit → IsBoard (spread posts b)
  fit_board small =
      spread_fits b posts ok
      (all_take b posts 0 (contents_of b) (are_bases (shapes_of b.ledger) b.conferences ok.conferences) (λ j base here. let same : j ≡ 0 + j = omega arith in subst (λ (k : ℕ). Takes b posts k base) same (takes j base here)))
      small
