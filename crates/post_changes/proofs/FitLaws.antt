-- Posts fit in their places just where the board with them is valid.
use Rattle.std.proofs.Common.{◌≡◌, ℕ, ◌+◌, ◌^◌, ◌<◌, ◌≤◌, ◌↔◌, ⊎_elim, true, List, [], ◌∷◌, length, refl, sym, subst, arith}
use Rattle.std.specs.Prelude.{All, slice_get, Some}
use Rattle.std.proofs.lemmas.Bool.{cases_eq}
use Rattle.std.proofs.lemmas.List.Elements.{All-cons, All-head, All-nil, All-tail}
use Rattle.slot_changes.proofs.board_changes.OneBase.{all_at}
use Rattle.slot_changes.specs.board_changes.Changed.{base_at}
use Rattle.board_layout.proofs.BasePlaces.{IsBase}
use Rattle.board_layout.specs.Board.{Board}
use Rattle.board_layout.specs.Layout.{board_size}
use Rattle.board_layout.specs.Renewed.{contents_of}
use Rattle.board_layout.specs.Valid.{IsBoard, board_limit}
use Rattle.board_ledger.specs.declared.upload.UploadRecord.{UploadRecord}
use Rattle.byte_lists.specs.Byte.{IsByte}
use Rattle.board_layout.specs.jam_base.Contents.{Contents}
use Rattle.board_layout.specs.jam_layout.Limits.{slot_limit}
use Rattle.board_layout.specs.jam_layout.Messages.{IsMessage}
use Rattle.jam_records.specs.declared.message.Kind.{Kind}
use Rattle.jam_records.specs.declared.message.Message.{Message}
use Rattle.post_changes.proofs.PlacePosts.{elsewhere, here, posted_base, posted_messages}
use Rattle.post_changes.proofs.PostLaws.{posted_bases, posted_board, were_bases}
use Rattle.post_changes.proofs.RecordLaws.{ledger_is, record_shapes, was_free}
use Rattle.post_changes.specs.Posted.{ArePlaced, MayHoldIn, all_posted, posted_in, posts_in, upload_record, spread, uploaded, with_record}
use Rattle.post_changes.specs.Recorded.{may_record}
use Rattle.board_ledger.specs.setup_file.Valid.{IsSetupConference}
use Rattle.board_ledger.specs.setup_file.declared.conference.Conference.{Conference as SetupConference}
use Rattle.slot_changes.proofs.AppendLaws.{named}
use Rattle.slot_changes.proofs.MsgidLaws.{generated_is}
use Rattle.slot_changes.proofs.PlaceKinds.{kind_at}
use Rattle.slot_changes.proofs.ValueLaws.{all_held, all_hold}
use Rattle.slot_changes.specs.Msgids.{IsMsgid, all_identified, msgid_in}
use Rattle.slot_changes.specs.Values.{MayHold}

-- ---- lists of which the items so far pass
pub all_more : {A : Type 0} (Q : A → Type 0) (P : Type 0) (left rest : List A) (x : A) → left ≡ x ∷ rest → All Q left ↔ P → Q x → All Q rest ↔ P
all_more {A = A} Q P left rest x is so_far here = (
  λ all. so_far.0 (subst (λ (xs : List A). All Q xs) (sym is) (All-cons Q x rest here all)),
  λ p. All-tail Q x rest (subst (λ (xs : List A). All Q xs) is (so_far.1 p)),
)

pub all_first : {A : Type 0} (Q : A → Type 0) (P : Type 0) (left rest : List A) (x : A) → left ≡ x ∷ rest → All Q left ↔ P → P → Q x
all_first {A = A} Q P left rest x is so_far p = All-head Q x rest (subst (λ (xs : List A). All Q xs) is (so_far.1 p))

-- ---- what holds of the posts in a place holds of their messages
module _ (kind : Kind) (place : ℕ) where
  pub held_in : (posts : List (ℕ × Message)) → All (MayHoldIn kind place) posts → All (MayHold kind) (posts_in place posts)
  held_in [] all = All-nil (MayHold kind)
  held_in (post ∷ posts) all =
      let others : All (MayHold kind) (posts_in place posts) = held_in posts (All-tail (MayHoldIn kind place) post posts all) in
      ⊎_elim
      (λ same. subst (All (MayHold kind)) (sym (here place post posts same)) (All-cons (MayHold kind) post.1 (posts_in place posts) (All-head (MayHoldIn kind place) post posts all same) others))
      (λ away. subst (All (MayHold kind)) (sym (elsewhere place post posts away)) others)
      (cases_eq post.0 place)

  pub in_held : (posts : List (ℕ × Message)) → All (MayHold kind) (posts_in place posts) → All (MayHoldIn kind place) posts
  in_held [] all = All-nil (MayHoldIn kind place)
  in_held (post ∷ posts) all =
      ⊎_elim
      (λ same.
      let both : All (MayHold kind) (post.1 ∷ posts_in place posts) = subst (All (MayHold kind)) (here place post posts same) all in
      All-cons (MayHoldIn kind place) post posts (λ is. All-head (MayHold kind) post.1 (posts_in place posts) both) (in_held posts (All-tail (MayHold kind) post.1 (posts_in place posts) both)))
      (λ away. All-cons (MayHoldIn kind place) post posts (λ is. absurd (away is)) (in_held posts (subst (All (MayHold kind)) (elsewhere place post posts away) all)))
      (cases_eq post.0 place)

-- ---- one place
module _ (b : Board) (posts : List (ℕ × Message)) (place : ℕ) (base : Contents) (c : SetupConference) (ok : IsBoard b) (at : base_at place b ≡ Some base) (is : slice_get b.ledger.setup.conferences place ≡ Some c) where
  kind : base.shape.kind ≡ c.kind
  kind = kind_at b place base c at is

  ids : (number : ℕ) → number < 10 ^ 5 → IsMsgid (msgid_in place b number)
  ids number few =
      let small = (all_at IsSetupConference b.ledger.setup.conferences place c is ok.ledger.setup.conferences.each).number in
      generated_is _ b.ledger.setup.bbsid number (omega (arith, small, named b place c is)) ok.ledger.setup.bbsid few

  pub place_fits : All (MayHold c.kind) (posts_in place posts) → length base.conference.slots + length (posts_in place posts) ≤ slot_limit → IsBase (posted_in b posts place base)
  place_fits may few =
      let all : All (IsMessage c.kind) (all_identified (msgid_in place b) (length base.conference.slots + 1) (posts_in place posts)) =
      all_hold c.kind (msgid_in place b) (length base.conference.slots + 1) (posts_in place posts) (λ n less. ids n (omega (arith, less, few))) may in
      posted_base b posts place base (all_at IsBase (contents_of b) place base at (were_bases b posts b.ledger ok refl))
      (subst (λ (k : Kind). All (IsMessage k) (all_identified (msgid_in place b) (length base.conference.slots + 1) (posts_in place posts))) (sym kind) all) few

  pub place_may : IsBase (posted_in b posts place base) → All (MayHold c.kind) (posts_in place posts)
  place_may next =
      subst (λ (k : Kind). All (MayHold k) (posts_in place posts)) kind (all_held base.shape.kind (msgid_in place b) (length base.conference.slots + 1) (posts_in place posts) (posted_messages b posts place base next))

-- ---- the board
-- the places are there, and each base is a conference of its shape with its posts
abbrev pub Fit : Board → List (ℕ × Message) → Type 0
Fit b posts = ArePlaced posts b × All IsBase (all_posted b posts 0 (contents_of b))

module _ (b : Board) (posts : List (ℕ × Message)) (ok : IsBoard b) where
  pub spread_fits : All IsBase (all_posted b posts 0 (contents_of b)) → board_size (spread posts b) ≤ board_limit → IsBoard (spread posts b)
  spread_fits bases small = posted_board b posts b.ledger ok refl ok.ledger refl bases small

  pub spread_bases : IsBoard (spread posts b) → All IsBase (all_posted b posts 0 (contents_of b))
  spread_bases next = posted_bases b posts b.ledger ok refl next

  module _ (user : ℕ) (digest : List ℕ) (refused : ℕ) where
    upload : UploadRecord
    upload = upload_record user digest refused posts

    pub uploaded_fits : length digest ≡ 32 → All IsByte digest → may_record b.ledger (upload_record user digest refused posts) ≡ true → All IsBase (all_posted b posts 0 (contents_of b))
        → board_size (uploaded user digest refused posts b) ≤ board_limit → IsBoard (uploaded user digest refused posts b)
    unfolding upload
    uploaded_fits whole bytes may bases small =
        posted_board b posts (with_record upload b.ledger) ok (record_shapes b.ledger upload) (ledger_is b.ledger upload ok.ledger whole bytes may) refl bases small

    pub uploaded_bases : IsBoard (uploaded user digest refused posts b) → All IsBase (all_posted b posts 0 (contents_of b))
    unfolding upload
    uploaded_bases next = posted_bases b posts (with_record upload b.ledger) ok (record_shapes b.ledger upload) next

    pub uploaded_free : IsBoard (uploaded user digest refused posts b) → may_record b.ledger (upload_record user digest refused posts) ≡ true
    unfolding upload
    uploaded_free next = was_free b.ledger upload next.ledger
