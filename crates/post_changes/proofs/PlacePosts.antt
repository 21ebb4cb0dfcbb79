-- The posts in one place: the messages that are copied for it one by one, and what its base is with them.
use Rattle.std.proofs.Common.{◌≡◌, ◌≢◌, ℕ, ◌+◌, ◌<◌, ◌≤◌, Bool, cond, eqb, List, [], ◌∷◌, ◌++◌, length, get_or, drop, map, filter, sym, ap, ◌∙◌, subst, arith, append_assoc, length-append}
use Rattle.std.specs.Prelude.{All, count_by, slice_get, Some, sum_by}
use Rattle.std.proofs.lemmas.Bool.{eq-eqb, ne_eqb}
use Rattle.std.proofs.lemmas.List.{drop_more, length-map}
use Rattle.std.proofs.lemmas.List.Sums.{length-filter}
use Rattle.std.proofs.lemmas.Option.{slice_get-get_or, slice_get_within}
use Rattle.slot_changes.specs.board_changes.Changed.{base_at}
use Rattle.board_layout.proofs.BasePlaces.{IsBase}
use Rattle.board_layout.specs.Board.{Board, shapes_of}
use Rattle.board_layout.specs.Layout.{base_size}
use Rattle.board_layout.specs.Renewed.{contents, contents_of}
use Rattle.board_layout.specs.jam_base.Contents.{Contents, with_messages}
use Rattle.board_layout.specs.jam_base.Outlined.{outlined}
use Rattle.board_layout.specs.jam_layout.Limits.{slot_limit}
use Rattle.board_layout.specs.jam_layout.Messages.{IsMessage}
use Rattle.board_layout.specs.jam_layout.declared.conference.ConferenceContents.{ConferenceContents}
use Rattle.board_layout.specs.jam_layout.declared.shape.Shape.{Shape}
use Rattle.jam_records.specs.declared.message.Message.{Message}
use Rattle.post_changes.specs.Posted.{posted_in, posts_in}
use Rattle.slot_changes.proofs.AppendLaws.{base_is, messages_are, more_slots, shape_stays}
use Rattle.slot_changes.proofs.MsgidLaws.{identified_count}
use Rattle.slot_changes.proofs.SlotBytes.{base_grows, message_size}
use Rattle.slot_changes.specs.Msgids.{all_identified, identified, msgid_in}

-- ---- one post more
module _ (place : ℕ) (post : ℕ × Message) (rest : List (ℕ × Message)) where
  pub here : post.0 ≡ place → posts_in place (post ∷ rest) ≡ post.1 ∷ posts_in place rest
  here is = ap (λ (own : Bool). map (λ (p : ℕ × Message). p.1) (cond own (post ∷ filter (λ p. eqb p.0 place) rest) (filter (λ p. eqb p.0 place) rest))) (eq-eqb post.0 place is)

  pub elsewhere : post.0 ≢ place → posts_in place (post ∷ rest) ≡ posts_in place rest
  elsewhere away = ap (λ (own : Bool). map (λ (p : ℕ × Message). p.1) (cond own (post ∷ filter (λ p. eqb p.0 place) rest) (filter (λ p. eqb p.0 place) rest))) (ne_eqb post.0 place away)

-- as many as there are posts of the place
pub count_posts : (place : ℕ) (posts : List (ℕ × Message)) → length (posts_in place posts) ≡ count_by (λ post. eqb post.0 place) posts
count_posts place posts = length-map (filter (λ (post : ℕ × Message). eqb post.0 place) posts) (λ (post : ℕ × Message). post.1) ∙ length-filter (λ (post : ℕ × Message). eqb post.0 place) posts

-- the posts that are left, from the one at an index on
module _ (place : ℕ) (posts : List (ℕ × Message)) (index : ℕ) (post : ℕ × Message) (within : index < length posts) (is : post ≡ get_or posts index post) where
  left : drop index posts ≡ post ∷ drop (index + 1) posts
  left = drop_more posts index post within ∙ ap (λ (p : ℕ × Message). p ∷ drop (index + 1) posts) (sym is)

  pub left_here : post.0 ≡ place → posts_in place (drop index posts) ≡ post.1 ∷ posts_in place (drop (index + 1) posts)
  left_here same = ap (posts_in place) left ∙ here place post (drop (index + 1) posts) same

  pub left_elsewhere : post.0 ≢ place → posts_in place (drop index posts) ≡ posts_in place (drop (index + 1) posts)
  left_elsewhere away = ap (posts_in place) left ∙ elsewhere place post (drop (index + 1) posts) away

-- ---- the copies so far, and those of the posts that are left
pub copies_few : (msgid : ℕ → List ℕ) (first : ℕ) (copies left all : List Message) → copies ++ all_identified msgid (first + length copies) left ≡ all_identified msgid first all → length copies + length left ≡ length all
copies_few msgid first copies left all same = omega (
  arith,
  ap (length {A = Message}) same,
  length-append copies (all_identified msgid (first + length copies) left),
  identified_count msgid (first + length copies) left,
  identified_count msgid first all,
)

pub copies_more : (msgid : ℕ → List ℕ) (first : ℕ) (copies left rest all : List Message) (m : Message) → left ≡ m ∷ rest → copies ++ all_identified msgid (first + length copies) left ≡ all
    → (copies ++ identified (msgid (first + length copies)) m ∷ []) ++ all_identified msgid (first + length (copies ++ identified (msgid (first + length copies)) m ∷ [])) rest ≡ all
copies_more msgid first copies left rest all m is same =
    let copy : Message = identified (msgid (first + length copies)) m in
    let counted : first + length (copies ++ copy ∷ []) ≡ first + length copies + 1 = omega (arith, length-append copies (copy ∷ [])) in
    ap (λ (n : ℕ). (copies ++ copy ∷ []) ++ all_identified msgid n rest) counted
    ∙ (append_assoc copies (copy ∷ []) (all_identified msgid (first + length copies + 1) rest)
    ∙ (ap (λ (ms : List Message). copies ++ all_identified msgid (first + length copies) ms) (sym is) ∙ same))

-- ---- the base of the place
contents_few : (shapes : List Shape) (conferences : List ConferenceContents) → length (contents shapes conferences) ≤ length conferences
contents_few [] conferences = omega arith
contents_few (shape ∷ shapes) [] = omega arith
contents_few (shape ∷ shapes) (c ∷ conferences) = omega (arith, contents_few shapes conferences)

pub place_there : (b : Board) (place : ℕ) (base : Contents) → base_at place b ≡ Some base → place < length b.conferences
place_there b place base here = omega (arith, slice_get_within (contents_of b) place base here, contents_few (shapes_of b.ledger) b.conferences)

-- the base at a place of what a loop goes over, which are the bases of the board, and those that are left from there on
module _ (b : Board) (items : List Contents) (place : ℕ) (base : Contents) (same : items ≡ contents_of b) (within : place < length items) (is : base ≡ get_or items place base) where
  pub base_here : slice_get (contents_of b) place ≡ Some base
  base_here = subst (λ (xs : List Contents). slice_get xs place ≡ Some base) same (slice_get-get_or items place base within ∙ ap Some (sym is))

  pub bases_left : drop place (contents_of b) ≡ base ∷ drop (place + 1) (contents_of b)
  bases_left =
      subst (λ (xs : List Contents). drop place xs ≡ base ∷ drop (place + 1) xs) same
      (drop_more items place base within ∙ ap (λ (x : Contents). x ∷ drop (place + 1) items) (sym is))

module _ (b : Board) (posts : List (ℕ × Message)) (place : ℕ) (base : Contents) where
  given : List Message
  given = all_identified (msgid_in place b) (length base.conference.slots + 1) (posts_in place posts)

  given_count : length given ≡ length (posts_in place posts)
  unfolding given
  given_count = identified_count (msgid_in place b) (length base.conference.slots + 1) (posts_in place posts)

  pub posted_shape : (posted_in b posts place base).shape ≡ base.shape
  unfolding given
  posted_shape = shape_stays base given

  pub posted_slots : length (posted_in b posts place base).conference.slots ≡ length base.conference.slots + length (posts_in place posts)
  unfolding given
  posted_slots = omega (arith, more_slots base given, given_count)

  pub posted_few : IsBase (posted_in b posts place base) → length base.conference.slots + length (posts_in place posts) ≤ slot_limit
  posted_few next = omega (arith, next.few, posted_slots)

  pub posted_messages : IsBase (posted_in b posts place base) → All (IsMessage base.shape.kind) (all_identified (msgid_in place b) (length base.conference.slots + 1) (posts_in place posts))
  unfolding given
  posted_messages next = messages_are base given next

  pub posted_base : IsBase base → All (IsMessage base.shape.kind) (all_identified (msgid_in place b) (length base.conference.slots + 1) (posts_in place posts)) → length base.conference.slots + length (posts_in place posts) ≤ slot_limit
      → IsBase (posted_in b posts place base)
  unfolding given
  posted_base was all few = base_is base given was all (omega (arith, given_count, few))

  pub posted_bytes : base_size (posted_in b posts place base) ≡ base_size base + sum_by message_size (all_identified (msgid_in place b) (length base.conference.slots + 1) (posts_in place posts))
  unfolding given
  posted_bytes = base_grows base given

  -- the base without messages, and with those that were copied
  pub none_posted : (copies : List Message) → copies ≡ all_identified (msgid_in place b) (length base.conference.slots + 1) (posts_in place posts) → copies ≡ [] → base ≡ posted_in b posts place base
  none_posted copies are none = ap (λ (ms : List Message). with_messages ms base) (sym none ∙ are)

  pub some_posted : (copies : List Message) (made : Contents) → copies ≡ all_identified (msgid_in place b) (length base.conference.slots + 1) (posts_in place posts) → made ≡ outlined (with_messages copies base) → made ≡ outlined (posted_in b posts place base)
  some_posted copies made are is = is ∙ ap (λ (ms : List Message). outlined (with_messages ms base)) are
