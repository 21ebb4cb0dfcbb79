-- How many bytes a post more adds to a board with posts.
use Rattle.std.proofs.Common.{◌≡◌, ℕ, zero, suc, ◌+◌, ◌-◌, ◌<◌, false, eqb, List, [], ◌∷◌, ◌++◌, length, replicate, refl, sym, ap, ◌∙◌, arith}
use Rattle.std.specs.Prelude.{sum_by}
use Rattle.std.proofs.lemmas.Bool.{ne_eqb}
use Rattle.std.proofs.lemmas.List.{length-replicate}
use Rattle.std.proofs.lemmas.List.Sums.{sum_by-append, sum_by-cons}
use Rattle.post_changes.proofs.board_changes.OneBase.{conferences_back}
use Rattle.board_layout.proofs.SizeLaws.{size_in}
use Rattle.board_layout.specs.Board.{Board, conferences_in, shapes_of}
use Rattle.board_layout.specs.Layout.{base_size, board_size}
use Rattle.board_layout.specs.Renewed.{contents_of}
use Rattle.board_layout.specs.Valid.{IsBoard}
use Rattle.board_layout.specs.jam_base.Contents.{Contents}
use Rattle.board_layout.proofs.jam_layout.SizeLaws.{size_by_length}
use Rattle.board_layout.specs.jam_layout.declared.conference.ConferenceContents.{ConferenceContents}
use Rattle.jam_records.specs.declared.message.Message.{Message}
use Rattle.netmail_rules.specs.Rules.{new_bytes}
use Rattle.post_changes.specs.Posted.{posts_in, all_posted, spread}
use Rattle.packet_verdicts.specs.Views.{next_number, room_of}
use Rattle.packet_verdicts.proofs.PostLists.{posts_hit, posts_miss, identified_more}
use Rattle.packet_verdicts.proofs.Spreading.{slots_at, as_many, spread_shapes, spread_count}
use Rattle.post_changes.proofs.slot_changes.SlotBytes.{base_grows, message_size}
use Rattle.post_changes.specs.slot_changes.Changed.{with_identified}
use Rattle.post_changes.specs.slot_changes.Msgids.{all_identified, identified, msgid_in, or_else}

-- ---- a draft
-- what is reckoned of a draft is what its message takes
pub draft_bytes : (d : Message) (msgid : List ℕ) → d.msgid ≡ [] → message_size (identified msgid d) ≡ new_bytes d (length msgid)
draft_bytes d msgid none =
    let own : or_else d.msgid msgid ≡ msgid = ap (λ (xs : List ℕ). or_else xs msgid) none in
    size_by_length d (or_else d.msgid msgid) (replicate (length msgid) 0) (ap length own ∙ sym (length-replicate (length msgid) 0))

-- ---- one base
base_more : (base : Contents) (msgid : ℕ → List ℕ) (messages : List Message) (m : Message)
    → base_size (with_identified msgid (messages ++ m ∷ []) base) ≡ base_size (with_identified msgid messages base) + message_size (identified (msgid (length base.conference.slots + length messages + 1)) m)
base_more base msgid messages m =
    let first : ℕ = length base.conference.slots + 1 in
    let one : Message = identified (msgid (first + length messages)) m in
    let number : first + length messages ≡ length base.conference.slots + length messages + 1 = omega arith in
    omega (
      arith,
      base_grows base (all_identified msgid first (messages ++ m ∷ [])),
      base_grows base (all_identified msgid first messages),
      ap (sum_by message_size) (identified_more msgid first messages m),
      sum_by-append message_size (all_identified msgid first messages) (one ∷ []),
      sum_by-cons message_size one [],
      ap (λ (k : ℕ). message_size (identified (msgid k) m)) number,
    )

-- ---- bases
-- those in later places stay
later_stay : (b : Board) (posts : List (ℕ × Message)) (place : ℕ) (m : Message) (first : ℕ) (bases : List Contents) → place < first → all_posted b (posts ++ (place, m) ∷ []) first bases ≡ all_posted b posts first bases
later_stay b posts place m first [] before = refl
later_stay b posts place m first (base ∷ bases) before =
    let ne : eqb place first ≡ false = ne_eqb place first (λ e. omega (arith, e, before)) in
    let head = posts_miss first place posts m ne in
    let tail = later_stay b posts place m (first + 1) bases (omega (arith, before)) in
    λ i. with_identified (msgid_in first b) (head i) base ∷ tail i

bases_more : (b : Board) (posts : List (ℕ × Message)) (place : ℕ) (m : Message) (first j : ℕ) (bases : List Contents) → place ≡ first + j → j < length bases
    → sum_by base_size (all_posted b (posts ++ (place, m) ∷ []) first bases)
    ≡ sum_by base_size (all_posted b posts first bases) + message_size (identified (msgid_in place b (length (slots_at (conferences_in bases) j) + length (posts_in place posts) + 1)) m)
bases_more b posts place m first j [] e within = absurd (omega arith)
bases_more b posts place m first zero (base ∷ bases) e within =
    let same : first ≡ place = omega arith in
    let more : List (ℕ × Message) = posts ++ (place, m) ∷ [] in
    let new : ℕ = base_size (with_identified (msgid_in first b) (posts_in first more) base) in
    let head : new ≡ base_size (with_identified (msgid_in place b) (posts_in place posts ++ m ∷ []) base) =
    ap (λ (k : ℕ). base_size (with_identified (msgid_in k b) (posts_in k more) base)) same ∙ ap (λ (ms : List Message). base_size (with_identified (msgid_in place b) ms base)) (posts_hit place posts m) in
    let old : base_size (with_identified (msgid_in first b) (posts_in first posts) base) ≡ base_size (with_identified (msgid_in place b) (posts_in place posts) base) =
    ap (λ (k : ℕ). base_size (with_identified (msgid_in k b) (posts_in k posts) base)) same in
    let tail = later_stay b posts place m (first + 1) bases (omega arith) in
    omega (
      arith,
      head,
      old,
      base_more base (msgid_in place b) (posts_in place posts) m,
      ap (sum_by base_size) tail,
      sum_by-cons base_size (with_identified (msgid_in first b) (posts_in first more) base) (all_posted b more (first + 1) bases),
      sum_by-cons base_size (with_identified (msgid_in first b) (posts_in first posts) base) (all_posted b posts (first + 1) bases),
    )
bases_more b posts place m first (suc j) (base ∷ bases) e within =
    let ne : eqb place first ≡ false = ne_eqb place first (λ same. omega (arith, e, same)) in
    let more : List (ℕ × Message) = posts ++ (place, m) ∷ [] in
    let head = ap (λ (ms : List Message). base_size (with_identified (msgid_in first b) ms base)) (posts_miss first place posts m ne) in
    omega (
      arith,
      head,
      bases_more b posts place m (first + 1) j bases (omega arith) (omega arith),
      sum_by-cons base_size (with_identified (msgid_in first b) (posts_in first more) base) (all_posted b more (first + 1) bases),
      sum_by-cons base_size (with_identified (msgid_in first b) (posts_in first posts) base) (all_posted b posts (first + 1) bases),
    )

-- ---- the board
module _ (b : Board) (posts : List (ℕ × Message)) (place : ℕ) (m : Message) (ok : IsBoard b) (within : place < length b.ledger.setup.conferences) where
  pub spread_grows : board_size (spread (posts ++ (place, m) ∷ []) b) ≡ board_size (spread posts b) + message_size (identified (msgid_in place b (next_number (spread posts b) place)) m)
  spread_grows =
      let bases : List Contents = contents_of b in
      let more : List (ℕ × Message) = posts ++ (place, m) ∷ [] in
      let back : conferences_in bases ≡ b.conferences = conferences_back (shapes_of b.ledger) b.conferences ok.conferences in
      let number : length (slots_at (conferences_in bases) place) + length (posts_in place posts) + 1 ≡ next_number (spread posts b) place =
      omega (arith, ap (λ (cs : List ConferenceContents). length (slots_at cs place)) back, spread_count b posts place ok within) in
      omega (
        arith,
        size_in b.ledger (all_posted b more 0 bases) (spread_shapes b more ok),
        size_in b.ledger (all_posted b posts 0 bases) (spread_shapes b posts ok),
        bases_more b posts place m 0 place bases (omega arith) (omega (arith, as_many b ok, within)),
        ap (λ (k : ℕ). message_size (identified (msgid_in place b k) m)) number,
      )

  -- the room that is left behind a draft more
  pub room_next : m.msgid ≡ [] → room_of (spread (posts ++ (place, m) ∷ []) b) ≡ room_of (spread posts b) - new_bytes m (length (msgid_in place b (next_number (spread posts b) place)))
  room_next none = omega (arith, spread_grows, draft_bytes m (msgid_in place b (next_number (spread posts b) place)) none)
