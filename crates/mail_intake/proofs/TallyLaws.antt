-- What is known of posts so far: without any, of what a message more takes, and with one more for which there is room.
use Rattle.std.proofs.Common.{◌≡◌, ℕ, zero, suc, ◌+◌, ◌<◌, ◌≤◌, false, nat_le, nat_lt, List, [], ◌∷◌, ◌++◌, length, map, min, drop, get_or, set, refl, sym, ap, ◌∙◌, subst, inl, inr, arith, length-append}
use Rattle.std.specs.Prelude.{All, Option, Some, None, slice_get}
use Rattle.std.specs.Vec.{with_item}
use Rattle.std.proofs.lemmas.Bool.{cases_eq, leb-false, ltb-false, ne_eqb, or_parts}
use Rattle.std.proofs.lemmas.List.{append-nil, drop_all, get_or-set_other, get_or-set_same, length-map, length-set}
use Rattle.std.proofs.lemmas.List.Elements.{All-nil, All-push}
use Rattle.std.proofs.lemmas.Option.{get_or_from_slice_get, same_Some, slice_get-get_or, slice_get_within}
use Rattle.board_layout.proofs.BoardLookups.{conferences_count, not_past, few_in_place}
use Rattle.board_layout.specs.Board.{Board, conferences_in}
use Rattle.board_layout.specs.Layout.{board_size}
use Rattle.board_layout.specs.Renewed.{contents_of}
use Rattle.board_layout.specs.Valid.{IsBoard, board_limit}
use Rattle.board_ledger.specs.declared.ledger.Ledger.{Ledger}
use Rattle.board_layout.specs.jam_base.Contents.{Contents}
use Rattle.board_layout.specs.jam_layout.Limits.{slot_limit}
use Rattle.board_layout.specs.jam_layout.declared.conference.ConferenceContents.{ConferenceContents}
use Rattle.jam_records.specs.declared.message.Message.{Message}
use Rattle.mail_intake.specs.Room.{is_full}
use Rattle.mail_intake.specs.Tallies.{IsTally, MayTake}
use Rattle.mail_intake.specs.declared.tally.Tally.{Tally}
use Rattle.board_layout.specs.Lookups.{slots_in}
use Rattle.packet_verdicts.proofs.PostLists.{posts_hit, posts_miss}
use Rattle.packet_verdicts.proofs.SpreadSizes.{spread_grows}
use Rattle.packet_verdicts.proofs.Spreading.{as_many, slots_at, spread_count}
use Rattle.packet_verdicts.proofs.Steps.{spread_none}
use Rattle.packet_verdicts.proofs.Validity.{AreFit, fit_board}
use Rattle.packet_verdicts.specs.Views.{next_number}
use Rattle.post_changes.proofs.FitLaws.{place_may}
use Rattle.post_changes.proofs.PlacePosts.{place_there}
use Rattle.post_changes.proofs.PostLaws.{all_count, posted_there}
use Rattle.post_changes.specs.Posted.{ArePlaced, all_posted, posts_in, spread}
use Rattle.setup_file.specs.declared.conference.Conference.{Conference as SetupConference}
use Rattle.post_changes.proofs.slot_changes.AppendLaws.{named}
use Rattle.post_changes.proofs.slot_changes.SlotBytes.{message_size}
use Rattle.post_changes.specs.slot_changes.Msgids.{generated, identified, msgid_in}
use Rattle.post_changes.specs.slot_changes.Values.{MayHold}

-- ---- no posts
-- how many slots each conference has
abbrev pub slot_counts : List Contents → List ℕ
slot_counts bases = map (λ (base : Contents). length base.conference.slots) bases

counted_at : (bases : List Contents) (place : ℕ) → place < length bases → get_or (slot_counts bases) place 0 ≡ length (slots_at (conferences_in bases) place)
counted_at [] place within = absurd (omega (arith, within))
counted_at (base ∷ bases) zero within = refl
counted_at (base ∷ bases) (suc place) within = counted_at bases place (omega (arith, within))

-- no base is left to be counted
pub counts_whole : (counts all : List ℕ) (bases : List Contents) (index : ℕ) → length bases ≤ index → counts ++ slot_counts (drop index bases) ≡ all → counts ≡ all
counts_whole counts all bases index past so_far =
    let none : drop index bases ≡ [] = drop_all index bases past in
    sym (append-nil counts) ∙ (ap (λ (xs : List Contents). counts ++ slot_counts xs) (sym none) ∙ so_far)

pub no_tally : (b : Board) (t : Tally) (bases : List Contents) → IsBoard b → conferences_in bases ≡ b.conferences → t.posts ≡ [] → t.slots.items ≡ slot_counts bases → t.size ≡ board_size b → IsTally b t
no_tally b t bases ok back none counts size =
    let empty : spread t.posts b ≡ b = ap (λ (ps : List (ℕ × Message)). spread ps b) none ∙ spread_none b ok in
    let many : length bases ≡ length b.conferences = sym (length-map bases (λ (base : Contents). base.conference)) ∙ ap (length {A = ConferenceContents}) back in
    record {
      board = subst IsBoard (sym empty) ok;
      placed = subst (λ (ps : List (ℕ × Message)). ArePlaced ps b) (sym none) (All-nil (λ (p : ℕ × Message). p.0 < length b.conferences));
      count = ap (length {A = ℕ}) counts ∙ (length-map bases (λ (base : Contents). length base.conference.slots) ∙ many);
      slots = λ place within. ap (λ (ns : List ℕ). get_or ns place 0) counts
          ∙ (counted_at bases place (omega (arith, many, within)) ∙ (ap (λ (cs : List ConferenceContents). length (slots_at cs place)) back ∙ sym (ap (λ (x : Board). length (slots_in x place)) empty)));
      size = size ∙ sym (ap board_size empty);
    }

-- ---- a message more
-- a place of the setup has a conference
pub place_taken : (b : Board) (posts : List (ℕ × Message)) (place : ℕ) (m : Message) → IsBoard (spread posts b) → MayTake b place m → place < length b.conferences
place_taken b posts place m next takes = by (slice_get (contents_of b) place) refl
  where
    count : length (contents_of b) ≡ length b.ledger.setup.conferences
    count = omega (arith, conferences_count (spread posts b) next, length-map (all_posted b posts 0 (contents_of b)) (λ (base : Contents). base.conference), all_count b posts 0 (contents_of b))

    by : (o : Option Contents) → slice_get (contents_of b) place ≡ o → place < length b.conferences
    by None none = absurd (not_past (contents_of b) place (omega (arith, count, slice_get_within b.ledger.setup.conferences place takes.conference takes.there)) none)
    by (Some base) at = place_there b place base at

-- a count that is kept is the one of its place
pub count_there : (b : Board) (t : Tally) (place k n : ℕ) → IsTally b t → place < length b.conferences → k ≡ place → n ≡ get_or t.slots.items k n → n ≡ length (slots_in (spread t.posts b) place)
count_there b t place k n known within same here =
    let count = known.count in
    let inside : k < length t.slots.items = omega (arith, count, same, within) in
    here ∙ (get_or_from_slice_get t.slots.items k (get_or t.slots.items k 0) n (slice_get-get_or t.slots.items k 0 inside) ∙ (ap (λ (j : ℕ). get_or t.slots.items j 0) same ∙ known.slots place within))

-- the msgid that it gets, made of what the board says
pub msgid_is : (b : Board) (place : ℕ) (c : SetupConference) (bbsid : List ℕ) (ledger : Ledger) (n number : ℕ) → slice_get b.ledger.setup.conferences place ≡ Some c → bbsid ≡ ledger.setup.bbsid → ledger ≡ b.ledger → n ≡ number
    → generated c.number bbsid n ≡ msgid_in place b number
msgid_is b place c bbsid ledger n number is id same count =
    let own : bbsid ≡ b.ledger.setup.bbsid = id ∙ ap (λ (l : Ledger). l.setup.bbsid) same in
    λ i. generated (named b place c is i) (own i) (count i)

-- the size with it, in a sum that stays at its last value
pub size_more : (b : Board) (posts : List (ℕ × Message)) (place : ℕ) (m : Message) (size more most : ℕ) → IsBoard b → place < length b.conferences → size ≡ board_size (spread posts b)
    → more ≡ min (message_size (identified (msgid_in place b (next_number (spread posts b) place)) m)) most → min (size + more) most ≡ min (board_size (spread (posts ++ (place, m) ∷ []) b)) most
size_more b posts place m size more most ok within now taken =
    let inside : place < length b.ledger.setup.conferences = omega (arith, conferences_count b ok, within) in
    omega (arith, now, taken, spread_grows b posts place m ok inside)

-- ---- one post more
module _ (b : Board) (t : Tally) (place : ℕ) (m : Message) (ok : IsBoard b) (known : IsTally b t) (takes : MayTake b place m) (room : is_full b t.posts (place, m) ≡ false) where
  abbrev more : List (ℕ × Message)
  more = t.posts ++ (place, m) ∷ []

  inside : place < length b.ledger.setup.conferences
  inside = slice_get_within b.ledger.setup.conferences place takes.conference takes.there

  within : place < length b.conferences
  within = omega (arith, conferences_count b ok, inside)

  pub few_slots : length (slots_in (spread t.posts b) place) < slot_limit
  few_slots = leb-false slot_limit (length (slots_in (spread t.posts b) place)) (or_parts (nat_le slot_limit (length (slots_in (spread t.posts b) place))) (nat_lt board_limit (board_size (spread more b))) room).0

  small : board_size (spread more b) ≤ board_limit
  small = ltb-false board_limit (board_size (spread more b)) (or_parts (nat_le slot_limit (length (slots_in (spread t.posts b) place))) (nat_lt board_limit (board_size (spread more b))) room).1

  -- ---- its slot
  here_more : length (slots_in (spread more b) place) ≡ length (slots_in (spread t.posts b) place) + 1
  here_more = omega (
    arith,
    spread_count b more place ok inside,
    spread_count b t.posts place ok inside,
    ap (length {A = Message}) (posts_hit place t.posts m),
    length-append (posts_in place t.posts) (m ∷ []),
  )

  elsewhere : (k : ℕ) → k < length b.ledger.setup.conferences → (place ≡ k → ⊥) → length (slots_in (spread more b) k) ≡ length (slots_in (spread t.posts b) k)
  elsewhere k there other = omega (arith, spread_count b more k ok there, spread_count b t.posts k ok there, ap (length {A = Message}) (posts_miss k place t.posts m (ne_eqb place k other)))

  slots_more : (k n : ℕ) → k ≡ place → n ≡ length (slots_in (spread t.posts b) place) → (j : ℕ) → j < length b.conferences → get_or (set t.slots.items k (n + 1)) j 0 ≡ length (slots_in (spread more b) j)
  slots_more k n same counted j there =
      let count = known.count in
      elim (cases_eq place j) [
        | inl alike ↦
            let at : k ≡ j = same ∙ alike in
            ap (λ (i : ℕ). get_or (set t.slots.items k (n + 1)) i 0) (sym at)
            ∙ (get_or-set_same t.slots.items k (n + 1) 0 (omega (arith, count, same, within)) ∙ (ap (λ i. i + 1) counted ∙ (sym here_more ∙ ap (λ (i : ℕ). length (slots_in (spread more b) i)) alike)))
        | inr other ↦ get_or-set_other t.slots.items k j (n + 1) 0 (λ e. other (sym same ∙ sym e)) ∙ (known.slots j there ∙ sym (elsewhere j (omega (arith, conferences_count b ok, there)) other))
      ]

  few_more : (k : ℕ) → k < length b.ledger.setup.conferences → length (slots_in (spread more b) k) ≤ slot_limit
  few_more k there = elim (cases_eq place k) [
    | inl alike ↦ omega (arith, here_more, few_slots, ap (λ (i : ℕ). length (slots_in (spread more b) i)) alike)
    | inr other ↦ omega (arith, elsewhere k there other, few_in_place (spread t.posts b) k known.board)
  ]

  -- ---- its message
  held_before : (k : ℕ) (c : SetupConference) → slice_get b.ledger.setup.conferences k ≡ Some c → All (MayHold c.kind) (posts_in k t.posts)
  held_before k c is = by (slice_get (contents_of b) k) refl
    where
      by : (o : Option Contents) → slice_get (contents_of b) k ≡ o → All (MayHold c.kind) (posts_in k t.posts)
      by None none = absurd (not_past (contents_of b) k (omega (arith, as_many b ok, slice_get_within b.ledger.setup.conferences k c is)) none)
      by (Some base) at = place_may b t.posts k base c ok at is (posted_there b t.posts b.ledger ok refl known.board k base at)

  held_more : (k : ℕ) (c : SetupConference) → slice_get b.ledger.setup.conferences k ≡ Some c → All (MayHold c.kind) (posts_in k more)
  held_more k c is = elim (cases_eq place k) [
    | inl same ↦
        let alike : takes.conference ≡ c = same_Some takes.conference c (sym takes.there ∙ (ap (slice_get b.ledger.setup.conferences) same ∙ is)) in
        let one : MayHold c.kind m = subst (λ (x : SetupConference). MayHold x.kind m) alike takes.holds in
        subst (λ (j : ℕ). All (MayHold c.kind) (posts_in k (t.posts ++ (j, m) ∷ []))) (sym same) (subst (All (MayHold c.kind)) (sym (posts_hit k t.posts m)) (All-push (MayHold c.kind) (posts_in k t.posts) m (held_before k c is) one))
    | inr other ↦ subst (All (MayHold c.kind)) (sym (posts_miss k place t.posts m (ne_eqb place k other))) (held_before k c is)
  ]

  fit_more : AreFit b more
  fit_more = record {
    held = held_more;
    few = λ k there. omega (arith, few_more k there, spread_count b more k ok there);
  }

  pub tally_more : (posts : List (ℕ × Message)) (k n size : ℕ) → posts ≡ more → k ≡ place → n ≡ get_or t.slots.items k n → size ≡ min (board_size (spread more b)) 18446744073709551615
      → IsTally b record { posts = posts; slots = with_item t.slots k (n + 1); size = size }
  tally_more posts k n size all same here is =
      let next : IsTally b record { posts = more; slots = with_item t.slots k (n + 1); size = size } = record {
        board = fit_board b more ok fit_more small;
        placed = All-push (λ (p : ℕ × Message). p.0 < length b.conferences) t.posts (place, m) known.placed within;
        count = length-set t.slots.items k (n + 1) ∙ known.count;
        slots = slots_more k n same (count_there b t place k n known within same here);
        size = omega (arith, is, small);
      } in
      subst (λ (ps : List (ℕ × Message)). IsTally b record { posts = ps; slots = with_item t.slots k (n + 1); size = size }) (sym all) next
