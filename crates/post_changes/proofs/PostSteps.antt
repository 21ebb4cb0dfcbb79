-- A change by posts with the base of one place more, and with those of all.
use Rattle.std.proofs.Common.{◌≡◌, inl, inr, ◌+◌, ◌<◌, ◌≤◌, ◌==◌, cond, ℕ, [], ◌∷◌, ◌++◌, List, length, length-append, take, slice_get, Some, Option, refl, sym, ap, ◌∙◌, subst, arith}
use Rattle.std.specs.Prelude.{IfSome, count_by, nat_lt, option_map, sum_by, unwrap_or}
use Rattle.std.proofs.lemmas.Bool.{cases_order, cond-false, cond-true, eq-eqb, le-ltb, lt-ltb, ne_eqb}
use Rattle.std.proofs.lemmas.List.{length-map, take_all, take_more}
use Rattle.std.proofs.lemmas.List.Sums.{count_by-le-length, sum_by-append, sum_by-cons}
use Rattle.slot_changes.proofs.board_changes.EachBase.{suits_alike}
use Rattle.slot_changes.proofs.board_changes.EachBoard.{gathered_leads, step_each}
use Rattle.slot_changes.proofs.board_changes.LeadLaws.{places_count}
use Rattle.slot_changes.proofs.board_changes.MemberLaws.{files_at, files_count, place_known, renewed_pushed}
use Rattle.slot_changes.proofs.board_changes.PlaceSteps.{step_joins}
use Rattle.slot_changes.proofs.board_changes.StepLaws.{change_joins, change_suits}
use Rattle.slot_changes.specs.board_changes.Change.{Becomes, ChangesBase}
use Rattle.slot_changes.specs.board_changes.Gathered.{at_place, Joins}
use Rattle.slot_changes.specs.board_changes.Outlined.{ChangesEach, GatheredEach, LeadsEach}
use Rattle.slot_changes.specs.board_changes.Spending.{Spends, SpendsHere}
use Rattle.slot_changes.specs.board_changes.Steps.{base_after, patches_or_none}
use Rattle.slot_changes.specs.board_changes.declared.change.BoardChange.{BoardChange}
use Rattle.board_layout.proofs.BasePlaces.{shapes_count}
use Rattle.board_layout.proofs.OutlineLaws.{base_size_outline, outline_base, outline_contents}
use Rattle.board_layout.specs.Board.{Board, shapes_of}
use Rattle.board_layout.specs.Layout.{base_files, base_size, board_size, files_in, no_base}
use Rattle.board_layout.specs.Outlines.{board_outline}
use Rattle.board_layout.specs.Renewed.{contents_of, renewed}
use Rattle.board_layout.specs.Valid.{IsBoard}
use Rattle.board_ledger.specs.Ledger.{ledger_text}
use Rattle.board_ledger.specs.declared.ledger.Ledger.{Ledger}
use Rattle.intent_journal.specs.Patches.{byte_count}
use Rattle.intent_journal.specs.declared.patch.Patch.{Patch}
use Rattle.board_layout.proofs.jam_base.PutBounds.{count_append}
use Rattle.board_layout.specs.jam_base.Change.{SuitsIntent}
use Rattle.board_layout.specs.jam_base.Contents.{Contents}
use Rattle.board_layout.specs.jam_base.Outlined.{outlined}
use Rattle.board_layout.specs.jam_base.declared.change.BaseChange.{BaseChange}
use Rattle.board_layout.specs.jam_layout.Layout.{files_size}
use Rattle.board_layout.specs.jam_layout.declared.files.BaseFiles.{BaseFiles}
use Rattle.jam_records.specs.declared.message.Message.{Message}
use Rattle.post_changes.proofs.EachPost.{other_shapes, posted_at, posted_keeps}
use Rattle.post_changes.proofs.PlacePosts.{count_posts}
use Rattle.post_changes.proofs.PostLaws.{base_posted, contents_count, contents_places, shapes_places}
use Rattle.post_changes.specs.Posted.{posted_in, posted_with, posts_in}
use Rattle.post_changes.specs.Posting.{Posting, SpentSoFar, next_ledger, posts_before, size_before}

-- ---- how many posts, and how many bytes
before_here : (n place : ℕ) → cond (nat_lt n (place + 1)) 1 0 ≡ cond (nat_lt n place) 1 0 + cond (n == place) 1 0
before_here n place = elim (cases_order n place) [
  | inl is ↦ omega (arith, cond-true {A = ℕ} (nat_lt n (place + 1)) 1 0 (lt-ltb n (place + 1) (omega (arith, is))), cond-false {A = ℕ} (nat_lt n place) 1 0 (le-ltb n place (omega (arith, is))), cond-true {A = ℕ} (n == place) 1 0 (eq-eqb n place is))
  | inr (inl less) ↦ omega (arith, cond-true {A = ℕ} (nat_lt n (place + 1)) 1 0 (lt-ltb n (place + 1) (omega (arith, less))), cond-true {A = ℕ} (nat_lt n place) 1 0 (lt-ltb n place less), cond-false {A = ℕ} (n == place) 1 0 (ne_eqb n place (λ e. omega (arith, e, less))))
  | inr (inr more) ↦ omega (arith, cond-false {A = ℕ} (nat_lt n (place + 1)) 1 0 (le-ltb n (place + 1) (omega (arith, more))), cond-false {A = ℕ} (nat_lt n place) 1 0 (le-ltb n place (omega (arith, more))), cond-false {A = ℕ} (n == place) 1 0 (ne_eqb n place (λ e. omega (arith, e, more))))
]

before_counted : (place : ℕ) (posts : List (ℕ × Message)) → posts_before (place + 1) posts ≡ posts_before place posts + count_by (λ post. post.0 == place) posts
before_counted place [] = refl
before_counted place (post ∷ posts) = omega (
  arith,
  sum_by-cons (λ (p : ℕ × Message). cond (nat_lt p.0 (place + 1)) 1 0) post posts,
  sum_by-cons (λ (p : ℕ × Message). cond (nat_lt p.0 place) 1 0) post posts,
  sum_by-cons (λ (p : ℕ × Message). cond (p.0 == place) 1 0) post posts,
  before_here post.0 place,
  before_counted place posts,
)

before_more : (place : ℕ) (posts : List (ℕ × Message)) → posts_before (place + 1) posts ≡ posts_before place posts + length (posts_in place posts)
before_more place posts = omega (arith, before_counted place posts, count_posts place posts)

size_more : (b : Board) (place : ℕ) (base : Contents) → IsBoard b → slice_get (contents_of b) place ≡ Some base → size_before (place + 1) b ≡ size_before place b + files_size (files_in base)
size_more b place base ok here =
    let files : List BaseFiles = base_files b in
    let within : place < length files = omega (arith, files_count b ok, place_known b place base here, shapes_count b.ledger 0 b.ledger.setup.conferences) in
    omega (
      arith,
      ap (sum_by files_size) (take_more files place no_base within),
      sum_by-append files_size (take place files) (at_place files place ∷ []),
      sum_by-cons files_size (at_place files place) [],
      ap files_size (files_at b place base here),
    )

-- ---- no place yet
none_yet : (xs ys : List Contents) → renewed (take 0 xs) [] ≡ take 0 ys
none_yet [] [] = refl
none_yet [] (y ∷ ys) = refl
none_yet (x ∷ xs) [] = refl
none_yet (x ∷ xs) (y ∷ ys) = refl

no_files : (files : List BaseFiles) → sum_by files_size (take 0 files) ≡ 0
no_files [] = refl
no_files (f ∷ files) = refl

pub spent_begun : (b : Board) (posts : List (ℕ × Message)) (l : Ledger) (patches : List Patch) → length patches ≤ 2 → length (ledger_text b.ledger) + byte_count patches ≤ length (ledger_text l) + 4 → SpentSoFar b posts 0 l patches
spent_begun b posts l patches few grown = record { few = omega (arith, few); grown = omega (arith, grown, no_files (base_files b), no_files (base_files (posted_with l posts b))) }

pub posting_begun : (b : Board) (posts : List (ℕ × Message)) (change : BoardChange) → shapes_of (next_ledger b change) ≡ shapes_of b.ledger → IsBoard (posted_with (next_ledger b change) posts b) → change.bases ≡ []
    → GatheredEach b (posted_with (next_ledger b change) posts) 0 change.intent → SpentSoFar b posts 0 (next_ledger b change) change.intent → Posting b posts 0 change
posting_begun b posts change shapes next none gathered spent = record {
  shapes = shapes;
  next = next;
  bases = ap (renewed (take 0 (contents_of b))) none ∙ none_yet (contents_of b) (contents_of (board_outline (posted_with (next_ledger b change) posts b)));
  counted = ap length none;
  gathered = gathered;
  spent = spent;
}

-- ---- one place more
module _ (b : Board) (posts : List (ℕ × Message)) (place : ℕ) (base : Contents) (change : BoardChange) (made : Option BaseChange) (ok : IsBoard b) (here : slice_get (contents_of b) place ≡ Some base)
    (is : base_after base made ≡ outlined (posted_in b posts place base)) (changes : IfSome made (ChangesBase base)) (each : ChangesEach base (posted_in b posts place) (patches_or_none made)) (so_far : Posting b posts place change) where
  abbrev next : Board
  next = posted_with (next_ledger b change) posts b

  there : slice_get (contents_of next) place ≡ Some (posted_in b posts place base)
  there = base_posted b posts (next_ledger b change) ok so_far.shapes place base here

  there_outlined : slice_get (contents_of (board_outline next)) place ≡ Some (base_after base made)
  there_outlined = outline_base next place ∙ (ap (option_map outlined) there ∙ ap Some (sym is))

  suits : SuitsIntent base.shape.place (files_in (posted_in b posts place base)) (patches_or_none made)
  suits =
      suits_alike base.shape.place (files_in (outlined (posted_in b posts place base))) (files_in (posted_in b posts place base)) (patches_or_none made) (base_size_outline (posted_in b posts place base))
      (change_suits base (outlined (posted_in b posts place base)) made changes is)

  pub post_joins : IfSome made (λ c. Joins change.intent c.patches)
  post_joins = change_joins change.intent made
      (step_joins b next place base (posted_in b posts place base) change.intent (patches_or_none made) ok so_far.next here there (so_far.gathered.gathered b ok refl) (each.files.turns base refl) suits)

  spent_more : SpendsHere (length (posts_in place posts)) (files_in base) (files_in (base_after base made)) (patches_or_none made) → SpentSoFar b posts (place + 1) (next_ledger b change) (change.intent ++ patches_or_none made)
  spent_more costs =
      let posts_more = before_more place posts in
      record {
        few = omega (arith, so_far.spent.few, costs.few, posts_more, length-append change.intent (patches_or_none made));
        grown = omega (
          arith,
          so_far.spent.grown,
          costs.grown,
          posts_more,
          count_append change.intent (patches_or_none made),
          size_more b place base ok here,
          size_more next place (posted_in b posts place base) so_far.next there,
          ap base_size is,
          base_size_outline (posted_in b posts place base),
        );
      }

  one_more : (new : Option Contents) → SpendsHere (length (posts_in place posts)) (files_in base) (files_in (base_after base made)) (patches_or_none made) → new ≡ option_map (λ c. c.base) made → Posting b posts (place + 1) (record { ledger = change.ledger; bases = change.bases ++ new ∷ []; intent = change.intent ++ patches_or_none made })
  one_more new costs same = record {
    shapes = so_far.shapes;
    next = so_far.next;
    bases = renewed_pushed (contents_of b) (contents_of (board_outline next)) change.bases place base new so_far.bases so_far.counted here (there_outlined ∙ ap (λ (o : Option Contents). Some (unwrap_or o base)) (sym same));
    counted = omega (arith, length-append change.bases (new ∷ []), so_far.counted);
    gathered = step_each b (posted_with (next_ledger b change) posts) place base (posted_in b posts place) change.intent (patches_or_none made) here (posted_keeps b posts (next_ledger b change) ok so_far.shapes so_far.next)
        (λ other valid alike one at. posted_at b posts (next_ledger b change) ok so_far.shapes other valid alike place one at) each suits so_far.gathered;
    spent = spent_more costs;
  }

  pub post_more : (after : BoardChange) (new : Option Contents) → SpendsHere (length (posts_in place posts)) (files_in base) (files_in (base_after base made)) (patches_or_none made) → new ≡ option_map (λ c. c.base) made → after.ledger ≡ change.ledger → after.bases ≡ change.bases ++ new ∷ [] → after.intent ≡ change.intent ++ patches_or_none made → Posting b posts (place + 1) after
  post_more after new costs same ledger bases intent =
      let all : after ≡ record { ledger = change.ledger; bases = change.bases ++ new ∷ []; intent = change.intent ++ patches_or_none made } = λ i. record { ledger = ledger i; bases = bases i; intent = intent i } in
      subst (Posting b posts (place + 1)) (sym all) (one_more new costs same)

-- ---- all places
pub posts_lead : (b : Board) (posts : List (ℕ × Message)) (count : ℕ) (change : BoardChange) → IsBoard b → count ≡ length (contents_of b) → Posting b posts count change → LeadsEach b (posted_with (next_ledger b change) posts) change.intent
posts_lead b posts count change ok all posting =
    let l : Ledger = next_ledger b change in
    let end : count ≡ length b.conferences = all ∙ contents_places b posts l ok posting.shapes in
    gathered_leads b (posted_with l posts) change.intent (posted_keeps b posts l ok posting.shapes posting.next) (λ other alike. shapes_places l other.ledger (other_shapes b posts l ok posting.shapes other alike))
    (subst (λ (k : ℕ). GatheredEach b (posted_with l posts) k change.intent) end posting.gathered)

pub posts_become : (b : Board) (posts : List (ℕ × Message)) (count : ℕ) (change : BoardChange) → IsBoard b → count ≡ length (contents_of b) → Posting b posts count change → Becomes b (board_outline (posted_with (next_ledger b change) posts b)) change
posts_become b posts count change ok all posting =
    let next : Board = posted_with (next_ledger b change) posts b in
    record {
      ledger = refl;
      bases = ap (λ (xs : List Contents). renewed xs change.bases) (sym (take_all count (contents_of b) (omega (arith, all))))
          ∙ (posting.bases ∙ take_all count (contents_of (board_outline next)) (omega (arith, all, contents_count b posts (next_ledger b change) ok posting.shapes, ap length (outline_contents next), length-map (contents_of next) outlined)));
    }

-- the size of all data files
size_all : (b : Board) (count : ℕ) → IsBoard b → count ≡ length b.ledger.setup.conferences → size_before count b ≡ board_size b
size_all b count ok all = ap (λ (files : List BaseFiles). length (ledger_text b.ledger) + sum_by files_size files) (take_all count (base_files b) (omega (arith, all, files_count b ok)))

pub posts_spend : (b : Board) (posts : List (ℕ × Message)) (count : ℕ) (change : BoardChange) → IsBoard b → count ≡ length (contents_of b) → Posting b posts count change → Spends (length posts) b (posted_with (next_ledger b change) posts b) change.intent
posts_spend b posts count change ok all posting =
    let next : Board = posted_with (next_ledger b change) posts b in
    let places : count ≡ length b.ledger.setup.conferences = all ∙ (contents_places b posts (next_ledger b change) ok posting.shapes ∙ (places_count b ok ∙ files_count b ok)) in
    let places_next : count ≡ length next.ledger.setup.conferences = places ∙ shapes_places (next_ledger b change) b.ledger posting.shapes in
    let most : posts_before count posts ≤ length posts = count_by-le-length (λ (post : ℕ × Message). nat_lt post.0 count) posts in
    record {
      few = omega (arith, posting.spent.few, most);
      grown = omega (arith, posting.spent.grown, most, size_all b count ok places, size_all next count posting.next places_next);
    }
