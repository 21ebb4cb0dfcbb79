-- Posts at the ends of the conferences of each board with one outline.
use Rattle.std.proofs.Common.{◌≡◌, ℕ, ◌+◌, List, [], ◌∷◌, length, map, Some, refl, sym, ap, ◌∙◌, subst, arith}
use Rattle.std.specs.Prelude.{All, slice_get}
use Rattle.std.specs.List.{AllZip}
use Rattle.std.proofs.lemmas.List.Elements.{All-nil, All-cons, All-head, All-tail}
use Rattle.slot_changes.proofs.board_changes.BaseOutlines.{conferences_outlined}
use Rattle.slot_changes.proofs.board_changes.EachBoard.{leads_as}
use Rattle.slot_changes.proofs.board_changes.GatherLaws.{gathered_kept}
use Rattle.slot_changes.specs.board_changes.Outlined.{ChangesEach, GatheredEach, KeepsEach, LeadsEach}
use Rattle.board_layout.proofs.BasePlaces.{IsBase, zipped}
use Rattle.board_layout.proofs.OneOutline.{alike_count, alike_ledger, alike_valid}
use Rattle.board_layout.proofs.OutlineLaws.{outline_contents}
use Rattle.board_layout.specs.Board.{Board, conferences_in, shapes_of}
use Rattle.board_layout.specs.Layout.{IsLayout, base_files, files_in}
use Rattle.board_layout.specs.Outlines.{board_outline}
use Rattle.board_layout.specs.Renewed.{contents_of}
use Rattle.board_layout.specs.Valid.{IsBoard}
use Rattle.board_ledger.specs.Ledger.{ledger_text}
use Rattle.board_ledger.specs.declared.ledger.Ledger.{Ledger}
use Rattle.intent_journal.specs.declared.patch.Patch.{Patch}
use Rattle.board_layout.proofs.jam_base.PatchLaws.{nothing_turns}
use Rattle.board_layout.specs.jam_base.Contents.{Contents, with_messages}
use Rattle.board_layout.specs.jam_base.Outlined.{outlined, TurnsEach}
use Rattle.board_layout.specs.jam_layout.Messages.{IsMessage}
use Rattle.board_layout.specs.jam_layout.Valid.{IsConference}
use Rattle.board_layout.specs.jam_layout.declared.conference.ConferenceContents.{ConferenceContents}
use Rattle.board_layout.specs.jam_layout.declared.shape.Shape.{Shape}
use Rattle.jam_records.specs.declared.message.Kind.{Kind}
use Rattle.jam_records.specs.declared.message.Message.{Message}
use Rattle.post_changes.proofs.PlacePosts.{posted_base, posted_few, posted_messages}
use Rattle.post_changes.proofs.PostLaws.{base_posted, new_shapes, posted_bases, were_bases}
use Rattle.post_changes.specs.Posted.{all_posted, posted_in, posted_with, posts_in, spread}
use Rattle.slot_changes.proofs.EachSlots.{identified_each, identified_same, msgids_alike}
use Rattle.slot_changes.specs.Changed.{with_identified}
use Rattle.slot_changes.specs.Msgids.{all_identified, msgid_in}

-- ---- the base of one place
-- the copies of its posts are put at the end, or there are none
pub posted_each : (b : Board) (posts : List (ℕ × Message)) (place : ℕ) (base : Contents) (copies : List Message) (patches : List Patch) → copies ≡ all_identified (msgid_in place b) (length base.conference.slots + 1) (posts_in place posts)
    → TurnsEach base (with_messages copies) patches → ChangesEach base (posted_in b posts place) patches
posted_each b posts place base copies patches are each =
    identified_each base (msgid_in place b) (posts_in place posts) patches (subst (λ (ms : List Message). TurnsEach base (with_messages ms) patches) are each)

pub nothing_each : (base : Contents) (copies : List Message) → copies ≡ [] → TurnsEach base (with_messages copies) []
nothing_each base copies none =
    subst (λ (ms : List Message). TurnsEach base (with_messages ms) []) (sym none) (record { turns = λ other alike. nothing_turns base.shape.place (files_in other) })

-- ---- all bases
pub head_is : (x y : Contents) (xs ys : List Contents) → x ∷ xs ≡ y ∷ ys → x ≡ y
head_is x y xs ys e = cc

pub tail_is : (x y : Contents) (xs ys : List Contents) → x ∷ xs ≡ y ∷ ys → xs ≡ ys
tail_is x y xs ys e = cc

module _ (a b : Board) (alike : board_outline a ≡ board_outline b) (posts : List (ℕ × Message)) where
  -- both give the posts the same msgids
  one_same : (place : ℕ) (base : Contents) → posted_in a posts place base ≡ posted_in b posts place base
  one_same place base = ap (λ (msgid : ℕ → List ℕ). with_identified msgid (posts_in place posts) base) (msgids_alike a b place alike)

  all_outline : (place : ℕ) (xs ys : List Contents) → map outlined xs ≡ map outlined ys → map outlined (all_posted a posts place xs) ≡ map outlined (all_posted b posts place ys)
  all_outline place [] [] same = refl
  all_outline place [] (y ∷ ys) same = absurd (cc)
  all_outline place (x ∷ xs) [] same = absurd (cc)
  all_outline place (x ∷ xs) (y ∷ ys) same =
      let here = head_is (outlined x) (outlined y) (map outlined xs) (map outlined ys) same in
      let one : outlined (posted_in a posts place x) ≡ outlined (posted_in b posts place y) = ap outlined (one_same place x) ∙ identified_same y (msgid_in place b) (posts_in place posts) x here in
      λ i. one i ∷ all_outline (place + 1) xs ys (tail_is (outlined x) (outlined y) (map outlined xs) (map outlined ys) same) i

  -- and both get one outline
  pub posted_outline : (l : Ledger) → board_outline (posted_with l posts a) ≡ board_outline (posted_with l posts b)
  posted_outline l =
      let same : map outlined (contents_of a) ≡ map outlined (contents_of b) = sym (outline_contents a) ∙ (ap contents_of alike ∙ outline_contents b) in
      ap (λ (cs : List ConferenceContents). record { ledger = l; conferences = cs })
      (conferences_outlined (all_posted a posts 0 (contents_of a)) ∙ (ap conferences_in (all_outline 0 (contents_of a) (contents_of b) same) ∙ sym (conferences_outlined (all_posted b posts 0 (contents_of b)))))

  one_base : (place : ℕ) (x y : Contents) → outlined x ≡ outlined y → IsBase x → IsBase (posted_in b posts place y) → IsBase (posted_in a posts place x)
  one_base place x y same was next =
      let messages : Contents → List Message = λ (c : Contents). all_identified (msgid_in place b) (length c.conference.slots + 1) (posts_in place posts) in
      let count = alike_count x y same in
      let given : messages y ≡ messages x = ap (λ (n : ℕ). all_identified (msgid_in place b) (n + 1) (posts_in place posts)) (sym count) in
      let kind : y.shape.kind ≡ x.shape.kind = ap (λ (c : Contents). c.shape.kind) (sym same) in
      let all : All (IsMessage x.shape.kind) (messages x) = subst (λ (k : Kind). All (IsMessage k) (messages x)) kind (subst (All (IsMessage y.shape.kind)) given (posted_messages b posts place y next)) in
      let few = posted_few b posts place y next in
      subst IsBase (sym (one_same place x)) (posted_base b posts place x was all (omega (arith, few, count)))

  each_base : (place : ℕ) (xs ys : List Contents) → map outlined xs ≡ map outlined ys → All IsBase xs → All IsBase (all_posted b posts place ys) → All IsBase (all_posted a posts place xs)
  each_base place [] ys same was next = All-nil IsBase
  each_base place (x ∷ xs) [] same was next = absurd (cc)
  each_base place (x ∷ xs) (y ∷ ys) same was next =
      let here = head_is (outlined x) (outlined y) (map outlined xs) (map outlined ys) same in
      let others = tail_is (outlined x) (outlined y) (map outlined xs) (map outlined ys) same in
      All-cons IsBase (posted_in a posts place x) (all_posted a posts (place + 1) xs) (one_base place x y here (All-head IsBase x xs was) (All-head IsBase (posted_in b posts place y) (all_posted b posts (place + 1) ys) next))
      (each_base (place + 1) xs ys others (All-tail IsBase x xs was) (All-tail IsBase (posted_in b posts place y) (all_posted b posts (place + 1) ys) next))

-- ---- the board
module _ (b : Board) (posts : List (ℕ × Message)) (l : Ledger) (ok : IsBoard b) (shapes : shapes_of l ≡ shapes_of b.ledger) where
  pub other_shapes : (other : Board) → board_outline other ≡ board_outline b → shapes_of l ≡ shapes_of other.ledger
  other_shapes other alike = shapes ∙ ap shapes_of (sym (alike_ledger other b alike))

  keeps_one : IsBoard (posted_with l posts b) → (other : Board) → IsBoard other → board_outline other ≡ board_outline b → IsBoard (posted_with l posts other)
  keeps_one next other valid alike =
      let bases : List Contents = all_posted other posts 0 (contents_of other) in
      let same : map outlined (contents_of other) ≡ map outlined (contents_of b) = sym (outline_contents other) ∙ (ap contents_of alike ∙ outline_contents b) in
      let own = other_shapes other alike in
      let all = each_base other b alike posts 0 (contents_of other) (contents_of b) same (were_bases other posts l valid own) (posted_bases b posts l ok shapes next) in
      alike_valid (posted_with l posts other) (posted_with l posts b) (posted_outline other b alike posts l) next (subst (λ (s : List Shape). AllZip IsConference s (conferences_in bases)) (new_shapes other posts l valid own) (zipped bases all))

  pub posted_keeps : IsBoard (posted_with l posts b) → KeepsEach b (posted_with l posts)
  posted_keeps next = record { valid = keeps_one next }

  -- what stands in a place of each
  pub posted_at : (other : Board) → IsBoard other → board_outline other ≡ board_outline b → (place : ℕ) (base : Contents) → slice_get (contents_of other) place ≡ Some base → slice_get (contents_of (posted_with l posts other)) place ≡ Some (posted_in b posts place base)
  posted_at other valid alike place base here = base_posted other posts l valid (other_shapes other alike) place base here ∙ ap Some (one_same other b alike posts place base)

-- ---- where the ledger stays
pub spread_begun : (b : Board) (posts : List (ℕ × Message)) → GatheredEach b (posted_with b.ledger posts) 0 []
spread_begun b posts = record {
  gathered = λ other valid alike.
      gathered_kept (IsLayout other) (ledger_text b.ledger) (base_files other) (base_files (posted_with b.ledger posts other)) (λ files is. is.places) (λ files is. is.ledger ∙ ap ledger_text (alike_ledger other b alike));
}

pub spread_leads : (b : Board) (posts : List (ℕ × Message)) (intent : List Patch) → LeadsEach b (posted_with b.ledger posts) intent → LeadsEach b (spread posts) intent
spread_leads b posts intent each = leads_as b (posted_with b.ledger posts) (spread posts) intent (λ other alike. ap (λ (l : Ledger). posted_with l posts other) (sym (alike_ledger other b alike))) each
