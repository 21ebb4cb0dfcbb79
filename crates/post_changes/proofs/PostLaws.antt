-- Boards with posts at the ends of their conferences: what stands in each place, how many bytes their files have, and
-- when they are valid.
use Rattle.std.proofs.Common.{◌≡◌, ℕ, zero, suc, ◌+◌, ◌≤◌, true, leb, List, [], ◌∷◌, length, refl, sym, ap, ◌∙◌, subst, arith}
use Rattle.std.specs.Prelude.{All, slice_get, Some, sum_by}
use Rattle.std.specs.List.{AllZip}
use Rattle.std.proofs.lemmas.Bool.{and_from, and_parts, leb-true, le-leb}
use Rattle.std.proofs.lemmas.List.{length-map}
use Rattle.std.proofs.lemmas.List.Elements.{All-weaker}
use Rattle.std.proofs.lemmas.Option.{none-some, same_Some}
use Rattle.slot_changes.proofs.board_changes.OneBase.{all_at, are_bases, conferences_back, shapes_back, still_fit}
use Rattle.board_layout.proofs.BasePlaces.{IsBase, shapes_count, zipped}
use Rattle.board_layout.proofs.RenewedBases.{contents_are}
use Rattle.board_layout.proofs.SizeLaws.{size_in}
use Rattle.board_layout.specs.Board.{Board, conferences_in, shapes_in, shapes_of}
use Rattle.board_layout.specs.Layout.{base_size, board_size}
use Rattle.board_layout.specs.Renewed.{contents_of}
use Rattle.board_layout.specs.Valid.{IsBoard, board_limit, highs_fit, offers_fit}
use Rattle.board_ledger.specs.Ledger.{ledger_text}
use Rattle.board_ledger.specs.Valid.{IsLedger}
use Rattle.board_ledger.specs.declared.ledger.Ledger.{Ledger}
use Rattle.board_ledger.specs.declared.user.User.{User}
use Rattle.board_layout.specs.jam_base.Contents.{Contents}
use Rattle.board_layout.specs.jam_layout.Valid.{IsConference}
use Rattle.board_layout.specs.jam_layout.declared.conference.ConferenceContents.{ConferenceContents}
use Rattle.board_layout.specs.jam_layout.declared.shape.Shape.{Shape}
use Rattle.jam_records.specs.declared.message.Message.{Message}
use Rattle.post_changes.proofs.PlacePosts.{posted_shape, posted_slots}
use Rattle.post_changes.specs.Posted.{all_posted, posted_in, posted_with}

-- ---- all bases
module _ (b : Board) (posts : List (ℕ × Message)) where
  all_shapes : (place : ℕ) (bases : List Contents) → shapes_in (all_posted b posts place bases) ≡ shapes_in bases
  all_shapes place [] = refl
  all_shapes place (base ∷ bases) = λ i. posted_shape b posts place base i ∷ all_shapes (place + 1) bases i

  pub all_count : (place : ℕ) (bases : List Contents) → length (all_posted b posts place bases) ≡ length bases
  all_count place [] = refl
  all_count place (base ∷ bases) = ap suc (all_count (place + 1) bases)

  -- what stands in a place
  pub all_there : (place : ℕ) (bases : List Contents) (k : ℕ) (base : Contents) → slice_get bases k ≡ Some base → slice_get (all_posted b posts place bases) k ≡ Some (posted_in b posts (place + k) base)
  all_there place [] k base is = absurd (none-some base is)
  all_there place (x ∷ bases) zero base is =
      let last : place ≡ place + zero = omega arith in
      ap (λ (c : Contents). Some (posted_in b posts place c)) (same_Some x base is) ∙ ap (λ (n : ℕ). Some (posted_in b posts n base)) last
  all_there place (x ∷ bases) (suc k) base is =
      let next : place + 1 + k ≡ place + suc k = omega arith in
      all_there (place + 1) bases k base is ∙ ap (λ (n : ℕ). Some (posted_in b posts n base)) next

  -- no high is too great where it wasn't
  all_fit : (place : ℕ) (bases : List Contents) (highs : List ℕ) → highs_fit (conferences_in bases) highs ≡ true → highs_fit (conferences_in (all_posted b posts place bases)) highs ≡ true
  all_fit place [] highs fit = refl
  all_fit place (base ∷ bases) [] fit = refl
  all_fit place (base ∷ bases) (high ∷ highs) fit =
      let parts = and_parts (leb high (length base.conference.slots)) (highs_fit (conferences_in bases) highs) fit in
      let low = leb-true high (length base.conference.slots) parts.0 in
      let more : high ≤ length (posted_in b posts place base).conference.slots = omega (arith, low, posted_slots b posts place base) in
      and_from (leb high (length (posted_in b posts place base).conference.slots)) (highs_fit (conferences_in (all_posted b posts (place + 1) bases)) highs)
      (le-leb high (length (posted_in b posts place base).conference.slots) more) (all_fit (place + 1) bases highs parts.1)

-- ---- the board
-- ledgers by which the conferences have the same shapes have as many
pub shapes_places : (l m : Ledger) → shapes_of l ≡ shapes_of m → length m.setup.conferences ≡ length l.setup.conferences
shapes_places l m same = omega (arith, ap (length {A = Shape}) same, shapes_count l 0 l.setup.conferences, shapes_count m 0 m.setup.conferences)

module _ (b : Board) (posts : List (ℕ × Message)) (l : Ledger) (ok : IsBoard b) (same : shapes_of l ≡ shapes_of b.ledger) where
  pub old_shapes : shapes_in (contents_of b) ≡ shapes_of b.ledger
  old_shapes = shapes_back (shapes_of b.ledger) b.conferences ok.conferences

  pub old_conferences : conferences_in (contents_of b) ≡ b.conferences
  old_conferences = conferences_back (shapes_of b.ledger) b.conferences ok.conferences

  pub contents_places : length (contents_of b) ≡ length b.conferences
  contents_places = omega (arith, ap (length {A = ConferenceContents}) old_conferences, length-map (contents_of b) (λ (base : Contents). base.conference))

  pub new_shapes : shapes_in (all_posted b posts 0 (contents_of b)) ≡ shapes_of l
  new_shapes = all_shapes b posts 0 (contents_of b) ∙ (old_shapes ∙ sym same)

  pub contents_posted : contents_of (posted_with l posts b) ≡ all_posted b posts 0 (contents_of b)
  contents_posted = contents_are l (all_posted b posts 0 (contents_of b)) new_shapes

  pub contents_count : length (contents_of (posted_with l posts b)) ≡ length (contents_of b)
  contents_count = ap (length {A = Contents}) contents_posted ∙ all_count b posts 0 (contents_of b)

  pub base_posted : (place : ℕ) (base : Contents) → slice_get (contents_of b) place ≡ Some base → slice_get (contents_of (posted_with l posts b)) place ≡ Some (posted_in b posts place base)
  base_posted place base is =
      let here : 0 + place ≡ place = omega arith in
      ap (λ (bases : List Contents). slice_get bases place) contents_posted ∙ (all_there b posts 0 (contents_of b) place base is ∙ ap (λ (n : ℕ). Some (posted_in b posts n base)) here)

  pub posted_size : board_size (posted_with l posts b) ≡ length (ledger_text l) + sum_by base_size (all_posted b posts 0 (contents_of b))
  posted_size = size_in l (all_posted b posts 0 (contents_of b)) new_shapes

  -- ---- validity
  pub were_bases : All IsBase (contents_of b)
  were_bases = are_bases (shapes_of b.ledger) b.conferences ok.conferences

  pub posted_bases : IsBoard (posted_with l posts b) → All IsBase (all_posted b posts 0 (contents_of b))
  posted_bases next = subst (All IsBase) contents_posted (are_bases (shapes_of l) (conferences_in (all_posted b posts 0 (contents_of b))) next.conferences)

  pub posted_there : IsBoard (posted_with l posts b) → (place : ℕ) (base : Contents) → slice_get (contents_of b) place ≡ Some base → IsBase (posted_in b posts place base)
  posted_there next place base is =
      all_at IsBase (all_posted b posts 0 (contents_of b)) place (posted_in b posts place base) (ap (λ (bases : List Contents). slice_get bases place) (sym contents_posted) ∙ base_posted place base is) (posted_bases next)

  pub posted_board : IsLedger l → l.users ≡ b.ledger.users → All IsBase (all_posted b posts 0 (contents_of b)) → board_size (posted_with l posts b) ≤ board_limit → IsBoard (posted_with l posts b)
  posted_board ledger users bases small = record {
    ledger = ledger;
    conferences = subst (λ (s : List Shape). AllZip IsConference s (conferences_in (all_posted b posts 0 (contents_of b)))) new_shapes (zipped (all_posted b posts 0 (contents_of b)) bases);
    highs = subst (All (λ (u : User). offers_fit (conferences_in (all_posted b posts 0 (contents_of b))) u.offers ≡ true)) (sym users)
        (All-weaker (λ (u : User). offers_fit b.conferences u.offers ≡ true) (λ (u : User). offers_fit (conferences_in (all_posted b posts 0 (contents_of b))) u.offers ≡ true)
        (λ u fit. still_fit b.conferences (conferences_in (all_posted b posts 0 (contents_of b))) still u.offers fit) b.ledger.users ok.highs);
    small = small;
  }
    where
      still : (highs : List ℕ) → highs_fit b.conferences highs ≡ true → highs_fit (conferences_in (all_posted b posts 0 (contents_of b))) highs ≡ true
      still highs fit = all_fit b posts 0 (contents_of b) highs (subst (λ (cs : List ConferenceContents). highs_fit cs highs ≡ true) (sym old_conferences) fit)
