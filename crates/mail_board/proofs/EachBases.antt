-- The bases of boards with one outline, and the boards with one of them anew.
use Rattle.std.proofs.Common.{◌≡◌, ℕ, List, map, set, Option, Some, None, sym, ap, ◌∙◌}
use Rattle.std.specs.Prelude.{option_map, slice_get, unwrap_or}
use Rattle.std.proofs.lemmas.List.{map-set}
use Rattle.post_changes.proofs.board_changes.BaseOutlines.{conferences_outlined}
use Rattle.post_changes.specs.board_changes.Changed.{base_at, with_base}
use Rattle.board_layout.proofs.OneOutline.{alike_ledger}
use Rattle.board_layout.proofs.OutlineLaws.{outline_base, outline_contents}
use Rattle.board_layout.specs.Board.{Board, conferences_in}
use Rattle.board_layout.specs.Renewed.{contents_of}
use Rattle.board_layout.specs.jam_base.Contents.{Contents}
use Rattle.board_layout.specs.jam_base.Outlined.{outlined}
use Rattle.jam_layout.specs.Outlines.{outline}
use Rattle.mail_board.specs.Held.{AreAlike}

-- ---- two boards with one outline
module _ (a b : Board) (alike : AreAlike a b) where
  pub bases_alike : map outlined (contents_of a) ≡ map outlined (contents_of b)
  bases_alike = sym (outline_contents a) ∙ (ap contents_of alike ∙ outline_contents b)

  pub places_alike : (place : ℕ) → option_map outlined (base_at place a) ≡ option_map outlined (base_at place b)
  places_alike place = sym (outline_base a place) ∙ (ap (λ (o : Board). slice_get (contents_of o) place) alike ∙ outline_base b place)

  -- with bases of one outline in a place
  with_alike : (place : ℕ) (x y : Contents) → outlined x ≡ outlined y → AreAlike (with_base place (Some x) a) (with_base place (Some y) b)
  with_alike place x y same =
      let xs : List Contents = set (contents_of a) place x in
      let ys : List Contents = set (contents_of b) place y in
      let bases : map outlined xs ≡ map outlined ys =
      map-set outlined (contents_of a) place x ∙ ((λ i. set (bases_alike i) place (same i)) ∙ sym (map-set outlined (contents_of b) place y)) in
      let conferences : map outline (conferences_in xs) ≡ map outline (conferences_in ys) = conferences_outlined xs ∙ (ap conferences_in bases ∙ sym (conferences_outlined ys)) in
      λ i. record { ledger = alike_ledger a b alike i; conferences = conferences i }

  -- with what is made of their bases in a place, where there are such
  pub changed_base : (place : ℕ) (f g : Contents → Contents) → ((x y : Contents) → outlined x ≡ outlined y → outlined (f x) ≡ outlined (g y))
      → AreAlike (with_base place (option_map f (base_at place a)) a) (with_base place (option_map g (base_at place b)) b)
  changed_base place f g each = by (base_at place a) (base_at place b) (places_alike place)
    where
      by : (o p : Option Contents) → option_map outlined o ≡ option_map outlined p → AreAlike (with_base place (option_map f o) a) (with_base place (option_map g p) b)
      by None None same = alike
      by None (Some y) same = absurd (cc)
      by (Some x) None same = absurd (cc)
      by (Some x) (Some y) same = with_alike place (f x) (g y) (each x y (ap (λ (o : Option Contents). unwrap_or o (outlined x)) same))
