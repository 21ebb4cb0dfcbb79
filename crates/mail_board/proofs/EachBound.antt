-- Boards with one outline have as many slots and as many bytes, so that a bound of one change is that of each.
use Rattle.std.proofs.Common.{◌≡◌, ℕ, List, [], ◌∷◌, length, map, sym, ap, ◌∙◌, refl, arith}
use Rattle.std.specs.Prelude.{sum_by}
use Rattle.std.proofs.lemmas.List.{length-map}
use Rattle.std.proofs.lemmas.List.Sums.{sum_by-cons}
use Rattle.board_layout.proofs.OneOutline.{alike_size}
use Rattle.board_layout.specs.Board.{Board}
use Rattle.jam_layout.specs.Outlines.{outline, slot_outline}
use Rattle.jam_layout.specs.declared.conference.ConferenceContents.{ConferenceContents}
use Rattle.mail_board.specs.Held.{AreAlike}
use Rattle.mail_board.specs.Written.{KeepsBoundOf, slot_total}

slots_outline : (conferences : List ConferenceContents) → sum_by (λ (c : ConferenceContents). length c.slots) (map outline conferences) ≡ sum_by (λ (c : ConferenceContents). length c.slots) conferences
slots_outline [] = refl
slots_outline (c ∷ conferences) = omega (
  arith,
  sum_by-cons (λ (k : ConferenceContents). length k.slots) (outline c) (map outline conferences),
  sum_by-cons (λ (k : ConferenceContents). length k.slots) c conferences,
  length-map c.slots slot_outline,
  slots_outline conferences,
)

alike_total : (a b : Board) → AreAlike a b → slot_total a ≡ slot_total b
alike_total a b alike = sym (slots_outline a.conferences) ∙ (ap slot_total alike ∙ slots_outline b.conferences)

pub bound_alike : (a b next_a next_b : Board) (before now : ℕ) → AreAlike a b → AreAlike next_a next_b → KeepsBoundOf b next_b before now → KeepsBoundOf a next_a before now
bound_alike a b next_a next_b before now alike next kept =
    omega (arith, kept, alike_size a b alike, alike_size next_a next_b next, alike_total a b alike, alike_total next_a next_b next)
