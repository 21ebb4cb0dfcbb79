-- The message of a number may be deleted just where there is one that isn't, and which turn is taken.
use Rattle.std.proofs.Common.{◌≡◌, ℕ, Bool, true, false, Option, Some, None, refl, sym, ◌∙◌, ap}
use Rattle.std.proofs.lemmas.Bool.{cond-false, cond-true, true≢false}
use Rattle.std.specs.Option.{option_map_or}
use Rattle.std.specs.Prelude.{IsSomeAnd, IsTrue, option_map, unwrap_or, ◌↔◌}
use Rattle.post_changes.specs.board_changes.Changed.{base_at}
use Rattle.cmd_board.specs.Turns.{refuses}
use Rattle.board_layout.proofs.OutlineLaws.{outline_has_live}
use Rattle.board_layout.specs.Board.{Board}
use Rattle.board_layout.specs.Valid.{IsBoard}
use Rattle.board_layout.specs.Lookups.{place_of}
use Rattle.board_layout.specs.jam_base.Contents.{Contents}
use Rattle.board_layout.specs.jam_base.Outlined.{outlined}
use Rattle.board_layout.specs.jam_base.Slots.{has_live}
use Rattle.cmd_board.proofs.mail_board.EachBases.{places_alike}
use Rattle.cmd_board.specs.mail_board.Changes.{Fits}
use Rattle.cmd_board.specs.mail_board.Held.{AreAlike}
use Rattle.cmd_board.specs.mail_board.declared.change.Change.{Change}
use Rattle.cmd_board.specs.mail_board.declared.change.Change.TheVariants.{Kill}
use Rattle.cmd_board.specs.shelf_files.declared.refusal.Refusal.TheVariants.{NoConference, NoMessage}
use Rattle.post_changes.proofs.slot_changes.DeleteLaws.{deleted_board}
use Rattle.post_changes.specs.slot_changes.Changed.{HasMessage, deleted}
use Rattle.cmd_board.proofs.ChangeExits.{carried}
use Rattle.cmd_board.proofs.PlaceAlike.{place_alike}
use Rattle.cmd_messages.specs.Kill.{has_message, kill_at, kill_turn, killed_line}

abbrev live_in : ℕ → Contents → Bool
live_in number base = has_live number base.conference.slots

module _ (b : Board) (place number : ℕ) where
  has_gives : has_message place number b ≡ true → HasMessage place number b
  has_gives has = by (base_at place b) has
    where
      by : (o : Option Contents) → option_map_or (live_in number) o false ≡ true → IsSomeAnd o (λ (base : Contents). live_in number base ≡ true)
      by None e = absurd (cc e)
      by (Some base) e = e

  gives_has : HasMessage place number b → has_message place number b ≡ true
  gives_has has = by (base_at place b) has
    where
      by : (o : Option Contents) → IsSomeAnd o (λ (base : Contents). live_in number base ≡ true) → option_map_or (live_in number) o false ≡ true
      by None is = absurd is
      by (Some base) is = is

  kill_fits : IsBoard b → has_message place number b ≡ true → Fits (Kill place number) b
  kill_fits ok has = (has_gives has, by (base_at place b) refl has)
    where
      by : (o : Option Contents) → base_at place b ≡ o → option_map_or (live_in number) o false ≡ true → IsBoard (deleted place number b)
      by None here e = absurd (cc e)
      by (Some base) here e = deleted_board b place number base ok here e

  pub fits_has : Fits (Kill place number) b → has_message place number b ≡ true
  fits_has fits = gives_has fits.0

  pub misfit_has : (fits : Bool) → IsBoard b → IsTrue fits ↔ Fits (Kill place number) b → fits ≡ false → has_message place number b ≡ false
  misfit_has fits ok told never = by (has_message place number b) refl
    where
      by : (has : Bool) → has_message place number b ≡ has → has ≡ false
      by true is = absurd (true≢false (sym (told.1 (kill_fits ok is)) ∙ never))
      by false is = refl

-- ---- boards with one outline
there_alike : (number : ℕ) (o p : Option Contents) → option_map outlined o ≡ option_map outlined p → option_map_or (live_in number) o false ≡ option_map_or (live_in number) p false
there_alike number None None same = refl
there_alike number None (Some y) same = absurd (cc)
there_alike number (Some x) None same = absurd (cc)
there_alike number (Some x) (Some y) same =
    let one : outlined x ≡ outlined y = ap (λ (o : Option Contents). unwrap_or o (outlined x)) same in
    sym (outline_has_live x.conference.slots number) ∙ (ap (λ (c : Contents). has_live number c.conference.slots) one ∙ outline_has_live y.conference.slots number)

pub has_alike : (a b : Board) → AreAlike a b → (place number : ℕ) → has_message place number a ≡ has_message place number b
has_alike a b alike place number = there_alike number (base_at place a) (base_at place b) (places_alike a b alike place)

-- ---- the turn
module _ (conference number : ℕ) (b : Board) where
  pub turn_unplaced : place_of conference b ≡ None → (real : Board) → AreAlike real b → refuses NoConference (Some real) ≡ kill_turn conference number (Some real)
  turn_unplaced none real alike = sym (ap (kill_at conference number real) (place_alike real b alike conference ∙ none))

  module _ (place : ℕ) (place_is : place_of conference b ≡ Some place) where
    pub turn_missing : has_message place number b ≡ false → (real : Board) → AreAlike real b → refuses NoMessage (Some real) ≡ kill_turn conference number (Some real)
    turn_missing none real alike =
        sym (ap (kill_at conference number real) (place_alike real b alike conference ∙ place_is) ∙ cond-false (has_message place number real) _ _ (has_alike real b alike place number ∙ none))

    pub turn_killing : has_message place number b ≡ true → (change : Change) → change ≡ Kill place number → (real : Board) → AreAlike real b → carried change real (killed_line conference number) ≡ kill_turn conference number (Some real)
    turn_killing has change is real alike =
        ap (λ (k : Change). carried k real (killed_line conference number)) is
        ∙ sym (ap (kill_at conference number real) (place_alike real b alike conference ∙ place_is) ∙ cond-true (has_message place number real) _ _ (has_alike real b alike place number ∙ has))
