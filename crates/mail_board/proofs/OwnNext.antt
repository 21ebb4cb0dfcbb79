-- A change of a board that is its own outline, which adds no body, gives a board that is its own outline.
use Rattle.std.proofs.Common.{◌≡◌, ℕ, Bool, true, false, cond, List, Option, Some, None, Result, refl, sym, ap, ◌∙◌, subst}
use Rattle.std.specs.Prelude.{IfOk, option_map}
use Rattle.post_changes.proofs.board_changes.BaseOutlines.{outline_with, own_base}
use Rattle.post_changes.proofs.board_changes.EachMember.{member_outline}
use Rattle.post_changes.specs.board_changes.Change.{Becomes}
use Rattle.post_changes.specs.board_changes.Changed.{base_at, with_base, with_member}
use Rattle.post_changes.specs.board_changes.declared.change.BoardChange.{BoardChange}
use Rattle.board_layout.specs.Board.{Board}
use Rattle.board_layout.specs.Lookups.{user_of}
use Rattle.board_layout.specs.Outlines.{board_outline}
use Rattle.board_ledger.specs.declared.user.User.{User}
use Rattle.board_layout.proofs.jam_base.OutlineChanges.{killed_blind}
use Rattle.board_layout.specs.jam_base.Contents.{Contents, with_deleted}
use Rattle.board_layout.specs.jam_base.Outlined.{outlined}
use Rattle.board_layout.specs.jam_base.Slots.{has_live}
use Rattle.offer_changes.specs.Changed.{for_user, offer_made, offered_to}
use Rattle.post_changes.specs.slot_changes.Changed.{deleted, with_killed}
use Rattle.mail_board.proofs.EachNext.{offer_outline}

killed_own : (number : ℕ) (base : Contents) → outlined base ≡ base → outlined (with_killed number base) ≡ with_killed number base
killed_own number base own = by (has_live number base.conference.slots) refl
  where
    by : (live : Bool) → has_live number base.conference.slots ≡ live → outlined (cond live (with_deleted number base) base) ≡ cond live (with_deleted number base) base
    by true is = (killed_blind base number is).outline base refl ∙ ap (with_deleted number) own
    by false is = own

module _ (b : Board) (own : board_outline b ≡ b) where
  pub enrolled_own : (u : User) → board_outline (with_member u b) ≡ with_member u b
  enrolled_own u = member_outline u b ∙ ap (with_member u) own

  pub deleted_own : (place number : ℕ) → board_outline (deleted place number b) ≡ deleted place number b
  deleted_own place number = by (base_at place b) refl
    where
      by : (o : Option Contents) → base_at place b ≡ o → board_outline (with_base place (option_map (with_killed number) o) b) ≡ with_base place (option_map (with_killed number) o) b
      by None here = own
      by (Some base) here =
          outline_with b place (with_killed number base) own ∙ ap (λ (c : Contents). with_base place (Some c) b) (killed_own number base (own_base b place base own here))

  pub offered_own : (id : ℕ) (highs : List ℕ) → board_outline (offer_made id highs b) ≡ offer_made id highs b
  offered_own id highs = offer_outline id highs (user_of id b) b ∙ ap (for_user (offered_to id highs) (user_of id b)) own

-- what becomes of the board is the outline of that
pub becomes_own : {E : Type 0} (b next : Board) (r : Result BoardChange E) → board_outline next ≡ next → IfOk r (Becomes b next) → IfOk r (Becomes b (board_outline next))
becomes_own b next r own becomes = subst (λ (made : Board). IfOk r (Becomes b made)) (sym own) becomes
