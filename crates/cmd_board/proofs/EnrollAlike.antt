-- Boards with one outline enroll a user alike.
use Rattle.std.proofs.Common.{◌≡◌, ℕ, ◌+◌, Bool, not, List, [], ◌∷◌, length, Option, Some, None, Ok, Err, refl, sym, ap, ◌∙◌, subst}
use Rattle.std.specs.Prelude.{is_some, nat_le, nat_lt}
use Rattle.mail_board.specs.board_changes.Changed.{enrolled}
use Rattle.board_layout.proofs.OneOutline.{alike_ledger, alike_size}
use Rattle.board_layout.specs.Board.{Board}
use Rattle.board_layout.specs.Outlines.{board_outline}
use Rattle.board_layout.specs.Valid.{board_limit}
use Rattle.board_ledger.specs.Limits.{user_limit}
use Rattle.board_ledger.specs.declared.ledger.Ledger.{Ledger}
use Rattle.cmd_words.specs.Choice.{ChoiceReads, has_unknown, chosen_from}
use Rattle.cmd_words.specs.declared.choice.Choice.{Choice}
use Rattle.mail_board.proofs.EachNext.{changed_alike}
use Rattle.mail_board.specs.Changes.{changed, Fits}
use Rattle.mail_board.specs.Held.{AreAlike}
use Rattle.mail_board.specs.Readers.{user_id}
use Rattle.mail_board.specs.declared.change.Change.{Change}
use Rattle.mail_board.specs.declared.change.Change.TheVariants.{Enroll}
use Rattle.setup_file.specs.Texts.{is_user_name}
use Rattle.shelf_files.specs.Halts.{done}
use Rattle.shelf_files.specs.declared.refusal.Refusal.{Refusal}
use Rattle.shelf_files.specs.declared.refusal.Refusal.TheVariants.{NotMade, Name, DupUser, NoConference, Users, Size}
use Rattle.cmd_board.specs.Enroll.{enroll_refusals, enrolling, first_refusal, is_net_flag, user_line, board_with_user}
use Rattle.cmd_board.specs.Enrolling.{MayEnroll}
use Rattle.cmd_board.specs.Kept.{AreLike}
use Rattle.cmd_board.specs.declared.enrollment.Enrolling.{Enrolling}
use Rattle.cmd_board.specs.declared.halt.BoardHalt.TheVariants.{Refused}
use Rattle.cmd_board.proofs.EnrollLaws.{user_fits}

-- ---- the refusals, by the ledger and the size of the next board
abbrev refusals_of : List ℕ → Bool → Choice → Ledger → ℕ → List (Bool × Refusal)
refusals_of name net choice l size =
    (not (is_user_name name), Name)
    ∷ (is_some (user_id name (record { ledger = l; conferences = [] })), DupUser)
    ∷ (has_unknown choice l.setup.conferences, NoConference)
    ∷ (nat_le user_limit (length l.users), Users)
    ∷ (nat_lt board_limit size, Size size)
    ∷ []

module _ (name : List ℕ) (net : Bool) (choice : Choice) (a b : Board) (alike : AreAlike a b) where
  with_alike : AreAlike (board_with_user name net choice a) (board_with_user name net choice b)
  with_alike =
      changed_alike a b alike (Enroll name net (chosen_from choice 0 a.ledger.setup.conferences))
      ∙ ap (λ (l : Ledger). board_outline (enrolled name net (chosen_from choice 0 l.setup.conferences) b)) (alike_ledger a b alike)

  first_same : first_refusal (enroll_refusals name net choice a) ≡ first_refusal (enroll_refusals name net choice b)
  first_same = λ i. first_refusal (refusals_of name net choice (alike_ledger a b alike i) (alike_size (board_with_user name net choice a) (board_with_user name net choice b) with_alike i))

-- ---- what is found, for each board with the outline that is kept
pub none_made : (name flags conferences : List ℕ) (choice : Choice) → ChoiceReads conferences choice → (kept : Option Board) → kept ≡ None → (board : Option Board) → AreLike board kept → MayEnroll name flags conferences board (Err (Refused NotMade))
none_made name flags conferences choice reads kept none None like = (choice, reads, refl)
none_made name flags conferences choice reads kept none (Some b) like = absurd (subst (AreLike (Some b)) none like)

module _ (name flags conferences : List ℕ) (choice : Choice) (reads : ChoiceReads conferences choice) (held : Board) (kept : Option Board) (here : kept ≡ Some held) where
  pub refused_alike : (why : Refusal) → first_refusal (enroll_refusals name (is_net_flag flags) choice held) ≡ Some why → (board : Option Board) → AreLike board kept → MayEnroll name flags conferences board (Err (Refused why))
  refused_alike why is None like = absurd (subst (AreLike None) here like)
  refused_alike why is (Some b) like =
      let both = subst (AreLike (Some b)) here like in
      (choice, reads, sym (ap (enrolling name (is_net_flag flags) choice b) (first_same name (is_net_flag flags) choice b held both.1 ∙ is)))

  pub may_alike : (e : Enrolling) → first_refusal (enroll_refusals name (is_net_flag flags) choice held) ≡ None → e.change ≡ Enroll name (is_net_flag flags) (chosen_from choice 0 held.ledger.setup.conferences)
      → e.user.id ≡ length held.ledger.users + 1 → e.user.name ≡ name → (board : Option Board) → AreLike board kept → MayEnroll name flags conferences board (Ok e)
  may_alike e none change id named None like = absurd (subst (AreLike None) here like)
  may_alike e none change id named (Some b) like =
      let both = subst (AreLike (Some b)) here like in
      let still : first_refusal (enroll_refusals name (is_net_flag flags) choice b) ≡ None = first_same name (is_net_flag flags) choice b held both.1 ∙ none in
      let ledgers : held.ledger ≡ b.ledger = sym (alike_ledger b held both.1) in
      let change_is : e.change ≡ Enroll name (is_net_flag flags) (chosen_from choice 0 b.ledger.setup.conferences) =
      change ∙ ap (λ (l : Ledger). Enroll name (is_net_flag flags) (chosen_from choice 0 l.setup.conferences)) ledgers in
      let id_is : e.user.id ≡ length b.ledger.users + 1 = id ∙ ap (λ (l : Ledger). length l.users + 1) ledgers in (
        b,
        refl,
        subst (λ (x : Change). Fits x b) (sym change_is) (user_fits b name (is_net_flag flags) choice conferences both.0 reads still),
        (choice, reads, (λ i. record { board = Some (changed (change_is i) b); reply = done (user_line (id_is i) (named i)) }) ∙ sym (ap (enrolling name (is_net_flag flags) choice b) still)),
      )
