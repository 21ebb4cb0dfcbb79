-- The patches of one place more, behind those that were gathered, whatever the change of the board is.
use Rattle.std.proofs.Common.{◌≡◌, ℕ, ◌+◌, ◌<◌, List, ◌++◌, length, Some, sym, subst, arith}
use Rattle.std.specs.Prelude.{slice_get}
use Rattle.board_changes.proofs.GatherLaws.{gathered_more, joins_more}
use Rattle.board_changes.proofs.MemberLaws.{files_at, files_count, member_fits, place_at, place_known, place_small}
use Rattle.board_changes.specs.Gathered.{at_place, Gathered, Joins}
use Rattle.board_layout.proofs.BasePlaces.{shapes_count}
use Rattle.board_layout.specs.Board.{Board}
use Rattle.board_layout.specs.Layout.{IsLayout, base_files, files_in}
use Rattle.board_layout.specs.Renewed.{contents_of}
use Rattle.board_layout.specs.Valid.{IsBoard}
use Rattle.board_ledger.specs.Ledger.{ledger_text}
use Rattle.intent_journal.specs.declared.patch.Patch.{Patch}
use Rattle.board_layout.specs.jam_base.Change.{SuitsIntent, Turns}
use Rattle.board_layout.specs.jam_base.Contents.{Contents}
use Rattle.board_layout.specs.jam_layout.declared.files.BaseFiles.{BaseFiles}

module _ (b next : Board) (place : ℕ) (old new : Contents) (done more : List Patch) (was : IsBoard b) (ok : IsBoard next)
    (here : slice_get (contents_of b) place ≡ Some old) (there : slice_get (contents_of next) place ≡ Some new)
    (gathered : Gathered (IsLayout b) (ledger_text next.ledger) (base_files b) (base_files next) place done)
    (turns : Turns old.shape.place (files_in old) (files_in new) more) (suits : SuitsIntent old.shape.place (files_in new) more) where
  old_is : at_place (base_files b) place ≡ files_in old
  old_is = files_at b place old here

  new_is : at_place (base_files next) place ≡ files_in new
  new_is = files_at next place new there

  small : place < 64
  small = place_small b place old was here

  counted : place < length (base_files next)
  counted = omega (arith, files_count next ok, place_known next place new there, shapes_count next.ledger 0 next.ledger.setup.conferences)

  turns_here : Turns place (at_place (base_files b) place) (at_place (base_files next) place) more
  turns_here =
      subst (λ (k : ℕ). Turns k (at_place (base_files b) place) (at_place (base_files next) place) more) (place_at b place old here)
      (subst (λ (f : BaseFiles). Turns old.shape.place (at_place (base_files b) place) f more) (sym new_is) (subst (λ (f : BaseFiles). Turns old.shape.place f (files_in new) more) (sym old_is) turns))

  suits_here : SuitsIntent place (at_place (base_files next) place) more
  suits_here =
      subst (λ (k : ℕ). SuitsIntent k (at_place (base_files next) place) more) (place_at b place old here) (subst (λ (f : BaseFiles). SuitsIntent old.shape.place f more) (sym new_is) suits)

  pub step_joins : Joins done more
  step_joins = joins_more (IsLayout b) (ledger_text next.ledger) (base_files b) (base_files next) place done more gathered small counted turns_here suits_here (member_fits next ok)

  pub step_gathered : Gathered (IsLayout b) (ledger_text next.ledger) (base_files b) (base_files next) (place + 1) (done ++ more)
  step_gathered = gathered_more (IsLayout b) (ledger_text next.ledger) (base_files b) (base_files next) place done more gathered small counted turns_here suits_here
