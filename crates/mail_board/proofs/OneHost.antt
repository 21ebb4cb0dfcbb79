-- What a host holds whose files are those of a board with an outline: one board, which a change leads on.
use Rattle.std.proofs.Common.{◌≡◌, inl, List, sym, ap, ◌∙◌, subst}
use Rattle.post_changes.specs.board_changes.Change.{Leads}
use Rattle.post_changes.specs.board_changes.Outlined.{LeadsEach}
use Rattle.board_layout.proofs.BoardLaws.{unique}
use Rattle.board_layout.specs.Board.{Board}
use Rattle.board_layout.specs.Layout.{IsLayout}
use Rattle.board_layout.specs.Outlines.{board_outline}
use Rattle.board_layout.specs.Valid.{IsBoard}
use Rattle.door_outside.specs.Disk.{Disk, AllNow, Unchanged}
use Rattle.door_outside.proofs.Moments.{now_unchanged}
use Rattle.intent_journal.specs.Hosts.{IsCalm}
use Rattle.intent_journal.specs.Journal.{IsClosed}
use Rattle.intent_journal.specs.Patches.{HostFiles, SameFiles}
use Rattle.intent_journal.specs.declared.patch.Patch.{Patch}
use Rattle.mail_board.specs.Changes.{changed, Fits}
use Rattle.mail_board.specs.Held.{AreAlike, Holds, Rests, RestsOn, StandsFor}
use Rattle.mail_board.specs.declared.change.Change.{Change}
use Rattle.mail_board.proofs.EachNext.{changed_alike, fits_alike}
use Rattle.mail_board.proofs.NextLaws.{fits_board}

-- ---- the board that it holds
module _ (held : Board) (disk : Disk) (rests : RestsOn held disk) where
  pub holds_one : Holds rests.stands.board disk
  holds_one = (rests.stands.valid, record { calm = rests.calm; files = rests.stands.layout })

  module _ (b : Board) (holds : Holds b disk) where
    pub alike_held : AreAlike b held
    alike_held =
        let same : rests.stands.board ≡ b = unique rests.stands.board b disk.files rests.stands.valid holds.0 (inl rests.stands.layout) (inl holds.1.files) in
        subst (λ (other : Board). AreAlike other held) same rests.stands.alike

    -- what is made of the board that is stored leads on from this one
    pub leads_held : (stored : Board) → stored ≡ held → (change : Change) (intent : List Patch) → LeadsEach stored (changed change) intent → Leads (IsLayout b) (changed change b) intent
    leads_held stored is change intent each = each.leads b holds.0 (alike_held ∙ ap board_outline (sym is))

  -- ---- once a change was made
  pub follows_on : (change : Change) (new : Board) (after : Disk) → IsBoard held → Fits change held → AreAlike new (changed change held) → Rests (changed change rests.stands.board) after → RestsOn new after
  follows_on change new after ok fits alike next =
      let b : Board = rests.stands.board in
      record {
        calm = next.calm;
        stands = record {
          board = changed change b;
          valid = fits_board change b (fits_alike b held rests.stands.alike rests.stands.valid ok change fits);
          alike = changed_alike b held rests.stands.alike change ∙ sym alike;
          layout = next.files;
        };
      }

-- ---- a host of which nothing changed
calm_still : (old new : Disk) → Unchanged old new → IsCalm old → IsCalm new
calm_still old new same calm = record {
  closed = subst (λ (files : HostFiles). IsClosed (files 1)) (sym same.files) calm.closed;
  kept = subst (λ (files : HostFiles). AllNow new (λ image. SameFiles image.files files)) (sym same.files) (now_unchanged same calm.kept);
}

pub rests_still : (held : Board) (old new : Disk) → Unchanged old new → RestsOn held old → RestsOn held new
rests_still held old new same rests = record {
  calm = calm_still old new same rests.calm;
  stands = subst (StandsFor held) (sym same.files) rests.stands;
}

pub holds_still : (b : Board) (old new : Disk) → Unchanged old new → Holds b old → Holds b new
holds_still b old new same holds = (
  holds.0,
  record {
    calm = calm_still old new same holds.1.calm;
    files = subst (IsLayout b) (sym same.files) holds.1.files;
  },
)
