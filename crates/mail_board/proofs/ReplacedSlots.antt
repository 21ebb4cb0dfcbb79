-- Other slots in a place of boards with one outline, and of the board that a host holds.
use Rattle.std.proofs.Common.{◌≡◌, ℕ, List, length, Option, Some, None, refl, sym, ap, ◌∙◌}
use Rattle.std.specs.Prelude.{IsSomeAnd}
use Rattle.post_changes.specs.board_changes.Change.{Leads}
use Rattle.post_changes.specs.board_changes.Changed.{base_at}
use Rattle.post_changes.specs.board_changes.Outlined.{LeadsEach}
use Rattle.board_layout.specs.Board.{Board}
use Rattle.board_layout.specs.Layout.{IsLayout}
use Rattle.board_layout.specs.Outlines.{board_outline}
use Rattle.board_layout.specs.Valid.{IsBoard}
use Rattle.door_outside.specs.Disk.{Disk}
use Rattle.intent_journal.specs.declared.patch.Patch.{Patch}
use Rattle.board_layout.specs.jam_base.Contents.{Contents, with_slots}
use Rattle.board_layout.specs.jam_base.Outlined.{outlined}
use Rattle.jam_records.specs.declared.message.Slot.{Slot}
use Rattle.post_changes.proofs.slot_changes.ReplaceLaws.{replaced_keeps, same_base}
use Rattle.post_changes.specs.slot_changes.Packed.{FitsSlots, replaced}
use Rattle.mail_board.proofs.EachBases.{changed_base}
use Rattle.mail_board.proofs.OneHost.{alike_held}
use Rattle.mail_board.specs.Held.{AreAlike, Holds, Rests, RestsOn}

module _ (place : ℕ) (slots : List Slot) where
  pub replaced_alike : (a b : Board) → AreAlike a b → AreAlike (replaced place slots a) (replaced place slots b)
  replaced_alike a b alike = changed_base a b alike place (with_slots slots) (with_slots slots) (λ x y same. ap outlined (same_base slots x y same))

  -- where they fit one board, each with its outline is valid with them
  pub replaced_each : (held b : Board) → IsBoard held → FitsSlots place slots held → IsBoard b → AreAlike b held → IsBoard (replaced place slots b)
  replaced_each held b ok fits valid alike = by (base_at place held) refl fits.0
    where
      by : (o : Option Contents) → base_at place held ≡ o → IsSomeAnd o (λ (base : Contents). length base.conference.slots ≡ length slots) → IsBoard (replaced place slots b)
      by None here has = absurd has
      by (Some base) here has = (replaced_keeps held place slots base ok here fits).valid b valid alike

  module _ (held : Board) (disk : Disk) (rests : RestsOn held disk) where
    -- what is made of the board that is stored leads on from the one that the host holds
    pub leads_replaced : (b : Board) → Holds b disk → (stored : Board) → stored ≡ held → (intent : List Patch) → LeadsEach stored (replaced place slots) intent → Leads (IsLayout b) (replaced place slots b) intent
    leads_replaced b holds stored is intent each = each.leads b holds.0 (alike_held held disk rests b holds ∙ ap board_outline (sym is))

    -- once they were replaced
    pub follows_replaced : (new : Board) (after : Disk) → IsBoard held → FitsSlots place slots held → AreAlike new (replaced place slots held) → Rests (replaced place slots rests.stands.board) after → RestsOn new after
    follows_replaced new after ok fits alike next =
        let b : Board = rests.stands.board in
        record {
          calm = next.calm;
          stands = record {
            board = replaced place slots b;
            valid = replaced_each held b ok fits rests.stands.valid rests.stands.alike;
            alike = replaced_alike b held rests.stands.alike ∙ sym alike;
            layout = next.files;
          };
        }
