-- What a load found, as an outline.
use Rattle.std.proofs.Common.{◌≡◌, Option, Some, None, Result, Ok, Err, refl, sym, ap, ◌∙◌}
use Rattle.std.specs.Prelude.{option_map}
use Rattle.std.specs.Result.{result_map_both}
use Rattle.board_layout.proofs.OutlineLaws.{outline_again}
use Rattle.board_layout.specs.Board.{Board}
use Rattle.board_layout.specs.Layout.{AreEmpty, IsLayout}
use Rattle.board_layout.specs.Outlines.{board_outline}
use Rattle.board_layout.specs.Rules.{AreFoundOf, IsFoundOf, ReadSo}
use Rattle.board_layout.specs.Valid.{IsBoard}
use Rattle.board_layout.specs.declared.read.FoundBoard.{FoundBoard}
use Rattle.board_ledger.specs.damage_rules.Rules.{Stops}
use Rattle.intent_journal.specs.Patches.{HostFiles}
use Rattle.jam_records.specs.declared.damage.Damage.{Damage}
use Rattle.mail_board.specs.Held.{AreAlike, StandsFor}
use Rattle.mail_board.specs.Loading.{StandsFound}

abbrev outlined_read : Result (Option Board) Damage → Result (Option Board) Damage
outlined_read read = result_map_both (option_map board_outline) (λ damage. damage) read

-- the damage stays
pub stops_outlined : (damage : Option Damage) (read : Result (Option Board) Damage) → Stops damage read → Stops damage (outlined_read read)
stops_outlined None read stops = stops
stops_outlined (Some d) read stops = ap outlined_read stops

-- a board stands for itself
pub own_stands : (b : Board) (files : HostFiles) → IsBoard b → IsLayout b files → StandsFor b files
own_stands b files ok layout = record { board = b; valid = ok; alike = refl; layout = layout }

-- a board that was found has the outline of the whole one
pub found_alike : (files : HostFiles) (found : FoundBoard) (whole : Board) → IsFoundOf files found whole → AreAlike whole found.board
found_alike files found whole is = sym (ap board_outline is.alike ∙ outline_again whole)

-- ---- what was read
module _ (files : HostFiles) (read : Result (Option Board) Damage) where
  pub none_found : ReadSo (AreFoundOf files) None read → AreEmpty files × (outlined_read read ≡ Ok None)
  none_found so = by so.whole so.is_read so.holds
    where
      by : (whole : Option Board) → read ≡ Ok whole → AreFoundOf files None whole → AreEmpty files × (outlined_read read ≡ Ok None)
      by None is empty = (empty, ap outlined_read is)
      by (Some whole) is empty = absurd empty

  pub some_found : (found : FoundBoard) → ReadSo (AreFoundOf files) (Some found) read → StandsFound found files × (outlined_read read ≡ Ok (Some (board_outline found.board)))
  some_found found so = by so.whole so.is_read so.holds
    where
      by : (whole : Option Board) → read ≡ Ok whole → AreFoundOf files (Some found) whole → StandsFound found files × (outlined_read read ≡ Ok (Some (board_outline found.board)))
      by None is stands = absurd stands
      by (Some whole) is stands = (record { whole = whole; holds = stands }, ap outlined_read is ∙ ap (λ (b : Board). Ok (Some b)) (found_alike files found whole stands))

-- the damage of an outline is that of its board
pub damage_back : (read : Result (Option Board) Damage) (d : Damage) → outlined_read read ≡ Err d → read ≡ Err d
damage_back (Ok b) d e = absurd (cc e)
damage_back (Err c) d e = e
