-- The command `export`.
use Rattle.std.specs.Prelude.{◌≡◌, ℕ, List, ◌++◌, codes, decimal, Option, Some, None, Result, Ok, Err}
use Rattle.cmd_board.specs.State.{State}
use Rattle.board_layout.specs.Board.{Board}
use Rattle.door_export.specs.Export.{ExportRefusal, Handout, export_of}
use Rattle.door_export.specs.Export as why
use Rattle.door_export.specs.Folder.{folder_names, with_packet}
use Rattle.door_export.specs.declared.exporting.Exported.{Exported}
use Rattle.door_outside.specs.Shelf.{ShelfFiles}
use Rattle.entry_runs.specs.Door.{Act}
use Rattle.shelf_files.specs.Halts.{done}
use Rattle.shelf_files.specs.declared.refusal.Refusal.{Refusal}
use Rattle.shelf_files.specs.declared.refusal.Refusal.TheVariants.{NotMade, NoUser, Limit, Packets}
use Rattle.cmd_exchange.specs.Handing.{Handing, refused_handing, on_board_then_shelf}

-- the number of the packet, and how many messages it has
abbrev pub packet_line : Exported → List ℕ
packet_line e = codes "packet " ++ (decimal e.packet ++ (codes ": " ++ (decimal e.count ++ codes " messages\n")))

-- the refusal of the command
abbrev pub export_refusal : ExportRefusal → Refusal
export_refusal why.NoUser = NoUser
export_refusal why.Limit = Limit
export_refusal why.Packets = Packets

-- the packet is handed out into the folder, unless it is refused
abbrev pub handing_of : List ℕ → ShelfFiles → Board → Result Handout ExportRefusal → Handing
handing_of folder shelf b (Ok p) = record {
  board = Some p.board;
  shelf = with_packet folder p.controls p.messages shelf;
  reply = done (packet_line p.answer);
}
handing_of folder shelf b (Err refusal) = refused_handing (export_refusal refusal) shelf (Some b)

abbrev pub export_handing : List ℕ → ℕ → List ℕ → ℕ → ShelfFiles → Option Board → Handing
export_handing name limit folder now shelf None = refused_handing NotMade shelf None
export_handing name limit folder now shelf (Some b) = handing_of folder shelf b (export_of name limit now b)

abbrev pub exports : List ℕ → ℕ → List ℕ → ℕ → Act State
exports name limit folder now = on_board_then_shelf (folder_names folder) (λ shelf board handing. handing ≡ export_handing name limit folder now shelf board)
