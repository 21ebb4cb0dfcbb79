-- The command `import`.
use Rattle.std.specs.Prelude.{◌≡◌, ℕ, ◌+◌, List, [], ◌∷◌, ◌++◌, length, map, codes, decimal, Bool, true, false, ◌||◌, nat_lt, Option, Some, None, unwrap_or, Result, Ok, Err}
use Rattle.cmd_board.specs.Enroll.{first_refusal}
use Rattle.cmd_board.specs.Places.{kind_of_place, slot_count}
use Rattle.cmd_board.specs.State.{State}
use Rattle.cmd_board.specs.Turns.{Turn, refuses, on_board}
use Rattle.board_layout.specs.Board.{Board}
use Rattle.board_layout.specs.Layout.{board_size}
use Rattle.board_layout.specs.Valid.{board_limit}
use Rattle.board_layout.specs.Lookups.{place_of}
use Rattle.door_outside.specs.Shelf.{ShelfFiles}
use Rattle.entry_runs.specs.Door.{Act}
use Rattle.import_sheet.specs.declared.sheet.Sheet.{Sheet}
use Rattle.jam_layout.specs.Limits.{slot_limit}
use Rattle.jam_layout.specs.Marks.{is_net}
use Rattle.jam_records.specs.declared.message.Kind.{Kind}
use Rattle.jam_records.specs.declared.message.Message.{Message}
use Rattle.cmd_board.specs.shelf_files.Halts.{done}
use Rattle.cmd_board.specs.shelf_files.Sheets.{SheetOf}
use Rattle.cmd_board.specs.shelf_files.declared.refusal.Refusal.{Refusal}
use Rattle.cmd_board.specs.shelf_files.declared.refusal.Refusal.TheVariants.{NotMade, NoConference, Slots, Size}
use Rattle.post_changes.specs.slot_changes.Changed.{appended}

-- the message that an entry becomes, imported at a moment into a conference of a kind: written then, where the entry
-- has no date, and always private in a net conference
abbrev pub imported_message : Kind → ℕ → Sheet → Message
imported_message kind now entry = record {
  from = entry.from;
  to = entry.to;
  subject = entry.subject;
  msgid = entry.msgid;
  replyid = entry.reply;
  origin = [];
  destination = [];
  body = entry.body;
  written = unwrap_or entry.date now;
  received = 0;
  processed = now;
  local = true;
  private = entry.private || is_net kind;
  seen = false;
  deleted = false;
}

-- the messages of a sheet
abbrev pub imported_messages : ℕ → ℕ → Board → List Sheet → List Message
imported_messages now place b entries = map (imported_message (kind_of_place place b) now) entries

-- why messages aren't appended in a place, in order
abbrev pub import_refusals : ℕ → List Message → Board → List (Bool × Refusal)
import_refusals place messages b =
    (nat_lt slot_limit (slot_count place b + length messages), Slots (slot_count place b + length messages))
    ∷ (nat_lt board_limit (board_size (appended place messages b)), Size (board_size (appended place messages b)))
    ∷ []

-- how many messages came into the conference
abbrev pub imported_line : ℕ → ℕ → List ℕ
imported_line conference count = codes "imported " ++ (decimal count ++ (codes " into " ++ (decimal conference ++ codes "\n")))

-- the messages are appended, unless that is refused
abbrev pub appending : ℕ → ℕ → List Message → Board → Option Refusal → Turn
appending conference place messages b (Some why) = refuses why (Some b)
appending conference place messages b None = record {
  board = Some (appended place messages b);
  reply = done (imported_line conference (length messages));
}

abbrev pub append_turn : ℕ → ℕ → List Message → Board → Turn
append_turn conference place messages b = appending conference place messages b (first_refusal (import_refusals place messages b))

-- what was read of the sheet, or why nothing was
abbrev pub sheet_turn : ℕ → ℕ → ℕ → Board → Result (List Sheet) Refusal → Turn
sheet_turn conference now place b (Err why) = refuses why (Some b)
sheet_turn conference now place b (Ok entries) = append_turn conference place (imported_messages now place b entries) b

-- the place of the conference, and the sheet
abbrev pub ImportsAt : ℕ → List ℕ → ℕ → ShelfFiles → Board → Option ℕ → Turn → Type 0
ImportsAt conference file now shelf b None turn = turn ≡ refuses NoConference (Some b)
ImportsAt conference file now shelf b (Some place) turn =
    (read : Result (List Sheet) Refusal) × SheetOf shelf file read × (turn ≡ sheet_turn conference now place b read)

abbrev pub Imports : ℕ → List ℕ → ℕ → ShelfFiles → Option Board → Turn → Type 0
Imports conference file now shelf None turn = turn ≡ refuses NotMade None
Imports conference file now shelf (Some b) turn = ImportsAt conference file now shelf b (place_of conference b) turn

abbrev pub imports : ℕ → List ℕ → ℕ → Act State
imports conference file now = on_board (Imports conference file now)
