-- The command `compose`.
use Rattle.std.specs.Prelude.{◌≡◌, ℕ, if◌then◌else◌, List, ◌++◌, codes, decimal, Result, Ok, Err}
use Rattle.door_outside.specs.Shelf.{ShelfFiles}
use Rattle.entry_runs.specs.Entry.{ShelfAct}
use Rattle.offline_writer.specs.Drafts.{entry_drafts}
use Rattle.offline_writer.specs.Placing.{lists_conference}
use Rattle.cmd_packets.specs.Packets.{ControlOf}
use Rattle.qwk_control.specs.declared.control.Control.{Control}
use Rattle.shelf_files.specs.Sheets.{SheetOf}
use Rattle.shelf_files.specs.declared.refusal.Refusal.{Refusal}
use Rattle.shelf_files.specs.declared.refusal.Refusal.TheVariants as refusal
use Rattle.cmd_replies.specs.RepFile.{Enlarges}
use Rattle.cmd_replies.specs.Steps.{Then}
use Rattle.cmd_replies.specs.Writing.{writes, total_text}
use Rattle.cmd_replies.specs.declared.enlarging.Enlarged.{Enlarged}
use Rattle.cmd_replies.specs.declared.putting.Added.{Added}

-- the number of a conference that the packet has
abbrev pub ConferenceIn : Control → ℕ → Result ℕ Refusal → Type 0
ConferenceIn control number found = found ≡ (if lists_conference control number then Ok number else Err refusal.NoConference)

-- what a sheet makes to a conference, in a reply packet
abbrev pub SheetMakes : Control → ℕ → List ℕ → List ℕ → ℕ → ShelfFiles → Result Enlarged Refusal → Type 0
SheetMakes control conference sheet rep now shelf =
    Then (SheetOf shelf sheet) (λ entries. Enlarges shelf rep control.bbsid (entry_drafts control conference entries now))

-- CONTROL.DAT, the conference, the sheet, the reply packet: the first that is refused refuses the command
abbrev pub ComposeMakes : List ℕ → ℕ → List ℕ → List ℕ → ℕ → ShelfFiles → Result Enlarged Refusal → Type 0
ComposeMakes folder conference sheet rep now shelf =
    Then (ControlOf shelf (folder ++ codes "/CONTROL.DAT")) (λ control.
    Then (ConferenceIn control conference) (λ number.
    SheetMakes control number sheet rep now shelf))

abbrev pub composed_line : List ℕ → Added → List ℕ
composed_line rep added = codes "composed " ++ (decimal added.messages ++ total_text added.total rep)

abbrev pub composes : List ℕ → ℕ → List ℕ → List ℕ → ℕ → ShelfAct
composes folder conference sheet rep now = writes rep (ComposeMakes folder conference sheet rep now) (composed_line rep)
