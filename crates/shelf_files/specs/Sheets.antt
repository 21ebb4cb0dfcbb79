-- What a sheet on the shelf is read as.
use Rattle.std.specs.Prelude.{ℕ, ◌≤◌, List, length, Result}
use Rattle.door_outside.specs.Shelf.{ShelfFiles}
use Rattle.import_sheet.specs.Fault.{SheetFault}
use Rattle.import_sheet.specs.Sheet.{SheetReads}
use Rattle.import_sheet.specs.declared.fault.SheetError.{SheetError}
use Rattle.import_sheet.specs.declared.fault.SheetError.TheVariants.{Line, OutOfMemory}
use Rattle.import_sheet.specs.declared.sheet.Sheet.{Sheet}
use Rattle.shelf_files.specs.ShelfFile.{ReadAs, file_within, file_limit}
use Rattle.shelf_files.specs.declared.halt.Halt.{Halt}
use Rattle.shelf_files.specs.declared.halt.Halt.TheVariants as halt
use Rattle.shelf_files.specs.declared.refusal.Refusal.{Refusal}
use Rattle.shelf_files.specs.declared.refusal.Refusal.TheVariants as refusal

-- a line of a sheet breaks a rule; want of memory is no fault
abbrev pub SheetBreaks : List ℕ → SheetError → Type 0
SheetBreaks bytes (Line line rule) = SheetFault bytes line rule
SheetBreaks bytes OutOfMemory = ⊥

-- what that is refused as
abbrev pub sheet_refusal : SheetError → Refusal
sheet_refusal (Line line rule) = refusal.Sheet line rule
sheet_refusal OutOfMemory = refusal.NoConference

-- why a command stops there
abbrev pub sheet_halt : SheetError → Halt
sheet_halt (Line line rule) = halt.Refused (refusal.Sheet line rule)
sheet_halt OutOfMemory = halt.OutOfMemory

-- the entries of a sheet
abbrev pub SheetOf : ShelfFiles → List ℕ → Result (List Sheet) Refusal → Type 0
SheetOf shelf name read = ReadAs SheetReads SheetBreaks sheet_refusal (file_within shelf name file_limit) read

-- what was read of the bytes of some file
abbrev pub AreSheets : List Sheet → Type 0
AreSheets entries = (bytes : List ℕ) × (length bytes ≤ file_limit) × SheetReads bytes entries
