-- A sheet on the shelf is read as one list of messages at most, or refused in one way.
use Rattle.std.proofs.Common.{◌≡◌, ℕ, List}
use Rattle.std.specs.Prelude.{Result}
use Rattle.std.specs.Str.Lines.{lines}
use Rattle.door_outside.specs.Shelf.{ShelfFiles}
use Rattle.import_sheet.proofs.Single as Sheets
use Rattle.import_sheet.specs.Sheet.{SheetReads}
use Rattle.import_sheet.specs.declared.fault.SheetError.{SheetError}
use Rattle.import_sheet.specs.declared.fault.SheetError.TheVariants.{Line, OutOfMemory}
use Rattle.import_sheet.specs.declared.sheet.Sheet.{Sheet}
use Rattle.shelf_files.proofs.Replies.{read_unique}
use Rattle.shelf_files.specs.Sheets.{SheetBreaks, SheetOf, sheet_refusal}
use Rattle.shelf_files.specs.ShelfFile.{file_within, file_limit}
use Rattle.shelf_files.specs.declared.refusal.Refusal.{Refusal}

sheet_fault_once : (bytes : List ℕ) (e f : SheetError) → SheetBreaks bytes e → SheetBreaks bytes f → e ≡ f
sheet_fault_once bytes (Line m q) (Line n r) x y = λ i. Line (Sheets.line_once (lines bytes) m n q r x y i) (Sheets.rule_once (lines bytes) m n q r x y i)
sheet_fault_once bytes (Line m q) OutOfMemory x y = absurd y
sheet_fault_once bytes OutOfMemory f x y = absurd x

sheet_no_fault : (bytes : List ℕ) (sheets : List Sheet) (e : SheetError) → SheetReads bytes sheets → SheetBreaks bytes e → ⊥
sheet_no_fault bytes sheets (Line m q) x y = Sheets.no_fault (lines bytes) sheets m q x y
sheet_no_fault bytes sheets OutOfMemory x y = y

pub sheet_unique : (shelf : ShelfFiles) (name : List ℕ) (a b : Result (List Sheet) Refusal) → SheetOf shelf name a → SheetOf shelf name b → a ≡ b
sheet_unique shelf name =
    read_unique SheetReads SheetBreaks sheet_refusal (λ (bytes : List ℕ). Sheets.sheets_once (lines bytes)) sheet_fault_once sheet_no_fault (file_within shelf name file_limit)
