-- Another tool's base on the shelf: three files whose names differ in their endings.
use Rattle.std.specs.Prelude.{ℕ, List, ◌++◌, length, take, codes, not, nat_lt, if◌then◌else◌, Result, Ok, Err}
use Rattle.std.specs.Str.{bytes_eq}
use Rattle.door_outside.specs.Shelf.{ShelfFiles}
use Rattle.jam_adopt.specs.Foreign.{foreign}
use Rattle.jam_adopt.specs.declared.found.Found.{Found}
use Rattle.jam_adopt.specs.declared.error.ForeignError.{ForeignError}
use Rattle.jam_adopt.specs.declared.error.ForeignError.TheVariants.{Short, Signature, OutOfMemory}
use Rattle.jam_records.specs.Signature.{signature}
use Rattle.shelf_files.specs.ShelfFile.{file_within, foreign_limit}
use Rattle.shelf_files.specs.declared.halt.Halt.{Halt}
use Rattle.shelf_files.specs.declared.halt.Halt.TheVariants as halt
use Rattle.shelf_files.specs.declared.refusal.Refusal.{Refusal}
use Rattle.shelf_files.specs.declared.refusal.Refusal.TheVariants.{ForeignShort, ForeignSignature}

-- the file with an ending, or why there is none
abbrev pub ending_of : ShelfFiles → List ℕ → List ℕ → Result (List ℕ) Refusal
ending_of shelf prefix ending = file_within shelf (prefix ++ ending) foreign_limit

-- what the records of the three files come to, or why they are no base
abbrev pub found_in : List ℕ → List ℕ → List ℕ → Result (List Found) Refusal
found_in jhr jdt jdx =
    if nat_lt (length jhr) 1024 then Err ForeignShort
    else (if not (bytes_eq (take 4 jhr) signature) then Err ForeignSignature else Ok (foreign jhr jdt jdx))

-- .JHR is looked for first, then .JDX, then .JDT
abbrev pub found_with : Result (List ℕ) Refusal → Result (List ℕ) Refusal → Result (List ℕ) Refusal → Result (List Found) Refusal
found_with (Err why) jdx jdt = Err why
found_with (Ok jhr) (Err why) jdt = Err why
found_with (Ok jhr) (Ok jdx) (Err why) = Err why
found_with (Ok jhr) (Ok jdx) (Ok jdt) = found_in jhr jdt jdx

-- what the base of a prefix comes to
abbrev pub base_of : ShelfFiles → List ℕ → Result (List Found) Refusal
base_of shelf prefix = found_with (ending_of shelf prefix (codes ".JHR")) (ending_of shelf prefix (codes ".JDX")) (ending_of shelf prefix (codes ".JDT"))

-- why a command stops where the files are no base
abbrev pub foreign_halt : ForeignError → Halt
foreign_halt Short = halt.Refused ForeignShort
foreign_halt Signature = halt.Refused ForeignSignature
foreign_halt OutOfMemory = halt.OutOfMemory
