-- Another tool's base as messages.
use Rattle.std.specs.Prelude.{ℕ, zero, suc, ◌+◌, ◌/◌, List, [], ◌∷◌, ◌++◌, length, drop, Option, Some, None, Bool, ◌&&◌, ◌==◌, if◌then◌else◌}
use Rattle.jam_records.specs.IndexRecords.{index_at}
use Rattle.jam_records.specs.declared.index_record.IndexRecord.{IndexRecord}
use Rattle.jam_adopt.specs.Verdicts.{verdict_at}
use Rattle.jam_adopt.specs.declared.found.Found.{Found}
use Rattle.jam_adopt.specs.declared.found.FoundVerdict.{FoundVerdict}

-- twice FFFFFFFFh: no header
abbrev pub is_no_header : IndexRecord → Bool
is_no_header r = r.to_crc == 0xFFFF_FFFF && r.offset == 0xFFFF_FFFF

-- the verdict on the header that a record names, or None where the record is passed over
unfoldable pub verdict_of : List ℕ → List ℕ → IndexRecord → Option FoundVerdict
verdict_of jhr jdt r = if is_no_header r then None else verdict_at jhr jdt r.offset

-- a verdict with its place
abbrev pub found_at : ℕ → Option FoundVerdict → List Found
found_at place None = []
found_at place (Some verdict) = record { place = place; verdict = verdict } ∷ []

-- what so many records of .JDX come to, in order, the first of which has a place
unfoldable pub foreign_from : List ℕ → List ℕ → ℕ → ℕ → List ℕ → List Found
foreign_from jhr jdt place zero jdx = []
foreign_from jhr jdt place (suc n) jdx = found_at place (verdict_of jhr jdt (index_at jdx)) ++ foreign_from jhr jdt (place + 1) n (drop 8 jdx)

-- what its whole records come to; places count from 1
unfoldable pub foreign : List ℕ → List ℕ → List ℕ → List Found
foreign jhr jdt jdx = foreign_from jhr jdt 1 (length jdx / 8) jdx
