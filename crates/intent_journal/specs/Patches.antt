-- What patches do to the files.
use Rattle.std.specs.Prelude.{◌≡◌, ℕ, Bool, true, false, not, ◌&&◌, ◌||◌, ◌==◌, nat_le, if◌then◌else◌, List, [], ◌∷◌, length, sum_by}
use Rattle.std.specs.List.{list_any}
use Rattle.door_outside.specs.Disk.{written}
use Rattle.door_outside.specs.File.{is_data_file, journal_file}
use Rattle.intent_journal.specs.declared.patch.Patch.{Patch}
use Rattle.intent_journal.specs.declared.patch.Patch.TheVariants.{Whole, Put}

-- the bytes of each file, by its number
abbrev pub HostFiles : Type 0
HostFiles = ℕ → List ℕ

-- the file that a patch changes
abbrev pub file_of : Patch → ℕ
file_of (Whole file bytes) = file
file_of (Put file at bytes) = file

-- where in the file its bytes begin
abbrev pub patch_offset : Patch → ℕ
patch_offset (Whole file bytes) = 0
patch_offset (Put file at bytes) = at

-- the bytes that it puts there
abbrev pub bytes_of : Patch → List ℕ
bytes_of (Whole file bytes) = bytes
bytes_of (Put file at bytes) = bytes

-- whether they become all bytes of the file
abbrev pub is_whole : Patch → Bool
is_whole (Whole file bytes) = true
is_whole (Put file at bytes) = false

-- what it makes of its file
abbrev pub patched_file : Patch → List ℕ → List ℕ
patched_file (Whole file bytes) old = bytes
patched_file (Put file at bytes) old = written old at bytes

abbrev pub apply : Patch → HostFiles → HostFiles
apply patch files file = if file == file_of patch then patched_file patch (files file) else files file

-- the patches are carried out in order
abbrev pub patched : List Patch → HostFiles → HostFiles
patched [] files = files
patched (patch ∷ patches) files = patched patches (apply patch files)

-- the 257 data files, and nothing at any other number
abbrev pub data_files : HostFiles → HostFiles
data_files files file = if is_data_file file then files file else []

-- the journal is the same, and so are the data files
pub record SameFiles (one other : HostFiles) : Type 0 where
  pub journal : one journal_file ≡ other journal_file
  pub files : data_files one ≡ data_files other

-- whether a patch begins at most at the end of its file
abbrev pub begins_within : Patch → HostFiles → Bool
begins_within (Whole file bytes) files = true
begins_within (Put file at bytes) files = nat_le at (length (files file))

-- whether each does, as the patches before it leave the file
abbrev pub are_within : List Patch → HostFiles → Bool
are_within [] files = true
are_within (patch ∷ patches) files = begins_within patch files && are_within patches (apply patch files)

-- whether two patches are for one file, and one of them is for all its bytes
abbrev pub clash : Patch → Patch → Bool
clash one other = (is_whole one || is_whole other) && file_of other == file_of one

-- whether no two of them clash
abbrev pub is_once : List Patch → Bool
is_once [] = true
is_once (patch ∷ patches) = not (list_any (clash patch) patches) && is_once patches

-- whether one of the patches is for the file
abbrev pub is_touched : ℕ → List Patch → Bool
is_touched file patches = list_any (λ patch. file_of patch == file) patches

-- whether one of them is for all bytes of the file
abbrev pub is_replaced : ℕ → List Patch → Bool
is_replaced file patches = list_any (λ patch. is_whole patch && file_of patch == file) patches

-- how many bytes the patches put
abbrev pub byte_count : List Patch → ℕ
byte_count patches = sum_by (λ patch. length (bytes_of patch)) patches
