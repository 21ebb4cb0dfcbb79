-- The text of a journal. Numbers have their lowest byte first.
use Rattle.std.specs.Prelude.{◌≡◌, ◌≢◌, ℕ, ◌+◌, ◌<◌, ◌≤◌, ◌^◌, Bool, true, false, ◌&&◌, ◌||◌, ◌==◌, nat_eq, nat_le, nat_lt, if◌then◌else◌, zero, suc}
use Rattle.std.specs.Prelude.{List, [], ◌∷◌, ◌++◌, length, take, drop, slice_index, get_or, codes, Option, Some, None, unwrap_or, option_and_then, option_map, IsTrue}
use Rattle.std.specs.List.{starts_with, list_any}
use Rattle.door_outside.specs.File.{is_data_file}
use Rattle.record_numbers.specs.Numbers.{u16_at, u32_at, u16_text, u32_text}
use Rattle.intent_journal.specs.declared.patch.Patch.{Patch}
use Rattle.intent_journal.specs.declared.patch.Patch.TheVariants.{Whole, Put}
use Rattle.intent_journal.specs.Patches.{HostFiles, file_of, patch_offset, bytes_of, clash, is_once, is_touched, is_replaced, are_within}

-- the number of its kind
abbrev pub patch_kind : Patch → ℕ
patch_kind (Whole file bytes) = 0
patch_kind (Put file at bytes) = 1

-- a patch: its kind in one byte, its file in two, its place and its length in four each, and its bytes
abbrev pub patch_text : Patch → List ℕ
patch_text patch = patch_kind patch ∷ u16_text (file_of patch) ++ u32_text (patch_offset patch) ++ u32_text (length (bytes_of patch)) ++ bytes_of patch

abbrev pub patches_text : List Patch → List ℕ
patches_text [] = []
patches_text (patch ∷ patches) = patch_text patch ++ patches_text patches

-- the body of so many patches that stand in a text: the letters, the count, the length of the text and the text
abbrev pub body_text : ℕ → List ℕ → List ℕ
body_text count text = codes "QDJ1" ++ u32_text count ++ u32_text (length text) ++ text

-- the journal of an intent while its gate, the first byte, is open
abbrev pub journal_text : List Patch → List ℕ
journal_text patches = 79 ∷ body_text (length patches) (patches_text patches)

-- whether a text begins with a patch of a data file
abbrev pub begins_patch : List ℕ → Bool
begins_patch text =
    nat_le (11 + u32_at 7 text) (length text)
    && ((slice_index text 0 == 0 && u32_at 3 text == 0) || slice_index text 0 == 1)
    && nat_lt (u32_at 3 text + u32_at 7 text) (2 ^ 31)
    && is_data_file (u16_at 1 text)

-- the patch of these parts
abbrev pub patch_by : Bool → ℕ → ℕ → List ℕ → Patch
patch_by true file at bytes = Whole file bytes
patch_by false file at bytes = Put file at bytes

-- the patch at the front of a text, and what follows it
abbrev pub first_of : List ℕ → Patch × List ℕ
first_of text = (patch_by (slice_index text 0 == 0) (u16_at 1 text) (u32_at 3 text) (take (u32_at 7 text) (drop 11 text)), drop (11 + u32_at 7 text) text)

-- where there is one
unfoldable pub front : List ℕ → Option (Patch × List ℕ)
front text = if begins_patch text then Some (first_of text) else None

-- so many patches, and nothing behind them
unfoldable pub patches_of : ℕ → List ℕ → Option (List Patch)
patches_of zero [] = Some []
patches_of zero (b ∷ bytes) = None
patches_of (suc n) bytes = option_and_then (λ next. option_map (λ patches. next.0 ∷ patches) (patches_of n next.1)) (front bytes)

-- the patches that a text spells
abbrev pub spelled : ℕ → List ℕ → List Patch
spelled count text = unwrap_or (patches_of count text) []

-- where no two of them clash
abbrev pub are_once : Option (List Patch) → Bool
are_once None = false
are_once (Some patches) = is_once patches

-- whether a journal has the letters, and all the bytes that its length speaks of
abbrev pub begins_body : List ℕ → Bool
begins_body journal = starts_with nat_eq (drop 1 journal) (codes "QDJ1") && nat_le (13 + u32_at 9 journal) (length journal)

-- the text of the patches
abbrev pub text_of : List ℕ → List ℕ
text_of journal = take (u32_at 9 journal) (drop 13 journal)

-- the patches that the body spells, where it does, behind any gate
unfoldable pub body_patches : List ℕ → Option (List Patch)
body_patches journal =
    if begins_body journal && are_once (patches_of (u32_at 5 journal) (text_of journal)) then patches_of (u32_at 5 journal) (text_of journal) else None

-- the patches behind an open gate, or none
abbrev pub open_patches : List ℕ → List Patch
open_patches [] = []
open_patches (gate ∷ body) = if gate == 79 then unwrap_or (body_patches (gate ∷ body)) [] else []

-- the intent that the files hold, or no patches: the journal's gate is open and its body reads, and each Put begins at
-- most at the end of its file, as these files and the patches before it leave it
abbrev pub intent_of : HostFiles → List Patch
intent_of files = if are_within (open_patches (files 1)) files then open_patches (files 1) else []

-- the gate isn't open
abbrev pub IsClosed : List ℕ → Type 0
IsClosed journal = take 1 journal ≢ 79 ∷ []

-- a text of patches that an intent may hold, at most 41,943,040 bytes with what stands before it
pub record IsSpelled (count : ℕ) (text : List ℕ) : Type 0 where
  pub reads : patches_of count text ≡ Some (spelled count text)
  pub spells : text ≡ patches_text (spelled count text)
  pub once : IsTrue (is_once (spelled count text))
  pub short : 13 + length text ≤ 41943040

-- tables of the files that have a patch, and of those that have one for all their bytes
pub record Marks (any whole : List Bool) (patches : List Patch) : Type 0 where
  pub touched : (file : ℕ) → file < 258 → get_or any file false ≡ is_touched file patches
  pub replaced : (file : ℕ) → file < 258 → get_or whole file false ≡ is_replaced file patches

-- the patches may have this one more
pub record TakesPatch (patches : List Patch) (patch : Patch) : Type 0 where
  pub no_journal : file_of patch ≢ 1
  pub once : list_any (clash patch) patches ≡ false
  pub in_range : patch_offset patch + length (bytes_of patch) < 2 ^ 31
  pub fits : length (journal_text (patches ++ patch ∷ [])) ≤ 41943040
