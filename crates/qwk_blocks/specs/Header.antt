-- The header block of a message, by Lee's QWK Mail Packet File Layout of 1992. Places count from 1.
use Rattle.std.specs.Prelude.{◌≡◌, ℕ, ◌+◌, ◌-◌, ◌*◌, ◌≤◌, List, Option, Some, None, length, take, drop, slice_index}
use Rattle.text_fields.specs.Blank.{IsBlank}
use Rattle.text_fields.specs.Number.{Number}
use Rattle.text_fields.specs.Trim.{TrimmedEnd}
use Rattle.text_fields.specs.declared.blank.Blank.TheVariants.{SpacesAndNuls}
use Rattle.qwk_blocks.specs.declared.message.Header.{Header}

-- a space or a NUL
abbrev pub IsPad : ℕ → Type 0
IsPad b = IsBlank SpacesAndNuls b

-- so many bytes, from a place on
abbrev pub field : ℕ → ℕ → List ℕ → List ℕ
field place width block = take width (drop (place - 1) block)

abbrev pub byte : ℕ → List ℕ → ℕ
byte place block = slice_index block (place - 1)

-- the number in two bytes, the low one first
abbrev pub number_in : ℕ → List ℕ → ℕ
number_in place block = byte place block + 256 * byte (place + 1) block

-- a text field: the text, then spaces and NULs
abbrev pub HasText : ℕ → ℕ → List ℕ → List ℕ → Type 0
HasText place width block text = TrimmedEnd IsPad (field place width block) text

-- a number field: spaces and NULs, one or more digits, then spaces and NULs; it has room for no more digits than its width
abbrev pub IsNumber : ℕ → ℕ → List ℕ → ℕ → Type 0
IsNumber place width block n = Number IsPad width (field place width block) n

-- the number of a number field, or none where it has no number
abbrev pub HasNumber : ℕ → ℕ → List ℕ → Option ℕ → Type 0
HasNumber place width block (Some n) = IsNumber place width block n
HasNumber place width block None = (n : ℕ) → ¬ IsNumber place width block n

-- the count of the blocks of a message, its header among them
pub record BlockCountReads (block : List ℕ) (count : ℕ) : Type 0 where
  pub number : IsNumber 117 6 block count
  pub positive : 1 ≤ count

pub record HeaderReads (block : List ℕ) (header : Header) (count : ℕ) : Type 0 where
  pub size : length block ≡ 128
  pub status : header.status ≡ byte 1 block
  pub number : HasNumber 2 7 block header.number
  pub date : header.date ≡ field 9 8 block
  pub time : header.time ≡ field 17 5 block
  pub to : HasText 22 25 block header.to
  pub from : HasText 47 25 block header.from
  pub subject : HasText 72 25 block header.subject
  pub password : HasText 97 12 block header.password
  pub reference : HasNumber 109 8 block header.reference
  pub blocks : BlockCountReads block count
  pub activity : header.activity ≡ byte 123 block
  pub conference : header.conference ≡ number_in 124 block
  pub logical : header.logical ≡ number_in 126 block
  pub tag : header.tag ≡ byte 128 block
