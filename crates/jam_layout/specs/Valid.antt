-- What a shape, four files and a conference may be.
use Rattle.std.specs.Prelude.{◌≡◌, ℕ, ◌≤◌, ◌<◌, ◌^◌, List, [], ◌∷◌, length, All}
use Rattle.jam_records.specs.byte_lists.Byte.{IsByte}
use Rattle.jam_records.specs.record_numbers.Numbers.{IsU32}
use Rattle.jam_layout.specs.Limits.{slot_limit}
use Rattle.jam_layout.specs.declared.conference.ConferenceContents.{ConferenceContents}
use Rattle.jam_layout.specs.Messages.{IsSlot}
use Rattle.jam_layout.specs.Reader.{IsReader}
use Rattle.jam_layout.specs.declared.files.BaseFiles.{BaseFiles}
use Rattle.jam_layout.specs.declared.reader.Reader.{Reader}
use Rattle.jam_layout.specs.declared.shape.Shape.{Shape}

-- the ids of readers rise
abbrev pub Rise : List Reader → Type 0
Rise [] = Unit {0}
Rise (r ∷ []) = Unit {0}
Rise (r ∷ s ∷ readers) = (r.id < s.id) × Rise (s ∷ readers)

-- the place is at most 63, and the ids of the readers rise
pub record IsShape (shape : Shape) : Type 0 where
  pub place : shape.place ≤ 63
  pub rise : Rise shape.readers

-- its numbers, and the ids and names of its readers, are of their types
pub record ShapeFits (shape : Shape) : Type 0 where
  pub created : IsU32 shape.created
  pub readers : All IsReader shape.readers

-- four lists of bytes; the headers, the bodies and the index are each shorter than 2^31
pub record BaseFilesFit (files : BaseFiles) : Type 0 where
  pub jhr : All IsByte files.jhr × (length files.jhr < 2 ^ 31)
  pub jdt : All IsByte files.jdt × (length files.jdt < 2 ^ 31)
  pub jdx : All IsByte files.jdx × (length files.jdx < 2 ^ 31)
  pub jlr : All IsByte files.jlr

-- a pointer for each reader, none above the count of slots
pub record PointersFit (count : ℕ) (readers : List Reader) (pointers : List ℕ) : Type 0 where
  pub all : length pointers ≡ length readers
  pub within : All (λ p. p ≤ count) pointers

-- a conference of this shape
pub record IsConference (shape : Shape) (c : ConferenceContents) : Type 0 where
  pub counter : IsU32 c.counter
  pub few : length c.slots ≤ slot_limit
  pub slots : All (IsSlot shape.kind) c.slots
  pub pointers : PointersFit (length c.slots) shape.readers c.pointers
