-- What one slot gives to the files of its conference.
use Rattle.std.specs.Prelude.{ℕ, List, [], length}
use Rattle.jam_records.specs.IndexRecords.{index_text}
use Rattle.jam_records.specs.declared.message.Kind.{Kind}
use Rattle.jam_records.specs.declared.message.Message.{Message}
use Rattle.jam_records.specs.declared.message.Slot.{Slot}
use Rattle.jam_records.specs.declared.message.Slot.TheVariants.{Gone, Held}
use Rattle.jam_layout.specs.jam_threads.declared.link.Link.{Link}
use Rattle.jam_layout.specs.Headers.{entry_text}
use Rattle.jam_layout.specs.Index.{no_pair, pair_of}
use Rattle.jam_layout.specs.declared.entry.HeaderEntry.{HeaderEntry}
-- to .JDT: the body, and its length
pub use Rattle.jam_layout.specs.Bodies.{body_piece, body_size}

-- a message with its number and its links
abbrev pub entry_with : ℕ → Link → Message → HeaderEntry
entry_with number link m = record { number = number; text_len = length m.body; link = link; message = m }

-- to .JHR: the header with its subfields, whose text is at an offset
abbrev pub header_piece : Kind → ℕ → ℕ → Link → Slot → List ℕ
header_piece kind offset number link Gone = []
header_piece kind offset number link (Held m) = entry_text kind offset (entry_with number link m)

-- to .JDX: the record, where the next header stands at a place
abbrev pub index_piece : ℕ → Slot → List ℕ
index_piece at Gone = index_text no_pair
index_piece at (Held m) = index_text (pair_of m at)
