-- A reader of a conference: an id of four bytes and a name of bytes.
use Rattle.std.specs.Prelude.{All}
use Rattle.jam_records.specs.byte_lists.Byte.{IsByte}
use Rattle.jam_records.specs.record_numbers.Numbers.{IsU32}
use Rattle.jam_layout.specs.declared.reader.Reader.{Reader}

abbrev pub IsReader : Reader → Type 0
IsReader reader = IsU32 reader.id × All IsByte reader.name
