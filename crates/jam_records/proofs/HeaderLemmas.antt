-- What is written of a record stands in it.
use Rattle.std.proofs.Common.{◌≡◌, ℕ, ◌^◌, ◌<◌, ◌≤◌, List, [], ◌++◌, length, length-append, refl, sym, arith}
use Rattle.record_numbers.specs.Numbers.{u16_at, u32_at}
use Rattle.jam_records.specs.BaseHeaders.{base_text, IsBaseHeader, BaseHeaderStands}
use Rattle.jam_records.specs.MessageHeaders.{header_text, IsMessageHeader, MessageHeaderStands}
use Rattle.jam_records.specs.IndexRecords.{index_text, IsIndex, IndexStands}
use Rattle.jam_records.specs.LastReads.{last_text, IsLastRead, LastReadStands}
use Rattle.jam_records.specs.declared.base_header.BaseHeader.{BaseHeader}
use Rattle.jam_records.specs.declared.message_header.MessageHeader.{MessageHeader}
use Rattle.jam_records.specs.declared.index_record.IndexRecord.{IndexRecord}
use Rattle.jam_records.specs.declared.last_read.LastRead.{LastRead}
use Rattle.byteorder.specs.Endian.{little_number, little_bytes}
use Rattle.record_numbers.proofs.NumberLemmas.{number_of_bytes}

-- the four bytes of a number read as the number
back : (n : ℕ) → n < 2 ^ 32 → n ≡ little_number 4 (little_bytes 4 n)
back n small = sym (number_of_bytes 4 n [] small)

pub index_stands : (r : IndexRecord) (rest : List ℕ) → IsIndex r → IndexStands (index_text r ++ rest) r
unfolding u32_at index_text
index_stands r rest small = record {
  whole = omega arith;
  fields = λ i. record {
    to_crc = back r.to_crc (small 0 0 (omega arith)) i;
    offset = back r.offset (small 1 0 (omega arith)) i;
  };
}

pub last_stands : (r : LastRead) (rest : List ℕ) → IsLastRead r → LastReadStands (last_text r ++ rest) r
unfolding u32_at last_text
last_stands r rest small = record {
  whole = omega arith;
  fields = λ i. record {
    user_crc = back r.user_crc (small 0 0 (omega arith)) i;
    user_id = back r.user_id (small 1 0 (omega arith)) i;
    last = back r.last (small 2 0 (omega arith)) i;
    high = back r.high (small 3 0 (omega arith)) i;
  };
}

base_whole : (r : BaseHeader) (rest : List ℕ) → 1024 ≤ length (base_text r ++ rest)
unfolding base_text
base_whole r rest = omega (arith, length-append (base_text r) rest)

pub base_stands : (r : BaseHeader) (rest : List ℕ) → IsBaseHeader r → BaseHeaderStands (base_text r ++ rest) r
unfolding u32_at base_text
base_stands r rest small = record {
  whole = base_whole r rest;
  signed = refl;
  fields = λ i. record {
    created = back r.created (small 0 0 (omega arith)) i;
    mod_counter = back r.mod_counter (small 1 0 (omega arith)) i;
    active = back r.active (small 2 0 (omega arith)) i;
    password_crc = back r.password_crc (small 3 0 (omega arith)) i;
    base_number = back r.base_number (small 4 0 (omega arith)) i;
  };
}

pub header_stands : (r : MessageHeader) (rest : List ℕ) → IsMessageHeader r → MessageHeaderStands (header_text r ++ rest) r
unfolding u32_at header_text u16_at
header_stands r rest small = record {
  whole = omega arith;
  signed = refl;
  revision = refl;
  fields = λ i. record {
    subfield_len = back r.subfield_len (small 0 0 (omega arith)) i;
    times_read = back r.times_read (small 1 0 (omega arith)) i;
    msgid_crc = back r.msgid_crc (small 2 0 (omega arith)) i;
    reply_crc = back r.reply_crc (small 3 0 (omega arith)) i;
    reply_to = back r.reply_to (small 4 0 (omega arith)) i;
    reply1st = back r.reply1st (small 5 0 (omega arith)) i;
    reply_next = back r.reply_next (small 6 0 (omega arith)) i;
    written = back r.written (small 7 0 (omega arith)) i;
    received = back r.received (small 8 0 (omega arith)) i;
    processed = back r.processed (small 9 0 (omega arith)) i;
    number = back r.number (small 10 0 (omega arith)) i;
    attribute = back r.attribute (small 11 0 (omega arith)) i;
    attribute2 = back r.attribute2 (small 12 0 (omega arith)) i;
    offset = back r.offset (small 13 0 (omega arith)) i;
    text_len = back r.text_len (small 14 0 (omega arith)) i;
    password_crc = back r.password_crc (small 15 0 (omega arith)) i;
    cost = back r.cost (small 16 0 (omega arith)) i;
  };
}
