-- The attribute of a message (JAM message base proposal, revision 1, "Message attributes").
use Rattle.std.specs.Prelude.{ℕ, ◌+◌, ◌/◌, ◌%◌, ◌^◌, Bool, true, false, not, ◌||◌, ◌&&◌, ◌==◌, if◌then◌else◌}
use Rattle.jam_records.specs.declared.message.Kind.{Kind}
use Rattle.jam_records.specs.declared.message.Kind.TheVariants.{Local, Echo, Net}
use Rattle.jam_layout.specs.declared.marks.Marks.{Marks}

-- a mark's bit: MSG_LOCAL 1h, MSG_PRIVATE 4h, MSG_READ 8h, MSG_DELETED 80000000h
abbrev pub mark_bit : Bool → ℕ → ℕ
mark_bit mark bit = if mark then bit else 0

-- MSG_TYPELOCAL, MSG_TYPEECHO, MSG_TYPENET
abbrev pub type_bit : Kind → ℕ
type_bit Local = 0x80_0000
type_bit Echo = 0x100_0000
type_bit Net = 0x200_0000

abbrev pub is_net : Kind → Bool
is_net Local = false
is_net Echo = false
is_net Net = true

-- the bits of the marks and of the kind, and no other
unfoldable pub attribute_of : Kind → Marks → ℕ
attribute_of kind m =
    mark_bit m.local 0x1 + (mark_bit m.private 0x4 + (mark_bit m.seen 0x8 + (type_bit kind + mark_bit m.deleted 0x8000_0000)))

abbrev pub bit_of : ℕ → ℕ → Bool
bit_of place n = (n / 2 ^ place) % 2 == 1

-- the marks that an attribute shows
unfoldable pub marks_of : ℕ → Marks
marks_of n = record { local = bit_of 0 n; private = bit_of 2 n; seen = bit_of 3 n; deleted = bit_of 31 n }

-- a bit that isn't the door's, a wrong TYPE bit, or PRIVATE missing in a net conference
unfoldable pub wrong_attribute : Kind → ℕ → Bool
wrong_attribute kind n = not (n == attribute_of kind (marks_of n)) || (is_net kind && not (marks_of n).private)
