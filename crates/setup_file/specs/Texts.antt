-- The rules of single texts, which setup file and ledger share. A text is tested as it stands.
use Rattle.std.specs.Prelude.{ℕ, ◌-◌, List, length, slice_index, Bool, not, ◌&&◌, ◌||◌, ◌==◌, nat_le}
use Rattle.std.specs.List.{list_all}

abbrev pub is_printed_byte : ℕ → Bool
is_printed_byte b = nat_le 0x20 b && nat_le b 0x7E

-- each byte is from 20h to 7Eh
abbrev pub is_printed : List ℕ → Bool
is_printed text = list_all is_printed_byte text

-- the name of a board, its city or its phone
unfoldable pub is_board_text : List ℕ → Bool
is_board_text text = nat_le (length text) 60 && is_printed text

-- a byte from 20h to 7Eh, and no `"`
abbrev pub is_name_byte : ℕ → Bool
is_name_byte b = is_printed_byte b && not (b == 0x22)

-- it isn't empty, and has no space at either end
abbrev pub has_bare_ends : List ℕ → Bool
has_bare_ends name = nat_le 1 (length name) && (not (slice_index name 0 == 0x20) && not (slice_index name (length name - 1) == 0x20))

-- 1 to 25 such bytes with bare ends
unfoldable pub is_user_name : List ℕ → Bool
is_user_name name = nat_le (length name) 25 && (list_all is_name_byte name && has_bare_ends name)

abbrev pub is_letter_or_digit : ℕ → Bool
is_letter_or_digit b = ((nat_le 0x41 b && nat_le b 0x5A) || (nat_le 0x61 b && nat_le b 0x7A)) || (nat_le 0x30 b && nat_le b 0x39)

-- 1 to 8 ASCII letters and digits
unfoldable pub is_bbsid : List ℕ → Bool
is_bbsid id = (nat_le 1 (length id) && nat_le (length id) 8) && list_all is_letter_or_digit id

-- 1 to 13 bytes from 20h to 7Eh
unfoldable pub is_conference_name : List ℕ → Bool
is_conference_name name = (nat_le 1 (length name) && nat_le (length name) 13) && is_printed name
