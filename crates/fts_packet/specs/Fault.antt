-- The first fault of a packet, by place. At a place where a message should stand the rows of one table are tried from
-- the top. One byte is cut, a number that isn't 2 is of another kind, and fewer than 34 bytes are cut. Then come To,
-- From, Subject and the text in turn.
use Rattle.std.specs.Prelude.{◌≡◌, ℕ, ◌+◌, ◌<◌, List, [], ◌∷◌, ◌++◌, length, take, drop, Option, Some, None, Bool, false, not, ◌==◌, nat_lt, if◌then◌else◌}
use Rattle.std.specs.List.{list_any}
use Rattle.std.specs.Option.{option_or}
use Rattle.record_numbers.specs.Numbers.{u16_at}
use Rattle.fts_packet.specs.Packet.{IsHeader, PackedMessagesRead, is_end}
use Rattle.fts_packet.specs.declared.fault.FtsRule.{FtsRule}
use Rattle.fts_packet.specs.declared.fault.FtsRule.TheVariants.{Short, WrongType, Kind, Cut, Field}
use Rattle.fts_packet.specs.declared.packet.FtsMessage.{FtsMessage}

abbrev pub has_nul : List ℕ → Bool
has_nul text = list_any (λ b. b == 0) text

-- what stands behind the first NUL
abbrev pub past_nul : List ℕ → List ℕ
past_nul [] = []
past_nul (b ∷ rest) = if b == 0 then rest else past_nul rest

-- what a field breaks without a NUL in its next bytes, so many: the file ends in them, or it is too long
abbrev pub field_fault : ℕ → List ℕ → FtsRule
field_fault width rest = if nat_lt (length rest) width then Cut else Field

-- a field has its NUL there
abbrev pub field_rule : ℕ → List ℕ → Option FtsRule
field_rule width rest = if has_nul (take width rest) then None else Some (field_fault width rest)

-- a text has its NUL
abbrev pub text_rule : List ℕ → Option FtsRule
text_rule rest = if has_nul rest then None else Some Cut

-- Subject, and the text behind it
abbrev pub subject_rule : List ℕ → Option FtsRule
subject_rule rest = option_or (field_rule 72 rest) (text_rule (past_nul rest))

-- From, and these behind it
abbrev pub from_rule : List ℕ → Option FtsRule
from_rule rest = option_or (field_rule 36 rest) (subject_rule (past_nul rest))

-- To, and these behind it
abbrev pub fields_rule : List ℕ → Option FtsRule
fields_rule rest = option_or (field_rule 36 rest) (from_rule (past_nul rest))

-- the rule that these bytes break, which aren't the packet's end, or none where they begin with a message
unfoldable pub message_rule : List ℕ → Option FtsRule
message_rule rest =
    if nat_lt (length rest) 2 then Some Cut
    else (if not (u16_at 0 rest == 2) then Some Kind
    else (if nat_lt (length rest) 34 then Some Cut
    else fields_rule (drop 34 rest)))

-- this rule is the first that the bytes break, at this place
pub data FtsFault (bytes : List ℕ) (rule : FtsRule) (at : ℕ) : Type 0 where
  too_short : length bytes < 58 → rule ≡ Short → at ≡ 0 → FtsFault bytes rule at
  other_type : (header rest : List ℕ) → bytes ≡ header ++ rest → length header ≡ 58 → ¬ (u16_at 18 header ≡ 2) → rule ≡ WrongType → at ≡ 18 → FtsFault bytes rule at
  -- behind whole messages
  at_message : (header before rest : List ℕ) (messages : List FtsMessage) → bytes ≡ header ++ (before ++ rest) → IsHeader header → PackedMessagesRead header before messages
      → is_end rest ≡ false → message_rule rest ≡ Some rule → at ≡ 58 + length before → FtsFault bytes rule at
