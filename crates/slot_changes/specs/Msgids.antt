-- Msgids that the board generates.
use Rattle.std.specs.Prelude.{ℕ, ◌+◌, List, [], ◌∷◌, ◌++◌, slice_get, decimal, All, IsTrue}
use Rattle.std.specs.Option.{option_map_or}
use Rattle.byte_lists.specs.Byte.{IsByte}
use Rattle.board_layout.specs.Board.{Board}
use Rattle.jam_layout.specs.Fields.{is_text}
use Rattle.jam_records.specs.declared.message.Message.{Message}

-- CONFERENCE.NUMBER.BBSID
abbrev pub generated : ℕ → List ℕ → ℕ → List ℕ
generated conference bbsid number = decimal conference ++ (46 ∷ (decimal number ++ (46 ∷ bbsid)))

-- the number of the conference in a place that has one
abbrev pub number_of_place : ℕ → Board → ℕ
number_of_place place b = option_map_or (λ c. c.number) (slice_get b.ledger.setup.conferences place) 0

-- the msgid that is generated for a message number in a place
abbrev pub msgid_in : ℕ → Board → ℕ → List ℕ
msgid_in place b number = generated (number_of_place place b) b.ledger.setup.bbsid number

-- a msgid that a message may have
pub record IsMsgid (msgid : List ℕ) : Type 0 where
  pub bytes : All IsByte msgid
  pub text : IsTrue (is_text 80 msgid)

-- a text, or another where it is empty
abbrev pub or_else : List ℕ → List ℕ → List ℕ
or_else [] other = other
or_else (b ∷ text) other = b ∷ text

-- a message with this msgid, where it has none
abbrev pub identified : List ℕ → Message → Message
identified msgid m = record m { msgid = or_else m.msgid msgid }

-- messages, the first of which gets this number, each with the msgid of its number, where it has none
abbrev pub all_identified : (ℕ → List ℕ) → ℕ → List Message → List Message
all_identified msgid number [] = []
all_identified msgid number (m ∷ messages) = identified (msgid number) m ∷ all_identified msgid (number + 1) messages
