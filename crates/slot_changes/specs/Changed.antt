-- Boards after a change of slots.
use Rattle.std.specs.Prelude.{ℕ, ◌+◌, List, length, option_map, IsSomeAnd, IsTrue, if◌then◌else◌}
use Rattle.board_changes.specs.Changed.{base_at, with_base}
use Rattle.board_layout.specs.Board.{Board}
use Rattle.board_layout.specs.jam_base.Contents.{Contents, with_messages, with_deleted}
use Rattle.board_layout.specs.jam_base.Slots.{has_live}
use Rattle.jam_records.specs.declared.message.Message.{Message}
use Rattle.slot_changes.specs.Msgids.{msgid_in, all_identified}

-- the base with messages at the end, each with the msgid of its number, where it has none
abbrev pub with_identified : (ℕ → List ℕ) → List Message → Contents → Contents
with_identified msgid messages base = with_messages (all_identified msgid (length base.conference.slots + 1) messages) base

-- the board with messages appended in a place; where there are none, nothing changes
abbrev pub appended : ℕ → List Message → Board → Board
appended place messages b = with_base place (option_map (with_identified (msgid_in place b) messages) (base_at place b)) b

-- the base with the message of a number deleted, where there is one that isn't
abbrev pub with_killed : ℕ → Contents → Contents
with_killed number base = if has_live number base.conference.slots then with_deleted number base else base

-- the board with the message of a number in a place deleted, where there is one that isn't
abbrev pub deleted : ℕ → ℕ → Board → Board
deleted place number b = with_base place (option_map (with_killed number) (base_at place b)) b

-- the place is there, and the number is that of a message that isn't deleted
abbrev pub HasMessage : ℕ → ℕ → Board → Type 0
HasMessage place number b = IsSomeAnd (base_at place b) (λ base. IsTrue (has_live number base.conference.slots))
