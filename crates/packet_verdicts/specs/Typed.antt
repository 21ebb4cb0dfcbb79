-- Posts whose bytes and moments are of their types.
use Rattle.std.specs.Prelude.{ℕ}
use Rattle.jam_records.specs.declared.message.Message.{Message}
use Rattle.board_layout.specs.jam_layout.Messages.{IsTyped}

-- the message of the post is
abbrev pub IsTypedPost : ℕ × Message → Type 0
IsTypedPost p = IsTyped p.1
