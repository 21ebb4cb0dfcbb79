-- Whether there is room for a post behind others.
use Rattle.std.specs.Prelude.{ℕ, List, [], ◌∷◌, ◌++◌, length, Bool, ◌||◌, nat_le, nat_lt}
use Rattle.board_layout.specs.Board.{Board}
use Rattle.board_layout.specs.Layout.{board_size}
use Rattle.board_layout.specs.Valid.{board_limit}
use Rattle.board_layout.specs.jam_layout.Limits.{slot_limit}
use Rattle.jam_records.specs.declared.message.Message.{Message}
use Rattle.board_layout.specs.Lookups.{slots_in}
use Rattle.post_changes.specs.Posted.{spread}

-- the conference has 9,999 slots with the posts before it, or the data files would be too long with it
abbrev pub is_full : Board → List (ℕ × Message) → ℕ × Message → Bool
is_full b posts post = nat_le slot_limit (length (slots_in (spread posts b) post.0)) || nat_lt board_limit (board_size (spread (posts ++ post ∷ []) b))
