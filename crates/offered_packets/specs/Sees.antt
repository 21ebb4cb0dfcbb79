-- What a user may see of a board.
use Rattle.std.specs.Prelude.{ℕ, Option, Some, None, Bool, false, not, ◌&&◌, ◌||◌}
use Rattle.std.specs.Str.{str_eq_ignore_ascii_case}
use Rattle.board_ledger.specs.Users.{is_member}
use Rattle.board_ledger.specs.declared.ledger.Ledger.{Ledger}
use Rattle.board_ledger.specs.declared.user.User.{User}
use Rattle.board_layout.specs.Board.{Board}
use Rattle.board_layout.specs.Lookups.{user_of, slots_in, message_at}
use Rattle.board_layout.specs.jam_base.Slots.{has_live}
use Rattle.jam_records.specs.declared.message.Message.{Message}

-- the user's name is the sysop's, ignoring ASCII case
abbrev pub is_sysop : Ledger → User → Bool
is_sysop l u = str_eq_ignore_ascii_case u.name l.setup.sysop

-- the message is to the user or from the user, ignoring ASCII case
abbrev pub names_user : User → Message → Bool
names_user u m = str_eq_ignore_ascii_case m.to u.name || str_eq_ignore_ascii_case m.from u.name

-- a member of the conference in a place may see its message where that isn't private or names him; the sysop sees private ones too
abbrev pub may_see : Ledger → ℕ → User → Message → Bool
may_see l place u m = is_member u place && ((not m.private || names_user u m) || is_sysop l u)

-- the user and the message are there, and he may see it
abbrev pub is_allowed : Ledger → ℕ → Option User → Option Message → Bool
is_allowed l place None m = false
is_allowed l place (Some u) None = false
is_allowed l place (Some u) (Some m) = may_see l place u m

-- the message of a number in a place is live, and the user of an id may see it
unfoldable pub sees : Board → ℕ → ℕ → ℕ → Bool
sees b id place number = has_live number (slots_in b place) && is_allowed b.ledger place (user_of id b) (message_at b place number)
