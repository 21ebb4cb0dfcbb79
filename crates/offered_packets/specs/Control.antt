-- What CONTROL.DAT says of a packet.
use Rattle.std.specs.Prelude.{ℕ, ◌+◌, ◌/◌, ◌%◌, List, [], ◌∷◌, map, filter, codes}
use Rattle.std.specs.List.{enumerate_from}
use Rattle.std.specs.Str.{str_to_ascii_uppercase}
use Rattle.board_ledger.specs.Users.{is_member}
use Rattle.board_ledger.specs.declared.user.User.{User}
use Rattle.board_layout.specs.Board.{Board}
use Rattle.qwk_control.specs.declared.control.Control.{Control}
use Rattle.qwk_moments.specs.Moments.{stamp_text}
use Rattle.board_ledger.specs.setup_file.declared.conference.Conference.{Conference}

-- the last five decimal digits of a number
abbrev pub five_digits : ℕ → List ℕ
five_digits n = map (λ unit. 48 + n / unit % 10) (10_000 ∷ 1000 ∷ 100 ∷ 10 ∷ 1 ∷ [])

-- of conferences, by place from 0, the number and the name of each whose member the user is
abbrev pub listed : List Conference → User → List (ℕ × List ℕ)
listed conferences u = map (λ c. (c.1.number, c.1.name)) (filter (λ c. is_member u c.0) (enumerate_from 0 conferences))

-- the control of a user's packet of so many messages, made at a moment
unfoldable pub control : Board → User → ℕ → ℕ → Control
control b u count now = record {
  board = b.ledger.setup.board;
  city = b.ledger.setup.city;
  phone = b.ledger.setup.phone;
  sysop = b.ledger.setup.sysop;
  serial = five_digits b.ledger.setup.serial;
  bbsid = b.ledger.setup.bbsid;
  stamp = stamp_text now;
  user = str_to_ascii_uppercase u.name;
  menu = [];
  count = count;
  conferences = listed b.ledger.setup.conferences u;
  welcome = codes "WELCOME";
  news = codes "NEWS";
  goodbye = codes "GOODBYE";
}
