-- The setup of a valid board.
use Rattle.std.specs.Prelude.{ℕ, ◌≤◌, ◌<◌, ◌^◌, List, length, map, All, IsTrue}
use Rattle.setup_file.specs.Rising.{are_rising}
use Rattle.setup_file.specs.Texts.{is_board_text, is_user_name, is_bbsid, is_conference_name}
use Rattle.setup_file.specs.Zones.{are_zones}
use Rattle.setup_file.specs.declared.conference.Conference.{Conference}
use Rattle.setup_file.specs.declared.fields.SetupFields.{SetupFields}

-- its number is of its type, and its name is a conference's
pub record IsSetupConference (c : Conference) : Type 0 where
  pub number : c.number < 2 ^ 16
  pub name : IsTrue (is_conference_name c.name)

abbrev pub numbers_of : List Conference → List ℕ
numbers_of conferences = map (λ c. c.number) conferences

-- 1 to 64 conferences, whose numbers rise
pub record AreSetupConferences (conferences : List Conference) : Type 0 where
  pub some : 1 ≤ length conferences
  pub many : length conferences ≤ 64
  pub each : All IsSetupConference conferences
  pub order : IsTrue (are_rising (numbers_of conferences))

-- a valid setup
pub record IsSetup (s : SetupFields) : Type 0 where
  pub board : IsTrue (is_board_text s.board)
  pub city : IsTrue (is_board_text s.city)
  pub phone : IsTrue (is_board_text s.phone)
  pub sysop : IsTrue (is_user_name s.sysop)
  pub bbsid : IsTrue (is_bbsid s.bbsid)
  pub serial : s.serial ≤ 99999
  pub zones : IsTrue (are_zones s.zones)
  pub conferences : AreSetupConferences s.conferences
