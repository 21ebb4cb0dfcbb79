-- The board of data files, or their first damage.
use Rattle.std.specs.Prelude.{ℕ, zero, suc, ◌+◌, ◌-◌, List, [], ◌∷◌, length, take, Bool, Option, Some, None, Result, Ok, Err, not, ◌&&◌, ◌==◌, nat_le, nat_lt, if◌then◌else◌}
use Rattle.std.specs.Str.{bytes_eq}
use Rattle.jam_records.specs.record_numbers.Numbers.{u16_at}
use Rattle.board_ledger.specs.Ledger.{ledger_of}
use Rattle.board_ledger.specs.Opening.{magic}
use Rattle.board_ledger.specs.Valid.{today}
use Rattle.board_ledger.specs.declared.ledger.Ledger.{Ledger}
use Rattle.board_ledger.specs.declared.user.User.{User}
use Rattle.board_ledger.specs.damage_rules.Rules.{by_rules, damage_of, ◌>>=◌}
use Rattle.door_outside.specs.File.{ledger_file, jhr_file, jdt_file, jdx_file, jlr_file}
use Rattle.board_ledger.specs.intent_journal.Patches.{HostFiles}
use Rattle.jam_base.specs.Change.{files_of_place}
use Rattle.jam_base.specs.jam_layout.Layout.{conference_of}
use Rattle.jam_base.specs.jam_layout.declared.conference.ConferenceContents.{ConferenceContents}
use Rattle.jam_base.specs.jam_layout.declared.shape.Shape.{Shape}
use Rattle.jam_records.specs.declared.damage.Damage.{Damage}
use Rattle.jam_records.specs.declared.damage.DamageRule.TheVariants.{Size, Rest, High}
use Rattle.board_layout.specs.Board.{Board, shapes_of}
use Rattle.board_layout.specs.Layout.{data_size}
use Rattle.board_layout.specs.OldLayout.{old_limit}
use Rattle.board_layout.specs.Valid.{board_limit, offers_fit}

-- the conference of each shape, read from the files of its place
abbrev pub conferences_of : List Shape → HostFiles → Result (List ConferenceContents) Damage
conferences_of [] files = Ok []
conferences_of (shape ∷ shapes) files = do
  c ← conference_of shape (files_of_place shape.place files)
  others ← conferences_of shapes files
  Ok (c ∷ others)

-- a file past the conferences is empty
abbrev pub is_rest : ℕ → HostFiles → Result (Unit {0}) Damage
is_rest file files = by_rules file 0 ((Rest, not (length (files file) == 0)) ∷ []) (tt {0})

-- so are the four of a place
unfoldable pub is_rest_place : ℕ → HostFiles → Result (Unit {0}) Damage
is_rest_place place files = do
  jhr ← is_rest (jhr_file place) files
  jdt ← is_rest (jdt_file place) files
  jdx ← is_rest (jdx_file place) files
  is_rest (jlr_file place) files

-- and those of so many places from one on
unfoldable pub are_rest : ℕ → ℕ → HostFiles → Result (Unit {0}) Damage
are_rest place zero files = Ok (tt {0})
are_rest place (suc n) files = do
  here ← is_rest_place place files
  are_rest (place + 1) n files

-- no high of an open offer of a user, from the one of this record on, is above the count of slots of its conference
abbrev pub highs_of : List ConferenceContents → ℕ → List User → Result (Unit {0}) Damage
highs_of conferences item [] = Ok (tt {0})
highs_of conferences item (u ∷ users) = do
  one ← by_rules ledger_file item ((High, not (offers_fit conferences u.offers)) ∷ []) (tt {0})
  highs_of conferences (item + 1) users

-- the board of a ledger and of the files behind it, or the first rule that these break: part by part, file by file, record
-- by record
unfoldable pub parts_behind : Ledger → HostFiles → Result Board Damage
parts_behind ledger files = do
  conferences ← conferences_of (shapes_of ledger) files
  empty ← are_rest (length ledger.setup.conferences) (64 - length ledger.setup.conferences) files
  within ← highs_of conferences (1 + length ledger.setup.conferences) ledger.users
  Ok (record { ledger = ledger; conferences = conferences })

-- the board of files that aren't too long together, with its ledger in version 2, or the first rule that they break
unfoldable pub parts_of : HostFiles → Result Board Damage
parts_of files = do
  ledger ← ledger_of (files ledger_file)
  parts_behind (today ledger) files

-- the text has the 24 bytes that a ledger begins with, of version 1
abbrev pub is_old_text : List ℕ → Bool
is_old_text bytes = nat_le 24 (length bytes) && (bytes_eq (take 4 bytes) magic && u16_at 4 bytes == 1)

-- how many bytes the data files may have together, by their ledger
abbrev pub size_limit : List ℕ → ℕ
size_limit bytes = if is_old_text bytes then old_limit else board_limit

-- the board of the files, or the first rule that they break
unfoldable pub board_of : HostFiles → Result Board Damage
board_of files = do
  sized ← by_rules ledger_file 0 ((Size, nat_lt (size_limit (files ledger_file)) (data_size files)) ∷ []) (tt {0})
  parts_of files

-- the first damage, or none
abbrev pub board_damage : HostFiles → Option Damage
board_damage files = damage_of (board_of files)

abbrev pub some_board : Result Board Damage → Result (Option Board) Damage
some_board (Ok b) = Ok (Some b)
some_board (Err d) = Err d

-- the board of the files, or none where all are empty, or the first damage
abbrev pub board_in : HostFiles → Result (Option Board) Damage
board_in files = if data_size files == 0 then Ok None else some_board (board_of files)
