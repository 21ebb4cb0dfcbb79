-- Record 0 of the ledger: all before the conferences.
use Rattle.std.specs.Prelude.{ℕ, ◌+◌, ◌*◌, List, [], ◌∷◌, ◌++◌, length, take, Bool, Result, not, ◌&&◌, ◌||◌, ◌==◌, nat_lt}
use Rattle.std.specs.List.{flat_map}
use Rattle.std.specs.Str.{bytes_eq}
use Rattle.byteorder.specs.Endian.{little_bytes}
use Rattle.jam_records.specs.record_numbers.Numbers.{u16_at, u32_at, u32s_text}
use Rattle.jam_records.specs.declared.damage.Damage.{Damage}
use Rattle.jam_records.specs.declared.damage.DamageRule.TheVariants.{Short, Magic, Version as WrongVersion, Count, Number, Text, Id, Zones}
use Rattle.damage_rules.specs.Rules.{Rules, by_rules}
use Rattle.setup_file.specs.Texts.{is_board_text, is_user_name, is_bbsid}
use Rattle.setup_file.specs.Zones.{are_zones}
use Rattle.setup_file.specs.declared.fields.SetupFields.{SetupFields}
use Rattle.open_offers.specs.Texts.{sized_text, text_at, text_end, u16s_at}
use Rattle.open_offers.specs.Versions.{version_number, version_of, wrong_version}
use Rattle.board_ledger.specs.Limits.{upload_limit, user_limit}
use Rattle.board_ledger.specs.declared.ledger.Ledger.{Ledger}
use Rattle.board_ledger.specs.declared.opening.Opening.{Opening}
use Rattle.board_ledger.specs.declared.opening.Places.{Places}
use Rattle.open_offers.specs.declared.version.Version.{Version}

-- `QMDL`
abbrev pub magic : List ℕ
magic = 0x51 ∷ 0x4D ∷ 0x44 ∷ 0x4C ∷ []

-- the first 24 bytes: magic, version, the counts of conferences, users, zones and upload records, created, serial
unfoldable pub fixed_text : Version → Ledger → List ℕ
fixed_text v l =
    magic
    ++ (flat_map (little_bytes 2) (version_number v ∷ length l.setup.conferences ∷ length l.users ∷ length l.setup.zones ∷ [])
    ++ u32s_text (length l.uploads ∷ l.created ∷ l.setup.serial ∷ []))

-- then board, city, phone, sysop and bbsid, and the zones
abbrev pub setup_text : SetupFields → List ℕ
setup_text s =
    sized_text s.board ++ (sized_text s.city ++ (sized_text s.phone ++ (sized_text s.sysop ++ (sized_text s.bbsid ++ flat_map (little_bytes 2) s.zones))))

abbrev pub opening_text : Version → Ledger → List ℕ
opening_text v l = fixed_text v l ++ setup_text l.setup

-- where the texts behind the first, the zones and the record's end are, as lengths and counts say
unfoldable pub places_of : List ℕ → Places
places_of bytes =
    let city = text_end 24 bytes in
    let phone = text_end city bytes in
    let sysop = text_end phone bytes in
    let bbsid = text_end sysop bytes in
    let zones = text_end bbsid bytes in
    record { city = city; phone = phone; sysop = sysop; bbsid = bbsid; zones = zones; end = zones + 2 * u16_at 10 bytes }

-- the setup, whose conferences are read later
unfoldable pub setup_of : List ℕ → SetupFields
setup_of bytes =
    let p = places_of bytes in
    record {
      board = text_at 24 bytes;
      city = text_at p.city bytes;
      phone = text_at p.phone bytes;
      sysop = text_at p.sysop bytes;
      bbsid = text_at p.bbsid bytes;
      serial = u32_at 20 bytes;
      zones = u16s_at p.zones (u16_at 10 bytes) bytes;
      conferences = [];
    }

unfoldable pub opening_of : List ℕ → Opening
opening_of bytes = record {
  version = version_of (u16_at 4 bytes);
  setup = setup_of bytes;
  created = u32_at 16 bytes;
  conferences = u16_at 6 bytes;
  users = u16_at 8 bytes;
  uploads = u32_at 12 bytes;
  size = (places_of bytes).end;
}

-- 1 to 64 conferences, 0 to 500 users, 0 to 16 zones, 0 to 100,000 upload records, or a count is wrong
unfoldable pub wrong_counts : List ℕ → Bool
wrong_counts bytes =
    ((u16_at 6 bytes == 0 || nat_lt 64 (u16_at 6 bytes)) || nat_lt user_limit (u16_at 8 bytes)) || (nat_lt 16 (u16_at 10 bytes) || nat_lt upload_limit (u32_at 12 bytes))

-- board, city or phone is no board text, or the sysop no user name
unfoldable pub wrong_texts : SetupFields → Bool
wrong_texts s = not (is_board_text s.board && (is_board_text s.city && (is_board_text s.phone && is_user_name s.sysop)))

-- the rules of the first 24 bytes
unfoldable pub fixed_rules : List ℕ → Rules
fixed_rules bytes =
    (Short, nat_lt (length bytes) 24)
    ∷ (Magic, not (bytes_eq (take 4 bytes) magic))
    ∷ (WrongVersion, wrong_version (u16_at 4 bytes))
    ∷ (Count, wrong_counts bytes)
    ∷ (Number, nat_lt 99999 (u32_at 20 bytes))
    ∷ []

-- the rules of what lies behind them
unfoldable pub setup_rules : List ℕ → SetupFields → Rules
setup_rules bytes s =
    (Short, nat_lt (length bytes) (places_of bytes).end)
    ∷ (Text, wrong_texts s)
    ∷ (Id, not (is_bbsid s.bbsid))
    ∷ (Zones, not (are_zones s.zones))
    ∷ []

unfoldable pub opening_at : List ℕ → Result Opening Damage
opening_at bytes = by_rules 0 0 (fixed_rules bytes ++ setup_rules bytes (setup_of bytes)) (opening_of bytes)
