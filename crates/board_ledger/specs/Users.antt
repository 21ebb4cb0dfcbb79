-- A user's record in a ledger: text name, u8 flags (bit 0 net), u32 last packet. Then version 1 has u32 offered packet
-- or 0, u64 member set (bit k for place k) and one u32 high per conference. Version 2 has the member set, and four
-- offers, each u32 number or 0 and one u32 high per conference.
use Rattle.std.specs.Prelude.{ℕ, ◌+◌, ◌^◌, List, [], ◌∷◌, ◌++◌, length, map, slice_index, Bool, IsTrue, Result, not, ◌&&◌, ◌==◌, nat_lt, if◌then◌else◌}
use Rattle.std.specs.List.{flat_map, list_any}
use Rattle.std.specs.Str.{bytes_eq}
use Rattle.std.specs.Char.{to_ascii_lowercase}
use Rattle.std.specs.Int.{bit_at}
use Rattle.jam_records.specs.record_numbers.Numbers.{u32_at, u32_text, IsU32}
use Rattle.jam_records.specs.declared.damage.Damage.{Damage}
use Rattle.jam_records.specs.declared.damage.DamageRule.TheVariants.{Short, Name, Twice, Flags, Member, Offer}
use Rattle.damage_rules.specs.Rules.{Rules, by_rules}
use Rattle.setup_file.specs.Texts.{is_user_name}
use Rattle.open_offers.specs.Offers.{AreOffers, AreOldOffers, behind_last, behind_size, cell_count, cells_behind, cells_for, members_at, open_in, right_cells}
use Rattle.open_offers.specs.Texts.{sized_text, text_at, text_end}
use Rattle.board_ledger.specs.declared.user.User.{User}
use Rattle.open_offers.specs.declared.version.Version.{Version}

-- the record in a version, where there are so many conferences
unfoldable pub user_text : Version → ℕ → User → List ℕ
user_text v count u =
    sized_text u.name
    ++ ((if u.net then 1 else 0) ∷ (u32_text u.last ++ behind_last v u.members (cells_for count (cell_count v) u.offers)))

-- the records of users
abbrev pub users_text : Version → ℕ → List User → List ℕ
users_text v count users = flat_map (user_text v count) users

-- the length of what stands behind the name
abbrev pub behind_name : Version → ℕ → ℕ
behind_name v count = 5 + behind_size v count

unfoldable pub user_end : Version → ℕ → List ℕ → ℕ
user_end v count bytes = text_end 0 bytes + behind_name v count

-- the user at the front as the record has him, with all cells as his offers
unfoldable pub user_record_of : Version → ℕ → List ℕ → User
user_record_of v count bytes =
    let place = text_end 0 bytes in
    record {
      name = text_at 0 bytes;
      net = slice_index bytes place == 1;
      members = members_at v (place + 5) bytes;
      last = u32_at (place + 1) bytes;
      offers = cells_behind v (place + 5) count bytes;
    }

-- the user of a record, with the open offers of its cells
abbrev pub with_open : User → User
with_open u = record u { offers = open_in u.offers }

abbrev pub user_in_record : Version → ℕ → List ℕ → User
user_in_record v count bytes = with_open (user_record_of v count bytes)

-- the name without regard to ASCII case
abbrev pub lowered : List ℕ → List ℕ
lowered name = map to_ascii_lowercase name

-- one of these users has the name, ignoring ASCII case
abbrev pub is_taken : List User → List ℕ → Bool
is_taken users name = list_any (λ u. bytes_eq (lowered u.name) (lowered name)) users

-- a place is in the member set
abbrev pub is_member : User → ℕ → Bool
is_member u place = bit_at u.members place == 1

-- a bit is there, and none past the conferences
unfoldable pub right_members : ℕ → ℕ → Bool
right_members count members = not (members == 0) && nat_lt members (2 ^ count)

-- the cells of a record are right
abbrev pub right_offers : Version → User → Bool
right_offers v u = right_cells v u.members u.last u.offers

-- the rules of the record at the front, behind those before
unfoldable pub user_rules : Version → ℕ → List User → List ℕ → Rules
user_rules v count before bytes =
    (Short, nat_lt (length bytes) (user_end v count bytes))
    ∷ (Name, not (is_user_name (user_record_of v count bytes).name))
    ∷ (Twice, is_taken before (user_record_of v count bytes).name)
    ∷ (Flags, nat_lt 1 (slice_index bytes (text_end 0 bytes)))
    ∷ (Member, not (right_members count (user_record_of v count bytes).members))
    ∷ (Offer, not (right_offers v (user_record_of v count bytes)))
    ∷ []

-- the user at the front, and the length of the record
unfoldable pub user_at : Version → ℕ → List User → List ℕ → Result (User × ℕ) Damage
user_at v count before bytes =
    by_rules 0 (1 + count + length before) (user_rules v count before bytes) (user_in_record v count bytes, user_end v count bytes)

-- a user of a board of so many conferences
pub record IsUser (count : ℕ) (u : User) : Type 0 where
  pub name : IsTrue (is_user_name u.name)
  pub members : IsTrue (right_members count u.members)
  pub last : IsU32 u.last
  pub offers : AreOffers count u.members u.last u.offers

-- one whose offers version 1 has
abbrev pub IsOldUser : User → Type 0
IsOldUser u = AreOldOffers u.last u.offers
