-- A conference's record: u16 number, u8 kind, u8 rules, text name.
use Rattle.std.specs.Prelude.{ℕ, ◌+◌, List, [], ◌∷◌, ◌++◌, length, slice_index, Bool, false, Result, not, ◌||◌, ◌==◌, nat_lt, nat_le, if◌then◌else◌}
use Rattle.jam_records.specs.record_numbers.Numbers.{u16_at, u16_text}
use Rattle.jam_records.specs.declared.damage.Damage.{Damage}
use Rattle.jam_records.specs.declared.damage.DamageRule.TheVariants.{Short, Kind as WrongKind, Rules as WrongRules, Name, Order}
use Rattle.jam_records.specs.declared.message.Kind.{Kind}
use Rattle.jam_records.specs.declared.message.Kind.TheVariants.{Local, Echo, Net}
use Rattle.damage_rules.specs.Rules.{Rules, by_rules}
use Rattle.setup_file.specs.Texts.{is_conference_name}
use Rattle.setup_file.specs.declared.conference.Conference.{Conference}
use Rattle.open_offers.specs.Texts.{sized_text, text_at, text_end}

-- 0 local, 1 echo, 2 net
abbrev pub kind_number : Kind → ℕ
kind_number Local = 0
kind_number Echo = 1
kind_number Net = 2

abbrev pub kind_of_number : ℕ → Kind
kind_of_number n = if n == 0 then Local else if n == 1 then Echo else Net

-- bit 0 readonly, bit 1 private
abbrev pub rules_number : Conference → ℕ
rules_number c = (if c.readonly then 1 else 0) + (if c.private then 2 else 0)

unfoldable pub conference_text : Conference → List ℕ
conference_text c = u16_text c.number ++ (kind_number c.kind ∷ rules_number c ∷ sized_text c.name)

unfoldable pub conference_fields : List ℕ → Conference
conference_fields bytes = record {
  number = u16_at 0 bytes;
  kind = kind_of_number (slice_index bytes 2);
  readonly = slice_index bytes 3 == 1 || slice_index bytes 3 == 3;
  private = slice_index bytes 3 == 2 || slice_index bytes 3 == 3;
  name = text_at 4 bytes;
}

-- the number isn't above that of the last of these
abbrev pub out_of_order : List Conference → ℕ → Bool
out_of_order [] number = false
out_of_order (c ∷ []) number = nat_le number c.number
out_of_order (c ∷ d ∷ before) number = out_of_order (d ∷ before) number

-- the rules of the record at the front, behind those before
unfoldable pub conference_record_rules : List Conference → List ℕ → Rules
conference_record_rules before bytes =
    (Short, nat_lt (length bytes) (text_end 4 bytes))
    ∷ (WrongKind, nat_lt 2 (slice_index bytes 2))
    ∷ (WrongRules, nat_lt 3 (slice_index bytes 3))
    ∷ (Name, not (is_conference_name (text_at 4 bytes)))
    ∷ (Order, out_of_order before (u16_at 0 bytes))
    ∷ []

-- the conference at the front, and the length of its record
unfoldable pub conference_at : List Conference → List ℕ → Result (Conference × ℕ) Damage
conference_at before bytes = by_rules 0 (1 + length before) (conference_record_rules before bytes) (conference_fields bytes, text_end 4 bytes)
