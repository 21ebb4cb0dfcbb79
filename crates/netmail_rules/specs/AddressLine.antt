-- Address lines: the first line of net mail, which names its recipient and his address.
use Rattle.std.specs.Prelude.{◌≡◌, ℕ, ◌+◌, ◌-◌, ◌≤◌, List, [], ◌∷◌, ◌++◌, length, drop, All, Option, Some, None, option_map, Bool, IsTrue, nat_le, ◌&&◌, ◌==◌, if◌then◌else◌, decimal}
use Rattle.std.specs.List.{before_last, after_last, list_all}
use Rattle.text_fields.specs.Blank.{IsBlank}
use Rattle.text_fields.specs.Number.{Digits}
use Rattle.text_fields.specs.Split.{Lacks}
use Rattle.text_fields.specs.Trim.{BeginsWithNone}
use Rattle.text_fields.specs.declared.blank.Blank.TheVariants.{Spaces}
use Rattle.setup_file.specs.Words.{past_spaces, before_spaces, is_number, number_of}
use Rattle.jam_records.specs.Addresses.{IsPart, point_text}
use Rattle.jam_layout.specs.Address.{before, past, is_part}
use Rattle.jam_layout.specs.Fields.{is_text}
use Rattle.netmail_rules.specs.declared.address.Address.{Address}
use Rattle.netmail_rules.specs.declared.net_line.NetLine.{NetLine}

-- The text is its front, the last byte of the value, and the rest.
pub record SplitsAtLast (byte : ℕ) (text front rest : List ℕ) : Type 0 where
  pub whole : text ≡ front ++ byte ∷ rest
  pub last : Lacks byte rest

-- no byte is below 20h
abbrev pub is_plain : List ℕ → Bool
is_plain text = list_all (λ b. nat_le 0x20 b) text

-- ---- what an address line is
-- 1 to 5 digits of the number, which is at most 32,767
pub record PartReads (text : List ℕ) (n : ℕ) : Type 0 where
  pub digits : Digits text n
  pub short : length text ≤ 5
  pub small : IsPart n

-- a dot and the point, or nothing where it is 0
abbrev pub PointReads : List ℕ → ℕ → Type 0
PointReads [] point = point ≡ 0
PointReads (mark ∷ digits) point = (mark ≡ 46) × PartReads digits point

-- a node, and its point
pub record NodeReads (text : List ℕ) (found : ℕ × ℕ) : Type 0 where
  pub digits : List ℕ
  pub behind : List ℕ
  pub whole : text ≡ digits ++ behind
  pub node : PartReads digits found.0
  pub point : PointReads behind found.1

-- `zone:net/node` or `zone:net/node.point`
pub record AddressReads (text : List ℕ) (a : Address) : Type 0 where
  pub zone_digits : List ℕ
  pub net_digits : List ℕ
  pub node_text : List ℕ
  pub whole : text ≡ zone_digits ++ (58 ∷ (net_digits ++ (47 ∷ node_text)))
  pub zone : PartReads zone_digits a.zone
  pub net : PartReads net_digits a.net
  pub node : NodeReads node_text (a.node, a.point)

-- The line is spaces, a name, `@`, an address, and spaces. The name stands at these places.
pub record IsAddressLine (line : List ℕ) (found : NetLine) : Type 0 where
  pub before : List ℕ
  pub name : List ℕ
  pub address_text : List ℕ
  pub after : List ℕ
  pub whole : line ≡ before ++ (name ++ (64 ∷ (address_text ++ after)))
  pub blank_before : All (IsBlank Spaces) before
  pub blank_after : All (IsBlank Spaces) after
  pub begins : BeginsWithNone (IsBlank Spaces) name
  pub named : IsTrue (is_text 36 name)
  pub from : found.name_from ≡ length before
  pub to : found.name_to ≡ length before + length name
  pub address : AddressReads address_text found.address

-- ---- what it names, as functions
-- the number of 1 to 5 digits, where it is at most 32,767
unfoldable pub part_of : List ℕ → Option ℕ
part_of digits = if is_number digits && is_part (number_of digits) then Some (number_of digits) else None

-- the point behind a node: 0 where nothing stands there, else the number behind a mark
abbrev pub point_of : List ℕ → Option ℕ
point_of [] = Some 0
point_of (mark ∷ digits) = part_of digits

-- both, where both are there
abbrev pub both : Option ℕ → Option ℕ → Option (ℕ × ℕ)
both (Some node) (Some point) = Some (node, point)
both (Some node) None = None
both None point = None

-- the node, and its point
unfoldable pub node_of : List ℕ → Option (ℕ × ℕ)
node_of text = both (part_of (before 46 text)) (point_of (drop (length (before 46 text)) text))

-- the address of these parts, where all are there
abbrev pub address_from : Option ℕ → Option ℕ → Option (ℕ × ℕ) → Option Address
address_from (Some zone) (Some net) (Some found) = Some (record { zone = zone; net = net; node = found.0; point = found.1 })
address_from (Some zone) (Some net) None = None
address_from (Some zone) None found = None
address_from None net found = None

-- the address that a text is
unfoldable pub address_of : List ℕ → Option Address
address_of text = address_from (part_of (before 58 text)) (part_of (before 47 (past 58 text))) (node_of (past 47 (past 58 text)))

-- what stands before the last `@`, without the spaces at the front, and behind it, without those at the end
abbrev pub name_part : List ℕ → List ℕ
name_part line = past_spaces (before_last (λ b. b == 64) line)

abbrev pub address_part : List ℕ → List ℕ
address_part line = before_spaces (after_last (λ b. b == 64) line)

-- where the name ends
abbrev pub name_end : List ℕ → ℕ
name_end line = length (before_last (λ b. b == 64) line)

-- a name that ends there, and this address
abbrev pub naming : List ℕ → ℕ → Address → NetLine
naming name end address = record { name_from = end - length name; name_to = end; address = address }

-- what an address line names
unfoldable pub net_line : List ℕ → Option NetLine
net_line line = if is_text 36 (name_part line) then option_map (naming (name_part line) (name_end line)) (address_of (address_part line)) else None

-- an address as a message keeps it
abbrev pub stored_address : Address → List ℕ
stored_address a = decimal a.zone ++ (58 ∷ (decimal a.net ++ (47 ∷ (decimal a.node ++ point_text a.point))))
