-- The words of the rules of records.
use Rattle.std.specs.Prelude.{ℕ, List, codes}
use Rattle.jam_records.specs.declared.damage.DamageRule.{DamageRule}
use Rattle.jam_records.specs.declared.damage.DamageRule.TheVariants.{Size, Short, Magic, Version, Count, Number, Text, Id, Zones, Kind, Rules, Name, Order, Twice, Flags, Member, Offer, User, Counts}
use Rattle.jam_records.specs.declared.damage.DamageRule.TheVariants.{Rest, Signature, Created, Fields, Revision, Attribute, Subfields, Value, Crc}
use Rattle.jam_records.specs.declared.damage.DamageRule.TheVariants.{Active, Links, Line, Index, Missing, Reader, Pointer, High}

abbrev pub damage_word : DamageRule → List ℕ
damage_word Size = codes "size"
damage_word Short = codes "short"
damage_word Magic = codes "magic"
damage_word Version = codes "version"
damage_word Count = codes "count"
damage_word Number = codes "number"
damage_word Text = codes "text"
damage_word Id = codes "id"
damage_word Zones = codes "zones"
damage_word Kind = codes "kind"
damage_word Rules = codes "rules"
damage_word Name = codes "name"
damage_word Order = codes "order"
damage_word Twice = codes "twice"
damage_word Flags = codes "flags"
damage_word Member = codes "member"
damage_word Offer = codes "offer"
damage_word User = codes "user"
damage_word Counts = codes "counts"
damage_word Rest = codes "rest"
damage_word Signature = codes "signature"
damage_word Created = codes "created"
damage_word Fields = codes "fields"
damage_word Revision = codes "revision"
damage_word Attribute = codes "attribute"
damage_word Subfields = codes "subfields"
damage_word Value = codes "value"
damage_word Crc = codes "crc"
damage_word Active = codes "active"
damage_word Links = codes "links"
damage_word Line = codes "line"
damage_word Index = codes "index"
damage_word Missing = codes "missing"
damage_word Reader = codes "reader"
damage_word Pointer = codes "pointer"
damage_word High = codes "high"
