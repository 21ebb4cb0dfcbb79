-- The words of the rules, of packets and of their messages.
use Rattle.std.specs.Prelude.{ℕ, List, codes}
use Rattle.fts_packet.specs.declared.fault.FtsRule.{FtsRule}
use Rattle.fts_packet.specs.declared.fault.FtsRule.TheVariants.{Short, WrongType, Kind, Cut, Field}
use Rattle.fts_packet.specs.declared.rule.TossRule.{TossRule}
use Rattle.fts_packet.specs.declared.rule.TossRule.TheVariants.{Area, Net, To, From, Subject, Length, Dupe, Full}

abbrev pub packet_word : FtsRule → List ℕ
packet_word Short = codes "short"
packet_word WrongType = codes "type"
packet_word Kind = codes "kind"
packet_word Cut = codes "cut"
packet_word Field = codes "field"

abbrev pub toss_word : TossRule → List ℕ
toss_word Area = codes "area"
toss_word Net = codes "net"
toss_word To = codes "to"
toss_word From = codes "from"
toss_word Subject = codes "subject"
toss_word Length = codes "length"
toss_word Dupe = codes "dupe"
toss_word Full = codes "full"
