-- The words of the rules.
use Rattle.std.specs.Prelude.{ℕ, List, codes}
use Rattle.netmail_rules.specs.declared.rule.Rule.{Rule}
use Rattle.netmail_rules.specs.declared.rule.Rule.TheVariants.{Killed, Password, Conference, Member, Readonly, Sender, To, Subject, Length, Private, Netuser, Address, Zone, Full}

abbrev pub rule_word : Rule → List ℕ
rule_word Killed = codes "killed"
rule_word Password = codes "password"
rule_word Conference = codes "conference"
rule_word Member = codes "member"
rule_word Readonly = codes "readonly"
rule_word Sender = codes "sender"
rule_word To = codes "to"
rule_word Subject = codes "subject"
rule_word Length = codes "length"
rule_word Private = codes "private"
rule_word Netuser = codes "netuser"
rule_word Address = codes "address"
rule_word Zone = codes "zone"
rule_word Full = codes "full"
