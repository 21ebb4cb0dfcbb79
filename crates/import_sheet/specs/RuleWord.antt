-- The words of the rules.
use Rattle.std.specs.Prelude.{ℕ, List, codes}
use Rattle.import_sheet.specs.declared.fault.SheetRule.{SheetRule}
use Rattle.import_sheet.specs.declared.fault.SheetRule.TheVariants.{Header, Twice, From, To, Subject, Date, Msgid, Reply, Private, Missing, Byte, Length, End}

abbrev pub sheet_rule_word : SheetRule → List ℕ
sheet_rule_word Header = codes "header"
sheet_rule_word Twice = codes "twice"
sheet_rule_word From = codes "from"
sheet_rule_word To = codes "to"
sheet_rule_word Subject = codes "subject"
sheet_rule_word Date = codes "date"
sheet_rule_word Msgid = codes "msgid"
sheet_rule_word Reply = codes "reply"
sheet_rule_word Private = codes "private"
sheet_rule_word Missing = codes "missing"
sheet_rule_word Byte = codes "byte"
sheet_rule_word Length = codes "length"
sheet_rule_word End = codes "end"
