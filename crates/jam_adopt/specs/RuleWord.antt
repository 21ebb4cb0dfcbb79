-- The words of the rules by which records of another tool's base are refused.
use Rattle.std.specs.Prelude.{ℕ, List, codes}
use Rattle.jam_adopt.specs.declared.found.ForeignRule.{ForeignRule}
use Rattle.jam_adopt.specs.declared.found.ForeignRule.TheVariants.{Header, Subfields, Text, Length}

abbrev pub foreign_word : ForeignRule → List ℕ
foreign_word Header = codes "header"
foreign_word Subfields = codes "subfields"
foreign_word Text = codes "text"
foreign_word Length = codes "length"
