-- The words of the rules.
use Rattle.std.specs.Prelude.{ℕ, List, codes}
use Rattle.setup_file.specs.declared.error.SetupRule.{SetupRule}
use Rattle.setup_file.specs.declared.error.SetupRule.TheVariants.{Key, Text, Id, Number, Zones, Kind, Rules, Name, Order, Many, Missing}

abbrev pub setup_word : SetupRule → List ℕ
setup_word Key = codes "key"
setup_word Text = codes "text"
setup_word Id = codes "id"
setup_word Number = codes "number"
setup_word Zones = codes "zones"
setup_word Kind = codes "kind"
setup_word Rules = codes "rules"
setup_word Name = codes "name"
setup_word Order = codes "order"
setup_word Many = codes "many"
setup_word Missing = codes "missing"
