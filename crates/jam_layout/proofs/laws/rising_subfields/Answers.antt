use Rattle.jam_layout.proofs.InOrderLaws.{fill, values, short_fit}
use Rattle.jam_layout.proofs.laws.rising_subfields.Goals as goal

pub returns : goal.returns
returns c = record { fill = fill; values = values; fit = short_fit }
