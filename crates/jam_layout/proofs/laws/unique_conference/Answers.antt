use Rattle.jam_layout.proofs.ConferenceLayout.{undamaged, unique}
use Rattle.jam_layout.proofs.LayoutBounds.{layout_fits}
use Rattle.jam_layout.proofs.laws.unique_conference.Goals as goal

pub returns : goal.returns
returns c = record { undamaged = undamaged; unique = unique; fit = layout_fits }
