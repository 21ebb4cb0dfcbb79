use Rattle.std.proofs.Common.{[], min, refl, ap, ◌∙◌}
use Rattle.jam_layout.specs.Sizes.{slot_size}
use Rattle.jam_records.specs.declared.message.Message.{Message}
use Rattle.jam_records.specs.declared.message.Slot.TheVariants.{Held}
use Rattle.slot_changes.proofs.SlotValues.{none_given}
use Rattle.slot_changes.proofs.slots.slot_size.Goals as goal

pub returns-in-Held : goal.returns-in-Held
returns-in-Held c = rw c.in-Held.is (c.message_size.ensures [] refl ∙ ap (λ (m : Message). min (slot_size (Held m)) 18446744073709551615) (none_given c.in-Held.message))
