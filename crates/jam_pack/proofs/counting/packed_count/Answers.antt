use Rattle.std.proofs.Common.{◌∙◌, Option, ap}
use Rattle.std.specs.Option.{option_map_or}
use Rattle.board_layout.specs.jam_base.Contents.{Contents}
use Rattle.slot_changes.specs.Packed.{deleted_count}
use Rattle.jam_pack.proofs.counting.packed_count.Goals as goal

pub returns-in-Some : goal.returns-in-Some
returns-in-Some c = c.deleted_count.ensures ∙ ap (λ (o : Option Contents). option_map_or (λ (base : Contents). deleted_count base.conference.slots) o 0) c.in-Some.ensures.contents

pub returns-in-None : goal.returns-in-None
returns-in-None c = ap (λ (o : Option Contents). option_map_or (λ (base : Contents). deleted_count base.conference.slots) o 0) c.in-None.ensures.contents
