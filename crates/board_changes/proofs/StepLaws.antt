-- What an intent asks of the patches of one place's change, where there is one.
use Rattle.std.proofs.Common.{◌≡◌, List, subst}
use Rattle.std.specs.Prelude.{Option, Some, None, IfSome}
use Rattle.board_changes.specs.Change.{ChangesBase}
use Rattle.board_changes.specs.Gathered.{Joins}
use Rattle.board_layout.specs.Layout.{files_in}
use Rattle.intent_journal.specs.declared.patch.Patch.{Patch}
use Rattle.board_layout.proofs.jam_base.PatchLaws.{nothing_small}
use Rattle.board_layout.specs.jam_base.Change.{SuitsIntent}
use Rattle.board_layout.specs.jam_base.Contents.{Contents}
use Rattle.board_layout.specs.jam_base.declared.change.BaseChange.{BaseChange}
use Rattle.board_changes.specs.Steps.{base_after, patches_or_none}

pub change_suits : (old new : Contents) (change : Option BaseChange) → IfSome change (ChangesBase old) → base_after old change ≡ new → SuitsIntent old.shape.place (files_in new) (patches_or_none change)
change_suits old new None changes is = nothing_small old.shape.place (files_in new)
change_suits old new (Some change) changes is = subst (λ (c : Contents). SuitsIntent old.shape.place (files_in c) change.patches) is changes.intent

pub change_joins : (done : List Patch) (change : Option BaseChange) → Joins done (patches_or_none change) → IfSome change (λ c. Joins done c.patches)
change_joins done None joins = tt
change_joins done (Some change) joins = joins
