-- The change of one place, where there is one.
use Rattle.std.specs.Prelude.{List, [], Option, option_map, unwrap_or}
use Rattle.intent_journal.specs.declared.patch.Patch.{Patch}
use Rattle.board_layout.specs.jam_base.Contents.{Contents}
use Rattle.board_layout.specs.jam_base.declared.change.BaseChange.{BaseChange}

-- the base after it, or the old one where there is none
abbrev pub base_after : Contents → Option BaseChange → Contents
base_after old change = unwrap_or (option_map (λ c. c.base) change) old

-- its patches, or none
abbrev pub patches_or_none : Option BaseChange → List Patch
patches_or_none change = unwrap_or (option_map (λ c. c.patches) change) []
