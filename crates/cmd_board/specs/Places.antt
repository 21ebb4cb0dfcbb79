-- What a place of a board has.
use Rattle.std.specs.Prelude.{ℕ, length, slice_get}
use Rattle.std.specs.Option.{option_map_or}
use Rattle.board_layout.specs.Board.{Board}
use Rattle.jam_records.specs.declared.message.Kind.{Kind}
use Rattle.jam_records.specs.declared.message.Kind.TheVariants.{Local}

-- the kind of the conference in a place that has one
abbrev pub kind_of_place : ℕ → Board → Kind
kind_of_place place b = option_map_or (λ c. c.kind) (slice_get b.ledger.setup.conferences place) Local

-- how many slots it has
abbrev pub slot_count : ℕ → Board → ℕ
slot_count place b = option_map_or (λ c. length c.slots) (slice_get b.conferences place) 0
