-- Where the bodies of messages stand in the files of a host.
use Rattle.std.specs.Prelude.{◌≡◌, ℕ, ◌+◌, ◌-◌, List, take, drop, sum_by}
use Rattle.board_layout.specs.Layout.{files_in}
use Rattle.board_layout.specs.jam_base.Contents.{Contents}
use Rattle.board_layout.specs.jam_base.Outlined.{outlined}
use Rattle.jam_layout.specs.Valid.{IsConference}
use Rattle.jam_records.specs.declared.message.Slot.{Slot}
use Rattle.jam_records.specs.declared.message.Slot.TheVariants.{Gone, Held}

-- how many messages a slot holds
abbrev pub one_held : Slot → ℕ
one_held Gone = 0
one_held (Held message) = 1

-- which record of the conference the message of a number is, from 1
abbrev pub record_number : ℕ → List Slot → ℕ
record_number number slots = sum_by one_held (take (number - 1) slots) + 1

-- so many bytes of a file from one on
abbrev pub span_text : ℕ → ℕ → List ℕ → List ℕ
span_text at len file = take len (drop at file)

-- the other base is valid and has the outline of this one, and the file has its bodies
pub record HasBodies (base other : Contents) (jdt : List ℕ) : Type 0 where
  pub valid : IsConference other.shape other.conference
  pub alike : outlined other ≡ outlined base
  pub file : jdt ≡ (files_in other).jdt
