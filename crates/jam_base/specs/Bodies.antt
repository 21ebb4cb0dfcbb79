-- Where the bodies stand in .JDT, and what a change does to them.
use Rattle.std.specs.Prelude.{◌≡◌, ℕ, ◌-◌, List, ◌++◌, length, take, drop, sum_by, Option, Some, None}
use Rattle.intent_journal.specs.Patches.{HostFiles, patched}
use Rattle.intent_journal.specs.declared.patch.Patch.{Patch}
use Rattle.intent_journal.specs.door_outside.File.{jdt_file}
use Rattle.jam_writing.specs.jam_layout.Bodies.{body_size}
use Rattle.jam_writing.specs.jam_layout.declared.files.BaseFiles.{BaseFiles}
use Rattle.jam_records.specs.declared.message.Slot.{Slot}
use Rattle.jam_records.specs.declared.message.Slot.TheVariants.{Gone, Held}
use Rattle.jam_base.specs.Slots.{numbered}
use Rattle.jam_base.specs.declared.span.Span.{Span}

-- where in .JDT the body of the message of a number begins: behind those before it
abbrev pub body_begin : ℕ → List Slot → ℕ
body_begin number slots = sum_by body_size (take (number - 1) slots)

-- the place and the length of the body of what a slot holds
abbrev pub span_at : ℕ → Slot → Option Span
span_at at Gone = None
span_at at (Held message) = Some (record { at = at; len = length message.body })

-- that of the message of a number, where a slot of the number holds one
abbrev pub body_span : ℕ → List Slot → Option Span
body_span number slots = span_at (body_begin number slots) (numbered slots number)

-- The patches lengthen .JDT, and do nothing else to it. Whatever bytes it holds, where they are as many as the old
-- one's, the patches leave them. Behind them they put what the new one has behind the old one.
pub record Lengthens (place : ℕ) (old new : BaseFiles) (patches : List Patch) : Type 0 where
  pub bodies : (files : HostFiles) → length (files (jdt_file place)) ≡ length old.jdt → patched patches files (jdt_file place) ≡ files (jdt_file place) ++ drop (length old.jdt) new.jdt
