-- The reply packet under a name, and drafts at its end.
use Rattle.std.specs.Prelude.{◌≡◌, ℕ, ◌≤◌, nat_le, if◌then◌else◌, List, [], length, Result, Ok, Err, All}
use Rattle.std.specs.Str.{str_eq_ignore_ascii_case}
use Rattle.door_outside.specs.Shelf.{ShelfFiles, held, fetched}
use Rattle.door_outside.specs.declared.fetch.Fetched.{Fetched}
use Rattle.door_outside.specs.declared.fetch.Fetched.TheVariants as fetch
use Rattle.offline_writer.specs.Fitting.{FitsQwk, IsFirstUnfit}
use Rattle.offline_writer.specs.Placing.{with_drafts}
use Rattle.offline_writer.specs.declared.fault.DraftError.{DraftError}
use Rattle.offline_writer.specs.declared.fault.DraftError.TheVariants as draft
use Rattle.qwk_blocks.specs.declared.message.QwkMessage.{QwkMessage}
use Rattle.rep_packet.specs.Rep.{RepReads, RepFault}
use Rattle.rep_packet.specs.Written.{IsRep, rep_text}
use Rattle.rep_packet.specs.declared.fault.RepError.{RepError}
use Rattle.rep_packet.specs.declared.fault.RepError.TheVariants as rep
use Rattle.rep_packet.specs.declared.rep.Rep.{Rep}
use Rattle.shelf_files.specs.ShelfFile.{ReadAs, rep_limit}
use Rattle.shelf_files.specs.declared.halt.Halt.{Halt}
use Rattle.shelf_files.specs.declared.halt.Halt.TheVariants as halt
use Rattle.shelf_files.specs.declared.refusal.Refusal.{Refusal}
use Rattle.shelf_files.specs.declared.refusal.Refusal.TheVariants.{Broken, NoBoardId, OtherBoard, Text, TooLarge}
use Rattle.cmd_replies.specs.Steps.{Then}
use Rattle.cmd_replies.specs.declared.enlarging.Enlarged.{Enlarged}

-- what a fault of a reply packet is refused as; want of memory is none
abbrev pub rep_refusal : RepError → Refusal
rep_refusal (rep.Fault fault) = Broken fault
rep_refusal rep.NoBoardId = NoBoardId
rep_refusal rep.OutOfMemory = NoBoardId

-- why a command stops at such a fault
abbrev pub rep_halt : RepError → Halt
rep_halt (rep.Fault fault) = halt.Refused (Broken fault)
rep_halt rep.NoBoardId = halt.Refused NoBoardId
rep_halt rep.OutOfMemory = halt.OutOfMemory

-- a reply packet is refused where it is for another board
abbrev pub IsForBoard : List ℕ → Rep → Result Rep Refusal → Type 0
IsForBoard bbsid found read = read ≡ (if str_eq_ignore_ascii_case found.bbsid bbsid then Ok found else Err OtherBoard)

-- the reply packet that bytes are, if it is for this board
abbrev pub RepIn : List ℕ → List ℕ → Result Rep Refusal → Type 0
RepIn bbsid bytes = Then (ReadAs RepReads RepFault rep_refusal (Ok bytes)) (IsForBoard bbsid)

-- a new reply packet for a board
abbrev pub no_replies : List ℕ → Rep
no_replies bbsid = record { bbsid = bbsid; messages = [] }

-- the reply packet of what was fetched under a name
abbrev pub RepFrom : List ℕ → List ℕ → Fetched → Result Rep Refusal → Type 0
RepFrom name bbsid fetch.Missing read = read ≡ Ok (no_replies bbsid)
RepFrom name bbsid fetch.TooLarge read = read ≡ Err (TooLarge name)
RepFrom name bbsid (fetch.Whole bytes) read = RepIn bbsid bytes read

-- The reply packet under a name, to be for this board. Where there is no file it is a new one.
abbrev pub RepOf : ShelfFiles → List ℕ → List ℕ → Result Rep Refusal → Type 0
RepOf shelf name bbsid read = RepFrom name bbsid (fetched rep_limit (held shelf name)) read

-- drafts are refused where one can't be put into QWK
abbrev pub DraftsFit : List QwkMessage → Result (List QwkMessage) Refusal → Type 0
DraftsFit drafts (Ok made) = (made ≡ drafts) × All FitsQwk drafts
DraftsFit drafts (Err why) = (number : ℕ) × IsFirstUnfit drafts number × (why ≡ Text number)

-- why a command stops at drafts
abbrev pub draft_halt : DraftError → Halt
draft_halt (draft.Text number) = halt.Refused (Text number)
draft_halt draft.OutOfMemory = halt.OutOfMemory

-- a reply packet with drafts at its end
abbrev pub enlarged : List QwkMessage → Rep → Enlarged
enlarged drafts old = record { added = length drafts; rep = with_drafts old drafts }

-- the same, refused where its written form is too long
abbrev pub EnlargedBy : List ℕ → List QwkMessage → Rep → Result Enlarged Refusal → Type 0
EnlargedBy name drafts old made =
    made ≡ (if nat_le (length (rep_text (with_drafts old drafts))) rep_limit then Ok (enlarged drafts old) else Err (TooLarge name))

-- the reply packet under a name with drafts at its end
abbrev pub EnlargesRep : ShelfFiles → List ℕ → List ℕ → List QwkMessage → Result Enlarged Refusal → Type 0
EnlargesRep shelf name bbsid drafts = Then (RepOf shelf name bbsid) (EnlargedBy name drafts)

-- the drafts are judged first, and the reply packet then
abbrev pub Enlarges : ShelfFiles → List ℕ → List ℕ → List QwkMessage → Result Enlarged Refusal → Type 0
Enlarges shelf name bbsid drafts = Then (DraftsFit drafts) (EnlargesRep shelf name bbsid)

-- a reply packet that has a written form, which is short enough
pub record MayBeWritten (made : Enlarged) : Type 0 where
  pub rep : IsRep made.rep
  pub short : length (rep_text made.rep) ≤ rep_limit
