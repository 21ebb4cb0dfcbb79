-- What is known of a command that goes by steps, from what is known of each.
use Rattle.std.proofs.Common.{◌≡◌, ℕ, List, true, Result, Ok, Err, refl, sym, ap, ◌∙◌, inl, inr, subst}
use Rattle.std.proofs.lemmas.Bool.{cond-true}
use Rattle.door_outside.specs.Shelf.{ShelfFiles}
use Rattle.offline_writer.specs.Placing.{lists_conference}
use Rattle.offline_writer.specs.declared.fault.DraftError.TheVariants as draft
use Rattle.qwk_blocks.specs.declared.fault.QwkFault.{QwkFault}
use Rattle.qwk_blocks.specs.declared.message.QwkMessage.{QwkMessage}
use Rattle.qwk_control.specs.declared.control.Control.{Control}
use Rattle.rep_packet.specs.Rep.{RepFault}
use Rattle.rep_packet.specs.declared.fault.RepError.{RepError}
use Rattle.rep_packet.specs.declared.fault.RepError.TheVariants as rep
use Rattle.rep_packet.specs.declared.rep.Rep.{Rep}
use Rattle.shelf_files.specs.Halts.{Comes}
use Rattle.shelf_files.specs.declared.halt.Halt.{Halt}
use Rattle.shelf_files.specs.declared.halt.Halt.TheVariants.{Refused, ShelfFault, OutOfMemory}
use Rattle.shelf_files.specs.declared.refusal.Refusal.{Refusal}
use Rattle.shelf_files.specs.declared.refusal.Refusal.TheVariants.{NoConference}
use Rattle.cmd_replies.specs.Compose.{ConferenceIn}
use Rattle.cmd_replies.specs.RepFile.{DraftsFit, Enlarges, EnlargesRep, RepIn, rep_halt}
use Rattle.cmd_replies.specs.Steps.{Then}
use Rattle.cmd_replies.specs.declared.enlarging.Enlarged.{Enlarged}

-- it gives a value, with which the others go on
pub comes_next : {A B : Type 0} (First : Result A Refusal → Type 0) (Next : A → Result B Refusal → Type 0) (found : A) (result : Result B Halt)
    → First (Ok found) → Comes result (Next found) → Comes result (Then First Next)
comes_next First Next found (Ok value) first next = (found, first, next)
comes_next First Next found (Err (Refused why)) first next = inr (found, first, next)
comes_next First Next found (Err ShelfFault) first next = tt
comes_next First Next found (Err OutOfMemory) first next = tt

-- bytes are no reply packet
pub no_rep : (bbsid bytes : List ℕ) (error : RepError) → ((fault : QwkFault) → error ≡ rep.Fault fault → RepFault bytes (rep.Fault fault))
    → (error ≡ rep.NoBoardId → RepFault bytes rep.NoBoardId) → Comes {Value = Rep} (Err (rep_halt error)) (RepIn bbsid bytes)
no_rep bbsid bytes (rep.Fault fault) breaks none = inl (rep.Fault fault, breaks fault refl, refl)
no_rep bbsid bytes rep.NoBoardId breaks none = inl (rep.NoBoardId, none refl, refl)
no_rep bbsid bytes rep.OutOfMemory breaks none = tt

-- drafts that fit, at the end of the reply packet of a shelf that is as it was
pub enlarges : (old mid : ShelfFiles) (name bbsid slice : List ℕ) (drafts made : List QwkMessage) (result : Result Enlarged Halt) → mid ≡ old → slice ≡ bbsid → DraftsFit drafts (Ok made)
    → Comes result (EnlargesRep mid name slice made) → Comes result (Enlarges old name bbsid drafts)
enlarges old mid name bbsid slice drafts made result same id fit comes =
    comes_next (DraftsFit drafts) (EnlargesRep old name bbsid) made result fit
    (subst (λ (files : ShelfFiles). Comes result (EnlargesRep files name bbsid made)) same (subst (λ (board : List ℕ). Comes result (EnlargesRep mid name board made)) id comes))

-- a conference that is listed
pub conference_in : (control : Control) (conference number : ℕ) → number ≡ conference → lists_conference control conference ≡ true → ConferenceIn control conference (Ok number)
conference_in control conference number is lists = ap Ok is ∙ sym (cond-true (lists_conference control conference) (Ok conference) (Err NoConference) lists)
