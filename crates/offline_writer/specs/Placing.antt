-- Drafts at the end of a reply packet.
use Rattle.std.specs.Prelude.{◌≡◌, ℕ, ◌+◌, ◌==◌, Bool, List, ◌++◌, length, map, min, All}
use Rattle.std.specs.List.{enumerate_from, list_any}
use Rattle.long_names.specs.Plain.{with_long}
use Rattle.qwk_blocks.specs.declared.message.QwkMessage.{QwkMessage}
use Rattle.qwk_control.specs.declared.control.Control.{Control}
use Rattle.rep_packet.specs.declared.rep.Rep.{Rep}
use Rattle.offline_writer.specs.Fitting.{FitsQwk}

-- a message with a logical number, up to 65,535
abbrev pub with_logical : ℕ → QwkMessage → QwkMessage
with_logical place m = record m { header = record m.header { logical = min place 65535 } }

-- a draft in a place of a reply packet, which is its logical number, with its long values as lines
abbrev pub placed : ℕ × QwkMessage → QwkMessage
placed (place, draft) = with_logical place (with_long draft)

-- drafts of which the first has this place
abbrev pub placed_from : ℕ → List QwkMessage → List QwkMessage
placed_from first drafts = map placed (enumerate_from first drafts)

-- a reply packet with drafts at its end, where places count from 1
abbrev pub with_drafts : Rep → List QwkMessage → Rep
with_drafts rep drafts = record rep { messages = rep.messages ++ placed_from (length rep.messages + 1) drafts }

-- drafts that can be put into QWK were added at the end
pub record Adds (drafts : List QwkMessage) (old new : Rep) : Type 0 where
  pub fit : All FitsQwk drafts
  pub new_is : new ≡ with_drafts old drafts

-- the packet has a conference of this number
abbrev pub lists_conference : Control → ℕ → Bool
lists_conference control number = list_any (λ listed. listed.0 == number) control.conferences
