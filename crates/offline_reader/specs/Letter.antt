-- A message as its reader sees it.
use Rattle.std.specs.Prelude.{ℕ, ◌==◌, ◌-◌, if◌then◌else◌, List, [], ◌∷◌, ◌++◌, Option, None, slice_get, codes, decimal}
use Rattle.std.specs.List.{flat_map}
use Rattle.offline_reader.specs.Printed.{printed, printed_number, printed_line}
use Rattle.long_names.specs.Plain.{plain}
use Rattle.qwk_blocks.specs.declared.message.Header.{Header}
use Rattle.qwk_blocks.specs.declared.message.QwkMessage.{QwkMessage}

-- the raw date and time fields
abbrev pub moment_text : Header → List ℕ
moment_text header = printed header.date ++ (32 ∷ [] ++ printed header.time)

unfoldable pub heading : Header → List ℕ
heading header =
    printed_line (codes "From: ") (printed header.from)
    ++ (printed_line (codes "To: ") (printed header.to)
    ++ (printed_line (codes "Subject: ") (printed header.subject)
    ++ (printed_line (codes "Date: ") (moment_text header)
    ++ (printed_line (codes "Conference: ") (decimal header.conference)
    ++ (printed_line (codes "Number: ") (printed_number header.number)
    ++ printed_line (codes "Reference: ") (printed_number header.reference))))))

-- the heading of a message as it is read, an empty line and the lines of the text
abbrev pub plain_letter : QwkMessage → List ℕ
plain_letter message = heading message.header ++ (10 ∷ [] ++ flat_map (λ line. printed_line [] (printed line)) message.lines)

-- the same of a message of a packet
abbrev pub letter : QwkMessage → List ℕ
letter message = plain_letter (plain message)

-- the message in a place, which counts from 1
abbrev pub message_in : List QwkMessage → ℕ → Option QwkMessage
message_in messages place = if place == 0 then None else slice_get messages (place - 1)
