-- The listing of a packet's messages.
use Rattle.std.specs.Prelude.{ℕ, ◌==◌, if◌then◌else◌, List, ◌++◌, length, codes, decimal}
use Rattle.std.specs.List.{flat_map, enumerate_from}
use Rattle.offline_reader.specs.Printed.{printed, printed_number, printed_line}
use Rattle.long_names.specs.Plain.{plain}
use Rattle.qwk_blocks.specs.declared.message.Header.{Header}
use Rattle.qwk_blocks.specs.declared.message.QwkMessage.{QwkMessage}
use Rattle.qwk_blocks.specs.Status.{private_status, comment_status, password_status}
use Rattle.qwk_control.specs.declared.control.Control.{Control}

-- the kind of a message by its activity byte, and else by its status byte
unfoldable pub kind : Header → List ℕ
kind header =
    if header.activity == 0xE2 then codes "killed" else
    if private_status header.status then codes "private" else
    if comment_status header.status then codes "comment" else
    if password_status header.status then codes "password" else codes "public"

-- who writes to whom about what
abbrev pub names : Header → List ℕ
names header = printed header.from ++ (codes " > " ++ (printed header.to ++ (codes ": " ++ printed header.subject)))

-- its place, which counts from 1, its conference and its number
abbrev pub place_text : ℕ → Header → List ℕ
place_text place header = decimal place ++ (codes " " ++ (decimal header.conference ++ (codes "/" ++ printed_number header.number)))

abbrev pub kind_text : Header → List ℕ
kind_text header = codes " " ++ (kind header ++ codes " ")

abbrev pub count_text : ℕ → List ℕ
count_text lines = codes " [" ++ (decimal lines ++ codes "]\n")

-- the line of a message, as it is read, in a place
abbrev pub plain_line : ℕ → QwkMessage → List ℕ
plain_line place message =
    place_text place message.header ++ (kind_text message.header ++ (names message.header ++ count_text (length message.lines)))

-- the line of the message in a place
unfoldable pub listing_line : ℕ × QwkMessage → List ℕ
listing_line (place, message) = plain_line place (plain message)

-- a line for each message, and their count
abbrev pub listing : List QwkMessage → List ℕ
listing messages = flat_map listing_line (enumerate_from 1 messages) ++ (decimal (length messages) ++ codes " messages\n")

-- the board and the user of a packet, and the listing
abbrev pub folder_listing : Control → List QwkMessage → List ℕ
folder_listing control messages =
    printed_line (codes "board ") (printed control.board) ++ (printed_line (codes "user ") (printed control.user) ++ listing messages)
