-- What is said of a refused command.
use Rattle.std.specs.Prelude.{ℕ, List, [], ◌++◌, codes, decimal, Option, Some, None}
use Rattle.fts_packet.specs.RuleWord.{packet_word}
use Rattle.import_sheet.specs.RuleWord.{sheet_rule_word}
use Rattle.qwk_blocks.specs.declared.fault.QwkFault.TheVariants.{Truncated, BadBlocks}
use Rattle.setup_file.specs.RuleWord.{setup_word}
use Rattle.shelf_files.specs.declared.refusal.Refusal.{Refusal}
use Rattle.shelf_files.specs.declared.refusal.Refusal.TheVariants.{NoFile, TooLarge, Broken, ControlShort, ControlNumber, ControlId, NoMessage, NoBoardId, OtherBoard, NoConference}
use Rattle.shelf_files.specs.declared.refusal.Refusal.TheVariants.{Sheet, Text, NotMade, Exists, Name, DupUser, Users, NoUser, Limit, Packets, NoPacket, Uploads, Count, Setup}
use Rattle.shelf_files.specs.declared.refusal.Refusal.TheVariants.{Slots, Size, Packet, ForeignShort, ForeignSignature}
use Rattle.shelf_files.specs.declared.said.Said.{Said}
use Rattle.shelf_files.specs.declared.said.Said.TheVariants as said

-- the line of a refusal, of its words and what stands behind them
abbrev pub line_of : List ℕ → List ℕ → List ℕ
line_of words behind = codes "refused " ++ (words ++ (behind ++ codes "\n"))

-- the same with the number of a line and the word of the rule that it breaks
abbrev pub ruled_line : List ℕ → ℕ → List ℕ → List ℕ
ruled_line words line rule = codes "refused " ++ (words ++ (decimal line ++ (codes " " ++ (rule ++ codes "\n"))))

-- the same with the word of a rule, and the byte at which it is broken
abbrev pub fault_line : List ℕ → List ℕ → ℕ → List ℕ
fault_line words rule at = codes "refused " ++ (words ++ (rule ++ (codes " " ++ (decimal at ++ codes "\n"))))

-- the line of what is said
abbrev pub said_line : Said → List ℕ
said_line (said.Words words) = line_of words.now []
said_line (said.Name words name) = line_of words.now name.now
said_line (said.Number words number) = line_of words.now (decimal number)
said_line (said.Rule words line rule) = ruled_line words.now line rule.now
said_line (said.Fault words rule at) = fault_line words.now rule.now at

-- the line that names the open packet with the greatest number, if one is open
abbrev pub nopacket_line : Option ℕ → List ℕ
nopacket_line None = line_of (codes "nopacket ") (codes "none")
nopacket_line (Some packet) = line_of (codes "nopacket ") (decimal packet)

-- one line for each refusal
abbrev pub refusal_line : Refusal → List ℕ
refusal_line (NoFile name) = line_of (codes "nofile ") name
refusal_line (TooLarge name) = line_of (codes "toolarge ") name
refusal_line (Broken (Truncated at)) = line_of (codes "broken truncated ") (decimal at)
refusal_line (Broken (BadBlocks at)) = line_of (codes "broken blocks ") (decimal at)
refusal_line (ControlShort line) = line_of (codes "control short ") (decimal line)
refusal_line (ControlNumber line) = line_of (codes "control number ") (decimal line)
refusal_line ControlId = line_of (codes "control id 5") []
refusal_line NoMessage = line_of (codes "nomessage") []
refusal_line NoBoardId = line_of (codes "noboardid") []
refusal_line OtherBoard = line_of (codes "board") []
refusal_line NoConference = line_of (codes "noconference") []
refusal_line (Sheet line rule) = ruled_line (codes "sheet ") line (sheet_rule_word rule)
refusal_line (Text number) = line_of (codes "text ") (decimal number)
refusal_line NotMade = line_of (codes "notmade") []
refusal_line Exists = line_of (codes "exists") []
refusal_line Name = line_of (codes "name") []
refusal_line DupUser = line_of (codes "dupuser") []
refusal_line Users = line_of (codes "users") []
refusal_line NoUser = line_of (codes "nouser") []
refusal_line Limit = line_of (codes "limit") []
refusal_line Packets = line_of (codes "packets") []
refusal_line (NoPacket packet) = nopacket_line packet
refusal_line Uploads = line_of (codes "uploads 100000") []
refusal_line Count = line_of (codes "count") []
refusal_line (Setup line rule) = ruled_line (codes "setup ") line (setup_word rule)
refusal_line (Slots count) = line_of (codes "slots ") (decimal count)
refusal_line (Size bytes) = line_of (codes "size ") (decimal bytes)
refusal_line (Packet rule at) = fault_line (codes "packet ") (packet_word rule) at
refusal_line ForeignShort = line_of (codes "foreign short") []
refusal_line ForeignSignature = line_of (codes "foreign signature") []
