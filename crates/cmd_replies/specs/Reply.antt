-- The command `reply`.
use Rattle.std.specs.Prelude.{◌≡◌, ℕ, List, [], ◌∷◌, ◌++◌, codes, decimal, Result}
use Rattle.door_outside.specs.Shelf.{ShelfFiles}
use Rattle.entry_runs.specs.Entry.{ShelfAct}
use Rattle.offline_reader.specs.Letter.{message_in}
use Rattle.offline_writer.specs.Drafts.{reply_draft}
use Rattle.cmd_packets.specs.Packets.{FolderOf}
use Rattle.qwk_blocks.specs.declared.message.QwkMessage.{QwkMessage}
use Rattle.qwk_control.specs.declared.control.Control.{Control}
use Rattle.shelf_files.specs.ShelfFile.{file_within, file_limit}
use Rattle.shelf_files.specs.declared.refusal.Refusal.{Refusal}
use Rattle.shelf_files.specs.declared.refusal.Refusal.TheVariants.{NoMessage}
use Rattle.cmd_replies.specs.RepFile.{Enlarges}
use Rattle.cmd_replies.specs.Steps.{Then, or_refused}
use Rattle.cmd_replies.specs.Writing.{writes, total_text}
use Rattle.cmd_replies.specs.declared.enlarging.Enlarged.{Enlarged}
use Rattle.cmd_replies.specs.declared.putting.Added.{Added}

-- the message in a place of a packet
abbrev pub MessageIn : List QwkMessage → ℕ → Result QwkMessage Refusal → Type 0
MessageIn messages place found = found ≡ or_refused NoMessage (message_in messages place)

-- the bytes of a text
abbrev pub TextOf : ShelfFiles → List ℕ → Result (List ℕ) Refusal → Type 0
TextOf shelf name read = read ≡ file_within shelf name file_limit

-- what a text makes of the message that it answers, in a reply packet
abbrev pub AnswerMakes : Control → QwkMessage → List ℕ → List ℕ → ℕ → ShelfFiles → Result Enlarged Refusal → Type 0
AnswerMakes control answered text rep now shelf =
    Then (TextOf shelf text) (λ bytes. Enlarges shelf rep control.bbsid (reply_draft control answered bytes now ∷ []))

-- the packet's folder, the message, the text, the reply packet: the first that is refused refuses the command
abbrev pub ReplyMakes : List ℕ → ℕ → List ℕ → List ℕ → ℕ → ShelfFiles → Result Enlarged Refusal → Type 0
ReplyMakes folder place text rep now shelf =
    Then (FolderOf shelf folder) (λ packet.
    Then (MessageIn packet.messages place) (λ answered.
    AnswerMakes packet.control answered text rep now shelf))

abbrev pub reply_line : ℕ → List ℕ → Added → List ℕ
reply_line place rep added = codes "replied to " ++ (decimal place ++ total_text added.total rep)

abbrev pub replies : List ℕ → ℕ → List ℕ → List ℕ → ℕ → ShelfAct
replies folder place text rep now = writes rep (ReplyMakes folder place text rep now) (reply_line place rep)
