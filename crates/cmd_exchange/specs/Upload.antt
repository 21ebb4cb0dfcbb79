-- The command `upload`.
use Rattle.std.specs.Prelude.{◌≡◌, ℕ, ◌+◌, ◌-◌, List, [], ◌∷◌, ◌++◌, length, codes, Option, Some, None, Result, Ok, Err}
use Rattle.cmd_board.specs.State.{State}
use Rattle.cmd_board.specs.Turns.{Turn, refuses, on_board}
use Rattle.board_layout.specs.Board.{Board}
use Rattle.door_outside.specs.Shelf.{ShelfFiles}
use Rattle.door_upload.specs.Upload.{Upload, UploadRefusal, UploadsFor}
use Rattle.door_upload.specs.Upload as upload
use Rattle.door_upload.specs.declared.answer.Uploaded.{Uploaded}
use Rattle.door_upload.specs.declared.answer.Uploaded.TheVariants.{Again, Judged}
use Rattle.entry_runs.specs.Door.{Act}
use Rattle.cmd_board.specs.mail_board.Readers.{user_id}
use Rattle.mail_intake.specs.Lines.{posted_line, refused_line, counts_line}
use Rattle.netmail_rules.specs.RuleWord.{rule_word}
use Rattle.mail_intake.specs.packet_verdicts.Judged.{refused_count}
use Rattle.mail_intake.specs.packet_verdicts.declared.outcome.Outcome.{Outcome}
use Rattle.mail_intake.specs.packet_verdicts.declared.outcome.Outcome.TheVariants.{Posted, Refused}
use Rattle.shelf_files.specs.Halts.{done}
use Rattle.shelf_files.specs.ShelfFile.{file_within, rep_limit}
use Rattle.shelf_files.specs.declared.refusal.Refusal.{Refusal}
use Rattle.shelf_files.specs.declared.refusal.Refusal.TheVariants as refusal

-- ---- the reply
-- what became of the message in a place, from 1
abbrev pub outcome_line : ℕ → Outcome → List ℕ
outcome_line place (Posted conference number) = posted_line place conference number
outcome_line place (Refused rule) = refused_line place (rule_word rule)

-- of the messages from a place on
abbrev pub outcome_lines : ℕ → List Outcome → List ℕ
outcome_lines place [] = []
outcome_lines place (outcome ∷ outcomes) = outcome_line place outcome ++ outcome_lines (place + 1) outcomes

-- the counts of outcomes
abbrev pub tally : List Outcome → List ℕ
tally outcomes = counts_line (length outcomes - refused_count outcomes) (refused_count outcomes)

abbrev pub uploaded_text : Uploaded → List ℕ
uploaded_text (Again counts) = codes "again " ++ counts_line counts.posted counts.refused
uploaded_text (Judged outcomes) = outcome_lines 1 outcomes ++ tally outcomes

-- ---- the turn
-- the refusal of the command
abbrev pub upload_refusal : UploadRefusal → Refusal
upload_refusal upload.NoUser = refusal.NoUser
upload_refusal (upload.Broken fault) = refusal.Broken fault
upload_refusal upload.NoBoardId = refusal.NoBoardId
upload_refusal upload.OtherBoard = refusal.OtherBoard
upload_refusal upload.Uploads = refusal.Uploads
upload_refusal (upload.Size bytes) = refusal.Size bytes

-- the packet is taken in, or was before, unless that is refused
abbrev pub uploaded_turn : Board → Result Upload UploadRefusal → Turn
uploaded_turn b (Ok (upload.Again counts)) = record { board = Some b; reply = done (uploaded_text (Again counts)) }
uploaded_turn b (Ok (upload.Judged next outcomes)) = record { board = Some next; reply = done (uploaded_text (Judged outcomes)) }
uploaded_turn b (Err why) = refuses (upload_refusal why) (Some b)

-- the bytes of the file, or why there are none
abbrev pub UploadsRead : ℕ → ℕ → Board → Result (List ℕ) Refusal → Turn → Type 0
UploadsRead id now b (Err why) turn = turn ≡ refuses why (Some b)
UploadsRead id now b (Ok bytes) turn = (r : Result Upload UploadRefusal) × UploadsFor id bytes now b r × (turn ≡ uploaded_turn b r)

-- the user, who is looked for before the file
abbrev pub UploadsFile : List ℕ → ℕ → ShelfFiles → Board → Option ℕ → Turn → Type 0
UploadsFile file now shelf b None turn = turn ≡ refuses refusal.NoUser (Some b)
UploadsFile file now shelf b (Some id) turn = UploadsRead id now b (file_within shelf file rep_limit) turn

abbrev pub Uploads : List ℕ → List ℕ → ℕ → ShelfFiles → Option Board → Turn → Type 0
Uploads name file now shelf None turn = turn ≡ refuses refusal.NotMade None
Uploads name file now shelf (Some b) turn = UploadsFile file now shelf b (user_id name b) turn

abbrev pub uploads : List ℕ → List ℕ → ℕ → Act State
uploads name file now = on_board (Uploads name file now)
