-- The turns of `upload` give what a lawful act asks.
use Rattle.std.proofs.Common.{◌≡◌, ◌≢◌, ℕ, List, [], ◌∷◌, ◌++◌, Option, Some, None, Result, Ok, Err, sym, ◌∙◌, ap, subst}
use Rattle.cmd_board.proofs.BoardActs.{AreTurns}
use Rattle.cmd_board.proofs.TurnLaws.{IsTurn, are_turns, refuses_is}
use Rattle.cmd_board.specs.Turns.{Turn}
use Rattle.board_layout.specs.Board.{Board}
use Rattle.door_outside.specs.Shelf.{ShelfFiles}
use Rattle.door_upload.proofs.OneUpload.{one_for}
use Rattle.door_upload.specs.Upload.{Again, Judged, Upload, UploadRefusal}
use Rattle.door_upload.specs.declared.answer.Uploaded.{Uploaded}
use Rattle.door_upload.specs.declared.answer.Uploaded.TheVariants as answer
use Rattle.cmd_board.specs.mail_board.Readers.{user_id}
use Rattle.shelf_files.specs.ShelfFile.{file_within, rep_limit}
use Rattle.shelf_files.specs.declared.refusal.Refusal.{Refusal}
use Rattle.shelf_files.specs.declared.refusal.Refusal.TheVariants.{NotMade, NoUser}
use Rattle.cmd_exchange.specs.Upload.{Uploads, UploadsFile, UploadsRead, outcome_lines, upload_refusal, tally, uploaded_turn, uploaded_text}

some_behind : (front back : List ℕ) → back ≢ [] → front ++ back ≢ []
some_behind [] back some is = some is
some_behind (b ∷ front) back some is = cc is

-- the counts are always said
uploaded_some : (u : Uploaded) → uploaded_text u ≢ []
uploaded_some (answer.Again counts) is = absurd (cc is)
uploaded_some (answer.Judged outcomes) is = some_behind (outcome_lines 1 outcomes) (tally outcomes) (λ none. cc none) is

turned_is : (b : Board) (r : Result Upload UploadRefusal) → IsTurn (Some b) (uploaded_turn b r)
turned_is b (Err why) = refuses_is (upload_refusal why) (Some b)
turned_is b (Ok (Again counts)) = record { says = uploaded_some (answer.Again counts); refused = λ is. absurd (cc is); undamaged = λ is. absurd (cc is) }
turned_is b (Ok (Judged next outcomes)) = record { says = uploaded_some (answer.Judged outcomes); refused = λ is. absurd (cc is); undamaged = λ is. absurd (cc is) }

module _ (name file : List ℕ) (now : ℕ) where
  read_is : (id : ℕ) (b : Board) (read : Result (List ℕ) Refusal) (turn : Turn) → UploadsRead id now b read turn → IsTurn (Some b) turn
  read_is id b (Err why) turn is = subst (IsTurn (Some b)) (sym is) (refuses_is why (Some b))
  read_is id b (Ok bytes) turn is = subst (IsTurn (Some b)) (sym is.2) (turned_is b is.0)

  file_is : (shelf : ShelfFiles) (b : Board) (id : Option ℕ) (turn : Turn) → UploadsFile file now shelf b id turn → IsTurn (Some b) turn
  file_is shelf b None turn is = subst (IsTurn (Some b)) (sym is) (refuses_is NoUser (Some b))
  file_is shelf b (Some id) turn is = read_is id b (file_within shelf file rep_limit) turn is

  uploads_is : (shelf : ShelfFiles) (board : Option Board) (turn : Turn) → Uploads name file now shelf board turn → IsTurn board turn
  uploads_is shelf None turn is = subst (IsTurn None) (sym is) (refuses_is NotMade None)
  uploads_is shelf (Some b) turn is = file_is shelf b (user_id name b) turn is

  -- one turn at most, since the bytes come to one thing at most
  read_once : (id : ℕ) (b : Board) (read : Result (List ℕ) Refusal) (one other : Turn) → UploadsRead id now b read one → UploadsRead id now b read other → one ≡ other
  read_once id b (Err why) one other first second = first ∙ sym second
  read_once id b (Ok bytes) one other first second = first.2 ∙ (ap (uploaded_turn b) (one_for id bytes now b first.0 second.0 first.1 second.1) ∙ sym second.2)

  file_once : (shelf : ShelfFiles) (b : Board) (id : Option ℕ) (one other : Turn) → UploadsFile file now shelf b id one → UploadsFile file now shelf b id other → one ≡ other
  file_once shelf b None one other first second = first ∙ sym second
  file_once shelf b (Some id) one other first second = read_once id b (file_within shelf file rep_limit) one other first second

  uploads_once : (shelf : ShelfFiles) (board : Option Board) (one other : Turn) → Uploads name file now shelf board one → Uploads name file now shelf board other → one ≡ other
  uploads_once shelf None one other first second = first ∙ sym second
  uploads_once shelf (Some b) one other first second = file_once shelf b (user_id name b) one other first second

pub upload_turns : (name file : List ℕ) (now : ℕ) → AreTurns (Uploads name file now)
upload_turns name file now = are_turns (Uploads name file now) (uploads_is name file now) (uploads_once name file now)
