-- What an upload makes of a board: it is refused, or says again what became of the packet, or judges it and records it.
use Rattle.std.proofs.Common.{◌≡◌, ◌⊎◌, ℕ, ◌-◌, Bool, true, false, cond, List, ◌++◌, length, Option, Some, None, Result, Ok, Err, refl, ap, ◌∙◌, inl, inr, arith}
use Rattle.std.specs.Prelude.{codes}
use Rattle.cmd_messages.specs.cmd_board.State.{State, Made, state_of}
use Rattle.cmd_messages.specs.cmd_board.Turns.{Turn}
use Rattle.board_layout.specs.Board.{Board}
use Rattle.board_ledger.specs.declared.upload.Counts.{Counts}
use Rattle.cmd_exchange.specs.door_upload.Upload.{Again, Broken, NoBoardId, OtherBoard, Upload, UploadRefusal, UploadsFor, is_for, new_upload, record_refusal, upload_once}
use Rattle.cmd_exchange.specs.door_upload.declared.answer.Uploaded.TheVariants as answer
use Rattle.entry_runs.specs.Entry.{Reply}
use Rattle.entry_runs.specs.declared.class.Class.TheVariants as class
use Rattle.cmd_messages.specs.mail_board.Readers.{upload_of}
use Rattle.cmd_adopt.specs.mail_intake.Lines.{counts_line}
use Rattle.cmd_messages.proofs.packet_verdicts.Counting.{all_counted, all_told}
use Rattle.cmd_messages.specs.packet_verdicts.Judged.{judged, refused_count}
use Rattle.post_changes.specs.Posted.{uploaded}
use Rattle.qwk_blocks.specs.declared.message.QwkMessage.{QwkMessage}
use Rattle.rep_packet.specs.declared.rep.Rep.{Rep}
use Rattle.sha2.specs.Sha256.{sha256}
use Rattle.cmd_exchange.specs.Upload.{tally, uploaded_turn, uploaded_text}

-- the packet was recorded, and its counts are said again
pub record SaidAgain (b : Board) (user : ℕ) (digest : List ℕ) (next : State) (reply : Reply) : Type 0 where
  pub counts : Counts
  pub known : upload_of user digest b ≡ Some counts
  pub same : next ≡ Made b
  pub said : reply.text ≡ uploaded_text (answer.Again counts)

-- no packet of the digest was recorded for the user, and this one is
pub record WasJudged (now : ℕ) (b : Board) (user : ℕ) (digest : List ℕ) (next : State) (reply : Reply) : Type 0 where
  pub messages : List QwkMessage
  pub new : upload_of user digest b ≡ None
  pub made : next ≡ Made (uploaded user digest (refused_count (judged b user now messages).0) (judged b user now messages).1 b)
  pub said : reply.text ≡ uploaded_text (answer.Judged (judged b user now messages).0)

-- nothing changes, and it is said why
pub record WasRefused (b : Board) (next : State) (reply : Reply) : Type 0 where
  pub same : next ≡ Made b
  pub refused : reply.class ≡ class.Refused

abbrev pub UploadTurns : ℕ → Board → ℕ → List ℕ → State → Reply → Type 0
UploadTurns now b user digest next reply = WasRefused b next reply ⊎ (SaidAgain b user digest next reply ⊎ WasJudged now b user digest next reply)

module _ (now : ℕ) (b : Board) (user : ℕ) (bytes : List ℕ) (next : State) (reply : Reply) (turn : Turn) (then : next ≡ state_of turn.board) (told : reply ≡ turn.reply) where
  abbrev digest : List ℕ
  digest = sha256 bytes

  abbrev Ends : Result Upload UploadRefusal → Type 0
  Ends r = turn ≡ uploaded_turn b r → UploadTurns now b user digest next reply

  refused : (why : UploadRefusal) → Ends (Err why)
  refused why is = inl (record { same = then ∙ ap (λ (t : Turn). state_of t.board) is; refused = ap (λ (r : Reply). r.class) told ∙ ap (λ (t : Turn). t.reply.class) is })

  again : (counts : Counts) → upload_of user digest b ≡ Some counts → Ends (Ok (Again counts))
  again counts known is = inr (inl (record {
    counts = counts;
    known = known;
    same = then ∙ ap (λ (t : Turn). state_of t.board) is;
    said = ap (λ (r : Reply). r.text) told ∙ ap (λ (t : Turn). t.reply.text) is;
  }))

  by_record : (messages : List QwkMessage) → upload_of user digest b ≡ None → (why : Option UploadRefusal) → Ends (new_upload user digest now b messages why)
  by_record messages new (Some why) is = refused why is
  by_record messages new None is = inr (inr (record {
    messages = messages;
    new = new;
    made = then ∙ ap (λ (t : Turn). state_of t.board) is;
    said = ap (λ (r : Reply). r.text) told ∙ ap (λ (t : Turn). t.reply.text) is;
  }))

  by_known : (messages : List QwkMessage) (counts : Option Counts) → upload_of user digest b ≡ counts → Ends (upload_once user digest now b messages counts)
  by_known messages (Some counts) known is = again counts known is
  by_known messages None new is = by_record messages new (record_refusal b) is

  by_board : (packet : Rep) (own : Bool) → Ends (cond own (upload_once user digest now b packet.messages (upload_of user digest b)) (Err OtherBoard))
  by_board packet true is = by_known packet.messages (upload_of user digest b) refl is
  by_board packet false is = refused OtherBoard is

  pub upload_turns : (r : Result Upload UploadRefusal) → UploadsFor user bytes now b r → turn ≡ uploaded_turn b r → UploadTurns now b user (sha256 bytes) next reply
  upload_turns r (inl (packet, reads, comes)) is = by_board packet (is_for b packet) (is ∙ ap (uploaded_turn b) comes)
  upload_turns r (inr (inl (fault, broken, comes))) is = refused (Broken fault) (is ∙ ap (uploaded_turn b) comes)
  upload_turns r (inr (inr (none, comes))) is = refused NoBoardId (is ∙ ap (uploaded_turn b) comes)

-- the counts of a judged packet
abbrev pub counts_of : ℕ → Board → ℕ → List QwkMessage → Counts
counts_of now b user messages = record { posted = length (judged b user now messages).1; refused = refused_count (judged b user now messages).0 }

pub same_counts : (now : ℕ) (b : Board) (user : ℕ) (messages : List QwkMessage) → uploaded_text (answer.Again (counts_of now b user messages)) ≡ codes "again " ++ tally (judged b user now messages).0
same_counts now b user messages =
    let posted : length (judged b user now messages).1 ≡ length (judged b user now messages).0 - refused_count (judged b user now messages).0 =
    omega (arith, all_counted b user now messages, all_told b user now messages) in
    ap (λ (n : ℕ). codes "again " ++ counts_line n (refused_count (judged b user now messages).0)) posted
