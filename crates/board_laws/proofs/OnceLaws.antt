-- A packet of a user that was judged is recorded on every later board, so it isn't judged again.
use Rattle.std.proofs.Common.{◌≡◌, inl, inr, ⊎_elim, ℕ, suc, ◌<◌, Bool, true, false, cond, ◌&&◌, eqb, List, [], ◌∷◌, ◌++◌, length, Option, Some, None, Result, Ok, refl, sym, ap, ◌∙◌, subst, arith}
use Rattle.std.specs.Prelude.{option_map}
use Rattle.std.specs.List.{find}
use Rattle.std.specs.Str.{bytes_eq}
use Rattle.std.proofs.lemmas.Bool.{and_from, cases_eq, cases_lt, cond-true, eq-eqb}
use Rattle.std.proofs.lemmas.List.{append-nil}
use Rattle.std.proofs.lemmas.Option.{none-some, same_Some}
use Rattle.std.proofs.lemmas.Slice.Eq.{bytes_eq-Decides}
use Rattle.cmd_messages.specs.cmd_board.State.{State, Made, migrated, state_of}
use Rattle.cmd_messages.specs.cmd_board.Turns.{Turn}
use Rattle.board_layout.specs.Board.{Board}
use Rattle.board_layout.specs.Lookups.{user_of}
use Rattle.board_laws.proofs.Moves.{Makes, Move, Packs, moved}
use Rattle.board_laws.proofs.OpenOffers.{after_ack}
use Rattle.board_laws.proofs.Sequences.{AreCommands, IsOfBoard, after_one, does_made, onward, same_made}
use Rattle.board_laws.proofs.Uploads.{UploadTurns, WasJudged, counts_of, same_counts, upload_turns}
use Rattle.board_laws.proofs.Users.{same_ledger}
use Rattle.board_laws.specs.BoardCommand.{BoardCommand, board_does}
use Rattle.board_laws.specs.BoardCommand as command
use Rattle.board_laws.specs.History.{ChangesBoard, Deed, Steps, IsHistory, LeadsTo, after}
use Rattle.board_laws.specs.Once.{ChangesOnce, HasItsCounts, IsUploadDeed, SaysAgain}
use Rattle.board_ledger.specs.declared.ledger.Ledger.{Ledger}
use Rattle.board_ledger.specs.declared.upload.Counts.{Counts}
use Rattle.board_ledger.specs.declared.upload.UploadRecord.{UploadRecord}
use Rattle.board_ledger.specs.declared.user.User.{User}
use Rattle.entry_runs.specs.Door.{here}
use Rattle.entry_runs.specs.Entry.{Reply}
use Rattle.entry_runs.specs.declared.class.Class.TheVariants as class
use Rattle.cmd_exchange.specs.door_upload.declared.answer.Uploaded.TheVariants as answer
use Rattle.jam_records.specs.declared.message.Message.{Message}
use Rattle.cmd_messages.specs.mail_board.Changes.{changed}
use Rattle.cmd_messages.specs.mail_board.Readers.{upload_of}
use Rattle.cmd_messages.specs.mail_board.declared.change.Change.{Change}
use Rattle.cmd_messages.specs.mail_board.declared.change.Change.TheVariants.{Enroll, Append, Spread, Kill, Offer, Acknowledge, Upload}
use Rattle.offer_changes.specs.Changed.{for_user, offered_to}
use Rattle.cmd_messages.specs.packet_verdicts.Judged.{judged, refused_count}
use Rattle.post_changes.specs.Posted.{upload_record}
use Rattle.sha2.specs.Sha256.{sha256}
use Rattle.cmd_messages.specs.shelf_files.declared.refusal.Refusal.{Refusal}
use Rattle.cmd_exchange.specs.Upload.{UploadsFile, UploadsRead, uploaded_text}

-- ---- a record stays
-- the records of a board after a change are those before it, and perhaps more
records_more : (change : Change) (b : Board) → (more : List UploadRecord) × ((changed change b).ledger.uploads ≡ b.ledger.uploads ++ more)
records_more (Enroll name net members) b = ([], sym (append-nil b.ledger.uploads))
records_more (Append place messages) b = ([], ap (λ (l : Ledger). l.uploads) (same_ledger place _ b) ∙ sym (append-nil b.ledger.uploads))
records_more (Spread posts) b = ([], sym (append-nil b.ledger.uploads))
records_more (Kill place number) b = ([], ap (λ (l : Ledger). l.uploads) (same_ledger place _ b) ∙ sym (append-nil b.ledger.uploads))
records_more (Offer user highs) b = by (user_of user b)
  where
    by : (o : Option User) → (more : List UploadRecord) × ((for_user (offered_to user highs) o b).ledger.uploads ≡ b.ledger.uploads ++ more)
    by None = ([], sym (append-nil b.ledger.uploads))
    by (Some u) = ([], sym (append-nil b.ledger.uploads))
records_more (Acknowledge user packet now) b = after_ack (λ (c : Board). (more : List UploadRecord) × (c.ledger.uploads ≡ b.ledger.uploads ++ more)) user packet now b
    ([], sym (append-nil b.ledger.uploads)) (λ u here o. ([], sym (append-nil b.ledger.uploads)))
records_more (Upload user digest refused posts) b = (upload_record user digest refused posts ∷ [], refl)

records_moved : (move : Move) (b : Board) → (more : List UploadRecord) × ((moved move b).ledger.uploads ≡ b.ledger.uploads ++ more)
records_moved (Makes change) b = records_more change b
records_moved (Packs place) b = ([], ap (λ (l : Ledger). l.uploads) (same_ledger place _ b) ∙ sym (append-nil b.ledger.uploads))

-- the record is of this user and digest
abbrev is_of : ℕ → List ℕ → UploadRecord → Bool
is_of user digest r = eqb r.user user && bytes_eq r.digest digest

found_more : {A : Type 0} (test : A → Bool) (xs ys : List A) (x : A) → find test xs ≡ Some x → find test (xs ++ ys) ≡ Some x
found_more test [] ys x is = absurd (none-some x is)
found_more test (z ∷ xs) ys x is = by (found_more test xs ys x) (test z) is
  where
    by : (find test xs ≡ Some x → find test (xs ++ ys) ≡ Some x) → (t : Bool) → cond t (Some z) (find test xs) ≡ Some x → cond t (Some z) (find test (xs ++ ys)) ≡ Some x
    by rest true is = is
    by rest false is = rest is

counts_in : Option UploadRecord → Option Counts
counts_in o = option_map (λ (r : UploadRecord). r.counts) o

known_more : (user : ℕ) (digest : List ℕ) (xs ys : List UploadRecord) (counts : Counts) → counts_in (find (is_of user digest) xs) ≡ Some counts → counts_in (find (is_of user digest) (xs ++ ys)) ≡ Some counts
unfolding counts_in
known_more user digest xs ys counts = by (find (is_of user digest) xs) refl
  where
    by : (o : Option UploadRecord) → find (is_of user digest) xs ≡ o → counts_in o ≡ Some counts → counts_in (find (is_of user digest) (xs ++ ys)) ≡ Some counts
    by None none is = absurd (none-some counts is)
    by (Some r) there is = ap counts_in (found_more (is_of user digest) xs ys r there) ∙ is

known_stays : (move : Move) (b : Board) (user : ℕ) (digest : List ℕ) (counts : Counts) → upload_of user digest b ≡ Some counts → upload_of user digest (moved move b) ≡ Some counts
unfolding counts_in
known_stays move b user digest counts known =
    let more = records_moved move b in
    ap (λ (rs : List UploadRecord). counts_in (find (is_of user digest) rs)) more.1 ∙ known_more user digest b.ledger.uploads more.0 counts known

-- ---- a record more
found_last : {A : Type 0} (test : A → Bool) (xs : List A) (x : A) → option_map (λ (y : A). y) (find test xs) ≡ None → test x ≡ true → find test (xs ++ x ∷ []) ≡ Some x
found_last test [] x none is = cond-true (test x) (Some x) None is
found_last test (z ∷ xs) x none is = by (found_last test xs x) (test z) none
  where
    by : (option_map (λ y. y) (find test xs) ≡ None → test x ≡ true → find test (xs ++ x ∷ []) ≡ Some x) → (t : Bool) → option_map (λ y. y) (cond t (Some z) (find test xs)) ≡ None → cond t (Some z) (find test (xs ++ x ∷ [])) ≡ Some x
    by rest true none = absurd (none-some z (sym none))
    by rest false none = rest none is

recorded : (user : ℕ) (digest : List ℕ) (refused : ℕ) (posts : List (ℕ × Message)) (b : Board) → upload_of user digest b ≡ None → upload_of user digest (changed (Upload user digest refused posts) b) ≡ Some (record { posted = length posts; refused = refused })
recorded user digest refused posts b new =
    ap (option_map (λ (r : UploadRecord). r.counts)) (found_last (is_of user digest) b.ledger.uploads (upload_record user digest refused posts) (by (find (is_of user digest) b.ledger.uploads) new) own)
  where
    by : (o : Option UploadRecord) → option_map (λ (r : UploadRecord). r.counts) o ≡ None → option_map (λ (r : UploadRecord). r) o ≡ None
    by None none = refl
    by (Some r) none = absurd (none-some r.counts (sym none))

    own : is_of user digest (upload_record user digest refused posts) ≡ true
    own = and_from (eqb user user) (bytes_eq digest digest) (eq-eqb user user refl) ((bytes_eq-Decides digest digest).1 refl)

-- ---- one upload
module _ {Entry : Type 0} (command_of : Entry → BoardCommand) (Step : Steps Entry) (commands : AreCommands command_of Step) (start : State) (deeds : List (Deed Entry)) (are : IsHistory Step start deeds) where
  -- what it makes of its board
  turns : (n user : ℕ) (digest : List ℕ) (up : IsUploadDeed command_of start deeds n user digest) → UploadTurns up.deed.now up.board user digest up.deed.stepped.world.state (record { text = up.deed.stepped.reply; class = up.deed.stepped.class })
  turns n user digest up =
      let step : board_does up.deed.now (command.Upload up.name up.file) (here (Made up.board) up.deed.shelf) up.deed.stepped =
      subst (λ (c : BoardCommand). board_does up.deed.now c (here (Made up.board) up.deed.shelf) up.deed.stepped) up.command
      (does_made command_of Step commands start deeds are n up.deed up.board (subst IsOfBoard (sym up.command) tt) up.there up.board_is) in
      subst (λ (d : List ℕ). UploadTurns up.deed.now up.board user d up.deed.stepped.world.state (record { text = up.deed.stepped.reply; class = up.deed.stepped.class })) up.digest_is (by step)
    where
      told : Reply
      told = record { text = up.deed.stepped.reply; class = up.deed.stepped.class }

      by_bytes : (turn : Turn) → UploadsRead user up.deed.now up.board (Ok up.bytes) turn → up.deed.stepped.world.state ≡ state_of turn.board → told ≡ turn.reply → UploadTurns up.deed.now up.board user (sha256 up.bytes) up.deed.stepped.world.state told
      by_bytes turn (r, comes, is) next reply = upload_turns up.deed.now up.board user up.bytes up.deed.stepped.world.state told turn next reply r comes is

      by : board_does up.deed.now (command.Upload up.name up.file) (here (Made up.board) up.deed.shelf) up.deed.stepped → UploadTurns up.deed.now up.board user (sha256 up.bytes) up.deed.stepped.world.state told
      by (same, (turn, takes, next, reply)) =
          let of_user : UploadsFile up.file up.deed.now up.deed.shelf up.board (Some user) turn = subst (λ (o : Option ℕ). UploadsFile up.file up.deed.now up.deed.shelf up.board o turn) up.user_is takes in
          by_bytes turn (subst (λ (read : Result (List ℕ) Refusal). UploadsRead user up.deed.now up.board read turn) up.read of_user) next reply

  -- one that changes the board was judged
  judged_where : (n user : ℕ) (digest : List ℕ) (up : IsUploadDeed command_of start deeds n user digest) → ChangesBoard start deeds n → WasJudged up.deed.now up.board user digest up.deed.stepped.world.state (record { text = up.deed.stepped.reply; class = up.deed.stepped.class })
  judged_where n user digest up changes = by (turns n user digest up)
    where
      stays : up.deed.stepped.world.state ≡ Made up.board → ⊥
      stays same = changes (ap migrated (after_one command_of Step commands start deeds are n up.deed up.there ∙ same) ∙ sym up.board_is)

      by : UploadTurns up.deed.now up.board user digest up.deed.stepped.world.state (record { text = up.deed.stepped.reply; class = up.deed.stepped.class })
          → WasJudged up.deed.now up.board user digest up.deed.stepped.world.state (record { text = up.deed.stepped.reply; class = up.deed.stepped.class })
      by (inl refused) = absurd (stays refused.same)
      by (inr (inl again)) = absurd (stays again.same)
      by (inr (inr judgement)) = judgement

  -- ---- the record that it leaves
  module _ (user : ℕ) (digest : List ℕ) (i : ℕ) (up : IsUploadDeed command_of start deeds i user digest) (changes : ChangesBoard start deeds i) where
    judgement : WasJudged up.deed.now up.board user digest up.deed.stepped.world.state (record { text = up.deed.stepped.reply; class = up.deed.stepped.class })
    judgement = judged_where i user digest up changes

    counts : Counts
    counts = counts_of up.deed.now up.board user judgement.messages

    abbrev IsKnown : ℕ → Board → Type 0
    IsKnown n b = upload_of user digest b ≡ Some counts

    first_board : (b : Board) × LeadsTo start deeds (suc i) b × IsKnown (suc i) b
    unfolding counts
    first_board =
        let made : Change = Upload user digest (refused_count (judged up.board user up.deed.now judgement.messages).0) (judged up.board user up.deed.now judgement.messages).1 in
        let posts = (judged up.board user up.deed.now judgement.messages).1 in
        (changed made up.board, ap migrated (after_one command_of Step commands start deeds are i up.deed up.there ∙ judgement.made), recorded user digest (refused_count (judged up.board user up.deed.now judgement.messages).0) posts up.board judgement.new)

    known_at : (j : ℕ) → i < j → (b : Board) × LeadsTo start deeds j b × IsKnown j b
    known_at j order =
        onward command_of Step commands start deeds are IsKnown (suc i) (λ n d b move from is board because known. known_stays move b user digest counts known) (λ n b known. known) j (omega (arith, order)) first_board

    known_then : (j : ℕ) → i < j → (later : IsUploadDeed command_of start deeds j user digest) → upload_of user digest later.board ≡ Some counts
    known_then j order later =
        let reached = known_at j order in
        let same : Made reached.0 ≡ Made later.board = sym reached.1 ∙ later.board_is in
        subst (λ (b : Board). upload_of user digest b ≡ Some counts) (same_made reached.0 later.board same) reached.2

    -- a later upload doesn't change the board
    pub none_later : (j : ℕ) → i < j → IsUploadDeed command_of start deeds j user digest → ChangesBoard start deeds j → ⊥
    none_later j order later too = let other = judged_where j user digest later too in none-some counts (sym other.new ∙ known_then j order later)

    pub again_later : (j : ℕ) → i < j → (later : IsUploadDeed command_of start deeds j user digest) → later.deed.stepped.class ≡ class.Done → (migrated (after start deeds (suc j)) ≡ migrated (after start deeds j)) × HasItsCounts up.deed.stepped.reply later.deed.stepped.reply
    unfolding counts
    again_later j order later done = by (turns j user digest later)
      where
        by : UploadTurns later.deed.now later.board user digest later.deed.stepped.world.state (record { text = later.deed.stepped.reply; class = later.deed.stepped.class }) → (migrated (after start deeds (suc j)) ≡ migrated (after start deeds j)) × HasItsCounts up.deed.stepped.reply later.deed.stepped.reply
        by (inl refused) = absurd (cc (sym done ∙ refused.refused))
        by (inr (inr other)) = absurd (none-some counts (sym other.new ∙ known_then j order later))
        by (inr (inl again)) =
            let same : again.counts ≡ counts = same_Some again.counts counts (sym again.known ∙ known_then j order later) in (
              ap migrated (after_one command_of Step commands start deeds are j later.deed later.there ∙ again.same) ∙ sym later.board_is,
              record {
                outcomes = (judged up.board user up.deed.now judgement.messages).0;
                first_is = judgement.said;
                again_is = again.said ∙ (ap (λ (c : Counts). uploaded_text (answer.Again c)) same ∙ same_counts up.deed.now up.board user judgement.messages);
              },
            )

-- ---- the laws
module _ {Entry : Type 0} (command_of : Entry → BoardCommand) (Step : Steps Entry) (commands : AreCommands command_of Step) where
  pub changes_once : ChangesOnce command_of Step
  changes_once start deeds are user digest i j one changes other too = ⊎_elim
      (λ before. absurd (none_later command_of Step commands start deeds are user digest i one changes j before other too))
      (λ rest. ⊎_elim (λ same. sym same) (λ apart. absurd (none_later command_of Step commands start deeds are user digest j other too i (omega (arith, rest, apart)) one changes)) (cases_eq j i))
      (cases_lt i j)

  pub says_again : SaysAgain command_of Step
  says_again start deeds are user digest i j order first changes later done = again_later command_of Step commands start deeds are user digest i first changes j order later done
