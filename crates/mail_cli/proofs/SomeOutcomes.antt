-- Every entry that can run has an outcome, in each world for whose state files of bytes stand.
use Rattle.std.proofs.Common.{◌≡◌, ◌≢◌, ◌⊎◌, inl, inr, ⊎_elim, ℕ, ◌+◌, ◌≤◌, Bool, cond, List, [], ◌∷◌, ◌++◌, Option, Some, None, length, codes, refl, sym, ◌∙◌, ap, subst, arith}
use Rattle.std.proofs.lemmas.Bool.{cases_eq, cases_lt, true≢false}
use Rattle.std.proofs.lemmas.List.Elements.{All-nil, All-cons}
use Rattle.std.specs.List.{All}
use Rattle.std.specs.Prelude.{Result, Ok, Err, IsTrue, true, false}
use Rattle.std.specs.Str.Lines.{lines}
use Rattle.board_laws.specs.cmd_adopt.Adopt.{adopt_turn}
use Rattle.cmd_board.specs.Check.{checked}
use Rattle.cmd_board.specs.Damages.{damaged}
use Rattle.cmd_board.specs.Enroll.{Enrolls, enroll_turn, is_net_flag}
use Rattle.cmd_board.specs.Init.{BreaksSetup, Inits, SetupOf}
use Rattle.cmd_board.specs.State.{State, NotMade, Made, Old, Spoiled, Stores, state_of}
use Rattle.cmd_board.specs.Turns.{Turn, on_board}
use Rattle.board_layout.proofs.BoardLaws.{undamaged}
use Rattle.board_layout.specs.Board.{Board}
use Rattle.board_layout.specs.Damage.{board_damage}
use Rattle.board_layout.specs.Layout.{AreFileBytes}
use Rattle.board_layout.specs.OldLayout.{IsStoredIn}
use Rattle.board_layout.specs.Lookups.{place_of}
use Rattle.byte_lists.specs.Byte.{IsByte}
use Rattle.cmd_entries.specs.Answers.{usage}
use Rattle.cmd_entries.specs.Entries.{EntryCanRun}
use Rattle.cmd_entries.specs.declared.command.Command.TheVariants as command
use Rattle.cmd_entries.specs.declared.entry.Entry.{Entry}
use Rattle.cmd_entries.specs.declared.entry.Entry.TheVariants.{Run, Wrong, Refuse}
use Rattle.board_laws.specs.door_export.Folder.{folder_names}
use Rattle.door_outside.specs.Shelf as Shelf
use Rattle.door_outside.specs.Shelf.{fetched, held}
use Rattle.door_outside.specs.declared.fetch.Fetched.{Fetched}
use Rattle.door_outside.specs.declared.fetch.Fetched.TheVariants as fetch
use Rattle.board_laws.specs.door_upload.Upload.{Upload, UploadRefusal, UploadsFor, Broken, NoBoardId}
use Rattle.entry_runs.specs.Door.{Act, World, here}
use Rattle.entry_runs.specs.Entry.{Reply, looks, on_shelf}
use Rattle.entry_runs.specs.Runs.{Stepped}
use Rattle.board_laws.specs.cmd_exchange.Ack.{ack_turn}
use Rattle.board_laws.specs.cmd_exchange.Export.{export_handing}
use Rattle.board_laws.specs.cmd_exchange.Handing.{Handing, on_board_then_shelf}
use Rattle.board_laws.specs.cmd_exchange.Upload.{Uploads, UploadsFile, UploadsRead}
use Rattle.fts_packet.specs.Packet.{FtsReads}
use Rattle.fts_packet.specs.declared.fault.FtsError.{FtsError}
use Rattle.fts_packet.specs.declared.fault.FtsError.TheVariants as fts
use Rattle.fts_packet.specs.declared.packet.FtsMessage.{FtsMessage}
use Rattle.import_sheet.specs.Sheet.{SheetReads}
use Rattle.import_sheet.specs.declared.fault.SheetError.{SheetError}
use Rattle.import_sheet.specs.declared.fault.SheetError.TheVariants.{Line}
use Rattle.import_sheet.specs.declared.sheet.Sheet.{Sheet}
use Rattle.intent_journal.specs.Patches.{HostFiles, data_files}
use Rattle.jam_records.specs.declared.damage.Damage.{Damage}
use Rattle.cmd_board.proofs.mail_board.DataLaws.{data_twice, layout_moves, old_layout_moves}
use Rattle.cmd_board.specs.mail_board.Readers.{user_id}
use Rattle.mail_cli.specs.Step.{act}
use Rattle.board_laws.specs.cmd_messages.Import.{Imports, ImportsAt}
use Rattle.board_laws.specs.cmd_messages.Kill.{kill_turn}
use Rattle.board_laws.specs.cmd_pack.Pack.{pack_turn}
use Rattle.board_laws.specs.cmd_messages.Sample.{sample_turn}
use Rattle.offline_reader.specs.Listing.{folder_listing, listing}
use Rattle.offline_writer.specs.Drafts.{entry_drafts, reply_draft}
use Rattle.long_names.specs.Value.{is_long, most_of}
use Rattle.long_names.specs.declared.line_field.LineField.{LineField}
use Rattle.long_names.specs.declared.line_field.LineField.TheVariants.{To, Subject}
use Rattle.offline_writer.specs.Fitting.{FitsField, FitsQwk, IsFirstUnfit}
use Rattle.cmd_packets.specs.List.{ListAnswers}
use Rattle.cmd_packets.specs.Packets.{ControlOf, FolderOf, PacketOf, control_refusal}
use Rattle.cmd_packets.specs.Read.{ReadAnswers, ShowAnswers, shown_in}
use Rattle.cmd_packets.specs.Scan.{ScanAnswers, count_line}
use Rattle.cmd_packets.specs.declared.folder.Packet.{Packet}
use Rattle.qwk_blocks.specs.Packet.{FirstFault, PacketReads}
use Rattle.qwk_blocks.specs.Text.{IsLine, joined_lines}
use Rattle.qwk_blocks.specs.declared.fault.QwkFault.{QwkFault}
use Rattle.qwk_blocks.specs.declared.message.QwkMessage.{QwkMessage}
use Rattle.qwk_control.specs.Control.{ControlReads}
use Rattle.qwk_control.specs.Fault.{ControlFault}
use Rattle.qwk_control.specs.declared.control.Control.{Control}
use Rattle.reading_laws.proofs.Controls.{control_or_fault}
use Rattle.text_fields.proofs.Fields.{all_or_not}
use Rattle.reading_laws.proofs.Packets.{packet_or_fault, rep_or_fault}
use Rattle.reading_laws.proofs.Sheets.{sheet_or_fault}
use Rattle.reading_laws.proofs.Type2Packets.{type2_or_fault}
use Rattle.rep_packet.specs.Rep.{RepFault, RepReads}
use Rattle.rep_packet.specs.declared.fault.RepError.{RepError}
use Rattle.rep_packet.specs.declared.fault.RepError.TheVariants as rep
use Rattle.rep_packet.specs.declared.rep.Rep.{Rep}
use Rattle.cmd_replies.specs.Compose.{ComposeMakes, ConferenceIn, SheetMakes, composed_line}
use Rattle.cmd_replies.specs.RepFile.{DraftsFit, Enlarges, EnlargesRep, EnlargedBy, IsForBoard, RepFrom, RepIn, RepOf, no_replies, rep_refusal}
use Rattle.cmd_replies.specs.Reply.{AnswerMakes, MessageIn, ReplyMakes, TextOf, reply_line}
use Rattle.cmd_replies.specs.Steps.{Then}
use Rattle.cmd_replies.specs.Writing.{added_in, with_rep, writes}
use Rattle.cmd_replies.specs.declared.enlarging.Enlarged.{Enlarged}
use Rattle.cmd_replies.specs.declared.putting.Added.{Added}
use Rattle.setup_file.proofs.Single.{reads_or_fault}
use Rattle.setup_file.specs.Reads.{SetupReads}
use Rattle.setup_file.specs.declared.error.SetupRule.{SetupRule}
use Rattle.setup_file.specs.declared.fields.SetupFields.{SetupFields}
use Rattle.cmd_board.specs.shelf_files.Halts.{refused, replied}
use Rattle.cmd_board.specs.shelf_files.ShelfFile.{ReadAs, file_limit, file_within, packet_limit, rep_limit}
use Rattle.cmd_board.specs.shelf_files.Sheets.{SheetBreaks, SheetOf, sheet_refusal}
use Rattle.cmd_board.specs.shelf_files.declared.refusal.Refusal.{Refusal}
use Rattle.cmd_board.specs.shelf_files.declared.refusal.Refusal.TheVariants as refusal
use Rattle.text_fields.specs.Split.{Lacks}
use Rattle.board_laws.specs.cmd_toss.PacketFiles.{FtsBreaks, FtsPacketOf, fts_refusal}
use Rattle.board_laws.specs.cmd_toss.Toss.{Tosses}

-- ---- what the shelf's files are read as
module _ {Value Fault : Type 0} (Reads : List ℕ → Value → Type 0) (Breaks : List ℕ → Fault → Type 0) (refuses : Fault → Refusal)
    (each : (bytes : List ℕ) → ((value : Value) × Reads bytes value) ⊎ ((fault : Fault) × Breaks bytes fault)) where
  some_read : (file : Result (List ℕ) Refusal) → (read : Result Value Refusal) × ReadAs Reads Breaks refuses file read
  some_read (Err why) = (Err why, refl)
  some_read (Ok bytes) = elim (each bytes) [
    | inl value ↦ (Ok value.0, value.1)
    | inr fault ↦ (Err (refuses fault.0), (fault.0, fault.1, refl))
  ]

some_packet : (shelf : Shelf.ShelfFiles) (name : List ℕ) → (read : Result (List QwkMessage) Refusal) × PacketOf shelf name read
some_packet shelf name = some_read PacketReads FirstFault (λ (fault : QwkFault). refusal.Broken fault) packet_or_fault (file_within shelf name packet_limit)

some_control : (shelf : Shelf.ShelfFiles) (name : List ℕ) → (read : Result Control Refusal) × ControlOf shelf name read
some_control shelf name = some_read ControlReads ControlFault control_refusal control_or_fault (file_within shelf name file_limit)

sheet_breaks : (bytes : List ℕ) → ((sheets : List Sheet) × SheetReads bytes sheets) ⊎ ((fault : SheetError) × SheetBreaks bytes fault)
sheet_breaks bytes = elim (sheet_or_fault bytes) [ inl sheets ↦ inl sheets | inr fault ↦ inr (Line fault.0 fault.1, fault.2) ]

type2_breaks : (bytes : List ℕ) → ((messages : List FtsMessage) × FtsReads bytes messages) ⊎ ((error : FtsError) × FtsBreaks bytes error)
type2_breaks bytes = elim (type2_or_fault bytes) [ inl messages ↦ inl messages | inr fault ↦ inr (fts.Fault fault.0 fault.1, fault.2) ]

some_type2 : (shelf : Shelf.ShelfFiles) (name : List ℕ) → (read : Result (List FtsMessage) Refusal) × FtsPacketOf shelf name read
some_type2 shelf name = some_read FtsReads FtsBreaks fts_refusal type2_breaks (file_within shelf name file_limit)

some_sheet : (shelf : Shelf.ShelfFiles) (name : List ℕ) → (read : Result (List Sheet) Refusal) × SheetOf shelf name read
some_sheet shelf name = some_read SheetReads SheetBreaks sheet_refusal sheet_breaks (file_within shelf name file_limit)

setup_breaks : (bytes : List ℕ) → ((setup : SetupFields) × SetupReads bytes setup) ⊎ ((fault : ℕ × SetupRule) × BreaksSetup bytes fault)
setup_breaks bytes = elim (reads_or_fault (lines bytes)) [ inl setup ↦ inl setup | inr fault ↦ inr ((fault.0, fault.1), fault.2) ]

some_setup : (shelf : Shelf.ShelfFiles) (name : List ℕ) → (read : Result SetupFields Refusal) × SetupOf shelf name read
some_setup shelf name = some_read SetupReads BreaksSetup (λ (fault : ℕ × SetupRule). refusal.Setup fault.0 fault.1) setup_breaks (file_within shelf name file_limit)

some_folder : (shelf : Shelf.ShelfFiles) (folder : List ℕ) → (read : Result Packet Refusal) × FolderOf shelf folder read
some_folder shelf folder = control (some_control shelf (folder ++ codes "/CONTROL.DAT")).0 (some_control shelf (folder ++ codes "/CONTROL.DAT")).1
  where
    messages : (found : Control) → ControlOf shelf (folder ++ codes "/CONTROL.DAT") (Ok found) → (read : Result (List QwkMessage) Refusal) → PacketOf shelf (folder ++ codes "/MESSAGES.DAT") read
        → (read : Result Packet Refusal) × FolderOf shelf folder read
    messages found is (Ok all) reads = (Ok (record { control = found; messages = all }), (is, reads))
    messages found is (Err why) reads = (Err why, inr (found, is, reads))

    control : (read : Result Control Refusal) → ControlOf shelf (folder ++ codes "/CONTROL.DAT") read → (read : Result Packet Refusal) × FolderOf shelf folder read
    control (Err why) is = (Err why, inl is)
    control (Ok found) is = messages found is (some_packet shelf (folder ++ codes "/MESSAGES.DAT")).0 (some_packet shelf (folder ++ codes "/MESSAGES.DAT")).1

-- ---- steps of a command
module _ {A B : Type 0} (First : Result A Refusal → Type 0) (Next : A → Result B Refusal → Type 0) where
  then_next : (found : A) → First (Ok found) → (next : Result B Refusal) → Next found next → (all : Result B Refusal) × Then First Next all
  then_next found first (Ok value) is = (Ok value, (found, first, is))
  then_next found first (Err why) is = (Err why, inr (found, first, is))

  from_first : ((found : A) → (next : Result B Refusal) × Next found next) → (read : Result A Refusal) → First read → (all : Result B Refusal) × Then First Next all
  from_first next (Err why) first = (Err why, inl first)
  from_first next (Ok found) first = then_next found first (next found).0 (next found).1

  some_then : (read : Result A Refusal) × First read → ((found : A) → (next : Result B Refusal) × Next found next) → (all : Result B Refusal) × Then First Next all
  some_then first next = from_first next first.0 first.1

lacks_or_not : (byte : ℕ) (text : List ℕ) → Lacks byte text ⊎ (Lacks byte text → ⊥)
lacks_or_not byte text = all_or_not (λ (b : ℕ). b ≢ byte) other text
  where
    other : (b : ℕ) → (b ≢ byte) ⊎ ((b ≢ byte) → ⊥)
    other b = elim (cases_eq b byte) [ inl same ↦ inr (λ refuted. refuted same) | inr refuted ↦ inl refuted ]

within_or_not : (m n : ℕ) → (m ≤ n) ⊎ (m ≤ n → ⊥)
within_or_not m n = elim (cases_lt n m) [ inl above ↦ inr (λ le. omega (arith, above, le)) | inr le ↦ inl le ]

true_or_not : (b : Bool) → IsTrue b ⊎ (IsTrue b → ⊥)
true_or_not true = inl refl
true_or_not false = inr (λ is. true≢false (sym is))

field_fits_or_not : (field : LineField) (value : List ℕ) → FitsField field value ⊎ (FitsField field value → ⊥)
field_fits_or_not field value = elim (within_or_not (length value) 25) [
  | inl short ↦ inl (inl short)
  | inr past ↦ elim (true_or_not (is_long (most_of field) value)) [
    | inl long ↦ inl (inr long)
    | inr refuted ↦ inr (λ fits. elim fits [ inl short ↦ past short | inr long ↦ refuted long ])
  ]
]

fits_or_not : (draft : QwkMessage) → FitsQwk draft ⊎ (FitsQwk draft → ⊥)
fits_or_not draft = elim (field_fits_or_not To draft.header.to) [
  | inr refuted ↦ inr (λ x. refuted x.to)
  | inl to ↦ elim (field_fits_or_not Subject draft.header.subject) [
    | inr refuted ↦ inr (λ x. refuted x.subject)
    | inl subject ↦ elim (all_or_not IsLine (lacks_or_not 0xE3) draft.lines) [
      | inr refuted ↦ inr (λ x. refuted x.no_end)
      | inl no_end ↦ elim (all_or_not (Lacks 0x0D) (lacks_or_not 0x0D) draft.lines) [
        | inr refuted ↦ inr (λ x. refuted x.no_return)
        | inl no_return ↦ elim (within_or_not (length (joined_lines draft.lines)) 16384) [
          | inr refuted ↦ inr (λ x. refuted x.short)
          | inl short ↦ inl (record { to = to; subject = subject; no_end = no_end; no_return = no_return; short = short })
        ]
      ]
    ]
  ]
]

first_unfit : (drafts : List QwkMessage) → All FitsQwk drafts ⊎ ((number : ℕ) × IsFirstUnfit drafts number)
first_unfit [] = inl (All-nil FitsQwk)
first_unfit (draft ∷ drafts) = elim (fits_or_not draft) [
  | inr refuted ↦ inr (1, record { before = []; draft = draft; behind = drafts; whole = refl; fit = All-nil FitsQwk; unfit = refuted; at = refl })
  | inl fits ↦ elim (first_unfit drafts) [
    | inl all ↦ inl (All-cons FitsQwk draft drafts fits all)
    | inr first ↦ inr (
      first.0 + 1,
      record {
        before = draft ∷ first.1.before;
        draft = first.1.draft;
        behind = first.1.behind;
        whole = ap (λ (ds : List QwkMessage). draft ∷ ds) first.1.whole;
        fit = All-cons FitsQwk draft first.1.before fits first.1.fit;
        unfit = first.1.unfit;
        at = omega (arith, first.1.at);
      },
    )
  ]
]

some_drafts : (drafts : List QwkMessage) → (made : Result (List QwkMessage) Refusal) × DraftsFit drafts made
some_drafts drafts = elim (first_unfit drafts) [ inl all ↦ (Ok drafts, (refl, all)) | inr first ↦ (Err (refusal.Text first.0), (first.0, first.1, refl)) ]

some_rep_in : (bbsid bytes : List ℕ) → (read : Result Rep Refusal) × RepIn bbsid bytes read
some_rep_in bbsid bytes = some_then (ReadAs RepReads RepFault rep_refusal (Ok bytes)) (IsForBoard bbsid) (some_read RepReads RepFault rep_refusal rep_or_fault (Ok bytes)) (λ found. (_, refl))

some_rep : (shelf : Shelf.ShelfFiles) (name bbsid : List ℕ) → (read : Result Rep Refusal) × RepOf shelf name bbsid read
some_rep shelf name bbsid = from (fetched rep_limit (held shelf name))
  where
    from : (found : Fetched) → (read : Result Rep Refusal) × RepFrom name bbsid found read
    from fetch.Missing = (Ok (no_replies bbsid), refl)
    from fetch.TooLarge = (Err (refusal.TooLarge name), refl)
    from (fetch.Whole bytes) = some_rep_in bbsid bytes

some_enlarged : (shelf : Shelf.ShelfFiles) (name bbsid : List ℕ) (drafts : List QwkMessage) → (made : Result Enlarged Refusal) × Enlarges shelf name bbsid drafts made
some_enlarged shelf name bbsid drafts = some_then (DraftsFit drafts) (EnlargesRep shelf name bbsid) (some_drafts drafts) (λ made. some_then (RepOf shelf name bbsid) (EnlargedBy name made) (some_rep shelf name bbsid) (λ old. (_, refl)))

some_composed : (folder : List ℕ) (conference : ℕ) (sheet rep : List ℕ) (now : ℕ) (shelf : Shelf.ShelfFiles) → (made : Result Enlarged Refusal) × ComposeMakes folder conference sheet rep now shelf made
some_composed folder conference sheet rep now shelf =
    some_then (ControlOf shelf (folder ++ codes "/CONTROL.DAT")) (λ control. Then (ConferenceIn control conference) (λ number. SheetMakes control number sheet rep now shelf))
    (some_control shelf (folder ++ codes "/CONTROL.DAT")) (λ control.
    some_then (ConferenceIn control conference) (λ number. SheetMakes control number sheet rep now shelf) (_, refl) (λ number.
    some_then (SheetOf shelf sheet) (λ entries. Enlarges shelf rep control.bbsid (entry_drafts control number entries now)) (some_sheet shelf sheet) (λ entries.
    some_enlarged shelf rep control.bbsid (entry_drafts control number entries now))))

some_replied : (folder : List ℕ) (place : ℕ) (text rep : List ℕ) (now : ℕ) (shelf : Shelf.ShelfFiles) → (made : Result Enlarged Refusal) × ReplyMakes folder place text rep now shelf made
some_replied folder place text rep now shelf =
    some_then (FolderOf shelf folder) (λ packet. Then (MessageIn packet.messages place) (λ answered. AnswerMakes packet.control answered text rep now shelf)) (some_folder shelf folder) (λ packet.
    some_then (MessageIn packet.messages place) (λ answered. AnswerMakes packet.control answered text rep now shelf) (_, refl) (λ answered.
    some_then (TextOf shelf text) (λ bytes. Enlarges shelf rep packet.control.bbsid (reply_draft packet.control answered bytes now ∷ [])) (_, refl) (λ bytes.
    some_enlarged shelf rep packet.control.bbsid (reply_draft packet.control answered bytes now ∷ []))))

-- ---- acts
abbrev HasOutcome : Act State → World State → Type 0
HasOutcome an_act world = (stepped : Stepped (World State)) × an_act.Step world stepped

abbrev stepped_to : World State → Reply → Stepped (World State)
stepped_to world reply = record { world = world; reply = reply.text; class = reply.class }

some_look : (answers : Shelf.ShelfFiles → Reply → Type 0) → ((shelf : Shelf.ShelfFiles) → (reply : Reply) × answers shelf reply) → (world : World State) → HasOutcome (on_shelf (looks answers)) world
some_look answers some world = (stepped_to world (some world.shelf).0, ((refl, (some world.shelf).1), refl))

some_write : (name : List ℕ) (Makes : Shelf.ShelfFiles → Result Enlarged Refusal → Type 0) (text : Added → List ℕ) → ((shelf : Shelf.ShelfFiles) → (made : Result Enlarged Refusal) × Makes shelf made)
    → (world : World State) → HasOutcome (on_shelf (writes name Makes text)) world
some_write name Makes text some world =
    let made : (made : Result Enlarged Refusal) × Makes world.shelf made = some world.shelf in (
      stepped_to (here world.state (with_rep world.shelf name made.0)) (replied (λ m. text (added_in m)) made.0),
      ((made.0, made.1, refl, refl), refl),
    )

-- the damage of a spoiled state's files is some damage
abbrev HasDamage : State → Type 0
HasDamage NotMade = Unit {0}
HasDamage (Made b) = Unit {0}
HasDamage (Old b) = Unit {0}
HasDamage (Spoiled files) = (d : Damage) × (board_damage files ≡ Some d)

some_turn : (turns : Shelf.ShelfFiles → Option Board → Turn → Type 0) → ((shelf : Shelf.ShelfFiles) (board : Option Board) → (turn : Turn) × turns shelf board turn) → (state : State) (shelf : Shelf.ShelfFiles) → HasDamage state
    → HasOutcome (on_board turns) (here state shelf)
some_turn turns some NotMade shelf has =
    let t : (turn : Turn) × turns shelf None turn = some shelf None in
    (stepped_to (here (state_of t.0.board) shelf) t.0.reply, (refl, (t.0, t.1, refl, refl)))
some_turn turns some (Made b) shelf has =
    let t : (turn : Turn) × turns shelf (Some b) turn = some shelf (Some b) in
    (stepped_to (here (state_of t.0.board) shelf) t.0.reply, (refl, (t.0, t.1, refl, refl)))
some_turn turns some (Old b) shelf has =
    let t : (turn : Turn) × turns shelf (Some b) turn = some shelf (Some b) in
    (stepped_to (here (state_of t.0.board) shelf) t.0.reply, (refl, (t.0, t.1, refl, refl)))
some_turn turns some (Spoiled files) shelf has = (stepped_to (here (Spoiled files) shelf) (damaged has.0), (refl, (refl, (has.0, has.1, refl))))

some_handing : (names : List (List ℕ)) (hands : Shelf.ShelfFiles → Option Board → Handing → Type 0) → ((shelf : Shelf.ShelfFiles) (board : Option Board) → (handing : Handing) × hands shelf board handing)
    → (state : State) (shelf : Shelf.ShelfFiles) → HasDamage state → HasOutcome (on_board_then_shelf names hands) (here state shelf)
some_handing names hands some NotMade shelf has =
    let h : (handing : Handing) × hands shelf None handing = some shelf None in
    (stepped_to (here (state_of h.0.board) h.0.shelf) h.0.reply, (h.0, h.1, refl, refl, refl))
some_handing names hands some (Made b) shelf has =
    let h : (handing : Handing) × hands shelf (Some b) handing = some shelf (Some b) in
    (stepped_to (here (state_of h.0.board) h.0.shelf) h.0.reply, (h.0, h.1, refl, refl, refl))
some_handing names hands some (Old b) shelf has =
    let h : (handing : Handing) × hands shelf (Some b) handing = some shelf (Some b) in
    (stepped_to (here (state_of h.0.board) h.0.shelf) h.0.reply, (h.0, h.1, refl, refl, refl))
some_handing names hands some (Spoiled files) shelf has = (stepped_to (here (Spoiled files) shelf) (damaged has.0), (refl, refl, (has.0, has.1, refl)))

-- ---- turns that read the shelf
some_init : (file : List ℕ) (now : ℕ) (shelf : Shelf.ShelfFiles) (board : Option Board) → (turn : Turn) × Inits file now shelf board turn
some_init file now shelf (Some b) = (_, refl)
some_init file now shelf None = let s : (read : Result SetupFields Refusal) × SetupOf shelf file read = some_setup shelf file in (_, (s.0, s.1, refl))

some_import : (conference : ℕ) (file : List ℕ) (now : ℕ) (shelf : Shelf.ShelfFiles) (board : Option Board) → (turn : Turn) × Imports conference file now shelf board turn
some_import conference file now shelf None = (_, refl)
some_import conference file now shelf (Some b) = at (place_of conference b)
  where
    at : (place : Option ℕ) → (turn : Turn) × ImportsAt conference file now shelf b place turn
    at None = (_, refl)
    at (Some place) = let s : (read : Result (List Sheet) Refusal) × SheetOf shelf file read = some_sheet shelf file in (_, (s.0, s.1, refl))

some_toss : (file : List ℕ) (now : ℕ) (shelf : Shelf.ShelfFiles) (board : Option Board) → (turn : Turn) × Tosses file now shelf board turn
some_toss file now shelf None = (_, refl)
some_toss file now shelf (Some b) = let s : (read : Result (List FtsMessage) Refusal) × FtsPacketOf shelf file read = some_type2 shelf file in (_, (s.0, s.1, refl))

some_upload_of : (id : ℕ) (bytes : List ℕ) (now : ℕ) (b : Board) → (result : Result Upload UploadRefusal) × UploadsFor id bytes now b result
some_upload_of id bytes now b = elim (rep_or_fault bytes) [
  | inl packet ↦ (_, inl (packet.0, packet.1, refl))
  | inr fault ↦ by fault.0 fault.1
]
  where
    by : (fault : RepError) → RepFault bytes fault → (result : Result Upload UploadRefusal) × UploadsFor id bytes now b result
    by (rep.Fault fault) is = (Err (Broken fault), inr (inl (fault, is, refl)))
    by rep.NoBoardId is = (Err NoBoardId, inr (inr (is, refl)))
    by rep.OutOfMemory is = absurd is

some_upload : (name file : List ℕ) (now : ℕ) (shelf : Shelf.ShelfFiles) (board : Option Board) → (turn : Turn) × Uploads name file now shelf board turn
some_upload name file now shelf None = (_, refl)
some_upload name file now shelf (Some b) = by (user_id name b)
  where
    read : (id : ℕ) (found : Result (List ℕ) Refusal) → (turn : Turn) × UploadsRead id now b found turn
    read id (Err why) = (_, refl)
    read id (Ok bytes) = let r : (result : Result Upload UploadRefusal) × UploadsFor id bytes now b result = some_upload_of id bytes now b in (_, (r.0, r.1, refl))

    by : (user : Option ℕ) → (turn : Turn) × UploadsFile file now shelf b user turn
    by None = (_, refl)
    by (Some id) = read id (file_within shelf file rep_limit)

-- ---- entries
-- a line for each command
outcome_of : (now : ℕ) (entry : Entry) → EntryCanRun entry → (state : State) (shelf : Shelf.ShelfFiles) → HasDamage state → HasOutcome (act now entry) (here state shelf)
outcome_of now (Run (command.Ack user packet)) can state shelf has = some_turn (λ shelf board turn. turn ≡ ack_turn user packet now board) (λ shelf board. (ack_turn user packet now board, refl)) state shelf has
outcome_of now (Run (command.Adopt conference prefix)) can state shelf has =
    some_turn (λ shelf board turn. turn ≡ adopt_turn conference prefix shelf board) (λ shelf board. (adopt_turn conference prefix shelf board, refl)) state shelf has
outcome_of now (Run (command.Batch file)) can state shelf has = absurd can
outcome_of now (Run command.Check) can state shelf has = some_turn (λ shelf board turn. turn ≡ checked board) (λ shelf board. (checked board, refl)) state shelf has
outcome_of now (Run (command.Compose folder conference sheet rep)) can state shelf has =
    some_write rep (ComposeMakes folder conference sheet rep now) (composed_line rep) (some_composed folder conference sheet rep now) (here state shelf)
outcome_of now (Run (command.Enroll name flags conferences)) can state shelf has = some_turn (λ shelf. Enrolls name flags conferences) (λ shelf board. (enroll_turn name (is_net_flag flags) can.0 board, (can.0, can.1, refl))) state shelf has
outcome_of now (Run (command.Export user limit folder)) can state shelf has =
    some_handing (folder_names folder) (λ shelf board handing. handing ≡ export_handing user limit folder now shelf board) (λ shelf board. (export_handing user limit folder now shelf board, refl)) state shelf has
outcome_of now (Run (command.Import conference file)) can state shelf has = some_turn (Imports conference file now) (some_import conference file now) state shelf has
outcome_of now (Run (command.Init file)) can state shelf has = some_turn (Inits file now) (some_init file now) state shelf has
outcome_of now (Run (command.Kill conference number)) can state shelf has = some_turn (λ shelf board turn. turn ≡ kill_turn conference number board) (λ shelf board. (kill_turn conference number board, refl)) state shelf has
outcome_of now (Run (command.Pack conference)) can state shelf has = some_turn (λ shelf board turn. turn ≡ pack_turn conference board) (λ shelf board. (pack_turn conference board, refl)) state shelf has
outcome_of now (Run (command.List file)) can state shelf has = some_look (ListAnswers file) (λ shelf. (replied listing (some_packet shelf file).0, ((some_packet shelf file).0, (some_packet shelf file).1, refl))) (here state shelf)
outcome_of now (Run (command.Read folder)) can state shelf has = some_look (ReadAnswers folder)
    (λ shelf. (replied (λ packet. folder_listing packet.control packet.messages) (some_folder shelf folder).0, ((some_folder shelf folder).0, (some_folder shelf folder).1, refl))) (here state shelf)
outcome_of now (Run (command.Reply folder place text rep)) can state shelf has =
    some_write rep (ReplyMakes folder place text rep now) (reply_line place rep) (some_replied folder place text rep now) (here state shelf)
outcome_of now (Run (command.Sample seed count)) can state shelf has = some_turn (λ shelf board turn. turn ≡ sample_turn seed count now board) (λ shelf board. (sample_turn seed count now board, refl)) state shelf has
outcome_of now (Run (command.Show folder place)) can state shelf has =
    some_look (ShowAnswers folder place) (λ shelf. (shown_in place (some_folder shelf folder).0, ((some_folder shelf folder).0, (some_folder shelf folder).1, refl))) (here state shelf)
outcome_of now (Run (command.Scan file)) can state shelf has = some_look (ScanAnswers file)
    (λ shelf. (replied (λ messages. count_line (length messages)) (some_packet shelf file).0, ((some_packet shelf file).0, (some_packet shelf file).1, refl))) (here state shelf)
outcome_of now (Run (command.Toss file)) can state shelf has = some_turn (Tosses file now) (some_toss file now) state shelf has
outcome_of now (Run (command.Upload user file)) can state shelf has = some_turn (Uploads user file now) (some_upload user file now) state shelf has
outcome_of now (Wrong which) can state shelf has = some_look (λ shelf answer. answer ≡ usage which) (λ shelf. (usage which, refl)) (here state shelf)
outcome_of now (Refuse why) can state shelf has = some_look (λ shelf answer. answer ≡ refused why) (λ shelf. (refused why, refl)) (here state shelf)

-- files of bytes that are no board's have a damage
spoiled_damage : (files damaged_files : HostFiles) → AreFileBytes files → Stores (Spoiled damaged_files) files → (d : Damage) × (board_damage damaged_files ≡ Some d)
spoiled_damage files damaged_files bytes stores = by (board_damage (data_files files)) refl
  where
    data_bytes : AreFileBytes (data_files files)
    data_bytes file is = subst (All IsByte) (sym (ap (λ (data_file : Bool). cond data_file (files file) []) is)) (bytes file is)

    stands : (b : Board) → IsStoredIn b (data_files files) → IsStoredIn b files
    stands b laid = ⊎_elim (λ is. inl (layout_moves b (data_files files) files (data_twice files) is)) (λ is. inr (old_layout_moves b (data_files files) files (data_twice files) is)) laid

    by : (o : Option Damage) → board_damage (data_files files) ≡ o → (d : Damage) × (board_damage damaged_files ≡ Some d)
    by (Some d) is = (d, ap board_damage stores.0 ∙ is)
    by None is = let b = (undamaged (data_files files) data_bytes).0 is in absurd (stores.1.other b.0 b.1 (stands b.0 b.2))

has_damage : (state : State) (files : HostFiles) → AreFileBytes files → Stores state files → HasDamage state
has_damage NotMade files bytes stores = tt
has_damage (Made b) files bytes stores = tt
has_damage (Old b) files bytes stores = tt
has_damage (Spoiled damaged_files) files bytes stores = spoiled_damage files damaged_files bytes stores

pub some_outcome : (now : ℕ) (entry : Entry) → EntryCanRun entry → (files : HostFiles) → AreFileBytes files → (world : World State) → Stores world.state files → (stepped : Stepped (World State)) × (act now entry).Step world stepped
some_outcome now entry can files bytes world stores = outcome_of now entry can world.state world.shelf (has_damage world.state files bytes stores)
