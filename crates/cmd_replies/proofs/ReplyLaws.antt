-- The commands that write a reply packet are lawful: each says something, and one thing, and writes one name at most.
use Rattle.std.proofs.Common.{◌≡◌, ◌≢◌, inl, inr, ℕ, List, [], ◌∷◌, ◌++◌, Result, Ok, Err, sym, ◌∙◌, ap, subst}
use Rattle.std.specs.Prelude.{codes}
use Rattle.door_outside.specs.Shelf.{ShelfFiles, SameBut}
use Rattle.door_outside.specs.declared.fetch.Fetched.{Fetched}
use Rattle.door_outside.specs.declared.fetch.Fetched.TheVariants.{Missing, TooLarge, Whole}
use Rattle.entry_runs.proofs.ShelfLaws.{IsLawfulOnShelf}
use Rattle.entry_runs.specs.Entry.{Reply}
use Rattle.entry_runs.specs.declared.class.Class.TheVariants as class
use Rattle.import_sheet.specs.declared.sheet.Sheet.{Sheet}
use Rattle.offline_writer.proofs.FirstUnfit.{none_unfit, first_unfit_once}
use Rattle.offline_writer.specs.Drafts.{reply_draft, entry_drafts}
use Rattle.cmd_packets.proofs.PacketLaws.{folder_unique, control_of_unique}
use Rattle.cmd_packets.specs.Packets.{FolderOf, ControlOf}
use Rattle.cmd_packets.specs.declared.folder.Packet.{Packet}
use Rattle.qwk_blocks.specs.declared.message.QwkMessage.{QwkMessage}
use Rattle.qwk_control.specs.declared.control.Control.{Control}
use Rattle.rep_packet.proofs.Once as Reps
use Rattle.rep_packet.specs.Rep.{RepReads, RepFault}
use Rattle.rep_packet.specs.Written.{rep_text}
use Rattle.rep_packet.specs.declared.rep.Rep.{Rep}
use Rattle.shelf_files.proofs.Replies.{read_unique, some_reply, undamaged_reply}
use Rattle.shelf_files.proofs.SheetLaws.{sheet_unique}
use Rattle.shelf_files.specs.Halts.{replied}
use Rattle.shelf_files.specs.Sheets.{SheetOf}
use Rattle.shelf_files.specs.declared.refusal.Refusal.{Refusal}
use Rattle.shelf_files.specs.declared.refusal.Refusal.TheVariants.{Text}
use Rattle.door_outside.proofs.Shelves.{other_stays, same_at}
use Rattle.cmd_replies.specs.Compose.{ConferenceIn, ComposeMakes, composes, composed_line}
use Rattle.cmd_replies.specs.RepFile.{RepFrom, RepOf, DraftsFit, EnlargedBy, EnlargesRep, Enlarges, IsForBoard, rep_refusal}
use Rattle.cmd_replies.specs.Reply.{MessageIn, TextOf, ReplyMakes, replies, reply_line}
use Rattle.cmd_replies.specs.Steps.{Then}
use Rattle.cmd_replies.specs.Writing.{writes, with_rep, added_in}
use Rattle.cmd_replies.specs.declared.enlarging.Enlarged.{Enlarged}
use Rattle.cmd_replies.specs.declared.putting.Added.{Added}

-- steps that are each of one outcome are so together
then_unique : {A B : Type 0} (First : Result A Refusal → Type 0) (Next : A → Result B Refusal → Type 0)
    → ((a b : Result A Refusal) → First a → First b → a ≡ b) → ((found : A) (a b : Result B Refusal) → Next found a → Next found b → a ≡ b)
    → (a b : Result B Refusal) → Then First Next a → Then First Next b → a ≡ b
then_unique First Next one next (Ok v) (Ok w) x y =
    let e = one (Ok x.0) (Ok y.0) x.1 y.1 in
    let same : x.0 ≡ y.0 = cc in
    next y.0 (Ok v) (Ok w) (subst (λ f. Next f (Ok v)) same x.2) y.2
then_unique First Next one next (Ok v) (Err why) x (inl y) = let e = one (Ok x.0) (Err why) x.1 y in cc
then_unique First Next one next (Ok v) (Err why) x (inr y) =
    let e = one (Ok x.0) (Ok y.0) x.1 y.1 in
    let same : x.0 ≡ y.0 = cc in
    next y.0 (Ok v) (Err why) (subst (λ f. Next f (Ok v)) same x.2) y.2
then_unique First Next one next (Err why) (Ok w) (inl x) y = let e = one (Err why) (Ok y.0) x y.1 in cc
then_unique First Next one next (Err why) (Ok w) (inr x) y =
    let e = one (Ok x.0) (Ok y.0) x.1 y.1 in
    let same : x.0 ≡ y.0 = cc in
    next y.0 (Err why) (Ok w) (subst (λ f. Next f (Err why)) same x.2) y.2
then_unique First Next one next (Err why) (Err other) (inl x) (inl y) = let e = one (Err why) (Err other) x y in let same : why ≡ other = cc in ap Err same
then_unique First Next one next (Err why) (Err other) (inl x) (inr y) = let e = one (Err why) (Ok y.0) x y.1 in cc
then_unique First Next one next (Err why) (Err other) (inr x) (inl y) = let e = one (Err other) (Ok x.0) y x.1 in cc
then_unique First Next one next (Err why) (Err other) (inr x) (inr y) =
    let e = one (Ok x.0) (Ok y.0) x.1 y.1 in
    let same : x.0 ≡ y.0 = cc in
    next y.0 (Err why) (Err other) (subst (λ f. Next f (Err why)) same x.2) y.2

-- ---- the reply packet
rep_from_unique : (name bbsid : List ℕ) (fetched : Fetched) (a b : Result Rep Refusal) → RepFrom name bbsid fetched a → RepFrom name bbsid fetched b → a ≡ b
rep_from_unique name bbsid Missing a b x y = x ∙ sym y
rep_from_unique name bbsid TooLarge a b x y = x ∙ sym y
rep_from_unique name bbsid (Whole bytes) a b x y =
    then_unique _ (IsForBoard bbsid) (read_unique RepReads RepFault rep_refusal Reps.rep_unique Reps.fault_unique Reps.no_fault (Ok bytes))
    (λ (found : Rep) (p q : Result Rep Refusal) e f. e ∙ sym f) a b x y

drafts_fit_unique : (drafts : List QwkMessage) (a b : Result (List QwkMessage) Refusal) → DraftsFit drafts a → DraftsFit drafts b → a ≡ b
drafts_fit_unique drafts (Ok a) (Ok b) x y = ap Ok (x.0 ∙ sym y.0)
drafts_fit_unique drafts (Ok a) (Err why) x y = absurd (none_unfit drafts y.0 x.1 y.1)
drafts_fit_unique drafts (Err why) (Ok b) x y = absurd (none_unfit drafts x.0 y.1 x.1)
drafts_fit_unique drafts (Err why) (Err other) x y = ap Err (x.2 ∙ ap Text (first_unfit_once drafts x.0 y.0 x.1 y.1) ∙ sym y.2)

enlarges_unique : (shelf : ShelfFiles) (name bbsid : List ℕ) (drafts : List QwkMessage) (a b : Result Enlarged Refusal) → Enlarges shelf name bbsid drafts a → Enlarges shelf name bbsid drafts b → a ≡ b
enlarges_unique shelf name bbsid drafts = then_unique (DraftsFit drafts) (EnlargesRep shelf name bbsid) (drafts_fit_unique drafts)
    (λ (fit : List QwkMessage). then_unique (RepOf shelf name bbsid) (EnlargedBy name fit) (rep_from_unique name bbsid _) (λ (old : Rep) (p q : Result Enlarged Refusal) e f. e ∙ sym f))

-- ---- the commands
reply_unique : (folder : List ℕ) (place : ℕ) (text rep : List ℕ) (now : ℕ) (shelf : ShelfFiles) (a b : Result Enlarged Refusal)
    → ReplyMakes folder place text rep now shelf a → ReplyMakes folder place text rep now shelf b → a ≡ b
reply_unique folder place text rep now shelf = then_unique (FolderOf shelf folder) _ (folder_unique shelf folder)
    (λ (packet : Packet). then_unique (MessageIn packet.messages place) _ (λ p q e f. e ∙ sym f)
    (λ (answered : QwkMessage). then_unique (TextOf shelf text) _ (λ p q e f. e ∙ sym f)
    (λ (bytes : List ℕ). enlarges_unique shelf rep packet.control.bbsid (reply_draft packet.control answered bytes now ∷ []))))

compose_unique : (folder : List ℕ) (conference : ℕ) (sheet rep : List ℕ) (now : ℕ) (shelf : ShelfFiles) (a b : Result Enlarged Refusal)
    → ComposeMakes folder conference sheet rep now shelf a → ComposeMakes folder conference sheet rep now shelf b → a ≡ b
compose_unique folder conference sheet rep now shelf = then_unique (ControlOf shelf (folder ++ codes "/CONTROL.DAT")) _ (control_of_unique shelf (folder ++ codes "/CONTROL.DAT"))
    (λ (control : Control). then_unique (ConferenceIn control conference) _ (λ p q e f. e ∙ sym f)
    (λ (number : ℕ). then_unique (SheetOf shelf sheet) _ (sheet_unique shelf sheet)
    (λ (entries : List Sheet). enlarges_unique shelf rep control.bbsid (entry_drafts control number entries now))))

-- a command that writes a reply packet is lawful where it makes one thing, and says something
lawful_writes : (name : List ℕ) (Makes : ShelfFiles → Result Enlarged Refusal → Type 0) (text : Added → List ℕ)
    → ((shelf : ShelfFiles) (a b : Result Enlarged Refusal) → Makes shelf a → Makes shelf b → a ≡ b) → ((added : Added) → text added ≢ []) → IsLawfulOnShelf (writes name Makes text)
lawful_writes name Makes text one some = record {
  within = λ old new reply step. within old new step.0 step.2;
  says = λ old new reply step none. some_reply said (λ made. some (added_in made)) step.0 (ap (λ (r : Reply). r.text) (sym step.3) ∙ none);
  refused = λ old new reply step is. refused old new step.0 step.2 (ap (λ (r : Reply). r.class) (sym step.3) ∙ is);
  undamaged = λ old new reply step is. undamaged_reply said step.0 (ap (λ (r : Reply). r.class) (sym step.3) ∙ is);
  one_shelf = λ old new other reply answer first second. first.2 ∙ (ap (with_rep old name) (one old first.0 second.0 first.1 second.1) ∙ sym second.2);
  one_reply = λ old new other reply answer first second. first.3 ∙ (ap (replied said) (one old first.0 second.0 first.1 second.1) ∙ sym second.3);
}
  where
    said : Enlarged → List ℕ
    said made = text (added_in made)

    within : (old new : ShelfFiles) (made : Result Enlarged Refusal) → new ≡ with_rep old name made → SameBut (name ∷ []) old new
    within old new (Ok made) is = subst (SameBut (name ∷ []) old) (sym is) (other_stays old name (rep_text made.rep))
    within old new (Err why) is = same_at (name ∷ []) old new is

    refused : (old new : ShelfFiles) (made : Result Enlarged Refusal) → new ≡ with_rep old name made → (replied said made).class ≡ class.Refused → new ≡ old
    refused old new (Ok made) is refuses = absurd (cc refuses)
    refused old new (Err why) is refuses = is

pub lawful_replies : (folder : List ℕ) (place : ℕ) (text rep : List ℕ) (now : ℕ) → IsLawfulOnShelf (replies folder place text rep now)
lawful_replies folder place text rep now = lawful_writes rep (ReplyMakes folder place text rep now) (reply_line place rep) (reply_unique folder place text rep now) (λ added is. absurd (cc is))

pub lawful_composes : (folder : List ℕ) (conference : ℕ) (sheet rep : List ℕ) (now : ℕ) → IsLawfulOnShelf (composes folder conference sheet rep now)
lawful_composes folder conference sheet rep now = lawful_writes rep (ComposeMakes folder conference sheet rep now) (composed_line rep) (compose_unique folder conference sheet rep now) (λ added is. absurd (cc is))
