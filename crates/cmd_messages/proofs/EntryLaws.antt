-- An entry of a sheet becomes a message that a conference may hold.
use Rattle.std.proofs.Common.{◌≡◌, ◌⊎◌, inl, inr, ⊎_elim, ℕ, ◌-◌, ◌≤◌, Bool, true, false, not, ◌&&◌, ◌||◌, leb, eqb, List, [], ◌∷◌, ◌++◌, length, map, get_or, refl, sym, ◌∙◌, ap, subst, append_assoc, arith, length-append}
use Rattle.std.proofs.Math.Seq.{get_or-append_right}
use Rattle.std.proofs.lemmas.Bool.{and_from, eq-eqb, le-leb, or_left, or_right}
use Rattle.std.proofs.lemmas.List.{append-nil}
use Rattle.std.proofs.lemmas.List.Elements.{All-cons, All-head, All-nil, All-tail}
use Rattle.std.specs.Prelude.{All}
use Rattle.std.specs.List.{list_all}
use Rattle.std.specs.Str.Lines.{lines}
use Rattle.import_sheet.proofs.Heads.{gives_fits}
use Rattle.import_sheet.specs.Header.{IsPlainText}
use Rattle.import_sheet.specs.Sheet.{HeaderGives, HeaderGivesOrEmpty, SheetIs, SheetsAre, stored_body, without_dot}
use Rattle.import_sheet.specs.declared.field.Field.{Field}
use Rattle.import_sheet.specs.declared.field.Field.TheVariants.{From, To, Subject, Msgid, Reply}
use Rattle.import_sheet.specs.declared.sheet.Sheet.{Sheet}
use Rattle.jam_layout.specs.Address.{is_address}
use Rattle.jam_layout.specs.Fields.{is_text}
use Rattle.jam_layout.specs.Marks.{is_net}
use Rattle.jam_layout.specs.Messages.{IsTyped}
use Rattle.jam_records.specs.declared.message.Kind.{Kind}
use Rattle.jam_records.specs.declared.message.Message.{Message}
use Rattle.cmd_board.specs.shelf_files.Sheets.{AreSheets}
use Rattle.post_changes.proofs.slot_changes.ValueLaws.{private_enough, tested_holds}
use Rattle.post_changes.specs.slot_changes.Values.{MayHold, has_right_texts, is_empty_or, is_right_body}
use Rattle.cmd_messages.specs.Import.{imported_message}

-- ---- texts
all_plain : (text : List ℕ) → All (λ b. 0x20 ≤ b) text → list_all (λ b. leb 0x20 b) text ≡ true
all_plain [] all = refl
all_plain (b ∷ text) all =
    and_from (leb 0x20 b) (list_all (λ c. leb 0x20 c) text) (le-leb 0x20 b (All-head (λ (c : ℕ). 0x20 ≤ c) b text all)) (all_plain text (All-tail (λ (c : ℕ). 0x20 ≤ c) b text all))

plain_text : (least most : ℕ) (text : List ℕ) → 1 ≤ length text → IsPlainText least most text → is_text most text ≡ true
unfolding is_text
plain_text least most text some plain =
    and_from (leb 1 (length text) && leb (length text) most) (list_all (λ b. leb 0x20 b) text) (and_from (leb 1 (length text)) (leb (length text) most) (le-leb 1 (length text) some) (le-leb (length text) most plain.short))
    (all_plain text plain.plain)

plain_or_empty : (least most : ℕ) (text : List ℕ) → IsPlainText least most text → is_empty_or (is_text most) text ≡ true
plain_or_empty least most [] plain = or_left (eqb (length {A = ℕ} []) 0) (is_text most []) refl
plain_or_empty least most (b ∷ text) plain = or_right (eqb (length (b ∷ text)) 0) (is_text most (b ∷ text)) (plain_text least most (b ∷ text) (omega arith) plain)

-- a text that may be missing
given_or_empty : (headers : List (List ℕ)) (field : Field) (least most : ℕ) (text : List ℕ) → ((value : List ℕ) → HeaderGives headers field value → IsPlainText least most value) → HeaderGivesOrEmpty headers field text → is_empty_or (is_text most) text ≡ true
given_or_empty headers field least most text fits (inl gives) = plain_or_empty least most text (fits text gives)
given_or_empty headers field least most text fits (inr none) = or_left (eqb (length text) 0) (is_text most text) (eq-eqb (length text) 0 (ap length none.1))

-- ---- bodies
-- a text ends with a carriage return
Ends : List ℕ → Type 0
Ends text = get_or text (length text - 1) 0 ≡ 13

return_ends : (line : List ℕ) → Ends (line ++ 13 ∷ [])
unfolding Ends
return_ends line =
    let whole = length-append line (13 ∷ []) in
    let place : length (line ++ 13 ∷ []) - 1 - length line ≡ 0 = omega (arith, whole) in
    get_or-append_right line (13 ∷ []) (length (line ++ 13 ∷ []) - 1) 0 (omega (arith, whole)) ∙ ap (λ n. get_or (13 ∷ []) n 0) place

empty_is : (text : List ℕ) → length text ≡ 0 → text ≡ []
empty_is [] none = refl
empty_is (b ∷ text) none = absurd (omega (arith, none))

ends_behind : (front text : List ℕ) → Ends front → (length text ≡ 0) ⊎ Ends text → Ends (front ++ text)
unfolding Ends
ends_behind front text ends (inl none) = subst Ends (sym (ap (λ (t : List ℕ). front ++ t) (empty_is text none) ∙ append-nil front)) ends
ends_behind front [] ends (inr last) = subst Ends (sym (append-nil front)) ends
ends_behind front (b ∷ text) ends (inr last) =
    let whole = length-append front (b ∷ text) in
    let place : length (front ++ b ∷ text) - 1 - length front ≡ length (b ∷ text) - 1 = omega (arith, whole) in
    get_or-append_right front (b ∷ text) (length (front ++ b ∷ text) - 1) 0 (omega (arith, whole)) ∙ (ap (λ n. get_or (b ∷ text) n 0) place ∙ last)

body_ends : (body : List (List ℕ)) → (length (stored_body body) ≡ 0) ⊎ Ends (stored_body body)
body_ends [] = inl refl
body_ends (line ∷ body) = inr (ends_behind (without_dot line ++ 13 ∷ []) (stored_body body) (return_ends (without_dot line)) (body_ends body))

right_body : (body : List (List ℕ)) → length (stored_body body) ≤ 16384 → is_right_body (stored_body body) ≡ true
unfolding is_right_body Ends
right_body body short =
    let text : List ℕ = stored_body body in
    ⊎_elim
    (λ none. or_left (eqb (length text) 0) _ (eq-eqb (length text) 0 none))
    (λ last. or_right (eqb (length text) 0) _ (and_from (leb (length text) 16384) (eqb (get_or text (length text - 1) 0) 13) (le-leb (length text) 16384 short) (eq-eqb (get_or text (length text - 1) 0) 13 last)))
    (body_ends body)

-- ---- an entry
-- what the grammar of sheets says of its texts
record IsFitting (entry : Sheet) : Type 0 where
  from : is_text 36 entry.from ≡ true
  to : is_text 36 entry.to ≡ true
  subject : is_empty_or (is_text 72) entry.subject ≡ true
  msgid : is_empty_or (is_text 80) entry.msgid ≡ true
  reply : is_empty_or (is_text 80) entry.reply ≡ true
  body : is_right_body entry.body ≡ true

entry_fits : (own : List (List ℕ)) (entry : Sheet) → SheetIs own entry → IsFitting entry
entry_fits own entry is =
    let from = gives_fits is.headers From entry.from is.headed is.fields.from in
    let to = gives_fits is.headers To entry.to is.headed is.fields.to in
    record {
      from = plain_text 1 36 entry.from from.some from;
      to = plain_text 1 36 entry.to to.some to;
      subject = given_or_empty is.headers Subject 0 72 entry.subject (λ value gives. gives_fits is.headers Subject value is.headed gives) is.fields.subject;
      msgid = given_or_empty is.headers Msgid 1 80 entry.msgid (λ value gives. gives_fits is.headers Msgid value is.headed gives) is.fields.msgid;
      reply = given_or_empty is.headers Reply 1 80 entry.reply (λ value gives. gives_fits is.headers Reply value is.headed gives) is.fields.reply;
      body = subst (λ (text : List ℕ). is_right_body text ≡ true) (sym is.text) (right_body is.body is.bodied.short);
    }

right_texts : (kind : Kind) (now : ℕ) (entry : Sheet) → IsFitting entry → has_right_texts (imported_message kind now entry) ≡ true
unfolding has_right_texts
right_texts kind now entry fits =
    let none : is_empty_or is_address [] ≡ true = or_left (eqb (length {A = ℕ} []) 0) (is_address []) refl in
    and_from ((is_text 36 entry.from && is_text 36 entry.to) && (is_empty_or is_address [] && is_empty_or is_address [])) ((is_empty_or (is_text 80) entry.msgid && is_empty_or (is_text 80) entry.reply) && is_empty_or (is_text 72) entry.subject)
    (and_from (is_text 36 entry.from && is_text 36 entry.to) (is_empty_or is_address [] && is_empty_or is_address []) (and_from (is_text 36 entry.from) (is_text 36 entry.to) fits.from fits.to)
    (and_from (is_empty_or is_address []) (is_empty_or is_address []) none none))
    (and_from (is_empty_or (is_text 80) entry.msgid && is_empty_or (is_text 80) entry.reply) (is_empty_or (is_text 72) entry.subject)
    (and_from (is_empty_or (is_text 80) entry.msgid) (is_empty_or (is_text 80) entry.reply) fits.msgid fits.reply) fits.subject)

entry_holds : (kind : Kind) (now : ℕ) (entry : Sheet) → IsFitting entry → IsTyped (imported_message kind now entry) → MayHold kind (imported_message kind now entry)
entry_holds kind now entry fits typed = tested_holds kind (imported_message kind now entry) typed (right_texts kind now entry fits) fits.body (private_enough entry.private (is_net kind))

-- ---- the entries of a sheet
all_hold : (kind : Kind) (now : ℕ) (all : List (List ℕ)) (entries : List Sheet) → SheetsAre all entries → All IsTyped (map (imported_message kind now) entries) → All (MayHold kind) (map (imported_message kind now) entries)
all_hold kind now all [] are typed = All-nil (MayHold kind)
all_hold kind now all (entry ∷ entries) are typed =
    let m : Message = imported_message kind now entry in
    let others : List Message = map (imported_message kind now) entries in
    All-cons (MayHold kind) m others (entry_holds kind now entry (entry_fits are.1 entry are.5) (All-head IsTyped m others typed)) (all_hold kind now are.2 entries are.6 (All-tail IsTyped m others typed))

pub entries_hold : (kind : Kind) (now : ℕ) (entries : List Sheet) → AreSheets entries → All IsTyped (map (imported_message kind now) entries) → All (MayHold kind) (map (imported_message kind now) entries)
entries_hold kind now entries read typed = all_hold kind now (lines read.0) entries read.2 typed

-- one entry more is moved
pub moved_on : (f : Sheet → Message) (messages new all : List Message) (items rest : List Sheet) (entry : Sheet) (message : Message) → items ≡ entry ∷ rest → new ≡ messages ++ message ∷ [] → message ≡ f entry → messages ++ map f items ≡ all
    → new ++ map f rest ≡ all
moved_on f messages new all items rest entry message next added made so_far =
    ap (λ (ms : List Message). ms ++ map f rest) (added ∙ ap (λ (m : Message). messages ++ m ∷ []) made)
    ∙ (append_assoc messages (f entry ∷ []) (map f rest) ∙ (ap (λ (xs : List Sheet). messages ++ map f xs) (sym next) ∙ so_far))
