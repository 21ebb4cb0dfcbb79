-- What was read is clean: the texts of a packet's header, and of a sheet's entry, end with no space and no NUL.
use Rattle.std.proofs.Common.{◌≡◌, Bool, true, false, cond, eqb, ℕ, ◌-◌, ◌<◌, ◌≤◌, List, [], ◌∷◌, ◌++◌, Option, Some, None, length, sym, ap, subst, inl, inr, arith, length-append}
use Rattle.std.specs.Prelude.{slice_get, unwrap_or}
use Rattle.std.specs.List.{All}
use Rattle.std.specs.Str.Lines.{lines}
use Rattle.std.proofs.lemmas.List.Elements.{All-nil, All-cons}
use Rattle.std.proofs.lemmas.Option.{get_or_from_slice_get, slice_get_within}
use Rattle.text_fields.specs.Blank.{IsBlank}
use Rattle.text_fields.specs.Trim.{EndsWithNone}
use Rattle.text_fields.specs.declared.blank.Blank.TheVariants.{Spaces}
use Rattle.text_fields.proofs.Numbers.{number_small}
use Rattle.import_sheet.proofs.Heads.{gives_fits}
use Rattle.text_fields.proofs.Numbered.{lines_numbered}
use Rattle.import_sheet.proofs.Lines.{All_last}
use Rattle.import_sheet.specs.Header.{IsPlainText}
use Rattle.import_sheet.specs.Sheet.{HeaderGives, HeaderGivesOrEmpty, SheetIs, SheetsAre}
use Rattle.import_sheet.specs.declared.field.Field.TheVariants.{To, Subject}
use Rattle.import_sheet.specs.declared.sheet.Sheet.{Sheet}
use Rattle.offline_reader.specs.Letter.{message_in}
use Rattle.offline_writer.specs.Drafts.{reply_envelope, entry_envelope}
use Rattle.offline_writer.specs.Fitting.{IsClean}
use Rattle.cmd_packets.specs.Packets.{ArePacket}
use Rattle.qwk_blocks.specs.Header as block
use Rattle.qwk_blocks.specs.Header.{IsPad, HasNumber}
use Rattle.qwk_blocks.specs.Packet.{MessagesRead}
use Rattle.qwk_blocks.specs.declared.message.Header.{Header}
use Rattle.qwk_blocks.specs.declared.message.QwkMessage.{QwkMessage}
use Rattle.shelf_files.specs.Sheets.{AreSheets}

-- ---- messages of a packet
number_fits : (field : List ℕ) (number : Option ℕ) → HasNumber 2 7 field number → unwrap_or number 0 ≤ 99999999
number_fits field None has = omega arith
number_fits field (Some n) has = omega (arith, number_small IsPad 7 _ n has)

header_clean : (field : List ℕ) (header : Header) (count : ℕ) → block.HeaderReads field header count → IsClean (reply_envelope header)
header_clean field header count reads = record {
  to = reads.from.ends;
  subject = reads.subject.ends;
  reference = number_fits field header.number reads.number;
}

messages_clean : (bytes : List ℕ) (messages : List QwkMessage) → MessagesRead bytes messages → All (λ m. IsClean (reply_envelope m.header)) messages
messages_clean bytes [] reads = All-nil (λ (m : QwkMessage). IsClean (reply_envelope m.header))
messages_clean bytes (m ∷ messages) reads =
    All-cons (λ (m : QwkMessage). IsClean (reply_envelope m.header)) m messages (header_clean reads.3.block m.header reads.3.count reads.3.header) (messages_clean reads.1 messages reads.4)

unless_zero : (zero : Bool) (found : Option QwkMessage) (answered : QwkMessage) → cond zero None found ≡ Some answered → found ≡ Some answered
unless_zero true found answered is = absurd (cc is)
unless_zero false found answered is = is

-- the message in a place
pub answered_clean : (messages : List QwkMessage) (place : ℕ) (answered : QwkMessage) → ArePacket messages → message_in messages place ≡ Some answered → IsClean (reply_envelope answered.header)
answered_clean messages place answered read is =
    let at : slice_get messages (place - 1) ≡ Some answered = unless_zero (eqb place 0) (slice_get messages (place - 1)) answered is in
    subst (λ (m : QwkMessage). IsClean (reply_envelope m.header)) (get_or_from_slice_get messages (place - 1) answered answered at)
    (messages_clean read.1.rest messages read.1.each (place - 1) answered (slice_get_within messages (place - 1) answered at))

-- ---- the board id

-- ---- entries of a sheet
plain_ends : (value : List ℕ) → EndsWithNone (IsBlank Spaces) value → All (λ b. 0x20 ≤ b) value → EndsWithNone IsPad value
plain_ends value ends plain front last is (inl space) = ends front last is space
plain_ends value ends plain front last is (inr nul) =
    let least : 0x20 ≤ last = All_last (λ (b : ℕ). 0x20 ≤ b) front last (subst (All (λ (b : ℕ). 0x20 ≤ b)) is plain) in
    absurd (omega arith)

empty_ends : EndsWithNone IsPad []
empty_ends front last is pad = omega (arith, ap length is, length-append front (last ∷ []))

subject_ends : (headers : List (List ℕ)) (value : List ℕ) → ((v : List ℕ) → HeaderGives headers Subject v → IsPlainText 0 72 v) → HeaderGivesOrEmpty headers Subject value → EndsWithNone IsPad value
subject_ends headers value fits (inl gives) = plain_ends value gives.2.trimmed.ends (fits value gives).plain
subject_ends headers value fits (inr none) = subst (EndsWithNone IsPad) (sym none.1) empty_ends

entry_clean : (conference : ℕ) (own : List (List ℕ)) (entry : Sheet) → SheetIs own entry → IsClean (entry_envelope conference entry)
entry_clean conference own entry is = record {
  to = plain_ends entry.to is.fields.to.2.trimmed.ends (gives_fits is.headers To entry.to is.headed is.fields.to).plain;
  subject = subject_ends is.headers entry.subject (λ v gives. gives_fits is.headers Subject v is.headed gives) is.fields.subject;
  reference = omega arith;
}

all_clean : (conference : ℕ) (all : List (List ℕ)) (entries : List Sheet) → SheetsAre all entries → All (λ entry. IsClean (entry_envelope conference entry)) entries
all_clean conference all [] are = All-nil (λ (entry : Sheet). IsClean (entry_envelope conference entry))
all_clean conference all (entry ∷ entries) are =
    All-cons (λ (e : Sheet). IsClean (entry_envelope conference e)) entry entries (entry_clean conference are.1 entry are.5) (all_clean conference are.2 entries are.6)

pub entries_clean : (conference : ℕ) (entries : List Sheet) → AreSheets entries → All (λ entry. IsClean (entry_envelope conference entry)) entries
entries_clean conference entries read = all_clean conference (lines read.0) entries read.2

-- each entry has a line of its own at least
few_entries : (all : List (List ℕ)) (entries : List Sheet) → SheetsAre all entries → length entries ≤ length all
few_entries all [] are = omega arith
few_entries all (entry ∷ entries) are =
    omega (
      arith,
      few_entries are.2 entries are.6,
      ap length are.3,
      length-append are.0 (are.1 ++ are.2),
      length-append are.1 are.2,
      ap length are.5.whole,
      length-append are.5.headers ([] ∷ (are.5.body ++ (46 ∷ []) ∷ [])),
    )

pub entries_few : (entries : List Sheet) → AreSheets entries → length entries < 4294967295
entries_few entries read = omega (arith, few_entries (lines read.0) entries read.2, lines_numbered read.0 (omega (arith, read.1)))
