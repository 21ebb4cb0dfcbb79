-- Drafts that can be put into QWK have a written form, and so has a reply packet with them.
use Rattle.std.proofs.Common.{◌≡◌, ℕ, ◌+◌, ◌^◌, ◌<◌, ◌≤◌, List, [], ◌∷◌, length, refl, sym, ap, subst, inl, inr, arith}
use Rattle.std.specs.Prelude.{unwrap_or}
use Rattle.std.specs.List.{All}
use Rattle.std.proofs.lemmas.List.Elements.{All-nil, All-cons, All-head, All-tail, All-append}
use Rattle.text_fields.specs.Trim.{EndsWithNone}
use Rattle.text_fields.proofs.Trimming.{nothing_ends}
use Rattle.long_names.specs.Fits.{FitsOrLong, HeaderFitsWithLong, FitsWithLong}
use Rattle.long_names.specs.Plain.{plain, with_long}
use Rattle.long_names.specs.declared.line_field.LineField.{LineField}
use Rattle.long_names.specs.declared.line_field.LineField.TheVariants.{To, Subject}
use Rattle.long_names.proofs.LongValues.{long_ends}
use Rattle.long_names.proofs.PlainValues.{plain_header, from_keeps, subject_keeps}
use Rattle.long_names.proofs.WithLong.{long_fits}
use Rattle.import_sheet.specs.declared.sheet.Sheet.{Sheet}
use Rattle.qwk_blocks.specs.Header.{IsPad}
use Rattle.qwk_blocks.specs.Written.{Writable}
use Rattle.qwk_blocks.specs.declared.message.Header.{Header}
use Rattle.qwk_blocks.specs.declared.message.QwkMessage.{QwkMessage}
use Rattle.qwk_control.specs.declared.control.Control.{Control}
use Rattle.rep_packet.specs.Written.{IsRep}
use Rattle.rep_packet.specs.declared.rep.Rep.{Rep}
use Rattle.offline_writer.specs.Drafts.{draft_header, reply_envelope, entry_envelope, entry_drafts, entry_draft}
use Rattle.offline_writer.specs.Fitting.{FitsField, FitsQwk, IsClean}
use Rattle.offline_writer.specs.Placing.{with_logical, placed_from, placed, with_drafts}
use Rattle.offline_writer.specs.declared.drafting.Envelope.{Envelope}
use Rattle.offline_writer.proofs.Texts.{sender_fits}

-- a value without a space or a NUL at its end
field_fits : (field : LineField) (value : List ℕ) → FitsField field value → EndsWithNone IsPad value → FitsOrLong field value
field_fits field value (inl short) trimmed = inr (record { short = short; trimmed = trimmed })
field_fits field value (inr long) trimmed = inl long

-- a draft of an envelope
pub draft_writable : (control : Control) (envelope : Envelope) (now : ℕ) (draft : QwkMessage) → draft.header ≡ draft_header control envelope now
    → IsClean envelope → draft.header.conference < 2 ^ 16 → FitsQwk draft → FitsWithLong draft
unfolding draft_header
draft_writable control envelope now draft is clean conference fits = record {
  header = subst HeaderFitsWithLong (sym is) (record {
    number = omega (arith, ap (λ (h : Header). h.conference) is);
    date = refl;
    time = refl;
    to = field_fits To envelope.to (subst (λ (h : Header). FitsField To h.to) is fits.to) clean.to;
    from = inr (sender_fits control.user);
    subject = field_fits Subject envelope.subject (subst (λ (h : Header). FitsField Subject h.subject) is fits.subject) clean.subject;
    password = record { short = omega arith; trimmed = nothing_ends IsPad };
    reference = clean.reference;
    conference = omega (arith, ap (λ (h : Header). h.conference) is);
    logical = omega arith;
  });
  lines = fits.no_end;
  blocks = omega (arith, fits.short);
}

-- what a reply takes of a message as it is read is clean where it is of the message itself
pub read_clean : (m : QwkMessage) → IsClean (reply_envelope m.header) → IsClean (reply_envelope (plain m).header)
read_clean m clean =
    let read = plain_header m in
    record {
      to = from_keeps (EndsWithNone IsPad) m (long_ends 36) clean.to;
      subject = subject_keeps (EndsWithNone IsPad) m (long_ends 72) clean.subject;
      reference = subst (λ (h : Header). unwrap_or h.number 0 ≤ 99999999) (sym read.is) clean.reference;
    }

pub entries_writable : (control : Control) (conference now : ℕ) (entries : List Sheet) → conference < 2 ^ 16 → All (λ entry. IsClean (entry_envelope conference entry)) entries
    → All FitsQwk (entry_drafts control conference entries now) → All FitsWithLong (entry_drafts control conference entries now)
unfolding draft_header
entries_writable control conference now [] small clean fit = All-nil FitsWithLong
entries_writable control conference now (entry ∷ entries) small clean fit =
    let draft : QwkMessage = entry_draft control conference now entry in
    let drafts : List QwkMessage = entry_drafts control conference entries now in
    let IsCleanEntry : Sheet → Type 0 = λ e. IsClean (entry_envelope conference e) in
    All-cons FitsWithLong draft drafts
    (draft_writable control (entry_envelope conference entry) now draft refl (All-head IsCleanEntry entry entries clean) small (All-head FitsQwk draft drafts fit))
    (entries_writable control conference now entries small (All-tail IsCleanEntry entry entries clean) (All-tail FitsQwk draft drafts fit))

numbered_writable : (place : ℕ) (m : QwkMessage) → Writable m → Writable (with_logical place m)
numbered_writable place m w = record {
  header = record {
    number = w.header.number;
    date = w.header.date;
    time = w.header.time;
    texts = record { to = w.header.texts.to; from = w.header.texts.from; subject = w.header.texts.subject; password = w.header.texts.password };
    reference = w.header.reference;
    conference = w.header.conference;
    logical = omega arith;
  };
  lines = w.lines;
  blocks = w.blocks;
}

all_placed : (first : ℕ) (drafts : List QwkMessage) → All FitsWithLong drafts → All Writable (placed_from first drafts)
all_placed first [] fit = All-nil Writable
all_placed first (draft ∷ drafts) fit =
    All-cons Writable (placed (first, draft)) (placed_from (first + 1) drafts)
    (numbered_writable first (with_long draft) (long_fits draft (All-head FitsWithLong draft drafts fit)))
    (all_placed (first + 1) drafts (All-tail FitsWithLong draft drafts fit))

pub rep_with_drafts : (rep : Rep) (drafts : List QwkMessage) → IsRep rep → All FitsWithLong drafts → IsRep (with_drafts rep drafts)
rep_with_drafts rep drafts is w = record {
  bbsid = is.bbsid;
  some = is.some;
  messages = All-append Writable rep.messages (placed_from (length rep.messages + 1) drafts) is.messages (all_placed (length rep.messages + 1) drafts w);
}
