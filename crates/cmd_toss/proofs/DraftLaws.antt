-- The draft of a packet's message goes to a conference that is there and may hold it.
use Rattle.std.proofs.Common.{◌≡◌, ℕ, ◌<◌, Bool, true, ltb, List, [], ◌∷◌, length, take, get_or, Option, Some, None, refl, ap, ◌∙◌, ⊎_elim, arith}
use Rattle.std.specs.Prelude.{All, position, slice_get}
use Rattle.std.specs.List.{position_or_len}
use Rattle.std.proofs.lemmas.Bool.{ltb-true}
use Rattle.std.proofs.lemmas.List.{length-take}
use Rattle.std.proofs.lemmas.Option.{cond_some, slice_get-get_or}
use Rattle.board_layout.specs.Board.{Board}
use Rattle.byte_lists.specs.Byte.{IsByte}
use Rattle.fts_packet.proofs.Posted.{posted_id, posted_is_message}
use Rattle.fts_packet.specs.Draft.{tossed_draft}
use Rattle.fts_packet.specs.Lines.{tag_of}
use Rattle.fts_packet.specs.Tossed.{place_for, toss_rules, takes_tag, toss_verdict, tossed_unless_refused, verdict_by_place}
use Rattle.fts_packet.specs.declared.packet.FtsMessage.{FtsMessage}
use Rattle.fts_packet.specs.declared.rule.TossRule.{TossRule}
use Rattle.fts_packet.specs.declared.toss.TossDraft.TheVariants.{Post}
use Rattle.jam_layout.specs.Fields.{is_text}
use Rattle.jam_layout.specs.Messages.{EmptyOr, IsTyped}
use Rattle.jam_records.specs.declared.message.Message.{Message}
use Rattle.mail_intake.specs.Tallies.{MayTake}
use Rattle.netmail_rules.specs.Fits.{with_msgid}
use Rattle.netmail_rules.specs.Rules.{first_refusing}
use Rattle.mail_intake.proofs.packet_verdicts.Validity.{no_conference}
use Rattle.setup_file.specs.declared.conference.Conference.{Conference}
use Rattle.setup_file.specs.declared.fields.SetupFields.{SetupFields}
use Rattle.post_changes.specs.slot_changes.Msgids.{IsMsgid, or_else}
use Rattle.cmd_toss.specs.Tossing.{IsOfPacket}

-- ---- the place
position_within : (p : Conference → Bool) (xs : List Conference) (k : ℕ) → position p xs ≡ Some k → k < length xs
position_within p xs k e =
    let parts = cond_some (ltb (position_or_len p xs) (length xs)) (position_or_len p xs) k e in
    omega (arith, ltb-true (position_or_len p xs) (length xs) parts.0, parts.1)

place_within : (tag : Option (List ℕ)) (s : SetupFields) (place : ℕ) → place_for tag s ≡ Some place → place < length s.conferences
place_within tag s place e = omega (arith, position_within (takes_tag tag) (take 255 s.conferences) place e, length-take 255 s.conferences)

unrefused : (o : Option TossRule) (n place : ℕ) (made draft : Message) → tossed_unless_refused o n made ≡ Post place draft → n ≡ place
unrefused None n place made draft e = cc
unrefused (Some rule) n place made draft e = absurd (cc)

placed_in : (s : SetupFields) (m : FtsMessage) (made draft : Message) (p : Option ℕ) (place : ℕ) → place_for (tag_of m.lines) s ≡ p → verdict_by_place m made p ≡ Post place draft → place < length s.conferences
placed_in s m made draft None place at e = absurd (cc)
placed_in s m made draft (Some n) place at e =
    let same : n ≡ place = unrefused (first_refusing (toss_rules m made)) n place made draft e in
    place_within (tag_of m.lines) s place (at ∙ ap Some same)

pub posted_place : (s : SetupFields) (m : FtsMessage) (now place : ℕ) (draft : Message) → toss_verdict s m now ≡ Post place draft → place < length s.conferences
unfolding toss_verdict
posted_place s m now place draft e = placed_in s m (tossed_draft m now) draft (place_for (tag_of m.lines) s) place refl e

-- ---- the message
own_text : (own other : List ℕ) → EmptyOr (is_text 80) own → IsMsgid other → is_text 80 (or_else own other) ≡ true
own_text [] other is ok = ok.text
own_text (b ∷ own) other is ok = ⊎_elim (λ none. absurd (omega (arith, none))) (λ passes. passes) is

own_bytes : (own other : List ℕ) → All IsByte own → IsMsgid other → All IsByte (or_else own other)
own_bytes [] other bytes ok = ok.bytes
own_bytes (b ∷ own) other bytes ok = bytes

with_types : (draft : Message) (msgid : List ℕ) → IsTyped draft → IsMsgid msgid → IsTyped (with_msgid (or_else draft.msgid msgid) draft)
with_types draft msgid typed ok = record {
  bytes = record {
    origin = typed.bytes.origin;
    destination = typed.bytes.destination;
    from = typed.bytes.from;
    to = typed.bytes.to;
    msgid = own_bytes draft.msgid msgid typed.bytes.msgid ok;
    replyid = typed.bytes.replyid;
    subject = typed.bytes.subject;
    body = typed.bytes.body;
  };
  written = typed.written;
  received = typed.received;
  processed = typed.processed;
}

pub draft_taken : (b : Board) (m : FtsMessage) (now place : ℕ) (draft : Message) → IsOfPacket m → toss_verdict b.ledger.setup m now ≡ Post place draft → IsTyped draft → MayTake b place draft
draft_taken b m now place draft read posted typed =
    let s : SetupFields = b.ledger.setup in
    let c : Conference = get_or s.conferences place no_conference in
    let there : slice_get s.conferences place ≡ Some c = slice_get-get_or s.conferences place no_conference (posted_place s m now place draft posted) in
    record {
      conference = c;
      there = there;
      holds = λ msgid ok.
          posted_is_message read.1.0 read.0 m s c now place draft (or_else draft.msgid msgid) read.1.2 read.2 posted there
          (own_text draft.msgid msgid (posted_id s m now place draft posted) ok) (with_types draft msgid typed ok);
    }
