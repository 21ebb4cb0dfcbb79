-- A base with other slots, whatever bodies its files have.
use Rattle.std.proofs.Common.{◌≡◌, ℕ, ◌+◌, ◌<◌, ◌^◌, List, length, map, sym, ap, subst, arith}
use Rattle.std.specs.Prelude.{All, sum_by}
use Rattle.intent_journal.specs.declared.patch.Patch.{Patch}
use Rattle.jam_writing.proofs.jam_layout.OutlineLaws.{conference_outline}
use Rattle.jam_writing.specs.jam_layout.Bodies.{body_size}
use Rattle.jam_writing.specs.jam_layout.Layout.{layout}
use Rattle.jam_writing.specs.jam_layout.Messages.{IsSlot}
use Rattle.jam_writing.specs.jam_layout.Outlines.{slot_outline}
use Rattle.jam_writing.specs.jam_layout.Sizes.{slot_header}
use Rattle.jam_writing.specs.jam_layout.Valid.{IsConference, PointersFit}
use Rattle.jam_writing.specs.jam_layout.declared.files.BaseFiles.{BaseFiles}
use Rattle.jam_records.specs.declared.message.Slot.{Slot}
use Rattle.jam_writing.proofs.PieceLaws.{bodies_small, headers_small}
use Rattle.jam_base.proofs.EndOutlines.{suits_alike}
use Rattle.jam_base.proofs.PatchLaws.{messages_small, messages_turn}
use Rattle.jam_base.specs.Change.{SuitsIntent, Turns, message_files}
use Rattle.jam_base.specs.Contents.{Contents, with_slots}
use Rattle.jam_base.specs.Outlined.{TurnsEach, outlined}

module _ (slots : List Slot) (base : Contents) where
  -- the base with them
  abbrev pub new : Contents
  new = with_slots slots base

  pub new_valid : IsConference base.shape base.conference → length slots ≡ length base.conference.slots → All (IsSlot base.shape.kind) slots → IsConference base.shape new.conference
  new_valid ok count each =
      let few = ok.few in
      record {
        counter = omega arith;
        few = omega (arith, count, few);
        slots = each;
        pointers = subst (λ (n : ℕ). PointersFit n base.shape.readers base.conference.pointers) (sym count) ok.pointers;
      }

  pub new_headers : IsConference base.shape new.conference → 1024 + sum_by slot_header slots < 2 ^ 31
  new_headers valid = omega (arith, headers_small base.shape new.conference valid)

  pub new_bodies : IsConference base.shape new.conference → sum_by body_size slots < 2 ^ 31
  new_bodies valid = bodies_small base.shape new.conference valid

  -- what is kept of it
  pub outline_valid : IsConference base.shape new.conference → IsConference base.shape (with_slots (map slot_outline slots) base).conference
  outline_valid valid = conference_outline base.shape new.conference valid

  -- of the files of each base with the outline the patches make those of that base with these slots
  pub new_turns : (patches : List Patch) → patches ≡ message_files base.shape.place (layout base.shape new.conference) → TurnsEach base (with_slots slots) patches
  new_turns patches is = record {
    turns = λ other alike.
        let same : with_slots slots other ≡ with_slots slots base = ap (λ (c : Contents). with_slots slots c) alike in
        let old : BaseFiles = layout other.shape other.conference in
        let jlr : (layout base.shape new.conference).jlr ≡ old.jlr = ap (λ (c : Contents). (layout c.shape c.conference).jlr) (sym alike) in
        subst (λ (c : Contents). Turns base.shape.place old (layout c.shape c.conference) patches) (sym same)
        (subst (λ (ps : List Patch). Turns base.shape.place old (layout base.shape new.conference) ps) (sym is) (messages_turn base.shape.place (layout base.shape new.conference) old jlr));
  }

  -- an outline has files of the same size
  pub new_suits : (patches : List Patch) → patches ≡ message_files base.shape.place (layout base.shape new.conference) → SuitsIntent base.shape.place (layout base.shape (outlined new).conference) patches
  new_suits patches is =
      suits_alike base.shape.place base.shape new.conference patches
      (subst (SuitsIntent base.shape.place (layout base.shape new.conference)) (sym is) (messages_small base.shape.place (layout base.shape new.conference)))
