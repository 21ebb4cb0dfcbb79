use Rattle.std.proofs.Common.{rules, ◌<◌, ◌∙◌, [], ◌∷◌, List, length, map, sym, ap, subst, refl, arith}
use Rattle.std.specs.Prelude.{All}
use Rattle.std.proofs.lemmas.List.{take_all}
use Rattle.std.proofs.lemmas.List.Elements.{All-append, All-cons, All-nil}
use Rattle.door_outside.proofs.Disks.{unchanged_twice}
use Rattle.board_layout.proofs.ReadingClauses.{kept_at_ok}
use Rattle.board_layout.specs.Board.{Board}
use Rattle.board_layout.specs.Outlines.{HasBody}
use Rattle.jam_layout.specs.Outlines.{slot_outline}
use Rattle.jam_records.specs.declared.message.Slot.{Slot}
use Rattle.mail_board.proofs.FetchedHosts.{unchanged_never}
use Rattle.mail_board.proofs.OneHost.{alike_held, holds_still}
use Rattle.board_layout.specs.Lookups.{slots_in}
use Rattle.slot_changes.specs.Packed.{slots_packed}
use Rattle.jam_pack.proofs.FetchedSlots.{count_same, none_same, outline_more, pack_more}
use Rattle.jam_pack.proofs.fetching.slots_of.Goals as goal

pub loop-before-init : goal.loop-before-init
loop-before-init g c =
    let none = c.new-slots.ensures in
    record {
      slots = λ tells b holds. none;
      outline = ap (map slot_outline) none;
      lines = subst (All HasBody) (sym none) (All-nil HasBody);
      unchanged = λ tells. unchanged_never (g.H.Host.disk c.args.host.now);
      rests = c.requires.rests;
      voice = refl;
      cause = refl;
    }

pub loop-before-preserved : goal.loop-before-preserved
loop-before-preserved g c =
    let held : Board = c.args.board.now.board in
    let slot : Slot = c.in_ok-fetched.field-0 in
    let inside : c.loop-before.before < length (slots_in held c.args.place) = omega (arith, c.loop-before-test.true, c.slot_count-before-end.ensures, ap length c.in-Some.ensures.slots, ap (λ (b : Board). length (slots_in b c.args.place)) c.stored.ensures.board) in
    let then = c.in_ok-add.ensures.ok in
    record {
      slots = λ tells b holds.
          let disk = g.H.Host.disk c.args.host.now in
          let alike = alike_held held disk (c.requires.rests tells) b holds in
          then ∙ pack_more (slots_in b c.args.place) c.loop-before.slots slot c.loop-before.before (omega (arith, inside, count_same b held alike c.args.place)) (c.loop-before.invariant.slots tells b holds)
          (c.in_ok-fetched.ensures.slot tells b (holds_still b disk (g.H.Host.disk c.loop-before.host) (c.loop-before.invariant.unchanged tells) holds));
      outline = ap (map slot_outline) then ∙ outline_more (slots_in held c.args.place) c.loop-before.slots slot c.loop-before.before inside c.loop-before.invariant.outline c.in_ok-fetched.ensures.outline;
      lines = subst (All HasBody) (sym then) (All-append HasBody c.loop-before.slots (slot ∷ []) c.loop-before.invariant.lines (All-cons HasBody slot [] c.in_ok-fetched.ensures.lines (All-nil HasBody)));
      unchanged = λ tells. unchanged_twice _ _ _ (c.loop-before.invariant.unchanged tells) (c.fetched.ensures.unchanged tells);
      rests = c.fetched.ensures.rests;
      voice = c.fetched.ensures.voice ∙ c.loop-before.invariant.voice;
      cause = kept_at_ok slot _ _ c.in_ok-fetched.ensures.cause ∙ c.loop-before.invariant.cause;
    }

pub returns-clause-slots : goal.returns-clause-slots
returns-clause-slots g c = λ tells b holds.
    let held : Board = c.args.board.now.board in
    let alike = alike_held held (g.H.Host.disk c.args.host.now) (c.requires.rests tells) b holds in
    c.loop-before.invariant.slots tells b holds
    ∙ ap slots_packed (take_all c.loop-before.before (slots_in b c.args.place) (omega (arith, c.loop-before-test.false, c.slot_count-before-end.ensures, ap length c.in-Some.ensures.slots, ap (λ (b : Board). length (slots_in b c.args.place)) c.stored.ensures.board, count_same b held alike c.args.place)))

pub returns-clause-outline : goal.returns-clause-outline
returns-clause-outline g c =
    let held : Board = c.args.board.now.board in
    c.loop-before.invariant.outline
    ∙ ap (λ (slots : List Slot). map slot_outline (slots_packed slots)) (take_all c.loop-before.before (slots_in held c.args.place) (omega (arith, c.loop-before-test.false, c.slot_count-before-end.ensures, ap length c.in-Some.ensures.slots, ap (λ (b : Board). length (slots_in b c.args.place)) c.stored.ensures.board)))

-- ---- no conference
pub returns-in_default-clause-slots : goal.returns-in_default-clause-slots
returns-in_default-clause-slots g c = λ tells b holds.
    let held : Board = c.args.board.now.board in
    let alike = alike_held held (g.H.Host.disk c.args.host.now) (c.requires.rests tells) b holds in
    c.new-slots.ensures ∙ sym (none_same b held alike c.args.place (search rules))
