use Rattle.std.proofs.Common.{◌≡◌, ◌∙◌, ◌+◌, ◌++◌, [], sym, ap, subst, length, refl, arith}
use Rattle.std.proofs.lemmas.List.{append-nil}
use Rattle.std.proofs.lemmas.List.Elements.{All-nil}
use Rattle.std.specs.List.{cons_option}
use Rattle.std.specs.Prelude.{All}
use Rattle.door_outside.proofs.Disks.{unchanged_twice}
use Rattle.board_layout.proofs.ReadingClauses.{kept_at_ok}
use Rattle.mail_board.proofs.OneHost.{holds_still}
use Rattle.offered_packets.proofs.PacketSizes.{are_writable, spelling_short}
use Rattle.offered_packets.proofs.Packets.{shown_next}
use Rattle.offered_packets.specs.Shown.{IsShort}
use Rattle.mail_board.proofs.FetchedHosts.{unchanged_never}
use Rattle.door_export.proofs.FetchLaws.{more_few, more_short, none_shown}
use Rattle.door_export.proofs.fetching.packet_of.Goals as goal
use Rattle.door_export.proofs.fetching.packet_of.Goals.{in-Some+in_ok-add, in_default}

pub loop-i-init : goal.loop-i-init
loop-i-init g c =
    let none = c.new-packet.ensures in
    record {
      shown = λ tells b holds. none ∙ none_shown b c.args.offered.now;
      short = subst (All IsShort) (sym none) (All-nil IsShort);
      few = omega (arith, ap length none);
      within = omega arith;
      unchanged = λ tells. unchanged_never (g.H.Host.disk c.args.host.now);
      rests = c.requires.rests;
      voice = refl;
      cause = refl;
    }

pub loop-i-preserved : goal.loop-i-preserved
loop-i-preserved g c =
    let one = c.in_ok-shown.field-0 in
    let then : c.match-branch-2.packet ≡ c.loop-i.packet ++ cons_option one [] = elim c.match-branch-2.branch [
      | in-Some+in_ok-add w ↦ w.packet-is ∙ (w.in_ok-add.ensures.ok ∙ ap (λ o. c.loop-i.packet ++ cons_option o []) (sym w.in-Some.is))
      | in_default w ↦ w.packet-is ∙ (sym (append-nil c.loop-i.packet) ∙ ap (λ o. c.loop-i.packet ++ cons_option o []) (sym w.in_default.is))
    ] in
    record {
      shown = λ tells b holds.
          then ∙ shown_next b c.args.offered.now c.as_slice-message-items.result.now _ c.loop-i.i (c.loop-i.i + 1) c.loop-i.packet one c.as_slice-message-items.ensures c.loop-i-test.true (omega arith)
          (c.in_ok-shown.ensures.shown tells b (holds_still b (g.H.Host.disk c.args.host.now) (g.H.Host.disk c.loop-i.host) (c.loop-i.invariant.unchanged tells) holds)) (c.loop-i.invariant.shown tells b holds);
      short = subst (All IsShort) (sym then) (more_short c.loop-i.packet one c.loop-i.invariant.short c.in_ok-shown.ensures.short);
      few = omega (arith, ap length then, more_few c.loop-i.packet one c.loop-i.i c.loop-i.invariant.few);
      within = omega (arith, c.loop-i-test.true, ap length c.as_slice-message-items.ensures);
      unchanged = λ tells. unchanged_twice _ _ _ (c.loop-i.invariant.unchanged tells) (c.fetched.ensures.unchanged tells);
      rests = c.fetched.ensures.rests;
      voice = c.fetched.ensures.voice ∙ c.loop-i.invariant.voice;
      cause = kept_at_ok one _ _ c.in_ok-shown.ensures.cause ∙ c.loop-i.invariant.cause;
    }

pub returns-clause-writable : goal.returns-clause-writable
returns-clause-writable g c = are_writable c.loop-i.packet c.loop-i.invariant.short

pub returns-clause-short : goal.returns-clause-short
returns-clause-short g c = λ number small. spelling_short c.loop-i.packet number c.loop-i.invariant.short (omega (arith, c.loop-i.invariant.few, c.loop-i.invariant.within, c.requires.few)) small
