use Rattle.std.proofs.Common.{◌≡◌, ◌+◌, ℕ, List, length, sym, ap, ◌∙◌, arith, cond, ◌==◌, ◌&&◌}
use Rattle.std.specs.Str.{bytes_eq}
use Rattle.jam_records.specs.declared.message.Slot.{Slot}
use Rattle.jam_records.specs.declared.message.Slot.TheVariants.{Held}
use Rattle.jam_threads.specs.Children.{original_behind}
use Rattle.jam_threads.specs.FirstNumbers.{kept_number}
use Rattle.jam_threads.specs.Threading.{AreThreads}
use Rattle.jam_threads.proofs.ChildrenLemmas.{length-push, original_behind-le}
use Rattle.jam_threads.proofs.ChangeLemmas.{on_err, same_threads}
use Rattle.jam_threads.proofs.FirstLemmas.{firsts_more, original_kept}
use Rattle.jam_threads.proofs.threads.Threads.add.Goals as goal

pub add_link-requires-clause-slots : goal.add_link-requires-clause-slots
add_link-requires-clause-slots c =
    let are = same_threads c.requires.slots.slots c.args.self.now c.reserve.new.self c.in_ok-reserve.ensures.links c.in_ok-reserve.ensures.lasts (λ id. ap (λ f. kept_number f id) c.in_ok-reserve.ensures.firsts) c.requires.slots.are in
    (c.requires.slots.slots, are.chains)

pub add_link-requires-clause-within : goal.add_link-requires-clause-within
add_link-requires-clause-within c =
    let slots = c.requires.slots.slots in
    let are = c.requires.slots.are in
    let original : c.original-original.result ≡ original_behind slots c.args.replyid.now = c.original-original.ensures ∙ original_kept slots (kept_number c.args.self.now.firsts) c.args.replyid.now are.firsts in
    omega (arith, original, original_behind-le slots c.args.replyid.now, are.chains.count, ap length c.in_ok-reserve.ensures.links)

pub returns-clause-added : goal.returns-clause-added
returns-clause-added c = λ slots m are msgid replyid.
    let now : AreThreads slots c.reserve.new.self = same_threads slots c.args.self.now c.reserve.new.self c.in_ok-reserve.ensures.links c.in_ok-reserve.ensures.lasts (λ id. ap (λ f. kept_number f id) c.in_ok-reserve.ensures.firsts) are in
    let old : List ℕ → ℕ = kept_number c.reserve.new.self.firsts in
    let original : c.original-original.result ≡ original_behind slots m.replyid = c.original-original.ensures ∙ original_kept slots (kept_number c.args.self.now.firsts) c.args.replyid.now are.firsts ∙ ap (original_behind slots) (sym replyid) in
    let count = are.chains.count in
    let number : c.len.result + 1 ≡ length slots + 1 = omega (arith, count, c.len.ensures) in
    let few = c.requires.few slots are in
    record {
      few = omega (arith, few, length-push slots (Held m));
      firsts = λ id. ap (λ f. kept_number f id) c.add_link.ensures.firsts
          ∙ firsts_more slots (Held m) old (kept_number c.add.new.self) (c.len.result + 1) now.firsts (omega (arith, number))
          (λ other. c.in_ok-add.ensures.ok other ∙ ap (λ ms. cond (old other == 0 && bytes_eq ms other) (c.len.result + 1) (old other)) (sym msgid)) id;
      chains = c.add_link.ensures.chains slots (Held m) now.chains original (omega (arith, number));
    }

pub returns-in_err-reserve-clause-same : goal.returns-in_err-reserve-clause-same
returns-in_err-reserve-clause-same c = on_err _ c.from_residual.result (λ (slots : List Slot) are.
    same_threads slots c.args.self.now c.reserve.new.self c.in_err-reserve.ensures.links c.in_err-reserve.ensures.lasts (λ id. ap (λ f. kept_number f id) c.in_err-reserve.ensures.firsts) are)

pub returns-in_err-add-clause-same : goal.returns-in_err-add-clause-same
returns-in_err-add-clause-same c = on_err _ c.from_residual-in_err-add.result (λ (slots : List Slot) are.
    same_threads slots c.args.self.now (record c.reserve.new.self { firsts = c.add.new.self }) c.in_ok-reserve.ensures.links c.in_ok-reserve.ensures.lasts
    (λ id. c.in_err-add.ensures.err id ∙ ap (λ f. kept_number f id) c.in_ok-reserve.ensures.firsts) are)
