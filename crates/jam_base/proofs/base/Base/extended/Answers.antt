use Rattle.std.proofs.Common.{◌≡◌, ◌∙◌, ◌<◌, ◌==◌, true, List, map, sym, ap, refl, subst, length, arith}
use Rattle.std.specs.Prelude.{sum_by}
use Rattle.std.specs.List.{flat_map}
use Rattle.std.proofs.lemmas.List.{length-map}
use Rattle.jam_records.specs.declared.message.Message.{Message}
use Rattle.jam_records.specs.declared.message.Slot.{Slot}
use Rattle.jam_threads.specs.Threading.{AreThreads}
use Rattle.jam_writing.specs.jam_layout.Layout.{layout}
use Rattle.jam_writing.specs.jam_layout.Outlines.{message_outline}
use Rattle.jam_writing.specs.jam_layout.Sizes.{slot_header}
use Rattle.jam_writing.specs.jam_layout.Valid.{IsConference}
use Rattle.jam_writing.proofs.jam_layout.OutlineLaws.{conference_outline}
use Rattle.jam_writing.specs.Pieces.{body_size}
use Rattle.jam_writing.proofs.PieceLaws.{headers_small, bodies_small}
use Rattle.jam_base.specs.Bodies.{Lengthens}
use Rattle.jam_base.specs.Change.{Turns}
use Rattle.jam_base.specs.Contents.{Contents, with_messages, with_slots}
use Rattle.jam_base.specs.Outlined.{outlined}
use Rattle.jam_base.specs.Puts.{link_puts}
use Rattle.jam_base.specs.Slots.{slots_with_all}
use Rattle.jam_base.specs.declared.change.BaseChange.{BaseChange}
use Rattle.jam_base.proofs.BaseLaws.{not_none, some_more}
use Rattle.jam_base.proofs.ChangeClauses.{no_change, one_ok}
use Rattle.jam_base.proofs.AppendClauses.{extended_bodies, extended_costs, extended_each, extended_suits, kept_slots, none_more, with_all}
use Rattle.jam_base.proofs.EndOutlines.{bodies_sum, headers_sum, outlined_threads}
use Rattle.jam_base.proofs.SlotChanges.{appended_is, length_all}
use Rattle.jam_base.proofs.OutlineChanges.{appended_each, no_messages}
use Rattle.jam_base.proofs.base.Base.extended.Goals as goal

pub with_messages-requires-clause-few : goal.with_messages-requires-clause-few
with_messages-requires-clause-few c =
    omega (arith, length_all c.slots-old.result.now (map message_outline c.args.messages), length-map c.args.messages message_outline, ap length c.slots-old.ensures.same, c.requires.few)

pub with_messages-requires-clause-headers : goal.with_messages-requires-clause-headers
with_messages-requires-clause-headers c =
    let base : Contents = c.args.self.now in
    let kept : List Slot = slots_with_all base.conference.slots (map message_outline c.args.messages) in
    let all : List Slot = slots_with_all base.conference.slots c.args.messages in
    omega (
      arith,
      ap (λ (slots : List Slot). sum_by slot_header (slots_with_all slots (map message_outline c.args.messages))) c.slots-old.ensures.same,
      ap (sum_by slot_header) (kept_slots base kept c.args.messages c.slots-old.ensures.outline refl),
      headers_sum all,
      headers_small base.shape (with_slots all base).conference (appended_is base all c.args.messages refl c.slots-old.ensures.is_conference c.requires.messages c.requires.few),
    )

pub with_messages-requires-clause-bodies : goal.with_messages-requires-clause-bodies
with_messages-requires-clause-bodies c =
    let base : Contents = c.args.self.now in
    let kept : List Slot = slots_with_all base.conference.slots (map message_outline c.args.messages) in
    let all : List Slot = slots_with_all base.conference.slots c.args.messages in
    omega (
      arith,
      ap (λ (slots : List Slot). sum_by body_size (slots_with_all slots (map message_outline c.args.messages))) c.slots-old.ensures.same,
      ap (sum_by body_size) (kept_slots base kept c.args.messages c.slots-old.ensures.outline refl),
      bodies_sum all,
      bodies_small base.shape (with_slots all base).conference (appended_is base all c.args.messages refl c.slots-old.ensures.is_conference c.requires.messages c.requires.few),
    )

pub with_threads-requires-clause-conference : goal.with_threads-requires-clause-conference
with_threads-requires-clause-conference c =
    let base : Contents = c.args.self.now in
    let all : List Slot = slots_with_all base.conference.slots c.args.messages in
    let slots : c.in_ok-slots.slots ≡ slots_with_all base.conference.slots (map message_outline c.args.messages) =
    c.in_ok-slots.ensures ∙ ap (λ (xs : List Slot). slots_with_all xs (map message_outline c.args.messages)) c.slots-old.ensures.same in
    subst (λ (xs : List Slot). IsConference base.shape (with_slots xs base).conference) (sym (kept_slots base c.in_ok-slots.slots c.args.messages c.slots-old.ensures.outline slots))
    (conference_outline base.shape (with_slots all base).conference (appended_is base all c.args.messages refl c.slots-old.ensures.is_conference c.requires.messages c.requires.few))

pub with_threads-requires-clause-threads : goal.with_threads-requires-clause-threads
with_threads-requires-clause-threads c =
    let base : Contents = c.args.self.now in
    let slots : c.in_ok-slots.slots ≡ slots_with_all base.conference.slots (map message_outline c.args.messages) =
    c.in_ok-slots.ensures ∙ ap (λ (xs : List Slot). slots_with_all xs (map message_outline c.args.messages)) c.slots-old.ensures.same in
    outlined_threads (slots_with_all base.conference.slots c.args.messages) c.in_ok-slots.slots (kept_slots base c.in_ok-slots.slots c.args.messages c.slots-old.ensures.outline slots) c.in_ok-threads.threads
    (subst (λ (ms : List Message). AreThreads (slots_with_all base.conference.slots ms) c.in_ok-threads.threads) c.as_slice-2.ensures c.in_ok-threads.ensures.threads)

pub of_appended-requires : goal.of_appended-requires
of_appended-requires c =
    let base : Contents = c.args.self.now in
    let slots : c.in_ok-slots.slots ≡ slots_with_all base.conference.slots (map message_outline c.args.messages) =
    c.in_ok-slots.ensures ∙ ap (λ (xs : List Slot). slots_with_all xs (map message_outline c.args.messages)) c.slots-old.ensures.same in
    omega (arith, c.len.ensures.count, ap length c.slots-old.ensures.same, ap (λ (k : Contents). length k.conference.slots) c.in_ok-base.ensures, ap length slots, length_all base.conference.slots (map message_outline c.args.messages))

pub returns-clause-base : goal.returns-clause-base
returns-clause-base c =
    let base : Contents = c.args.self.now in
    let slots : c.in_ok-slots.slots ≡ slots_with_all base.conference.slots (map message_outline c.args.messages) =
    c.in_ok-slots.ensures ∙ ap (λ (xs : List Slot). slots_with_all xs (map message_outline c.args.messages)) c.slots-old.ensures.same in
    let some : 0 < length c.args.messages = omega (arith, ap length c.as_slice.ensures, not_none (length c.as_slice.result.now) (sym c.is_empty.ensures ∙ c.if-is_empty.false)) in
    let made : c.in_ok-base.base ≡ outlined (with_messages c.args.messages base) =
    c.in_ok-base.ensures ∙ (ap (λ (xs : List Slot). with_slots xs base) (kept_slots base c.in_ok-slots.slots c.args.messages c.slots-old.ensures.outline slots) ∙ ap outlined (sym (some_more c.args.messages base some))) in
    one_ok (λ (change : BaseChange). change.base ≡ c.in_ok-base.base) (λ (change : BaseChange). change.base ≡ outlined (with_messages c.args.messages base)) c.of_appended.result (λ change is. is ∙ made) c.of_appended.ensures.base

pub returns-clause-intent : goal.returns-clause-intent
returns-clause-intent c =
    let base : Contents = c.args.self.now in
    let slots : c.in_ok-slots.slots ≡ slots_with_all base.conference.slots (map message_outline c.args.messages) =
    c.in_ok-slots.ensures ∙ ap (λ (xs : List Slot). slots_with_all xs (map message_outline c.args.messages)) c.slots-old.ensures.same in
    let count : c.len.result ≡ length base.conference.slots = c.len.ensures.count ∙ ap length c.slots-old.ensures.same in
    let links : c.in_ok-threads.links ≡ link_puts base.shape.place base.conference.slots base.conference.slots c.args.messages = c.in_ok-threads.ensures.patches ∙ ap (link_puts base.shape.place base.conference.slots base.conference.slots) c.as_slice-2.ensures in
    let bodies : c.in_ok-bodies.bodies ≡ flat_map (λ (m : Message). m.body) c.args.messages = c.in_ok-bodies.ensures ∙ ap (flat_map (λ (m : Message). m.body)) c.as_slice-3.ensures in
    extended_suits base c.in_ok-slots.slots c.args.messages c.in_ok-base.base c.len.result c.in_ok-threads.links c.in_ok-bodies.bodies c.of_appended.result c.slots-old.ensures.outline slots c.in_ok-base.ensures count links bodies
    c.of_appended.ensures.base c.of_appended.ensures.patches

pub returns-clause-costs : goal.returns-clause-costs
returns-clause-costs c =
    let base : Contents = c.args.self.now in
    let slots : c.in_ok-slots.slots ≡ slots_with_all base.conference.slots (map message_outline c.args.messages) =
    c.in_ok-slots.ensures ∙ ap (λ (xs : List Slot). slots_with_all xs (map message_outline c.args.messages)) c.slots-old.ensures.same in
    let count : c.len.result ≡ length base.conference.slots = c.len.ensures.count ∙ ap length c.slots-old.ensures.same in
    let links : c.in_ok-threads.links ≡ link_puts base.shape.place base.conference.slots base.conference.slots c.args.messages = c.in_ok-threads.ensures.patches ∙ ap (link_puts base.shape.place base.conference.slots base.conference.slots) c.as_slice-2.ensures in
    let bodies : c.in_ok-bodies.bodies ≡ flat_map (λ (m : Message). m.body) c.args.messages = c.in_ok-bodies.ensures ∙ ap (flat_map (λ (m : Message). m.body)) c.as_slice-3.ensures in
    extended_costs base c.in_ok-slots.slots c.args.messages c.in_ok-base.base c.len.result c.in_ok-threads.links c.in_ok-bodies.bodies c.of_appended.result c.slots-old.ensures.outline slots c.in_ok-base.ensures count links bodies
    c.of_appended.ensures.base c.of_appended.ensures.patches

pub returns-clause-each : goal.returns-clause-each
returns-clause-each c =
    let base : Contents = c.args.self.now in
    let slots : c.in_ok-slots.slots ≡ slots_with_all base.conference.slots (map message_outline c.args.messages) =
    c.in_ok-slots.ensures ∙ ap (λ (xs : List Slot). slots_with_all xs (map message_outline c.args.messages)) c.slots-old.ensures.same in
    let count : c.len.result ≡ length base.conference.slots = c.len.ensures.count ∙ ap length c.slots-old.ensures.same in
    let links : c.in_ok-threads.links ≡ link_puts base.shape.place base.conference.slots base.conference.slots c.args.messages = c.in_ok-threads.ensures.patches ∙ ap (link_puts base.shape.place base.conference.slots base.conference.slots) c.as_slice-2.ensures in
    let bodies : c.in_ok-bodies.bodies ≡ flat_map (λ (m : Message). m.body) c.args.messages = c.in_ok-bodies.ensures ∙ ap (flat_map (λ (m : Message). m.body)) c.as_slice-3.ensures in
    let some : 0 < length c.args.messages = omega (arith, ap length c.as_slice.ensures, not_none (length c.as_slice.result.now) (sym c.is_empty.ensures ∙ c.if-is_empty.false)) in
    let whole : with_all base c.args.messages ≡ with_messages c.args.messages base = sym (some_more c.args.messages base some) in
    extended_each base c.in_ok-slots.slots c.args.messages c.in_ok-base.base c.len.result c.in_ok-threads.links c.in_ok-bodies.bodies c.of_appended.result c.slots-old.ensures.outline slots c.in_ok-base.ensures count links bodies
    c.of_appended.ensures.base c.of_appended.ensures.patches whole

pub returns-clause-bodies : goal.returns-clause-bodies
returns-clause-bodies c =
    let base : Contents = c.args.self.now in
    let slots : c.in_ok-slots.slots ≡ slots_with_all base.conference.slots (map message_outline c.args.messages) =
    c.in_ok-slots.ensures ∙ ap (λ (xs : List Slot). slots_with_all xs (map message_outline c.args.messages)) c.slots-old.ensures.same in
    let count : c.len.result ≡ length base.conference.slots = c.len.ensures.count ∙ ap length c.slots-old.ensures.same in
    let links : c.in_ok-threads.links ≡ link_puts base.shape.place base.conference.slots base.conference.slots c.args.messages = c.in_ok-threads.ensures.patches ∙ ap (link_puts base.shape.place base.conference.slots base.conference.slots) c.as_slice-2.ensures in
    let bodies : c.in_ok-bodies.bodies ≡ flat_map (λ (m : Message). m.body) c.args.messages = c.in_ok-bodies.ensures ∙ ap (flat_map (λ (m : Message). m.body)) c.as_slice-3.ensures in
    let some : 0 < length c.args.messages = omega (arith, ap length c.as_slice.ensures, not_none (length c.as_slice.result.now) (sym c.is_empty.ensures ∙ c.if-is_empty.false)) in
    let whole : with_all base c.args.messages ≡ with_messages c.args.messages base = sym (some_more c.args.messages base some) in
    extended_bodies base c.in_ok-slots.slots c.args.messages c.in_ok-base.base c.len.result c.in_ok-threads.links c.in_ok-bodies.bodies c.of_appended.result c.slots-old.ensures.outline slots c.in_ok-base.ensures count links bodies
    c.of_appended.ensures.base c.of_appended.ensures.patches whole

pub returns-then-is_empty-clause-base : goal.returns-then-is_empty-clause-base
returns-then-is_empty-clause-base c =
    let base : Contents = c.args.self.now in
    let none : (length c.args.messages == 0) ≡ true = ap (λ (ms : List Message). length ms == 0) (sym c.as_slice.ensures) ∙ (sym c.is_empty.ensures ∙ c.if-is_empty.true) in
    one_ok (λ (change : BaseChange). change.base ≡ base) (λ (change : BaseChange). change.base ≡ outlined (with_messages c.args.messages base)) c.unchanged.result
    (λ change is. is ∙ (sym c.slots-old.ensures.outline ∙ ap outlined (no_messages c.args.messages base none))) c.unchanged.ensures.base

pub returns-then-is_empty-clause-bodies : goal.returns-then-is_empty-clause-bodies
returns-then-is_empty-clause-bodies c =
    let base : Contents = c.args.self.now in
    let none : (length c.args.messages == 0) ≡ true = ap (λ (ms : List Message). length ms == 0) (sym c.as_slice.ensures) ∙ (sym c.is_empty.ensures ∙ c.if-is_empty.true) in
    none_more base c.args.messages c.unchanged.result (λ files patches. Lengthens base.shape.place (layout base.shape base.conference) files patches) (no_messages c.args.messages base none) c.unchanged.ensures.base c.unchanged.ensures.bodies

pub returns-then-is_empty-clause-each : goal.returns-then-is_empty-clause-each
returns-then-is_empty-clause-each c =
    let base : Contents = c.args.self.now in
    let none : (length c.args.messages == 0) ≡ true = ap (λ (ms : List Message). length ms == 0) (sym c.as_slice.ensures) ∙ (sym c.is_empty.ensures ∙ c.if-is_empty.true) in
    let whole : base ≡ with_messages c.args.messages base = no_messages c.args.messages base none in
    let turns = no_change base.shape.place (layout base.shape base.conference) base c.unchanged.result refl c.unchanged.ensures.base c.unchanged.ensures.patches in
    appended_each base c.args.messages c.unchanged.result
    (none_more base c.args.messages c.unchanged.result (λ files patches. Turns base.shape.place (layout base.shape base.conference) files patches) whole c.unchanged.ensures.base turns)
    (none_more base c.args.messages c.unchanged.result (λ files patches. Lengthens base.shape.place (layout base.shape base.conference) files patches) whole c.unchanged.ensures.base c.unchanged.ensures.bodies)
