use Rattle.std.proofs.Common.{◌≡◌, List, ℕ, map, sym, ap, ◌∙◌}
use Rattle.jam_writing.proofs.jam_layout.OutlineLaws.{files_outline}
use Rattle.jam_writing.specs.jam_layout.Index.{index_records}
use Rattle.jam_writing.specs.jam_layout.Layout.{layout}
use Rattle.jam_writing.specs.jam_layout.Outlines.{slot_outline}
use Rattle.jam_writing.specs.jam_layout.declared.conference.ConferenceContents.{ConferenceContents}
use Rattle.jam_writing.specs.jam_layout.declared.files.BaseFiles.{BaseFiles}
use Rattle.jam_records.specs.declared.message.Slot.{Slot}
use Rattle.jam_threads.specs.Links.{link_of}
use Rattle.jam_writing.proofs.PieceLaws.{bodies_are}
use Rattle.intent_journal.specs.declared.patch.Patch.{Patch}
use Rattle.jam_base.proofs.ChangeClauses.{one_ok}
use Rattle.jam_base.specs.Change.{message_files}
use Rattle.jam_base.specs.Contents.{Contents}
use Rattle.jam_base.proofs.base.Base.whole.Goals as goal

pub returns : goal.returns
returns c =
    let base : Contents = c.args.self.now in
    let real : ConferenceContents = record base.conference { slots = c.args.slots.now } in
    let same : layout base.shape base.conference ≡ layout base.shape (record real { slots = map slot_outline c.args.slots.now }) = ap (λ (xs : List Slot). layout base.shape (record base.conference { slots = xs })) (sym c.requires) in
    let files = files_outline base.shape real in
    let jhr : c.in_ok-jhr.jhr ≡ (layout base.shape real).jhr =
    c.in_ok-jhr.ensures base.conference.pointers
    ∙ ((λ i. (layout (c.shape.ensures.same i) (record { counter = c.counter.ensures i; slots = c.slots-kept.ensures.same i; pointers = base.conference.pointers })).jhr)
    ∙ (ap (λ (f : BaseFiles). f.jhr) same ∙ ap (λ (f : BaseFiles). f.jhr) files)) in
    let jdt : c.in_ok-jdt.jdt ≡ (layout base.shape real).jdt = c.in_ok-jdt.ensures ∙ sym (bodies_are (link_of c.args.slots.now) 1 c.args.slots.now) in
    let jdx : c.in_ok-jdx.jdx ≡ (layout base.shape real).jdx = c.in_ok-jdx.ensures ∙ (ap (index_records 1024) c.slots-kept.ensures.same ∙ (ap (λ (f : BaseFiles). f.jdx) same ∙ ap (λ (f : BaseFiles). f.jdx) files)) in
    one_ok (λ (patches : List Patch). (jlr : List ℕ) → patches ≡ message_files c.place.result (record { jhr = c.in_ok-jhr.jhr; jdt = c.in_ok-jdt.jdt; jdx = c.in_ok-jdx.jdx; jlr = jlr }))
    (λ (patches : List Patch). patches ≡ message_files base.shape.place (layout base.shape real)) c.messages_of.result
    (λ patches is. is (layout base.shape real).jlr ∙ (λ i. message_files (c.place.ensures.place i) (record { jhr = jhr i; jdt = jdt i; jdx = jdx i; jlr = (layout base.shape real).jlr }))) c.messages_of.ensures
