use Rattle.std.proofs.Common.{◌≡◌, ℕ, ◌++◌, List, ap, ◌∙◌}
use Rattle.jam_layout.specs.Headers.{headers_text}
use Rattle.jam_layout.specs.Layout.{base_header, entries_in}
use Rattle.jam_layout.specs.declared.conference.ConferenceContents.{ConferenceContents}
use Rattle.jam_records.specs.BaseHeaders.{base_text}
use Rattle.jam_writing.proofs.whole.write_whole_headers.Goals as goal

pub returns : goal.returns
returns c = λ (pointers : List ℕ).
    let all : ConferenceContents = record { counter = c.args.counter; slots = c.args.slots.now; pointers = pointers } in
    let first : c.in_ok-jhr.jhr ≡ base_text (base_header c.args.shape.now all) = c.in_ok-jhr.ensures ∙ (c.write_base_header.ensures ∙ ap base_text (c.header_with-header.ensures pointers)) in
    let others : c.as_slice.result.now ≡ headers_text c.args.shape.now.kind 0 (entries_in all) = c.as_slice.ensures.same ∙ c.in_ok-headers.ensures in
    c.in_ok-add.ensures.ok ∙ (λ i. first i ++ others i)
