use Rattle.std.proofs.Common.{◌≡◌, ◌∙◌, [], sym, ap, replicate}
use Rattle.jam_writing.specs.jam_layout.Bare.{filled, filled_slots}
use Rattle.jam_writing.specs.jam_layout.Layout.{layout}
use Rattle.jam_writing.specs.jam_layout.declared.bare.BareConference.{BareConference}
use Rattle.jam_base.specs.Contents.{Contents, no_slots}
use Rattle.jam_base.proofs.ReaderLaws.{fresh_base}
use Rattle.jam_base.proofs.ChangeClauses.{fresh_changes, fresh_suits}
use Rattle.jam_base.proofs.base.Base.fresh.Goals as goal

pub of_files-requires : goal.of_files-requires
of_files-requires c =
    let same : record { counter = 0; slots = []; pointers = c.as_slice.result.now } ≡ filled (record { conference = record { counter = 0; slots = c.new.result; pointers = c.in_ok-no_pointers.field-0 }; lengths = c.new-2.result }) =
    λ i. record { counter = 0; slots = filled_slots c.new-2.result (sym c.new.ensures i); pointers = c.as_slice.ensures i } in
    c.in_ok-files.ensures ∙ (ap (layout c.args.shape.now) same ∙ sym (ap (λ (k : Contents). layout k.shape k.conference) (c.in_ok-base.ensures ∙ ap (λ (b : BareConference). record { shape = c.args.shape.now; conference = filled b }) c.in_ok-new.ensures)))

pub returns-clause-files : goal.returns-clause-files
returns-clause-files c =
    let pointers = c.in_ok-no_pointers.ensures ∙ ap (λ n. replicate n 0) c.len.ensures.count in
    let made : c.in_ok-base.base ≡ record { shape = c.args.shape.now; conference = no_slots c.args.shape.now } =
    fresh_base c.args.shape.now c.in_ok-base.base c.new.result c.new-2.result c.in_ok-no_pointers.field-0 c.new.ensures pointers (c.in_ok-base.ensures ∙ ap (λ (b : BareConference). record { shape = c.args.shape.now; conference = filled b }) c.in_ok-new.ensures) in
    fresh_changes c.args.shape.now c.in_ok-base.base c.of_files.result made c.of_files.ensures.patches

pub returns-clause-intent : goal.returns-clause-intent
returns-clause-intent c =
    let pointers = c.in_ok-no_pointers.ensures ∙ ap (λ n. replicate n 0) c.len.ensures.count in
    let made : c.in_ok-base.base ≡ record { shape = c.args.shape.now; conference = no_slots c.args.shape.now } =
    fresh_base c.args.shape.now c.in_ok-base.base c.new.result c.new-2.result c.in_ok-no_pointers.field-0 c.new.ensures pointers (c.in_ok-base.ensures ∙ ap (λ (b : BareConference). record { shape = c.args.shape.now; conference = filled b }) c.in_ok-new.ensures) in
    fresh_suits c.args.shape.now c.in_ok-base.base c.of_files.result made c.of_files.ensures.patches
