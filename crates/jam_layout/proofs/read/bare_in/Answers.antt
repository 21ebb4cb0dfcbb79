use Rattle.std.proofs.Common.{◌∙◌, List, Ok, refl, sym, ap, subst, arith}
use Rattle.std.proofs.lemmas.Result.{err_from_is_err_and}
use Rattle.jam_threads.specs.Threading.{AreThreads}
use Rattle.jam_layout.specs.SecondPass.{slots_of}
use Rattle.jam_layout.specs.declared.entry.HeaderEntry.{HeaderEntry}
use Rattle.jam_layout.proofs.BareSteps.{all_bare, index_read, Spread, spread_threads, no_counter, no_headers, no_links, no_pointers, no_slots, no_texts, texts_read}
use Rattle.jam_layout.proofs.NumberedLaws.{few_entries}
use Rattle.jam_layout.proofs.ReadingSteps.{failed, base_is, headers_is, lengths_is, numbered_list, pointers_is, room, second_is, slots_is}
use Rattle.jam_layout.proofs.read.bare_in.Goals as goal

pub returns-in_err-counter-clause-gives : goal.returns-in_err-counter-clause-gives
returns-in_err-counter-clause-gives c =
    let p = err_from_is_err_and c.from_residual.result c.from_residual.ensures.1 in
    rw (p.1, p.2) (no_counter c.args.shape.now c.args.files.now c.in_err-counter.field-0.0 (failed c.in_err-counter.field-0.0 _ _ (base_is c.args.shape.now c.args.files.now c.as_slice-headers.result.now c.as_slice-headers.ensures.same) c.in_err-counter.ensures.gives))

pub returns-in_err-entries-clause-gives : goal.returns-in_err-entries-clause-gives
returns-in_err-entries-clause-gives c =
    let p = err_from_is_err_and c.from_residual-in_err-entries.result c.from_residual-in_err-entries.ensures.1 in
    let base = sym (base_is c.args.shape.now c.args.files.now c.as_slice-headers.result.now c.as_slice-headers.ensures.same) ∙ c.in_ok-counter.ensures.gives in
    rw (p.1, p.2) (no_headers c.args.shape.now c.args.files.now c.in_err-entries.field-0.0 c.in_ok-counter.counter base (failed c.in_err-entries.field-0.0 _ _ (headers_is c.args.shape.now c.args.files.now c.as_slice-headers.result.now c.as_slice-headers.ensures.same) c.in_err-entries.ensures))

pub check-requires-clause-numbered : goal.check-requires-clause-numbered
check-requires-clause-numbered c =
    let headers = sym (headers_is c.args.shape.now c.args.files.now c.as_slice-headers.result.now c.as_slice-headers.ensures.same) ∙ c.in_ok-entries.ensures in
    numbered_list c.args.shape.now c.args.files.now c.as_slice.result.now c.in_ok-entries.entries c.as_slice-headers.ensures.bytes c.requires.jhr c.as_slice.ensures headers

pub returns-in_err-threads-clause-gives : goal.returns-in_err-threads-clause-gives
returns-in_err-threads-clause-gives c =
    let p = err_from_is_err_and c.from_residual-in_err-threads.result c.from_residual-in_err-threads.ensures.1 in
    let base = sym (base_is c.args.shape.now c.args.files.now c.as_slice-headers.result.now c.as_slice-headers.ensures.same) ∙ c.in_ok-counter.ensures.gives in
    let headers = sym (headers_is c.args.shape.now c.args.files.now c.as_slice-headers.result.now c.as_slice-headers.ensures.same) ∙ c.in_ok-entries.ensures in
    rw (p.1, p.2) (no_links c.args.shape.now c.args.files.now c.in_err-threads.field-0.0 c.in_ok-counter.counter c.in_ok-entries.entries base headers
    (failed c.in_err-threads.field-0.0 _ _ (second_is c.args.shape.now c.args.files.now c.as_slice-headers.result.now c.u32_at.result c.as_slice.result.now c.in_ok-entries.entries c.as_slice-headers.ensures.same c.u32_at.ensures c.as_slice.ensures) c.in_err-threads.ensures.gives))

pub lengths_of-requires-clause-few : goal.lengths_of-requires-clause-few
lengths_of-requires-clause-few c =
    let headers = sym (headers_is c.args.shape.now c.args.files.now c.as_slice-headers.result.now c.as_slice-headers.ensures.same) ∙ c.in_ok-entries.ensures in
    few_entries c.as_slice-2.result.now (numbered_list c.args.shape.now c.args.files.now c.as_slice-2.result.now c.in_ok-entries.entries c.as_slice-headers.ensures.bytes c.requires.jhr c.as_slice-2.ensures headers)

pub returns-in_err-lengths-clause-gives : goal.returns-in_err-lengths-clause-gives
returns-in_err-lengths-clause-gives c =
    let p = err_from_is_err_and c.from_residual-in_err-lengths.result c.from_residual-in_err-lengths.ensures.1 in
    let base = sym (base_is c.args.shape.now c.args.files.now c.as_slice-headers.result.now c.as_slice-headers.ensures.same) ∙ c.in_ok-counter.ensures.gives in
    let headers = sym (headers_is c.args.shape.now c.args.files.now c.as_slice-headers.result.now c.as_slice-headers.ensures.same) ∙ c.in_ok-entries.ensures in
    let second = sym (second_is c.args.shape.now c.args.files.now c.as_slice-headers.result.now c.u32_at.result c.as_slice.result.now c.in_ok-entries.entries c.as_slice-headers.ensures.same c.u32_at.ensures c.as_slice.ensures) ∙ c.in_ok-threads.ensures.gives in
    rw (p.1, p.2) (no_texts c.args.shape.now c.args.files.now c.in_err-lengths.field-0.0 c.in_ok-counter.counter c.in_ok-entries.entries _ base headers second
    (failed c.in_err-lengths.field-0.0 _ _ (lengths_is c.args.shape.now c.args.files.now c.as_slice-3.result.now c.as_slice-2.result.now c.in_ok-entries.entries c.as_slice-3.ensures.same c.as_slice-2.ensures) c.in_err-lengths.ensures))

pub slots_in-requires-clause-small : goal.slots_in-requires-clause-small
slots_in-requires-clause-small c =
    let headers = sym (headers_is c.args.shape.now c.args.files.now c.as_slice-headers.result.now c.as_slice-headers.ensures.same) ∙ c.in_ok-entries.ensures in
    room c.args.shape.now c.args.files.now c.as_slice-headers.result.now c.in_ok-entries.entries c.as_slice-headers.ensures.bytes c.requires.jhr c.as_slice-headers.ensures.same c.in_ok-counter.ensures.long headers

pub returns-in_err-slots-clause-gives : goal.returns-in_err-slots-clause-gives
returns-in_err-slots-clause-gives c =
    let p = err_from_is_err_and c.from_residual-in_err-slots.result c.from_residual-in_err-slots.ensures.1 in
    let base = sym (base_is c.args.shape.now c.args.files.now c.as_slice-headers.result.now c.as_slice-headers.ensures.same) ∙ c.in_ok-counter.ensures.gives in
    let headers = sym (headers_is c.args.shape.now c.args.files.now c.as_slice-headers.result.now c.as_slice-headers.ensures.same) ∙ c.in_ok-entries.ensures in
    let second = sym (second_is c.args.shape.now c.args.files.now c.as_slice-headers.result.now c.u32_at.result c.as_slice.result.now c.in_ok-entries.entries c.as_slice-headers.ensures.same c.u32_at.ensures c.as_slice.ensures) ∙ c.in_ok-threads.ensures.gives in
    let texts = texts_read c.args.shape.now c.args.files.now c.in_ok-entries.entries c.in_ok-lengths.lengths c.as_slice-headers.ensures.bytes c.requires.jhr headers (sym (lengths_is c.args.shape.now c.args.files.now c.as_slice-3.result.now c.as_slice-2.result.now c.in_ok-entries.entries c.as_slice-3.ensures.same c.as_slice-2.ensures) ∙ c.in_ok-lengths.ensures) in
    rw (p.1, p.2) (no_slots c.args.shape.now c.args.files.now c.in_err-slots.field-0.0 c.in_ok-counter.counter c.in_ok-entries.entries _ c.in_ok-lengths.lengths base headers second texts
    (failed c.in_err-slots.field-0.0 _ _ (slots_is c.args.shape.now c.args.files.now c.as_slice-4.result.now c.in_ok-entries.entries c.in_ok-entries.entries c.as_slice-4.ensures.same refl) c.in_err-slots.ensures))

pub overflow_cast-count : goal.overflow_cast-count
overflow_cast-count c =
    let headers = sym (headers_is c.args.shape.now c.args.files.now c.as_slice-headers.result.now c.as_slice-headers.ensures.same) ∙ c.in_ok-entries.ensures in
    let second = sym (second_is c.args.shape.now c.args.files.now c.as_slice-headers.result.now c.u32_at.result c.as_slice.result.now c.in_ok-entries.entries c.as_slice-headers.ensures.same c.u32_at.ensures c.as_slice.ensures) ∙ c.in_ok-threads.ensures.gives in
    let texts = texts_read c.args.shape.now c.args.files.now c.in_ok-entries.entries c.in_ok-lengths.lengths c.as_slice-headers.ensures.bytes c.requires.jhr headers (sym (lengths_is c.args.shape.now c.args.files.now c.as_slice-3.result.now c.as_slice-2.result.now c.in_ok-entries.entries c.as_slice-3.ensures.same c.as_slice-2.ensures) ∙ c.in_ok-lengths.ensures) in
    let index = index_read c.args.shape.now c.args.files.now c.in_ok-entries.entries c.in_ok-lengths.lengths c.in_ok-slots.slots _ texts c.as_slice-4.ensures.bytes second (sym (slots_is c.args.shape.now c.args.files.now c.as_slice-4.result.now c.in_ok-entries.entries c.in_ok-entries.entries c.as_slice-4.ensures.same refl) ∙ c.in_ok-slots.ensures) in
    let most = index.few in
    omega (arith, c.len-count.ensures, most)

pub returns-in_err-pointers-clause-gives : goal.returns-in_err-pointers-clause-gives
returns-in_err-pointers-clause-gives c =
    let p = err_from_is_err_and c.from_residual-in_err-pointers.result c.from_residual-in_err-pointers.ensures.1 in
    let base = sym (base_is c.args.shape.now c.args.files.now c.as_slice-headers.result.now c.as_slice-headers.ensures.same) ∙ c.in_ok-counter.ensures.gives in
    let headers = sym (headers_is c.args.shape.now c.args.files.now c.as_slice-headers.result.now c.as_slice-headers.ensures.same) ∙ c.in_ok-entries.ensures in
    let second = sym (second_is c.args.shape.now c.args.files.now c.as_slice-headers.result.now c.u32_at.result c.as_slice.result.now c.in_ok-entries.entries c.as_slice-headers.ensures.same c.u32_at.ensures c.as_slice.ensures) ∙ c.in_ok-threads.ensures.gives in
    let texts = texts_read c.args.shape.now c.args.files.now c.in_ok-entries.entries c.in_ok-lengths.lengths c.as_slice-headers.ensures.bytes c.requires.jhr headers (sym (lengths_is c.args.shape.now c.args.files.now c.as_slice-3.result.now c.as_slice-2.result.now c.in_ok-entries.entries c.as_slice-3.ensures.same c.as_slice-2.ensures) ∙ c.in_ok-lengths.ensures) in
    let index = index_read c.args.shape.now c.args.files.now c.in_ok-entries.entries c.in_ok-lengths.lengths c.in_ok-slots.slots _ texts c.as_slice-4.ensures.bytes second (sym (slots_is c.args.shape.now c.args.files.now c.as_slice-4.result.now c.in_ok-entries.entries c.in_ok-entries.entries c.as_slice-4.ensures.same refl) ∙ c.in_ok-slots.ensures) in
    rw (p.1, p.2) (no_pointers c.args.shape.now c.args.files.now c.in_err-pointers.field-0.0 c.in_ok-counter.counter c.in_ok-entries.entries _ c.in_ok-lengths.lengths c.in_ok-slots.slots base headers second texts index
    (failed c.in_err-pointers.field-0.0 _ _ (pointers_is c.args.shape.now c.args.files.now c.as_slice-5.result.now c.readers-readers.result.now c.len-count.result c.in_ok-slots.slots c.as_slice-5.ensures.same c.readers-readers.ensures.same c.len-count.ensures) c.in_err-pointers.ensures))

pub returns-clause-gives : goal.returns-clause-gives
returns-clause-gives c =
    let base = sym (base_is c.args.shape.now c.args.files.now c.as_slice-headers.result.now c.as_slice-headers.ensures.same) ∙ c.in_ok-counter.ensures.gives in
    let headers = sym (headers_is c.args.shape.now c.args.files.now c.as_slice-headers.result.now c.as_slice-headers.ensures.same) ∙ c.in_ok-entries.ensures in
    let second = sym (second_is c.args.shape.now c.args.files.now c.as_slice-headers.result.now c.u32_at.result c.as_slice.result.now c.in_ok-entries.entries c.as_slice-headers.ensures.same c.u32_at.ensures c.as_slice.ensures) ∙ c.in_ok-threads.ensures.gives in
    let texts = texts_read c.args.shape.now c.args.files.now c.in_ok-entries.entries c.in_ok-lengths.lengths c.as_slice-headers.ensures.bytes c.requires.jhr headers (sym (lengths_is c.args.shape.now c.args.files.now c.as_slice-3.result.now c.as_slice-2.result.now c.in_ok-entries.entries c.as_slice-3.ensures.same c.as_slice-2.ensures) ∙ c.in_ok-lengths.ensures) in
    let index = index_read c.args.shape.now c.args.files.now c.in_ok-entries.entries c.in_ok-lengths.lengths c.in_ok-slots.slots _ texts c.as_slice-4.ensures.bytes second (sym (slots_is c.args.shape.now c.args.files.now c.as_slice-4.result.now c.in_ok-entries.entries c.in_ok-entries.entries c.as_slice-4.ensures.same refl) ∙ c.in_ok-slots.ensures) in
    let last = sym (pointers_is c.args.shape.now c.args.files.now c.as_slice-5.result.now c.readers-readers.result.now c.len-count.result c.in_ok-slots.slots c.as_slice-5.ensures.same c.readers-readers.ensures.same c.len-count.ensures) ∙ c.in_ok-pointers.ensures in
    all_bare c.args.shape.now c.args.files.now c.in_ok-counter.counter c.in_ok-entries.entries _ c.in_ok-lengths.lengths c.in_ok-slots.slots c.in_ok-pointers.pointers base headers second texts index last
    ∙ ap Ok (sym c.with_threads.ensures)

pub fill-requires-clause-slots : goal.fill-requires-clause-slots
fill-requires-clause-slots c = record { slots = slots_of 1 c.as_slice.result.now; are = c.in_ok-threads.ensures.threads }

pub fill-requires-clause-few : goal.fill-requires-clause-few
fill-requires-clause-few c =
    let headers = sym (headers_is c.args.shape.now c.args.files.now c.as_slice-headers.result.now c.as_slice-headers.ensures.same) ∙ c.in_ok-entries.ensures in
    let second = sym (second_is c.args.shape.now c.args.files.now c.as_slice-headers.result.now c.u32_at.result c.as_slice.result.now c.in_ok-entries.entries c.as_slice-headers.ensures.same c.u32_at.ensures c.as_slice.ensures) ∙ c.in_ok-threads.ensures.gives in
    let texts = texts_read c.args.shape.now c.args.files.now c.in_ok-entries.entries c.in_ok-lengths.lengths c.as_slice-headers.ensures.bytes c.requires.jhr headers (sym (lengths_is c.args.shape.now c.args.files.now c.as_slice-3.result.now c.as_slice-2.result.now c.in_ok-entries.entries c.as_slice-3.ensures.same c.as_slice-2.ensures) ∙ c.in_ok-lengths.ensures) in
    let index = index_read c.args.shape.now c.args.files.now c.in_ok-entries.entries c.in_ok-lengths.lengths c.in_ok-slots.slots _ texts c.as_slice-4.ensures.bytes second (sym (slots_is c.args.shape.now c.args.files.now c.as_slice-4.result.now c.in_ok-entries.entries c.in_ok-entries.entries c.as_slice-4.ensures.same refl) ∙ c.in_ok-slots.ensures) in
    let most = index.few in
    omega (arith, c.len-count.ensures, most)

pub with_threads-requires : goal.with_threads-requires
with_threads-requires c =
    let headers = sym (headers_is c.args.shape.now c.args.files.now c.as_slice-headers.result.now c.as_slice-headers.ensures.same) ∙ c.in_ok-entries.ensures in
    let second = sym (second_is c.args.shape.now c.args.files.now c.as_slice-headers.result.now c.u32_at.result c.as_slice.result.now c.in_ok-entries.entries c.as_slice-headers.ensures.same c.u32_at.ensures c.as_slice.ensures) ∙ c.in_ok-threads.ensures.gives in
    let texts = texts_read c.args.shape.now c.args.files.now c.in_ok-entries.entries c.in_ok-lengths.lengths c.as_slice-headers.ensures.bytes c.requires.jhr headers (sym (lengths_is c.args.shape.now c.args.files.now c.as_slice-3.result.now c.as_slice-2.result.now c.in_ok-entries.entries c.as_slice-3.ensures.same c.as_slice-2.ensures) ∙ c.in_ok-lengths.ensures) in
    let index = index_read c.args.shape.now c.args.files.now c.in_ok-entries.entries c.in_ok-lengths.lengths c.in_ok-slots.slots _ texts c.as_slice-4.ensures.bytes second (sym (slots_is c.args.shape.now c.args.files.now c.as_slice-4.result.now c.in_ok-entries.entries c.in_ok-entries.entries c.as_slice-4.ensures.same refl) ∙ c.in_ok-slots.ensures) in
    let made : AreThreads (slots_of 1 c.in_ok-entries.entries) c.in_ok-threads.threads = subst (λ (es : List HeaderEntry). AreThreads (slots_of 1 es) c.in_ok-threads.threads) c.as_slice.ensures c.in_ok-threads.ensures.threads in
    spread_threads c.in_ok-entries.entries c.in_ok-slots.slots _ _ c.len-count.ensures (subst (λ (es : List HeaderEntry). Spread es c.in_ok-slots.slots) texts.bared index.spread) (c.in_ok-fill.ensures.added (slots_of 1 c.in_ok-entries.entries) made)
