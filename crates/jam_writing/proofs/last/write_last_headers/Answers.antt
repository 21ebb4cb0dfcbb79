use Rattle.std.proofs.Common.{ℕ, ◌+◌, ◌<◌, ◌^◌, List, length, drop, sym, subst, arith}
use Rattle.jam_layout.specs.jam_threads.Links.{link_of}
use Rattle.jam_layout.specs.Headers.{headers_text}
use Rattle.jam_layout.specs.Layout.{entries_of}
use Rattle.jam_writing.proofs.WritingLoops.{HeadersSoFar, header_small, headers_from}
use Rattle.jam_writing.proofs.last.write_last_headers.Goals as goal

pub loop-place-init : goal.loop-place-init
loop-place-init c =
    let slots = c.args.slots.now in
    subst (λ (text : List ℕ). HeadersSoFar c.args.kind slots c.args.from c.args.offset text (headers_text c.args.kind c.args.offset (entries_of (link_of slots) (c.args.from + 1) (drop c.args.from slots)))) (sym c.new-text.ensures)
    (headers_from c.args.kind slots c.args.from c.args.offset c.requires.offset)

pub add_slot-requires-clause-header : goal.add_slot-requires-clause-header
add_slot-requires-clause-header c =
    let slots = c.args.slots.now in
    let within : c.loop-place.place < length slots = omega (arith, c.len-place-end.ensures.count, c.loop-place-test.true) in
    header_small slots c.loop-place.place (2 ^ 31) c.at-slot.result.now within c.at-slot.ensures c.requires.headers
