use Rattle.std.proofs.Common.{◌≡◌, ◌∙◌, Some, length, sym, ap, arith}
use Rattle.jam_writing.specs.jam_layout.declared.shape.Shape.{Shape}
use Rattle.jam_base.specs.Contents.{Contents, reader_place}
use Rattle.jam_base.proofs.ReadingPuts.{read_base, read_turns, read_lengthens, read_suits}
use Rattle.jam_base.proofs.SlotChanges.{received_length}
use Rattle.jam_base.proofs.base.Base.marked_read.Goals as goal

pub with_pointer-requires-clause-there : goal.with_pointer-requires-clause-there
with_pointer-requires-clause-there c =
    let pointers = ap (λ (k : Contents). length k.conference.pointers) c.in_ok-read.ensures in
    let readers = ap (λ (s : Shape). length s.readers) c.shape.ensures.same in
    omega (arith, pointers, c.shape.ensures.is_conference.pointers.all, readers, c.in-Some.ensures.within)

pub with_pointer-requires-clause-within : goal.with_pointer-requires-clause-within
with_pointer-requires-clause-within c =
    omega (arith, ap (λ (k : Contents). length k.conference.slots) c.in_ok-read.ensures, received_length c.args.name.now c.receipt_to-receipt.result 1 c.args.self.now.conference.slots, c.requires.within)

pub returns-clause-base : goal.returns-clause-base
returns-clause-base c =
    let there : reader_place c.args.user c.args.self.now.shape.readers ≡ Some c.in-Some.place = ap (λ (s : Shape). reader_place c.args.user s.readers) (sym c.shape.ensures.same) ∙ (sym c.position.ensures.place ∙ c.in-Some.is) in
    read_base c.args.self.now c.args.user c.args.name.now c.args.upto c.args.now c.in-Some.place c.receipt_to-receipt.result c.in_ok-marks.marks c.in_ok-read.read c.in_ok-next.next c.in_ok-change.change c.of_pointer.result there
    c.shape.ensures.is_conference.pointers.all c.receipt_to-receipt.ensures c.in_ok-marks.ensures c.in_ok-read.ensures c.in_ok-next.ensures c.in_ok-change.ensures.base c.in_ok-change.ensures.patches c.of_pointer.ensures.base c.of_pointer.ensures.patches c.requires.due

pub returns-clause-files : goal.returns-clause-files
returns-clause-files c =
    let there : reader_place c.args.user c.args.self.now.shape.readers ≡ Some c.in-Some.place = ap (λ (s : Shape). reader_place c.args.user s.readers) (sym c.shape.ensures.same) ∙ (sym c.position.ensures.place ∙ c.in-Some.is) in
    read_turns c.args.self.now c.args.user c.args.name.now c.args.upto c.args.now c.in-Some.place c.receipt_to-receipt.result c.in_ok-marks.marks c.in_ok-read.read c.in_ok-next.next c.in_ok-change.change c.of_pointer.result there
    c.shape.ensures.is_conference.pointers.all c.receipt_to-receipt.ensures c.in_ok-marks.ensures c.in_ok-read.ensures c.in_ok-next.ensures c.in_ok-change.ensures.base c.in_ok-change.ensures.patches c.of_pointer.ensures.base c.of_pointer.ensures.patches

pub returns-clause-bodies : goal.returns-clause-bodies
returns-clause-bodies c =
    let there : reader_place c.args.user c.args.self.now.shape.readers ≡ Some c.in-Some.place = ap (λ (s : Shape). reader_place c.args.user s.readers) (sym c.shape.ensures.same) ∙ (sym c.position.ensures.place ∙ c.in-Some.is) in
    read_lengthens c.args.self.now c.args.user c.args.name.now c.args.upto c.args.now c.in-Some.place c.receipt_to-receipt.result c.in_ok-marks.marks c.in_ok-read.read c.in_ok-next.next c.in_ok-change.change c.of_pointer.result there
    c.shape.ensures.is_conference.pointers.all c.receipt_to-receipt.ensures c.in_ok-marks.ensures c.in_ok-read.ensures c.in_ok-next.ensures c.in_ok-change.ensures.base c.in_ok-change.ensures.patches c.of_pointer.ensures.base c.of_pointer.ensures.patches

pub returns-clause-intent : goal.returns-clause-intent
returns-clause-intent c =
    let there : reader_place c.args.user c.args.self.now.shape.readers ≡ Some c.in-Some.place = ap (λ (s : Shape). reader_place c.args.user s.readers) (sym c.shape.ensures.same) ∙ (sym c.position.ensures.place ∙ c.in-Some.is) in
    read_suits c.args.self.now c.args.user c.args.name.now c.args.upto c.args.now c.in-Some.place c.receipt_to-receipt.result c.in_ok-marks.marks c.in_ok-read.read c.in_ok-next.next c.in_ok-change.change c.of_pointer.result there
    c.shape.ensures.is_conference.pointers.all c.receipt_to-receipt.ensures c.in_ok-marks.ensures c.in_ok-read.ensures c.in_ok-next.ensures c.in_ok-change.ensures.base c.in_ok-change.ensures.patches c.of_pointer.ensures.base c.of_pointer.ensures.patches
