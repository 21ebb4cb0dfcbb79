use Rattle.std.proofs.Common.{◌≡◌, ◌∙◌, ℕ, List, length, ap}
use Rattle.jam_writing.specs.jam_layout.declared.shape.Shape.{Shape}
use Rattle.jam_base.specs.Contents.{Contents, with_reader}
use Rattle.jam_base.proofs.OutlineChanges.{joined_each}
use Rattle.jam_base.proofs.ReaderPuts.{joined_turns, joined_lengthens, joined_suits}
use Rattle.jam_base.proofs.base.Base.joined.Goals as goal

pub returns-clause-files : goal.returns-clause-files
returns-clause-files c =
    let base : Contents = c.args.self.now in
    let place : c.len-place.result ≡ length base.shape.readers = c.len-place.ensures.count ∙ ap (λ (s : Shape). length s.readers) c.shape.ensures.same in
    joined_turns base c.args.user c.in_ok-name.name c.write_reader-record.result c.len-place.result c.in_ok-base.base c.of_record.result c.shape.ensures.is_conference.pointers.all
    c.write_reader-record.ensures place c.in_ok-base.ensures c.of_record.ensures.base c.of_record.ensures.patches

pub returns-clause-bodies : goal.returns-clause-bodies
returns-clause-bodies c =
    let base : Contents = c.args.self.now in
    let place : c.len-place.result ≡ length base.shape.readers = c.len-place.ensures.count ∙ ap (λ (s : Shape). length s.readers) c.shape.ensures.same in
    joined_lengthens base c.args.user c.in_ok-name.name c.write_reader-record.result c.len-place.result c.in_ok-base.base c.of_record.result c.shape.ensures.is_conference.pointers.all
    c.write_reader-record.ensures place c.in_ok-base.ensures c.of_record.ensures.base c.of_record.ensures.patches

pub returns-clause-intent : goal.returns-clause-intent
returns-clause-intent c =
    let base : Contents = c.args.self.now in
    let place : c.len-place.result ≡ length base.shape.readers = c.len-place.ensures.count ∙ ap (λ (s : Shape). length s.readers) c.shape.ensures.same in
    joined_suits base c.args.user c.in_ok-name.name c.write_reader-record.result c.len-place.result c.in_ok-base.base c.of_record.result c.shape.ensures.is_conference.pointers.all
    c.write_reader-record.ensures place c.in_ok-base.ensures c.of_record.ensures.base c.of_record.ensures.patches

pub returns-clause-each : goal.returns-clause-each
returns-clause-each c =
    let base : Contents = c.args.self.now in
    let made : c.in_ok-base.base ≡ with_reader c.args.user c.args.name.now base = c.in_ok-base.ensures ∙ ap (λ (name : List ℕ). with_reader c.args.user name base) c.in_ok-name.ensures in
    joined_each base c.in_ok-base.base c.of_record.result c.of_record.ensures.base (returns-clause-files c) (returns-clause-bodies c) c.args.user c.args.name.now made
