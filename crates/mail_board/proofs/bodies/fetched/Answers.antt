use Rattle.std.proofs.Common.{rules, ◌≡◌, ℕ, List, length, Some, Err, sym, ap, ◌∙◌, subst, arith}
use Rattle.std.specs.Prelude.{option_map}
use Rattle.board_layout.specs.Outlines.{HasBody}
use Rattle.board_layout.specs.declared.error.ReadError.TheVariants.{Damaged}
use Rattle.door_outside.specs.File.{jdt_file}
use Rattle.board_layout.specs.jam_base.Bodies.{body_begin}
use Rattle.board_layout.specs.jam_base.Contents.{Contents}
use Rattle.board_layout.specs.jam_base.Slots.{numbered}
use Rattle.jam_layout.specs.Bodies.{message_with}
use Rattle.jam_layout.specs.Messages.{IsBody}
use Rattle.jam_layout.specs.Outlines.{message_outline}
use Rattle.jam_records.specs.declared.message.Message.{Message}
use Rattle.jam_records.specs.declared.message.Slot.{Slot}
use Rattle.jam_records.specs.declared.message.Slot.TheVariants.{Held}
use Rattle.mail_board.proofs.BodyLaws.{body_lines, body_within, number_above, number_within, outline_stays, same_error, span_begins, span_length, span_short, span_there, whole, whole_of, Whole}
use Rattle.mail_board.specs.Bodies.{span_text}
use Rattle.mail_board.proofs.bodies.fetched.Goals as goal

pub unreachable-requires : goal.unreachable-requires
unreachable-requires g c =
    let one : Whole (numbered c.args.base.now.conference.slots c.args.number) c.args.message.now = whole_of (numbered c.args.base.now.conference.slots c.args.number) c.args.message.now c.requires.there in
    span_there c.args.base.now c.requires.base c.args.number one.message one.there (search rules)

-- ---- where the body is read
pub read_body-requires-clause-above : goal.read_body-requires-clause-above
read_body-requires-clause-above g c =
    let one : Whole (numbered c.args.base.now.conference.slots c.args.number) c.args.message.now = whole_of (numbered c.args.base.now.conference.slots c.args.number) c.args.message.now c.requires.there in
    number_above c.args.base.now c.requires.base c.args.number one.message one.there

pub read_body-requires-clause-within : goal.read_body-requires-clause-within
read_body-requires-clause-within g c =
    let one : Whole (numbered c.args.base.now.conference.slots c.args.number) c.args.message.now = whole_of (numbered c.args.base.now.conference.slots c.args.number) c.args.message.now c.requires.there in
    number_within c.args.base.now c.requires.base c.args.number one.message one.there

pub read_body-requires-clause-short : goal.read_body-requires-clause-short
read_body-requires-clause-short g c =
    let one : Whole (numbered c.args.base.now.conference.slots c.args.number) c.args.message.now = whole_of (numbered c.args.base.now.conference.slots c.args.number) c.args.message.now c.requires.there in
    span_short c.args.base.now c.requires.base c.args.number one.message one.there c.in-Some.span (search rules)

-- ---- what is read
pub returns-in_err-body-clause-undamaged : goal.returns-in_err-body-clause-undamaged
returns-in_err-body-clause-undamaged g c = λ tells other has damage e.
    let base : Contents = c.args.base.now in
    let one : Whole (numbered base.conference.slots c.args.number) c.args.message.now = whole_of (numbered base.conference.slots c.args.number) c.args.message.now c.requires.there in
    let m : Message = one.message in
    let file : List ℕ = (g.H.Host.disk c.args.host.now).files (jdt_file c.args.place) in
    let at = span_begins base c.requires.base c.args.number m one.there c.in-Some.span (search rules) in
    let len = span_length base c.requires.base c.args.number m one.there c.in-Some.span (search rules) in
    let within = body_within base other has.alike c.args.number m one.there file has.file in
    let lines : IsBody (span_text c.in-Some.span.at c.in-Some.span.len file) =
    subst IsBody (λ i. span_text (sym at i) (sym len i) file) (body_lines base other file has c.args.number m one.there) in
    let r : c.from_residual.result ≡ Err c.in_err-body.field-0.0 = search rules in
    c.in_err-body.ensures.undamaged tells (omega (arith, within, at, len)) lines damage (same_error (List ℕ) c.in_err-body.field-0.0 (Damaged damage) c.from_residual.result r e)

pub returns-clause-message : goal.returns-clause-message
returns-clause-message g c = λ tells other has.
    let base : Contents = c.args.base.now in
    let slots : List Slot = base.conference.slots in
    let one : Whole (numbered slots c.args.number) c.args.message.now = whole_of (numbered slots c.args.number) c.args.message.now c.requires.there in
    let m : Message = one.message in
    let file : List ℕ = (g.H.Host.disk c.args.host.now).files (jdt_file c.args.place) in
    let at = span_begins base c.requires.base c.args.number m one.there c.in-Some.span (search rules) in
    let len = span_length base c.requires.base c.args.number m one.there c.in-Some.span (search rules) in
    let within = body_within base other has.alike c.args.number m one.there file has.file in
    let text : c.in_ok-body.body ≡ span_text (body_begin c.args.number slots) (length m.body) file =
    c.in_ok-body.ensures.body tells (omega (arith, within, at, len)) ∙ (λ i. span_text (at i) (len i) file) in
    let made : c.in_ok-with_body.field-0 ≡ message_with m c.in_ok-body.body = c.in_ok-with_body.ensures ∙ ap (λ (x : Message). message_with x c.in_ok-body.body) one.bare in
    whole base other has.alike c.args.number m one.there file has.file c.in_ok-with_body.field-0 c.in_ok-body.body made text

pub returns-clause-outline : goal.returns-clause-outline
returns-clause-outline g c =
    let slots : List Slot = c.args.base.now.conference.slots in
    let one : Whole (numbered slots c.args.number) c.args.message.now = whole_of (numbered slots c.args.number) c.args.message.now c.requires.there in
    let len = span_length c.args.base.now c.requires.base c.args.number one.message one.there c.in-Some.span (search rules) in
    let made : c.in_ok-with_body.field-0 ≡ message_with one.message c.in_ok-body.body = c.in_ok-with_body.ensures ∙ ap (λ (x : Message). message_with x c.in_ok-body.body) one.bare in
    ap Some (outline_stays one.message c.in_ok-with_body.field-0 c.in_ok-body.body made (c.in_ok-body.ensures.long ∙ len)) ∙ ap (option_map message_outline) one.there

-- ---- its bytes are a body's
pub returns-clause-lines : goal.returns-clause-lines
returns-clause-lines g c = subst (λ (m : Message). HasBody (Held m)) (sym c.in_ok-with_body.ensures) (c.as_slice-bytes.ensures.bytes, c.in_ok-body.ensures.lines)
