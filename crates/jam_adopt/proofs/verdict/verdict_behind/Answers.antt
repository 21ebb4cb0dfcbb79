use Rattle.std.proofs.Common.{sym}
use Rattle.jam_adopt.proofs.FirstRules.{right_fields, refused_fields, refused_text, refused_length, taken_message}
use Rattle.jam_adopt.proofs.verdict.verdict_behind.Goals as goal

pub returns-then-wrong_fields : goal.returns-then-wrong_fields
returns-then-wrong_fields c = refused_fields c.args.jhr.now c.args.jdt.now c.args.offset c.args.header.now (sym c.if-wrong_fields.ensures)

pub returns-in_default : goal.returns-in_default
returns-in_default c = refused_text c.args.jhr.now c.args.jdt.now c.args.offset c.args.header.now (sym c.if-wrong_fields.ensures) c.in_default.ensures

pub returns-then-is_long : goal.returns-then-is_long
returns-then-is_long c =
    refused_length c.args.jhr.now c.args.jdt.now c.args.offset c.args.header.now c.in-Some.text.now (sym c.if-wrong_fields.ensures) c.in-Some.ensures.0 c.in-Some.ensures.1 (sym c.if-is_long.ensures)

pub message_of-requires-clause-within : goal.message_of-requires-clause-within
message_of-requires-clause-within c = (right_fields c.args.jhr.now c.args.offset c.args.header.now (sym c.if-wrong_fields.ensures)).0

pub returns : goal.returns
returns c =
    taken_message c.args.jhr.now c.args.jdt.now c.args.offset c.args.header.now c.in-Some.text.now c.in_ok-message.message (sym c.if-wrong_fields.ensures) c.in-Some.ensures.0 c.in-Some.ensures.1 (sym c.if-is_long.ensures) c.in_ok-message.ensures
