use Rattle.std.proofs.Common.{[], ◌++◌, length, length-append, refl, sym, ap, ◌∙◌, subst, arith}
use Rattle.std.proofs.lemmas.Result.{err_from_is_err_and}
use Rattle.fts_packet.specs.Packet.{PackedMessagesRead}
use Rattle.fts_packet.specs.Fault.{FtsFault}
use Rattle.fts_packet.specs.Answer.{FtsFaultOrMemory}
use Rattle.fts_packet.proofs.Messages.{own, own_more, rest_shorter, message_reads, messages_push, whole_more, fault_here}
use Rattle.fts_packet.proofs.read.packet_in.Goals as goal

pub returns-in_err-header : goal.returns-in_err-header
returns-in_err-header c =
    let p = err_from_is_err_and c.from_residual.result c.from_residual.ensures.1 in
    rw (p.1, p.2) c.in_err-header.ensures

pub loop-header-init : goal.loop-header-init
loop-header-init c = record {
  before = [];
  whole = c.in_ok-header.ensures.whole;
  read = subst (PackedMessagesRead c.in_ok-header.header.now []) (sym c.new-packet.ensures) refl;
}

pub loop-header-smaller : goal.loop-header-smaller
loop-header-smaller c = rest_shorter c.loop-header.rest.now c.in-Ok.parts c.in-Ok.ensures

pub message_of-requires-clause-header : goal.message_of-requires-clause-header
message_of-requires-clause-header c = c.in_ok-header.ensures.headed.size

pub message_of-requires-clause-front : goal.message_of-requires-clause-front
message_of-requires-clause-front c = c.in-Ok.ensures.front.size

pub breaks-requires-clause-within : goal.breaks-requires-clause-within
breaks-requires-clause-within c =
    let h = c.loop-header.invariant in
    omega (arith, ap length h.whole, length-append c.in_ok-header.header.now (h.before ++ c.loop-header.rest.now), length-append h.before c.loop-header.rest.now)

pub returns-in-Err : goal.returns-in-Err
returns-in-Err c =
    let h = c.loop-header.invariant in
    subst (FtsFaultOrMemory (FtsFault c.args.bytes.now)) (sym c.breaks.ensures)
    (fault_here c.args.bytes.now c.in_ok-header.header.now h.before c.loop-header.rest.now c.loop-header.packet c.in-Err.rule h.whole c.in_ok-header.ensures.headed h.read
    (sym c.is_end.ensures ∙ c.loop-header-test.true) c.in-Err.ensures)

pub loop-header-preserved : goal.loop-header-preserved
loop-header-preserved c =
    let h = c.loop-header.invariant in
    let header = c.in_ok-header.header.now in
    let rest = c.loop-header.rest.now in
    let parts = c.in-Ok.parts in
    let one = message_reads header rest parts c.in_ok-message_of.field-0 c.in-Ok.ensures c.in_ok-message_of.ensures in
    record {
      before = h.before ++ own parts;
      whole = whole_more c.args.bytes.now header h.before rest (own parts) parts.rest.now h.whole (own_more rest parts c.in-Ok.ensures);
      read = subst (PackedMessagesRead header (h.before ++ own parts)) (sym c.in_ok-add.ensures.ok) (messages_push header h.before (own parts) c.loop-header.packet c.in_ok-message_of.field-0 h.read one);
    }

pub returns : goal.returns
returns c =
    let h = c.loop-header.invariant in
    record {
      header = c.in_ok-header.header.now;
      body = h.before;
      rest = c.loop-header.rest.now;
      whole = h.whole;
      headed = c.in_ok-header.ensures.headed;
      each = h.read;
      ended = sym c.is_end.ensures ∙ c.loop-header-test.false;
    }
