use Rattle.std.proofs.Common.{refl, sym, ◌∙◌, arith}
use Rattle.fts_packet.specs.Fault.{too_short, other_type}
use Rattle.fts_packet.proofs.read.header_of.Goals as goal

pub returns-then-bytes-lt-HEADER : goal.returns-then-bytes-lt-HEADER
returns-then-bytes-lt-HEADER c = too_short (omega arith) refl refl

pub returns-then-u16_at-ne2 : goal.returns-then-u16_at-ne2
returns-then-u16_at-ne2 c =
    let s = c.split_at.ensures in
    other_type c.split_at.result.0.now c.split_at.result.1.now s.by_index.0 s.front_len (λ e. omega (arith, e, c.u16_at.ensures)) refl refl

pub returns : goal.returns
returns c =
    let s = c.split_at.ensures in
    record {
      whole = s.by_index.0;
      headed = record { size = s.front_len; kind = sym c.u16_at.ensures ∙ omega arith };
    }
