use Rattle.std.proofs.Common.{sym, eqb}
use Rattle.std.proofs.lemmas.Iterator.Adapters.{position_from-zero}
use Rattle.jam_layout.specs.declared.reader.Reader.{Reader}
use Rattle.jam_layout.proofs.reader_list.Readers.position.Goals as goal

pub loop-place-init : goal.loop-place-init
loop-place-init c = sym (position_from-zero (λ (reader : Reader). eqb reader.id c.args.id) c.args.self.now)
