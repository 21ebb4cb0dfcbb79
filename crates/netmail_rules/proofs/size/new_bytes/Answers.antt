use Rattle.std.proofs.Common.{replicate, sym, ◌∙◌}
use Rattle.std.proofs.lemmas.List.{length-replicate}
use Rattle.netmail_rules.proofs.size.new_bytes.Goals as goal

pub returns : goal.returns
returns c = c.message_size.ensures (replicate c.args.msgid_len 0) (length-replicate c.args.msgid_len 0 ∙ sym c.from.ensures)
