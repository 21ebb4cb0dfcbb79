use Rattle.jam_writing.proofs.SubfieldList.{seven_added}
use Rattle.jam_writing.proofs.message_subfields.add_subfields.Goals as goal

pub returns : goal.returns
returns c =
    seven_added c.args.message.now c.args.jhr.now c.add_value.new.jhr c.add_value-2.new.jhr c.add_value-3.new.jhr c.add_value-4.new.jhr c.add_value-5.new.jhr c.add_value-6.new.jhr c.add_value-7.new.jhr
    c.in_ok-add_value.ensures c.in_ok-add_value-2.ensures c.in_ok-add_value-3.ensures c.in_ok-add_value-4.ensures c.in_ok-add_value-5.ensures c.in_ok-add_value-6.ensures c.in_ok-add_value-7.ensures
