use Rattle.jam_layout.proofs.AddressLaws.{test_of}
use Rattle.slot_changes.proofs.value.is_stored_address.Goals as goal

pub returns : goal.returns
returns c = test_of c.args.text.now c.address_text.result c.address_text.ensures
