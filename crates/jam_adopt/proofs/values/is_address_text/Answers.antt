use Rattle.jam_layout.proofs.AddressLaws.{test_of}
use Rattle.jam_adopt.proofs.values.is_address_text.Goals as goal

pub returns : goal.returns
returns c = test_of c.args.text.now c.address_text.result c.address_text.ensures
