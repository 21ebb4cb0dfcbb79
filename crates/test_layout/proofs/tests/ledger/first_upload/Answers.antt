use Rattle.std.proofs.Common.{rules, ◌≡◌, length}
use Rattle.test_layout.proofs.Uploads.{of_second, with_first}
use Rattle.test_layout.proofs.tests.ledger.first_upload.Goals as goal

pub upload_patches-requires-clause-ledger : goal.upload_patches-requires-clause-ledger
upload_patches-requires-clause-ledger c = of_second c.args.ledger.now c.requires.ledger (search rules)

pub upload_patches-requires-clause-longer : goal.upload_patches-requires-clause-longer
upload_patches-requires-clause-longer c =
    let count : length c.args.ledger.now.uploads ≡ 0 = search rules in
    let users : length c.args.ledger.now.users ≡ length c.args.other.now.users = search rules in
    let ledger = of_second c.args.ledger.now c.requires.ledger (search rules) in
    let other = of_second c.args.other.now c.requires.other (search rules) in
    with_first c.args.ledger.now c.args.other.now _ ledger other count users (search rules)
