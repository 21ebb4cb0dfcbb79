use Rattle.mail_board.proofs.fits.size_with_packet.Goals as goal

pub returns : goal.returns
returns c user refused = c.size_with_upload.ensures user c.args.digest.now refused c.told-digest
