use Rattle.door_upload.proofs.OneUpload.{one_upload}
use Rattle.door_upload.proofs.laws.one_upload.Goals as goal

pub returns : goal.returns
returns c = one_upload
