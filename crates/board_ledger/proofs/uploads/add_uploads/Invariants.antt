use Rattle.std.proofs.Common.{◌≡◌, ◌++◌, take}
use Rattle.std.specs.List.{flat_map}
use Rattle.board_ledger.specs.Uploads.{upload_text}
use Rattle.board_ledger.proofs.uploads.add_uploads.Given as goal

-- the records so far were added
abbrev pub invariant-loop-upload : goal.invariant-loop-upload
invariant-loop-upload l = l.out ≡ l.initial.out ++ flat_map (upload_text) (take l.upload-index l.uploads)
