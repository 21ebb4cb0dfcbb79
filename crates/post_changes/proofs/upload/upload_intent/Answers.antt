use Rattle.std.proofs.Common.{[], sym, subst}
use Rattle.slot_changes.specs.board_changes.Gathered.{Joins}
use Rattle.post_changes.proofs.UploadLaws.{upload_joins}
use Rattle.post_changes.proofs.upload.upload_intent.Goals as goal

pub intent_with-requires : goal.intent_with-requires
intent_with-requires c = subst (Joins []) (sym c.in_ok-upload_patches.ensures.puts) (upload_joins c.args.ledger.now c.args.upload.now c.requires.ledger c.requires.longer)
