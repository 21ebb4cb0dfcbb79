use Rattle.cmd_adopt.proofs.StepLaws.{may_take}
use Rattle.cmd_adopt.proofs.adopted.Adopted.take.Goals as goal

pub add-requires-clause-takes : goal.add-requires-clause-takes
add-requires-clause-takes c =
    may_take c.args.board.now c.args.target.place c.conference_of-conference.result.now c.args.message c.kept_in-message.result c.conference_of-conference.ensures c.kept_in-message.ensures.kept c.requires.right c.kept_in-message.ensures.typed
