use Rattle.cmd_adopt.proofs.StepLaws.{none_adopted}
use Rattle.cmd_adopt.proofs.adopted.Adopted.new.Goals as goal

pub returns : goal.returns
returns c conference place = record {
  so_far = none_adopted conference place c.args.board.now c.new-2.result c.in_ok-new.field-0.posts c.new-2.ensures c.in_ok-new.ensures.none;
  tally = c.in_ok-new.ensures.tally;
}
