use Rattle.std.proofs.Common.{arith, sym, subst}
use Rattle.setup_file.specs.Valid.{IsSetupConference}
use Rattle.board_ledger.specs.Conferences.{conference_text}
use Rattle.board_ledger.proofs.SetupBounds.{name_small}
use Rattle.board_ledger.proofs.SizeLaws.{one_more, conference_length}
use Rattle.board_ledger.proofs.size.conferences_size.Goals as goal

pub text_size-requires : goal.text_size-requires
text_size-requires c =
    let item = subst IsSetupConference (sym c.conference-item.is) (c.requires.each c.loop-conference.conference-index c.conference-item.result (omega arith)) in
    omega (arith, name_small c.conference-item.result.name item.name)

pub overflow_add-size : goal.overflow_add-size
overflow_add-size c =
    let item = subst IsSetupConference (sym c.conference-item.is) (c.requires.each c.loop-conference.conference-index c.conference-item.result (omega arith)) in
    omega (arith, name_small c.conference-item.result.name item.name)

pub overflow_add-size-in-loop-conference : goal.overflow_add-size-in-loop-conference
overflow_add-size-in-loop-conference c =
    let item = subst IsSetupConference (sym c.conference-item.is) (c.requires.each c.loop-conference.conference-index c.conference-item.result (omega arith)) in
    omega (arith, name_small c.conference-item.result.name item.name)

pub loop-conference-preserved : goal.loop-conference-preserved
loop-conference-preserved c =
    let item = subst IsSetupConference (sym c.conference-item.is) (c.requires.each c.loop-conference.conference-index c.conference-item.result (omega arith)) in
    let small = name_small c.conference-item.result.name item.name in
    record {
      so_far = omega (arith, one_more conference_text c.args.conferences.now c.loop-conference.conference-index c.conference-item.result (omega arith) c.conference-item.is, conference_length c.conference-item.result);
      small = omega arith;
    }
