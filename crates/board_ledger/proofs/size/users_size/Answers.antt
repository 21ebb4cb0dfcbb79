use Rattle.std.proofs.Common.{arith, sym, subst}
use Rattle.board_ledger.specs.Users.{user_text, IsUser}
use Rattle.open_offers.specs.declared.version.Version.TheVariants.{Second}
use Rattle.board_ledger.proofs.SetupBounds.{user_small}
use Rattle.board_ledger.proofs.SizeLaws.{behind_most, one_more, user_length}
use Rattle.board_ledger.proofs.size.users_size.Goals as goal

pub text_size-requires : goal.text_size-requires
text_size-requires c =
    let item = subst (IsUser c.args.conferences) (sym c.user-item.is) (c.requires.each c.loop-user.user-index c.user-item.result (omega arith)) in
    omega (arith, user_small c.user-item.result.name item.name, behind_most Second c.args.conferences c.requires.conferences)

pub overflow_add-size : goal.overflow_add-size
overflow_add-size c =
    let item = subst (IsUser c.args.conferences) (sym c.user-item.is) (c.requires.each c.loop-user.user-index c.user-item.result (omega arith)) in
    omega (arith, user_small c.user-item.result.name item.name, behind_most Second c.args.conferences c.requires.conferences)

pub overflow_add-size-in-loop-user : goal.overflow_add-size-in-loop-user
overflow_add-size-in-loop-user c =
    let item = subst (IsUser c.args.conferences) (sym c.user-item.is) (c.requires.each c.loop-user.user-index c.user-item.result (omega arith)) in
    omega (arith, user_small c.user-item.result.name item.name, behind_most Second c.args.conferences c.requires.conferences)

pub loop-user-preserved : goal.loop-user-preserved
loop-user-preserved c =
    let item = subst (IsUser c.args.conferences) (sym c.user-item.is) (c.requires.each c.loop-user.user-index c.user-item.result (omega arith)) in
    let small = user_small c.user-item.result.name item.name in
    record {
      so_far = omega (
        arith,
        one_more (user_text Second c.args.conferences) c.args.users.now c.loop-user.user-index c.user-item.result (omega arith) c.user-item.is,
        user_length Second c.args.conferences c.user-item.result item,
      );
      small = omega (arith, small, behind_most Second c.args.conferences c.requires.conferences);
    }
