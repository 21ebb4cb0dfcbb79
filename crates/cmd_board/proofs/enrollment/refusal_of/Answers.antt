use Rattle.std.proofs.Common.{rules, ◌≡◌, ◌<◌, ◌^◌, true, sym, subst}
use Rattle.board_layout.specs.Layout.{board_size}
use Rattle.mail_board.specs.Changes.{changed, Exists}
use Rattle.mail_board.specs.declared.change.Change.{Change}
use Rattle.setup_file.specs.Texts.{is_user_name}
use Rattle.cmd_board.proofs.EnrollLaws.{places_exist, size_short}
use Rattle.cmd_board.proofs.enrollment.refusal_of.Goals as goal

pub size_refusal-requires-clause-exists : goal.size_refusal-requires-clause-exists
size_refusal-requires-clause-exists c =
    subst (λ (change : Change). Exists change c.args.board.now.board) (sym c.requires) (places_exist c.args.board.now.board c.args.choice.now c.setup.ensures.valid)

pub size_refusal-requires-clause-short : goal.size_refusal-requires-clause-short
size_refusal-requires-clause-short c =
    let named : is_user_name c.args.name.now ≡ true = search rules in
    subst (λ (change : Change). board_size (changed change c.args.board.now.board) < 2 ^ 64) (sym c.requires) (size_short c.args.board.now.board c.args.name.now c.args.net _ c.setup.ensures.valid named)
