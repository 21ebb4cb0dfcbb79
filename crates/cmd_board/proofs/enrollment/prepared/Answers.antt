use Rattle.std.proofs.Common.{rules, ◌≡◌, ◌+◌, Bool, Some, None, sym, ◌∙◌, ap}
use Rattle.board_layout.specs.Board.{Board}
use Rattle.cmd_words.specs.Choice.{ChoiceReads, chosen_from}
use Rattle.cmd_words.specs.declared.choice.Choice.{Choice}
use Rattle.mail_board.specs.declared.change.Change.TheVariants.{Enroll}
use Rattle.mail_board.specs.declared.loading.Loaded.TheVariants.{Ready}
use Rattle.cmd_board.specs.Enroll.{enroll_refusals, first_refusal, is_net_flag}
use Rattle.cmd_board.specs.Kept.{kept_board}
use Rattle.cmd_board.proofs.EnrollAlike.{may_alike, none_made, refused_alike}
use Rattle.cmd_board.proofs.enrollment.prepared.Goals as goal

pub returns-in_default : goal.returns-in_default
returns-in_default c board like =
    let none : kept_board c.args.kept.now ≡ None = search rules in
    none_made c.args.name.now c.args.flags.now c.args.conferences.now c.requires.choice.0 c.requires.choice.1 (kept_board c.args.kept.now) none board like

pub returns-in-Some-refusal_of : goal.returns-in-Some-refusal_of
returns-in-Some-refusal_of c board like =
    let held : Board = c.in-Some-Ready.board.board in
    let choice : Choice = c.in-Some.choice in
    let here : c.args.kept.now ≡ Some (Ready c.in-Some-Ready.board) = search rules in
    let reads : ChoiceReads c.args.conferences.now choice = search rules in
    refused_alike c.args.name.now c.args.flags.now c.args.conferences.now choice reads held (kept_board c.args.kept.now) (ap kept_board here) c.in-Some-refusal_of.refusal
    (ap (λ (n : Bool). first_refusal (enroll_refusals c.args.name.now n choice held)) (sym c.is_net-net.ensures) ∙ (sym c.refusal_of.ensures ∙ c.in-Some-refusal_of.is)) board like

pub returns : goal.returns
returns c board like =
    let held : Board = c.in-Some-Ready.board.board in
    let choice : Choice = c.in-Some.choice in
    let here : c.args.kept.now ≡ Some (Ready c.in-Some-Ready.board) = search rules in
    let reads : ChoiceReads c.args.conferences.now choice = search rules in
    let none : first_refusal (enroll_refusals c.args.name.now (is_net_flag c.args.flags.now) choice held) ≡ None =
    ap (λ (n : Bool). first_refusal (enroll_refusals c.args.name.now n choice held)) (sym c.is_net-net.ensures) ∙ (sym c.refusal_of.ensures ∙ c.in_default-refusal_of.is) in
    may_alike c.args.name.now c.args.flags.now c.args.conferences.now choice reads held (kept_board c.args.kept.now) (ap kept_board here)
    (record { change = c.in_ok-change.change; user = record { id = c.user_count.result + 1; name = c.in_ok-from_slice.field-0 } }) none
    (c.in_ok-change.ensures ∙ ap (λ (n : Bool). Enroll c.args.name.now n (chosen_from choice 0 held.ledger.setup.conferences)) c.is_net-net.ensures)
    (ap (λ n. n + 1) c.user_count.ensures) c.in_ok-from_slice.ensures board like
