use Rattle.std.proofs.Common.{not, ◌||◌, ap, ◌∙◌}
use Rattle.std.specs.Str.{bytes_eq}
use Rattle.board_ledger.specs.Met.{is_met}
use Rattle.board_ledger.proofs.MetLaws.{key_updates, not_not}
use Rattle.board_ledger.proofs.met.Met.add.Goals as goal

pub returns-clause-before : goal.returns-clause-before
unfolding is_met
returns-clause-before c = ap not c.in_ok-added.ensures.added ∙ (not_not _ ∙ ap (is_met c.args.self.now) c.in_ok-from_slice.ensures.items)

pub returns-clause-added : goal.returns-clause-added
unfolding is_met
returns-clause-added c = λ other.
    key_updates (λ key. key.items) c.in_ok-from_slice.field-0.items c.args.self.now.keys c.insert.new.self c.in_ok-added.ensures.updates other
    ∙ ap (λ key. bytes_eq key other || is_met c.args.self.now other) c.in_ok-from_slice.ensures.items
