use Rattle.std.proofs.Common.{List, sym, ap, ◌∙◌, ◌++◌, subst}
use Rattle.board_changes.specs.Gathered.{Joins}
use Rattle.intent_journal.specs.declared.patch.Patch.{Patch}
use Rattle.board_changes.proofs.gathering.intent_with.Goals as goal

pub add_all-requires : goal.add_all-requires
add_all-requires c = subst (λ (intent : List Patch). Joins intent c.args.patches) (sym c.new-intent.ensures) c.requires

pub returns : goal.returns
returns c = c.in_ok-add_all.ensures ∙ ap (λ (intent : List Patch). intent ++ c.args.patches) c.new-intent.ensures
