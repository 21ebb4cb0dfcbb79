use Rattle.std.proofs.Common.{ℕ, List, ◌∙◌, ◌==◌, ◌&&◌, ap, cond}
use Rattle.std.specs.Prelude.{fold}
use Rattle.std.specs.Str.{bytes_eq}
use Rattle.std.proofs.lemmas.List.Sums.{fold_push}
use Rattle.jam_threads.specs.FirstNumbers.{kept_number, number_or, older_number}
use Rattle.jam_threads.specs.declared.first_numbers.IdNumber.{IdNumber}
use Rattle.jam_threads.proofs.ChangeLemmas.{on_ok}
use Rattle.jam_threads.proofs.first_numbers.FirstNumbers.push.Goals as goal

pub returns-clause-ok : goal.returns-clause-ok
unfolding kept_number
returns-clause-ok c = on_ok _ _ c.add.result (λ added other.
    let old : ℕ = kept_number c.args.self.now other in
    ap (λ (newer : List IdNumber). fold (number_or other) (older_number c.args.self.now.older other) newer) added
    ∙ (fold_push (number_or other) (older_number c.args.self.now.older other) c.args.self.now.newer (record { id = c.in_ok-id.id; number = c.args.number })
    ∙ ap (λ (id : List ℕ). cond (old == 0 && bytes_eq id other) c.args.number old) (c.in_ok-id.ensures ∙ c.in_ok-from_slice.ensures))) c.add.ensures.ok
