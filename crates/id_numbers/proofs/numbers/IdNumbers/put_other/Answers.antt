use Rattle.std.proofs.Common.{◌≡◌, ℕ, List, ap, cond, ◌∙◌, subst, true}
use Rattle.std.specs.Prelude.{unwrap_or}
use Rattle.std.specs.BTreeMap.{get, get_by}
use Rattle.std.specs.Cmp.Lexicographic.{slice_cmp, bytes_decides}
use Rattle.std.specs.Ordering.{nat_cmp}
use Rattle.std.specs.Str.{bytes_eq}
use Rattle.id_numbers.specs.Mix.{mix_of}
use Rattle.id_numbers.specs.Numbers.{mapped_number, number_here, either_number}
use Rattle.id_numbers.proofs.ByteMaps.{number_updates}
use Rattle.id_numbers.proofs.NumberLemmas.{other_put}
use Rattle.id_numbers.proofs.numbers.IdNumbers.put_other.Goals as goal

pub returns-clause-ok : goal.returns-clause-ok
unfolding mapped_number
returns-clause-ok c = λ other.
    let here : ℕ = number_here other (get nat_cmp c.args.self.now.firsts (mix_of other)) in
    let old : ℕ = unwrap_or (get_by (λ key. slice_cmp nat_cmp other key.items) c.args.self.now.others) 0 in
    let put = number_updates (λ key. key.items) c.in_ok-key.key.items c.args.self.now.others c.insert.new.self c.args.number c.in_ok-insert.ensures.updates other
    ∙ ap (λ (id : List ℕ). cond (bytes_eq id other) c.args.number old) c.in_ok-key.ensures.items in
    let none : bytes_eq c.args.id.now other ≡ true → either_number old here ≡ 0 = λ same.
    subst (λ (id : List ℕ). mapped_number c.args.self.now id ≡ 0) ((bytes_decides c.args.id.now other).0 same) c.requires in
    ap (λ (n : ℕ). either_number n here) put ∙ other_put (bytes_eq c.args.id.now other) c.args.number old here none
