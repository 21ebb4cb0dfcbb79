use Rattle.std.proofs.Common.{◌≡◌, ℕ, List, ap, ◌∙◌}
use Rattle.std.specs.Prelude.{unwrap_or}
use Rattle.std.specs.BTreeMap.{is_at, get, get_by}
use Rattle.std.specs.Cmp.Lexicographic.{slice_cmp}
use Rattle.std.specs.Ordering.{nat_cmp}
use Rattle.id_numbers.specs.Mix.{mix_of}
use Rattle.id_numbers.specs.Numbers.{mapped_number, number_here, either_number}
use Rattle.id_numbers.proofs.ByteMaps.{number_copied, same_items}
use Rattle.id_numbers.proofs.NumberLemmas.{here_copied}
use Rattle.id_numbers.proofs.numbers.IdNumbers.copy.Goals as goal

pub returns : goal.returns
unfolding mapped_number
returns c = λ id.
    let here : ℕ = number_here id (get nat_cmp c.in_ok-clone.field-0 (mix_of id)) in
    let other : ℕ = unwrap_or (get_by (λ key. slice_cmp nat_cmp id key.items) c.args.self.now.others) 0 in
    ap (λ (n : ℕ). either_number n here) (number_copied (λ key. key.items) c.args.self.now.others c.in_ok-clone-2.field-0 c.in_ok-clone-2.ensures.cases (λ x y same. same_items x.items y.items same.0) (λ n m same. same) id)
    ∙ ap (λ (n : ℕ). either_number other n) (here_copied (is_at (nat_cmp (mix_of id))) _ _ (λ x y same. same) (λ x y same. (same_items x.id.items y.id.items same.0.0, same.1)) id c.args.self.now.firsts.entries c.in_ok-clone.field-0.entries c.in_ok-clone.ensures.cases)
