use Rattle.std.proofs.Common.{ℕ, ◌+◌, ◌*◌, ◌-◌, ◌++◌, List, length, ap, ◌∙◌, sym, append_assoc}
use Rattle.std.specs.Prelude.{replicate}
use Rattle.std.specs.List.{flat_map}
use Rattle.record_numbers.specs.Numbers.{u32s_text}
use Rattle.open_offers.specs.Offers.{cell_text}
use Rattle.open_offers.proofs.CellTests.{cells_text}
use Rattle.open_offers.proofs.WritingLaws.{on_ok}
use Rattle.open_offers.proofs.cells.add_cells.Goals as goal

pub returns : goal.returns
returns c =
    let offers = c.args.offers.now in
    let count = c.args.conferences in
    on_ok c.add_zeros.result _ _ c.add_zeros.ensures (λ last.
    last
    ∙ (ap (λ (xs : List ℕ). xs ++ u32s_text (replicate ((4 - length offers) * (1 + c.from.result)) 0)) c.in_ok-add_offers.ensures
    ∙ (append_assoc c.args.out.now (flat_map cell_text offers) (u32s_text (replicate ((4 - length offers) * (1 + c.from.result)) 0))
    ∙ ap (λ (xs : List ℕ). c.args.out.now ++ xs) (ap (λ (n : ℕ). flat_map cell_text offers ++ u32s_text (replicate ((4 - length offers) * (1 + n)) 0)) c.from.ensures ∙ sym (cells_text count 4 offers c.requires)))))
