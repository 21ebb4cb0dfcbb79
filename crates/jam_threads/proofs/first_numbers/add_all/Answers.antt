use Rattle.std.proofs.Common.{ℕ, List, ◌∙◌, ap, cond, ◌==◌, ◌&&◌}
use Rattle.std.specs.Prelude.{fold}
use Rattle.std.specs.Str.{bytes_eq}
use Rattle.id_numbers.specs.Numbers.{mapped_number}
use Rattle.jam_threads.specs.FirstNumbers.{number_or}
use Rattle.jam_threads.proofs.ChangeLemmas.{on_err}
use Rattle.jam_threads.proofs.FirstLoop.{looked_more, added_again}
use Rattle.jam_threads.proofs.first_numbers.add_all.Goals as goal

pub loop-one-preserved : goal.loop-one-preserved
loop-one-preserved c = λ id.
    let old = mapped_number c.loop-one.numbers id in
    looked_more id (mapped_number c.args.numbers.now id) c.args.newer.now c.loop-one.one-index old (mapped_number c.add.new.self id) c.one-item.result c.loop-one-test.true c.one-item.is (c.loop-one.invariant id)
    (c.in_ok-add.ensures.ok id ∙ ap (λ bytes. cond (old == 0 && bytes_eq bytes id) c.one-item.result.number old) (c.as_slice.ensures.same ∙ c.get.ensures))

pub returns-in_err-add-clause-err : goal.returns-in_err-add-clause-err
returns-in_err-add-clause-err c = on_err _ c.from_residual.result (λ (id : List ℕ).
    ap (λ (n : ℕ). fold (number_or id) n c.args.newer.now) (c.in_err-add.ensures.err id ∙ c.loop-one.invariant id)
    ∙ added_again id (mapped_number c.args.numbers.now id) c.args.newer.now c.loop-one.one-index)
