use Rattle.std.proofs.Common.{◌≡◌, ◌++◌, ap, ◌∙◌}
use Rattle.std.specs.Prelude.{unwrap_or, []}
use Rattle.std.proofs.lemmas.Result.{on_ok_weaker, on_err_weaker}
use Rattle.std.specs.FinMap as map
use Rattle.memory_outside.specs.MemoryShelf.{Shelved}
use Rattle.door_outside.specs.Shelf.{held}
use Rattle.memory_outside.proofs.Maps.{files_of, added_in, kept_in, begun_in}
use Rattle.memory_outside.proofs.memory_shelf.MemoryShelf.extend.Goals as goal

pub returns-in-Some-clause-ok : goal.returns-in-Some-clause-ok
returns-in-Some-clause-ok c = on_ok_weaker c.add.result (λ is.
    let files : files_of (c.get_mut.follows.lender c.add.new.self) ≡ map.insert c.args.self.now.files c.args.name.now (unwrap_or (held c.args.self.now.files c.args.name.now) [] ++ c.args.bytes.now) =
    added_in c.self.inside.files (c.get_mut.follows.lender c.add.new.self) c.args.name.now c.in-Some.file.now c.add.new.self c.args.bytes.now c.args.self.now.files (ap (λ (s : Shelved). s.files) c.self.view_is) (c.in-Some.ensures {u = tt {0}}).value is (c.get_mut.follows.holds c.add.new.self) in
    λ i. record { files = files i; faults = (c.self.view_is i).faults; counts = (c.self.view_is i).counts }) c.add.ensures.ok

pub returns-in-Some-clause-err : goal.returns-in-Some-clause-err
returns-in-Some-clause-err c = on_err_weaker c.add.result (λ is.
    let files : files_of (c.get_mut.follows.lender c.add.new.self) ≡ c.args.self.now.files =
    kept_in c.self.inside.files (c.get_mut.follows.lender c.add.new.self) c.args.name.now c.in-Some.file.now c.add.new.self c.args.self.now.files (ap (λ (s : Shelved). s.files) c.self.view_is) (c.in-Some.ensures {u = tt {0}}).value is (c.get_mut.follows.holds c.add.new.self) in
    λ i. record { files = files i; faults = (c.self.view_is i).faults; counts = (c.self.view_is i).counts }) c.add.ensures.err

pub returns-clause-ok : goal.returns-clause-ok
returns-clause-ok c = on_ok_weaker c.put.result (λ is.
    let files : map.insert (files_of c.get_mut.follows.lender-at-none) c.args.name.now c.args.bytes.now ≡ map.insert c.args.self.now.files c.args.name.now (unwrap_or (held c.args.self.now.files c.args.name.now) [] ++ c.args.bytes.now) =
    begun_in c.self.inside.files c.get_mut.follows.lender-at-none c.args.name.now c.args.bytes.now c.args.self.now.files (ap (λ (s : Shelved). s.files) c.self.view_is) c.get_mut.follows.holds-at-none (c.in_default.ensures {u = tt {0}}).value in
    is ∙ (λ i. record { files = files i; faults = (c.self.view_is i).faults; counts = (c.self.view_is i).counts })) c.put.ensures.ok
