use Rattle.std.proofs.Common.{◌∙◌, sym, ap, Some, List, ℕ}
use Rattle.door_outside.specs.Shelf.{held}
use Rattle.memory_outside.specs.MemoryShelf.{Shelved}
use Rattle.memory_outside.proofs.Maps.{get-files_of}
use Rattle.memory_outside.proofs.memory_shelf.MemoryShelf.get.Goals as goal

pub returns-in-Some : goal.returns-in-Some
returns-in-Some c =
    ap (λ (l : List ℕ). Some l) c.as_slice.ensures.same
    ∙ (c.in-Some.ensures {u = tt {0}}).value ∙ sym (get-files_of c.self.inside.files c.args.name.now) ∙ ap (λ (s : Shelved). held s.files c.args.name.now) c.self.view_is

pub returns-in-None : goal.returns-in-None
returns-in-None c =
    c.in-None.ensures.value ∙ sym (get-files_of c.self.inside.files c.args.name.now) ∙ ap (λ (s : Shelved). held s.files c.args.name.now) c.self.view_is
