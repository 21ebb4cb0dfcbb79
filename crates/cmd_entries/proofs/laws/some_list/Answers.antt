use Rattle.shelf_files.specs.ShelfFile.{file_within}
use Rattle.cmd_entries.proofs.SomeEntries.{some_entries}
use Rattle.cmd_entries.specs.Batch.{batch_limit}
use Rattle.cmd_entries.proofs.laws.some_list.Goals as goal

pub returns : goal.returns
returns c words shelf = some_entries words (λ file. file_within shelf file batch_limit)
