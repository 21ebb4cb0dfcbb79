use Rattle.shelf_files.specs.ShelfFile.{file_within}
use Rattle.cmd_entries.proofs.Batches.{entries_unique}
use Rattle.cmd_entries.specs.Batch.{batch_limit}
use Rattle.cmd_entries.proofs.laws.one_list.Goals as goal

pub returns : goal.returns
returns c words shelf = entries_unique words (λ file. file_within shelf file batch_limit)
