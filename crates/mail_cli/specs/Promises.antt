-- What a run promises from a host and a shelf as they are at its entry, in one.
use Rattle.std.specs.Prelude.{ℕ, List}
use Rattle.door_outside.specs.Disk.{Disk}
use Rattle.door_outside.specs.Shelf.{ShelfFiles}
use Rattle.entry_runs.specs.Promise.{FaultCounts}
use Rattle.entry_runs.specs.declared.status.Status.{Status}
use Rattle.mail_cli.specs.CommandBound.{RunKeepsBound}
use Rattle.mail_cli.specs.Histories.{RunContinues}
use Rattle.mail_cli.specs.Passages.{IsOnePassage, RunJoins, begun}
use Rattle.mail_cli.specs.Run.{RunEnds, RunSurvives, RunCompletes, NeverSpoils}

-- Of these words, from these counts of faults, host and shelf to those at exit.
pub record RunPromises (now : ℕ) (words : List (List ℕ)) (before after : FaultCounts) (result : Status) (old new : Disk) (shelf later : ShelfFiles) : Type 0 where
  -- the run is whole, or cut short, or couldn't read its entries
  pub ends : RunEnds now words result old new shelf later
  -- what a crash at any moment leaves
  pub survives : RunSurvives now words old new shelf
  -- a history that leads to the board at entry goes on with some of the entries
  pub continues : RunContinues now words old new shelf
  -- the run is one passage
  pub passage : IsOnePassage (begun now words shelf) old new result later
  -- it stands behind the runs before it
  pub joins : RunJoins (begun now words shelf) old new
  -- files of no board or of a valid one are never damaged
  pub unspoiled : NeverSpoils old new
  -- where no count rose, the whole was done, or memory ran out
  pub completes : RunCompletes now words before after result old new shelf later
  -- one command that posts messages writes no more than its bound
  pub wrote : RunKeepsBound now words old new shelf
