use Rattle.std.proofs.Common.{◌≡◌, length, map, take}
use Rattle.std.specs.List.{All}
use Rattle.offline_writer.specs.Drafts.{entry_draft}
use Rattle.offline_writer.specs.Fitting.{FitsQwk}
use Rattle.offline_writer.proofs.composing.draft_entries.Given as goal

-- the drafts of the entries so far, which fit
abbrev pub invariant-loop-entry : goal.invariant-loop-entry
invariant-loop-entry l = record {
  all : l.entry-items ≡ l.entries;
  count : length l.drafts ≡ l.entry-index;
  drafts : l.drafts ≡ map (entry_draft l.control l.conference l.now) (take l.entry-index l.entry-items);
  fit : All FitsQwk l.drafts;
}
