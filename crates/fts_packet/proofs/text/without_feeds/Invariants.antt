use Rattle.std.proofs.Common.{◌≡◌, ◌++◌, length}
use Rattle.fts_packet.specs.Text.{without_feeds}
use Rattle.fts_packet.proofs.text.without_feeds.Given as goal

-- what is left comes behind what was kept
abbrev pub invariant-loop-front : goal.invariant-loop-front
invariant-loop-front l = l.kept ++ without_feeds l.left ≡ without_feeds l.text

abbrev pub decreases-loop-front : goal.decreases-loop-front
decreases-loop-front l = length l.left
