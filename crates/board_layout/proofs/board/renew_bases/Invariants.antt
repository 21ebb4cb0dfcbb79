use Rattle.std.proofs.Common.{◌≡◌, vec_len}
use Rattle.board_layout.specs.Renewed.{renewed}
use Rattle.board_layout.proofs.board.renew_bases.Given as goal

-- what the bases that are left still make of these is what all make of the old ones
abbrev pub invariant-loop-new : goal.invariant-loop-new
invariant-loop-new l = renewed l.olds l.news.items ≡ renewed l.initial.olds l.initial.news.items

abbrev pub decreases-loop-new : goal.decreases-loop-new
decreases-loop-new l = vec_len l.news
