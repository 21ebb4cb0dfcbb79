use Rattle.std.proofs.Common.{◌≡◌, ◌++◌, drop}
use Rattle.mail_intake.proofs.TallyLaws.{slot_counts}
use Rattle.mail_intake.proofs.tally.Tally.new.Given as goal

-- the counts so far, and those of the bases that are left
abbrev pub invariant-loop-base : goal.invariant-loop-base
invariant-loop-base l = l.slots ++ slot_counts (drop l.base-index l.base-items) ≡ slot_counts l.base-items
