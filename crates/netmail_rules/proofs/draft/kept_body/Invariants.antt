use Rattle.std.proofs.Common.{◌≡◌, take}
use Rattle.netmail_rules.specs.Draft.{kept_body}
use Rattle.netmail_rules.proofs.draft.kept_body.Given as goal

-- the lines so far were added
abbrev pub invariant-loop-line : goal.invariant-loop-line
invariant-loop-line l = l.body ≡ kept_body (take l.line-index l.lines)
