-- What a set of msgids shows.
use Rattle.std.specs.Prelude.{ℕ, List, Bool, not, ◌==◌}
use Rattle.id_numbers.specs.Numbers.{mapped_number}
use Rattle.mail_intake.specs.declared.msgids.MsgidSet.{MsgidSet}

-- the msgid is one of them: it has a number
unfoldable pub has_id : MsgidSet → List ℕ → Bool
has_id set id = not (mapped_number set.ids id == 0)
