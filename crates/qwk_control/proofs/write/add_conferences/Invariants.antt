use Rattle.std.proofs.Common.{◌≡◌, ◌++◌, take}
use Rattle.text_fields.specs.Lines.{text_of_lines}
use Rattle.qwk_control.specs.Written.{conference_lines}
use Rattle.qwk_control.proofs.write.add_conferences.Given as goal

abbrev pub invariant-loop-number : goal.invariant-loop-number
invariant-loop-number l = record {
  all : l.number-items ≡ l.conferences;
  text : l.out ≡ l.fn.out ++ text_of_lines (conference_lines (take l.number-index l.number-items));
}
