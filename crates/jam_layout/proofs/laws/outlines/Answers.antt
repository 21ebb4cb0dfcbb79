use Rattle.jam_layout.proofs.OutlineLaws.{one_outline, same_outline, conference_outline, files_outline, jdt_outline}
use Rattle.jam_layout.proofs.laws.outlines.Goals as goal

pub returns : goal.returns
returns c = record {
  alike = λ a b. (one_outline a b, same_outline a b);
  conference = conference_outline;
  files = files_outline;
  long = jdt_outline;
}
