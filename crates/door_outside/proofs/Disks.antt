-- Disks of which nothing changes.
use Rattle.std.proofs.Common.{refl, ◌∙◌}
use Rattle.door_outside.specs.Disk.{Disk, Unchanged}

pub unchanged_twice : (old mid new : Disk) → Unchanged old mid → Unchanged mid new → Unchanged old new
unchanged_twice old mid new first second = record {
  files = second.files ∙ first.files;
  said = second.said ∙ first.said;
  clock = second.clock ∙ first.clock;
  wrote = second.wrote ∙ first.wrote;
  leaves = λ t image left. first.leaves t image (second.leaves t image left);
  left = λ t image left. second.left t image (first.left t image left);
}

pub unchanged_none : (disk : Disk) → Unchanged disk disk
unchanged_none disk = record { files = refl; said = refl; clock = refl; wrote = refl; leaves = λ t image left. left; left = λ t image left. left }
