use Rattle.std.proofs.Common.{refl}
use Rattle.jam_layout.specs.SecondPass.{slots_of}
use Rattle.jam_layout.proofs.NumberedLaws.{few_entries, all_within}
use Rattle.jam_layout.proofs.second_pass.check.Goals as goal

pub check_links-requires-clause-count : goal.check_links-requires-clause-count
check_links-requires-clause-count c = few_entries c.args.entries.now c.requires.numbered

pub check_links-requires-clause-within : goal.check_links-requires-clause-within
check_links-requires-clause-within c = all_within c.args.entries.now (slots_of 1 c.args.entries.now) refl c.requires.numbered
