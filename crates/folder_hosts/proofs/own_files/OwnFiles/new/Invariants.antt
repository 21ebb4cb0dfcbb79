use Rattle.std.proofs.Common.{◌≡◌, vec_len}
use Rattle.folder_hosts.proofs.own_files.OwnFiles.new.Given as goal

abbrev pub invariant-loop-number : goal.invariant-loop-number
invariant-loop-number l = vec_len l.paths ≡ l.number
