use Rattle.std.proofs.Common.{◌≡◌, ◌<◌, ◌+◌, ◌^◌, drop, length}
use Rattle.cmd_words.specs.Choice.{chosen_from}
use Rattle.cmd_words.proofs.choice.Choice.places.Given as goal

-- the bits of the places so far, and those of the others
abbrev pub invariant-loop-place : goal.invariant-loop-place
invariant-loop-place l = record {
  all : l.places + chosen_from l.self l.place (drop l.place l.conferences) ≡ chosen_from l.self 0 l.conferences;
  small : l.places < 2 ^ l.place;
  end : l.place-end ≡ length l.conferences;
}
