-- Lists in chunks.
use Rattle.std.specs.Prelude.{◌≡◌, ◌≤◌, ◌<◌, ◌^◌, List, length, All}
use Rattle.std.specs.List.{flat_map}

-- the items of the chunks, one chunk after the other
abbrev pub joined : {X : Type 0} → List (List X) → List X
joined chunks = flat_map (λ chunk. chunk) chunks

-- the chunks of a list of at most 2^39 items, and the last items, which are at most one chunk
pub record AreChunks {X : Type 0} (chunks : List (List X)) (last : List X) : Type 0 where
  pub full : All (λ chunk. length chunk ≡ 128) chunks
  pub few : length chunks < 2 ^ 32
  pub short : length last ≤ 128
