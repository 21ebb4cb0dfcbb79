-- .JDT without its line feeds, and where each of its places is then.
use Rattle.std.specs.Prelude.{◌≡◌, ℕ, ◌+◌, ◌<◌, List, length, take, slice_index}
use Rattle.jam_adopt.specs.Bodies.{without_feeds}
use Rattle.jam_adopt.specs.Leaps.{AreAllLeaps}
use Rattle.jam_adopt.specs.declared.tables.Tables.{Tables}
use Rattle.jam_adopt.specs.declared.texts.Texts.{Texts}

-- how many bytes other than a line feed stand before each of the first places
abbrev pub AreCounts : List ℕ → List ℕ → Type 0
AreCounts jdt counts = (k : ℕ) → k < length counts → slice_index counts k ≡ length (without_feeds (take k jdt))

pub record AreTexts (jdt : List ℕ) (texts : Texts) : Type 0 where
  pub kept : texts.kept.items ≡ without_feeds jdt
  pub count : length texts.counts.items ≡ length jdt + 1
  pub each : AreCounts jdt texts.counts.items

-- what headers and texts are looked up in
pub record AreTables (jhr jdt : List ℕ) (tables : Tables) : Type 0 where
  pub leaps : AreAllLeaps jhr tables.leaps
  pub texts : AreTexts jdt tables.texts
