-- The zones of a board, which setup file and ledger share.
use Rattle.std.specs.Prelude.{ℕ, List, length, Bool, ◌&&◌, nat_le}
use Rattle.std.specs.List.{list_all}
use Rattle.setup_file.specs.Rising.{are_rising}

abbrev pub is_zone : ℕ → Bool
is_zone zone = nat_le 1 zone && nat_le zone 32767

-- 0 to 16 numbers from 1 to 32,767, each above the one before
unfoldable pub are_zones : List ℕ → Bool
are_zones zones = nat_le (length zones) 16 && (list_all is_zone zones && are_rising zones)
