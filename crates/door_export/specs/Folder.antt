-- The files of a packet, in their folder.
use Rattle.std.specs.Prelude.{ℕ, List, [], ◌∷◌, ◌++◌, codes}
use Rattle.std.specs.FinMap as map
use Rattle.door_outside.specs.Shelf.{ShelfFiles}

abbrev pub control_name : List ℕ → List ℕ
control_name folder = folder ++ codes "/CONTROL.DAT"

abbrev pub messages_name : List ℕ → List ℕ
messages_name folder = folder ++ codes "/MESSAGES.DAT"

-- both
abbrev pub folder_names : List ℕ → List (List ℕ)
folder_names folder = control_name folder ∷ messages_name folder ∷ []

-- the shelf with what they hold
abbrev pub with_packet : List ℕ → List ℕ → List ℕ → ShelfFiles → ShelfFiles
with_packet folder controls messages shelf = map.insert (map.insert shelf (control_name folder) controls) (messages_name folder) messages
