-- What is kept of a list of slots to which one is added.
use Rattle.std.specs.Prelude.{◌≡◌, ℕ, suc, ◌<◌, List, [], ◌∷◌, length, slice_index, slice_index_or, ◌==◌, if◌then◌else◌}
use Rattle.jam_records.specs.declared.message.Slot.{Slot}
use Rattle.jam_threads.specs.Children.{first_of_id, children}
use Rattle.jam_threads.specs.Links.{link_of}
use Rattle.jam_threads.specs.declared.link.Link.{Link}

-- the function gives the first message of each id
abbrev pub AreFirsts : List Slot → (List ℕ → ℕ) → Type 0
AreFirsts slots firsts = (id : List ℕ) → firsts id ≡ first_of_id slots id

-- the last of a list of numbers
abbrev pub last_in : List ℕ → ℕ
last_in [] = 0
last_in (n ∷ []) = n
last_in (n ∷ m ∷ ns) = last_in (m ∷ ns)

-- the links of each message, and its last child
pub record AreChains (slots : List Slot) (links : List Link) (lasts : List ℕ) : Type 0 where
  pub count : length links ≡ length slots
  pub count_lasts : length lasts ≡ length slots
  pub link : (place : ℕ) (other : Link) → place < length slots → slice_index_or links place other ≡ link_of slots (suc place)
  pub last : (place : ℕ) → place < length slots → slice_index lasts place ≡ last_in (children slots (suc place))

-- the link in a place, once a message of this number is the last child of its original, whose last child was `previous`
abbrev pub hung : ℕ → ℕ → ℕ → ℕ → Link → Link
hung original number previous place link =
    if previous == 0
    then if suc place == original then record { to = link.to; first = number; next = link.next } else link
    else if suc place == previous then record { to = link.to; first = link.first; next = number } else link
