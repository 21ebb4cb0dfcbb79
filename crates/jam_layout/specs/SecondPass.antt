-- .JHR, second pass: the count of messages that aren't deleted, and the links.
use Rattle.std.specs.Prelude.{ℕ, ◌+◌, ◌-◌, ◌<◌, ◌≤◌, List, [], ◌∷◌, ◌++◌, replicate, count_by, Bool, Result, Ok, not, ◌&&◌, ◌==◌}
use Rattle.jam_records.specs.declared.damage.Damage.{Damage}
use Rattle.jam_records.specs.declared.damage.DamageRule.TheVariants.{Active, Links}
use Rattle.jam_records.specs.declared.message.Slot.{Slot}
use Rattle.jam_records.specs.declared.message.Slot.TheVariants.{Gone, Held}
use Rattle.jam_threads.specs.Links.{link_of}
use Rattle.jam_threads.specs.declared.link.Link.{Link}
use Rattle.damage_rules.specs.Rules.{by_rules, ◌>>=◌}
use Rattle.door_outside.specs.File.{jhr_file}
use Rattle.jam_layout.specs.Limits.{slot_limit}
use Rattle.jam_layout.specs.declared.entry.HeaderEntry.{HeaderEntry}

-- the slots of messages in rising number, of which the first slot has number n, up to the last message
abbrev pub slots_of : ℕ → List HeaderEntry → List Slot
slots_of n [] = []
slots_of n (e ∷ entries) = replicate (e.number - n) Gone ++ Held e.message ∷ slots_of (e.number + 1) entries

-- the numbers rise above one, up to 9,999
abbrev pub Numbered : ℕ → List HeaderEntry → Type 0
Numbered last [] = Unit {0}
Numbered last (e ∷ entries) = (last < e.number) × (e.number ≤ slot_limit) × Numbered e.number entries

abbrev pub active_in : List HeaderEntry → ℕ
active_in entries = count_by (λ e. not e.message.deleted) entries

abbrev pub same_link : Link → Link → Bool
same_link a b = (a.to == b.to && a.first == b.first) && a.next == b.next

-- each header, from the one of record i on, has the links of its message
abbrev pub links_at : ℕ → List Slot → ℕ → List HeaderEntry → Result (Unit {0}) Damage
links_at place slots i [] = Ok (tt {0})
links_at place slots i (e ∷ entries) = do
  one ← by_rules (jhr_file place) i ((Links, not (same_link e.link (link_of slots e.number))) ∷ []) (tt {0})
  links_at place slots (i + 1) entries

unfoldable pub second_pass : ℕ → ℕ → List HeaderEntry → Result (Unit {0}) Damage
second_pass place active entries = do
  count ← by_rules (jhr_file place) 0 ((Active, not (active == active_in entries)) ∷ []) (tt {0})
  links_at place (slots_of 1 entries) 1 entries
