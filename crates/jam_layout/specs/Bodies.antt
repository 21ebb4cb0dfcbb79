-- .JDT: the body of each message, one after the other.
use Rattle.std.specs.Prelude.{ℕ, ◌+◌, ◌-◌, List, [], ◌∷◌, ◌++◌, length, map, take, drop, slice_index, Result, Ok, not, ◌||◌, ◌==◌, nat_lt}
use Rattle.jam_records.specs.declared.damage.Damage.{Damage}
use Rattle.jam_records.specs.declared.damage.DamageRule.TheVariants.{Short, Line, Rest}
use Rattle.jam_records.specs.declared.message.Message.{Message}
use Rattle.jam_records.specs.declared.message.Slot.{Slot}
use Rattle.jam_records.specs.declared.message.Slot.TheVariants.{Gone, Held}
use Rattle.damage_rules.specs.Rules.{Rules, by_rules, ◌>>=◌}
use Rattle.door_outside.specs.File.{jdt_file}
use Rattle.jam_layout.specs.declared.entry.HeaderEntry.{HeaderEntry}

-- the rules of a body of this length, at the front of what is left
abbrev pub body_rules : ℕ → List ℕ → Rules
body_rules len bytes =
    (Short, nat_lt (length bytes) len)
    ∷ (Line, not (len == 0 || slice_index bytes (len - 1) == 0x0D))
    ∷ []

abbrev pub message_with : Message → List ℕ → Message
message_with m body = record m { body = body }

abbrev pub with_body : HeaderEntry → List ℕ → HeaderEntry
with_body e body = record e { message = message_with e.message body }

-- the messages of the headers from the one of record i on, whose bodies are all that is left
abbrev pub bodies_at : ℕ → ℕ → List HeaderEntry → List ℕ → Result (List HeaderEntry) Damage
bodies_at place i [] bytes = by_rules (jdt_file place) i ((Rest, not (length bytes == 0)) ∷ []) []
bodies_at place i (e ∷ entries) bytes = do
  body ← by_rules (jdt_file place) i (body_rules e.text_len bytes) (take e.text_len bytes)
  others ← bodies_at place (i + 1) entries (drop e.text_len bytes)
  Ok (with_body e body ∷ others)

-- how long the bodies of the messages of all headers are, which are all that there is
abbrev pub lengths_at : ℕ → List HeaderEntry → List ℕ → Result (List ℕ) Damage
lengths_at place headers bytes = do
  entries ← bodies_at place 1 headers bytes
  Ok (map (λ e. length e.message.body) entries)

-- what a slot gives to .JDT: the body, and its length
abbrev pub body_piece : Slot → List ℕ
body_piece Gone = []
body_piece (Held m) = m.body

abbrev pub body_size : Slot → ℕ
body_size slot = length (body_piece slot)

-- all bodies in order
abbrev pub bodies_text : List HeaderEntry → List ℕ
bodies_text [] = []
bodies_text (e ∷ entries) = e.message.body ++ bodies_text entries
