-- What rising numbers up to 9,999 bound.
use Rattle.std.proofs.Common.{◌≡◌, ℕ, ◌+◌, ◌-◌, ◌^◌, ◌≤◌, ◌<◌, List, [], ◌∷◌, length, sym, ap, subst, arith}
use Rattle.std.specs.Prelude.{All}
use Rattle.std.proofs.lemmas.List.Elements.{All-cons, All-nil}
use Rattle.jam_records.specs.declared.message.Slot.{Slot}
use Rattle.jam_records.specs.declared.message.Slot.TheVariants.{Held}
use Rattle.jam_layout.specs.Limits.{slot_limit}
use Rattle.jam_layout.specs.SecondPass.{slots_of, Numbered}
use Rattle.jam_layout.specs.declared.entry.HeaderEntry.{HeaderEntry}
use Rattle.jam_layout.proofs.LinkLaws.{Rising, Below, below_all, length_gone}

pub entries_few : (last : ℕ) (es : List HeaderEntry) → last ≤ slot_limit → Numbered last es → length es + last ≤ slot_limit
entries_few last [] le n = omega arith
entries_few last (e ∷ es) le n = let lt = n.0 in omega (arith, lt, entries_few e.number es n.1 n.2)

pub slots_few : (last : ℕ) (es : List HeaderEntry) → last ≤ slot_limit → Numbered last es → length (slots_of (last + 1) es) + last ≤ slot_limit
slots_few last [] le n = omega arith
slots_few last (e ∷ es) le n =
    let lt = n.0 in
    omega (arith, lt, length_gone (e.number - (last + 1)) (Held e.message ∷ slots_of (e.number + 1) es), slots_few e.number es n.1 n.2)

rising_from : (last : ℕ) (es : List HeaderEntry) → Numbered last es → Rising (last + 1) es
rising_from last [] n = tt
rising_from last (e ∷ es) n = let lt = n.0 in (omega arith, rising_from e.number es n.2)

each_within : (k : ℕ) (es : List HeaderEntry) → Below k es → All (λ e. (1 ≤ e.number) × (e.number ≤ k)) es
each_within k [] below = All-nil (λ e. (1 ≤ e.number) × (e.number ≤ k))
each_within k (e ∷ es) below = let some = below.0 in All-cons (λ e. (1 ≤ e.number) × (e.number ≤ k)) e es (omega arith, below.1) (each_within k es below.2)

moved : (es : List HeaderEntry) (slots : List Slot) → slots ≡ slots_of 1 es → Below (length (slots_of 1 es)) es → Below (length slots) es
moved es slots is below = subst (λ (k : ℕ). Below k es) (ap length (sym is)) below

pub all_within : (es : List HeaderEntry) (slots : List Slot) → slots ≡ slots_of 1 es → Numbered 0 es → All (λ e. (1 ≤ e.number) × (e.number ≤ length slots)) es
all_within es slots is n = each_within (length slots) es (moved es slots is (below_all es (rising_from 0 es n)))

pub few_slots : (es : List HeaderEntry) (slots : List Slot) → slots ≡ slots_of 1 es → Numbered 0 es → length slots < 2 ^ 31
few_slots es slots is n = omega (arith, ap length is, slots_few 0 es (omega arith) n)

pub few_entries : (es : List HeaderEntry) → Numbered 0 es → length es < 2 ^ 31
few_entries es n = omega (arith, entries_few 0 es (omega arith) n)
