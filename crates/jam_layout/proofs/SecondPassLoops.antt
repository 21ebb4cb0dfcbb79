-- The loops of the second pass: slots made of the entries so far, and links tested so far.
use Rattle.std.proofs.Common.{◌≡◌, ℕ, ◌+◌, ◌-◌, ◌≤◌, ◌<◌, not, Bool, List, [], ◌∷◌, ◌++◌, length, drop, replicate, Result, Ok, sym, ap, ◌∙◌, subst, arith, append_assoc, append-nil, length-append}
use Rattle.std.proofs.Math.ListN.{length-replicate}
use Rattle.std.proofs.lemmas.List.{drop_all}
use Rattle.jam_records.specs.declared.damage.Damage.{Damage}
use Rattle.jam_records.specs.declared.damage.DamageRule.TheVariants.{Links}
use Rattle.jam_records.specs.declared.message.Slot.{Slot}
use Rattle.jam_records.specs.declared.message.Slot.TheVariants.{Gone, Held}
use Rattle.jam_records.specs.declared.message.Message.{Message}
use Rattle.damage_rules.specs.Rules.{by_rules, ◌>>=◌}
use Rattle.door_outside.specs.File.{jhr_file}
use Rattle.jam_layout.specs.SecondPass.{links_at, slots_of, Numbered}
use Rattle.jam_layout.specs.declared.entry.HeaderEntry.{HeaderEntry}

abbrev one : ℕ → ℕ → Bool → Result (Unit {0}) Damage
one place i b = by_rules (jhr_file place) i ((Links, not b) ∷ []) (tt {0})

pub links_end : (place i j : ℕ) (slots : List Slot) (entries : List HeaderEntry) (total : Result (Unit {0}) Damage) → length entries ≤ j → links_at place slots i (drop j entries) ≡ total → total ≡ Ok (tt {0})
links_end place i j slots entries total le so_far = sym so_far ∙ ap (links_at place slots i) (drop_all j entries le)

-- ---- the slots of the entries so far, and of those that are left
pub record SoFar (slots : List Slot) (j : ℕ) (entries : List HeaderEntry) : Type 0 where
  pub made : slots ++ slots_of (length slots + 1) (drop j entries) ≡ slots_of 1 entries
  pub left : Numbered (length slots) (drop j entries)

pub slots_more : (slots filled new : List Slot) (j : ℕ) (entries : List HeaderEntry) (e : HeaderEntry) (m : Message) → drop j entries ≡ e ∷ drop (j + 1) entries → filled ≡ slots ++ replicate (e.number - 1 - length slots) Gone → new ≡ filled ++ Held m ∷ [] → m ≡ e.message
    → SoFar slots j entries → SoFar new (j + 1) entries
slots_more slots filled new j entries e m is full pushed same so_far =
    let rest : List HeaderEntry = drop (j + 1) entries in
    let numbered : Numbered (length slots) (e ∷ rest) = subst (Numbered (length slots)) is so_far.left in
    let lt : length slots < e.number = numbered.0 in
    let gones : List Slot = replicate (e.number - 1 - length slots) Gone in
    let len : length new ≡ e.number = ap length pushed ∙ omega (arith, length-append filled (Held m ∷ []), ap length full, length-append slots gones, length-replicate {A = Slot} (e.number - 1 - length slots) Gone, lt) in
    let count : e.number - 1 - length slots ≡ e.number - (length slots + 1) = omega arith in
    let tail : List Slot = slots_of (e.number + 1) rest in
    let text : new ++ slots_of (length new + 1) rest ≡ slots ++ slots_of (length slots + 1) (e ∷ rest) =
    ap (λ n. new ++ slots_of (n + 1) rest) len
    ∙ (ap (λ (xs : List Slot). xs ++ tail) (pushed ∙ ap (λ (xs : List Slot). xs ++ Held m ∷ []) full)
    ∙ (append_assoc (slots ++ gones) (Held m ∷ []) tail ∙ (append_assoc slots gones (Held m ∷ tail)
    ∙ (ap (λ n. slots ++ (replicate n Gone ++ Held m ∷ tail)) count ∙ ap (λ (x : Message). slots ++ (replicate (e.number - (length slots + 1)) Gone ++ Held x ∷ tail)) same)))) in
    record {
      made = text ∙ (ap (λ (xs : List HeaderEntry). slots ++ slots_of (length slots + 1) xs) (sym is) ∙ so_far.made);
      left = subst (λ (n : ℕ). Numbered n rest) (sym len) numbered.2;
    }

pub slots_done : (slots : List Slot) (j : ℕ) (entries : List HeaderEntry) → length entries ≤ j → SoFar slots j entries → slots ≡ slots_of 1 entries
slots_done slots j entries le so_far =
    sym (ap (λ (xs : List HeaderEntry). slots ++ slots_of (length slots + 1) xs) (drop_all j entries le) ∙ append-nil slots) ∙ so_far.made

pub some_number : (slots : List Slot) (j : ℕ) (entries : List HeaderEntry) (e : HeaderEntry) → drop j entries ≡ e ∷ drop (j + 1) entries → SoFar slots j entries → 1 ≤ e.number
some_number slots j entries e is so_far =
    let numbered : Numbered (length slots) (e ∷ drop (j + 1) entries) = subst (Numbered (length slots)) is so_far.left in
    let lt : length slots < e.number = numbered.0 in
    omega arith
