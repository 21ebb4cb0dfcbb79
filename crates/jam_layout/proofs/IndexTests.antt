-- The test of a record of the index in the code finds its first broken rule.
use Rattle.std.proofs.Common.{◌≡◌, ℕ, ◌+◌, List, [], ◌∷◌, length, true, false, cond, Result, Ok, refl, sym, ap, ◌∙◌, subst, arith}
use Rattle.std.proofs.lemmas.Bool.{eqb-true}
use Rattle.name_crc.specs.JamCrc.{jam_crc}
use Rattle.jam_records.specs.declared.index_record.IndexRecord.{IndexRecord}
use Rattle.jam_records.specs.declared.damage.Damage.{Damage}
use Rattle.jam_records.specs.declared.message.Message.{Message}
use Rattle.jam_records.specs.declared.message.Slot.{Slot}
use Rattle.jam_records.specs.declared.message.Slot.TheVariants.{Gone, Held}
use Rattle.damage_rules.specs.Rules.{first_broken, by_rules}
use Rattle.jam_layout.specs.Rules.{BaseFails}
use Rattle.door_outside.specs.File.{jdx_file}
use Rattle.damage_rules.specs.Walk.{WalkStep}
use Rattle.jam_layout.specs.Headers.{header_size}
use Rattle.jam_layout.specs.Index.{no_pair, pair_of, Pending, Expected, none_here, one_here, is_next, expected_of, index_rules, slot_at}
use Rattle.jam_layout.specs.declared.entry.HeaderEntry.{HeaderEntry}
use Rattle.jam_layout.specs.declared.error.BaseError.{BaseError}
use Rattle.jam_layout.proofs.HeaderTests.{value_free}
use Rattle.damage_rules.proofs.KeptRules.{Kept, rules_kept, kept_rules}
use Rattle.jam_layout.proofs.IndexLaws.{expected_held}

abbrev pair : ℕ → ℕ → IndexRecord
pair crc at = record { to_crc = crc; offset = at }

abbrev step : ℕ → ℕ → List ℕ → Expected → Result (WalkStep Pending Slot) Damage
step place item bytes x = by_rules (jdx_file place) item (index_rules x.pair bytes) (record { value = x.slot; size = 8; next = x.next })

abbrev found : ℕ → Message → ℕ → List HeaderEntry → WalkStep Pending Slot
found item m at entries = record { value = Held m; size = 8; next = record { item = item + 1; at = at; entries = entries } }

-- the message is the first of those that are left
held : (item at : ℕ) (pending : List HeaderEntry) (e : HeaderEntry) (rest : List HeaderEntry) → pending ≡ e ∷ rest → e.number ≡ item + 1 → expected_of item at pending ≡ one_here item at e rest
held item at pending e rest is number = ap (expected_of item at) is ∙ expected_held item at e rest number

pub next_number : (number : ℕ) (pending : List HeaderEntry) (e : HeaderEntry) (rest : List HeaderEntry) → pending ≡ e ∷ rest → is_next number pending ≡ true → e.number ≡ number
next_number number pending e rest is next = eqb-true e.number number (sym (ap (is_next number) is) ∙ next)

pub none_next : (number : ℕ) (pending : List HeaderEntry) → length pending ≡ 0 → is_next number pending ≡ false
none_next number [] none = refl
none_next number (e ∷ pending) none = absurd (omega (arith, none))

gone : (item at : ℕ) (pending : List HeaderEntry) → is_next (item + 1) pending ≡ false → expected_of item at pending ≡ none_here item at pending
unfolding expected_of
gone item at [] none = refl
gone item at (e ∷ pending) none = ap (λ b. cond b (one_here item at e pending) (none_here item at (e ∷ pending))) none

same_found : (item at size : ℕ) (e : HeaderEntry) (m : Message) (rest : List HeaderEntry) → m ≡ e.message → size ≡ header_size m → found item e.message (at + header_size e.message) rest ≡ found item m (at + size) rest
same_found item at size e m rest p q = λ i. found item (sym p i) (at + (sym (q ∙ ap header_size p)) i) rest

pairs_same : (at crc : ℕ) (e : HeaderEntry) (m : Message) → crc ≡ jam_crc m.to → m ≡ e.message → pair crc at ≡ pair_of e.message at
pairs_same at crc e m c same = ap (λ n. pair n at) (c ∙ ap (λ (x : Message). jam_crc x.to) same)

pub held_read : (place item at : ℕ) (pending : List HeaderEntry) (bytes : List ℕ) (e : HeaderEntry) (rest : List HeaderEntry) (m : Message) (size crc : ℕ) (u : Unit {0}) → pending ≡ e ∷ rest → e.number ≡ item + 1 → m ≡ e.message
    → by_rules (jdx_file place) item (index_rules (pair crc at) bytes) (tt {0}) ≡ Ok u → crc ≡ jam_crc m.to → size ≡ header_size m
    → slot_at place (record { item = item; at = at; entries = pending }) bytes ≡ Ok (record { value = Held m; size = 8; next = record { item = item + 1; at = at + size; entries = rest } })
unfolding slot_at
held_read place item at pending bytes e rest m size crc u is number same kept c long =
    let k = rules_kept (jdx_file place) item (index_rules (pair crc at) bytes) (tt {0}) u kept in
    let rules : Kept (index_rules (pair_of e.message at) bytes) = subst (λ (x : IndexRecord). Kept (index_rules x bytes)) (pairs_same at crc e m c same) k.0 in
    ap (step place item bytes) (held item at pending e rest is number)
    ∙ (kept_rules (jdx_file place) item (index_rules (pair_of e.message at) bytes) (found item e.message (at + header_size e.message) rest) rules
    ∙ ap (λ (x : WalkStep Pending Slot). Ok x) (same_found item at size e m rest same long))

pub held_fails : (place item at : ℕ) (pending : List HeaderEntry) (bytes : List ℕ) (e : HeaderEntry) (rest : List HeaderEntry) (m : Message) (crc : ℕ) (f : BaseError) → pending ≡ e ∷ rest → e.number ≡ item + 1 → m ≡ e.message → crc ≡ jam_crc m.to
    → BaseFails f (by_rules (jdx_file place) item (index_rules (pair crc at) bytes) (tt {0})) → BaseFails f (slot_at place (record { item = item; at = at; entries = pending }) bytes)
unfolding slot_at
held_fails place item at pending bytes e rest m crc f is number same c h =
    let one : BaseFails f (by_rules (jdx_file place) item (index_rules (pair_of e.message at) bytes) (tt {0})) =
    subst (λ (x : IndexRecord). BaseFails f (by_rules (jdx_file place) item (index_rules x bytes) (tt {0}))) (pairs_same at crc e m c same) h in
    subst (λ (r : Result (WalkStep Pending Slot) Damage). BaseFails f r) (sym (ap (step place item bytes) (held item at pending e rest is number)))
    (value_free f (jdx_file place) item (first_broken (index_rules (pair_of e.message at) bytes)) (tt {0}) (found item e.message (at + header_size e.message) rest) one)

pub gone_read : (place item at : ℕ) (pending left : List HeaderEntry) (bytes : List ℕ) (u : Unit {0}) → is_next (item + 1) pending ≡ false → left ≡ pending
    → by_rules (jdx_file place) item (index_rules no_pair bytes) (tt {0}) ≡ Ok u → slot_at place (record { item = item; at = at; entries = pending }) bytes ≡ Ok (record { value = Gone; size = 8; next = record { item = item + 1; at = at; entries = left } })
unfolding slot_at
gone_read place item at pending left bytes u none same kept =
    let k = rules_kept (jdx_file place) item (index_rules no_pair bytes) (tt {0}) u kept in
    ap (step place item bytes) (gone item at pending none)
    ∙ (kept_rules (jdx_file place) item (index_rules no_pair bytes) (record { value = Gone; size = 8; next = record { item = item + 1; at = at; entries = pending } }) k.0
    ∙ ap (λ (es : List HeaderEntry). Ok (record { value = Gone; size = 8; next = record { item = item + 1; at = at; entries = es } })) (sym same))

pub gone_fails : (place item at : ℕ) (pending : List HeaderEntry) (bytes : List ℕ) (f : BaseError) → is_next (item + 1) pending ≡ false
    → BaseFails f (by_rules (jdx_file place) item (index_rules no_pair bytes) (tt {0})) → BaseFails f (slot_at place (record { item = item; at = at; entries = pending }) bytes)
unfolding slot_at
gone_fails place item at pending bytes f none h =
    subst (λ (r : Result (WalkStep Pending Slot) Damage). BaseFails f r) (sym (ap (step place item bytes) (gone item at pending none)))
    (value_free f (jdx_file place) item (first_broken (index_rules no_pair bytes)) (tt {0}) (record { value = Gone; size = 8; next = record { item = item + 1; at = at; entries = pending } }) h)
