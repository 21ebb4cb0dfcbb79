-- Links: those of the messages as their headers show them are those of the slots.
use Rattle.std.proofs.Common.{◌≡◌, ℕ, zero, suc, ◌+◌, ◌-◌, ◌≤◌, ◌<◌, cond, true, not, ◌&&◌, eqb, ltb, List, [], ◌∷◌, ◌++◌, length, take, map, replicate, Option, Some, None, Result, Ok, refl, sym, ap, ◌∙◌, subst, arith, append_assoc, append-nil, length-append}
use Rattle.std.specs.List.{prefix_len, fold}
use Rattle.std.specs.Prelude.{position, filter, slice_get, option_map}
use Rattle.std.proofs.lemmas.Bool.{eqb-true, eq-eqb, and_from, and_parts}
use Rattle.std.proofs.lemmas.List.{take-map, length-map}
use Rattle.std.proofs.lemmas.Option.{slice_get-map}
use Rattle.jam_records.specs.declared.damage.Damage.{Damage}
use Rattle.jam_records.specs.declared.damage.DamageRule.TheVariants.{Links}
use Rattle.jam_records.specs.declared.message.Slot.{Slot}
use Rattle.jam_records.specs.declared.message.Slot.TheVariants.{Gone, Held}
use Rattle.jam_threads.specs.Children.{has_msgid, first_of_id, number_at, original_behind, slot_original, original, numbers_to, children}
use Rattle.jam_threads.specs.Links.{first_in, following, link_of}
use Rattle.jam_threads.specs.declared.link.Link.{Link}
use Rattle.jam_threads.proofs.ChildrenLemmas.{link_same}
use Rattle.damage_rules.specs.Rules.{by_rules, ◌>>=◌}
use Rattle.door_outside.specs.File.{jhr_file}
use Rattle.jam_layout.specs.Layout.{entries_of}
use Rattle.jam_layout.specs.Outlines.{slot_bare}
use Rattle.jam_layout.specs.Conference.{is_live, live_count}
use Rattle.jam_layout.specs.SecondPass.{slots_of, active_in, same_link, links_at}
use Rattle.jam_layout.specs.declared.entry.HeaderEntry.{HeaderEntry}
use Rattle.damage_rules.proofs.KeptRules.{rules_kept, kept_rules, bind_ok}
use Rattle.jam_layout.proofs.BodyLaws.{bare}
use Rattle.jam_layout.proofs.IndexLaws.{first_number}
use Rattle.damage_rules.proofs.BoolTests.{not_not}

-- ---- slots without their bodies

has_bare : (id : List ℕ) (s : Slot) → has_msgid id (slot_bare s) ≡ has_msgid id s
has_bare id Gone = refl
has_bare id (Held m) = refl

prefix_bare : (id : List ℕ) (slots : List Slot) → prefix_len (λ x. not (has_msgid id x)) (map slot_bare slots) ≡ prefix_len (λ x. not (has_msgid id x)) slots
prefix_bare id [] = refl
prefix_bare id (s ∷ slots) =
    ap (λ b. cond (not b) (1 + prefix_len (λ x. not (has_msgid id x)) (map slot_bare slots)) 0) (has_bare id s)
    ∙ ap (λ r. cond (not (has_msgid id s)) (1 + r) 0) (prefix_bare id slots)

place_of : ℕ → ℕ → Option ℕ
place_of i n = cond (ltb i n) (Some i) None

position_bare : (id : List ℕ) (slots : List Slot) → position (has_msgid id) (map slot_bare slots) ≡ position (has_msgid id) slots
unfolding place_of
position_bare id slots = ap (λ i. place_of i (length (map slot_bare slots))) (prefix_bare id slots) ∙ ap (place_of (prefix_len (λ x. not (has_msgid id x)) slots)) (length-map slots slot_bare)

first_bare : (id : List ℕ) (slots : List Slot) → first_of_id (map slot_bare slots) id ≡ first_of_id slots id
first_bare id slots = ap number_at (position_bare id slots)

behind_bare : (before : List Slot) (id : List ℕ) → original_behind (map slot_bare before) id ≡ original_behind before id
behind_bare before [] = refl
behind_bare before (b ∷ id) = first_bare (b ∷ id) before

found_bare : (before : List Slot) (s : Option Slot) → slot_original (map slot_bare before) (option_map slot_bare s) ≡ slot_original before s
found_bare before None = refl
found_bare before (Some Gone) = refl
found_bare before (Some (Held m)) = behind_bare before m.replyid

original_bare : (slots : List Slot) (k : ℕ) → original (map slot_bare slots) k ≡ original slots k
unfolding original
original_bare slots zero = refl
original_bare slots (suc place) =
    ap (λ (xs : List Slot). slot_original xs (slice_get (map slot_bare slots) place)) (take-map slot_bare place slots)
    ∙ (ap (λ (x : Option Slot). slot_original (map slot_bare (take place slots)) x) (slice_get-map slot_bare slots place) ∙ found_bare (take place slots) (slice_get slots place))

children_bare : (slots : List Slot) (n : ℕ) → children (map slot_bare slots) n ≡ children slots n
unfolding children
children_bare slots n = λ i. filter (λ k. eqb (original_bare slots k i) n) (numbers_to (length-map slots slot_bare i))

pub link_bare : (slots : List Slot) (n : ℕ) → link_of (map slot_bare slots) n ≡ link_of slots n
unfolding link_of
link_bare slots n = λ i. record {
  to = original_bare slots n i;
  first = first_in (children_bare slots n i);
  next = cond (eqb (original_bare slots n i) 0) 0 (following n (children_bare slots (original_bare slots n i) i));
}

-- ---- slots without a message at the end
pub link_gone : (k : ℕ) (slots : List Slot) (n : ℕ) → n < length slots → link_of (slots ++ replicate k Gone) (suc n) ≡ link_of slots (suc n)
link_gone zero slots n within = ap (λ (xs : List Slot). link_of xs (suc n)) (append-nil slots)
link_gone (suc k) slots n within =
    let more : n < length (slots ++ Gone ∷ []) = omega (arith, length-append slots (Gone ∷ [])) in
    ap (λ (xs : List Slot). link_of xs (suc n)) (sym (append_assoc slots (Gone ∷ []) (replicate k Gone)))
    ∙ (link_gone k (slots ++ Gone ∷ []) n more ∙ link_same slots Gone n within refl)

-- ---- the slots of the entries are those that the entries came from
gone_more : (links : ℕ → Link) (n : ℕ) (slots : List Slot) (es : List HeaderEntry) (k : ℕ) → entries_of links (n + 1) slots ≡ es → slots ≡ slots_of (n + 1) es ++ replicate k Gone → (j : ℕ) × (Gone ∷ slots ≡ slots_of n es ++ replicate j Gone)
gone_more links n slots [] k is e = (suc k, ap (λ (xs : List Slot). Gone ∷ xs) e)
gone_more links n slots (p ∷ es) k is e =
    let more : n + 1 ≤ p.number = first_number links (n + 1) slots p es is in
    let count : suc (p.number - (n + 1)) ≡ p.number - n = omega arith in
    (k, ap (λ (xs : List Slot). Gone ∷ xs) e ∙ ap (λ c. (replicate c Gone ++ Held p.message ∷ slots_of (p.number + 1) es) ++ replicate k Gone) count)

pub slots_back : (links : ℕ → Link) (n : ℕ) (slots : List Slot) → (k : ℕ) × (slots ≡ slots_of n (entries_of links n slots) ++ replicate k Gone)
slots_back links n [] = (0, refl)
slots_back links n (Gone ∷ slots) = let r = slots_back links (n + 1) slots in gone_more links n slots (entries_of links (n + 1) slots) r.0 refl r.1
slots_back links n (Held m ∷ slots) =
    let r = slots_back links (n + 1) slots in
    let rest : List Slot = Held m ∷ slots_of (n + 1) (entries_of links (n + 1) slots) in
    let none : n - n ≡ 0 = omega arith in
    (r.0, ap (λ (xs : List Slot). Held m ∷ xs) r.1 ∙ ap (λ c. (replicate c Gone ++ rest) ++ replicate r.0 Gone) (sym none))

map_gone : (k : ℕ) (xs : List Slot) → map slot_bare (replicate k Gone ++ xs) ≡ replicate k Gone ++ map slot_bare xs
map_gone zero xs = refl
map_gone (suc k) xs = ap (λ (ys : List Slot). Gone ∷ ys) (map_gone k xs)

pub slots_bare : (n : ℕ) (es : List HeaderEntry) → slots_of n (map bare es) ≡ map slot_bare (slots_of n es)
slots_bare n [] = refl
slots_bare n (e ∷ es) =
    ap (λ (xs : List Slot). replicate (e.number - n) Gone ++ slot_bare (Held e.message) ∷ xs) (slots_bare (e.number + 1) es)
    ∙ sym (map_gone (e.number - n) (Held e.message ∷ slots_of (e.number + 1) es))

-- the links of the headers are those of the slots
pub links_same : (links : ℕ → Link) (slots : List Slot) (n : ℕ) → n < length (slots_of 1 (entries_of links 1 slots)) → link_of (slots_of 1 (map bare (entries_of links 1 slots))) (suc n) ≡ link_of slots (suc n)
links_same links slots n within =
    let es : List HeaderEntry = entries_of links 1 slots in
    let back = slots_back links 1 slots in
    ap (λ (xs : List Slot). link_of xs (suc n)) (slots_bare 1 es)
    ∙ (link_bare (slots_of 1 es) (suc n)
    ∙ (sym (link_gone back.0 (slots_of 1 es) n within) ∙ ap (λ (xs : List Slot). link_of xs (suc n)) (sym back.1)))

-- ---- each entry has the links of its number
abbrev pub LinksFit : (ℕ → Link) → List HeaderEntry → Type 0
LinksFit links [] = Unit {0}
LinksFit links (e ∷ es) = (e.link ≡ links e.number) × LinksFit links es

-- the numbers are from 1 to k
abbrev pub Below : ℕ → List HeaderEntry → Type 0
Below k [] = Unit {0}
Below k (e ∷ es) = (0 < e.number) × (e.number ≤ k) × Below k es

pub links_move : (f g : ℕ → Link) (k : ℕ) (es : List HeaderEntry) → ((n : ℕ) → n < k → f (suc n) ≡ g (suc n)) → Below k es → LinksFit f es → LinksFit g es
links_move f g k [] same below fits = tt
links_move f g k (e ∷ es) same below fits =
    let some = below.0 in
    let le = below.1 in
    let number : suc (e.number - 1) ≡ e.number = omega arith in
    let one : f e.number ≡ g e.number = subst (λ (n : ℕ). f n ≡ g n) number (same (e.number - 1) (omega arith)) in
    (fits.0 ∙ one, links_move f g k es same below.2 fits.1)

-- the numbers rise from n on
abbrev pub Rising : ℕ → List HeaderEntry → Type 0
Rising n [] = Unit {0}
Rising n (e ∷ es) = (n ≤ e.number) × Rising (e.number + 1) es

pub length_gone : (k : ℕ) (xs : List Slot) → length (replicate k Gone ++ xs) ≡ k + length xs
length_gone zero xs = omega arith
length_gone (suc k) xs = omega (arith, length_gone k xs)

below_slots : (n k : ℕ) (es : List HeaderEntry) → 0 < n → Rising n es → n + length (slots_of n es) ≤ suc k → Below k es
below_slots n k [] some rising le = tt
below_slots n k (e ∷ es) some rising le =
    let first = rising.0 in
    let len = length_gone (e.number - n) (Held e.message ∷ slots_of (e.number + 1) es) in
    (omega arith, omega (arith, len), below_slots (e.number + 1) k es (omega arith) rising.1 (omega (arith, len)))

pub below_all : (es : List HeaderEntry) → Rising 1 es → Below (length (slots_of 1 es)) es
below_all es rising = below_slots 1 (length (slots_of 1 es)) es (omega arith) rising (omega arith)

same_is : (a b : Link) → same_link a b ≡ true → a ≡ b
same_is a b e =
    let p = and_parts (eqb a.to b.to && eqb a.first b.first) (eqb a.next b.next) e in
    let q = and_parts (eqb a.to b.to) (eqb a.first b.first) p.0 in
    let to : a.to ≡ b.to = eqb-true a.to b.to q.0 in
    let first : a.first ≡ b.first = eqb-true a.first b.first q.1 in
    let next : a.next ≡ b.next = eqb-true a.next b.next p.1 in
    λ i. record { to = to i; first = first i; next = next i }

is_same : (a b : Link) → a ≡ b → same_link a b ≡ true
is_same a b e = and_from _ _ (and_from _ _ (eq-eqb a.to b.to (ap (λ (x : Link). x.to) e)) (eq-eqb a.first b.first (ap (λ (x : Link). x.first) e))) (eq-eqb a.next b.next (ap (λ (x : Link). x.next) e))

abbrev unit : Result (Unit {0}) Damage
unit = Ok (tt {0})

pub links_take : (place : ℕ) (slots : List Slot) (i : ℕ) (es : List HeaderEntry) → links_at place slots i es ≡ unit → LinksFit (link_of slots) es
links_take place slots i [] e = tt
links_take place slots i (p ∷ es) e =
    let rules = (Links, not (same_link p.link (link_of slots p.number))) ∷ [] in
    let a = bind_ok (by_rules (jhr_file place) i rules (tt {0})) (λ one. links_at place slots (i + 1) es) (tt {0}) e in
    let k = rules_kept (jhr_file place) i rules (tt {0}) a.0 a.1 in
    (same_is p.link (link_of slots p.number) (not_not (same_link p.link (link_of slots p.number)) k.0.0), links_take place slots (i + 1) es a.2)

pub links_again : (place : ℕ) (slots : List Slot) (i : ℕ) (es : List HeaderEntry) → LinksFit (link_of slots) es → links_at place slots i es ≡ unit
links_again place slots i [] fits = refl
links_again place slots i (p ∷ es) fits =
    let rules = (Links, not (same_link p.link (link_of slots p.number))) ∷ [] in
    let one : by_rules (jhr_file place) i rules (tt {0}) ≡ unit = kept_rules (jhr_file place) i rules (tt {0}) (ap not (is_same p.link (link_of slots p.number) fits.0), tt) in
    ap (λ x. x >>= λ one. links_at place slots (i + 1) es) one ∙ links_again place slots (i + 1) es fits.1

-- ---- the count of messages that aren't deleted
active_from : (links : ℕ → Link) (n : ℕ) (slots : List Slot) (a : ℕ) → fold (λ a e. a + cond (not e.message.deleted) 1 0) a (map bare (entries_of links n slots)) ≡ fold (λ a s. a + cond (is_live s) 1 0) a slots
active_from links n [] a = refl
active_from links n (Gone ∷ slots) a =
    let none : a ≡ a + 0 = omega arith in
    active_from links (n + 1) slots a ∙ ap (λ k. fold (λ a s. a + cond (is_live s) 1 0) k slots) none
active_from links n (Held m ∷ slots) a = active_from links (n + 1) slots (a + cond (not m.deleted) 1 0)

pub active_is : (links : ℕ → Link) (n : ℕ) (slots : List Slot) → active_in (map bare (entries_of links n slots)) ≡ live_count slots
active_is links n slots = active_from links n slots 0
