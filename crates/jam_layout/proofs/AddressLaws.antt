-- The test of an address holds exactly at addresses.
use Rattle.std.proofs.Common.{◌≡◌, ◌↔◌, ℕ, zero, suc, ◌+◌, ◌<◌, cond, Bool, true, false, not, ◌&&◌, eqb, List, [], ◌∷◌, ◌++◌, length, take, drop, refl, sym, ap, ◌∙◌, arith}
use Rattle.std.specs.Prelude.{All, IsTrue, decimal}
use Rattle.std.specs.Char.{is_ascii_digit}
use Rattle.std.specs.List.{prefix_len}
use Rattle.std.proofs.lemmas.Bool.{leb-true, le-leb, eq-eqb, and_from, and_parts}
use Rattle.std.proofs.lemmas.Bool.Decides.{nat_tests}
use Rattle.std.proofs.lemmas.Fmt.{decimal_is_IsNumeral}
use Rattle.std.proofs.lemmas.List.{take_at, take_all, drop_all, append-nil}
use Rattle.std.proofs.lemmas.Slice.Eq.{bytes_eq-Decides}
use Rattle.jam_records.specs.Addresses.{IsPart, IsDigit, point_text, IsAddress}
use Rattle.jam_records.proofs.AddressLemmas.{digits_of_decimal}
use Rattle.jam_layout.specs.Address.{address_number, before, past, is_part, is_address_of, is_address_with, is_address}

not_mark : (c mark : ℕ) → is_ascii_digit c ≡ true → mark < 48 → eqb c mark ≡ false
not_mark c mark digit low = grind (arith, nat_tests)

not_colon : (c : ℕ) → is_ascii_digit c ≡ true → eqb c 58 ≡ false
not_colon c digit = grind (arith, nat_tests)

-- no item is the mark
abbrev Without : ℕ → List ℕ → Type 0
Without mark [] = Unit {0}
Without mark (c ∷ text) = (eqb c mark ≡ false) × Without mark text

without : (mark : ℕ) (text : List ℕ) → ((c : ℕ) → IsDigit c → eqb c mark ≡ false) → All IsDigit text → Without mark text
without mark [] f all = tt
without mark (c ∷ text) f all = (f c (all 0 0 (omega arith)), without mark text f (λ k d within. all (suc k) d (omega (arith, within))))

prefix_mark : (mark : ℕ) (text rest : List ℕ) → Without mark text → prefix_len (λ c. not (eqb c mark)) (text ++ (mark ∷ rest)) ≡ length text
prefix_mark mark [] rest w =
    let same : eqb mark mark ≡ true = eq-eqb mark mark refl in
    ap (λ b. cond (not b) (1 + prefix_len (λ c. not (eqb c mark)) rest) 0) same
prefix_mark mark (c ∷ text) rest w =
    ap (λ b. cond (not b) (1 + prefix_len (λ c. not (eqb c mark)) (text ++ (mark ∷ rest))) 0) w.0 ∙ omega (arith, prefix_mark mark text rest w.1)

prefix_all : (mark : ℕ) (text : List ℕ) → Without mark text → prefix_len (λ c. not (eqb c mark)) text ≡ length text
prefix_all mark [] w = refl
prefix_all mark (c ∷ text) w =
    ap (λ b. cond (not b) (1 + prefix_len (λ c. not (eqb c mark)) text) 0) w.0 ∙ omega (arith, prefix_all mark text w.1)

decided : (a b : Bool) → (a ≡ true → b ≡ true) → (b ≡ true → a ≡ true) → a ≡ b
decided true b f g = sym (f refl)
decided false true f g = g refl
decided false false f g = refl

pub test_is : (text : List ℕ) → is_address text ≡ true → IsAddress text
unfolding is_address
test_is text e =
    let zone : ℕ = address_number (before 58 text) in
    let net : ℕ = address_number (before 47 (past 58 text)) in
    let tail : List ℕ = past 47 (past 58 text) in
    let node : ℕ = address_number (before 46 tail) in
    let point : ℕ = address_number (past 46 tail) in
    let a = and_parts ((is_part zone && is_part net) && (is_part node && is_part point)) _ e in
    let b = and_parts (is_part zone && is_part net) (is_part node && is_part point) a.0 in
    let front = and_parts (is_part zone) (is_part net) b.0 in
    let back = and_parts (is_part node) (is_part point) b.1 in
    record {
      zone = zone;
      net = net;
      node = node;
      point = point;
      small = (leb-true zone 32767 front.0, leb-true net 32767 front.1, leb-true node 32767 back.0, leb-true point 32767 back.1);
      whole = (bytes_eq-Decides text _).0 a.1;
    }

-- ---- an address passes
before_is : (mark : ℕ) (text rest : List ℕ) → Without mark text → before mark (text ++ (mark ∷ rest)) ≡ text
before_is mark text rest w = ap (λ n. take n (text ++ (mark ∷ rest))) (prefix_mark mark text rest w) ∙ take_at text (mark ∷ rest) (length text) refl

behind_is : (mark : ℕ) (text rest : List ℕ) → drop (suc (length text)) (text ++ (mark ∷ rest)) ≡ rest
behind_is mark [] rest = refl
behind_is mark (c ∷ text) rest = behind_is mark text rest

past_is : (mark : ℕ) (text rest : List ℕ) → Without mark text → past mark (text ++ (mark ∷ rest)) ≡ rest
past_is mark text rest w = ap (λ xs. drop (suc (length xs)) (text ++ (mark ∷ rest))) (before_is mark text rest w) ∙ behind_is mark text rest

number_is : (n : ℕ) → IsPart n → address_number (decimal n) ≡ n
number_is n small = (decimal_is_IsNumeral n (omega arith)).1

colon : (n : ℕ) → IsPart n → Without 58 (decimal n)
colon n small = without 58 (decimal n) (λ c digit. not_colon c digit) (digits_of_decimal n small)

low_mark : (mark n : ℕ) → mark < 48 → IsPart n → Without mark (decimal n)
low_mark mark n low small = without mark (decimal n) (λ c digit. not_mark c mark digit low) (digits_of_decimal n small)

node_is : (node point : ℕ) → IsPart node → IsPart point → (address_number (before 46 (decimal node ++ point_text point)) ≡ node) × (address_number (past 46 (decimal node ++ point_text point)) ≡ point)
node_is node zero small tiny =
    let text : List ℕ = decimal node in
    let w = low_mark 46 node (omega arith) small in
    let whole : before 46 text ≡ text = ap (λ n. take n text) (prefix_all 46 text w) ∙ take_all (length text) text (omega arith) in
    let none : past 46 text ≡ [] = ap (λ xs. drop (suc (length xs)) text) whole ∙ drop_all (suc (length text)) text (omega arith) in
    (ap (λ xs. address_number (before 46 xs)) (append-nil text) ∙ (ap address_number whole ∙ number_is node small), ap (λ xs. address_number (past 46 xs)) (append-nil text) ∙ ap address_number none)
node_is node (suc point) small tiny =
    let w = low_mark 46 node (omega arith) small in
    (ap address_number (before_is 46 (decimal node) (decimal (suc point)) w) ∙ number_is node small, ap address_number (past_is 46 (decimal node) (decimal (suc point)) w) ∙ number_is (suc point) tiny)

passes : (zone net node point : ℕ) (text : List ℕ) → IsPart zone → IsPart net → IsPart node → IsPart point → text ≡ decimal zone ++ (58 ∷ (decimal net ++ (47 ∷ (decimal node ++ point_text point)))) → is_address_of zone net node point text ≡ true
passes zone net node point text a b c d whole =
    and_from _ _ (and_from _ _ (and_from _ _ (le-leb zone 32767 a) (le-leb net 32767 b)) (and_from _ _ (le-leb node 32767 c) (le-leb point 32767 d))) ((bytes_eq-Decides text _).1 whole)

pub is_test : (text : List ℕ) → IsAddress text → is_address text ≡ true
unfolding is_address
is_test text a =
    let tail : List ℕ = decimal a.node ++ point_text a.point in
    let behind : List ℕ = decimal a.net ++ (47 ∷ tail) in
    let w = colon a.zone a.small.0 in
    let v = low_mark 47 a.net (omega arith) a.small.1 in
    let rest : past 58 text ≡ behind = ap (past 58) a.whole ∙ past_is 58 (decimal a.zone) behind w in
    let last : past 47 (past 58 text) ≡ tail = ap (past 47) rest ∙ past_is 47 (decimal a.net) tail v in
    let zone : address_number (before 58 text) ≡ a.zone = ap (λ xs. address_number (before 58 xs)) a.whole ∙ (ap address_number (before_is 58 (decimal a.zone) behind w) ∙ number_is a.zone a.small.0) in
    let net : address_number (before 47 (past 58 text)) ≡ a.net = ap (λ xs. address_number (before 47 xs)) rest ∙ (ap address_number (before_is 47 (decimal a.net) tail v) ∙ number_is a.net a.small.1) in
    let node = node_is a.node a.point a.small.2 a.small.3 in
    ap (λ n. is_address_with n (address_number (before 47 (past 58 text))) (past 47 (past 58 text)) text) zone
    ∙ (ap (λ n. is_address_with a.zone n (past 47 (past 58 text)) text) net
    ∙ (ap (λ xs. is_address_with a.zone a.net xs text) last
    ∙ (ap (λ n. is_address_of a.zone a.net n (address_number (past 46 tail)) text) node.0
    ∙ (ap (λ n. is_address_of a.zone a.net a.node n text) node.1 ∙ passes a.zone a.net a.node a.point text a.small.0 a.small.1 a.small.2 a.small.3 a.whole))))

pub test_of : (text : List ℕ) (b : Bool) → IsTrue b ↔ IsAddress text → b ≡ is_address text
test_of text b same = decided b (is_address text) (λ e. is_test text (same.0 e)) (λ e. same.1 (test_is text e))
