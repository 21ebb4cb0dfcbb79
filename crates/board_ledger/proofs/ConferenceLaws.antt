-- A conference's record is read exactly where its text stands.
use Rattle.std.proofs.Common.{◌≡◌, ℕ, zero, suc, ◌+◌, ◌^◌, ◌≤◌, ◌<◌, Bool, true, false, cond, not, eqb, ltb, leb, ◌||◌, List, [], ◌∷◌, ◌++◌, length, get_or, drop, Ok, refl, sym, ap, ◌∙◌, subst, arith, length-append}
use Rattle.std.specs.Prelude.{All, IsTrue}
use Rattle.std.proofs.lemmas.Bool.{ltb-false, le-ltb, and_parts}
use Rattle.std.proofs.lemmas.Bool.Decides.{nat_tests}
use Rattle.jam_records.specs.byte_lists.Byte.{IsByte}
use Rattle.jam_records.specs.record_numbers.Numbers.{u16_at, u16_text}
use Rattle.jam_records.proofs.record_numbers.NumberFronts.{u16_front}
use Rattle.jam_records.specs.declared.message.Kind.{Kind}
use Rattle.jam_records.specs.declared.message.Kind.TheVariants.{Local, Echo, Net}
use Rattle.damage_rules.proofs.KeptRules.{Kept, rules_kept, kept_rules}
use Rattle.setup_file.specs.Rising.{rise_above, are_rising}
use Rattle.setup_file.specs.Texts.{is_conference_name}
use Rattle.setup_file.specs.Valid.{IsSetupConference, numbers_of}
use Rattle.setup_file.specs.declared.conference.Conference.{Conference}
use Rattle.board_ledger.specs.Records.{EachBehind}
use Rattle.open_offers.specs.Texts.{sized_text, text_at, text_end}
use Rattle.board_ledger.specs.Conferences.{kind_number, kind_of_number, rules_number, conference_text, conference_fields, out_of_order, conference_record_rules, conference_at}
use Rattle.damage_rules.proofs.BoolTests.{not_not, both_pass}
use Rattle.board_ledger.proofs.SetupBounds.{name_small}
use Rattle.board_ledger.proofs.SizeLaws.{conference_length}
use Rattle.board_ledger.proofs.OpeningTests.{end_above}
use Rattle.open_offers.proofs.TextLaws.{glue, split, u16_small, byte_front, byte_again, u16_again, text_front, text_again}

-- a conference that is right behind those before
abbrev pub ConferenceRight : List Conference → Conference → Type 0
ConferenceRight before c = IsSetupConference c × (out_of_order before c.number ≡ false)

-- ---- kinds and rules as numbers
kind_same : (n : ℕ) → n ≤ 2 → kind_number (kind_of_number n) ≡ n
kind_same zero most = refl
kind_same (suc zero) most = refl
kind_same (suc (suc zero)) most = refl
kind_same (suc (suc (suc n))) most = absurd (omega arith)

rules_same : (n : ℕ) → n ≤ 3 → cond (eqb n 1 || eqb n 3) 1 0 + cond (eqb n 2 || eqb n 3) 2 0 ≡ n
rules_same zero most = refl
rules_same (suc zero) most = refl
rules_same (suc (suc zero)) most = refl
rules_same (suc (suc (suc zero))) most = refl
rules_same (suc (suc (suc (suc n)))) most = absurd (omega arith)

kind_back : (k : Kind) → (kind_of_number (kind_number k) ≡ k) × (kind_number k ≤ 2)
kind_back Local = (refl, omega arith)
kind_back Echo = (refl, omega arith)
kind_back Net = (refl, omega arith)

abbrev rules_of : Bool → Bool → ℕ
rules_of readonly private = cond readonly 1 0 + cond private 2 0

rules_back : (r p : Bool) → ((eqb (rules_of r p) 1 || eqb (rules_of r p) 3) ≡ r) × ((eqb (rules_of r p) 2 || eqb (rules_of r p) 3) ≡ p) × (rules_of r p ≤ 3)
rules_back true true = (refl, refl, omega arith)
rules_back true false = (refl, refl, omega arith)
rules_back false true = (refl, refl, omega arith)
rules_back false false = (refl, refl, omega arith)

-- ---- what is read is written so
conference_front : (bytes : List ℕ) → All IsByte bytes → text_end 4 bytes ≤ length bytes → get_or bytes 2 0 ≤ 2 → get_or bytes 3 0 ≤ 3 → bytes ≡ conference_text (conference_fields bytes) ++ drop (text_end 4 bytes) bytes
unfolding conference_text conference_fields
conference_front bytes all long kind rules =
    let above = end_above 4 bytes in
    let name : List ℕ = sized_text (text_at 4 bytes) in
    let rest : List ℕ = drop (text_end 4 bytes) bytes in
    let k : drop 2 bytes ≡ kind_number (kind_of_number (get_or bytes 2 0)) ∷ drop 3 bytes = byte_front 2 bytes (omega arith) ∙ ap (λ n. n ∷ drop 3 bytes) (sym (kind_same (get_or bytes 2 0) kind)) in
    let r : drop 3 bytes ≡ rules_of (eqb (get_or bytes 3 0) 1 || eqb (get_or bytes 3 0) 3) (eqb (get_or bytes 3 0) 2 || eqb (get_or bytes 3 0) 3) ∷ drop 4 bytes =
    byte_front 3 bytes (omega arith) ∙ ap (λ n. n ∷ drop 4 bytes) (sym (rules_same (get_or bytes 3 0) rules)) in
    let t : drop 4 bytes ≡ name ++ rest = text_front 4 bytes all long in
    let behind : drop 2 bytes ≡ (kind_number (kind_of_number (get_or bytes 2 0)) ∷ rules_of (eqb (get_or bytes 3 0) 1 || eqb (get_or bytes 3 0) 3) (eqb (get_or bytes 3 0) 2 || eqb (get_or bytes 3 0) 3) ∷ name) ++ rest =
    k ∙ ap (λ xs. kind_number (kind_of_number (get_or bytes 2 0)) ∷ xs) (r ∙ ap (λ xs. rules_of (eqb (get_or bytes 3 0) 1 || eqb (get_or bytes 3 0) 3) (eqb (get_or bytes 3 0) 2 || eqb (get_or bytes 3 0) 3) ∷ xs) t) in
    glue bytes (u16_text (u16_at 0 bytes)) (kind_number (kind_of_number (get_or bytes 2 0)) ∷ rules_of (eqb (get_or bytes 3 0) 1 || eqb (get_or bytes 3 0) 3) (eqb (get_or bytes 3 0) 2 || eqb (get_or bytes 3 0) 3) ∷ name) rest (drop 2 bytes)
    (u16_front 0 bytes all (omega arith)) behind

number_small : (bytes : List ℕ) → All IsByte bytes → (conference_fields bytes).number < 2 ^ 16
unfolding conference_fields
number_small bytes all = u16_small 0 bytes all

name_is : (bytes : List ℕ) → (conference_fields bytes).name ≡ text_at 4 bytes
unfolding conference_fields
name_is bytes = refl

number_is : (bytes : List ℕ) → (conference_fields bytes).number ≡ u16_at 0 bytes
unfolding conference_fields
number_is bytes = refl

pub conference_takes : (before : List Conference) (bytes : List ℕ) (x : Conference × ℕ) → All IsByte bytes → conference_at before bytes ≡ Ok x → (bytes ≡ conference_text x.0 ++ drop x.1 bytes) × ConferenceRight before x.0
unfolding conference_at conference_record_rules
conference_takes before bytes x all e =
    let k = rules_kept 0 (1 + length before) (conference_record_rules before bytes) (conference_fields bytes, text_end 4 bytes) x e in
    let long : text_end 4 bytes ≤ length bytes = ltb-false (length bytes) (text_end 4 bytes) k.0.0 in
    let kind = ltb-false 2 (get_or bytes 2 0) k.0.1.0 in
    let rules = ltb-false 3 (get_or bytes 3 0) k.0.1.1.0 in
    let name : IsTrue (is_conference_name (conference_fields bytes).name) = ap is_conference_name (name_is bytes) ∙ not_not _ k.0.1.1.1.0 in
    let order : out_of_order before (conference_fields bytes).number ≡ false = ap (out_of_order before) (number_is bytes) ∙ k.0.1.1.1.1.0 in
    let ok : IsSetupConference (conference_fields bytes) = record { number = number_small bytes all; name = name } in
    subst (λ (y : Conference × ℕ). (bytes ≡ conference_text y.0 ++ drop y.1 bytes) × ConferenceRight before y.0) k.1 (conference_front bytes all long kind rules, (ok, order))

-- ---- what is written is read
abbrev made : ℕ → Kind → Bool → Bool → List ℕ → Conference
made number kind readonly private name = record { number = number; kind = kind; readonly = readonly; private = private; name = name }

pub record Stands (bytes : List ℕ) (c : Conference) : Type 0 where
  pub is : conference_fields bytes ≡ c
  pub number : u16_at 0 bytes ≡ c.number
  pub kind : get_or bytes 2 0 ≤ 2
  pub rules : get_or bytes 3 0 ≤ 3
  pub name : text_at 4 bytes ≡ c.name
  pub end : text_end 4 bytes ≡ 4 + 2 + length c.name

conference_back : (c : Conference) (rest : List ℕ) → c.number < 2 ^ 16 → length c.name < 2 ^ 16 → Stands (conference_text c ++ rest) c
unfolding conference_text conference_fields
conference_back c rest number name =
    let k : ℕ = kind_number c.kind in
    let r : ℕ = rules_number c in
    let whole : List ℕ = (u16_text c.number ++ (k ∷ r ∷ sized_text c.name)) ++ rest in
    let a = u16_again 0 whole c.number ((k ∷ r ∷ sized_text c.name) ++ rest) number (split whole (u16_text c.number) (k ∷ r ∷ sized_text c.name) rest refl) in
    let b = byte_again 2 whole k (r ∷ sized_text c.name ++ rest) a.1 in
    let d = byte_again 3 whole r (sized_text c.name ++ rest) b.1 in
    let e = text_again 4 whole c.name rest name d.1 in
    let kind = kind_back c.kind in
    let rules = rules_back c.readonly c.private in
    let one : (eqb (get_or whole 3 0) 1 || eqb (get_or whole 3 0) 3) ≡ c.readonly = ap (λ n. eqb n 1 || eqb n 3) d.0 ∙ rules.0 in
    let two : (eqb (get_or whole 3 0) 2 || eqb (get_or whole 3 0) 3) ≡ c.private = ap (λ n. eqb n 2 || eqb n 3) d.0 ∙ rules.1 in
    let which : kind_of_number (get_or whole 2 0) ≡ c.kind = ap kind_of_number b.0 ∙ kind.0 in
    record {
      is = λ i. made (a.0 i) (which i) (one i) (two i) (e.is i);
      number = a.0;
      kind = omega (arith, b.0, kind.1);
      rules = omega (arith, d.0, rules.2);
      name = e.is;
      end = e.end;
    }

pub conference_again : (before : List Conference) (c : Conference) (rest : List ℕ) → ConferenceRight before c → conference_at before (conference_text c ++ rest) ≡ Ok (c, length (conference_text c))
unfolding conference_at conference_record_rules
conference_again before c rest right =
    let ok = right.0 in
    let whole : List ℕ = conference_text c ++ rest in
    let small = name_small c.name ok.name in
    let back = conference_back c rest ok.number (omega (arith, small)) in
    let size = conference_length c in
    let end : text_end 4 whole ≡ length (conference_text c) = omega (arith, back.end, size) in
    let long : text_end 4 whole ≤ length whole = omega (arith, length-append (conference_text c) rest, end) in
    let kept : Kept (conference_record_rules before whole) = (
      le-ltb _ _ long,
      (
        le-ltb _ _ back.kind,
        (
          le-ltb _ _ back.rules,
          (
            ap (λ xs. not (is_conference_name xs)) back.name ∙ ap not ok.name,
            (ap (out_of_order before) back.number ∙ right.1, tt),
          ),
        ),
      ),
    ) in
    kept_rules 0 (1 + length before) (conference_record_rules before whole) (conference_fields whole, text_end 4 whole) kept ∙ λ i. Ok (back.is i, end i)

-- ---- each is in order behind those before, exactly where the numbers rise
abbrev InOrder : List Conference → Conference → Type 0
InOrder before c = out_of_order before c.number ≡ false

last_is : (before : List Conference) (c : Conference) (n : ℕ) → out_of_order (before ++ c ∷ []) n ≡ leb n c.number
last_is [] c n = refl
last_is (b ∷ []) c n = refl
last_is (b ∷ d ∷ before) c n = last_is (d ∷ before) c n

above : (m n : ℕ) → leb n m ≡ false → ltb m n ≡ true
above m n e = grind (arith, nat_tests)

not_above : (m n : ℕ) → ltb m n ≡ true → leb n m ≡ false
not_above m n e = grind (arith, nat_tests)

rises : (before : List Conference) (c : Conference) (cs : List Conference) → EachBehind InOrder (before ++ c ∷ []) cs → rise_above c.number (numbers_of cs) ≡ true
rises before c [] each = refl
rises before c (d ∷ cs) each =
    both_pass (ltb c.number d.number) (rise_above d.number (numbers_of cs)) (above c.number d.number (sym (last_is before c d.number) ∙ each.0)) (rises (before ++ c ∷ []) d cs each.1)

risen : (before : List Conference) (c : Conference) (cs : List Conference) → rise_above c.number (numbers_of cs) ≡ true → EachBehind InOrder (before ++ c ∷ []) cs
risen before c [] e = tt
risen before c (d ∷ cs) e =
    let parts = and_parts (ltb c.number d.number) (rise_above d.number (numbers_of cs)) e in
    (last_is before c d.number ∙ not_above c.number d.number parts.0, risen (before ++ c ∷ []) d cs parts.1)

pub order_rises : (cs : List Conference) → EachBehind InOrder [] cs → are_rising (numbers_of cs) ≡ true
order_rises [] each = refl
order_rises (c ∷ cs) each = rises [] c cs each.1

pub rising_order : (cs : List Conference) → are_rising (numbers_of cs) ≡ true → EachBehind InOrder [] cs
rising_order [] e = tt
rising_order (c ∷ cs) e = (refl, risen [] c cs e)
