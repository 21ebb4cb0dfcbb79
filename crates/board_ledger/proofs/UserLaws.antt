-- A user's record is read exactly where its text stands, in either version.
use Rattle.std.proofs.Common.{◌≡◌, ℕ, zero, suc, ◌+◌, ◌^◌, ◌≤◌, ◌<◌, Bool, true, false, cond, not, eqb, ltb, List, ◌∷◌, ◌++◌, length, get_or, drop, Ok, refl, sym, ap, ◌∙◌, subst, arith, length-append}
use Rattle.std.specs.Prelude.{All}
use Rattle.std.proofs.Math.Nat.{pow-le-pow_right}
use Rattle.std.proofs.lemmas.Bool.{ltb-false, ltb-true, le-ltb, and_parts}
use Rattle.jam_records.specs.byte_lists.Byte.{IsByte}
use Rattle.jam_records.specs.record_numbers.Numbers.{u32_at, u32_text, IsU32}
use Rattle.jam_records.proofs.record_numbers.NumberFronts.{u32_front, u32_small}
use Rattle.damage_rules.proofs.KeptRules.{Kept, rules_kept, kept_rules}
use Rattle.setup_file.specs.Texts.{is_user_name}
use Rattle.open_offers.specs.Offers.{behind_last, behind_size, cell_count, cells_behind, cells_for, members_at, open_in}
use Rattle.open_offers.specs.Texts.{sized_text, text_at, text_end}
use Rattle.board_ledger.specs.Users.{behind_name, user_text, user_end, user_record_of, user_in_record, with_open, is_taken, right_members, right_offers, user_rules, user_at, IsUser, IsOldUser}
use Rattle.open_offers.specs.declared.offer.OpenOffer.{OpenOffer}
use Rattle.board_ledger.specs.declared.user.User.{User}
use Rattle.open_offers.specs.declared.version.Version.{Version}
use Rattle.open_offers.specs.declared.version.Version.TheVariants.{First}
use Rattle.damage_rules.proofs.BoolTests.{not_not}
use Rattle.open_offers.proofs.CellBytes.{behind_again, behind_front, has_read}
use Rattle.open_offers.proofs.OfferLaws.{HasCells, has_cells, offers_again, read_offers, read_old, right_again, written_cells}
use Rattle.board_ledger.proofs.SetupBounds.{user_small}
use Rattle.board_ledger.proofs.SizeLaws.{user_length}
use Rattle.open_offers.proofs.TextLaws.{glue, split, byte_front, byte_again, u32_again, text_front, text_again}

-- a user that is right behind those before, in a version
abbrev pub UserRight : Version → ℕ → List User → User → Type 0
UserRight v count before u = (IsUser count u × (v ≡ First → IsOldUser u)) × (is_taken before u.name ≡ false)

-- ---- what is read is written so
flag_same : (n : ℕ) → n ≤ 1 → cond (eqb n 1) 1 0 ≡ n
flag_same zero most = refl
flag_same (suc zero) most = refl
flag_same (suc (suc n)) most = absurd (omega arith)

-- what is behind a name that ends at a place
name_front : (v : Version) (place count : ℕ) (bytes : List ℕ) → All IsByte bytes → place + behind_name v count ≤ length bytes → get_or bytes place 0 ≤ 1
    → drop place bytes
    ≡ (cond (eqb (get_or bytes place 0) 1) 1 0 ∷ (u32_text (u32_at (place + 1) bytes) ++ behind_last v (members_at v (place + 5) bytes) (cells_behind v (place + 5) count bytes)))
    ++ drop (place + behind_name v count) bytes
name_front v place count bytes all long flag =
    let last : List ℕ = u32_text (u32_at (place + 1) bytes) in
    let rest : List ℕ = behind_last v (members_at v (place + 5) bytes) (cells_behind v (place + 5) count bytes) in
    let end : List ℕ = drop (place + behind_name v count) bytes in
    let at5 : drop (place + 1 + 4) bytes ≡ drop (place + 5) bytes = ap (λ k. drop k bytes) (omega arith) in
    let at_end : drop (place + 5 + behind_size v count) bytes ≡ end = ap (λ k. drop k bytes) (omega arith) in
    let a : drop place bytes ≡ cond (eqb (get_or bytes place 0) 1) 1 0 ∷ drop (place + 1) bytes = byte_front place bytes (omega arith) ∙ ap (λ n. n ∷ drop (place + 1) bytes) (sym (flag_same (get_or bytes place 0) flag)) in
    let b : drop (place + 1) bytes ≡ last ++ drop (place + 5) bytes = u32_front (place + 1) bytes all (omega arith) ∙ ap (λ xs. last ++ xs) at5 in
    let d : drop (place + 5) bytes ≡ rest ++ end = behind_front v (place + 5) count bytes all (omega arith) ∙ ap (λ xs. rest ++ xs) at_end in
    a ∙ ap (λ xs. cond (eqb (get_or bytes place 0) 1) 1 0 ∷ xs) (glue (drop (place + 1) bytes) last rest end (drop (place + 5) bytes) b d)

-- the numbers and the cells that are read
numbers_fit : (v : Version) (count : ℕ) (bytes : List ℕ) → All IsByte bytes → IsU32 (user_record_of v count bytes).last × HasCells v count (user_record_of v count bytes).offers
unfolding user_record_of
numbers_fit v count bytes all = (u32_small (text_end 0 bytes + 1) bytes all, has_read v (text_end 0 bytes + 5) count bytes all)

user_front : (v : Version) (count : ℕ) (bytes : List ℕ) → All IsByte bytes → user_end v count bytes ≤ length bytes → get_or bytes (text_end 0 bytes) 0 ≤ 1 → right_offers v (user_record_of v count bytes) ≡ true
    → bytes ≡ user_text v count (user_in_record v count bytes) ++ drop (user_end v count bytes) bytes
unfolding user_text user_record_of user_end
user_front v count bytes all long flag right =
    let place : ℕ = text_end 0 bytes in
    let cells : List OpenOffer = cells_behind v (place + 5) count bytes in
    let again : cells ≡ cells_for count (cell_count v) (open_in cells) =
    sym (written_cells v count (members_at v (place + 5) bytes) (u32_at (place + 1) bytes) cells (has_read v (place + 5) count bytes all) right) in
    let behind : drop place bytes ≡ (cond (eqb (get_or bytes place 0) 1) 1 0 ∷ (u32_text (u32_at (place + 1) bytes) ++ behind_last v (members_at v (place + 5) bytes) (cells_for count (cell_count v) (open_in cells)))) ++ drop (place + behind_name v count) bytes =
    name_front v place count bytes all long flag
    ∙ ap (λ (os : List OpenOffer). (cond (eqb (get_or bytes place 0) 1) 1 0 ∷ (u32_text (u32_at (place + 1) bytes) ++ behind_last v (members_at v (place + 5) bytes) os)) ++ drop (place + behind_name v count) bytes) again in
    glue bytes (sized_text (text_at 0 bytes)) _ (drop (place + behind_name v count) bytes) (drop place bytes) (text_front 0 bytes all (omega arith)) behind

pub user_takes : (v : Version) (count : ℕ) (before : List User) (bytes : List ℕ) (x : User × ℕ) → All IsByte bytes → user_at v count before bytes ≡ Ok x → (bytes ≡ user_text v count x.0 ++ drop x.1 bytes) × UserRight v count before x.0
unfolding user_at user_rules
user_takes v count before bytes x all e =
    let u : User = user_record_of v count bytes in
    let k = rules_kept 0 (1 + count + length before) (user_rules v count before bytes) (user_in_record v count bytes, user_end v count bytes) x e in
    let long : user_end v count bytes ≤ length bytes = ltb-false (length bytes) (user_end v count bytes) k.0.0 in
    let flag = ltb-false 1 (get_or bytes (text_end 0 bytes) 0) k.0.1.1.1.0 in
    let right : right_offers v u ≡ true = not_not _ k.0.1.1.1.1.1.0 in
    let fit = numbers_fit v count bytes all in
    let ok : IsUser count (user_in_record v count bytes) = record {
      name = not_not _ k.0.1.0;
      members = not_not _ k.0.1.1.1.1.0;
      last = fit.0;
      offers = read_offers v count u.members u.last u.offers fit.1 right;
    } in
    let old : v ≡ First → IsOldUser (user_in_record v count bytes) = read_old v count u.members u.last u.offers fit.1 right in
    subst (λ (y : User × ℕ). (bytes ≡ user_text v count y.0 ++ drop y.1 bytes) × UserRight v count before y.0) k.1 (user_front v count bytes all long flag right, ((ok, old), k.0.1.1.0))

-- ---- what is written is read
pow_grows : (m n : ℕ) → m ≤ n → 2 ^ m ≤ 2 ^ n
pow_grows m n le = pow-le-pow_right (omega arith) le

members_small : (count members : ℕ) → count ≤ 64 → right_members count members ≡ true → members < 2 ^ 64
unfolding right_members
members_small count members few e =
    let below : members < 2 ^ count = ltb-true members (2 ^ count) (and_parts (not (eqb members 0)) (ltb members (2 ^ count)) e).1 in
    let power : 2 ^ count ≤ 2 ^ 64 = pow_grows count 64 few in
    omega arith

flag_back : (net : Bool) → (eqb (cond net 1 0) 1 ≡ net) × (cond net 1 0 ≤ 1)
flag_back true = (refl, omega arith)
flag_back false = (refl, omega arith)

abbrev made : List ℕ → Bool → ℕ → ℕ → List OpenOffer → User
made name net members last offers = record { name = name; net = net; members = members; last = last; offers = offers }

-- the user as the record has him, with all cells as his offers
abbrev with_cells : Version → ℕ → User → User
with_cells v count u = record u { offers = cells_for count (cell_count v) u.offers }

pub record Stands (v : Version) (count : ℕ) (bytes : List ℕ) (u : User) : Type 0 where
  pub is : user_record_of v count bytes ≡ with_cells v count u
  pub flag : get_or bytes (text_end 0 bytes) 0 ≤ 1
  pub end : user_end v count bytes ≡ (2 + length u.name) + behind_name v count

user_back : (v : Version) (count : ℕ) (u : User) (rest : List ℕ) → length u.name < 2 ^ 16 → u.members < 2 ^ 64 → IsU32 u.last → HasCells v count (cells_for count (cell_count v) u.offers) → Stands v count (user_text v count u ++ rest) u
unfolding user_text user_record_of user_end
user_back v count u rest name members last cells =
    let flag : ℕ = cond u.net 1 0 in
    let l : List ℕ = u32_text u.last in
    let c : List ℕ = behind_last v u.members (cells_for count (cell_count v) u.offers) in
    let whole : List ℕ = (sized_text u.name ++ (flag ∷ (l ++ c))) ++ rest in
    let t = text_again 0 whole u.name ((flag ∷ (l ++ c)) ++ rest) name (split whole (sized_text u.name) (flag ∷ (l ++ c)) rest refl) in
    let place : ℕ = text_end 0 whole in
    let a = byte_again place whole flag ((l ++ c) ++ rest) t.behind in
    let b = u32_again (place + 1) whole u.last (c ++ rest) last (split (drop (place + 1) whole) l c rest a.1) in
    let at5 : drop (place + 5) whole ≡ c ++ rest = ap (λ k. drop k whole) (omega arith) ∙ b.1 in
    let d = behind_again v (place + 5) count whole u.members (cells_for count (cell_count v) u.offers) rest cells members at5 in
    let back = flag_back u.net in
    let net : eqb (get_or whole place 0) 1 ≡ u.net = ap (λ n. eqb n 1) a.0 ∙ back.0 in
    record {
      is = λ i. made (t.is i) (net i) (d.members_are i) (b.0 i) (d.cells_are i);
      flag = omega (arith, a.0, back.1);
      end = omega (arith, t.end);
    }

pub user_again : (v : Version) (count : ℕ) (before : List User) (u : User) (rest : List ℕ) → count ≤ 64 → UserRight v count before u → user_at v count before (user_text v count u ++ rest) ≡ Ok (u, length (user_text v count u))
unfolding user_at user_rules
user_again v count before u rest few right =
    let ok = right.0.0 in
    let old = right.0.1 in
    let whole : List ℕ = user_text v count u ++ rest in
    let small = user_small u.name ok.name in
    let back = user_back v count u rest (omega (arith, small)) (members_small count u.members few ok.members) ok.last (has_cells v count u.members u.last u.offers ok.last ok.offers) in
    let size = user_length v count u ok in
    let end : user_end v count whole ≡ length (user_text v count u) = omega (arith, back.end, size) in
    let long : user_end v count whole ≤ length whole = omega (arith, length-append (user_text v count u) rest, end) in
    let is : user_in_record v count whole ≡ u = ap with_open back.is ∙ ap (λ (os : List OpenOffer). made u.name u.net u.members u.last os) (offers_again v count u.members u.last u.offers ok.offers old) in
    let kept : Kept (user_rules v count before whole) = (
      le-ltb _ _ long,
      (
        ap (λ (x : User). not (is_user_name x.name)) back.is ∙ ap not ok.name,
        (
          ap (λ (x : User). is_taken before x.name) back.is ∙ right.1,
          (
            le-ltb _ _ back.flag,
            (
              ap (λ (x : User). not (right_members count x.members)) back.is ∙ ap not ok.members,
              (ap (λ (x : User). not (right_offers v x)) back.is ∙ ap not (right_again v count u.members u.last u.offers ok.offers old), tt),
            ),
          ),
        ),
      ),
    ) in
    kept_rules 0 (1 + count + length before) (user_rules v count before whole) (user_in_record v count whole, user_end v count whole) kept ∙ λ i. Ok (is i, end i)
