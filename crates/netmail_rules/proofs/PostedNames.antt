-- What an address line names fits into a message.
use Rattle.std.proofs.Common.{◌≡◌, ℕ, ◌+◌, ◌-◌, ◌≤◌, Bool, true, false, cond, ◌&&◌, Option, Some, None, List, [], ◌∷◌, length, take, drop, refl, sym, ap, ◌∙◌, subst, arith, length-drop}
use Rattle.std.proofs.lemmas.Bool.{leb-true, and_parts}
use Rattle.std.proofs.lemmas.List.{drop-take, length-take-le}
use Rattle.std.proofs.lemmas.List.Sums.{prefix_len-le-length}
use Rattle.std.specs.List.{prefix_len, suffix_len, slice_range}
use Rattle.std.specs.Option.{option_map}
use Rattle.std.specs.Prelude.{not, ◌==◌}
use Rattle.std.proofs.lemmas.Option.{same_Some}
use Rattle.setup_file.specs.Words.{is_space, is_number, number_of}
use Rattle.jam_records.specs.Addresses.{IsPart, IsAddress}
use Rattle.jam_layout.specs.Address.{before, past, is_part}
use Rattle.jam_layout.specs.Fields.{is_text}
use Rattle.netmail_rules.specs.AddressLine.{part_of, point_of, both, node_of, address_from, address_of, name_part, address_part, name_end, naming, net_line, stored_address}
use Rattle.netmail_rules.specs.declared.address.Address.{Address}
use Rattle.netmail_rules.specs.declared.net_line.NetLine.{NetLine}

pub chosen : {A : Type 0} (b : Bool) (o : Option A) (x : A) → cond b o None ≡ Some x → (b ≡ true) × (o ≡ Some x)
chosen true o x e = (refl, e)
chosen false o x e = absurd (cc)

mapped : {A B : Type 0} (f : A → B) (o : Option A) (y : B) → option_map f o ≡ Some y → (x : A) × (o ≡ Some x) × (f x ≡ y)
mapped f None y e = absurd (cc)
mapped f (Some x) y e = (x, refl, same_Some (f x) y e)

part_small : (digits : List ℕ) (n : ℕ) → part_of digits ≡ Some n → IsPart n
unfolding part_of
part_small digits n e =
    let c = chosen (is_number digits && is_part (number_of digits)) (Some (number_of digits)) n e in
    let small : number_of digits ≤ 32767 = leb-true (number_of digits) 32767 (and_parts (is_number digits) (is_part (number_of digits)) c.0).1 in
    let same : number_of digits ≡ n = same_Some (number_of digits) n c.1 in
    omega arith

point_small : (text : List ℕ) (n : ℕ) → point_of text ≡ Some n → IsPart n
point_small [] n e = let same : 0 ≡ n = same_Some 0 n e in omega arith
point_small (mark ∷ digits) n e = part_small digits n e

both_there : (x y : Option ℕ) (p : ℕ × ℕ) → both x y ≡ Some p → (x ≡ Some p.0) × (y ≡ Some p.1)
both_there None y p e = absurd (cc)
both_there (Some a) None p e = absurd (cc)
both_there (Some a) (Some b) p e = let same : (a, b) ≡ p = same_Some (a, b) p e in (ap (λ (q : ℕ × ℕ). Some q.0) same, ap (λ (q : ℕ × ℕ). Some q.1) same)

node_small : (text : List ℕ) (p : ℕ × ℕ) → node_of text ≡ Some p → IsPart p.0 × IsPart p.1
unfolding node_of
node_small text p e =
    let b = both_there (part_of (before 46 text)) (point_of (drop (length (before 46 text)) text)) p e in
    (part_small (before 46 text) p.0 b.0, point_small (drop (length (before 46 text)) text) p.1 b.1)

all_there : (z n : Option ℕ) (k : Option (ℕ × ℕ)) (a : Address) → address_from z n k ≡ Some a → (z ≡ Some a.zone) × (n ≡ Some a.net) × (k ≡ Some (a.node, a.point))
all_there None n k a e = absurd (cc)
all_there (Some z) None k a e = absurd (cc)
all_there (Some z) (Some n) None a e = absurd (cc)
all_there (Some z) (Some n) (Some p) a e =
    let same : record { zone = z; net = n; node = p.0; point = p.1 } ≡ a = same_Some (record { zone = z; net = n; node = p.0; point = p.1 }) a e in
    (ap (λ (b : Address). Some b.zone) same, ap (λ (b : Address). Some b.net) same, ap (λ (b : Address). Some (b.node, b.point)) same)

-- an address that is read is stored as one
address_stored : (text : List ℕ) (a : Address) → address_of text ≡ Some a → IsAddress (stored_address a)
unfolding address_of
address_stored text a e =
    let parts = all_there (part_of (before 58 text)) (part_of (before 47 (past 58 text))) (node_of (past 47 (past 58 text))) a e in
    let node = node_small (past 47 (past 58 text)) (a.node, a.point) parts.2 in
    record {
      zone = a.zone;
      net = a.net;
      node = a.node;
      point = a.point;
      small = (part_small (before 58 text) a.zone parts.0, part_small (before 47 (past 58 text)) a.net parts.1, node.0, node.1);
      whole = refl;
    }

-- the name between its places
name_between : (line : List ℕ) → slice_range line (name_end line - length (name_part line)) (name_end line) ≡ name_part line
name_between line =
    let k : ℕ = length line - suffix_len (λ b. not (b == 64)) line - 1 in
    let front : List ℕ = take k line in
    let p : ℕ = prefix_len is_space front in
    let end : length front ≡ k = length-take-le k line (omega arith) in
    let within : p ≤ length front = prefix_len-le-length is_space front in
    let size : length (drop p front) ≡ length front - p = length-drop p front in
    let from : length front - length (drop p front) ≡ p = omega arith in
    let rest : length front - p ≡ k - p = omega arith in
    let whole : p + (k - p) ≡ k = omega arith in
    ap (λ n. take (length front - n) (drop n line)) from
    ∙ (ap (λ n. take n (drop p line)) rest
    ∙ (sym (drop-take p (k - p) line) ∙ ap (λ n. drop p (take n line)) whole))

-- the name and the address that a line names
pub record NamesWell (line : List ℕ) (found : NetLine) : Type 0 where
  pub name : is_text 36 (slice_range line found.name_from found.name_to) ≡ true
  pub address : IsAddress (stored_address found.address)

pub names_well : (line : List ℕ) (found : NetLine) → net_line line ≡ Some found → NamesWell line found
unfolding net_line
names_well line found e =
    let c = chosen (is_text 36 (name_part line)) (option_map (naming (name_part line) (name_end line)) (address_of (address_part line))) found e in
    let m = mapped (naming (name_part line) (name_end line)) (address_of (address_part line)) found c.1 in
    let named : NamesWell line (naming (name_part line) (name_end line) m.0) = record {
      name = ap (is_text 36) (name_between line) ∙ c.0;
      address = address_stored (address_part line) m.0 m.1;
    } in
    subst (NamesWell line) m.2 named
