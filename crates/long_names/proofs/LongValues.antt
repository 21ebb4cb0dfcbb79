-- What a long value is, fact by fact.
use Rattle.std.proofs.Common.{◌≡◌, ℕ, ◌-◌, ◌<◌, ◌≤◌, Bool, true, false, not, List, length, get_or, sym, inl, inr, arith}
use Rattle.std.specs.Prelude.{◌&&◌, ◌==◌, nat_le, nat_lt, slice_index}
use Rattle.std.specs.List.{All, list_all}
use Rattle.std.proofs.lemmas.Bool.{and_parts, leb-true, ltb-true, eq-eqb, true≢false}
use Rattle.std.proofs.lemmas.List.Sums.{AllPass-from_list_all}
use Rattle.qwk_blocks.specs.Header.{IsPad}
use Rattle.qwk_blocks.specs.Text.{IsLine}
use Rattle.text_fields.specs.Trim.{EndsWithNone}
use Rattle.long_names.specs.Value.{is_space, is_plain_byte, is_long}
use Rattle.long_names.proofs.Shortening.{ends_from}

-- none of its bytes is below 20h or E3h
pub record IsLong (most : ℕ) (value : List ℕ) : Type 0 where
  pub over : 25 < length value
  pub most_bytes : length value ≤ most
  pub begins : get_or value 0 0 ≡ 32 → ⊥
  pub ends : get_or value (length value - 1) 0 ≡ 32 → ⊥
  pub plain : All (λ b. 0x20 ≤ b) value
  pub line : IsLine value

not_so : (test : Bool) → not test ≡ true → test ≡ true → ⊥
not_so true e x = true≢false (sym e)
not_so false e x = true≢false (sym x)

not_space : (b : ℕ) → not (is_space b) ≡ true → b ≡ 32 → ⊥
not_space b e is = not_so (is_space b) e (eq-eqb b 32 is)

pub long_is : (most : ℕ) (value : List ℕ) → is_long most value ≡ true → IsLong most value
unfolding is_long
long_is most value e =
    let size : Bool = nat_lt 25 (length value) && nat_le (length value) most in
    let first : Bool = not (is_space (slice_index value 0)) in
    let last : Bool = not (is_space (slice_index value (length value - 1))) in
    let parts = and_parts size ((first && last) && list_all is_plain_byte value) e in
    let sizes = and_parts (nat_lt 25 (length value)) (nat_le (length value) most) parts.0 in
    let behind = and_parts (first && last) (list_all is_plain_byte value) parts.1 in
    let ends = and_parts first last behind.0 in
    let each = AllPass-from_list_all is_plain_byte value behind.1 in
    record {
      over = ltb-true 25 (length value) sizes.0;
      most_bytes = leb-true (length value) most sizes.1;
      begins = not_space (get_or value 0 0) ends.0;
      ends = not_space (get_or value (length value - 1) 0) ends.1;
      plain = λ k d lt. leb-true 0x20 _ (and_parts (nat_le 0x20 (get_or value k d)) (not (get_or value k d == 0xE3)) (each k d lt)).0;
      line = λ k d lt is. not_so (get_or value k d == 0xE3) (and_parts (nat_le 0x20 (get_or value k d)) (not (get_or value k d == 0xE3)) (each k d lt)).1 (eq-eqb (get_or value k d) 0xE3 is);
    }

-- it ends with no space and no NUL
pub long_ends : (most : ℕ) (value : List ℕ) → is_long most value ≡ true → EndsWithNone IsPad value
long_ends most value e =
    let l : IsLong most value = long_is most value e in
    ends_from IsPad value (λ some pad. elim pad [
      | inl space ↦ l.ends space
      | inr nul ↦ let low : 0x20 ≤ get_or value (length value - 1) 0 = l.plain (length value - 1) 0 (omega arith) in omega (arith, low, nul)
    ])
