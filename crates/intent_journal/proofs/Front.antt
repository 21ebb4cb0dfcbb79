-- The patch at the front of a text.
use Rattle.std.proofs.Common.{◌≡◌, ◌≢◌, ℕ, zero, suc, ◌+◌, ◌*◌, ◌<◌, ◌≤◌, ◌^◌, List, [], ◌∷◌, ◌++◌, length, take, drop, refl, sym, ◌∙◌, ap, subst, arith, length-append, length-drop, length-take}
use Rattle.std.proofs.lemmas.List.{take_at, drop_at, drop-drop}
use Rattle.std.proofs.lemmas.List.Elements.{All-cons, All-head, All-tail}
use Rattle.std.proofs.lemmas.Bool.{and_parts, and_from, or_left, eq-eqb, ne_eqb, ltb-true, leb-true, le-leb, lt-ltb, not-true, true≢false, cond-true}
use Rattle.std.specs.Prelude.{All, Bool, true, false, not, ◌&&◌, ◌||◌, ◌==◌, nat_le, nat_lt, slice_index, if◌then◌else◌, Option, Some, None, option_and_then, option_map}
use Rattle.door_outside.specs.File.{is_data_file}
use Rattle.record_numbers.specs.Numbers.{u16_at, u32_at}
use Rattle.record_numbers.proofs.NumberLemmas.{number_of_bytes}
use Rattle.intent_journal.specs.declared.patch.Patch.{Patch}
use Rattle.intent_journal.specs.declared.patch.Patch.TheVariants.{Whole, Put}
use Rattle.intent_journal.specs.Patches.{file_of, patch_offset, bytes_of, is_whole}
use Rattle.intent_journal.specs.Spells.{IsFit}
use Rattle.intent_journal.specs.Journal.{patch_kind, patch_text, patches_text, begins_patch, patch_by, first_of, front, patches_of}

some_same : {A : Type 0} {x y : A} → Some x ≡ Some y → x ≡ y
some_same is = cc

pub of_choice : {A : Type 0} (b : Bool) (o : Option A) (x : A) → (if b then o else None) ≡ Some x → (b ≡ true) × (o ≡ Some x)
of_choice true o x is = (refl, is)
of_choice false o x is = absurd (cc)

pub front_is : (text : List ℕ) (next : Patch × List ℕ) → front text ≡ Some next → (begins_patch text ≡ true) × (first_of text ≡ next)
unfolding front
front_is text next is = let chosen = of_choice (begins_patch text) (Some (first_of text)) next is in (chosen.0, some_same chosen.1)

-- whether this is the number of a kind, with this place
abbrev pub is_kind : ℕ → ℕ → Bool
is_kind kind at = (kind == 0 && at == 0) || kind == 1

-- what a text that begins with a patch has
pub record Begun (text : List ℕ) : Type 0 where
  pub long : 11 + u32_at 7 text ≤ length text
  pub kind : is_kind (slice_index text 0) (u32_at 3 text) ≡ true
  pub in_range : u32_at 3 text + u32_at 7 text < 2 ^ 31
  pub known : u16_at 1 text < 258
  pub no_journal : u16_at 1 text ≢ 1

pub begun : (text : List ℕ) → begins_patch text ≡ true → Begun text
begun text is =
    let long = nat_le (11 + u32_at 7 text) (length text) in
    let kind = is_kind (slice_index text 0) (u32_at 3 text) in
    let in_range = nat_lt (u32_at 3 text + u32_at 7 text) (2 ^ 31) in
    let known = nat_lt (u16_at 1 text) 258 in
    let a = and_parts (long && kind && in_range) (known && not (u16_at 1 text == 1)) is in
    let b = and_parts known (not (u16_at 1 text == 1)) a.1 in
    let c = and_parts (long && kind) in_range a.0 in
    let d = and_parts long kind c.0 in
    record {
      long = leb-true (11 + u32_at 7 text) (length text) d.0;
      kind = d.1;
      in_range = ltb-true (u32_at 3 text + u32_at 7 text) (2 ^ 31) c.1;
      known = ltb-true (u16_at 1 text) 258 b.0;
      no_journal = λ one. true≢false (sym (eq-eqb (u16_at 1 text) 1 one) ∙ not-true (u16_at 1 text == 1) b.1);
    }

pub begins_by : (text : List ℕ) → Begun text → begins_patch text ≡ true
begins_by text b =
    and_from _ (is_data_file (u16_at 1 text))
    (and_from _ (nat_lt (u32_at 3 text + u32_at 7 text) (2 ^ 31))
    (and_from (nat_le (11 + u32_at 7 text) (length text)) (is_kind (slice_index text 0) (u32_at 3 text)) (le-leb _ _ b.long) b.kind) (lt-ltb _ _ b.in_range))
    (and_from (nat_lt (u16_at 1 text) 258) (not (u16_at 1 text == 1)) (lt-ltb _ _ b.known) (ap not (ne_eqb (u16_at 1 text) 1 b.no_journal)))

-- the parts of a patch that was read
pub file_by : (whole : Bool) (file at : ℕ) (bytes : List ℕ) → file_of (patch_by whole file at bytes) ≡ file
file_by true file at bytes = refl
file_by false file at bytes = refl

pub whole_by : (whole : Bool) (file at : ℕ) (bytes : List ℕ) → is_whole (patch_by whole file at bytes) ≡ whole
whole_by true file at bytes = refl
whole_by false file at bytes = refl

pub bytes_by : (whole : Bool) (file at : ℕ) (bytes : List ℕ) → bytes_of (patch_by whole file at bytes) ≡ bytes
bytes_by true file at bytes = refl
bytes_by false file at bytes = refl

fit_by : (whole : Bool) (file at : ℕ) (bytes : List ℕ) → file ≢ 1 → file < 258 → at + length bytes < 2 ^ 31 → IsFit (patch_by whole file at bytes)
fit_by true file at bytes no_journal known in_range = record { no_journal = no_journal; known = known; in_range = omega arith }
fit_by false file at bytes no_journal known in_range = record { no_journal = no_journal; known = known; in_range = in_range }

-- the patch that was read may stand in an intent, and what follows it is shorter
pub front_fit : (text after : List ℕ) (p : Patch) → front text ≡ Some (p, after) → IsFit p × (11 + length after ≤ length text)
front_fit text after p is =
    let parts = front_is text (p, after) is in
    let b = begun text parts.0 in
    let bytes = take (u32_at 7 text) (drop 11 text) in
    let p_is : p ≡ patch_by (slice_index text 0 == 0) (u16_at 1 text) (u32_at 3 text) bytes = ap (λ (x : Patch × List ℕ). x.0) (sym parts.1) in
    let after_is : after ≡ drop (11 + u32_at 7 text) text = ap (λ (x : Patch × List ℕ). x.1) (sym parts.1) in (
      subst IsFit (sym p_is) (fit_by (slice_index text 0 == 0) (u16_at 1 text) (u32_at 3 text) bytes b.no_journal b.known (omega (arith, length-take (u32_at 7 text) (drop 11 text), b.in_range))),
      omega (arith, ap length after_is, length-drop (11 + u32_at 7 text) text, b.long),
    )

spelled_kind : (p : Patch) (at : ℕ) → at ≡ patch_offset p → is_kind (patch_kind p) at ≡ true
spelled_kind (Whole file bytes) at is = or_left (at == 0) false (eq-eqb at 0 is)
spelled_kind (Put file place bytes) at is = refl

same_patch : (p : Patch) → patch_by (patch_kind p == 0) (file_of p) (patch_offset p) (bytes_of p) ≡ p
same_patch (Whole file bytes) = refl
same_patch (Put file at bytes) = refl

-- a patch that is spelled reads as it
module _ (p : Patch) (rest : List ℕ) (fit : IsFit p) where
  abbrev text : List ℕ
  text = patch_text p ++ rest

  len_is : u32_at 7 text ≡ length (bytes_of p)
  unfolding u32_at
  len_is = number_of_bytes 4 (length (bytes_of p)) (bytes_of p ++ rest) (omega (arith, fit.in_range))

  file_is : u16_at 1 text ≡ file_of p
  unfolding u16_at
  file_is = number_of_bytes 2 (file_of p) (drop 3 text) (omega (arith, fit.known))

  at_is : u32_at 3 text ≡ patch_offset p
  unfolding u32_at
  at_is = number_of_bytes 4 (patch_offset p) (drop 7 text) (omega (arith, fit.in_range))

  spelled_begun : Begun text
  spelled_begun = record {
    long = omega (arith, len_is, length-append (bytes_of p) rest);
    kind = spelled_kind p (u32_at 3 text) at_is;
    in_range = omega (arith, len_is, at_is, fit.in_range);
    known = omega (arith, file_is, fit.known);
    no_journal = λ one. fit.no_journal (sym file_is ∙ one);
  }

  left_is : drop (11 + u32_at 7 text) text ≡ rest
  left_is = ap (λ (n : ℕ). drop (11 + n) text) len_is ∙ sym (drop-drop (length (bytes_of p)) 11 text) ∙ drop_at (bytes_of p) rest (length (bytes_of p)) refl

  bytes_is : take (u32_at 7 text) (drop 11 text) ≡ bytes_of p
  bytes_is = take_at (bytes_of p) rest (u32_at 7 text) (sym len_is)

  pub front_of : front text ≡ Some (p, rest)
  unfolding front
  front_of =
      cond-true (begins_patch text) _ _ (begins_by text spelled_begun)
      ∙ (λ i. Some (patch_by (patch_kind p == 0) (file_is i) (at_is i) (bytes_is i), left_is i)) ∙ ap (λ (q : Patch). Some (q, rest)) (same_patch p)

-- a text of patches begins with the first of them
pub record Begins (n : ℕ) (text : List ℕ) (patches : List Patch) : Type 0 where
  pub first : Patch
  pub rest : List Patch
  pub after : List ℕ
  pub at_front : front text ≡ Some (first, after)
  pub split : patches ≡ first ∷ rest
  pub goes_on : patches_of n after ≡ Some rest

put_some : (first : Patch) (o : Option (List Patch)) (patches : List Patch) → option_map (λ more. first ∷ more) o ≡ Some patches → (rest : List Patch) × (o ≡ Some rest) × (patches ≡ first ∷ rest)
put_some first None patches is = absurd (cc)
put_some first (Some rest) patches is = (rest, refl, sym (some_same is))

begins_with : (n : ℕ) (text : List ℕ) (o : Option (Patch × List ℕ)) (patches : List Patch) → front text ≡ o → option_and_then (λ next. option_map (λ more. next.0 ∷ more) (patches_of n next.1)) o ≡ Some patches → Begins n text patches
begins_with n text None patches is reads = absurd (cc)
begins_with n text (Some next) patches is reads =
    let more = put_some next.0 (patches_of n next.1) patches reads in
    record { first = next.0; rest = more.0; after = next.1; at_front = is; split = more.2; goes_on = more.1 }

pub begins : (n : ℕ) (text : List ℕ) (patches : List Patch) → patches_of (suc n) text ≡ Some patches → Begins n text patches
unfolding patches_of
begins n text patches reads = begins_with n text (front text) patches refl reads

pub nothing_left : (text : List ℕ) (patches : List Patch) → patches_of 0 text ≡ Some patches → patches ≡ []
unfolding patches_of
nothing_left [] patches reads = sym (some_same reads)
nothing_left (b ∷ text) patches reads = absurd (cc)

-- the patches of a text may stand in an intent, and there are as many as were counted
pub reads_fit : (n : ℕ) (text : List ℕ) (patches : List Patch) → patches_of n text ≡ Some patches → All IsFit patches × (length patches ≡ n) × (11 * n ≤ length text)
reads_fit zero text patches reads = rw (nothing_left text patches reads) (λ k d within. absurd (omega arith), refl, omega arith)
reads_fit (suc n) text patches reads =
    let b = begins n text patches reads in
    let fit = front_fit text b.after b.first b.at_front in
    let more = reads_fit n b.after b.rest b.goes_on in
    rw b.split (All-cons IsFit b.first b.rest fit.0 more.0, ap suc more.1, omega (arith, fit.1, more.2))

pub fit_at : (done rest : List Patch) (p : Patch) → All IsFit (done ++ p ∷ rest) → IsFit p
fit_at [] rest p all = All-head IsFit p rest all
fit_at (q ∷ done) rest p all = fit_at done rest p (All-tail IsFit q (done ++ p ∷ rest) all)

-- patches that are spelled read as they are
pub spelled_reads : (patches : List Patch) → All IsFit patches → patches_of (length patches) (patches_text patches) ≡ Some patches
unfolding patches_of
spelled_reads [] all = refl
spelled_reads (p ∷ patches) all =
    ap (option_and_then (λ next. option_map (λ more. next.0 ∷ more) (patches_of (length patches) next.1))) (front_of p (patches_text patches) (All-head IsFit p patches all))
    ∙ ap (option_map (λ more. p ∷ more)) (spelled_reads patches (All-tail IsFit p patches all))
