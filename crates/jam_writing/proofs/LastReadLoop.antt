-- The loop of `write_jlr`: the records so far and those that are left are those of all readers.
use Rattle.std.proofs.Common.{◌≡◌, inl, inr, ◌⊎◌, ℕ, suc, zero, ◌+◌, ◌≤◌, ◌<◌, List, [], ◌∷◌, ◌++◌, length, drop, get_or, refl, sym, ap, ◌∙◌, arith, append_assoc, append-nil}
use Rattle.std.specs.Prelude.{slice_get, Some, None}
use Rattle.std.proofs.lemmas.List.{drop_all, drop_more}
use Rattle.std.proofs.lemmas.Option.{slice_get_within, get_or_from_slice_get}
use Rattle.jam_records.specs.LastReads.{last_text}
use Rattle.jam_layout.specs.Readers.{last_read, last_reads}
use Rattle.jam_layout.specs.declared.reader.Reader.{Reader}

pub record_added : (readers : List Reader) (pointers : List ℕ) (n : ℕ) (r : Reader) (p : ℕ) (text new whole : List ℕ) → slice_get readers n ≡ Some r → n < length pointers → p ≡ get_or pointers n 0
    → new ≡ text ++ last_text (last_read r p) → text ++ last_reads (drop n readers) (drop n pointers) ≡ whole → new ++ last_reads (drop (n + 1) readers) (drop (n + 1) pointers) ≡ whole
record_added readers pointers n r p text new whole reader some_pointers pointer is so_far =
    let others : List ℕ = last_reads (drop (n + 1) readers) (drop (n + 1) pointers) in
    let rs : drop n readers ≡ r ∷ drop (n + 1) readers = drop_more readers n r (slice_get_within readers n r reader) ∙ ap (λ x. x ∷ drop (n + 1) readers) (get_or_from_slice_get readers n r r reader) in
    let ps : drop n pointers ≡ p ∷ drop (n + 1) pointers = drop_more pointers n 0 some_pointers ∙ ap (λ x. x ∷ drop (n + 1) pointers) (sym pointer) in
    ap (λ xs. xs ++ others) is ∙ (append_assoc text (last_text (last_read r p)) others
    ∙ (sym (ap (λ xs. text ++ last_reads xs (drop n pointers)) rs ∙ ap (λ xs. text ++ last_reads (r ∷ drop (n + 1) readers) xs) ps) ∙ so_far))

no_pointers : (readers : List Reader) → last_reads readers [] ≡ []
no_pointers [] = refl
no_pointers (r ∷ readers) = refl

-- there is none left of the readers or of the pointers
pub all_added : (readers : List Reader) (pointers : List ℕ) (n : ℕ) (text whole : List ℕ) → (length readers ≤ n) ⊎ (length pointers ≤ n) → text ++ last_reads (drop n readers) (drop n pointers) ≡ whole → text ≡ whole
all_added readers pointers n text whole (inl none) so_far =
    sym (append-nil text) ∙ (ap (λ xs. text ++ last_reads xs (drop n pointers)) (sym (drop_all n readers none)) ∙ so_far)
all_added readers pointers n text whole (inr none) so_far =
    sym (append-nil text) ∙ (ap (λ xs. text ++ xs) (sym (no_pointers (drop n readers))) ∙ (ap (λ xs. text ++ last_reads (drop n readers) xs) (sym (drop_all n pointers none)) ∙ so_far))

-- there is no reader at a place past the last
pub none_found : (readers : List Reader) (n : ℕ) → slice_get readers n ≡ None → length readers ≤ n
none_found [] n none = omega arith
none_found (r ∷ readers) zero none = absurd (cc)
none_found (r ∷ readers) (suc n) none = omega (arith, none_found readers n none)
