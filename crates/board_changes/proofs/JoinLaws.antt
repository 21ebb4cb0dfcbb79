-- What holds of patches that stand one list behind another, and what an intent asks of the next of them.
use Rattle.std.proofs.Common.{◌≡◌, ◌≢◌, ⊎_elim, ℕ, ◌+◌, ◌<◌, ◌≤◌, ◌^◌, true, false, not, ◌&&◌, ◌||◌, List, [], ◌∷◌, ◌++◌, length, refl, sym, ap, ◌∙◌, subst, arith, append_assoc, length-append}
use Rattle.std.specs.Prelude.{All, ◌==◌}
use Rattle.std.specs.List.{list_any}
use Rattle.std.proofs.Math.Bool.{or_comm}
use Rattle.std.proofs.lemmas.Bool.{and_parts, and_from, and_right, or_parts, eq-eqb, ne_eqb, not-true, cases_eq}
use Rattle.std.proofs.lemmas.List.Folds.{list_any-append}
use Rattle.std.proofs.lemmas.List.Elements.{All-drop}
use Rattle.intent_journal.specs.door_outside.File.{journal_file}
use Rattle.intent_journal.specs.Journal.{patch_text, patches_text, journal_text, TakesPatch}
use Rattle.intent_journal.specs.Patches.{HostFiles, file_of, patch_offset, bytes_of, is_whole, apply, begins_within, patched, are_within, clash, is_once}
use Rattle.intent_journal.specs.declared.patch.Patch.{Patch}
use Rattle.board_changes.specs.Gathered.{Joins}

-- ---- carried out
pub patched_append : (ps qs : List Patch) (files : HostFiles) → patched (ps ++ qs) files ≡ patched qs (patched ps files)
patched_append [] qs files = refl
patched_append (p ∷ ps) qs files = patched_append ps qs (apply p files)

pub within_append : (ps qs : List Patch) (files : HostFiles) → are_within ps files ≡ true → are_within qs (patched ps files) ≡ true → are_within (ps ++ qs) files ≡ true
within_append [] qs files one other = other
within_append (p ∷ ps) qs files one other =
    let parts = and_parts (begins_within p files) (are_within ps (apply p files)) one in
    and_from (begins_within p files) (are_within (ps ++ qs) (apply p files)) parts.0 (within_append ps qs (apply p files) parts.1 other)

-- ---- spelled
pub text_append : (ps qs : List Patch) → length (patches_text (ps ++ qs)) ≡ length (patches_text ps) + length (patches_text qs)
text_append [] qs = omega arith
text_append (p ∷ ps) qs = omega (arith, text_append ps qs, length-append (patch_text p) (patches_text (ps ++ qs)), length-append (patch_text p) (patches_text ps))

pub journal_length : (patches : List Patch) → length (journal_text patches) ≡ 13 + length (patches_text patches)
journal_length patches = omega arith

-- ---- clashes
eqb_sym : (a b : ℕ) → (a == b) ≡ (b == a)
eqb_sym a b = ⊎_elim (λ e. eq-eqb a b e ∙ sym (eq-eqb b a (sym e))) (λ ne. ne_eqb a b ne ∙ sym (ne_eqb b a (λ e. ne (sym e)))) (cases_eq a b)

clash_sym : (p q : Patch) → clash p q ≡ clash q p
clash_sym p q = (λ i. or_comm (is_whole p) (is_whole q) i && eqb_sym (file_of q) (file_of p) i)

pub apart : (p q : Patch) → file_of q ≢ file_of p → clash p q ≡ false
apart p q ne = and_right (is_whole p || is_whole q) (file_of q == file_of p) (ne_eqb (file_of q) (file_of p) ne)

-- a patch behind others clashes with none of them
pub last_once : (ps : List Patch) (p : Patch) (rest : List Patch) → is_once (ps ++ p ∷ rest) ≡ true → list_any (clash p) ps ≡ false
last_once [] p rest once = refl
last_once (q ∷ ps) p rest once =
    let parts = and_parts (not (list_any (clash q) (ps ++ p ∷ rest))) (is_once (ps ++ p ∷ rest)) once in
    let none = sym (list_any-append (clash q) ps (p ∷ rest)) ∙ not-true (list_any (clash q) (ps ++ p ∷ rest)) parts.0 in
    let behind = or_parts (list_any (clash q) ps) (clash q p || list_any (clash q) rest) none in
    let here = or_parts (clash q p) (list_any (clash q) rest) behind.1 in
    ap (λ b. b || list_any (clash p) ps) (clash_sym p q ∙ here.0) ∙ last_once ps p rest parts.1

-- no patch of one list is for a file of the other
none_of : (p : Patch) (qs : List Patch) → All (λ q. file_of q ≢ file_of p) qs → list_any (clash p) qs ≡ false
none_of p [] all = refl
none_of p (q ∷ qs) all = ap (λ b. b || list_any (clash p) qs) (apart p q (all 0 q (omega arith))) ∙ none_of p qs (All-drop (λ r. file_of r ≢ file_of p) 1 (q ∷ qs) all)

pub once_append : (ps qs : List Patch) → is_once ps ≡ true → is_once qs ≡ true → All (λ p. All (λ q. file_of q ≢ file_of p) qs) ps → is_once (ps ++ qs) ≡ true
once_append [] qs one other differ = other
once_append (p ∷ ps) qs one other differ =
    let parts = and_parts (not (list_any (clash p) ps)) (is_once ps) one in
    let here : list_any (clash p) (ps ++ qs) ≡ false =
    list_any-append (clash p) ps qs ∙ (λ i. not-true (list_any (clash p) ps) parts.0 i || none_of p qs (differ 0 p (omega arith)) i) in
    and_from (not (list_any (clash p) (ps ++ qs))) (is_once (ps ++ qs)) (ap not here) (once_append ps qs parts.1 other (All-drop (λ r. All (λ q. file_of q ≢ file_of r) qs) 1 (p ∷ ps) differ))

-- ---- what an intent asks of the next patch
pub takes_first : (intent : List Patch) (p : Patch) (rest : List Patch) → Joins intent (p ∷ rest) → TakesPatch intent p
takes_first intent p rest joins = record {
  no_journal = joins.no_journal 0 p (omega arith);
  once = last_once intent p rest joins.once;
  in_range = joins.ends 0 p (omega arith);
  fits = omega (arith, joins.fits, journal_length (intent ++ p ∷ rest), journal_length (intent ++ p ∷ []), text_append intent (p ∷ rest), text_append intent (p ∷ []), text_append (p ∷ []) rest);
}

-- once it was added
pub joins_on : (intent : List Patch) (p : Patch) (rest : List Patch) → Joins intent (p ∷ rest) → Joins (intent ++ p ∷ []) rest
joins_on intent p rest joins = record {
  no_journal = All-drop (λ q. file_of q ≢ journal_file) 1 (p ∷ rest) joins.no_journal;
  once = subst (λ (qs : List Patch). is_once qs ≡ true) (sym (append_assoc intent (p ∷ []) rest)) joins.once;
  ends = All-drop (λ q. patch_offset q + length (bytes_of q) < 2 ^ 31) 1 (p ∷ rest) joins.ends;
  fits = subst (λ (qs : List Patch). length (journal_text qs) ≤ 41943040) (sym (append_assoc intent (p ∷ []) rest)) joins.fits;
}
