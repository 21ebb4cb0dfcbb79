-- What an intent asks of puts, and how many bytes they take.
use Rattle.std.proofs.Common.{◌≡◌, ◌≢◌, true, false, ℕ, ◌+◌, ◌*◌, ◌≤◌, List, [], ◌∷◌, ◌++◌, length, refl, ap, arith, length-append}
use Rattle.std.specs.Prelude.{All, not, ◌==◌, ◌||◌, ◌&&◌}
use Rattle.std.specs.List.{list_any}
use Rattle.std.proofs.lemmas.Bool.{and_from, ne_eqb}
use Rattle.std.proofs.lemmas.List.Elements.{All-append, All-cons, All-head, All-nil, All-tail, All-weaker}
use Rattle.std.proofs.lemmas.List.Sums.{sum_by-cons, sum_by-append}
use Rattle.intent_journal.specs.Journal.{patch_text, patches_text}
use Rattle.intent_journal.specs.Patches.{file_of, patch_offset, bytes_of, is_whole, clash, is_once, byte_count}
use Rattle.intent_journal.specs.declared.patch.Patch.{Patch}
use Rattle.intent_journal.specs.declared.patch.Patch.TheVariants.{Whole, Put}
use Rattle.intent_journal.specs.door_outside.File.{jlr_file}
use Rattle.jam_base.specs.Change.{IsOfPlace, SuitsIntent}
use Rattle.jam_writing.specs.jam_layout.Layout.{files_size}
use Rattle.jam_writing.specs.jam_layout.declared.files.BaseFiles.{BaseFiles}

-- ---- lengths
patch_length : (p : Patch) → length (patch_text p) ≡ 11 + length (bytes_of p)
patch_length (Whole file bytes) = omega arith
patch_length (Put file at bytes) = omega arith

pub count_more : (p : Patch) (ps : List Patch) → byte_count (p ∷ ps) ≡ length (bytes_of p) + byte_count ps
count_more p ps = sum_by-cons (λ patch. length (bytes_of patch)) p ps

pub count_append : (ps qs : List Patch) → byte_count (ps ++ qs) ≡ byte_count ps + byte_count qs
count_append ps qs = sum_by-append (λ patch. length (bytes_of patch)) ps qs

pub text_long : (ps : List Patch) → length (patches_text ps) ≡ 11 * length ps + byte_count ps
text_long [] = omega arith
text_long (p ∷ ps) = omega (arith, length-append (patch_text p) (patches_text ps), patch_length p, text_long ps, count_more p ps)

-- ---- puts into the files of a place, within so many bytes
pub record IsPut (place size : ℕ) (patch : Patch) : Type 0 where
  pub here : IsOfPlace place (file_of patch)
  pub part : is_whole patch ≡ false
  pub ends : patch_offset patch + length (bytes_of patch) ≤ size

no_clash : (p : Patch) (ps : List Patch) → is_whole p ≡ false → All (λ q. is_whole q ≡ false) ps → list_any (clash p) ps ≡ false
no_clash p [] part all = refl
no_clash p (q ∷ ps) part all =
    let first = All-head (λ r. is_whole r ≡ false) q ps all in
    let others = no_clash p ps part (All-tail (λ r. is_whole r ≡ false) q ps all) in
    λ i. ((part i || first i) && (file_of q == file_of p)) || others i

once_puts : (ps : List Patch) → All (λ q. is_whole q ≡ false) ps → is_once ps ≡ true
once_puts [] all = refl
once_puts (p ∷ ps) all =
    let rest = All-tail (λ r. is_whole r ≡ false) p ps all in
    and_from (not (list_any (clash p) ps)) (is_once ps) (ap not (no_clash p ps (All-head (λ r. is_whole r ≡ false) p ps all) rest)) (once_puts ps rest)

pub puts_suit : (place : ℕ) (new : BaseFiles) (ps : List Patch) → All (IsPut place (files_size new)) ps → 5 * (11 * length ps + byte_count ps) ≤ 5 * (4 * 11) + 6 * files_size new
    → SuitsIntent place new ps
puts_suit place new ps all short = record {
  within = All-weaker (IsPut place (files_size new)) (λ p. IsOfPlace place (file_of p)) (λ p is. is.here) ps all;
  once = once_puts ps (All-weaker (IsPut place (files_size new)) (λ p. is_whole p ≡ false) (λ p is. is.part) ps all);
  ends = All-weaker (IsPut place (files_size new)) (λ p. patch_offset p + length (bytes_of p) ≤ files_size new) (λ p is. is.ends) ps all;
  short = omega (arith, short, text_long ps);
}

-- ---- puts, and behind them one file whole that none of them is for
module _ (file : ℕ) (bytes : List ℕ) where
  no_clash_then : (p : Patch) (ps : List Patch) → is_whole p ≡ false → file ≢ file_of p → All (λ q. is_whole q ≡ false) ps → list_any (clash p) (ps ++ Whole file bytes ∷ []) ≡ false
  no_clash_then p [] part apart all =
      let other = ne_eqb file (file_of p) apart in
      λ i. ((part i || true) && other i) || false
  no_clash_then p (q ∷ ps) part apart all =
      let first = All-head (λ r. is_whole r ≡ false) q ps all in
      let others = no_clash_then p ps part apart (All-tail (λ r. is_whole r ≡ false) q ps all) in
      λ i. ((part i || first i) && (file_of q == file_of p)) || others i

  once_then : (ps : List Patch) → All (λ q. is_whole q ≡ false) ps → All (λ q. file ≢ file_of q) ps → is_once (ps ++ Whole file bytes ∷ []) ≡ true
  once_then [] parts apart = refl
  once_then (p ∷ ps) parts apart =
      let rest = All-tail (λ r. is_whole r ≡ false) p ps parts in
      and_from (not (list_any (clash p) (ps ++ Whole file bytes ∷ []))) (is_once (ps ++ Whole file bytes ∷ []))
      (ap not (no_clash_then p ps (All-head (λ r. is_whole r ≡ false) p ps parts) (All-head (λ q. file ≢ file_of q) p ps apart) rest))
      (once_then ps rest (All-tail (λ q. file ≢ file_of q) p ps apart))

pub puts_then_suit : (place : ℕ) (new : BaseFiles) (ps : List Patch) → All (IsPut place (files_size new)) ps → All (λ q. jlr_file place ≢ file_of q) ps
    → 5 * (11 * length (ps ++ Whole (jlr_file place) new.jlr ∷ []) + byte_count (ps ++ Whole (jlr_file place) new.jlr ∷ [])) ≤ 5 * (4 * 11) + 6 * files_size new → SuitsIntent place new (ps ++ Whole (jlr_file place) new.jlr ∷ [])
puts_then_suit place new ps all apart short =
    let last : Patch = Whole (jlr_file place) new.jlr in
    let Here : Patch → Type 0 = λ p. IsOfPlace place (file_of p) in
    let Ends : Patch → Type 0 = λ p. patch_offset p + length (bytes_of p) ≤ files_size new in
    record {
      within = All-append Here ps (last ∷ []) (All-weaker (IsPut place (files_size new)) Here (λ p is. is.here) ps all) (All-cons Here last [] (omega arith, omega arith) (All-nil Here));
      once = once_then (jlr_file place) new.jlr ps (All-weaker (IsPut place (files_size new)) (λ p. is_whole p ≡ false) (λ p is. is.part) ps all) apart;
      ends = All-append Ends ps (last ∷ []) (All-weaker (IsPut place (files_size new)) Ends (λ p is. is.ends) ps all) (All-cons Ends last [] (omega arith) (All-nil Ends));
      short = omega (arith, short, text_long (ps ++ last ∷ []));
    }
