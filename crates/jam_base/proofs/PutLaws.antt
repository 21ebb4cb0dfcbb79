-- What puts do to the files of a place.
use Rattle.std.proofs.Common.{◌≡◌, ◌≢◌, inl, inr, true, ℕ, ◌≤◌, List, [], ◌∷◌, ◌++◌, length, refl, ap, ◌∙◌, arith}
use Rattle.std.specs.Prelude.{IsTrue, ◌==◌, nat_le}
use Rattle.std.proofs.lemmas.Bool.{and_parts, and_from, eq-eqb, ne_eqb, le-leb, cond-true, cond-false}
use Rattle.intent_journal.specs.door_outside.Disk.{written}
use Rattle.intent_journal.specs.door_outside.File.{jhr_file, jdt_file, jdx_file, jlr_file}
use Rattle.intent_journal.specs.Patches.{HostFiles, apply, patched, begins_within, are_within}
use Rattle.intent_journal.specs.declared.patch.Patch.{Patch}
use Rattle.intent_journal.specs.declared.patch.Patch.TheVariants.{Put}
use Rattle.jam_base.specs.Change.{IsElsewhere, Turns, files_of_place}
use Rattle.jam_writing.specs.jam_layout.declared.files.BaseFiles.{BaseFiles}

-- four files
abbrev pub four : List ℕ → List ℕ → List ℕ → List ℕ → BaseFiles
four jhr jdt jdx jlr = record { jhr = jhr; jdt = jdt; jdx = jdx; jlr = jlr }

here : (file at : ℕ) (bytes : List ℕ) (files : HostFiles) → apply (Put file at bytes) files file ≡ written (files file) at bytes
here file at bytes files = cond-true (file == file) _ _ (eq-eqb file file refl)

elsewhere : (file at : ℕ) (bytes : List ℕ) (files : HostFiles) (other : ℕ) → other ≢ file → apply (Put file at bytes) files other ≡ files other
elsewhere file at bytes files other apart = cond-false (other == file) _ _ (ne_eqb other file apart)

begins : (file at : ℕ) (bytes : List ℕ) (files : HostFiles) (old : List ℕ) → files file ≡ old → at ≤ length old → IsTrue (are_within (Put file at bytes ∷ []) files)
begins file at bytes files old is le = and_from (nat_le at (length (files file))) true (le-leb at (length (files file)) (omega (arith, le, ap length is))) refl

outside : (place file : ℕ) → IsElsewhere place file → (k : ℕ) → jhr_file place ≤ k → k ≤ jlr_file place → file ≢ k
outside place file (inl below) k low high = λ e. omega (arith, e, below, low)
outside place file (inr above) k low high = λ e. omega (arith, e, above, high)

-- ---- one put, in each of the files
module _ (place at : ℕ) (bytes jhr jdt jdx jlr : List ℕ) where
  pub jhr_put : at ≤ length jhr → Turns place (four jhr jdt jdx jlr) (four (written jhr at bytes) jdt jdx jlr) (Put (jhr_file place) at bytes ∷ [])
  jhr_put le = record {
    starts = λ files e. begins (jhr_file place) at bytes files jhr (ap (λ (f : BaseFiles). f.jhr) e) le;
    base = λ files e.
        let one = here (jhr_file place) at bytes files ∙ ap (λ (f : BaseFiles). written f.jhr at bytes) e in
        let two = elsewhere (jhr_file place) at bytes files (jdt_file place) (λ same. omega (arith, same)) ∙ ap (λ (f : BaseFiles). f.jdt) e in
        let three = elsewhere (jhr_file place) at bytes files (jdx_file place) (λ same. omega (arith, same)) ∙ ap (λ (f : BaseFiles). f.jdx) e in
        let four_is = elsewhere (jhr_file place) at bytes files (jlr_file place) (λ same. omega (arith, same)) ∙ ap (λ (f : BaseFiles). f.jlr) e in
        λ i. record { jhr = one i; jdt = two i; jdx = three i; jlr = four_is i };
    others = λ files file away. elsewhere (jhr_file place) at bytes files file (outside place file away (jhr_file place) (omega arith) (omega arith));
  }

  pub jdt_put : at ≤ length jdt → Turns place (four jhr jdt jdx jlr) (four jhr (written jdt at bytes) jdx jlr) (Put (jdt_file place) at bytes ∷ [])
  jdt_put le = record {
    starts = λ files e. begins (jdt_file place) at bytes files jdt (ap (λ (f : BaseFiles). f.jdt) e) le;
    base = λ files e.
        let one = elsewhere (jdt_file place) at bytes files (jhr_file place) (λ same. omega (arith, same)) ∙ ap (λ (f : BaseFiles). f.jhr) e in
        let two = here (jdt_file place) at bytes files ∙ ap (λ (f : BaseFiles). written f.jdt at bytes) e in
        let three = elsewhere (jdt_file place) at bytes files (jdx_file place) (λ same. omega (arith, same)) ∙ ap (λ (f : BaseFiles). f.jdx) e in
        let four_is = elsewhere (jdt_file place) at bytes files (jlr_file place) (λ same. omega (arith, same)) ∙ ap (λ (f : BaseFiles). f.jlr) e in
        λ i. record { jhr = one i; jdt = two i; jdx = three i; jlr = four_is i };
    others = λ files file away. elsewhere (jdt_file place) at bytes files file (outside place file away (jdt_file place) (omega arith) (omega arith));
  }

  pub jdx_put : at ≤ length jdx → Turns place (four jhr jdt jdx jlr) (four jhr jdt (written jdx at bytes) jlr) (Put (jdx_file place) at bytes ∷ [])
  jdx_put le = record {
    starts = λ files e. begins (jdx_file place) at bytes files jdx (ap (λ (f : BaseFiles). f.jdx) e) le;
    base = λ files e.
        let one = elsewhere (jdx_file place) at bytes files (jhr_file place) (λ same. omega (arith, same)) ∙ ap (λ (f : BaseFiles). f.jhr) e in
        let two = elsewhere (jdx_file place) at bytes files (jdt_file place) (λ same. omega (arith, same)) ∙ ap (λ (f : BaseFiles). f.jdt) e in
        let three = here (jdx_file place) at bytes files ∙ ap (λ (f : BaseFiles). written f.jdx at bytes) e in
        let four_is = elsewhere (jdx_file place) at bytes files (jlr_file place) (λ same. omega (arith, same)) ∙ ap (λ (f : BaseFiles). f.jlr) e in
        λ i. record { jhr = one i; jdt = two i; jdx = three i; jlr = four_is i };
    others = λ files file away. elsewhere (jdx_file place) at bytes files file (outside place file away (jdx_file place) (omega arith) (omega arith));
  }

  pub jlr_put : at ≤ length jlr → Turns place (four jhr jdt jdx jlr) (four jhr jdt jdx (written jlr at bytes)) (Put (jlr_file place) at bytes ∷ [])
  jlr_put le = record {
    starts = λ files e. begins (jlr_file place) at bytes files jlr (ap (λ (f : BaseFiles). f.jlr) e) le;
    base = λ files e.
        let one = elsewhere (jlr_file place) at bytes files (jhr_file place) (λ same. omega (arith, same)) ∙ ap (λ (f : BaseFiles). f.jhr) e in
        let two = elsewhere (jlr_file place) at bytes files (jdt_file place) (λ same. omega (arith, same)) ∙ ap (λ (f : BaseFiles). f.jdt) e in
        let three = elsewhere (jlr_file place) at bytes files (jdx_file place) (λ same. omega (arith, same)) ∙ ap (λ (f : BaseFiles). f.jdx) e in
        let four_is = here (jlr_file place) at bytes files ∙ ap (λ (f : BaseFiles). written f.jlr at bytes) e in
        λ i. record { jhr = one i; jdt = two i; jdx = three i; jlr = four_is i };
    others = λ files file away. elsewhere (jlr_file place) at bytes files file (outside place file away (jlr_file place) (omega arith) (omega arith));
  }

-- ---- patches after others
pub patched-append : (ps qs : List Patch) (files : HostFiles) → patched (ps ++ qs) files ≡ patched qs (patched ps files)
patched-append [] qs files = refl
patched-append (p ∷ ps) qs files = patched-append ps qs (apply p files)

within-append : (ps qs : List Patch) (files : HostFiles) → IsTrue (are_within ps files) → IsTrue (are_within qs (patched ps files)) → IsTrue (are_within (ps ++ qs) files)
within-append [] qs files first second = second
within-append (p ∷ ps) qs files first second =
    let parts = and_parts (begins_within p files) (are_within ps (apply p files)) first in
    and_from (begins_within p files) (are_within (ps ++ qs) (apply p files)) parts.0 (within-append ps qs (apply p files) parts.1 second)

pub turns_after : (place : ℕ) (old between new : BaseFiles) (ps qs : List Patch) → Turns place old between ps → Turns place between new qs → Turns place old new (ps ++ qs)
turns_after place old between new ps qs first second = record {
  starts = λ files e. within-append ps qs files (first.starts files e) (second.starts (patched ps files) (first.base files e));
  base = λ files e. (λ i. files_of_place place (patched-append ps qs files i)) ∙ second.base (patched ps files) (first.base files e);
  others = λ files file away. (λ i. patched-append ps qs files i file) ∙ (second.others (patched ps files) file away ∙ first.others files file away);
}
