-- What whole patches do to the files of a place, and what an intent asks of them.
use Rattle.std.proofs.Common.{◌≡◌, ◌≢◌, inl, inr, true, false, ℕ, ◌+◌, ◌*◌, ◌<◌, ◌≤◌, List, [], ◌∷◌, ◌++◌, length, refl, sym, ap, ◌∙◌, subst, arith, length-append}
use Rattle.std.specs.Prelude.{All, IsTrue, ◌==◌}
use Rattle.std.proofs.lemmas.Bool.{and_parts, and_from, eq-eqb, ne_eqb, cond-true, cond-false}
use Rattle.std.proofs.lemmas.List.Elements.{All-cons, All-nil}
use Rattle.intent_journal.specs.Patches.{HostFiles, file_of, patch_offset, bytes_of, apply, begins_within, are_within, is_once}
use Rattle.intent_journal.specs.Journal.{patch_text, patches_text}
use Rattle.intent_journal.specs.declared.patch.Patch.{Patch}
use Rattle.intent_journal.specs.declared.patch.Patch.TheVariants.{Whole}
use Rattle.intent_journal.specs.door_outside.File.{jhr_file, jdt_file, jdx_file, jlr_file}
use Rattle.jam_base.specs.Change.{message_files, whole_files, IsOfPlace, IsElsewhere, Turns, SuitsIntent}
use Rattle.jam_writing.specs.jam_layout.Layout.{files_size}
use Rattle.jam_writing.specs.jam_layout.declared.files.BaseFiles.{BaseFiles}

-- ---- one patch
here : (file : ℕ) (bytes : List ℕ) (files : HostFiles) → apply (Whole file bytes) files file ≡ bytes
here file bytes files = cond-true (file == file) _ _ (eq-eqb file file refl)

elsewhere : (patch : Patch) (files : HostFiles) (file : ℕ) → file ≢ file_of patch → apply patch files file ≡ files file
elsewhere patch files file other = cond-false (file == file_of patch) _ _ (ne_eqb file (file_of patch) other)

text_more : (file : ℕ) (bytes rest : List ℕ) → length (patch_text (Whole file bytes) ++ rest) ≡ 11 + (length bytes + length rest)
text_more file bytes rest = omega (arith, length-append bytes rest)

at_most : (n m size : ℕ) → n ≡ m → m ≤ 4 * 11 + size → 5 * n ≤ 5 * (4 * 11) + 6 * size
at_most n m size same le = omega (arith, same, le)

not_here : (place file : ℕ) → IsElsewhere place file → (k : ℕ) → IsOfPlace place k → file ≢ k
not_here place file (inl below) k within = λ e. omega (arith, e, below, within.0)
not_here place file (inr above) k within = λ e. omega (arith, e, above, within.1)

-- ---- one file of a place
alone : (place : ℕ) (old : BaseFiles) (patch : Patch) → IsOfPlace place (file_of patch) → (files : HostFiles) (file : ℕ) → IsElsewhere place file → apply patch files file ≡ files file
alone place old patch within files file away = elsewhere patch files file (not_here place file away (file_of patch) within)

jhr_turns : (place : ℕ) (old : BaseFiles) (jhr : List ℕ) → Turns place old (record old { jhr = jhr }) (Whole (jhr_file place) jhr ∷ [])
jhr_turns place old jhr =
    let patch : Patch = Whole (jhr_file place) jhr in
    record {
      starts = λ files e. refl;
      base = λ files e.
          let first : apply patch files (jhr_file place) ≡ jhr = here (jhr_file place) jhr files in
          let jdt : apply patch files (jdt_file place) ≡ old.jdt = elsewhere patch files (jdt_file place) (λ same. omega (arith, same)) ∙ ap (λ (four : BaseFiles). four.jdt) e in
          let jdx : apply patch files (jdx_file place) ≡ old.jdx = elsewhere patch files (jdx_file place) (λ same. omega (arith, same)) ∙ ap (λ (four : BaseFiles). four.jdx) e in
          let jlr : apply patch files (jlr_file place) ≡ old.jlr = elsewhere patch files (jlr_file place) (λ same. omega (arith, same)) ∙ ap (λ (four : BaseFiles). four.jlr) e in
          λ i. record { jhr = first i; jdt = jdt i; jdx = jdx i; jlr = jlr i };
      others = alone place old patch (omega arith, omega arith);
    }

jdt_turns : (place : ℕ) (old : BaseFiles) (jdt : List ℕ) → Turns place old (record old { jdt = jdt }) (Whole (jdt_file place) jdt ∷ [])
jdt_turns place old jdt =
    let patch : Patch = Whole (jdt_file place) jdt in
    record {
      starts = λ files e. refl;
      base = λ files e.
          let jhr : apply patch files (jhr_file place) ≡ old.jhr = elsewhere patch files (jhr_file place) (λ same. omega (arith, same)) ∙ ap (λ (four : BaseFiles). four.jhr) e in
          let second : apply patch files (jdt_file place) ≡ jdt = here (jdt_file place) jdt files in
          let jdx : apply patch files (jdx_file place) ≡ old.jdx = elsewhere patch files (jdx_file place) (λ same. omega (arith, same)) ∙ ap (λ (four : BaseFiles). four.jdx) e in
          let jlr : apply patch files (jlr_file place) ≡ old.jlr = elsewhere patch files (jlr_file place) (λ same. omega (arith, same)) ∙ ap (λ (four : BaseFiles). four.jlr) e in
          λ i. record { jhr = jhr i; jdt = second i; jdx = jdx i; jlr = jlr i };
      others = alone place old patch (omega arith, omega arith);
    }

jdx_turns : (place : ℕ) (old : BaseFiles) (jdx : List ℕ) → Turns place old (record old { jdx = jdx }) (Whole (jdx_file place) jdx ∷ [])
jdx_turns place old jdx =
    let patch : Patch = Whole (jdx_file place) jdx in
    record {
      starts = λ files e. refl;
      base = λ files e.
          let jhr : apply patch files (jhr_file place) ≡ old.jhr = elsewhere patch files (jhr_file place) (λ same. omega (arith, same)) ∙ ap (λ (four : BaseFiles). four.jhr) e in
          let jdt : apply patch files (jdt_file place) ≡ old.jdt = elsewhere patch files (jdt_file place) (λ same. omega (arith, same)) ∙ ap (λ (four : BaseFiles). four.jdt) e in
          let third : apply patch files (jdx_file place) ≡ jdx = here (jdx_file place) jdx files in
          let jlr : apply patch files (jlr_file place) ≡ old.jlr = elsewhere patch files (jlr_file place) (λ same. omega (arith, same)) ∙ ap (λ (four : BaseFiles). four.jlr) e in
          λ i. record { jhr = jhr i; jdt = jdt i; jdx = third i; jlr = jlr i };
      others = alone place old patch (omega arith, omega arith);
    }

pub jlr_turns : (place : ℕ) (old : BaseFiles) (jlr : List ℕ) → Turns place old (record old { jlr = jlr }) (Whole (jlr_file place) jlr ∷ [])
jlr_turns place old jlr =
    let patch : Patch = Whole (jlr_file place) jlr in
    record {
      starts = λ files e. refl;
      base = λ files e.
          let jhr : apply patch files (jhr_file place) ≡ old.jhr = elsewhere patch files (jhr_file place) (λ same. omega (arith, same)) ∙ ap (λ (four : BaseFiles). four.jhr) e in
          let jdt : apply patch files (jdt_file place) ≡ old.jdt = elsewhere patch files (jdt_file place) (λ same. omega (arith, same)) ∙ ap (λ (four : BaseFiles). four.jdt) e in
          let jdx : apply patch files (jdx_file place) ≡ old.jdx = elsewhere patch files (jdx_file place) (λ same. omega (arith, same)) ∙ ap (λ (four : BaseFiles). four.jdx) e in
          let last : apply patch files (jlr_file place) ≡ jlr = here (jlr_file place) jlr files in
          λ i. record { jhr = jhr i; jdt = jdt i; jdx = jdx i; jlr = last i };
      others = alone place old patch (omega arith, omega arith);
    }

-- no patch, and one patch before others
pub nothing_turns : (place : ℕ) (old : BaseFiles) → Turns place old old []
nothing_turns place old = record { starts = λ files e. refl; base = λ files e. e; others = λ files file away. refl }

pub turns_then : (place : ℕ) (old between new : BaseFiles) (patch : Patch) (patches : List Patch) → Turns place old between (patch ∷ []) → Turns place between new patches → Turns place old new (patch ∷ patches)
turns_then place old between new patch patches one others = record {
  starts = λ files e. and_from (begins_within patch files) (are_within patches (apply patch files)) (and_parts (begins_within patch files) true (one.starts files e)).0 (others.starts (apply patch files) (one.base files e));
  base = λ files e. others.base (apply patch files) (one.base files e);
  others = λ files file away. others.others (apply patch files) file away ∙ one.others files file away;
}

-- ---- all four files
pub whole_turns : (place : ℕ) (new old : BaseFiles) → Turns place old new (whole_files place new)
whole_turns place new old =
    let one : BaseFiles = record old { jhr = new.jhr } in
    let two : BaseFiles = record one { jdt = new.jdt } in
    let three : BaseFiles = record two { jdx = new.jdx } in
    turns_then place old one new (Whole (jhr_file place) new.jhr) (Whole (jdt_file place) new.jdt ∷ Whole (jdx_file place) new.jdx ∷ Whole (jlr_file place) new.jlr ∷ []) (jhr_turns place old new.jhr)
    (turns_then place one two new (Whole (jdt_file place) new.jdt) (Whole (jdx_file place) new.jdx ∷ Whole (jlr_file place) new.jlr ∷ []) (jdt_turns place one new.jdt)
    (turns_then place two three new (Whole (jdx_file place) new.jdx) (Whole (jlr_file place) new.jlr ∷ []) (jdx_turns place two new.jdx) (jlr_turns place three new.jlr)))

-- ---- .JHR, .JDT and .JDX, where .JLR is the same
pub messages_turn : (place : ℕ) (new old : BaseFiles) → new.jlr ≡ old.jlr → Turns place old new (message_files place new)
messages_turn place new old same =
    let one : BaseFiles = record old { jhr = new.jhr } in
    let two : BaseFiles = record one { jdt = new.jdt } in
    let three : BaseFiles = record two { jdx = new.jdx } in
    let all : three ≡ new = λ i. record { jhr = new.jhr; jdt = new.jdt; jdx = new.jdx; jlr = sym same i } in
    turns_then place old one new (Whole (jhr_file place) new.jhr) (Whole (jdt_file place) new.jdt ∷ Whole (jdx_file place) new.jdx ∷ []) (jhr_turns place old new.jhr)
    (turns_then place one two new (Whole (jdt_file place) new.jdt) (Whole (jdx_file place) new.jdx ∷ []) (jdt_turns place one new.jdt)
    (subst (λ (four : BaseFiles). Turns place two four (Whole (jdx_file place) new.jdx ∷ [])) all (jdx_turns place two new.jdx)))

-- ---- what an intent asks
module _ (place : ℕ) (new : BaseFiles) where
  differ : (a b : ℕ) → a < b → (b == a) ≡ false
  differ a b less = ne_eqb b a (λ e. omega (arith, e, less))

  once : IsTrue (is_once (whole_files place new))
  once = rw (
    differ (jhr_file place) (jdt_file place) (omega arith),
    differ (jhr_file place) (jdx_file place) (omega arith),
    differ (jhr_file place) (jlr_file place) (omega arith),
    differ (jdt_file place) (jdx_file place) (omega arith),
    differ (jdt_file place) (jlr_file place) (omega arith),
    differ (jdx_file place) (jlr_file place) (omega arith),
  ) refl

  jdx_length : (rest : List Patch) → length (patches_text (Whole (jdx_file place) new.jdx ∷ rest)) ≡ 11 + (length new.jdx + length (patches_text rest))
  jdx_length rest = text_more (jdx_file place) new.jdx (patches_text rest)

  texts_length : (rest : List Patch) → length (patches_text (Whole (jhr_file place) new.jhr ∷ Whole (jdt_file place) new.jdt ∷ Whole (jdx_file place) new.jdx ∷ rest))
      ≡ 11 + (length new.jhr + (11 + (length new.jdt + (11 + (length new.jdx + length (patches_text rest))))))
  texts_length rest =
      let bodies = text_more (jdt_file place) new.jdt (patches_text (Whole (jdx_file place) new.jdx ∷ rest)) ∙ ap (λ n. 11 + (length new.jdt + n)) (jdx_length rest) in
      text_more (jhr_file place) new.jhr (patches_text (Whole (jdt_file place) new.jdt ∷ Whole (jdx_file place) new.jdx ∷ rest)) ∙ ap (λ n. 11 + (length new.jhr + n)) bodies

  -- each is one of the files of the place
  OfPlace : Patch → Type 0
  OfPlace patch = IsOfPlace place (file_of patch)

  none : All OfPlace []
  none = All-nil OfPlace

  jhr_within : (rest : List Patch) → All OfPlace rest → All OfPlace (Whole (jhr_file place) new.jhr ∷ rest)
  unfolding OfPlace
  jhr_within rest all = All-cons OfPlace (Whole (jhr_file place) new.jhr) rest (omega arith, omega arith) all

  jdt_within : (rest : List Patch) → All OfPlace rest → All OfPlace (Whole (jdt_file place) new.jdt ∷ rest)
  unfolding OfPlace
  jdt_within rest all = All-cons OfPlace (Whole (jdt_file place) new.jdt) rest (omega arith, omega arith) all

  jdx_within : (rest : List Patch) → All OfPlace rest → All OfPlace (Whole (jdx_file place) new.jdx ∷ rest)
  unfolding OfPlace
  jdx_within rest all = All-cons OfPlace (Whole (jdx_file place) new.jdx) rest (omega arith, omega arith) all

  jlr_within : (rest : List Patch) → All OfPlace rest → All OfPlace (Whole (jlr_file place) new.jlr ∷ rest)
  unfolding OfPlace
  jlr_within rest all = All-cons OfPlace (Whole (jlr_file place) new.jlr) rest (omega arith, omega arith) all

  -- none ends behind as many bytes as the files have
  Ends : Patch → Type 0
  Ends patch = patch_offset patch + length (bytes_of patch) ≤ files_size new

  no_ends : All Ends []
  no_ends = All-nil Ends

  jhr_ends : (rest : List Patch) → All Ends rest → All Ends (Whole (jhr_file place) new.jhr ∷ rest)
  unfolding Ends
  jhr_ends rest all = All-cons Ends (Whole (jhr_file place) new.jhr) rest (omega arith) all

  jdt_ends : (rest : List Patch) → All Ends rest → All Ends (Whole (jdt_file place) new.jdt ∷ rest)
  unfolding Ends
  jdt_ends rest all = All-cons Ends (Whole (jdt_file place) new.jdt) rest (omega arith) all

  jdx_ends : (rest : List Patch) → All Ends rest → All Ends (Whole (jdx_file place) new.jdx ∷ rest)
  unfolding Ends
  jdx_ends rest all = All-cons Ends (Whole (jdx_file place) new.jdx) rest (omega arith) all

  jlr_ends : (rest : List Patch) → All Ends rest → All Ends (Whole (jlr_file place) new.jlr ∷ rest)
  unfolding Ends
  jlr_ends rest all = All-cons Ends (Whole (jlr_file place) new.jlr) rest (omega arith) all

  pub nothing_small : SuitsIntent place new []
  unfolding Ends
  nothing_small = record { within = All-nil (λ (patch : Patch). IsOfPlace place (file_of patch)); once = refl; ends = no_ends; short = omega arith }

  pub jlr_small : SuitsIntent place new (Whole (jlr_file place) new.jlr ∷ [])
  unfolding OfPlace Ends
  jlr_small = record { within = jlr_within [] none; once = refl; ends = jlr_ends [] no_ends; short = at_most _ _ _ (text_more (jlr_file place) new.jlr []) (omega arith) }

  pub messages_small : SuitsIntent place new (message_files place new)
  unfolding OfPlace Ends
  messages_small = record {
    ends = jhr_ends (Whole (jdt_file place) new.jdt ∷ Whole (jdx_file place) new.jdx ∷ []) (jdt_ends (Whole (jdx_file place) new.jdx ∷ []) (jdx_ends [] no_ends));
    within = jhr_within (Whole (jdt_file place) new.jdt ∷ Whole (jdx_file place) new.jdx ∷ []) (jdt_within (Whole (jdx_file place) new.jdx ∷ []) (jdx_within [] none));
    once = rw (
      differ (jhr_file place) (jdt_file place) (omega arith),
      differ (jhr_file place) (jdx_file place) (omega arith),
      differ (jdt_file place) (jdx_file place) (omega arith),
    ) refl;
    short = at_most _ _ _ (texts_length []) (omega arith);
  }

  pub whole_small : SuitsIntent place new (whole_files place new)
  unfolding OfPlace Ends
  whole_small =
      let last : List Patch = Whole (jlr_file place) new.jlr ∷ [] in
      record {
        ends = jhr_ends (Whole (jdt_file place) new.jdt ∷ Whole (jdx_file place) new.jdx ∷ last) (jdt_ends (Whole (jdx_file place) new.jdx ∷ last) (jdx_ends last (jlr_ends [] no_ends)));
        within = jhr_within (Whole (jdt_file place) new.jdt ∷ Whole (jdx_file place) new.jdx ∷ last) (jdt_within (Whole (jdx_file place) new.jdx ∷ last) (jdx_within last (jlr_within [] none)));
        once = once;
        short = at_most _ _ _ (texts_length last ∙ ap (λ n. 11 + (length new.jhr + (11 + (length new.jdt + (11 + (length new.jdx + n)))))) (text_more (jlr_file place) new.jlr [])) (omega arith);
      }
