-- Patches that are gathered place by place: the first, those of one place more, and all.
use Rattle.std.proofs.Common.{◌≡◌, ◌≢◌, inl, inr, ℕ, zero, suc, ◌+◌, ◌<◌, ◌≤◌, List, [], ◌∷◌, ◌++◌, length, take, refl, sym, ap, ◌∙◌, subst, arith, length-append}
use Rattle.std.specs.Prelude.{sum_by, nat_lt, ◌==◌}
use Rattle.std.proofs.lemmas.Bool.{cond-true, cond-false, lt-ltb, le-ltb, ne_eqb, cases_lt, cases_eq, cases_order}
use Rattle.std.proofs.lemmas.List.{append-nil, take_more}
use Rattle.std.proofs.lemmas.List.Sums.{sum_by-append, sum_by-cons, sum_by-take-le}
use Rattle.std.proofs.lemmas.List.Elements.{All-nil, All-cons, All-append}
use Rattle.intent_journal.specs.door_outside.File.{ledger_file, journal_file, jhr_file, jdt_file, jdx_file, jlr_file}
use Rattle.intent_journal.specs.Journal.{TakesPatch}
use Rattle.intent_journal.specs.Patches.{HostFiles, file_of, patched}
use Rattle.intent_journal.specs.declared.patch.Patch.{Patch}
use Rattle.intent_journal.specs.declared.patch.Patch.TheVariants.{Whole}
use Rattle.board_layout.specs.jam_base.Change.{files_of_place, IsElsewhere, Turns, SuitsIntent}
use Rattle.board_layout.proofs.jam_base.PatchLaws.{nothing_turns, nothing_small}
use Rattle.board_layout.specs.jam_layout.Layout.{files_size}
use Rattle.board_layout.specs.jam_layout.declared.files.BaseFiles.{BaseFiles}
use Rattle.board_layout.specs.Layout.{no_base}
use Rattle.board_changes.specs.Gathered.{at_place, HasBases, mixed, Gathered, FitJournal, Joins}
use Rattle.board_changes.proofs.JoinLaws.{patched_append, within_append, text_append, once_append, journal_length}

-- ---- the ledger alone
-- a patch of the ledger leaves the files of a place
ledger_apart : (ledger : List ℕ) (files : HostFiles) (place : ℕ) → files_of_place place (patched (Whole ledger_file ledger ∷ []) files) ≡ files_of_place place files
ledger_apart ledger files place =
    let jhr = other (jhr_file place) (omega arith) in
    let jdt = other (jdt_file place) (omega arith) in
    let jdx = other (jdx_file place) (omega arith) in
    let jlr = other (jlr_file place) (omega arith) in
    λ i. record { jhr = jhr i; jdt = jdt i; jdx = jdx i; jlr = jlr i }
  where
    other : (file : ℕ) → 0 < file → patched (Whole ledger_file ledger ∷ []) files file ≡ files file
    other file some = cond-false (file == ledger_file) ledger (files file) (ne_eqb file ledger_file (λ e. omega (arith, e, some)))

pub gathered_none : (P : HostFiles → Type 0) (ledger : List ℕ) (old new : List BaseFiles) → ((files : HostFiles) → P files → HasBases old files) → Gathered P ledger old new 0 (Whole ledger_file ledger ∷ [])
gathered_none P ledger old new has = record {
  starts = λ files here. refl;
  ledger_is = λ files here. refl;
  bases = λ files here place within. ledger_apart ledger files place ∙ (has files here place within ∙ sym (cond-false (nat_lt place 0) (at_place new place) (at_place old place) (le-ltb place 0 (omega arith))));
  no_journal = All-cons (λ (p : Patch). file_of p ≢ journal_file) (Whole ledger_file ledger) [] (λ e. omega (arith, e)) (All-nil (λ (p : Patch). file_of p ≢ journal_file));
  below = All-cons (λ (p : Patch). file_of p < jhr_file 0) (Whole ledger_file ledger) [] (omega arith) (All-nil (λ (p : Patch). file_of p < jhr_file 0));
  once = refl;
  short = omega (arith, length-append ledger []);
}

-- ---- a ledger that stays
pub gathered_kept : (P : HostFiles → Type 0) (ledger : List ℕ) (old new : List BaseFiles) → ((files : HostFiles) → P files → HasBases old files) → ((files : HostFiles) → P files → files ledger_file ≡ ledger) → Gathered P ledger old new 0 []
gathered_kept P ledger old new has right = record {
  starts = λ files here. refl;
  ledger_is = right;
  bases = λ files here place within. has files here place within ∙ sym (cond-false (nat_lt place 0) (at_place new place) (at_place old place) (le-ltb place 0 (omega arith)));
  no_journal = All-nil (λ (p : Patch). file_of p ≢ journal_file);
  below = All-nil (λ (p : Patch). file_of p < jhr_file 0);
  once = refl;
  short = omega arith;
}

-- ---- the files of one place
-- patches of one place leave the others
elsewhere : (count : ℕ) (old new : BaseFiles) (patches : List Patch) → Turns count old new patches → (files : HostFiles) (place : ℕ) → place ≢ count → files_of_place place (patched patches files) ≡ files_of_place place files
elsewhere count old new patches turns files place ne =
    let jhr = turns.others files (jhr_file place) (away (jhr_file place) (omega arith) (omega arith)) in
    let jdt = turns.others files (jdt_file place) (away (jdt_file place) (omega arith) (omega arith)) in
    let jdx = turns.others files (jdx_file place) (away (jdx_file place) (omega arith) (omega arith)) in
    let jlr = turns.others files (jlr_file place) (away (jlr_file place) (omega arith) (omega arith)) in
    λ i. record { jhr = jhr i; jdt = jdt i; jdx = jdx i; jlr = jlr i }
  where
    away : (file : ℕ) → jhr_file place ≤ file → file ≤ jlr_file place → IsElsewhere count file
    away file low high = elim (cases_order place count) [
      | inl is ↦ absurd (ne is)
      | inr (inl less) ↦ inl (omega (arith, less, high))
      | inr (inr more) ↦ inr (omega (arith, more, low))
    ]

-- one place more, of which there are new files
module _ (P : HostFiles → Type 0) (ledger : List ℕ) (old new : List BaseFiles) (count : ℕ) (done more : List Patch) (gathered : Gathered P ledger old new count done) (place_is : count < 64) (has_new : count < length new)
    (turns : Turns count (at_place old count) (at_place new count) more) (suits : SuitsIntent count (at_place new count) more) where
  -- those of the place are still the old ones
  still : (files : HostFiles) → P files → files_of_place count (patched done files) ≡ at_place old count
  still files here = gathered.bases files here count place_is ∙ cond-false (nat_lt count count) (at_place new count) (at_place old count) (le-ltb count count (omega arith))

  bases_then : (files : HostFiles) → P files → (place : ℕ) → place < 64 → files_of_place place (patched more (patched done files)) ≡ mixed (count + 1) old new place
  bases_then files here place within = elim (cases_eq place count) [
    | inl is ↦ subst (λ (k : ℕ). files_of_place k (patched more (patched done files)) ≡ mixed (count + 1) old new k) (sym is)
        (turns.base (patched done files) (still files here) ∙ sym (cond-true (nat_lt count (count + 1)) (at_place new count) (at_place old count) (lt-ltb count (count + 1) (omega arith))))
    | inr ne ↦ elsewhere count (at_place old count) (at_place new count) more turns (patched done files) place ne ∙ (gathered.bases files here place within ∙ same place ne)
  ]
    where
      same : (place : ℕ) → place ≢ count → mixed count old new place ≡ mixed (count + 1) old new place
      same place ne = elim (cases_order place count) [
        | inl is ↦ absurd (ne is)
        | inr (inl less) ↦ cond-true (nat_lt place count) (at_place new place) (at_place old place) (lt-ltb place count less)
            ∙ sym (cond-true (nat_lt place (count + 1)) (at_place new place) (at_place old place) (lt-ltb place (count + 1) (omega (arith, less))))
        | inr (inr more) ↦ cond-false (nat_lt place count) (at_place new place) (at_place old place) (le-ltb place count (omega (arith, more)))
            ∙ sym (cond-false (nat_lt place (count + 1)) (at_place new place) (at_place old place) (le-ltb place (count + 1) (omega (arith, more))))
      ]

  sizes : sum_by files_size (take (count + 1) new) ≡ sum_by files_size (take count new) + files_size (at_place new count)
  sizes = omega (
    arith,
    ap (sum_by files_size) (take_more new count no_base has_new),
    sum_by-append files_size (take count new) (at_place new count ∷ []),
    sum_by-cons files_size (at_place new count) [],
  )

  pub gathered_more : Gathered P ledger old new (count + 1) (done ++ more)
  gathered_more = record {
    starts = λ files here. within_append done more files (gathered.starts files here) (turns.starts (patched done files) (still files here));
    ledger_is = λ files here. ap (λ (f : HostFiles). f ledger_file) (patched_append done more files) ∙ (turns.others (patched done files) ledger_file (inl (omega arith)) ∙ gathered.ledger_is files here);
    bases = λ files here place within. ap (files_of_place place) (patched_append done more files) ∙ bases_then files here place within;
    no_journal = All-append (λ (p : Patch). file_of p ≢ journal_file) done more gathered.no_journal (λ k d within e. omega (arith, e, (suits.within k d within).0));
    below = All-append (λ (p : Patch). file_of p < jhr_file (count + 1)) done more (λ k d within. omega (arith, gathered.below k d within)) (λ k d within. omega (arith, (suits.within k d within).1));
    once = once_append done more gathered.once suits.once (λ k d low j e high same. omega (arith, same, gathered.below k d low, (suits.within j e high).0));
    short = omega (arith, text_append done more, gathered.short, suits.short, sizes);
  }

  pub joins_more : FitJournal ledger new → Joins done more
  joins_more fit =
      let size = sum_by-take-le files_size new (count + 1) in
      record {
        no_journal = λ k d within e. omega (arith, e, (suits.within k d within).0);
        once = once_append done more gathered.once suits.once (λ k d low j e high same. omega (arith, same, gathered.below k d low, (suits.within j e high).0));
        ends = λ k d within. omega (arith, suits.ends k d within, sizes, size, fit);
        fits = omega (arith, journal_length (done ++ more), text_append done more, gathered.short, suits.short, sizes, size, fit, has_new);
      }

-- places whose files stay
pub gathered_rest : (P : HostFiles → Type 0) (ledger : List ℕ) (old new : List BaseFiles) (patches : List Patch) (count n : ℕ) → Gathered P ledger old new count patches → count + n ≤ 64 → count + n ≤ length new
    → ((k : ℕ) → count ≤ k → k < count + n → at_place old k ≡ at_place new k) → Gathered P ledger old new (count + n) patches
gathered_rest P ledger old new patches count zero gathered places many same = subst (λ (k : ℕ). Gathered P ledger old new k patches) (omega arith) gathered
gathered_rest P ledger old new patches count (suc n) gathered places many same =
    let here : ℕ = count + n in
    let so_far : Gathered P ledger old new here patches = gathered_rest P ledger old new patches count n gathered (omega (arith, places)) (omega (arith, many)) (λ k low high. same k low (omega (arith, high))) in
    let turns : Turns here (at_place old here) (at_place new here) [] = subst (λ (f : BaseFiles). Turns here (at_place old here) f []) (same here (omega arith) (omega arith)) (nothing_turns here (at_place old here)) in
    let more : Gathered P ledger old new (here + 1) (patches ++ []) = gathered_more P ledger old new here patches [] so_far (omega (arith, places)) (omega (arith, many)) turns (nothing_small here (at_place new here)) in
    subst (λ (k : ℕ). Gathered P ledger old new k patches) (omega arith) (subst (Gathered P ledger old new (here + 1)) (append-nil patches) more)

-- ---- all places
pub gathered_all : (P : HostFiles → Type 0) (ledger : List ℕ) (old new : List BaseFiles) (patches : List Patch) → Gathered P ledger old new (length new) patches → length old ≤ length new
    → (files : HostFiles) → P files → HasBases new (patched patches files)
gathered_all P ledger old new patches gathered fewer files here place within = gathered.bases files here place within ∙ new_is
  where
    past : (bases : List BaseFiles) (k : ℕ) → length bases ≤ k → at_place bases k ≡ no_base
    past [] k most = refl
    past (b ∷ bases) zero most = absurd (omega (arith, most))
    past (b ∷ bases) (suc k) most = past bases k (omega (arith, most))

    new_is : mixed (length new) old new place ≡ at_place new place
    new_is = elim (cases_lt place (length new)) [
      | inl less ↦ cond-true (nat_lt place (length new)) (at_place new place) (at_place old place) (lt-ltb place (length new) less)
      | inr most ↦ cond-false (nat_lt place (length new)) (at_place new place) (at_place old place) (le-ltb place (length new) most)
          ∙ (past old place (omega (arith, fewer, most)) ∙ sym (past new place most))
    ]

-- ---- an intent of the ledger alone
pub takes_ledger : (ledger : List ℕ) → length ledger ≤ 5000000 → TakesPatch [] (Whole ledger_file ledger)
takes_ledger ledger small = record {
  no_journal = λ e. omega (arith, e);
  once = refl;
  in_range = omega (arith, small);
  fits = omega (arith, journal_length (Whole ledger_file ledger ∷ []), length-append ledger [], small);
}
