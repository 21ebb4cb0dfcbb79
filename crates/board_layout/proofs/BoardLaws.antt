-- The data files are read as a board exactly where they are its layout in either version.
use Rattle.std.proofs.Common.{◌≡◌, ◌↔◌, inl, inr, ℕ, zero, suc, ◌+◌, ◌-◌, ◌/◌, ◌^◌, ◌≤◌, ◌<◌, not, ltb, eqb, List, [], ◌∷◌, length, get_or, None, Result, Ok, Err, refl, sym, ap, ◌∙◌, subst, arith}
use Rattle.std.specs.Prelude.{All, IsTrue}
use Rattle.std.specs.List.{AllZip}
use Rattle.std.proofs.lemmas.Bool.{and_from, and_parts, cases_lt, cases_eq, lt-ltb, le-ltb, ltb-true, ltb-false, ne_eqb, eqb-false, not_from_false, not-true}
use Rattle.std.proofs.lemmas.List.{get_or_past}
use Rattle.std.proofs.lemmas.List.Elements.{All-nil}
use Rattle.jam_records.specs.byte_lists.Byte.{IsByte}
use Rattle.board_ledger.specs.Ledger.{ledger_of, stored_text}
use Rattle.board_ledger.specs.Valid.{IsLedger, today}
use Rattle.board_ledger.specs.declared.ledger.Ledger.{Ledger}
use Rattle.board_ledger.proofs.LedgerBounds.{fit as ledger_fits}
use Rattle.board_ledger.proofs.LedgerLaws.{ledger_takes, ledger_again}
use Rattle.board_ledger.proofs.SizeLaws.{ledger_length}
use Rattle.board_ledger.proofs.VersionLaws.{today_valid}
use Rattle.board_ledger.specs.damage_rules.Rules.{Rules, by_rules, damage_of, ◌>>=◌}
use Rattle.board_ledger.proofs.damage_rules.KeptRules.{bind_ok, kept_rules, ok_is, rules_kept}
use Rattle.door_outside.specs.File.{is_data_file, ledger_file, jhr_file, jdt_file, jdx_file, jlr_file}
use Rattle.board_ledger.specs.intent_journal.Patches.{HostFiles}
use Rattle.jam_base.specs.Change.{files_of_place}
use Rattle.jam_base.specs.jam_layout.Valid.{BaseFilesFit, IsConference}
use Rattle.jam_base.specs.jam_layout.declared.conference.ConferenceContents.{ConferenceContents}
use Rattle.jam_base.specs.jam_layout.declared.files.BaseFiles.{BaseFiles}
use Rattle.jam_base.specs.jam_layout.declared.shape.Shape.{Shape}
use Rattle.jam_base.proofs.jam_layout.LayoutBounds.{layout_fits}
use Rattle.jam_records.specs.declared.damage.Damage.{Damage}
use Rattle.jam_records.specs.declared.damage.DamageRule.TheVariants.{Size}
use Rattle.board_ledger.specs.open_offers.Versions.{version_of}
use Rattle.board_layout.specs.Board.{Board, shapes_of}
use Rattle.board_layout.specs.Damage.{parts_behind, parts_of, size_limit, board_of, board_damage}
use Rattle.board_layout.specs.Layout.{no_base, layouts, base_files, HasPlaces, IsLayout, AreEmpty, AreAt, AreFileBytes, data_size, board_size}
use Rattle.board_layout.specs.OldLayout.{old_size, IsOldLayout, IsStoredIn}
use Rattle.board_layout.specs.Valid.{board_limit, IsBoard}
use Rattle.board_layout.proofs.BasePlaces.{same_place, at_place, all_at, shapes_count, layouts_count}
use Rattle.board_layout.proofs.BoardParts.{ledger_in, bases_in, after_ledger, board_parts, all_parts}
use Rattle.board_layout.proofs.ConferenceLaws.{conferences_take, conferences_again}
use Rattle.board_layout.proofs.HighLaws.{highs_take, highs_again}
use Rattle.board_layout.proofs.RestLaws.{rest_take, rest_again}
use Rattle.board_layout.proofs.SizeLaws.{place_within, same_size, old_same_size}
use Rattle.board_layout.proofs.StoredLedgers.{in_either, kept, laid_as, limit_most, one_version, stored_places, stored_short, stored_small}

-- ---- bytes
is_data : (file : ℕ) → 1 < file → file < 258 → IsTrue (is_data_file file)
is_data file above below = and_from (ltb file 258) (not (eqb file 1)) (lt-ltb file 258 below) (not_from_false (eqb file 1) (ne_eqb file 1 (λ e. omega arith)))

all_fit : (files : HostFiles) → AreFileBytes files → data_size files ≤ board_limit → (k : ℕ) → k < 64 → BaseFilesFit (files_of_place k files)
all_fit files bytes small k within =
    let some = place_within 64 files k within in
    let jhr : length (files (jhr_file k)) < 2 ^ 31 = omega (arith, some, small) in
    let jdt : length (files (jdt_file k)) < 2 ^ 31 = omega (arith, some, small) in
    let jdx : length (files (jdx_file k)) < 2 ^ 31 = omega (arith, some, small) in
    record {
      jhr = (bytes (jhr_file k) (is_data (jhr_file k) (omega arith) (omega arith)), jhr);
      jdt = (bytes (jdt_file k) (is_data (jdt_file k) (omega arith) (omega arith)), jdt);
      jdx = (bytes (jdx_file k) (is_data (jdx_file k) (omega arith) (omega arith)), jdx);
      jlr = bytes (jlr_file k) (is_data (jlr_file k) (omega arith) (omega arith));
    }

no_base_fits : BaseFilesFit no_base
no_base_fits = record { jhr = (All-nil IsByte, omega arith); jdt = (All-nil IsByte, omega arith); jdx = (All-nil IsByte, omega arith); jlr = All-nil IsByte }

layouts_fit : (shapes : List Shape) (conferences : List ConferenceContents) → AllZip IsConference shapes conferences → (k : ℕ) → BaseFilesFit (get_or (layouts shapes conferences) k no_base)
layouts_fit [] conferences zip k = no_base_fits
layouts_fit (s ∷ shapes) [] zip k = absurd zip
layouts_fit (s ∷ shapes) (c ∷ conferences) zip zero = layout_fits s c zip.0
layouts_fit (s ∷ shapes) (c ∷ conferences) zip (suc k) = layouts_fit shapes conferences zip.1 k

bytes_at : (files : HostFiles) (file k : ℕ) → BaseFilesFit (files_of_place k files) → jhr_file k ≤ file → file ≤ jlr_file k → All IsByte (files file)
bytes_at files file k fit from upto =
    let P : ℕ → Type 0 = λ n. All IsByte (files n) in
    elim (cases_eq file (jhr_file k)) [
      | inl e ↦ subst P (sym e) fit.jhr.0
      | inr other ↦ elim (cases_eq file (jdt_file k)) [
        | inl e ↦ subst P (sym e) fit.jdt.0
        | inr neither ↦ elim (cases_eq file (jdx_file k)) [
          | inl e ↦ subst P (sym e) fit.jdx.0
          | inr last ↦ let e : file ≡ jlr_file k = omega arith in subst P (sym e) fit.jlr
        ]
      ]
    ]

pub laid_bytes : (b : Board) (files : HostFiles) → IsBoard b → IsStoredIn b files → AreFileBytes files
laid_bytes b files ok laid file is =
    let parts = and_parts (ltb file 258) (not (eqb file 1)) is in
    let below = ltb-true file 258 parts.0 in
    let journal = eqb-false file 1 (not-true (eqb file 1) parts.1) in
    let k = kept b files ok.ledger laid in
    elim (cases_eq file ledger_file) [
      | inl e ↦ subst (λ n. All IsByte (files n)) (sym e) (subst (All IsByte) (sym k.text) (ledger_fits k.ledger k.stored).0)
      | inr other ↦
          let place : ℕ = (file - 2) / 4 in
          let within : place < 64 = omega arith in
          let fit = subst BaseFilesFit (sym (stored_places b files laid place within)) (layouts_fit (shapes_of b.ledger) b.conferences ok.conferences place) in
          bytes_at files file place fit (omega arith) (omega arith)
    ]

-- ---- all places
pub all_places : (n : ℕ) (bases : List BaseFiles) (files : HostFiles) → AreAt 0 bases files → length bases ≡ n → ((k : ℕ) → k < 64 - n → files_of_place (n + k) files ≡ no_base)
    → (place : ℕ) → place < 64 → files_of_place place files ≡ get_or bases place no_base
all_places n bases files there count none place within = elim (cases_lt place (length bases)) [
  | inl before ↦ same_place place (0 + place) files (omega arith) ∙ at_place 0 place bases files there before
  | inr past ↦ same_place place (n + (place - n)) files (omega arith) ∙ (none (place - n) (omega arith) ∙ sym (get_or_past bases place no_base past))
]

base_count : (b : Board) → IsBoard b → length (base_files b) ≡ length b.ledger.setup.conferences
base_count b ok = layouts_count (shapes_of b.ledger) b.conferences ok.conferences ∙ shapes_count b.ledger 0 b.ledger.setup.conferences

few_bases : (b : Board) → IsBoard b → length (base_files b) ≤ 64
few_bases b ok = let many = ok.ledger.setup.conferences.many in omega (arith, base_count b ok, many)

pub board_sized : (b : Board) (files : HostFiles) → IsBoard b → IsLayout b files → data_size files ≡ board_size b
board_sized b files ok laid = same_size b files (few_bases b ok) laid

pub old_sized : (b : Board) (files : HostFiles) → IsBoard b → IsOldLayout b files → data_size files ≡ old_size b
old_sized b files ok laid = old_same_size b files (few_bases b ok) laid.ledger laid.places

-- ---- the parts
abbrev board_made : Ledger → List ConferenceContents → Board
board_made l conferences = record { ledger = l; conferences = conferences }

parts_take : (files : HostFiles) (b : Board) → AreFileBytes files → data_size files ≤ size_limit (files ledger_file) → parts_of files ≡ Ok b → IsBoard b × IsStoredIn b files
parts_take files b bytes short e =
    let p = board_parts files b e in
    let raw : Ledger = p.ledger in
    let l : Ledger = today raw in
    let conferences : List ConferenceContents = p.conferences in
    let n : ℕ = length l.setup.conferences in
    let made : Board = board_made l conferences in
    let most = limit_most (files ledger_file) in
    let text = ledger_takes (files ledger_file) raw (bytes ledger_file refl) p.at_ledger in
    let valid : IsLedger l = today_valid raw text.0 in
    let many = valid.setup.conferences.many in
    let there = conferences_take l 0 l.setup.conferences files conferences (all_fit files bytes (omega (arith, most, short))) (omega (arith, many)) p.at_bases in
    let count : length (base_files made) ≡ n = layouts_count (shapes_of l) conferences there.0 ∙ shapes_count l 0 l.setup.conferences in
    let few : length (base_files made) ≤ 64 = omega (arith, count, many) in
    let places : HasPlaces made files = all_places n (base_files made) files there.1 count (rest_take n (64 - n) files p.rest p.at_rest) in
    let laid = in_either (eqb raw.version 1) made files (laid_as raw made files refl text.1 places few short text.0) in
    let ok : IsBoard made = record {
      ledger = valid;
      conferences = there.0;
      highs = highs_take conferences (1 + n) l.users p.highs p.at_highs;
      small = stored_small made files valid few laid short;
    } in
    subst (λ (x : Board). IsBoard x × IsStoredIn x files) (ok_is made b p.at_end) (ok, laid)

pub parts_again : (b : Board) (files : HostFiles) → IsBoard b → IsStoredIn b files → parts_of files ≡ Ok b
parts_again b files ok laid =
    let l : Ledger = b.ledger in
    let n : ℕ = length l.setup.conferences in
    let bases : List BaseFiles = base_files b in
    let many = ok.ledger.setup.conferences.many in
    let places = stored_places b files laid in
    let count : length bases ≡ n = base_count b ok in
    let k = kept b files ok.ledger laid in
    let text : ledger_in files ≡ Ok k.ledger = ap ledger_of k.text ∙ ledger_again k.ledger k.stored in
    let there : AreAt 0 bases files = all_at 0 bases files (λ k within. same_place (0 + k) k files (omega arith) ∙ places k (omega arith)) in
    let read : bases_in files l ≡ Ok b.conferences = conferences_again l 0 l.setup.conferences files b.conferences ok.ledger ok.conferences there in
    let rest = rest_again n (64 - n) files (λ k within. places (n + k) (omega arith) ∙ get_or_past bases (n + k) no_base (omega arith)) in
    let highs = highs_again b.conferences (1 + n) l.users ok.highs in
    after_ledger files k.ledger text ∙ (ap (λ (x : Ledger). parts_behind x files) k.is ∙ all_parts files l b.conferences (tt {0}) (tt {0}) read rest highs)

-- ---- the whole
abbrev pub size_rules : HostFiles → Rules
size_rules files = (Size, ltb (size_limit (files ledger_file)) (data_size files)) ∷ []

pub takes : (files : HostFiles) (b : Board) → AreFileBytes files → board_of files ≡ Ok b → IsBoard b × IsStoredIn b files
unfolding board_of
takes files b bytes e =
    let a = bind_ok (by_rules ledger_file 0 (size_rules files) (tt {0})) (λ sized. parts_of files) b e in
    let k = rules_kept ledger_file 0 (size_rules files) (tt {0}) a.0 a.1 in
    parts_take files b bytes (ltb-false (size_limit (files ledger_file)) (data_size files) k.0.0) a.2

pub again : (b : Board) (files : HostFiles) → IsBoard b → IsStoredIn b files → board_of files ≡ Ok b
unfolding board_of
again b files ok laid =
    let short = stored_short b files (few_bases b ok) ok.small laid in
    ap (λ r. r >>= λ sized. parts_of files) (kept_rules ledger_file 0 (size_rules files) (tt {0}) (le-ltb (size_limit (files ledger_file)) (data_size files) short, tt)) ∙ parts_again b files ok laid

-- ---- the laws
no_damage : {A : Type 0} (r : Result A Damage) → damage_of r ≡ None → (x : A) × (r ≡ Ok x)
no_damage (Ok x) e = (x, refl)
no_damage (Err d) e = absurd cc

pub undamaged : (files : HostFiles) → AreFileBytes files → (board_damage files ≡ None) ↔ ((b : Board) × IsBoard b × IsStoredIn b files)
undamaged files bytes = (
  λ e. let r = no_damage (board_of files) e in let t = takes files r.0 bytes r.1 in (r.0, t.0, t.1),
  λ (b, ok, laid). ap damage_of (again b files ok laid),
)

pub unique : (a b : Board) (files : HostFiles) → IsBoard a → IsBoard b → IsStoredIn a files → IsStoredIn b files → a ≡ b
unique a b files first second one other = ok_is a b (sym (again a files first one) ∙ again b files second other)

pub not_both : (a b : Board) (files : HostFiles) → IsBoard a → IsBoard b → IsLayout a files → ¬ IsOldLayout b files
not_both a b files first second new old = one_version a.ledger b.ledger (files ledger_file) new.ledger old.ledger

pub not_empty : (b : Board) (files : HostFiles) → IsBoard b → IsStoredIn b files → ¬ AreEmpty files
not_empty b files ok laid none =
    let k = kept b files ok.ledger laid in
    let valid = today_valid k.ledger k.stored in
    let text : length (stored_text k.ledger) ≡ 0 = ap length (sym k.text ∙ none.ledger) in
    omega (arith, text, ledger_length (version_of k.ledger.version) k.ledger (λ j d within. (valid.uploads j d within).digest))
