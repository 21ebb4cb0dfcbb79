-- A board with one base in place of another: what it is made of, its files, and the patches that make them.
use Rattle.std.proofs.Common.{◌≡◌, ◌≢◌, ℕ, zero, suc, ◌+◌, ◌*◌, ◌-◌, ◌^◌, ◌<◌, ◌≤◌, List, [], ◌∷◌, ◌++◌, length, map, set, replicate, true, leb, refl, sym, ap, ◌∙◌, subst, arith}
use Rattle.std.specs.Prelude.{All, IsSomeAnd, sum_by, slice_get, Option, Some, None}
use Rattle.std.specs.List.{AllZip}
use Rattle.std.proofs.lemmas.Bool.{and_parts, and_from, leb-true, le-leb}
use Rattle.std.proofs.lemmas.List.{map-set, get_or-set_other, length-map, length-replicate, length-set}
use Rattle.std.proofs.lemmas.List.Elements.{All-nil, All-cons, All-set, All-weaker}
use Rattle.std.proofs.lemmas.List.Sums.{get_or-le-sum_by, sum_by-set}
use Rattle.std.proofs.lemmas.Option.{get_or_from_slice_get, slice_get_within, none-some, same_Some}
use Rattle.board_changes.specs.Change.{ChangesBase, Leads}
use Rattle.board_changes.specs.Changed.{base_at, with_base}
use Rattle.board_changes.specs.Gathered.{at_place, Gathered, Joins}
use Rattle.intent_journal.specs.door_outside.File.{journal_file}
use Rattle.intent_journal.specs.Journal.{patches_text}
use Rattle.intent_journal.specs.Patches.{bytes_of, file_of, patch_offset}
use Rattle.intent_journal.specs.declared.patch.Patch.{Patch}
use Rattle.board_changes.proofs.GatherLaws.{gathered_kept, gathered_more, gathered_rest}
use Rattle.board_changes.proofs.JoinLaws.{journal_length}
use Rattle.board_changes.proofs.LeadLaws.{leads_next, places_count}
use Rattle.board_changes.proofs.MemberLaws.{files_at, files_count, place_at, place_small}
use Rattle.board_layout.proofs.BasePlaces.{IsBase, layouts_in, zipped}
use Rattle.board_layout.proofs.RenewedBases.{contents_are, last_new, none_new}
use Rattle.board_layout.proofs.SizeLaws.{size_in}
use Rattle.board_layout.specs.Board.{Board, board_with, conferences_in, shapes_in, shapes_of}
use Rattle.board_layout.specs.Layout.{IsLayout, base_files, base_size, board_size, files_in, layouts}
use Rattle.board_layout.specs.Renewed.{contents, contents_of, renewed}
use Rattle.board_layout.specs.Valid.{IsBoard, board_limit, highs_fit, offers_fit}
use Rattle.board_ledger.specs.Ledger.{ledger_text}
use Rattle.board_ledger.specs.open_offers.declared.offer.OpenOffer.{OpenOffer}
use Rattle.board_ledger.specs.declared.user.User.{User}
use Rattle.board_layout.specs.jam_base.Change.{IsOfPlace, SuitsIntent, Turns}
use Rattle.board_layout.specs.jam_base.Contents.{Contents}
use Rattle.board_layout.specs.jam_base.declared.change.BaseChange.{BaseChange}
use Rattle.board_layout.specs.jam_layout.Layout.{files_size}
use Rattle.board_layout.specs.jam_layout.Valid.{IsConference}
use Rattle.board_layout.specs.jam_layout.declared.conference.ConferenceContents.{ConferenceContents}
use Rattle.board_layout.specs.jam_layout.declared.files.BaseFiles.{BaseFiles}
use Rattle.board_layout.specs.jam_layout.declared.shape.Shape.{Shape}

-- ---- the conferences and the shapes of which contents are made
pub conferences_back : (shapes : List Shape) (conferences : List ConferenceContents) → AllZip IsConference shapes conferences → conferences_in (contents shapes conferences) ≡ conferences
conferences_back [] [] all = refl
conferences_back [] (c ∷ conferences) all = absurd all
conferences_back (shape ∷ shapes) [] all = absurd all
conferences_back (shape ∷ shapes) (c ∷ conferences) all = ap (λ (cs : List ConferenceContents). c ∷ cs) (conferences_back shapes conferences all.1)

pub shapes_back : (shapes : List Shape) (conferences : List ConferenceContents) → AllZip IsConference shapes conferences → shapes_in (contents shapes conferences) ≡ shapes
shapes_back [] [] all = refl
shapes_back [] (c ∷ conferences) all = absurd all
shapes_back (shape ∷ shapes) [] all = absurd all
shapes_back (shape ∷ shapes) (c ∷ conferences) all = ap (λ (ss : List Shape). shape ∷ ss) (shapes_back shapes conferences all.1)

pub are_bases : (shapes : List Shape) (conferences : List ConferenceContents) → AllZip IsConference shapes conferences → All IsBase (contents shapes conferences)
are_bases [] conferences all = All-nil IsBase
are_bases (shape ∷ shapes) [] all = All-nil IsBase
are_bases (shape ∷ shapes) (c ∷ conferences) all = All-cons IsBase (record { shape = shape; conference = c }) (contents shapes conferences) all.0 (are_bases shapes conferences all.1)

-- ---- a list with one item in place of another
pub all_at : {A : Type 0} (P : A → Type 0) (xs : List A) (place : ℕ) (x : A) → slice_get xs place ≡ Some x → All P xs → P x
all_at P xs place x here all = subst P (get_or_from_slice_get xs place x x here) (all place x (slice_get_within xs place x here))

pub set_there : {A : Type 0} (xs : List A) (place : ℕ) (old new : A) → slice_get xs place ≡ Some old → slice_get (set xs place new) place ≡ Some new
set_there [] place old new here = absurd (none-some old here)
set_there (x ∷ xs) zero old new here = refl
set_there (x ∷ xs) (suc place) old new here = set_there xs place old new here

shapes_set : (bases : List Contents) (place : ℕ) (old new : Contents) → slice_get bases place ≡ Some old → new.shape ≡ old.shape → shapes_in (set bases place new) ≡ shapes_in bases
shapes_set [] place old new here same = refl
shapes_set (b ∷ bases) zero old new here same = ap (λ (s : Shape). s ∷ shapes_in bases) (same ∙ ap (λ (c : Contents). c.shape) (sym (same_Some b old here)))
shapes_set (b ∷ bases) (suc place) old new here same = ap (λ (ss : List Shape). b.shape ∷ ss) (shapes_set bases place old new here same)

sum_set : (f : Contents → ℕ) (bases : List Contents) (place : ℕ) (old new : Contents) → slice_get bases place ≡ Some old → sum_by f (set bases place new) + f old ≡ sum_by f bases + f new
sum_set f bases place old new here = omega (arith, sum_by-set f bases place new old (slice_get_within bases place old here), ap f (get_or_from_slice_get bases place old old here))

highs_set : (bases : List Contents) (place : ℕ) (old new : Contents) (highs : List ℕ) → slice_get bases place ≡ Some old → length old.conference.slots ≤ length new.conference.slots
    → highs_fit (conferences_in bases) highs ≡ true → highs_fit (conferences_in (set bases place new)) highs ≡ true
highs_set [] place old new highs here more fit = absurd (none-some old here)
highs_set (b ∷ bases) place old new [] here more fit = by place
  where
    by : (k : ℕ) → highs_fit (conferences_in (set (b ∷ bases) k new)) [] ≡ true
    by zero = refl
    by (suc k) = refl
highs_set (b ∷ bases) zero old new (high ∷ highs) here more fit =
    let parts = and_parts (leb high (length b.conference.slots)) (highs_fit (conferences_in bases) highs) fit in
    let low = leb-true high (length b.conference.slots) parts.0 in
    let slots = ap (λ (c : Contents). length c.conference.slots) (same_Some b old here) in
    and_from (leb high (length new.conference.slots)) (highs_fit (conferences_in bases) highs) (le-leb high (length new.conference.slots) (omega (arith, low, slots, more))) parts.1
highs_set (b ∷ bases) (suc place) old new (high ∷ highs) here more fit =
    let parts = and_parts (leb high (length b.conference.slots)) (highs_fit (conferences_in bases) highs) fit in
    and_from (leb high (length b.conference.slots)) (highs_fit (conferences_in (set bases place new)) highs) parts.0 (highs_set bases place old new highs here more parts.1)

-- offers whose highs fit old conferences fit new ones, where all highs do
pub still_fit : (old new : List ConferenceContents) → ((highs : List ℕ) → highs_fit old highs ≡ true → highs_fit new highs ≡ true) → (offers : List OpenOffer) → offers_fit old offers ≡ true → offers_fit new offers ≡ true
still_fit old new still [] fit = refl
still_fit old new still (o ∷ offers) fit =
    let parts = and_parts (highs_fit old o.highs) (offers_fit old offers) fit in
    and_from (highs_fit new o.highs) (offers_fit new offers) (still o.highs parts.0) (still_fit old new still offers parts.1)

-- ---- bases anew
renewed_nones : (olds : List Contents) (n : ℕ) → renewed olds (replicate n None) ≡ olds
renewed_nones olds zero = none_new olds
renewed_nones [] (suc n) = refl
renewed_nones (old ∷ olds) (suc n) = ap (λ (xs : List Contents). old ∷ xs) (renewed_nones olds n)

pub renewed_only : (olds : List Contents) (place : ℕ) (new : Contents) → renewed olds (replicate place None ++ Some new ∷ []) ≡ set olds place new
renewed_only olds place new =
    let counted : length (replicate {A = Option Contents} place None) ≡ place = length-replicate {A = Option Contents} place None in
    last_new olds (replicate place None) new ∙ (renewed_nones (set olds (length (replicate {A = Option Contents} place None)) new) place ∙ ap (λ (n : ℕ). set olds n new) counted)

-- ---- the board
module _ (b : Board) (place : ℕ) (old new : Contents) (ok : IsBoard b) (here : slice_get (contents_of b) place ≡ Some old) (same : new.shape ≡ old.shape) where
  shapes_are : shapes_in (contents_of b) ≡ shapes_of b.ledger
  shapes_are = shapes_back (shapes_of b.ledger) b.conferences ok.conferences

  shapes_stay : shapes_in (set (contents_of b) place new) ≡ shapes_of b.ledger
  shapes_stay = shapes_set (contents_of b) place old new here same ∙ shapes_are

  pub contents_next : contents_of (with_base place (Some new) b) ≡ set (contents_of b) place new
  contents_next = contents_are b.ledger (set (contents_of b) place new) shapes_stay

  conferences_are : conferences_in (contents_of b) ≡ b.conferences
  conferences_are = conferences_back (shapes_of b.ledger) b.conferences ok.conferences

  -- ---- files
  old_files : base_files b ≡ map files_in (contents_of b)
  old_files = (λ i. layouts (sym shapes_are i) (sym conferences_are i)) ∙ layouts_in (contents_of b)

  new_files : base_files (with_base place (Some new) b) ≡ set (map files_in (contents_of b)) place (files_in new)
  new_files =
      ap (λ (s : List Shape). layouts s (conferences_in (set (contents_of b) place new))) (sym shapes_stay)
      ∙ (layouts_in (set (contents_of b) place new) ∙ map-set files_in (contents_of b) place new)

  others_stay : (k : ℕ) → k ≢ place → at_place (base_files b) k ≡ at_place (base_files (with_base place (Some new) b)) k
  others_stay k ne =
      ap (λ (fs : List BaseFiles). at_place fs k) old_files
      ∙ (sym (get_or-set_other (map files_in (contents_of b)) place k (files_in new) _ ne) ∙ ap (λ (fs : List BaseFiles). at_place fs k) (sym new_files))

  -- ---- how many bytes they have
  board_is : board_with b.ledger (contents_of b) ≡ b
  board_is = λ i. record { ledger = b.ledger; conferences = conferences_are i }

  -- the board grows as its base does
  pub size_next : board_size (with_base place (Some new) b) + base_size old ≡ board_size b + base_size new
  size_next =
      let was = size_in b.ledger (contents_of b) shapes_are in
      let is = size_in b.ledger (set (contents_of b) place new) shapes_stay in
      omega (arith, was, is, sum_set base_size (contents_of b) place old new here, ap board_size board_is)

  -- ---- validity
  pub base_was : IsBase old
  base_was = all_at IsBase (contents_of b) place old here (are_bases (shapes_of b.ledger) b.conferences ok.conferences)

  pub board_next : IsConference new.shape new.conference → length old.conference.slots ≤ length new.conference.slots → board_size (with_base place (Some new) b) ≤ board_limit → IsBoard (with_base place (Some new) b)
  board_next fits more small =
      let all : All IsBase (set (contents_of b) place new) = All-set IsBase (contents_of b) place new fits (are_bases (shapes_of b.ledger) b.conferences ok.conferences) in
      record {
        ledger = ok.ledger;
        conferences = subst (λ (s : List Shape). AllZip IsConference s (conferences_in (set (contents_of b) place new))) shapes_stay (zipped (set (contents_of b) place new) all);
        highs = All-weaker (λ (u : User). offers_fit b.conferences u.offers ≡ true) (λ (u : User). offers_fit (conferences_in (set (contents_of b) place new)) u.offers ≡ true)
            (λ u fit. still_fit b.conferences (conferences_in (set (contents_of b) place new)) still u.offers fit) b.ledger.users ok.highs;
        small = small;
      }
    where
      still : (highs : List ℕ) → highs_fit b.conferences highs ≡ true → highs_fit (conferences_in (set (contents_of b) place new)) highs ≡ true
      still highs fit = highs_set (contents_of b) place old new highs here more (subst (λ (cs : List ConferenceContents). highs_fit cs highs ≡ true) (sym conferences_are) fit)

  new_there : slice_get (set (contents_of b) place new) place ≡ Some new
  new_there = set_there (contents_of b) place old new here

  pub base_fits : IsBoard (with_base place (Some new) b) → IsConference new.shape new.conference
  base_fits next =
      let all : All IsBase (set (contents_of b) place new) = subst (All IsBase) contents_next (are_bases (shapes_of b.ledger) (conferences_in (set (contents_of b) place new)) next.conferences) in
      all_at IsBase (set (contents_of b) place new) place new new_there all

-- ---- the change of one base
-- the base that changes, where there is one
pub changed_there : (o : Option Contents) (change : BaseChange) → IsSomeAnd o (λ old. ChangesBase old change) → (old : Contents) × (o ≡ Some old) × ChangesBase old change
changed_there None change is = absurd is
changed_there (Some old) change is = (old, refl, is)

-- ---- what an intent asks of the patches
limit_spelled : (n text : ℕ) → n ≤ board_limit → 5 * text ≤ 5 * (4 * 11) + 6 * n → 13 + text ≤ 41943040
limit_spelled n text small short = omega (arith, small, short)

suits_joins : (place : ℕ) (new : BaseFiles) (patches : List Patch) → SuitsIntent place new patches → files_size new ≤ board_limit → Joins [] patches
suits_joins place new patches suits small = record {
  no_journal = All-weaker (λ (p : Patch). IsOfPlace place (file_of p)) (λ (p : Patch). file_of p ≢ journal_file) (λ p within e. omega (arith, within.0, e)) patches suits.within;
  once = suits.once;
  ends = All-weaker (λ (p : Patch). patch_offset p + length (bytes_of p) ≤ files_size new) (λ (p : Patch). patch_offset p + length (bytes_of p) < 2 ^ 31) (λ p most. omega (arith, most, small)) patches suits.ends;
  fits = let most = limit_spelled (files_size new) (length (patches_text patches)) small suits.short in omega (arith, journal_length patches, most);
}

module _ (b : Board) (place : ℕ) (old : Contents) (change : BaseChange) (ok : IsBoard b) (here : base_at place b ≡ Some old) (changes : ChangesBase old change) (next : IsBoard (with_base place (Some change.base) b)) where
  base_small : files_size (files_in change.base) ≤ board_limit
  base_small =
      let bases : List Contents = set (contents_of b) place change.base in
      let same = size_in b.ledger bases (shapes_stay b place old change.base ok here changes.shape) in
      let there = new_there b place old change.base ok here changes.shape in
      let part = get_or-le-sum_by base_size bases place change.base (slice_get_within bases place change.base there) in
      let small = next.small in
      omega (arith, same, part, ap base_size (get_or_from_slice_get bases place change.base change.base there), small)

  pub base_joins : Joins [] change.patches
  base_joins = suits_joins old.shape.place (files_in change.base) change.patches changes.intent base_small

  pub base_becomes : renewed (contents_of b) (replicate place None ++ Some change.base ∷ []) ≡ contents_of (with_base place (Some change.base) b)
  base_becomes = renewed_only (contents_of b) place change.base ∙ sym (contents_next b place old change.base ok here changes.shape)

-- ---- the files, where the patches make those of the new base
module _ (b : Board) (place : ℕ) (old : Contents) (change : BaseChange) (ok : IsBoard b) (here : base_at place b ≡ Some old) (changes : ChangesBase old change) (moved : Turns old.shape.place (files_in old) (files_in change.base) change.patches)
    (next : IsBoard (with_base place (Some change.base) b)) where
  small : place < 64
  small = place_small b place old ok here

  within : place < length (base_files (with_base place (Some change.base) b))
  within = omega (
    arith,
    slice_get_within (contents_of b) place old here,
    ap length (new_files b place old change.base ok here changes.shape),
    length-set (map files_in (contents_of b)) place (files_in change.base),
    length-map (contents_of b) files_in,
  )

  old_is : at_place (base_files b) place ≡ files_in old
  old_is = files_at b place old here

  new_is : at_place (base_files (with_base place (Some change.base) b)) place ≡ files_in change.base
  new_is =
      files_at (with_base place (Some change.base) b) place change.base
      (ap (λ (bases : List Contents). slice_get bases place) (contents_next b place old change.base ok here changes.shape) ∙ new_there b place old change.base ok here changes.shape)

  turns : Turns place (at_place (base_files b) place) (at_place (base_files (with_base place (Some change.base) b)) place) change.patches
  turns =
      subst (λ (k : ℕ). Turns k (at_place (base_files b) place) (at_place (base_files (with_base place (Some change.base) b)) place) change.patches) (place_at b place old here)
      (subst (λ (f : BaseFiles). Turns old.shape.place (at_place (base_files b) place) f change.patches) (sym new_is) (subst (λ (f : BaseFiles). Turns old.shape.place f (files_in change.base) change.patches) (sym old_is) moved))

  suits : SuitsIntent place (at_place (base_files (with_base place (Some change.base) b)) place) change.patches
  suits =
      subst (λ (k : ℕ). SuitsIntent k (at_place (base_files (with_base place (Some change.base) b)) place) change.patches) (place_at b place old here)
      (subst (λ (f : BaseFiles). SuitsIntent old.shape.place f change.patches) (sym new_is) changes.intent)

  stay : (k : ℕ) → k ≢ place → at_place (base_files b) k ≡ at_place (base_files (with_base place (Some change.base) b)) k
  stay = others_stay b place old change.base ok here changes.shape

  before : Gathered (IsLayout b) (ledger_text b.ledger) (base_files b) (base_files (with_base place (Some change.base) b)) place []
  before =
      let none = gathered_kept (IsLayout b) (ledger_text b.ledger) (base_files b) (base_files (with_base place (Some change.base) b)) (λ files is. is.places) (λ files is. is.ledger) in
      let so_far = gathered_rest (IsLayout b) (ledger_text b.ledger) (base_files b) (base_files (with_base place (Some change.base) b)) [] 0 place none (omega (arith, small)) (omega (arith, within)) (λ k low high. stay k (λ e. omega (arith, e, high))) in
      subst (λ (k : ℕ). Gathered (IsLayout b) (ledger_text b.ledger) (base_files b) (base_files (with_base place (Some change.base) b)) k []) (omega arith) so_far

  pub base_leads : Leads (IsLayout b) (with_base place (Some change.base) b) change.patches
  base_leads =
      let files : List BaseFiles = base_files (with_base place (Some change.base) b) in
      let places = places_count b ok in
      let old_count = files_count b ok in
      let new_count = files_count (with_base place (Some change.base) b) next in
      let many = ok.ledger.setup.conferences.many in
      let n : ℕ = length b.conferences - (place + 1) in
      let first = gathered_more (IsLayout b) (ledger_text b.ledger) (base_files b) files place [] change.patches before small within turns suits in
      let all = gathered_rest (IsLayout b) (ledger_text b.ledger) (base_files b) files change.patches (place + 1) n first (omega (arith, places, old_count, new_count, many, within)) (omega (arith, places, old_count, new_count, within)) (λ k low high. stay k (λ e. omega (arith, e, low))) in
      let end : place + 1 + n ≡ length b.conferences = omega (arith, places, old_count, new_count, within) in
      leads_next b (with_base place (Some change.base) b) change.patches ok next refl (subst (λ (k : ℕ). Gathered (IsLayout b) (ledger_text b.ledger) (base_files b) files k change.patches) end all)
