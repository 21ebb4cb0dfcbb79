-- Patches that were gathered for all places lead to the next board.
use Rattle.std.proofs.Common.{◌≡◌, ℕ, ◌≤◌, suc, List, [], ◌∷◌, length, refl, sym, ap, ◌∙◌, subst, arith}
use Rattle.std.specs.List.{AllZip}
use Rattle.board_changes.specs.Change.{Leads}
use Rattle.board_changes.specs.Changed.{new_ledger, empty_conferences, made}
use Rattle.board_changes.specs.Gathered.{Gathered}
use Rattle.board_changes.proofs.GatherLaws.{gathered_all}
use Rattle.board_changes.proofs.MadeLaws.{are_conferences}
use Rattle.board_changes.proofs.MemberLaws.{files_count}
use Rattle.board_layout.proofs.BasePlaces.{shapes_count, layouts_count}
use Rattle.board_layout.specs.Board.{Board, shapes_of}
use Rattle.board_layout.specs.Layout.{AreEmpty, IsLayout, base_files, layouts}
use Rattle.board_layout.specs.Valid.{IsBoard}
use Rattle.board_ledger.specs.Ledger.{ledger_text}
use Rattle.board_ledger.specs.declared.ledger.Ledger.{Ledger}
use Rattle.intent_journal.specs.declared.patch.Patch.{Patch}
use Rattle.board_layout.specs.jam_layout.Valid.{IsConference}
use Rattle.board_layout.specs.jam_layout.declared.files.BaseFiles.{BaseFiles}
use Rattle.board_ledger.specs.setup_file.declared.fields.SetupFields.{SetupFields}

-- lists that are related item by item are as long
pub zipped_count : {A B : Type 0} (R : A → B → Type 0) (xs : List A) (ys : List B) → AllZip R xs ys → length xs ≡ length ys
zipped_count R [] [] all = refl
zipped_count R [] (y ∷ ys) all = absurd all
zipped_count R (x ∷ xs) [] all = absurd all
zipped_count R (x ∷ xs) (y ∷ ys) all = ap suc (zipped_count R xs ys all.1)

pub leads_made : (setup : SetupFields) (created : ℕ) (patches : List Patch)
    → Gathered AreEmpty (ledger_text (new_ledger setup created)) [] (layouts (shapes_of (new_ledger setup created)) (empty_conferences (shapes_of (new_ledger setup created)))) (length (shapes_of (new_ledger setup created))) patches
    → Leads AreEmpty (made setup created) patches
leads_made setup created patches gathered =
    let l : Ledger = new_ledger setup created in
    let new : List BaseFiles = layouts (shapes_of l) (empty_conferences (shapes_of l)) in
    let all = subst (λ (n : ℕ). Gathered AreEmpty (ledger_text l) [] new n patches) (sym (layouts_count (shapes_of l) (empty_conferences (shapes_of l)) (are_conferences (shapes_of l)))) gathered in
    record {
      starts = gathered.starts;
      files = λ files empty. record {
        ledger = gathered.ledger_is files empty;
        places = gathered_all AreEmpty (ledger_text l) [] new patches all (omega arith) files empty;
      };
    }

-- a board has files for each of its conferences
pub places_count : (b : Board) → IsBoard b → length b.conferences ≡ length (base_files b)
places_count b ok = sym (zipped_count IsConference (shapes_of b.ledger) b.conferences ok.conferences) ∙ (shapes_count b.ledger 0 b.ledger.setup.conferences ∙ sym (files_count b ok))

pub leads_next : (b next : Board) (patches : List Patch) → IsBoard b → IsBoard next → length b.ledger.setup.conferences ≡ length next.ledger.setup.conferences
    → Gathered (IsLayout b) (ledger_text next.ledger) (base_files b) (base_files next) (length b.conferences) patches → Leads (IsLayout b) next patches
leads_next b next patches was ok places gathered =
    let new : List BaseFiles = base_files next in
    let counted : length b.conferences ≡ length new = places_count b was ∙ (files_count b was ∙ (places ∙ sym (files_count next ok))) in
    let all = subst (λ (n : ℕ). Gathered (IsLayout b) (ledger_text next.ledger) (base_files b) new n patches) counted gathered in
    let fewer : length (base_files b) ≤ length new = omega (arith, files_count b was, files_count next ok, places) in
    record {
      starts = gathered.starts;
      files = λ files is. record {
        ledger = gathered.ledger_is files is;
        places = gathered_all (IsLayout b) (ledger_text next.ledger) (base_files b) new patches all fewer files is;
      };
    }
