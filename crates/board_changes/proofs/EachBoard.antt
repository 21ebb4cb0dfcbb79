-- The change of each board with one outline: that of one conference, and that of one place more.
use Rattle.std.proofs.Common.{◌≡◌, ℕ, ◌+◌, List, ◌++◌, length, Some, None, Option, sym, ap, ◌∙◌, subst}
use Rattle.std.specs.Prelude.{IsSomeAnd, option_map, slice_get}
use Rattle.board_changes.proofs.EachBase.{each_shape, each_suits, each_turns, suits_alike}
use Rattle.board_changes.proofs.LeadLaws.{leads_next}
use Rattle.board_changes.proofs.OneBase.{base_leads}
use Rattle.board_changes.proofs.PlaceSteps.{step_gathered}
use Rattle.board_changes.specs.Change.{ChangesBase, Leads}
use Rattle.board_changes.specs.Changed.{base_at, with_base}
use Rattle.board_changes.specs.Gathered.{Gathered}
use Rattle.board_changes.specs.Outlined.{ChangesEach, GatheredEach, KeepsEach, LeadsEach, MadeBy, with_changed}
use Rattle.board_layout.proofs.OneOutline.{alike_base, alike_base_size, alike_places}
use Rattle.board_layout.specs.Board.{Board}
use Rattle.board_layout.specs.Layout.{IsLayout, base_files, files_in}
use Rattle.board_layout.specs.Outlines.{board_outline}
use Rattle.board_layout.specs.Renewed.{contents_of}
use Rattle.board_layout.specs.Valid.{IsBoard}
use Rattle.board_ledger.specs.Ledger.{ledger_text}
use Rattle.intent_journal.specs.declared.patch.Patch.{Patch}
use Rattle.board_layout.specs.jam_base.Change.{SuitsIntent}
use Rattle.board_layout.specs.jam_base.Contents.{Contents}
use Rattle.board_layout.specs.jam_base.declared.change.BaseChange.{BaseChange}

-- a change that is another one for each board with the outline
pub leads_as : (old : Board) (change other : Board → Board) (patches : List Patch) → ((b : Board) → board_outline b ≡ board_outline old → change b ≡ other b) → LeadsEach old change patches → LeadsEach old other patches
leads_as old change other patches same each = record {
  leads = λ b valid alike. subst (λ (next : Board). Leads (IsLayout b) next patches) (same b alike) (each.leads b valid alike);
}

pub keeps_as : (old : Board) (change other : Board → Board) → ((b : Board) → board_outline b ≡ board_outline old → change b ≡ other b) → KeepsEach old change → KeepsEach old other
keeps_as old change other same each = record { valid = λ b valid alike. subst IsBoard (same b alike) (each.valid b valid alike) }

-- ---- the change of one conference
module _ (old : Board) (place : ℕ) (base : Contents) (f : Contents → Contents) (change : BaseChange) (here : base_at place old ≡ Some base) (changes : ChangesBase base change)
    (made : MadeBy f change base) (keeps : KeepsEach old (with_changed place f)) where
  suits : SuitsIntent base.shape.place (files_in (f base)) change.patches
  suits = suits_alike base.shape.place (files_in change.base) (files_in (f base)) change.patches (alike_base_size change.base (f base) made.base) changes.intent

  stays : (f base).shape ≡ base.shape
  stays = ap (λ (c : Contents). c.shape) (sym made.base) ∙ changes.shape

  leads_one : (b : Board) → IsBoard b → board_outline b ≡ board_outline old → Leads (IsLayout b) (with_changed place f b) change.patches
  leads_one b valid alike =
      let there = alike_base b old alike place base here in
      let other : Contents = there.0 in
      let own : BaseChange = record { base = f other; patches = change.patches } in
      let own_changes : ChangesBase other own = record {
        shape = each_shape base f change.patches made.each other there.2 stays;
        intent = each_suits base f change.patches made.each other there.2 suits;
      } in
      let next : IsBoard (with_base place (Some (f other)) b) = subst (λ (o : Option Contents). IsBoard (with_base place (option_map f o) b)) there.1 (keeps.valid b valid alike) in
      subst (λ (o : Option Contents). Leads (IsLayout b) (with_base place (option_map f o) b) change.patches) (sym there.1) (base_leads b place other own valid there.1 own_changes (each_turns base f change.patches made.each other there.2) next)

  pub base_leads_each : LeadsEach old (with_changed place f) change.patches
  base_leads_each = record { leads = leads_one }

-- where there is such a base
pub leads_there : (old : Board) (place : ℕ) (f : Contents → Contents) (change : BaseChange) (o : Option Contents) → base_at place old ≡ o → IsSomeAnd o (λ base. ChangesBase base change) → IsSomeAnd o (MadeBy f change)
    → KeepsEach old (with_changed place f) → LeadsEach old (with_changed place f) change.patches
leads_there old place f change None here changes each keeps = absurd changes
leads_there old place f change (Some base) here changes each keeps = base_leads_each old place base f change here changes each keeps

-- ---- the patches of one place more
module _ (old : Board) (change : Board → Board) (place : ℕ) (base : Contents) (f : Contents → Contents) (done more : List Patch) (here : slice_get (contents_of old) place ≡ Some base) (keeps : KeepsEach old change)
    (there : (b : Board) → IsBoard b → board_outline b ≡ board_outline old → (other : Contents) → slice_get (contents_of b) place ≡ Some other → slice_get (contents_of (change b)) place ≡ Some (f other))
    (each : ChangesEach base f more) (suits : SuitsIntent base.shape.place (files_in (f base)) more) where
  pub step_each : GatheredEach old change place done → GatheredEach old change (place + 1) (done ++ more)
  step_each so_far = record {
    gathered = λ b valid alike.
        let one = alike_base b old alike place base here in
        step_gathered b (change b) place one.0 (f one.0) done more valid (keeps.valid b valid alike) one.1 (there b valid alike one.0 one.1) (so_far.gathered b valid alike)
        (each_turns base f more each one.0 one.2) (each_suits base f more each one.0 one.2 suits);
  }

-- ---- the patches of all places
pub gathered_leads : (old : Board) (change : Board → Board) (patches : List Patch) → KeepsEach old change → ((b : Board) → board_outline b ≡ board_outline old → length b.ledger.setup.conferences ≡ length (change b).ledger.setup.conferences)
    → GatheredEach old change (length old.conferences) patches → LeadsEach old change patches
gathered_leads old change patches keeps places each = record {
  leads = λ b valid alike.
      let all = subst (λ (n : ℕ). Gathered (IsLayout b) (ledger_text (change b).ledger) (base_files b) (base_files (change b)) n patches) (sym (alike_places b old alike)) (each.gathered b valid alike) in
      leads_next b (change b) patches valid (keeps.valid b valid alike) (places b alike) all;
}
