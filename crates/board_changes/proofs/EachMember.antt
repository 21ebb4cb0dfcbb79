-- A user more on each board with one outline.
use Rattle.std.proofs.Common.{◌≡◌, ℕ, ◌+◌, Bool, true, false, cond, eqb, List, [], ◌∷◌, ◌++◌, length, map, Some, refl, sym, ap, ◌∙◌, subst}
use Rattle.std.specs.Prelude.{slice_get}
use Rattle.std.specs.Int.{bit_at}
use Rattle.std.proofs.lemmas.List.{append-nil}
use Rattle.board_changes.proofs.EachBase.{turns_as}
use Rattle.board_changes.proofs.EachBoard.{gathered_leads, step_each}
use Rattle.board_changes.proofs.LedgerPuts.{gathered_enroll}
use Rattle.board_changes.proofs.MemberLaws.{joined_is, next_base, next_in, same_base}
use Rattle.board_changes.proofs.PlaceSteps.{step_joins}
use Rattle.board_changes.proofs.UserSizes.{members_are}
use Rattle.board_changes.specs.Changed.{joined_from, joined_in, with_member, with_user}
use Rattle.board_changes.specs.Gathered.{Gathered, Joins}
use Rattle.board_changes.specs.Outlined.{ChangesEach, GatheredEach, KeepsEach, LeadsEach}
use Rattle.board_layout.proofs.OneOutline.{alike_ledger, alike_valid}
use Rattle.board_layout.specs.Board.{Board}
use Rattle.board_layout.specs.Layout.{IsLayout, base_files, files_in}
use Rattle.board_layout.specs.Outlines.{board_outline}
use Rattle.board_layout.specs.Renewed.{contents_of}
use Rattle.board_layout.specs.Valid.{IsBoard}
use Rattle.board_ledger.specs.EnrollPuts.{enroll_puts}
use Rattle.board_ledger.specs.Ledger.{ledger_text}
use Rattle.board_ledger.specs.Users.{is_member}
use Rattle.board_ledger.specs.declared.ledger.Ledger.{Ledger}
use Rattle.board_ledger.specs.declared.user.User.{User}
use Rattle.intent_journal.specs.declared.patch.Patch.{Patch}
use Rattle.board_layout.proofs.jam_base.PatchLaws.{nothing_small, nothing_turns}
use Rattle.board_layout.specs.jam_base.Change.{SuitsIntent, Turns}
use Rattle.board_layout.specs.jam_base.Contents.{Contents, with_reader}
use Rattle.board_layout.specs.jam_base.Outlined.{outlined, TurnsEach}
use Rattle.board_layout.specs.jam_layout.Outlines.{outline}
use Rattle.board_layout.specs.jam_layout.declared.conference.ConferenceContents.{ConferenceContents}

-- ---- the board
joined_one : (members place : ℕ) (c : ConferenceContents) → outline (joined_in members place c) ≡ joined_in members place (outline c)
joined_one members place c = by (eqb (bit_at members place) 1)
  where
    by : (joined : Bool) → outline (cond joined (record c { pointers = c.pointers ++ 0 ∷ [] }) c) ≡ cond joined (record (outline c) { pointers = c.pointers ++ 0 ∷ [] }) (outline c)
    by true = refl
    by false = refl

joined_outline : (members place : ℕ) (conferences : List ConferenceContents) → map outline (joined_from members place conferences) ≡ joined_from members place (map outline conferences)
joined_outline members place [] = refl
joined_outline members place (c ∷ conferences) = λ i. joined_one members place c i ∷ joined_outline members (place + 1) conferences i

pub member_outline : (u : User) (b : Board) → board_outline (with_member u b) ≡ with_member u (board_outline b)
member_outline u b = ap (λ (conferences : List ConferenceContents). record { ledger = with_user u b.ledger; conferences = conferences }) (joined_outline u.members 0 b.conferences)

pub member_keeps : (b : Board) (u : User) → IsBoard (with_member u b) → KeepsEach b (with_member u)
member_keeps b u next = record {
  valid = λ other valid alike.
      alike_valid (with_member u other) (with_member u b) (member_outline u other ∙ (ap (with_member u) alike ∙ sym (member_outline u b))) next (members_are other u valid);
}

-- ---- the base of one place
away_each : (l : Ledger) (u : User) (place : ℕ) (base : Contents) → is_member u place ≡ false → ChangesEach base (next_base l u place) []
away_each l u place base away = record {
  files = record { turns = λ other alike. subst (λ (c : Contents). Turns base.shape.place (files_in other) (files_in c) []) (sym (same_base l u place other away)) (nothing_turns base.shape.place (files_in other)) };
  outline = λ other alike. ap outlined (same_base l u place other away) ∙ (alike ∙ ap outlined (sym (same_base l u place base away)));
}

joined_each : (l : Ledger) (u : User) (place : ℕ) (base : Contents) (patches : List Patch) → is_member u place ≡ true → TurnsEach base (with_reader (length l.users + 1) u.name) patches → ChangesEach base (next_base l u place) patches
joined_each l u place base patches member each =
    let join : Contents → Contents = with_reader (length l.users + 1) u.name in
    record {
      files = turns_as base join (next_base l u place) patches (λ other alike. sym (joined_is l u place other member)) each;
      outline = λ other alike. ap outlined (joined_is l u place other member) ∙ (ap join alike ∙ ap outlined (sym (joined_is l u place base member)));
    }

-- ---- its patches, behind those that were gathered
module _ (b : Board) (u : User) (place : ℕ) (base : Contents) (done : List Patch) (ok : IsBoard b) (next : IsBoard (with_member u b)) (here : slice_get (contents_of b) place ≡ Some base) (so_far : GatheredEach b (with_member u) place done) where
  there : (other : Board) → IsBoard other → board_outline other ≡ board_outline b → (one : Contents) → slice_get (contents_of other) place ≡ Some one → slice_get (contents_of (with_member u other)) place ≡ Some (next_base b.ledger u place one)
  there other valid alike one at = next_in other u place one at ∙ ap (λ (l : Ledger). Some (next_base l u place one)) (alike_ledger other b alike)

  pub away_gathers : is_member u place ≡ false → GatheredEach b (with_member u) (place + 1) done
  away_gathers away =
      let none = nothing_small base.shape.place (files_in (next_base b.ledger u place base)) in
      subst (GatheredEach b (with_member u) (place + 1)) (append-nil done)
      (step_each b (with_member u) place base (next_base b.ledger u place) done [] here (member_keeps b u next) there (away_each b.ledger u place base away) none so_far)

  module _ (member : is_member u place ≡ true) (made : Contents) (patches : List Patch) (is : made ≡ with_reader (length b.ledger.users + 1) u.name base) (each : TurnsEach base (with_reader (length b.ledger.users + 1) u.name) patches)
      (suits : SuitsIntent base.shape.place (files_in made) patches) where
    changes : ChangesEach base (next_base b.ledger u place) patches
    changes = joined_each b.ledger u place base patches member each

    suits_next : SuitsIntent base.shape.place (files_in (next_base b.ledger u place base)) patches
    suits_next = subst (λ (c : Contents). SuitsIntent base.shape.place (files_in c) patches) (is ∙ sym (joined_is b.ledger u place base member)) suits

    pub member_joins : Joins done patches
    member_joins =
        step_joins b (with_member u b) place base (next_base b.ledger u place base) done patches ok next here (next_in b u place base here) (so_far.gathered b ok refl) (changes.files.turns base refl) suits_next

    pub member_gathers : GatheredEach b (with_member u) (place + 1) (done ++ patches)
    member_gathers = step_each b (with_member u) place base (next_base b.ledger u place) done patches here (member_keeps b u next) there changes suits_next so_far

-- ---- all of it
pub member_begun : (b : Board) (u : User) (intent : List Patch) → intent ≡ enroll_puts b.ledger u → GatheredEach b (with_member u) 0 intent
member_begun b u intent is = record {
  gathered = λ other valid alike.
      let ledger : List ℕ = ledger_text (with_user u other.ledger) in
      let puts : enroll_puts other.ledger u ≡ intent = ap (λ (l : Ledger). enroll_puts l u) (alike_ledger other b alike) ∙ sym is in
      subst (Gathered (IsLayout other) ledger (base_files other) (base_files (with_member u other)) 0) puts
      (gathered_enroll other.ledger u (IsLayout other) (base_files other) (base_files (with_member u other)) (λ files is. is.places) (λ files is. is.ledger));
}

pub member_leads : (b : Board) (u : User) (intent : List Patch) → IsBoard (with_member u b) → GatheredEach b (with_member u) (length b.conferences) intent → LeadsEach b (with_member u) intent
member_leads b u intent next gathered = gathered_leads b (with_member u) intent (member_keeps b u next) (λ other alike. refl) gathered
