-- An offer, and its acknowledgement, on each board with one outline.
use Rattle.std.proofs.Common.{◌≡◌, ℕ, ◌+◌, ◌-◌, ◌<◌, ◌≤◌, ◌^◌, true, List, [], ◌++◌, length, get_or, refl, sym, ap, ◌∙◌, subst, arith}
use Rattle.std.specs.Prelude.{slice_get, Option, Some, None, IfSome}
use Rattle.std.specs.List.{AllZip}
use Rattle.std.proofs.lemmas.Bool.{cond-true, lt-ltb}
use Rattle.board_changes.proofs.EachBase.{turns_as}
use Rattle.board_changes.proofs.EachBoard.{gathered_leads, step_each}
use Rattle.board_changes.proofs.GatherLaws.{gathered_kept, gathered_rest}
use Rattle.board_changes.proofs.LeadLaws.{leads_next, places_count}
use Rattle.board_changes.proofs.PlaceSteps.{step_joins}
use Rattle.board_layout.proofs.BoardLookups.{conferences_count}
use Rattle.board_changes.specs.Change.{ChangesBase, Leads}
use Rattle.board_changes.specs.Gathered.{Gathered, Joins}
use Rattle.board_changes.specs.Outlined.{ChangesEach, GatheredEach, KeepsEach, LeadsEach}
use Rattle.board_layout.proofs.OneOutline.{alike_ledger, alike_user, alike_valid}
use Rattle.board_layout.specs.Board.{Board}
use Rattle.board_layout.specs.Layout.{IsLayout, base_files, files_in}
use Rattle.board_layout.specs.Lookups.{user_of}
use Rattle.board_layout.specs.Outlines.{board_outline}
use Rattle.board_layout.specs.Renewed.{contents_of}
use Rattle.board_layout.specs.Valid.{IsBoard}
use Rattle.board_ledger.specs.Ledger.{ledger_text}
use Rattle.board_ledger.specs.UserPuts.{user_puts}
use Rattle.open_offers.specs.declared.offer.OpenOffer.{OpenOffer}
use Rattle.board_ledger.specs.declared.user.User.{User}
use Rattle.intent_journal.specs.declared.patch.Patch.{Patch}
use Rattle.board_layout.proofs.jam_base.OutlineChanges.{acknowledged_blind}
use Rattle.board_layout.specs.jam_base.Change.{SuitsIntent}
use Rattle.board_layout.specs.jam_base.Contents.{Contents, pointer_of, with_acknowledged}
use Rattle.board_layout.specs.jam_base.Outlined.{outlined, TurnsEach}
use Rattle.board_layout.specs.jam_base.declared.change.BaseChange.{BaseChange}
use Rattle.jam_layout.specs.Valid.{IsConference}
use Rattle.jam_layout.specs.declared.files.BaseFiles.{BaseFiles}
use Rattle.jam_layout.specs.declared.shape.Shape.{Shape}
use Rattle.offer_changes.proofs.AcknowledgeLaws.{base_read, read_is, read_open, read_room}
use Rattle.offer_changes.proofs.OfferLaws.{offer_leads, offer_shapes, offer_there}
use Rattle.offer_changes.proofs.PutLaws.{gathered_user}
use Rattle.board_changes.proofs.StepLaws.{change_suits}
use Rattle.offer_changes.proofs.UserLaws.{user_there}
use Rattle.offer_changes.specs.Changed.{acknowledged, is_high_above, offer_in, offer_made, offered_to, read_offer, read_up_to, with_offer, without_offer}
use Rattle.board_changes.specs.Steps.{base_after, patches_or_none}

-- ---- an offer
module _ (b : Board) (id : ℕ) (u : User) (highs : List ℕ) (user : user_of id b ≡ Some u) (next : IsBoard (offered_to id highs u b)) where
  offer_keeps : (other : Board) → IsBoard other → board_outline other ≡ board_outline b → IsBoard (offered_to id highs u other)
  offer_keeps other valid alike =
      let here = user_there other id u (alike_user other b alike id ∙ user) in
      alike_valid (offered_to id highs u other) (offered_to id highs u b) (ap (offered_to id highs u) alike) next
      (subst (λ (s : List Shape). AllZip IsConference s other.conferences) (sym (offer_shapes other id u highs here)) valid.conferences)

  pub offered_each : (intent : List Patch) → intent ≡ user_puts (id - 1) (with_offer highs u) b.ledger → LeadsEach b (offer_made id highs) intent
  offered_each intent is = record {
    leads = λ other valid alike.
        let same : user_of id other ≡ Some u = alike_user other b alike id ∙ user in
        let puts : user_puts (id - 1) (with_offer highs u) other.ledger ≡ intent = ap (user_puts (id - 1) (with_offer highs u)) (alike_ledger other b alike) ∙ sym is in
        let leads = offer_leads other id u highs (user_there other id u same) valid (offer_keeps other valid alike) in
        subst (λ (d : Board). Leads (IsLayout other) d intent) (sym (offer_there other id u highs same)) (subst (Leads (IsLayout other) (offered_to id highs u other)) puts leads);
  }

-- ---- one base that a user acknowledges, where the high is above his pointer
module _ (id : ℕ) (name : List ℕ) (now high : ℕ) (base : Contents) (above : is_high_above high (pointer_of id base.shape.readers base.conference.pointers) ≡ true) where
  above_alike : (other : Contents) → outlined other ≡ outlined base → is_high_above high (pointer_of id other.shape.readers other.conference.pointers) ≡ true
  above_alike other alike = ap (λ (c : Contents). is_high_above high (pointer_of id c.shape.readers c.conference.pointers)) alike ∙ above

  read_alike : (other : Contents) → outlined other ≡ outlined base → read_up_to id name now high other ≡ with_acknowledged id name high now other
  read_alike other alike = cond-true (is_high_above high (pointer_of id other.shape.readers other.conference.pointers)) (with_acknowledged id name high now other) other (above_alike other alike)

  -- what the outline shows after it
  read_outline : (other : Contents) → outlined other ≡ outlined base → outlined (read_up_to id name now high other) ≡ with_acknowledged id name high now (outlined base)
  read_outline other alike = ap outlined (read_alike other alike) ∙ ((acknowledged_blind base id name high now).outline other alike ∙ ap (with_acknowledged id name high now) alike)

  read_each : (patches : List Patch) → TurnsEach base (with_acknowledged id name high now) patches → ChangesEach base (read_up_to id name now high) patches
  read_each patches each = record {
    files = turns_as base (with_acknowledged id name high now) (read_up_to id name now high) patches (λ other alike. sym (read_alike other alike)) each;
    outline = λ other alike. read_outline other alike ∙ sym (read_outline base refl);
  }

pub above_each : (id : ℕ) (name : List ℕ) (now high : ℕ) (base : Contents) (pointer : ℕ) (patches : List Patch) → Some pointer ≡ pointer_of id base.shape.readers base.conference.pointers → pointer < high
    → TurnsEach base (with_acknowledged id name high now) patches → ChangesEach base (read_up_to id name now high) patches
above_each id name now high base pointer patches is above each = read_each id name now high base (ap (is_high_above high) (sym is) ∙ lt-ltb pointer high above) patches each

-- ---- an acknowledgement
module _ (b : Board) (id now : ℕ) (u : User) (o : OpenOffer) (user : user_of id b ≡ Some u) (found : offer_in o.number u.offers ≡ Some o) (ok : IsBoard b) (small : now < 2 ^ 32) where
  there_each : (other : Board) → board_outline other ≡ board_outline b → slice_get other.ledger.users (id - 1) ≡ Some u
  there_each other alike = user_there other id u (alike_user other b alike id ∙ user)

  read_keeps : KeepsEach b (read_offer id now u o)
  read_keeps = record { valid = λ other valid alike. read_is other id now u o (there_each other alike) valid found small }

  pub read_begun : (intent : List Patch) → intent ≡ user_puts (id - 1) (without_offer o.number u) b.ledger → GatheredEach b (read_offer id now u o) 0 intent
  read_begun intent is = record {
    gathered = λ other valid alike.
        let here = there_each other alike in
        let next : Board = read_offer id now u o other in
        let puts : user_puts (id - 1) (without_offer o.number u) other.ledger ≡ intent = ap (user_puts (id - 1) (without_offer o.number u)) (alike_ledger other b alike) ∙ sym is in
        subst (Gathered (IsLayout other) (ledger_text next.ledger) (base_files other) (base_files next) 0) puts
        (gathered_user other.ledger id u (without_offer o.number u) here (read_room other id now u o here valid) (IsLayout other) (base_files other) (base_files next) (λ files is. is.places) (λ files is. is.ledger));
  }

  -- one place more
  module _ (place : ℕ) (base : Contents) (done : List Patch) (change : Option BaseChange) (here : slice_get (contents_of b) place ≡ Some base) (is : base_after base change ≡ read_up_to id u.name now (get_or o.highs place 0) base)
      (changes : IfSome change (ChangesBase base)) (each : ChangesEach base (read_up_to id u.name now (get_or o.highs place 0)) (patches_or_none change)) (so_far : GatheredEach b (read_offer id now u o) place done) where
    suits : SuitsIntent base.shape.place (files_in (read_up_to id u.name now (get_or o.highs place 0) base)) (patches_or_none change)
    suits = change_suits base (read_up_to id u.name now (get_or o.highs place 0) base) change changes is

    pub read_joins : Joins done (patches_or_none change)
    read_joins =
        let there = there_each b refl in
        step_joins b (read_offer id now u o b) place base (read_up_to id u.name now (get_or o.highs place 0) base) done (patches_or_none change) ok (read_is b id now u o there ok found small) here
        (base_read b id now u o there ok place base here) (so_far.gathered b ok refl) (each.files.turns base refl) suits

    pub read_gathers : GatheredEach b (read_offer id now u o) (place + 1) (done ++ patches_or_none change)
    read_gathers =
        step_each b (read_offer id now u o) place base (read_up_to id u.name now (get_or o.highs place 0)) done (patches_or_none change) here read_keeps
        (λ other valid alike one is. base_read other id now u o (there_each other alike) valid place one is) each suits so_far

  pub read_leads : (intent : List Patch) → GatheredEach b (read_offer id now u o) (length b.conferences) intent → LeadsEach b (read_offer id now u o) intent
  read_leads intent gathered = gathered_leads b (read_offer id now u o) intent read_keeps (λ other alike. refl) gathered

-- ---- a board that stays
kept_leads : (b : Board) → IsBoard b → Leads (IsLayout b) b []
kept_leads b ok =
    let text : List ℕ = ledger_text b.ledger in
    let files : List BaseFiles = base_files b in
    let none = gathered_kept (IsLayout b) text files files (λ files is. is.places) (λ files is. is.ledger) in
    let few : 0 + length b.conferences ≤ 64 = omega (arith, conferences_count b ok, ok.ledger.setup.conferences.many) in
    let all = gathered_rest (IsLayout b) text files files [] 0 (length b.conferences) none few (omega (arith, places_count b ok)) (λ k low high. refl) in
    leads_next b b [] ok ok refl (subst (λ (k : ℕ). Gathered (IsLayout b) text files files k []) (omega arith) all)

-- where the packet isn't offered to the user
module _ (b : Board) (id packet now : ℕ) (u : User) (user : user_of id b ≡ Some u) (none : offer_in packet u.offers ≡ None) where
  pub stays_each : LeadsEach b (acknowledged id packet now) []
  stays_each = record {
    leads = λ other valid alike. subst (λ (d : Board). Leads (IsLayout other) d []) (sym (read_open other id packet now u None (alike_user other b alike id ∙ user) none)) (kept_leads other valid);
  }
