-- Drafts in their places, and items of a list that a loop goes over.
use Rattle.std.proofs.Common.{◌≡◌, ℕ, ◌+◌, ◌<◌, ◌≤◌, true, List, [], ◌∷◌, ◌++◌, length, get_or, map, take, drop, min, sym, ap, ◌∙◌, subst, arith, append_assoc, add-one, eqb, eq-eqb}
use Rattle.std.proofs.Math.Seq.{drop-cons}
use Rattle.std.proofs.lemmas.List.{take_more, take_all, map-append, take-append-drop}
use Rattle.std.proofs.lemmas.List.Folds.{list_any_at}
use Rattle.std.specs.List.{All, list_any}
use Rattle.import_sheet.specs.declared.sheet.Sheet.{Sheet}
use Rattle.long_names.specs.Plain.{with_long}
use Rattle.qwk_blocks.specs.declared.message.QwkMessage.{QwkMessage}
use Rattle.rep_packet.specs.declared.rep.Rep.{Rep}
use Rattle.offline_writer.specs.Fitting.{FitsQwk, IsFirstUnfit}
use Rattle.offline_writer.specs.Placing.{placed, placed_from, with_drafts}

-- ---- places
-- numbers that are alike up to the greatest one give the same places
same_places : (drafts : List QwkMessage) (a b : ℕ) → min a 65535 ≡ min b 65535 → placed_from a drafts ≡ placed_from b drafts
same_places [] a b is i = []
same_places (draft ∷ drafts) a b is i =
    let more : min (a + 1) 65535 ≡ min (b + 1) 65535 = omega arith in
    let m : QwkMessage = with_long draft in
    record m { header = record m.header { logical = is i } } ∷ same_places drafts (a + 1) (b + 1) more i

-- one draft more is in its place
pub placed_on : (made new old rest total : List QwkMessage) (number next : ℕ) (draft done : QwkMessage) → old ≡ draft ∷ rest → new ≡ made ++ done ∷ [] → done ≡ placed (number, draft)
    → min next 65535 ≡ min (number + 1) 65535 → made ++ placed_from number old ≡ total → new ++ placed_from next rest ≡ total
placed_on made new old rest total number next draft done first added is follows so_far =
    ap (λ ms. ms ++ placed_from next rest) (added ∙ ap (λ m. made ++ m ∷ []) is)
    ∙ (append_assoc made (placed (number, draft) ∷ []) (placed_from next rest)
    ∙ (ap (λ ms. made ++ placed (number, draft) ∷ ms) (same_places rest next (number + 1) follows)
    ∙ (ap (λ ds. made ++ placed_from number ds) (sym first) ∙ so_far)))

-- drafts in their places at the end of a reply packet
pub placed_in : (rep : Rep) (drafts more new : List QwkMessage) (number : ℕ) → number ≡ min (length rep.messages + 1) 65535 → more ≡ placed_from number drafts
    → new ≡ rep.messages ++ more → ◌≡◌ {A = Rep} (record { bbsid = rep.bbsid; messages = new }) (with_drafts rep drafts)
placed_in rep drafts more new number is placed_is new_is =
    let follows : min number 65535 ≡ min (length rep.messages + 1) 65535 = omega arith in
    let messages : new ≡ rep.messages ++ placed_from (length rep.messages + 1) drafts
    = new_is ∙ ap (λ ms. rep.messages ++ ms) (placed_is ∙ same_places drafts number (length rep.messages + 1) follows) in
    λ i. record { bbsid = rep.bbsid; messages = messages i }

-- ---- entries
-- a list up to an item, the item, and what is behind it
split_at : {X : Type 0} (items : List X) (i : ℕ) (item : X) → i < length items → item ≡ get_or items i item → items ≡ take i items ++ item ∷ drop (i + 1) items
split_at items i item within is =
    let behind : drop i items ≡ item ∷ drop (i + 1) items = drop-cons items i item within ∙ (λ j. sym is j ∷ drop (sym (add-one i) j) items) in
    sym (take-append-drop i items) ∙ ap (λ xs. take i items ++ xs) behind

-- the first entry whose draft doesn't fit
pub first_unfit_at : (f : Sheet → QwkMessage) (items entries : List Sheet) (i number : ℕ) (entry : Sheet) (drafts : List QwkMessage) (draft : QwkMessage) → items ≡ entries → i < length items
    → entry ≡ get_or items i entry → drafts ≡ map f (take i items) → All FitsQwk drafts → draft ≡ f entry → (FitsQwk draft → ⊥) → number ≡ length drafts + 1 → IsFirstUnfit (map f entries) number
first_unfit_at f items entries i number entry drafts draft same within is so_far fit draft_is unfit at = record {
  before = drafts;
  draft = draft;
  behind = map f (drop (i + 1) items);
  whole =
      ap (map f) (sym same ∙ split_at items i entry within is)
      ∙ (map-append f (take i items) (entry ∷ drop (i + 1) items) ∙ (λ j. sym so_far j ++ sym draft_is j ∷ map f (drop (i + 1) items)));
  fit = fit;
  unfit = unfit;
  at = at;
}

-- the draft of one entry more
pub drafts_more : (f : Sheet → QwkMessage) (items : List Sheet) (i : ℕ) (entry : Sheet) (drafts new : List QwkMessage) (draft : QwkMessage) → i < length items → entry ≡ get_or items i entry
    → drafts ≡ map f (take i items) → draft ≡ f entry → new ≡ drafts ++ draft ∷ [] → new ≡ map f (take (i + 1) items)
drafts_more f items i entry drafts new draft within is so_far draft_is added =
    added ∙ (λ j. so_far j ++ (draft_is ∙ ap f is) j ∷ [])
    ∙ (sym (map-append f (take i items) (get_or items i entry ∷ [])) ∙ ap (map f) (sym (take_more items i entry within)))

-- all of them
pub drafts_all : (f : Sheet → QwkMessage) (items entries : List Sheet) (i : ℕ) (drafts : List QwkMessage) → items ≡ entries → length items ≤ i → drafts ≡ map f (take i items) → drafts ≡ map f entries
drafts_all f items entries i drafts same end so_far = so_far ∙ ap (map f) (take_all i items end ∙ same)

-- ---- conferences
pub listed_at : (items conferences : List (ℕ × List ℕ)) (i number : ℕ) (listed : ℕ × List ℕ) → items ≡ conferences → i < length items → listed ≡ get_or items i listed → listed.0 ≡ number
    → list_any (λ l. eqb l.0 number) conferences ≡ true
listed_at items conferences i number listed same within is has =
    subst (λ (cs : List (ℕ × List ℕ)). list_any (λ l. eqb l.0 number) cs ≡ true) same
    (list_any_at (λ l. eqb l.0 number) items i listed within (eq-eqb (get_or items i listed).0 number (ap (λ (l : ℕ × List ℕ). l.0) (sym is) ∙ has)))
