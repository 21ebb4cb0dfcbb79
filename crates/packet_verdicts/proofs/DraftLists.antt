-- The drafts of a place, by the indexes that are kept of it.
use Rattle.std.proofs.Common.{◌≡◌, ℕ, ◌<◌, List, [], ◌∷◌, ◌++◌, length, get_or, set, refl, sym, ap, ◌∙◌, subst, inl, inr, arith}
use Rattle.std.specs.Prelude.{All, Option, Some, None, option_map, slice_get}
use Rattle.std.specs.Vec.{with_item}
use Rattle.std.proofs.lemmas.Bool.{cases_eq, ne_eqb}
use Rattle.std.proofs.lemmas.List.{get_or-set_same, get_or-set_other, length-set}
use Rattle.std.proofs.lemmas.List.Elements.{All-push}
use Rattle.std.proofs.lemmas.Option.{get_or_from_slice_get, none-some, same_Some, slice_get-get_or}
use Rattle.post_changes.proofs.board_changes.OneBase.{all_at}
use Rattle.jam_records.specs.declared.message.Message.{Message}
use Rattle.board_layout.specs.jam_layout.Messages.{IsTyped}
use Rattle.packet_verdicts.proofs.Indexes.{at_index, found_at, indexes_hit, indexes_miss}
use Rattle.packet_verdicts.specs.Accepted.{IsIndexed, indexes_in}
use Rattle.post_changes.specs.Posted.{posts_in}
use Rattle.packet_verdicts.specs.Typed.{IsTypedPost}
use Rattle.packet_verdicts.specs.declared.accepted.Accepted.{Accepted}

-- a list that is kept is the one of its place
pub list_at : (a : Accepted) (place k : ℕ) (list : List ℕ) → IsIndexed a → place < 64 → k ≡ place → list ≡ get_or a.by_place.items k list → list ≡ indexes_in place a.posts
list_at a place k list ok within same here =
    let count = ok.places in
    let inside : k < length a.by_place.items = omega arith in
    here ∙ (get_or_from_slice_get a.by_place.items k (get_or a.by_place.items k []) list (slice_get-get_or a.by_place.items k [] inside) ∙ (ap (λ (j : ℕ). get_or a.by_place.items j []) same ∙ ok.indexes place within))

-- ---- what is found
pub draft_found : (posts : List (ℕ × Message)) (place behind i : ℕ) (list : List ℕ) (o : Option (ℕ × Message)) → list ≡ indexes_in place posts → Some i ≡ slice_get list behind → o ≡ slice_get posts i
    → option_map (λ (p : ℕ × Message). p.1) o ≡ slice_get (posts_in place posts) behind
draft_found posts place behind i list o is here found =
    ap (option_map (λ (p : ℕ × Message). p.1)) found ∙ (ap (at_index posts) (here ∙ ap (λ (l : List ℕ). slice_get l behind) is) ∙ sym (found_at place posts behind))

pub no_draft : (posts : List (ℕ × Message)) (place behind : ℕ) (list : List ℕ) → list ≡ indexes_in place posts → None ≡ slice_get list behind → None ≡ slice_get (posts_in place posts) behind
no_draft posts place behind list is none = ap (at_index posts) (none ∙ ap (λ (l : List ℕ). slice_get l behind) is) ∙ sym (found_at place posts behind)

-- a draft that is found has no msgid
pub found_fresh : (posts : List (ℕ × Message)) (place behind : ℕ) (d : Message) → All (λ (p : ℕ × Message). p.1.msgid ≡ []) posts → slice_get (posts_in place posts) behind ≡ Some d → d.msgid ≡ []
found_fresh posts place behind d all here = by (slice_get (indexes_in place posts) behind) (sym (found_at place posts behind) ∙ here)
  where
    of_post : (i : ℕ) (o : Option (ℕ × Message)) → slice_get posts i ≡ o → option_map (λ (p : ℕ × Message). p.1) o ≡ Some d → d.msgid ≡ []
    of_post i None is e = absurd (none-some d e)
    of_post i (Some p) is e = ap (λ (m : Message). m.msgid) (sym (same_Some p.1 d e)) ∙ all_at (λ (q : ℕ × Message). q.1.msgid ≡ []) posts i p is all

    by : (o : Option ℕ) → at_index posts o ≡ Some d → d.msgid ≡ []
    by None e = absurd (none-some d e)
    by (Some i) e = of_post i (slice_get posts i) refl e

-- ---- a draft more
module _ (a : Accepted) (place index k : ℕ) (list new : List ℕ) (d : Message) (ok : IsIndexed a) (within : place < 64) (same : k ≡ place) (last : index ≡ length a.posts) (here : list ≡ get_or a.by_place.items k list) (more : new ≡ list ++ index ∷ []) where
  inside : k < length a.by_place.items
  inside = let count = ok.places in omega arith

  new_is : new ≡ indexes_in place (a.posts ++ (place, d) ∷ [])
  new_is = more ∙ ((λ i. list_at a place k list ok within same here i ++ last i ∷ []) ∙ sym (indexes_hit place a.posts d))

  indexes : (j : ℕ) → j < 64 → get_or (set a.by_place.items k new) j [] ≡ indexes_in j (a.posts ++ (place, d) ∷ [])
  indexes j few = elim (cases_eq place j) [
    | inl alike ↦
        let at : k ≡ j = same ∙ alike in
        ap (λ (n : ℕ). get_or (set a.by_place.items k new) n []) (sym at) ∙ (get_or-set_same a.by_place.items k new [] inside ∙ (new_is ∙ ap (λ (n : ℕ). indexes_in n (a.posts ++ (place, d) ∷ [])) alike))
    | inr other ↦ get_or-set_other a.by_place.items k j new [] (λ e. other (sym same ∙ sym e)) ∙ (ok.indexes j few ∙ sym (indexes_miss j place a.posts d (ne_eqb place j other)))
  ]

  pub indexed_more : (posts : List (ℕ × Message)) → d.msgid ≡ [] → IsTyped d → posts ≡ a.posts ++ (place, d) ∷ [] → IsIndexed record { posts = posts; by_place = with_item a.by_place k new }
  indexed_more posts none typed is =
      let all : IsIndexed record { posts = a.posts ++ (place, d) ∷ []; by_place = with_item a.by_place k new } = record {
        places = length-set a.by_place.items k new ∙ ok.places;
        indexes = indexes;
        drafts = All-push (λ (p : ℕ × Message). p.1.msgid ≡ []) a.posts (place, d) ok.drafts none;
        typed = All-push IsTypedPost a.posts (place, d) ok.typed typed;
      } in
      subst (λ (ps : List (ℕ × Message)). IsIndexed record { posts = ps; by_place = with_item a.by_place k new }) (sym is) all
