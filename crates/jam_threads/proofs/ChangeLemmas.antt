-- The one link number that a message at the end changes, and the threads of slots.
use Rattle.std.proofs.Common.{◌≡◌, ℕ, suc, ◌+◌, ◌-◌, ◌<◌, ◌≤◌, ◌==◌, List, [], ◌∷◌, ◌++◌, length, take, get_or, true, cond, Option, Some, None, refl, sym, ap, ◌∙◌, arith, subst, inl, inr}
use Rattle.std.specs.Prelude.{OnOk, OnErr, Result, Ok, Err}
use Rattle.std.specs.List.{slice_get, position}
use Rattle.std.proofs.lemmas.Bool.{cond-true, cond-false, cases_eq, eq-eqb, true≢false}
use Rattle.std.proofs.lemmas.Option.{slice_get-get_or}
use Rattle.std.proofs.lemmas.List.Quantifiers.{position-Some}
use Rattle.std.proofs.lemmas.Grind.{get_or_default_zero}
use Rattle.jam_records.specs.declared.message.Message.{Message}
use Rattle.jam_records.specs.declared.message.Slot.{Slot}
use Rattle.jam_records.specs.declared.message.Slot.TheVariants.{Gone, Held}
use Rattle.jam_threads.specs.Children.{has_msgid, number_at, original_behind, slot_original, original, children}
use Rattle.jam_threads.specs.Chains.{last_in, hung, AreChains}
use Rattle.jam_threads.specs.FirstNumbers.{kept_number}
use Rattle.jam_threads.specs.LinkChanges.{link_with, link_after, change_by, link_change, IsLinkChange}
use Rattle.jam_threads.specs.Links.{link_of, AreLinks}
use Rattle.jam_threads.specs.Threading.{AreThreads}
use Rattle.jam_threads.specs.declared.link.Link.{Link}
use Rattle.jam_threads.specs.declared.link.LinkField.TheVariants.{First, Next}
use Rattle.jam_threads.specs.declared.link.LinkPatch.{LinkPatch}
use Rattle.jam_threads.specs.declared.threads.Threads.{Threads}
use Rattle.jam_threads.proofs.ChildrenLemmas.{other_number, link_same, link_hung, link_new, last_found}

-- ---- a number that is an original, or has one, is that of a message
abbrev IsHeldAt : List Slot → ℕ → Type 0
IsHeldAt slots place = (message : Message) × (slice_get slots place ≡ Some (Held message))

held_by : (slots : List Slot) (place : ℕ) (s : Slot) (id : List ℕ) → slice_get slots place ≡ Some s → has_msgid id s ≡ true → IsHeldAt slots place
held_by slots place Gone id is has = absurd (true≢false (sym has))
held_by slots place (Held message) id is has = (message, is)

first_by : (slots : List Slot) (id : List ℕ) (found : Option ℕ) (n : ℕ) → position (has_msgid id) slots ≡ found → number_at found ≡ suc n → IsHeldAt slots n
first_by slots id None n is at = absurd (omega (arith, at))
first_by slots id (Some place) n is at =
    let passes = position-Some (has_msgid id) slots place Gone is in
    let here : place ≡ n = omega (arith, at) in
    subst (IsHeldAt slots) here (held_by slots place (get_or slots place Gone) id (slice_get-get_or slots place Gone passes.0) passes.1)

original_held : (slots : List Slot) (id : List ℕ) (n : ℕ) → original_behind slots id ≡ suc n → IsHeldAt slots n
original_held slots [] n is = absurd (omega (arith, is))
original_held slots (b ∷ id) n is = first_by slots (b ∷ id) (position (has_msgid (b ∷ id)) slots) n refl is

answer_by : (slots : List Slot) (place m : ℕ) (found : Option Slot) → slice_get slots place ≡ found → slot_original (take place slots) found ≡ suc m → IsHeldAt slots place
answer_by slots place m None is original_is = absurd (omega (arith, original_is))
answer_by slots place m (Some Gone) is original_is = absurd (omega (arith, original_is))
answer_by slots place m (Some (Held message)) is original_is = (message, is)

answer_held : (slots : List Slot) (place m : ℕ) → original slots (suc place) ≡ suc m → IsHeldAt slots place
unfolding original
answer_held slots place m is = answer_by slots place m (slice_get slots place) refl is

-- ---- the change
abbrev if_number : ℕ → ℕ → Link → Link → Link
if_number k number new old = cond (k == number) new old

hung_none : (o n p k : ℕ) (link : Link) → p ≡ 0 → hung o n p k link ≡ (if_number (suc k) o (link_with First n link) link)
hung_none o n p k link none = cond-true (p == 0) _ _ (eq-eqb p 0 none)

hung_some : (o n p k : ℕ) (link : Link) → (p ≡ 0 → ⊥) → hung o n p k link ≡ (if_number (suc k) p (link_with Next n link) link)
hung_some o n p k link some = cond-false (p == 0) _ _ (other_number p 0 some)

one_less : (n : ℕ) → (n ≡ 0 → ⊥) → n ≡ suc (n - 1)
one_less n some = omega arith

plain : (slots : List Slot) (m : Message) → original_behind slots m.replyid ≡ 0 → IsLinkChange slots m None
plain slots m none = record {
  links = λ number some within.
      let one : number ≡ suc (number - 1) = omega (arith, some) in
      subst (λ n. link_of (slots ++ Held m ∷ []) n ≡ link_of slots n) (sym one) (link_same slots (Held m) (number - 1) (omega (arith, some, within)) none);
  last = link_new slots (Held m);
  older = tt;
}

first_answer : (slots : List Slot) (m : Message) (o p : ℕ) → p ≡ 0 → (o ≡ 0 → ⊥) → o ≡ original_behind slots m.replyid → ((k : ℕ) → k < length slots → link_of (slots ++ Held m ∷ []) (suc k) ≡ hung o (suc (length slots)) p k (link_of slots (suc k)))
    → IsLinkChange slots m (Some (record { number = o; field = First; value = suc (length slots) }))
first_answer slots m o p alone some is hangs =
    let held = original_held slots m.replyid (o - 1) (sym is ∙ one_less o some) in
    record {
      links = λ number above within.
          let one : number ≡ suc (number - 1) = omega (arith, above) in
          subst (λ n. link_of (slots ++ Held m ∷ []) n ≡ link_after (Some (record { number = o; field = First; value = suc (length slots) })) n (link_of slots n)) (sym one)
          (hangs (number - 1) (omega (arith, above, within)) ∙ hung_none o (suc (length slots)) p (number - 1) (link_of slots (suc (number - 1))) alone);
      last = link_new slots (Held m);
      older = record { message = held.0; some = omega (arith, some); held = held.1; value = refl };
    }

next_answer_there : (slots : List Slot) (m : Message) (o p : ℕ) → (p ≡ 0 → ⊥) → (o ≡ 0 → ⊥) → o ≡ original_behind slots m.replyid → p ≡ last_in (children slots o)
    → ((k : ℕ) → k < length slots → link_of (slots ++ Held m ∷ []) (suc k) ≡ hung o (suc (length slots)) p k (link_of slots (suc k)))
    → IsLinkChange slots m (Some (record { number = p; field = Next; value = suc (length slots) }))
next_answer_there slots m o p more some is last hangs =
    let found = elim (last_found slots o) as (λ _. original slots p ≡ o) [ inl none ↦ absurd (more (last ∙ none)) | inr there ↦ ap (original slots) last ∙ there.1 ] in
    let held = answer_held slots (p - 1) (o - 1) (ap (original slots) (sym (one_less p more)) ∙ found ∙ one_less o some) in
    record {
      links = λ number above within.
          let one : number ≡ suc (number - 1) = omega (arith, above) in
          subst (λ n. link_of (slots ++ Held m ∷ []) n ≡ link_after (Some (record { number = p; field = Next; value = suc (length slots) })) n (link_of slots n)) (sym one)
          (hangs (number - 1) (omega (arith, above, within)) ∙ hung_some o (suc (length slots)) p (number - 1) (link_of slots (suc (number - 1))) more);
      last = link_new slots (Held m);
      older = record { message = held.0; some = omega (arith, more); held = held.1; value = refl };
    }

is_change_by : (slots : List Slot) (m : Message) (o p : ℕ) (change : Option LinkPatch) → o ≡ original_behind slots m.replyid → p ≡ last_in (children slots o) → change ≡ change_by o p (suc (length slots)) → IsLinkChange slots m change
is_change_by slots m o p change is last made = elim (cases_eq o 0) [
  | inl none ↦
      let nothing : change ≡ None = made ∙ cond-true (o == 0) _ _ (eq-eqb o 0 none) in
      subst (IsLinkChange slots m) (sym nothing) (plain slots m (sym is ∙ none))
  | inr some ↦
      let answers : slot_original slots (Some (Held m)) ≡ 0 → ⊥ = λ zero_now. some (is ∙ zero_now) in
      let second : change ≡ cond (p == 0) (Some (record { number = o; field = First; value = suc (length slots) })) (Some (record { number = p; field = Next; value = suc (length slots) })) =
      made ∙ cond-false (o == 0) _ _ (other_number o 0 some) in
      let hangs : (k : ℕ) → k < length slots → link_of (slots ++ Held m ∷ []) (suc k) ≡ hung o (suc (length slots)) p k (link_of slots (suc k)) =
      λ k within. link_hung slots (Held m) k within answers ∙ (λ i. hung (sym is i) (suc (length slots)) (last_in (children slots (sym is i))) k (link_of slots (suc k))) ∙ ap (λ q. hung o (suc (length slots)) q k (link_of slots (suc k))) (sym last) in
      elim (cases_eq p 0) [
        | inl alone ↦
            let made_first : change ≡ Some (record { number = o; field = First; value = suc (length slots) }) = second ∙ cond-true (p == 0) _ _ (eq-eqb p 0 alone) in
            subst (IsLinkChange slots m) (sym made_first) (first_answer slots m o p alone some is hangs)
        | inr more ↦
            let made_next : change ≡ Some (record { number = p; field = Next; value = suc (length slots) }) = second ∙ cond-false (p == 0) _ _ (other_number p 0 more) in
            subst (IsLinkChange slots m) (sym made_next) (next_answer_there slots m o p more some is last hangs)
      ]
]

pub is_change : (slots : List Slot) (m : Message) → IsLinkChange slots m (link_change slots m.replyid)
unfolding link_change
is_change slots m = is_change_by slots m (original_behind slots m.replyid) (last_in (children slots (original_behind slots m.replyid))) (link_change slots m.replyid) refl refl refl

-- ---- threads
pub no_threads : (threads : Threads) → ((id : List ℕ) → kept_number threads.firsts id ≡ 0) → threads.links.items ≡ [] → threads.last_answers.items ≡ [] → AreThreads [] threads
no_threads threads firsts links lasts = record {
  few = omega arith;
  firsts = firsts;
  chains = record {
    count = ap length links;
    count_lasts = ap length lasts;
    link = λ place other within. absurd (omega (arith, within));
    last = λ place within. absurd (omega (arith, within));
  };
}

next_number : (place : ℕ) → suc place ≡ place + 1
next_number place = omega arith

pub chains_links : (slots : List Slot) (links : List Link) (lasts : List ℕ) → AreChains slots links lasts → AreLinks slots links
chains_links slots links lasts chains =
    let count = chains.count in
    record {
      count = count;
      each = λ place within.
          slice_get-get_or links place (link_of slots (place + 1)) (omega (arith, count, within))
          ∙ ap (λ (l : Link). Some l) (chains.link place (link_of slots (place + 1)) within ∙ ap (link_of slots) (next_number place));
    }

pub threads_links : (slots : List Slot) (threads : Threads) → AreThreads slots threads → AreLinks slots threads.links.items
threads_links slots threads are = chains_links slots threads.links.items threads.last_answers.items are.chains

-- ---- answers
pub on_ok : {A E : Type 0} (P Q : Type 0) (r : Result A E) → (P → Q) → OnOk r P → OnOk r Q
on_ok P Q (Ok x) f p = f p
on_ok P Q (Err e) f p = tt

pub on_err : {A E : Type 0} (P : Type 0) (r : Result A E) → P → OnErr r P
on_err P (Ok x) p = tt
on_err P (Err e) p = p

pub change_none : (slots : List Slot) (replyid : List ℕ) → original_behind slots replyid ≡ 0 → None ≡ link_change slots replyid
unfolding link_change
change_none slots replyid none = sym (cond-true (original_behind slots replyid == 0) _ _ (eq-eqb (original_behind slots replyid) 0 none))

pub change_is : (slots : List Slot) (replyid : List ℕ) (o last n : ℕ) (change : Option LinkPatch) → o ≡ original_behind slots replyid → last ≡ last_in (children slots o) → n ≡ suc (length slots) → change ≡ change_by o last n → change ≡ link_change slots replyid
unfolding link_change
change_is slots replyid o last n change original last_is number is =
    is ∙ ap (change_by o last) number ∙ ap (λ l. change_by o l (suc (length slots))) last_is
    ∙ ap (λ k. change_by k (last_in (children slots k)) (suc (length slots))) original

pub last_answer : (slots : List Slot) (links : List Link) (lasts : List ℕ) (o d : ℕ) → AreChains slots links lasts → 0 < o → o ≤ length slots → get_or lasts (o - 1) d ≡ last_in (children slots o)
last_answer slots links lasts o d chains some within =
    let count = chains.count_lasts in
    let one : suc (o - 1) ≡ o = omega (arith, some) in
    get_or_default_zero lasts (o - 1) d (omega (arith, some, within, count)) ∙ chains.last (o - 1) (omega (arith, some, within)) ∙ ap (λ k. last_in (children slots k)) one

-- threads of the same slots, by equal numbers and links
pub same_threads : (slots : List Slot) (old new : Threads) → new.links.items ≡ old.links.items → new.last_answers.items ≡ old.last_answers.items → ((id : List ℕ) → kept_number new.firsts id ≡ kept_number old.firsts id) → AreThreads slots old → AreThreads slots new
same_threads slots old new links lasts firsts are = record {
  few = are.few;
  firsts = λ id. firsts id ∙ are.firsts id;
  chains = subst (λ (xs : List Link). AreChains slots xs new.last_answers.items) (sym links) (subst (λ (ns : List ℕ). AreChains slots old.links.items ns) (sym lasts) are.chains);
}
