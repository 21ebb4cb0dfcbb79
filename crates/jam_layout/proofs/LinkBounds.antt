-- Links are at most the count of slots.
use Rattle.std.proofs.Common.{ℕ, zero, suc, ◌≤◌, cond, Bool, true, false, eqb, List, [], ◌∷◌, ◌++◌, length, take, arith}
use Rattle.std.specs.Prelude.{filter, slice_get}
use Rattle.std.proofs.lemmas.List.{length-take}
use Rattle.jam_records.specs.declared.message.Slot.{Slot}
use Rattle.jam_threads.specs.Children.{original, numbers_to, children}
use Rattle.jam_threads.specs.Links.{first_in, following, link_of}
use Rattle.jam_threads.specs.declared.link.Link.{Link}
use Rattle.jam_threads.proofs.ChildrenLemmas.{slot_original-le}

abbrev AtMost : ℕ → List ℕ → Type 0
AtMost k [] = Unit {0}
AtMost k (n ∷ ns) = (n ≤ k) × AtMost k ns

at_most_push : (k : ℕ) (ns : List ℕ) (n : ℕ) → AtMost k ns → n ≤ k → AtMost k (ns ++ n ∷ [])
at_most_push k [] n all le = (le, tt)
at_most_push k (m ∷ ns) n all le = (all.0, at_most_push k ns n all.1 le)

more_at_most : (k : ℕ) (ns : List ℕ) → AtMost k ns → AtMost (suc k) ns
more_at_most k [] all = tt
more_at_most k (n ∷ ns) all = let le = all.0 in (omega arith, more_at_most k ns all.1)

numbers_at_most : (n : ℕ) → AtMost n (numbers_to n)
unfolding numbers_to
numbers_at_most zero = tt
numbers_at_most (suc n) = at_most_push (suc n) (numbers_to n) (suc n) (more_at_most n (numbers_to n) (numbers_at_most n)) (omega arith)

kept_at_most : (k n : ℕ) (b : Bool) (ns : List ℕ) → n ≤ k → AtMost k ns → AtMost k (cond b (n ∷ ns) ns)
kept_at_most k n true ns le all = (le, all)
kept_at_most k n false ns le all = all

filter_at_most : (p : ℕ → Bool) (k : ℕ) (ns : List ℕ) → AtMost k ns → AtMost k (filter p ns)
filter_at_most p k [] all = tt
filter_at_most p k (n ∷ ns) all = kept_at_most k n (p n) (filter p ns) all.0 (filter_at_most p k ns all.1)

first_at_most : (k : ℕ) (ns : List ℕ) → AtMost k ns → first_in ns ≤ k
first_at_most k [] all = omega arith
first_at_most k (n ∷ ns) all = all.0

either : (b : Bool) (x y k : ℕ) → x ≤ k → y ≤ k → cond b x y ≤ k
either true x y k p q = p
either false x y k p q = q

following_at_most : (number k : ℕ) (ns : List ℕ) → AtMost k ns → following number ns ≤ k
following_at_most number k [] all = omega arith
following_at_most number k (n ∷ ns) all = either (eqb n number) (first_in ns) (following number ns) k (first_at_most k ns all.1) (following_at_most number k ns all.1)

original_at_most : (slots : List Slot) (n : ℕ) → original slots n ≤ length slots
unfolding original
original_at_most slots zero = omega arith
original_at_most slots (suc place) = omega (arith, slot_original-le (take place slots) (slice_get slots place), length-take place slots)

children_at_most : (slots : List Slot) (n : ℕ) → AtMost (length slots) (children slots n)
unfolding children
children_at_most slots n = filter_at_most (λ k. eqb (original slots k) n) (length slots) (numbers_to (length slots)) (numbers_at_most (length slots))

pub record LinkBound (k : ℕ) (link : Link) : Type 0 where
  pub to : link.to ≤ k
  pub first : link.first ≤ k
  pub next : link.next ≤ k

pub link_bound : (slots : List Slot) (n : ℕ) → LinkBound (length slots) (link_of slots n)
unfolding link_of
link_bound slots n = record {
  to = original_at_most slots n;
  first = first_at_most (length slots) (children slots n) (children_at_most slots n);
  next = either (eqb (original slots n) 0) 0 (following n (children slots (original slots n))) (length slots) (omega arith) (following_at_most n (length slots) (children slots (original slots n)) (children_at_most slots (original slots n)));
}
