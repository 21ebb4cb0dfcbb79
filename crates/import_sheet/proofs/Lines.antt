-- Lists that are split where they stop being good.
use Rattle.std.proofs.Common.{◌≡◌, ℕ, suc, ◌<◌, List, [], ◌∷◌, ◌++◌, length, length-append, refl, sym, ap, ◌∙◌, subst, inl, inr, arith, append_assoc}
use Rattle.std.proofs.lemmas.Bool.{cases_lt}
use Rattle.std.proofs.lemmas.List.{get_or_append_left, append-nil}
use Rattle.std.proofs.lemmas.List.Elements.{All-head}
use Rattle.std.specs.List.{All}
use Rattle.text_fields.proofs.Numbered.{longer}
use Rattle.text_fields.proofs.Trimming.{same_front, same_rest}
use Rattle.import_sheet.specs.Sheet.{AllEmpty}
use Rattle.import_sheet.specs.State.{StartsWithText}

pub no_length : (xs : List ℕ) → length xs ≡ 0 → xs ≡ []
no_length [] e = refl
no_length (x ∷ xs) e = absurd (omega arith)

-- a front of good items is good
pub All_front : {X : Type 0} (P : X → Type 0) (a b : List X) → All P (a ++ b) → All P a
All_front P a b h k d lt = subst P (get_or_append_left a b d k lt) (h k d (omega (arith, length-append a b)))

pub All_last : {X : Type 0} (P : X → Type 0) (a : List X) (x : X) → All P (a ++ x ∷ []) → P x
All_last P [] x h = All-head P x [] h
All_last P (y ∷ a) x h = All_last P a x (λ k d lt. h (suc k) d (omega arith))

-- the front is good, and not with one line more
pub record Stops (Good : List (List ℕ) → Type 0) (all front rest : List (List ℕ)) : Type 0 where
  pub whole : all ≡ front ++ rest
  pub good : Good front
  pub ends : (line : List ℕ) (more : List (List ℕ)) → rest ≡ line ∷ more → Good (front ++ line ∷ []) → ⊥

abbrev pub Hereditary : (List (List ℕ) → Type 0) → Type 0
Hereditary Good = (a b : List (List ℕ)) → Good (a ++ b) → Good a

not_longer : (Good : List (List ℕ) → Type 0) (all f g r s : List (List ℕ)) → Hereditary Good → Stops Good all f r → Stops Good all g s → length f < length g → ⊥
not_longer Good all f g r s down x y lt =
    let l : (line : List ℕ) × (more : List (List ℕ)) × (g ≡ f ++ line ∷ more) × (r ≡ line ∷ (more ++ s)) = longer f g r s (sym x.whole ∙ y.whole) lt in
    let e : g ≡ (f ++ l.0 ∷ []) ++ l.1 = l.2 ∙ sym (append_assoc f (l.0 ∷ []) l.1) in
    x.ends l.0 (l.1 ++ s) l.3 (down (f ++ l.0 ∷ []) l.1 (subst Good e y.good))

-- lines stop being good at one place
pub stops_once : (Good : List (List ℕ) → Type 0) (all f g r s : List (List ℕ)) → Hereditary Good → Stops Good all f r → Stops Good all g s → (f ≡ g) × (r ≡ s)
stops_once Good all f g r s down x y = elim (cases_lt (length f) (length g)) [
  | inl lt ↦ absurd (not_longer Good all f g r s down x y lt)
  | inr ge ↦ elim (cases_lt (length g) (length f)) [
    | inl lt ↦ absurd (not_longer Good all g f s r down y x lt)
    | inr le ↦
        let e : length f ≡ length g = omega arith in
        (same_front f g r s e (sym x.whole ∙ y.whole), same_rest f g r s e (sym x.whole ∙ y.whole))
  ]
]

-- empty lines stop at a line that isn't empty, or at the end
pub empty_front : Hereditary AllEmpty
empty_front a b h = All_front (λ (line : List ℕ). line ≡ []) a b h

pub empty_stops : (all blanks rest : List (List ℕ)) → all ≡ blanks ++ rest → AllEmpty blanks → StartsWithText rest → Stops AllEmpty all blanks rest
empty_stops all blanks rest e h s = record {
  whole = e;
  good = h;
  ends = λ line more is empty.
      let first : line ≡ s.0 = (let both : line ∷ more ≡ s.0 ∷ s.1 = sym is ∙ s.2 in cc) in
      s.3 (sym first ∙ All_last (λ (l : List ℕ). l ≡ []) blanks line empty);
}

pub all_stops : (all : List (List ℕ)) → AllEmpty all → Stops AllEmpty all all []
all_stops all h = record { whole = sym (append-nil all); good = h; ends = λ line more is. absurd (omega (arith, ap length is)) }

pub nothing_starts : StartsWithText [] → ⊥
nothing_starts s = omega (arith, ap length s.2)

pub starts_more : (all more : List (List ℕ)) → StartsWithText all → StartsWithText (all ++ more)
starts_more all more s = (s.0, s.1 ++ more, ap (λ (ls : List (List ℕ)). ls ++ more) s.2, s.3)
