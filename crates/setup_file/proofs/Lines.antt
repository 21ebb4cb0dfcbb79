-- Lines that count, and those that are skipped.
use Rattle.std.proofs.Common.{◌≡◌, ℕ, Bool, true, false, not, List, [], ◌∷◌, ◌++◌, refl, ap, ◌∙◌, subst}
use Rattle.std.proofs.lemmas.List.Elements.{All-head, All-tail, All-push, filter-append}
use Rattle.text_fields.specs.Lines.{is_skipped}
use Rattle.setup_file.specs.Reads.{counted}
use Rattle.setup_file.specs.State.{AllSkipped, StartsCounted}

pub skip_one : (skipped : List (List ℕ)) (line : List ℕ) → AllSkipped skipped → is_skipped line ≡ true → AllSkipped (skipped ++ line ∷ [])
skip_one skipped line h e = All-push (λ (l : List ℕ). is_skipped l ≡ true) skipped line h e

pub starts_counted : (all rest : List (List ℕ)) (line : List ℕ) → StartsCounted all → all ≡ line ∷ rest → is_skipped line ≡ false
starts_counted all rest line h e = subst StartsCounted e h

-- those that count
abbrev keeps : List ℕ → Bool
keeps line = not (is_skipped line)

pub counted_append : (a b : List (List ℕ)) → counted (a ++ b) ≡ counted a ++ counted b
counted_append a b = filter-append keeps a b

pub counted_one : (line : List ℕ) (more : List (List ℕ)) → is_skipped line ≡ false → counted (line ∷ more) ≡ line ∷ counted more
counted_one line more e = rw e refl

pub counted_none : (line : List ℕ) (more : List (List ℕ)) → is_skipped line ≡ true → counted (line ∷ more) ≡ counted more
counted_none line more e = rw e refl

pub all_skipped : (all : List (List ℕ)) → AllSkipped all → counted all ≡ []
all_skipped [] h = refl
all_skipped (line ∷ all) h =
    let first : is_skipped line ≡ true = All-head (λ (l : List ℕ). is_skipped l ≡ true) line all h in
    counted_none line all first ∙ all_skipped all (All-tail (λ (l : List ℕ). is_skipped l ≡ true) line all h)

pub counted_at : (before more : List (List ℕ)) (line : List ℕ) → is_skipped line ≡ false → counted (before ++ line ∷ more) ≡ counted before ++ line ∷ counted more
counted_at before more line e = counted_append before (line ∷ more) ∙ ap (λ r. counted before ++ r) (counted_one line more e)
