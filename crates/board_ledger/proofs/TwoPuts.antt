-- Two puts of the ledger's file, one after the other: what they make of it, and how many bytes they put.
use Rattle.std.proofs.Common.{◌≡◌, ◌≢◌, true, ℕ, ◌+◌, ◌≤◌, ◌==◌, List, [], ◌∷◌, ◌++◌, length, refl, ap, ◌∙◌, arith}
use Rattle.std.specs.Prelude.{nat_le}
use Rattle.std.proofs.lemmas.Bool.{and_from, ne_eqb, le-leb, cond-false}
use Rattle.std.proofs.lemmas.List.Sums.{sum_by-cons}
use Rattle.intent_journal.specs.door_outside.Disk.{written}
use Rattle.intent_journal.specs.Patches.{HostFiles, apply, bytes_of, byte_count}
use Rattle.intent_journal.specs.declared.patch.Patch.{Patch}
use Rattle.intent_journal.specs.declared.patch.Patch.TheVariants.{Put}
use Rattle.board_ledger.specs.OneFile.{TurnsFile}

away : (at : ℕ) (bytes : List ℕ) (files : HostFiles) (other : ℕ) → other ≢ 0 → apply (Put 0 at bytes) files other ≡ files other
away at bytes files other apart = cond-false (other == 0) _ _ (ne_eqb other 0 apart)

-- the second put begins within what the first leaves
pub two_turn : (old new one other : List ℕ) (at place : ℕ) → at ≤ length old → place ≤ length (written old at one) → written (written old at one) place other ≡ new → TurnsFile 0 old new (Put 0 at one ∷ Put 0 place other ∷ [])
two_turn old new one other at place within then is =
    let first : Patch = Put 0 at one in
    record {
      starts = λ files e.
          let begins : at ≤ length (files 0) = omega (arith, ap length e, within) in
          let goes_on : place ≤ length (apply first files 0) = omega (arith, ap (λ (xs : List ℕ). length (written xs at one)) e, then) in
          and_from (nat_le at (length (files 0))) _ (le-leb at (length (files 0)) begins) (and_from (nat_le place (length (apply first files 0))) true (le-leb place (length (apply first files 0)) goes_on) refl);
      makes = λ files e. ap (λ (xs : List ℕ). written (written xs at one) place other) e ∙ is;
      others = λ files file apart. away place other (apply first files) file apart ∙ away at one files file apart;
    }

pub two_bytes : (p q : Patch) → byte_count (p ∷ q ∷ []) ≡ length (bytes_of p) + length (bytes_of q)
two_bytes p q = omega (arith, sum_by-cons (λ patch. length (bytes_of patch)) p (q ∷ []), sum_by-cons (λ patch. length (bytes_of patch)) q [])

-- patches that were added to none, one after the other
pub two_patches : (none first second : List Patch) (one other p q : Patch) → none ≡ [] → one ≡ p → other ≡ q → first ≡ none ++ one ∷ [] → second ≡ first ++ other ∷ [] → second ≡ p ∷ q ∷ []
two_patches none first second one other p q empty one_is other_is added then =
    then ∙ ((λ i. added i ++ other ∷ []) ∙ ((λ i. (empty i ++ one ∷ []) ++ other ∷ []) ∙ (λ i. one_is i ∷ other_is i ∷ [])))
