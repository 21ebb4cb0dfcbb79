-- Writes and cuts that took hold in part.
use Rattle.std.proofs.Common.{◌≡◌, ℕ, ◌+◌, ◌-◌, ◌≤◌, List, length, take, drop, sym, ◌∙◌, ap, subst, arith, length-take}
use Rattle.std.specs.Prelude.{min}
use Rattle.std.proofs.lemmas.List.{take-take, take_min, drop-drop}
use Rattle.memory_outside.specs.Contents.{content, Sets}
use Rattle.door_outside.specs.Disk.{Torn, Cut}
use Rattle.memory_outside.specs.Images.{OneFile}
use Rattle.memory_outside.proofs.Left.{here, there}

-- a part of a range that was torn
pub torn_wider : (at n place m : ℕ) (old new : List ℕ) → at ≤ place → place + m ≤ at + n → Torn place m old new → Torn at n old new
torn_wider at n place m old new from to torn = record {
  before =
      sym (take-take (min at (length old)) (min place (length old)) new (omega arith))
      ∙ ap (take (min at (length old))) torn.before
      ∙ take-take (min at (length old)) place old (omega arith)
      ∙ take_min at old;
  after = behind new ∙ ap (drop ((at + n) - (place + m))) torn.after ∙ sym (behind old);
  no_shorter = torn.no_shorter;
  no_longer = omega (arith, torn.no_longer);
}
  where
    behind : (l : List ℕ) → drop (at + n) l ≡ drop ((at + n) - (place + m)) (drop (place + m) l)
    behind l =
        let is : at + n ≡ (place + m) + ((at + n) - (place + m)) = omega arith in
        ap (λ (k : ℕ). drop k l) is ∙ sym (drop-drop ((at + n) - (place + m)) (place + m) l)

-- a part of a cut
pub cut_less : (old : List ℕ) (len kept : ℕ) → len ≤ kept → Cut len old (take kept old)
cut_less old len kept le = record {
  front = take-take (min len (length old)) kept old (omega arith) ∙ take_min len old;
  no_shorter = omega (arith, length-take kept old);
  no_longer = omega (arith, length-take kept old);
}

-- a file that was given other bytes
pub one_file : (to : ℕ) (step : List ℕ → List ℕ → Type 0) (bytes : List ℕ) (old new : List (List ℕ)) → Sets to bytes old new → step (content old to) bytes → OneFile to step (content old) (content new)
one_file to step bytes old new sets does = record {
  changed = subst (step (content old to)) (sym (sets to ∙ here to bytes (content old to))) does;
  others = λ other ne. sets other ∙ there to other bytes (content old other) ne;
}
