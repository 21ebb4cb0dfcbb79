-- The lines of the outcomes are gathered one after the other.
use Rattle.std.proofs.Common.{◌≡◌, ℕ, ◌+◌, ◌<◌, List, [], ◌∷◌, ◌++◌, length, get_or, drop, Ok, Err, refl, sym, ap, ◌∙◌, subst, append_assoc}
use Rattle.std.proofs.lemmas.List.{append-nil, drop_more}
use Rattle.door_outside.specs.Disk.{Disk}
use Rattle.entry_runs.proofs.Voice.{gathers_as, gathers_done, gathers_front, gathers_nothing, gathers_on}
use Rattle.entry_runs.specs.Saying.{Gathers}
use Rattle.mail_intake.specs.packet_verdicts.declared.outcome.Outcome.{Outcome}
use Rattle.cmd_exchange.specs.Upload.{outcome_line, outcome_lines}

-- The lines before one were gathered behind what was gathered before. This is the invariant of gathering them all.
pub record LinesGathered (outcomes : List Outcome) (index : ℕ) (before gathered : List ℕ) (old now : Disk) : Type 0 where
  pub front : List ℕ
  pub whole : outcome_lines 1 outcomes ≡ front ++ outcome_lines (index + 1) (drop index outcomes)
  pub gathers : Gathers {T = Unit {0}} {E = Unit {0}} before front gathered old now (Ok tt)

pub no_lines : (outcomes : List Outcome) (before : List ℕ) (disk : Disk) → LinesGathered outcomes 0 before before disk disk
no_lines outcomes before disk = record { front = []; whole = refl; gathers = gathers_nothing disk }

-- the outcome at an index of the items that the loop goes over, which are the outcomes
module _ (outcomes items : List Outcome) (same : items ≡ outcomes) (index : ℕ) (d : Outcome) {before gathered : List ℕ} {old now : Disk} (so_far : LinesGathered outcomes index before gathered old now) (within : index < length items) where
  next_line : outcome_lines 1 outcomes ≡ (so_far.front ++ outcome_line (index + 1) (get_or items index d)) ++ outcome_lines (index + 1 + 1) (drop (index + 1) outcomes)
  next_line =
      let left : drop index outcomes ≡ get_or items index d ∷ drop (index + 1) outcomes =
      subst (λ (xs : List Outcome). drop index xs ≡ get_or items index d ∷ drop (index + 1) xs) same (drop_more items index d within) in
      so_far.whole
      ∙ (ap (λ (os : List Outcome). so_far.front ++ outcome_lines (index + 1) os) left
      ∙ sym (append_assoc so_far.front (outcome_line (index + 1) (get_or items index d)) (outcome_lines (index + 1 + 1) (drop (index + 1) outcomes))))

  pub line_more : {E : Type 0} {after : List ℕ} {new : Disk} {value : Unit {0}} → Gathers {E = E} gathered (outcome_line (index + 1) (get_or items index d)) after now new (Ok value) → LinesGathered outcomes (index + 1) before after old new
  line_more gathers = record {
    front = so_far.front ++ outcome_line (index + 1) (get_or items index d);
    whole = next_line;
    gathers = gathers_done (gathers_on so_far.gathers gathers);
  }

  pub line_cut : {E : Type 0} {mid after : List ℕ} {new : Disk} {fault : E} → Gathers {T = Unit {0}} gathered (outcome_line (index + 1) (get_or items index d)) mid now new (Err fault) → Gathers {T = Unit {0}} before (outcome_lines 1 outcomes) after old new (Err fault)
  line_cut gathers = gathers_as (sym next_line) (gathers_front (outcome_lines (index + 1 + 1) (drop (index + 1) outcomes)) (gathers_on so_far.gathers gathers))

pub all_lines : (outcomes : List Outcome) (index : ℕ) {before gathered : List ℕ} {old now : Disk} {E : Type 0} {value : Unit {0}} → LinesGathered outcomes index before gathered old now → drop index outcomes ≡ [] → Gathers {E = E} before (outcome_lines 1 outcomes) gathered old now (Ok value)
all_lines outcomes index so_far none =
    gathers_as (sym (so_far.whole ∙ (ap (λ (os : List Outcome). so_far.front ++ outcome_lines (index + 1) os) none ∙ append-nil so_far.front))) (gathers_done so_far.gathers)
