-- Whether one of the first slots holds a message with a msgid, slot by slot.
use Rattle.std.proofs.Common.{◌≡◌, ℕ, ◌+◌, ◌-◌, ◌<◌, ◌≤◌, Bool, true, false, ◌||◌, List, length, get_or, take, sym, ap, ◌∙◌, arith, take_all}
use Rattle.std.proofs.lemmas.List.Folds.{list_any_at, list_any_more}
use Rattle.std.specs.List.{list_any}
use Rattle.board_layout.proofs.jam_base.SlotChanges.{numbered_is}
use Rattle.board_layout.specs.jam_base.Slots.{numbered}
use Rattle.jam_records.specs.declared.message.Slot.{Slot}
use Rattle.jam_records.specs.declared.message.Slot.TheVariants.{Gone}

module _ (test : Slot → Bool) (slots : List Slot) (before : ℕ) (within : before < length slots) where
  here : get_or slots before Gone ≡ numbered slots (before + 1)
  here = let place : before ≡ before + 1 - 1 = omega arith in ap (λ (k : ℕ). get_or slots k Gone) place ∙ sym (numbered_is slots (before + 1) (omega arith))

  -- one slot more, which has the next number
  pub any_next : list_any test (take (before + 1) slots) ≡ (list_any test (take before slots) || test (numbered slots (before + 1)))
  any_next = list_any_more test slots before Gone within ∙ ap (λ (s : Slot). list_any test (take before slots) || test s) here

  -- neither those before it, nor it
  pub none_next : (passes : Bool) → list_any test (take before slots) ≡ false → passes ≡ test (numbered slots (before + 1)) → passes ≡ false → list_any test (take (before + 1) slots) ≡ false
  none_next passes none is fails = any_next ∙ ((λ i. none i || sym is i) ∙ fails)

  -- it is one of all
  pub any_here : (passes : Bool) → passes ≡ test (numbered slots (before + 1)) → passes ≡ true → list_any test slots ≡ true
  any_here passes is holds = list_any_at test slots before Gone within (ap test here ∙ (sym is ∙ holds))

-- the first slots are all
pub any_all : (test : Slot → Bool) (slots : List Slot) (before : ℕ) → length slots ≤ before → list_any test (take before slots) ≡ list_any test slots
any_all test slots before past = ap (list_any test) (take_all before slots past)
