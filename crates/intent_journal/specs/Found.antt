-- What a recovery reads of the journal.
use Rattle.std.specs.Prelude.{◌≡◌, ℕ, ◌≤◌, List, [], ◌∷◌, length, take, drop, codes, nat_eq, true, false}
use Rattle.std.specs.List.{starts_with}
use Rattle.record_numbers.specs.Numbers.{u32_at}
use Rattle.intent_journal.specs.declared.found.Found.{Found}
use Rattle.intent_journal.specs.declared.found.Found.TheVariants.{Closed, NoBody, Body}
use Rattle.intent_journal.specs.Journal.{IsClosed, begins_body, text_of}

-- the journal has the letters behind its gate, and then a count of patches and the length of their text
pub record HasHead (count len : ℕ) (journal : List ℕ) : Type 0 where
  pub letters : starts_with nat_eq (drop 1 journal) (codes "QDJ1") ≡ true
  pub long : 13 ≤ length journal
  pub count_is : count ≡ u32_at 5 journal
  pub len_is : len ≡ u32_at 9 journal

-- and it has all the bytes that the length speaks of
pub record HasWholeHead (count len : ℕ) (journal : List ℕ) : Type 0 where
  pub begins : begins_body journal ≡ true
  pub count_is : count ≡ u32_at 5 journal
  pub len_is : len ≡ u32_at 9 journal

-- an open gate stands before a body of this count and this text
pub record HasJournalText (count : ℕ) (text journal : List ℕ) : Type 0 where
  pub gate : take 1 journal ≡ 79 ∷ []
  pub begins : begins_body journal ≡ true
  pub count_is : count ≡ u32_at 5 journal
  pub text_is : text ≡ text_of journal

-- an open gate stands before no body
pub record HasNoBody (journal : List ℕ) : Type 0 where
  pub gate : take 1 journal ≡ 79 ∷ []
  pub none : begins_body journal ≡ false

-- what was found is what the journal has
abbrev pub JournalFinds : Found → List ℕ → Type 0
JournalFinds Closed journal = IsClosed journal
JournalFinds NoBody journal = HasNoBody journal
JournalFinds (Body count text) journal = HasJournalText count text journal
