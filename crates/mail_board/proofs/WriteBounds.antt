-- What a commit of a change's patches writes is no more than the change may.
use Rattle.std.proofs.Common.{ℕ, ◌+◌, ◌*◌, ◌≤◌, List, length, Result, Ok, Err, arith}
use Rattle.std.specs.Prelude.{IfOk}
use Rattle.post_changes.specs.board_changes.Spending.{Spends}
use Rattle.board_layout.specs.Board.{Board}
use Rattle.intent_journal.specs.Patches.{byte_count}
use Rattle.intent_journal.specs.declared.patch.Patch.{Patch}
use Rattle.mail_board.specs.Changes.{changed}
use Rattle.mail_board.specs.Written.{KeepsBound, PutsFew, WritesFew, growth}
use Rattle.mail_board.specs.declared.change.Change.{Change}
use Rattle.mail_board.specs.declared.change.Change.TheVariants.{Enroll, Append, Spread, Kill, Offer, Acknowledge, Upload}

-- what an intent of patches costs at a commit
abbrev pub Committed : List Patch → ℕ → ℕ → Type 0
Committed patches before now = now ≤ before + 2 * byte_count patches + 11 * length patches + 15

posts_few : (change : Change) (count : ℕ) (b : Board) (patches : List Patch) (before now : ℕ) → Spends count b (changed change b) patches → Committed patches before now → KeepsBound count (growth change b) before now
posts_few change count b patches before now spends wrote = omega (arith, spends.few, spends.grown, wrote)

pub few_written : (change : Change) (b : Board) (patches : List Patch) (before now : ℕ) → PutsFew change b patches → Committed patches before now → WritesFew change b before now
few_written (Enroll name net members) b patches before now few wrote = tt
few_written (Append place messages) b patches before now few wrote = posts_few (Append place messages) (length messages) b patches before now few wrote
few_written (Spread posts) b patches before now few wrote = posts_few (Spread posts) (length posts) b patches before now few wrote
few_written (Kill place number) b patches before now few wrote = omega (arith, few.0, few.1, wrote)
few_written (Offer user highs) b patches before now few wrote = tt
few_written (Acknowledge user packet moment) b patches before now few wrote = tt
few_written (Upload user digest refused posts) b patches before now few wrote = posts_few (Upload user digest refused posts) (length posts) b patches before now few wrote

-- nothing was written
pub none_written : (change : Change) (b : Board) (before : ℕ) → WritesFew change b before before
none_written (Enroll name net members) b before = tt
none_written (Append place messages) b before = omega arith
none_written (Spread posts) b before = omega arith
none_written (Kill place number) b before = omega arith
none_written (Offer user highs) b before = tt
none_written (Acknowledge user packet moment) b before = tt
none_written (Upload user digest refused posts) b before = omega arith

-- a change of which nothing is said here
pub no_bound : {T E : Type 0} (result : Result T E) → IfOk result (λ made. Unit {0})
no_bound (Ok made) = tt
no_bound (Err error) = tt
