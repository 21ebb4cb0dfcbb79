-- How much a change of a board writes.
use Rattle.std.specs.Prelude.{ℕ, ◌+◌, ◌-◌, ◌*◌, ◌<◌, ◌≤◌, List, length, sum_by}
use Rattle.post_changes.specs.board_changes.Spending.{Spends}
use Rattle.board_layout.specs.Board.{Board}
use Rattle.board_layout.specs.Layout.{board_size}
use Rattle.intent_journal.specs.Patches.{byte_count}
use Rattle.intent_journal.specs.declared.patch.Patch.{Patch}
use Rattle.mail_board.specs.Changes.{changed}
use Rattle.mail_board.specs.declared.change.Change.{Change}
use Rattle.mail_board.specs.declared.change.Change.TheVariants.{Enroll, Append, Spread, Kill, Offer, Acknowledge, Upload}

-- by how many bytes it enlarges the data files
abbrev pub growth : Change → Board → ℕ
growth change b = board_size (changed change b) - board_size b

-- the bytes written so far rose by fewer than twice the growth, and 400 for each of so many messages and once more
abbrev pub KeepsBound : ℕ → ℕ → ℕ → ℕ → Type 0
KeepsBound count growth before now = now < before + 2 * (growth + 200 * (count + 1))

-- how many slots a board has
abbrev pub slot_total : Board → ℕ
slot_total b = sum_by (λ c. length c.slots) b.conferences

-- The bound of the messages by which one board has more slots than another, and of the bytes by which its data files are
-- longer: a change that posts messages keeps it, since each of them is a slot more.
abbrev pub KeepsBoundOf : Board → Board → ℕ → ℕ → Type 0
KeepsBoundOf b next before now = KeepsBound (slot_total next - slot_total b) (board_size next - board_size b) before now

-- the change posts messages
abbrev pub IsPosting : Change → Type 0
IsPosting (Enroll name net members) = ⊥
IsPosting (Append place messages) = Unit {0}
IsPosting (Spread posts) = Unit {0}
IsPosting (Kill place number) = ⊥
IsPosting (Offer user highs) = ⊥
IsPosting (Acknowledge user packet moment) = ⊥
IsPosting (Upload user digest refused posts) = Unit {0}

-- Posting messages keeps the bound, and deleting one writes at most 200 bytes. Enrolling a user, or changing what one is
-- offered, may write whole files.
abbrev pub WritesFew : Change → Board → ℕ → ℕ → Type 0
WritesFew (Enroll name net members) b before now = Unit {0}
WritesFew (Append place messages) b before now = KeepsBound (length messages) (growth (Append place messages) b) before now
WritesFew (Spread posts) b before now = KeepsBound (length posts) (growth (Spread posts) b) before now
WritesFew (Kill place number) b before now = now ≤ before + 200
WritesFew (Offer user highs) b before now = Unit {0}
WritesFew (Acknowledge user packet moment) b before now = Unit {0}
WritesFew (Upload user digest refused posts) b before now = KeepsBound (length posts) (growth (Upload user digest refused posts) b) before now

-- by the patches that it takes, and the bytes that these put
abbrev pub PutsFew : Change → Board → List Patch → Type 0
PutsFew (Enroll name net members) b patches = Unit {0}
PutsFew (Append place messages) b patches = Spends (length messages) b (changed (Append place messages) b) patches
PutsFew (Spread posts) b patches = Spends (length posts) b (changed (Spread posts) b) patches
PutsFew (Kill place number) b patches = (length patches ≤ 2) × (byte_count patches ≤ 24)
PutsFew (Offer user highs) b patches = Unit {0}
PutsFew (Acknowledge user packet moment) b patches = Unit {0}
PutsFew (Upload user digest refused posts) b patches = Spends (length posts) b (changed (Upload user digest refused posts) b) patches
