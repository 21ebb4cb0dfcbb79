-- The calls that changed what a crash may leave, the newest first, and what they left.
use Rattle.std.specs.Prelude.{◌≡◌, ◌⊎◌, ℕ, ◌+◌, ◌^◌, ◌<◌, ◌≤◌, ◌==◌, if◌then◌else◌, List, [], ◌∷◌, ◌++◌, length, take}
use Rattle.door_outside.specs.Disk.{Image, InFile, Torn, Cut, Says, written}
use Rattle.memory_outside.specs.declared.event.Event.{Event}
use Rattle.memory_outside.specs.declared.event.Event.TheVariants.{Write, Shorten, Sync, Put, Say}

-- a file after an event
abbrev pub file_after : Event → ℕ → List ℕ → List ℕ
file_after (Write to at bytes) file old = if file == to then written old at bytes else old
file_after (Shorten to len) file old = if file == to then take len old else old
file_after (Sync to) file old = old
file_after (Put to bytes) file old = if file == to then bytes else old
file_after (Say bytes) file old = old

-- the files as they read
abbrev pub read : List Event → ℕ → List ℕ
read [] file = []
read (event ∷ past) file = file_after event file (read past file)

-- a file as of its last sync, after an event, where the files read so before it
abbrev pub synced_after : Event → (ℕ → List ℕ) → ℕ → List ℕ → List ℕ
synced_after (Write to at bytes) reads file old = old
synced_after (Shorten to len) reads file old = old
synced_after (Sync to) reads file old = if file == to then reads to else old
synced_after (Put to bytes) reads file old = if file == to then bytes else old
synced_after (Say bytes) reads file old = old

-- the files as of their last syncs
abbrev pub synced : List Event → ℕ → List ℕ
synced [] file = []
synced (event ∷ past) file = synced_after event (read past) file (synced past file)

-- what was said after an event
abbrev pub said_after : Event → List ℕ → List ℕ
said_after (Write to at bytes) old = old
said_after (Shorten to len) old = old
said_after (Sync to) old = old
said_after (Put to bytes) old = old
said_after (Say bytes) old = old ++ bytes

-- what was said
abbrev pub spoken : List Event → List ℕ
spoken [] = []
spoken (event ∷ past) = said_after event (spoken past)

-- what a crash after them may leave
abbrev pub Left : List Event → Image → Type 0
Left [] image = (image.files ≡ (λ file. [])) × (image.said ≡ [])
Left (Write to at bytes ∷ past) image = (before : Image) × Left past before × InFile to (Torn at (length bytes)) before image
Left (Shorten to len ∷ past) image = (before : Image) × Left past before × InFile to (Cut len) before image
Left (Sync to ∷ past) image = Left past image × (image.files to ≡ read past to)
Left (Put to bytes ∷ past) image = (before : Image) × Left past before × InFile to (λ old new. new ≡ bytes) before image
Left (Say bytes ∷ past) image = (before : Image) × Left past before × (image.files ≡ before.files) × (image.said ≡ before.said ++ bytes)

-- what a crash in the middle of the last of them might have left that it may leave neither before nor after it
abbrev pub Within : Event → List Event → Image → Type 0
Within (Write to at bytes) past image = ⊥
Within (Shorten to len) past image = ⊥
Within (Sync to) past image = ⊥
Within (Put to bytes) past image = ⊥
Within (Say bytes) past image = (before : Image) × Left past before × Says bytes before image

-- what a crash might have left at some moment since there were so many
abbrev pub Since : ℕ → List Event → Image → Type 0
Since t [] image = Left [] image
Since t (event ∷ past) image = Left (event ∷ past) image ⊎ ((t ≤ length past) × (Within event past image ⊎ Since t past image))

-- its bytes end below the longest length that a file may have
abbrev pub IsShortEvent : Event → Type 0
IsShortEvent (Write to at bytes) = at + length bytes < 2 ^ 31
IsShortEvent (Shorten to len) = Unit {0}
IsShortEvent (Sync to) = Unit {0}
IsShortEvent (Put to bytes) = length bytes < 2 ^ 31
IsShortEvent (Say bytes) = Unit {0}

abbrev pub AreShort : List Event → Type 0
AreShort [] = Unit {0}
AreShort (event ∷ past) = IsShortEvent event × AreShort past
