-- What saying a text does to a host.
use Rattle.std.specs.Prelude.{◌≡◌, ℕ, List, ◌++◌, map, Result, Ok, Err, OnOk}
use Rattle.std.specs.Borrow.{Bor}
use Rattle.std.specs.List.{concat}
use Rattle.door_outside.specs.Disk.{Disk, Image, AllNow, Between}
use Rattle.door_outside.specs.declared.fault.VoiceFault.{VoiceFault}
use Rattle.entry_runs.specs.Entry.{Reply}
use Rattle.entry_runs.specs.Promise.{IsFront, AsThen}
use Rattle.entry_runs.specs.Runs.{once_said}
use Rattle.entry_runs.specs.declared.class.Class.{Class}
use Rattle.entry_runs.specs.declared.stop.Stop.{Stop}

-- a text that is given in pieces
abbrev pub text_of_pieces : List (Bor (List ℕ)) → List ℕ
text_of_pieces pieces = concat (map (λ piece. piece.now) pieces)

-- a front of a text was said, and the files are as a crash could leave them then
pub record SaysIn (text : List ℕ) (then : Disk) (image : Image) : Type 0 where
  pub files : AsThen then image
  pub heard : List ℕ
  pub part : IsFront heard text
  pub said : image.said ≡ then.said ++ heard

-- A text was said: in one call or in pieces, whole or not.
pub record Voiced {T E : Type 0} (text : List ℕ) (old new : Disk) (result : Result T E) : Type 0 where
  pub moments : Between old new (SaysIn text old)
  pub now : AllNow new (SaysIn text old)
  pub files : new.files ≡ old.files
  pub wrote : new.wrote ≡ old.wrote
  pub done : OnOk result (new.said ≡ old.said ++ text)

-- To what was gathered a piece was added: a part of both was said, and the rest is gathered.
pub record Gathers {T E : Type 0} (before piece after : List ℕ) (old new : Disk) (result : Result T E) : Type 0 where
  pub part : List ℕ
  pub rest : List ℕ
  pub whole : before ++ piece ≡ part ++ rest
  pub voiced : Voiced part old new result
  pub gathered : OnOk result (after ≡ rest)

-- What a command answers was said, and the result tells how it went. Where the command was stopped, nothing was.
abbrev pub Spoken : {Host : Type 0} → (Host → Disk) → Result Reply Stop → Host → Host → Result Class Stop → Type 0
Spoken disk (Ok reply) old new result = (said : Result (Unit {0}) VoiceFault) × Voiced reply.text (disk old) (disk new) said × (result ≡ once_said reply.class said)
Spoken disk (Err stop) old new result = (new ≡ old) × (result ≡ Err stop)
