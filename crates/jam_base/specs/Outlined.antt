-- A base is kept as an outline: what is read of it, and a change of all bases with one outline, whose patches are the same,
-- whatever the bodies are.
use Rattle.std.specs.Prelude.{◌≡◌, List}
use Rattle.intent_journal.specs.declared.patch.Patch.{Patch}
use Rattle.jam_writing.specs.jam_layout.Layout.{layout}
use Rattle.jam_writing.specs.jam_layout.Outlines.{outline}
use Rattle.jam_writing.specs.jam_layout.Valid.{IsConference}
use Rattle.jam_writing.specs.jam_layout.declared.conference.ConferenceContents.{ConferenceContents}
use Rattle.jam_writing.specs.jam_layout.declared.files.BaseFiles.{BaseFiles}
use Rattle.jam_writing.specs.jam_layout.declared.shape.Shape.{Shape}
use Rattle.jam_base.specs.Change.{Turns}
use Rattle.jam_base.specs.Contents.{Contents}

-- the base, of whose bodies no more than the lengths is known
abbrev pub outlined : Contents → Contents
outlined base = record base { conference = outline base.conference }

-- Whatever base has the outline of this one: of its four files the patches make those of what the change makes of it.
pub record TurnsEach (old : Contents) (change : Contents → Contents) (patches : List Patch) : Type 0 where
  pub turns : (base : Contents) → outlined base ≡ outlined old → Turns old.shape.place (layout base.shape base.conference) (layout (change base).shape (change base).conference) patches

-- The base is of the shape, and has the outline of the conference of that shape whose layout the files are.
pub record IsReadOf (shape : Shape) (files : BaseFiles) (base : Contents) : Type 0 where
  pub whole : ConferenceContents
  pub shaped : base.shape ≡ shape
  pub alike : base.conference ≡ outline whole
  pub valid : IsConference shape whole
  pub stored : files ≡ layout shape whole
