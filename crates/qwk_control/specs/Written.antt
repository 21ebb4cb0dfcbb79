-- The one written form of CONTROL.DAT, and what has it.
use Rattle.std.specs.Prelude.{◌≢◌, ℕ, ◌-◌, ◌^◌, ◌<◌, ◌≤◌, List, [], ◌∷◌, ◌++◌, length, decimal, All}
use Rattle.std.specs.List.{flat_map}
use Rattle.text_fields.specs.Lines.{text_of_lines}
use Rattle.text_fields.specs.Split.{Lacks}
use Rattle.qwk_control.specs.Line.{IsId}
use Rattle.qwk_control.specs.declared.control.Control.{Control}

-- a number line and a name line for each conference
abbrev pub conference_lines : List (ℕ × List ℕ) → List (List ℕ)
conference_lines conferences = flat_map (λ conference. decimal conference.0 ∷ conference.1 ∷ []) conferences

abbrev pub control_lines : Control → List (List ℕ)
control_lines c =
    c.board ∷ c.city ∷ c.phone ∷ c.sysop ∷ (c.serial ++ 44 ∷ c.bbsid) ∷ c.stamp ∷ c.user ∷ c.menu ∷ (48 ∷ []) ∷ decimal c.count
    ∷ decimal (length c.conferences - 1) ∷ (conference_lines c.conferences ++ c.welcome ∷ c.news ∷ c.goodbye ∷ [])

-- each line, and CR LF behind it
abbrev pub control_text : Control → List ℕ
control_text c = text_of_lines (control_lines c)

-- neither LF nor CR
abbrev pub IsText : List ℕ → Type 0
IsText text = All (λ b. (b ≢ 10) × (b ≢ 13)) text

pub record TextsFit (c : Control) : Type 0 where
  pub board : IsText c.board
  pub city : IsText c.city
  pub phone : IsText c.phone
  pub sysop : IsText c.sysop
  pub serial : IsText c.serial
  pub stamp : IsText c.stamp
  pub user : IsText c.user
  pub menu : IsText c.menu

pub record FilesFit (c : Control) : Type 0 where
  pub welcome : IsText c.welcome
  pub news : IsText c.news
  pub goodbye : IsText c.goodbye

pub record ConferenceFits (conference : ℕ × List ℕ) : Type 0 where
  pub number : conference.0 < 2 ^ 16
  pub name : IsText conference.1

pub record ConferencesFit (conferences : List (ℕ × List ℕ)) : Type 0 where
  pub some : 1 ≤ length conferences
  pub many : length conferences ≤ 65536
  pub each : All ConferenceFits conferences

-- what has a written form
pub record WritableControl (c : Control) : Type 0 where
  pub texts : TextsFit c
  pub comma : Lacks 44 c.serial
  pub id : IsId c.bbsid
  pub count : c.count ≤ 999999999
  pub conferences : ConferencesFit c.conferences
  pub files : FilesFit c
