-- The one written form of messages.
use Rattle.std.specs.Prelude.{◌≡◌, ℕ, ◌+◌, ◌-◌, ◌*◌, ◌/◌, ◌%◌, ◌^◌, ◌<◌, ◌≤◌, List, [], ◌∷◌, ◌++◌, Option, Some, None, length, max, replicate, decimal, All, IfSome}
use Rattle.std.specs.List.{flat_map}
use Rattle.text_fields.specs.Trim.{EndsWithNone}
use Rattle.qwk_blocks.specs.Header.{IsPad}
use Rattle.qwk_blocks.specs.Text.{joined_lines, IsLine}
use Rattle.qwk_blocks.specs.declared.message.Header.{Header}
use Rattle.qwk_blocks.specs.declared.message.QwkMessage.{QwkMessage}

-- a text, then spaces up to a width
abbrev pub padded : ℕ → List ℕ → List ℕ
padded width text = text ++ replicate (width - length text) 32

-- a number's digits, or nothing
abbrev pub number_text : Option ℕ → List ℕ
number_text None = []
number_text (Some n) = decimal n

-- two bytes, the low one first
abbrev pub low_first : ℕ → List ℕ
low_first n = n % 256 ∷ n / 256 ∷ []

-- the header block, field after field
unfoldable pub header_block : Header → ℕ → List ℕ
header_block h count =
    (h.status ∷ []) ++ (padded 7 (number_text h.number) ++ (h.date ++ (h.time
    ++ (padded 25 h.to ++ (padded 25 h.from ++ (padded 25 h.subject ++ (padded 12 h.password
    ++ (padded 8 (number_text h.reference) ++ (padded 6 (decimal count)
    ++ ((h.activity ∷ []) ++ (low_first h.conference ++ (low_first h.logical ++ (h.tag ∷ [])))))))))))))

-- the blocks of a text of n bytes, at least one
abbrev pub blocks_of : ℕ → ℕ
blocks_of n = max 1 ((n + 127) / 128)

unfoldable pub message_text : QwkMessage → List ℕ
message_text m =
    let text = joined_lines m.lines in
    let blocks = blocks_of (length text) in
    header_block m.header (1 + blocks) ++ padded (128 * blocks) text

abbrev pub spelling : List ℕ → List QwkMessage → List ℕ
spelling notice messages = padded 128 notice ++ flat_map message_text messages

pub record TextFits (width : ℕ) (text : List ℕ) : Type 0 where
  pub short : length text ≤ width
  pub trimmed : EndsWithNone IsPad text

pub record HeaderTextsFit (h : Header) : Type 0 where
  pub to : TextFits 25 h.to
  pub from : TextFits 25 h.from
  pub subject : TextFits 25 h.subject
  pub password : TextFits 12 h.password

-- what has a written form
pub record HeaderFits (h : Header) : Type 0 where
  pub number : IfSome h.number (λ n. n ≤ 9999999)
  pub date : length h.date ≡ 8
  pub time : length h.time ≡ 5
  pub texts : HeaderTextsFit h
  pub reference : IfSome h.reference (λ n. n ≤ 99999999)
  pub conference : h.conference < 2 ^ 16
  pub logical : h.logical < 2 ^ 16

pub record Writable (m : QwkMessage) : Type 0 where
  pub header : HeaderFits m.header
  pub lines : All IsLine m.lines
  pub blocks : 1 + blocks_of (length (joined_lines m.lines)) ≤ 999999
