-- Any bytes read as CONTROL.DAT, or have a first line that breaks its rule.
use Rattle.std.proofs.Common.{◌≡◌, ◌⊎◌, inl, inr, ℕ, zero, suc, ◌+◌, ◌-◌, ◌*◌, ◌<◌, ◌≤◌, List, [], ◌∷◌, ◌++◌, length, refl, sym, ap, ◌∙◌, subst, arith, length-append}
use Rattle.std.proofs.lemmas.Bool.{cases_eq, cases_lt}
use Rattle.std.specs.Str.Lines.{lines}
use Rattle.qwk_control.proofs.Kept.{bad_first, board_ends, board_more, conference_more, conference_push, early_fault, from_first, late_fault, lines_read, no_board_id, no_first, no_last, no_name, packet_ends, packet_more, within_more}
use Rattle.qwk_control.specs.Control.{ListedRead, ControlReads, CountReads, ControlLinesRead}
use Rattle.qwk_control.specs.Fault.{BreaksUpto, ControlFault, KeptBefore, LineFault}
use Rattle.qwk_control.specs.Line.{IdLine, IsId, IsSpace, PlaceLine, line, or_empty}
use Rattle.qwk_control.specs.declared.control.Control.{Control}
use Rattle.qwk_control.specs.declared.fault.ControlError.{ControlError}
use Rattle.qwk_control.specs.declared.fault.ControlError.TheVariants.{TooFewLines, BadNumber, BadBoardId}
use Rattle.text_fields.proofs.Fields.{all_or_not, number_or_none, some_trimmed, split_or_lacks}
use Rattle.text_fields.proofs.Numbers.{number_unique}
use Rattle.text_fields.proofs.Splits.{not_split, split_once}
use Rattle.text_fields.proofs.Trimming.{trimmed_unique}
use Rattle.text_fields.specs.Split.{SplitsAt}
use Rattle.text_fields.specs.Trim.{Trimmed}

abbrev IsPrinted : ℕ → Type 0
IsPrinted b = (0x21 ≤ b) × (b ≤ 0x7E)

-- ---- one line
space_or_not : (b : ℕ) → IsSpace b ⊎ (IsSpace b → ⊥)
space_or_not b = elim (cases_eq b 32) [ inl e ↦ inl e | inr other ↦ inr other ]

place_or_none : (text : List ℕ) → ((n : ℕ) × PlaceLine text n) ⊎ ((n : ℕ) → PlaceLine text n → ⊥)
place_or_none text = elim (number_or_none IsSpace space_or_not 9 text) [
  | inl v ↦ elim (cases_lt 65535 v.0) [
    | inl great ↦ inr (λ n x. absurd (omega (arith, number_unique IsSpace 9 9 text v.0 n v.1 x.number, x.small, great)))
    | inr small ↦ inl (v.0, record { number = v.1; small = small })
  ]
  | inr none ↦ inr (λ n x. none n x.number)
]

some_count : (text : List ℕ) → (n : ℕ) × CountReads text n
some_count text = elim (number_or_none IsSpace space_or_not 9 text) [
  | inl v ↦ (v.0, inl v.1)
  | inr none ↦ (0, inr (none, refl))
]

printed_or_not : (b : ℕ) → IsPrinted b ⊎ (IsPrinted b → ⊥)
printed_or_not b = elim (cases_lt b 0x21) [
  | inl low ↦ inr (λ p. absurd (omega (arith, p.0, low)))
  | inr from ↦ elim (cases_lt 0x7E b) [ inl high ↦ inr (λ p. absurd (omega (arith, p.1, high))) | inr upto ↦ inl (from, upto) ]
]

is_id_or_not : (id : List ℕ) → IsId id ⊎ (IsId id → ⊥)
is_id_or_not id = elim (cases_lt 0 (length id)) [
  | inl some ↦ elim (cases_lt 8 (length id)) [
    | inl long ↦ inr (λ x. absurd (omega (arith, x.short, long)))
    | inr short ↦ elim (all_or_not IsPrinted printed_or_not id) [
      | inl printed ↦ inl (record { some = omega (arith, some); short = short; printed = printed })
      | inr other ↦ inr (λ x. other x.printed)
    ]
  ]
  | inr none ↦ inr (λ x. absurd (omega (arith, x.some, none)))
]

abbrev IsIdLine : List ℕ → Type 0
IsIdLine text = ((serial id : List ℕ) × IdLine text serial id) ⊎ ((serial id : List ℕ) → IdLine text serial id → ⊥)

id_behind : (text serial rest : List ℕ) → SplitsAt 44 text serial rest → IsIdLine text
id_behind text serial rest s =
    let t : (id : List ℕ) × Trimmed IsSpace rest id = some_trimmed IsSpace space_or_not rest in
    elim (is_id_or_not t.0) [
      | inl valid ↦ inl (serial, t.0, record { rest = rest; comma = s; trimmed = t.1; valid = valid })
      | inr bad ↦ inr (λ other id x.
          let same : (serial ≡ other) × (rest ≡ x.rest) = split_once 44 serial other rest x.rest s.first x.comma.first (sym s.whole ∙ x.comma.whole) in
          let one : id ≡ t.0 = trimmed_unique IsSpace rest id t.0 (subst (λ (r : List ℕ). Trimmed IsSpace r id) (sym same.1) x.trimmed) t.1 in
          bad (subst IsId one x.valid))
    ]

id_or_none : (text : List ℕ) → IsIdLine text
id_or_none text = elim (split_or_lacks 44 text) [
  | inl s ↦ id_behind text s.0 s.1 s.2
  | inr none ↦ inr (λ serial id x. not_split 44 text serial x.rest none x.comma.whole)
]

-- ---- all lines
five_or_fewer : (all : List (List ℕ)) → (length all < 5) ⊎ ((a b c d e : List ℕ) × (rest : List (List ℕ)) × (all ≡ a ∷ b ∷ c ∷ d ∷ e ∷ rest))
five_or_fewer [] = inl (omega arith)
five_or_fewer (a ∷ []) = inl (omega arith)
five_or_fewer (a ∷ b ∷ []) = inl (omega arith)
five_or_fewer (a ∷ b ∷ c ∷ []) = inl (omega arith)
five_or_fewer (a ∷ b ∷ c ∷ d ∷ []) = inl (omega arith)
five_or_fewer (a ∷ b ∷ c ∷ d ∷ e ∷ rest) = inr (a, b, c, d, e, rest, refl)

six_or_fewer : (all : List (List ℕ)) → (length all < 6) ⊎ ((a b c d e f : List ℕ) × (rest : List (List ℕ)) × (all ≡ a ∷ b ∷ c ∷ d ∷ e ∷ f ∷ rest))
six_or_fewer [] = inl (omega arith)
six_or_fewer (a ∷ all) = elim (five_or_fewer all) [
  | inl few ↦ inl (omega (arith, few))
  | inr s ↦ inr (a, s.0, s.1, s.2, s.3, s.4, s.5, ap (λ (rest : List (List ℕ)). a ∷ rest) s.6)
]

abbrev IsControl : List (List ℕ) → Type 0
IsControl all = ((c : Control) × ControlLinesRead all c) ⊎ ((fault : ControlError) × LineFault all fault)

early : (all : List (List ℕ)) (upto : ℕ) (fault : ControlError) → upto ≤ 11 → BreaksUpto all upto fault → IsControl all
early all upto fault le b = inr (fault, early_fault all upto fault le b)

-- behind eleven lines that keep their rules, the last of which counts the conferences
module _ (all listed : List (List ℕ)) (board city phone sysop fifth serial id stamp user menu ninth tenth eleventh : List ℕ) (count n : ℕ)
    (whole : all ≡ board ∷ city ∷ phone ∷ sysop ∷ fifth ∷ stamp ∷ user ∷ menu ∷ ninth ∷ tenth ∷ eleventh ∷ listed)
    (is_id : IdLine fifth serial id) (counted : CountReads tenth count) (last : PlaceLine eleventh n) where
  late : (i : ℕ) (fault : ControlError) → i ≤ n → BreaksUpto all (13 + 2 * i) fault → IsControl all
  late i fault le b = inr (fault, late_fault all eleventh n fault (ap (λ (ls : List (List ℕ)). line ls 11) whole) last (within_more all (13 + 2 * i) (13 + 2 * n) fault (omega (arith, le)) b))

  read_all : (conferences : List (ℕ × List ℕ)) (rest : List (List ℕ)) → length conferences ≡ n + 1 → ListedRead listed conferences rest → IsControl all
  read_all conferences rest many read =
      let c : Control = record {
        board = board;
        city = city;
        phone = phone;
        sysop = sysop;
        serial = serial;
        bbsid = id;
        stamp = stamp;
        user = user;
        menu = menu;
        count = count;
        conferences = conferences;
        welcome = or_empty rest 1;
        news = or_empty rest 2;
        goodbye = or_empty rest 3;
      } in
      inl (
        c,
        lines_read all listed rest board city phone sysop fifth serial id stamp user menu ninth tenth eleventh count n conferences c whole is_id counted last many read
            (refl, refl, refl, refl, refl, refl) (refl, refl, refl, refl) refl (refl, refl, refl),
      )

  walks : (left i : ℕ) (conferences : List (ℕ × List ℕ)) (rest : List (List ℕ)) → i + left ≡ n + 1 → length conferences ≡ i → ListedRead listed conferences rest → KeptBefore all (11 + 2 * i) rest → IsControl all
  walks zero i conferences rest so_many many read kept = read_all conferences rest (omega (arith, so_many, many)) read
  walks (suc left) i conferences [] so_many many read kept = late i (TooFewLines (12 + 2 * i)) (omega (arith, so_many)) (no_first i [] refl all kept)
  walks (suc left) i conferences (text ∷ []) so_many many read kept = elim (place_or_none text) [
    | inl p ↦ late i (TooFewLines (12 + 2 * i + 1)) (omega (arith, so_many)) (no_name i p.0 text (text ∷ []) [] refl p.1 refl all kept)
    | inr none ↦ late i (BadNumber (12 + 2 * i)) (omega (arith, so_many)) (bad_first i text (text ∷ []) [] refl none all kept)
  ]
  walks (suc left) i conferences (text ∷ name ∷ more) so_many many read kept = elim (place_or_none text) [
    | inl p ↦ walks left (i + 1) (conferences ++ (p.0, name) ∷ []) more (omega (arith, so_many)) (omega (arith, many, length-append conferences ((p.0, name) ∷ [])))
        (conference_push listed conferences text name more p.0 read p.1) (conference_more all i p.0 text name (text ∷ name ∷ more) more kept refl p.1)
    | inr none ↦ late i (BadNumber (12 + 2 * i)) (omega (arith, so_many)) (bad_first i text (text ∷ name ∷ more) (name ∷ more) refl none all kept)
  ]

behind_board : (all rest : List (List ℕ)) (a b c d text serial id : List ℕ) → all ≡ a ∷ b ∷ c ∷ d ∷ text ∷ rest → IdLine text serial id → IsControl all
behind_board all rest a b c d text serial id e i =
    let five : KeptBefore all 5 rest = board_more all rest a b c d text serial id e i in
    elim (six_or_fewer rest) [
      | inl few ↦ early all 11 (TooFewLines (6 + length rest)) (omega arith) (packet_ends rest few all five)
      | inr s ↦ elim (place_or_none s.5) [
        | inr none ↦ early all 11 (BadNumber 11) (omega arith) (no_last s.0 s.1 s.2 s.3 s.4 s.5 s.6 none all (subst (KeptBefore all 5) s.7 five))
        | inl p ↦
            let count : (n : ℕ) × CountReads s.4 n = some_count s.4 in
            walks all s.6 a b c d text serial id s.0 s.1 s.2 s.3 s.4 s.5 count.0 p.0 (e ∙ ap (λ (more : List (List ℕ)). a ∷ b ∷ c ∷ d ∷ text ∷ more) s.7) i count.1 p.1
            (p.0 + 1) 0 [] s.6 (omega arith) refl refl (packet_more all rest s.6 s.0 s.1 s.2 s.3 s.4 s.5 p.0 five s.7 p.1)
      ]
    ]

lines_or_fault : (all : List (List ℕ)) → IsControl all
lines_or_fault all = elim (five_or_fewer all) [
  | inl few ↦ early all 5 (TooFewLines (1 + length all)) (omega arith) (board_ends all few all (from_first all))
  | inr s ↦ elim (id_or_none s.4) [
    | inl i ↦ behind_board all s.5 s.0 s.1 s.2 s.3 s.4 i.0 i.1 s.6 i.2
    | inr none ↦ early all 5 BadBoardId (omega arith) (no_board_id s.0 s.1 s.2 s.3 s.4 s.5 none all (subst (KeptBefore all 0) s.6 (from_first all)))
  ]
]

pub control_or_fault : (bytes : List ℕ) → ((c : Control) × ControlReads bytes c) ⊎ ((fault : ControlError) × ControlFault bytes fault)
control_or_fault bytes = lines_or_fault (lines bytes)
