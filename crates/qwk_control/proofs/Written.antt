-- What is written reads back.
use Rattle.std.proofs.Common.{◌≡◌, ◌≢◌, ℕ, ◌-◌, ◌^◌, ◌<◌, ◌≤◌, List, [], ◌∷◌, ◌++◌, length, refl, sym, subst, inl, arith}
use Rattle.std.proofs.lemmas.Fmt.{length-decimal-le}
use Rattle.std.proofs.lemmas.List.{append-nil}
use Rattle.std.proofs.lemmas.List.Elements.{All-head, All-tail, All-nil, All-cons, All-append}
use Rattle.std.specs.Char.{digit_value}
use Rattle.std.specs.Fmt.{decimal}
use Rattle.std.specs.List.{All}
use Rattle.std.specs.Str.Lines.{lines}
use Rattle.std.specs.Str.Parse.{AllDigits}
use Rattle.text_fields.specs.Split.{Lacks}
use Rattle.text_fields.specs.Trim.{Trimmed}
use Rattle.text_fields.specs.declared.blank.Blank.TheVariants.{Spaces}
use Rattle.text_fields.proofs.LineLists.{lines_back}
use Rattle.text_fields.proofs.Numbers.{decimal_digits, digits_begin, digits_end}
use Rattle.qwk_control.specs.Line.{IsSpace, NumberLine, PlaceLine, IsId}
use Rattle.qwk_control.specs.Control.{ListedRead, ControlLinesRead, ControlReads}
use Rattle.qwk_control.specs.Written.{conference_lines, control_lines, control_text, IsText, ConferenceFits, WritableControl}
use Rattle.qwk_control.specs.declared.control.Control.{Control}
use Rattle.qwk_control.proofs.Single.{control_unique}

-- a text without blanks at its ends is what a trim leaves of it
trimmed_same : (text : List ℕ) → ((first : ℕ) (rest : List ℕ) → text ≡ first ∷ rest → IsSpace first → ⊥) → ((front : List ℕ) (last : ℕ) → text ≡ front ++ last ∷ [] → IsSpace last → ⊥) → Trimmed IsSpace text text
trimmed_same text begins ends = record {
  before = [];
  after = [];
  whole = sym (append-nil text);
  blank_before = All-nil IsSpace;
  blank_after = All-nil IsSpace;
  begins = begins;
  ends = ends;
}

number_back : (n : ℕ) → n < 10 ^ 9 → NumberLine (decimal n) n
number_back n small =
    let d = decimal_digits n (omega arith) in
    record {
      text = decimal n;
      trimmed = trimmed_same (decimal n) (digits_begin Spaces (decimal n) n d) (digits_end Spaces (decimal n) n d);
      short = length-decimal-le 9 n (omega arith) small (omega arith);
      digits = d;
    }

place_back : (n : ℕ) → n ≤ 65535 → PlaceLine (decimal n) n
place_back n small = record { number = number_back n (omega arith); small = small }

abbrev IsPrinted : ℕ → Type 0
IsPrinted c = (0x21 ≤ c) × (c ≤ 0x7E)

last_printed : (front : List ℕ) (last : ℕ) → All IsPrinted (front ++ last ∷ []) → IsPrinted last
last_printed [] last h = All-head IsPrinted last [] h
last_printed (f ∷ front) last h = last_printed front last (All-tail IsPrinted f (front ++ last ∷ []) h)

-- a printed byte that isn't a space is no space
id_trimmed : (id : List ℕ) → IsId id → Trimmed IsSpace id id
id_trimmed id x = trimmed_same id
    (λ first rest e b. let p = All-head IsPrinted first rest (subst (All IsPrinted) e x.printed) in omega (arith, p.0, b))
    (λ front last e b. let p = last_printed front last (subst (All IsPrinted) e x.printed) in omega (arith, p.0, b))

conferences_back : (cs : List (ℕ × List ℕ)) (rest : List (List ℕ)) → All ConferenceFits cs → ListedRead (conference_lines cs ++ rest) cs rest
conferences_back [] rest h = refl
conferences_back (c ∷ cs) rest h =
    let fits : ConferenceFits c = All-head ConferenceFits c cs h in
    (decimal c.0, conference_lines cs ++ rest, refl, place_back c.0 (omega (arith, fits.number)), conferences_back cs rest (All-tail ConferenceFits c cs h))

pub lines_read : (c : Control) → WritableControl c → ControlLinesRead (control_lines c) c
lines_read c w = record {
  fifth = c.serial ++ 44 ∷ c.bbsid;
  ninth = 48 ∷ [];
  tenth = decimal c.count;
  eleventh = decimal (length c.conferences - 1);
  listed = conference_lines c.conferences ++ c.welcome ∷ c.news ∷ c.goodbye ∷ [];
  rest = c.welcome ∷ c.news ∷ c.goodbye ∷ [];
  whole = refl;
  id = record { rest = c.bbsid; comma = record { whole = refl; first = w.comma }; trimmed = id_trimmed c.bbsid w.id; valid = w.id };
  counted = inl (number_back c.count (omega (arith, w.count)));
  last = place_back (length c.conferences - 1) (omega (arith, w.conferences.many));
  some = w.conferences.some;
  conferences = conferences_back c.conferences _ w.conferences.each;
  welcome = refl;
  news = refl;
  goodbye = refl;
}

-- no line has a line feed
text_clear : (text : List ℕ) → IsText text → Lacks 10 text
text_clear text h i d lt = (h i d lt).0

no_feed_digit : (c : ℕ) → digit_value c < 10 → c ≢ 10
no_feed_digit c h e = let k : digit_value 10 < 10 = subst (λ (b : ℕ). digit_value b < 10) e h in omega arith

digits_clear : (ds : List ℕ) → AllDigits 10 ds → Lacks 10 ds
digits_clear [] h = All-nil (λ b. b ≢ 10)
digits_clear (c ∷ cs) h = All-cons (λ b. b ≢ 10) c cs (no_feed_digit c h.0) (digits_clear cs h.1)

decimal_clear : (n : ℕ) → n < 2 ^ 64 → Lacks 10 (decimal n)
decimal_clear n small = digits_clear (decimal n) (decimal_digits n small).numeral.1

id_clear : (serial id : List ℕ) → IsText serial → IsId id → Lacks 10 (serial ++ 44 ∷ id)
id_clear serial id s x = All-append (λ b. b ≢ 10) serial (44 ∷ id) (text_clear serial s)
    (All-cons (λ b. b ≢ 10) 44 id (λ e. omega arith) (λ i d lt e. omega (arith, (x.printed i d lt).0)))

zero_clear : Lacks 10 (48 ∷ [])
zero_clear = All-cons (λ b. b ≢ 10) 48 [] (λ e. omega (arith, e)) (All-nil (λ b. b ≢ 10))

-- each of the lines has no line feed
abbrev Clear : List (List ℕ) → Type 0
Clear [] = Unit {0}
Clear (x ∷ xs) = Lacks 10 x × Clear xs

all_clear : (xs : List (List ℕ)) → Clear xs → All (Lacks 10) xs
all_clear [] h = All-nil (Lacks 10)
all_clear (x ∷ xs) h = All-cons (Lacks 10) x xs h.0 (all_clear xs h.1)

conferences_clear : (cs : List (ℕ × List ℕ)) (more : List (List ℕ)) → All ConferenceFits cs → Clear more → Clear (conference_lines cs ++ more)
conferences_clear [] more h m = m
conferences_clear (c ∷ cs) more h m =
    let fits : ConferenceFits c = All-head ConferenceFits c cs h in
    (decimal_clear c.0 (omega (arith, fits.number)), (text_clear c.1 fits.name, conferences_clear cs more (All-tail ConferenceFits c cs h) m))

lines_clear : (c : Control) → WritableControl c → Clear (control_lines c)
lines_clear c w =
    let count = decimal_clear c.count (omega (arith, w.count)) in
    let last = decimal_clear (length c.conferences - 1) (omega (arith, w.conferences.many)) in
    let files : Clear (c.welcome ∷ c.news ∷ c.goodbye ∷ []) = (text_clear c.welcome w.files.welcome, (text_clear c.news w.files.news, (text_clear c.goodbye w.files.goodbye, tt {0}))) in
    let listed = conferences_clear c.conferences (c.welcome ∷ c.news ∷ c.goodbye ∷ []) w.conferences.each files in
    let id = id_clear c.serial c.bbsid w.texts.serial w.id in (
      text_clear c.board w.texts.board,
      (
        text_clear c.city w.texts.city,
        (
          text_clear c.phone w.texts.phone,
          (
            text_clear c.sysop w.texts.sysop,
            (
              id,
              (
                text_clear c.stamp w.texts.stamp,
                (
                  text_clear c.user w.texts.user,
                  (
                    text_clear c.menu w.texts.menu,
                    (zero_clear, (count, (last, listed))),
                  ),
                ),
              ),
            ),
          ),
        ),
      ),
    )

pub control_back : (c : Control) → WritableControl c → ControlReads (control_text c) c
control_back c w = subst (λ (all : List (List ℕ)). ControlLinesRead all c) (sym (lines_back (control_lines c) (all_clear (control_lines c) (lines_clear c w)))) (lines_read c w)

pub no_others : (c other : Control) → WritableControl c → ControlReads (control_text c) other → other ≡ c
no_others c other w x = control_unique (lines (control_text c)) other c x (control_back c w)
