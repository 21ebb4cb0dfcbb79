-- What a reader sees of a message that goes with its long values as lines: the message itself.
use Rattle.std.proofs.Common.{◌≡◌, ℕ, ◌+◌, ◌<◌, Bool, true, false, not, ◌&&◌, ◌||◌, cond, eqb, List, [], ◌∷◌, ◌++◌, length, take, drop, refl, sym, ap, ◌∙◌, inl, inr, arith, length-append, append_assoc}
use Rattle.std.proofs.lemmas.Bool.{eq-eqb, ne_eqb, eqb-true, eqb-false, cases_Bool, cond-true, cond-false}
use Rattle.std.proofs.lemmas.List.{take_at, drop_at, nil_from_length}
use Rattle.std.proofs.lemmas.Slice.Eq.{bytes_eq-Decides}
use Rattle.std.specs.Str.{bytes_eq, str_eq_ignore_ascii_case, str_to_ascii_lowercase, str_to_ascii_uppercase}
use Rattle.std.proofs.lemmas.Str.Ascii.{lowercase-uppercase}
use Rattle.qwk_blocks.specs.declared.message.Header.{Header}
use Rattle.qwk_blocks.specs.declared.message.QwkMessage.{QwkMessage}
use Rattle.long_names.specs.Value.{short_form, is_long, name_of, most_of, value_on, gives}
use Rattle.long_names.specs.Lead.{given, LeadValues, lead, begins_empty, takes}
use Rattle.long_names.specs.Plain.{past_empty, with_names, in_field, as_line, long_lines, is_parted, short_header, with_lead, unmarked, plain, with_long, in_capitals, with_read_names}
use Rattle.long_names.specs.declared.line_field.LineField.{LineField}
use Rattle.long_names.specs.declared.line_field.LineField.TheVariants.{To, From, Subject}
use Rattle.long_names.proofs.EmptyLines.{past_more, past_stays}

-- ---- what a line gives
both : (a b c : Bool) → a ≡ true → b ≡ true → c ≡ true → (a && (b && c)) ≡ true
both a b c x y z = ap (λ t. t && (b && c)) x ∙ (ap (λ t. t && c) y ∙ z)

equal_bytes : (bytes : List ℕ) → bytes_eq bytes bytes ≡ true
equal_bytes bytes = (bytes_eq-Decides bytes bytes).1 refl

behind_name : (field : LineField) (value : List ℕ) → value_on field (name_of field ++ value) ≡ value
behind_name field value = drop_at (name_of field) value (length (name_of field)) refl

-- the line of a long value gives it to a field in which its short form stands, in any case
own_line : (field : LineField) (value short : List ℕ) → is_long (most_of field) value ≡ true → str_to_ascii_lowercase short ≡ str_to_ascii_lowercase (short_form value) → gives field short (name_of field ++ value) ≡ true
unfolding gives
own_line field value short long same =
    let v : value_on field (name_of field ++ value) ≡ value = behind_name field value in
    both
    (bytes_eq (take (length (name_of field)) (name_of field ++ value)) (name_of field))
    (is_long (most_of field) (value_on field (name_of field ++ value)))
    (str_eq_ignore_ascii_case (short_form (value_on field (name_of field ++ value))) short)
    (ap (λ front. bytes_eq front (name_of field)) (take_at (name_of field) value (length (name_of field)) refl) ∙ equal_bytes (name_of field))
    (ap (is_long (most_of field)) v ∙ long)
    (ap (λ x. str_eq_ignore_ascii_case (short_form x) short) v
    ∙ (ap (λ low. bytes_eq (str_to_ascii_lowercase (short_form value)) low) same ∙ equal_bytes (str_to_ascii_lowercase (short_form value))))

-- an empty line gives nothing
empty_line : (field : LineField) (short : List ℕ) → gives field short [] ≡ false
unfolding gives
empty_line To short = refl
empty_line From short = refl
empty_line Subject short = refl

from_is_not_to : (short value : List ℕ) → gives To short (name_of From ++ value) ≡ false
unfolding gives
from_is_not_to short value = refl

subject_is_not_to : (short value : List ℕ) → gives To short (name_of Subject ++ value) ≡ false
unfolding gives
subject_is_not_to short value = refl

subject_is_not_from : (short value : List ℕ) → gives From short (name_of Subject ++ value) ≡ false
unfolding gives
subject_is_not_from short value = refl

-- ---- what the first of lines give
given_yes : (field : LineField) (short line : List ℕ) (lines : List (List ℕ)) → gives field short line ≡ true → given field short (line ∷ lines) ≡ (value_on field line, lines)
given_yes field short line lines does = cond-true (gives field short line) (value_on field line, lines) (short, line ∷ lines) does

given_no : (field : LineField) (short line : List ℕ) (lines : List (List ℕ)) → gives field short line ≡ false → given field short (line ∷ lines) ≡ (short, line ∷ lines)
given_no field short line lines fails = cond-false (gives field short line) (value_on field line, lines) (short, line ∷ lines) fails

-- lines that begin with one that gives this field nothing, whatever stands in the header
record GiveNone (field : LineField) (lines : List (List ℕ)) : Type 0 where
  line : List ℕ
  rest : List (List ℕ)
  whole : lines ≡ line ∷ rest
  none : (short : List ℕ) → gives field short line ≡ false

none_given : (field : LineField) (short : List ℕ) (lines : List (List ℕ)) → GiveNone field lines → given field short lines ≡ (short, lines)
none_given field short lines g = ap (given field short) g.whole ∙ (given_no field short g.line g.rest (g.none short) ∙ ap (λ xs. (short, xs)) (sym g.whole))

-- ---- which lines give nothing to the fields before theirs
behind_empty : (field : LineField) (lines : List (List ℕ)) → GiveNone field ([] ∷ lines)
behind_empty field lines = record { line = []; rest = lines; whole = refl; none = empty_line field }

or_behind : (field other : LineField) (value : List ℕ) (lines : List (List ℕ)) → ((short : List ℕ) → gives field short (name_of other ++ value) ≡ false) → GiveNone field lines → GiveNone field (as_line other value ++ lines)
or_behind field other value lines other_line g =
    elim (cases_Bool (is_long (most_of other) value)) [
      | inl is_so ↦ record {
        line = name_of other ++ value;
        rest = lines;
        whole = ap (λ test. cond test ((name_of other ++ value) ∷ []) [] ++ lines) is_so;
        none = other_line;
      }
      | inr not_long ↦ record {
        line = g.line;
        rest = g.rest;
        whole = ap (λ test. cond test ((name_of other ++ value) ∷ []) [] ++ lines) not_long ∙ g.whole;
        none = g.none;
      }
    ]

-- ---- the lead of the lines of long values, behind which an empty line stands
abbrev lead_at : List ℕ → List ℕ → List ℕ → List (List ℕ) → LeadValues
lead_at to from subject rest = record { to = to; from = from; subject = subject; rest = rest }

abbrev lead_behind_from : Header → List ℕ → List ℕ × List (List ℕ) → LeadValues
lead_behind_from h to from = lead_at to from.0 (given Subject h.subject from.1).0 (given Subject h.subject from.1).1

abbrev lead_behind_to : Header → List ℕ × List (List ℕ) → LeadValues
lead_behind_to h to = lead_behind_from h to.0 (given From h.from to.1)

abbrev subject_lines : Header → List (List ℕ) → List (List ℕ)
subject_lines h lines = as_line Subject h.subject ++ [] ∷ lines

abbrev from_lines : Header → List (List ℕ) → List (List ℕ)
from_lines h lines = as_line From h.from ++ subject_lines h lines

abbrev to_lines : Header → List (List ℕ) → List (List ℕ)
to_lines h lines = as_line To h.to ++ from_lines h lines

-- the lines as they are written
to_lines_are : (h : Header) (lines : List (List ℕ)) → long_lines h ++ [] ∷ lines ≡ to_lines h lines
to_lines_are h lines =
    append_assoc (as_line To h.to) (as_line From h.from ++ as_line Subject h.subject) ([] ∷ lines)
    ∙ ap (λ xs. as_line To h.to ++ xs) (append_assoc (as_line From h.from) (as_line Subject h.subject) ([] ∷ lines))

-- ---- what is taken
takes_some : (h : Header) (lines rest : List (List ℕ)) (line : List ℕ) → (lead h lines).rest ≡ line ∷ rest → length line ≡ 0 → length (line ∷ rest) < length lines → takes h lines ≡ true
unfolding takes
takes_some h lines rest line is none less =
    let short : eqb (length (line ∷ rest)) (length lines) ≡ false = ne_eqb (length (line ∷ rest)) (length lines) (λ e. omega (arith, less, e)) in
    ap (λ xs. not (eqb (length xs) (length lines)) && begins_empty xs) is ∙ (ap (λ t. not t && begins_empty (line ∷ rest)) short ∙ eq-eqb (length line) 0 none)

takes_none : (h : Header) (lines : List (List ℕ)) → (lead h lines).rest ≡ lines → takes h lines ≡ false
unfolding takes
takes_none h lines is =
    ap (λ xs. not (eqb (length xs) (length lines)) && begins_empty xs) is ∙ ap (λ t. not t && begins_empty lines) (eq-eqb (length lines) (length lines) refl)

-- an empty line leads nothing
empty_leads : (h : Header) (lines : List (List ℕ)) → takes h ([] ∷ lines) ≡ false
empty_leads h lines =
    let to : given To h.to ([] ∷ lines) ≡ (h.to, [] ∷ lines) = given_no To h.to [] lines (empty_line To h.to) in
    let from : given From h.from ([] ∷ lines) ≡ (h.from, [] ∷ lines) = given_no From h.from [] lines (empty_line From h.from) in
    let subject : given Subject h.subject ([] ∷ lines) ≡ (h.subject, [] ∷ lines) = given_no Subject h.subject [] lines (empty_line Subject h.subject) in
    takes_none h ([] ∷ lines) (ap (λ l. l.rest) (ap (lead_behind_to h) to ∙ (ap (lead_behind_from h h.to) from ∙ ap (λ s. lead_at h.to h.from s.0 s.1) subject)))

nothing_leads : (h : Header) → takes h [] ≡ false
nothing_leads h = takes_none h [] refl

-- ---- what a reader sees
abbrev message_of : Header → List (List ℕ) → QwkMessage
message_of h lines = record { header = h; lines = lines }

plain_taken : (m : QwkMessage) → takes m.header m.lines ≡ true → plain m ≡ record { header = with_lead (lead m.header m.lines) m.header; lines = drop 1 (lead m.header m.lines).rest }
unfolding plain
plain_taken m does = cond-true (takes m.header m.lines) _ _ does

plain_unmarked : (m : QwkMessage) → takes m.header m.lines ≡ false → plain m ≡ record { header = m.header; lines = unmarked m.header m.lines }
unfolding plain
plain_unmarked m fails = cond-false (takes m.header m.lines) _ _ fails

-- lines don't lead where what is behind their empty ones doesn't
not_taken : (h : Header) (line : List ℕ) (lines : List (List ℕ)) → takes h (past_empty (line ∷ lines)) ≡ false → takes h (line ∷ lines) ≡ false
not_taken h [] lines is = empty_leads h lines
not_taken h (b ∷ line) lines is = ap (takes h) (sym (past_stays (b ∷ line) lines (λ e. omega (arith, e)))) ∙ is

-- with no long value
back_marked : (h : Header) (lines : List (List ℕ)) (test : Bool) → takes h (past_empty lines) ≡ test → plain (record { header = h; lines = cond test ([] ∷ lines) lines }) ≡ record { header = h; lines = lines }
back_marked h lines true is =
    let inner : takes h (past_empty ([] ∷ lines)) ≡ true = ap (takes h) (past_more [] lines refl) ∙ is in
    plain_unmarked (record { header = h; lines = [] ∷ lines }) (empty_leads h lines)
    ∙ ap (λ t. let m : QwkMessage = record { header = h; lines = cond t lines ([] ∷ lines) } in m) inner
back_marked h [] false is = plain_unmarked (record { header = h; lines = [] }) (nothing_leads h)
back_marked h (line ∷ lines) false is =
    let stays : unmarked h (line ∷ lines) ≡ line ∷ lines
    = elim (cases_Bool (eqb (length line) 0)) [
      | inl e ↦ ap (λ t. cond (t && takes h (past_empty (line ∷ lines))) lines (line ∷ lines)) e ∙ ap (λ t. cond t lines (line ∷ lines)) is
      | inr e ↦ ap (λ t. cond (t && takes h (past_empty (line ∷ lines))) lines (line ∷ lines)) e
    ] in
    plain_unmarked (record { header = h; lines = line ∷ lines }) (not_taken h line lines is)
    ∙ ap (λ xs. let m : QwkMessage = record { header = h; lines = xs } in m) stays

not_long : (field : LineField) (value : List ℕ) → length (as_line field value) ≡ 0 → is_long (most_of field) value ≡ false
not_long field value none =
    elim (cases_Bool (is_long (most_of field) value)) [
      | inl is_so ↦ absurd (omega (arith, none, ap (λ test. length (cond test ((name_of field ++ value) ∷ []) [])) is_so))
      | inr fails ↦ fails
    ]

-- ---- names in any case: `cased` changes nothing but the case of letters
module _ (cased : List ℕ → List ℕ) (same : (text : List ℕ) → str_to_ascii_lowercase (cased text) ≡ str_to_ascii_lowercase text) where
  -- a value as it is read from its field and its line
  abbrev read_at : LineField → List ℕ → List ℕ
  read_at field value = cond (is_long (most_of field) value) value (cased value)

  back_at : (field : LineField) (value : List ℕ) (lines : List (List ℕ)) (long : Bool) → is_long (most_of field) value ≡ long → GiveNone field lines
      → given field (cased (cond long (short_form value) value)) (cond long ((name_of field ++ value) ∷ []) [] ++ lines) ≡ (cond long value (cased value), lines)
  back_at field value lines true is g =
      given_yes field (cased (short_form value)) (name_of field ++ value) lines (own_line field value (cased (short_form value)) is (same (short_form value)))
      ∙ ap (λ v. (v, lines)) (behind_name field value)
  back_at field value lines false is g = none_given field (cased value) lines g

  value_back : (field : LineField) (value : List ℕ) (lines : List (List ℕ)) → GiveNone field lines → given field (cased (in_field field value)) (as_line field value ++ lines) ≡ (read_at field value, lines)
  value_back field value lines g = back_at field value lines (is_long (most_of field) value) refl g

abbrev as_it_is : List ℕ → List ℕ
as_it_is text = text

same_either_way : (long : Bool) (value : List ℕ) → cond long value value ≡ value
same_either_way true value = refl
same_either_way false value = refl

subject_back : (h : Header) (lines : List (List ℕ)) → given Subject (in_field Subject h.subject) (subject_lines h lines) ≡ (h.subject, [] ∷ lines)
subject_back h lines = value_back as_it_is (λ text. refl) Subject h.subject ([] ∷ lines) (behind_empty Subject lines) ∙ ap (λ v. (v, [] ∷ lines)) (same_either_way (is_long (most_of Subject) h.subject) h.subject)

-- no value of a header is long whose lines are none
none_long : (h : Header) → length (long_lines h) ≡ 0 → (is_long (most_of To) h.to ≡ false) × (is_long (most_of From) h.from ≡ false) × (is_long (most_of Subject) h.subject ≡ false)
none_long h none =
    let bc : length (as_line From h.from ++ as_line Subject h.subject) ≡ length (as_line From h.from) + length (as_line Subject h.subject) = length-append (as_line From h.from) (as_line Subject h.subject) in
    let abc : length (long_lines h) ≡ length (as_line To h.to) + length (as_line From h.from ++ as_line Subject h.subject) = length-append (as_line To h.to) (as_line From h.from ++ as_line Subject h.subject) in
    (not_long To h.to (omega (arith, none, abc)), not_long From h.from (omega (arith, none, abc, bc)), not_long Subject h.subject (omega (arith, none, abc, bc)))

stays_whole : (h : Header) → length (long_lines h) ≡ 0 → short_header h ≡ h
stays_whole h none =
    let s = none_long h none in
    let to : in_field To h.to ≡ h.to = ap (λ test. cond test (short_form h.to) h.to) s.0 in
    let from : in_field From h.from ≡ h.from = ap (λ test. cond test (short_form h.from) h.from) s.1 in
    let subject : in_field Subject h.subject ≡ h.subject = ap (λ test. cond test (short_form h.subject) h.subject) s.2 in
    ap (λ x. with_names x (in_field From h.from) (in_field Subject h.subject) h) to ∙ (ap (λ x. with_names h.to x (in_field Subject h.subject) h) from ∙ ap (λ x. with_names h.to h.from x h) subject)

-- the message as it goes, by whether an empty line parts its text
abbrev going : Header → List (List ℕ) → List (List ℕ) → Bool → QwkMessage
going h before lines parted = record { header = h; lines = before ++ cond parted ([] ∷ lines) lines }

goes : (m : QwkMessage) → with_long m ≡ going (short_header m.header) (long_lines m.header) m.lines (is_parted m)
unfolding with_long
goes m = refl

module _ (cased : List ℕ → List ℕ) (same : (text : List ℕ) → str_to_ascii_lowercase (cased text) ≡ str_to_ascii_lowercase text) where
  -- a header with its names so, and a header as it is read
  abbrev cased_header : Header → Header
  cased_header h = with_names (cased h.to) (cased h.from) h.subject h

  abbrev read_header : Header → Header
  read_header h = with_names (read_at cased same To h.to) (read_at cased same From h.from) h.subject h

  abbrev cased_message : QwkMessage → QwkMessage
  cased_message m = record { header = cased_header m.header; lines = m.lines }

  lead_back : (h : Header) (lines : List (List ℕ)) → lead (cased_header (short_header h)) (to_lines h lines) ≡ lead_at (read_header h).to (read_header h).from h.subject ([] ∷ lines)
  lead_back h lines =
      let none_from : GiveNone From (subject_lines h lines) = or_behind From Subject h.subject ([] ∷ lines) (λ short. subject_is_not_from short h.subject) (behind_empty From lines) in
      let from : given From (cased (in_field From h.from)) (from_lines h lines) ≡ (read_at cased same From h.from, subject_lines h lines) = value_back cased same From h.from (subject_lines h lines) none_from in
      let none_to : GiveNone To (from_lines h lines)
      = or_behind To From h.from (subject_lines h lines) (λ short. from_is_not_to short h.from) (or_behind To Subject h.subject ([] ∷ lines) (λ short. subject_is_not_to short h.subject) (behind_empty To lines)) in
      let to : given To (cased (in_field To h.to)) (to_lines h lines) ≡ (read_at cased same To h.to, from_lines h lines) = value_back cased same To h.to (from_lines h lines) none_to in
      ap (lead_behind_to (cased_header (short_header h))) to
      ∙ (ap (lead_behind_from (cased_header (short_header h)) (read_header h).to) from ∙ ap (λ s. lead_at (read_header h).to (read_header h).from s.0 s.1) (subject_back h lines))

  -- with lines of long values
  back_long : (h : Header) (lines : List (List ℕ)) → 0 < length (long_lines h) → plain (message_of (cased_header (short_header h)) (long_lines h ++ [] ∷ lines)) ≡ message_of (read_header h) lines
  back_long h lines some =
      let own : Header = cased_header (short_header h) in
      let whole : long_lines h ++ [] ∷ lines ≡ to_lines h lines = to_lines_are h lines in
      let is : lead own (long_lines h ++ [] ∷ lines) ≡ lead_at (read_header h).to (read_header h).from h.subject ([] ∷ lines) = ap (lead own) whole ∙ lead_back h lines in
      let less : length ([] ∷ lines) < length (long_lines h ++ [] ∷ lines) = omega (arith, some, length-append (long_lines h) ([] ∷ lines)) in
      let does : takes own (long_lines h ++ [] ∷ lines) ≡ true = takes_some own (long_lines h ++ [] ∷ lines) lines [] (ap (λ l. l.rest) is) refl less in
      plain_taken (message_of own (long_lines h ++ [] ∷ lines)) does ∙ ap (λ l. message_of (with_lead l own) (drop 1 l.rest)) is

  -- the case of names makes no difference to what is taken
  same_given : (field : LineField) (short : List ℕ) (lines : List (List ℕ)) → (given field (cased short) lines).1 ≡ (given field short lines).1
  unfolding gives
  same_given field short [] = refl
  same_given field short (line ∷ lines) =
      let test : gives field (cased short) line ≡ gives field short line
      = ap (λ low. bytes_eq (take (length (name_of field)) line) (name_of field) && (is_long (most_of field) (value_on field line) && bytes_eq (str_to_ascii_lowercase (short_form (value_on field line))) low)) (same short) in
      elim (cases_Bool (gives field short line)) [
        | inl does ↦ ap (λ x. x.1) (given_yes field (cased short) line lines (test ∙ does)) ∙ ap (λ x. x.1) (sym (given_yes field short line lines does))
        | inr fails ↦ ap (λ x. x.1) (given_no field (cased short) line lines (test ∙ fails)) ∙ ap (λ x. x.1) (sym (given_no field short line lines fails))
      ]

  same_rest : (h : Header) (lines : List (List ℕ)) → (lead (cased_header h) lines).rest ≡ (lead h lines).rest
  same_rest h lines =
      let to : (given To (cased h.to) lines).1 ≡ (given To h.to lines).1 = same_given To h.to lines in
      let from : (given From (cased h.from) (given To (cased h.to) lines).1).1 ≡ (given From h.from (given To h.to lines).1).1
      = ap (λ xs. (given From (cased h.from) xs).1) to ∙ same_given From h.from (given To h.to lines).1 in
      ap (λ xs. (given Subject h.subject xs).1) from

  same_takes : (h : Header) (lines : List (List ℕ)) → takes (cased_header h) lines ≡ takes h lines
  unfolding takes
  same_takes h lines = ap (λ xs. not (eqb (length xs) (length lines)) && begins_empty xs) (same_rest h lines)

  read_short : (h : Header) → length (long_lines h) ≡ 0 → read_header h ≡ cased_header h
  read_short h none =
      let s = none_long h none in
      ap (λ x. with_names x (read_at cased same From h.from) h.subject h) (ap (λ test. cond test h.to (cased h.to)) s.0)
      ∙ ap (λ x. with_names (cased h.to) x h.subject h) (ap (λ test. cond test h.from (cased h.from)) s.1)

  pub cased_back : (m : QwkMessage) → plain (cased_message (with_long m)) ≡ message_of (read_header m.header) m.lines
  cased_back m =
      let h : Header = m.header in
      let mark : Bool = takes h (past_empty m.lines) in
      elim (cases_Bool (eqb (length (long_lines h)) 0)) [
        | inl none ↦
            let zero : length (long_lines h) ≡ 0 = eqb-true (length (long_lines h)) 0 none in
            ap (λ x. plain (cased_message x)) (goes m
            ∙ (ap (λ t. going (short_header h) (long_lines h) m.lines (not t || mark)) none
            ∙ (ap (λ xs. going (short_header h) xs m.lines mark) (nil_from_length (long_lines h) zero)
            ∙ ap (λ x. going x [] m.lines mark) (stays_whole h zero))))
            ∙ (back_marked (cased_header h) m.lines mark (same_takes h (past_empty m.lines)) ∙ ap (λ x. message_of x m.lines) (sym (read_short h zero)))
        | inr some ↦
            ap (λ x. plain (cased_message x)) (goes m ∙ ap (λ t. going (short_header h) (long_lines h) m.lines (not t || mark)) some)
            ∙ back_long h m.lines (omega (arith, eqb-false (length (long_lines h)) 0 some))
      ]

pub back : (m : QwkMessage) → plain (with_long m) ≡ m
back m =
    let h : Header = m.header in
    cased_back as_it_is (λ text. refl) m
    ∙ (ap (λ x. message_of (with_names x (cond (is_long (most_of From) h.from) h.from h.from) h.subject h) m.lines) (same_either_way (is_long (most_of To) h.to) h.to)
    ∙ ap (λ x. message_of (with_names h.to x h.subject h) m.lines) (same_either_way (is_long (most_of From) h.from) h.from))

same_capitals : (text : List ℕ) → str_to_ascii_lowercase (str_to_ascii_uppercase text) ≡ str_to_ascii_lowercase text
same_capitals [] = refl
same_capitals (b ∷ text) = λ i. lowercase-uppercase b i ∷ same_capitals text i

pub back_capitals : (m : QwkMessage) → plain (in_capitals (with_long m)) ≡ with_read_names m
back_capitals m = cased_back str_to_ascii_uppercase same_capitals m
