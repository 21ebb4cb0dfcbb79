-- A conference line behind those before it: its rules, and the conference that it says.
use Rattle.std.proofs.Common.{◌≡◌, ℕ, ◌+◌, ◌-◌, ◌^◌, ◌<◌, ◌≤◌, Bool, true, false, not, leb, ltb, List, [], ◌∷◌, ◌++◌, length, length-append, Option, Some, None, Result, Ok, Err, IsTrue, refl, sym, ap, ◌∙◌, subst, arith}
use Rattle.std.proofs.lemmas.Bool.{false≢true}
use Rattle.std.proofs.lemmas.Bool.Decides.{nat_tests}
use Rattle.std.proofs.lemmas.List.Elements.{All-nil, All-cons, All-head, All-tail}
use Rattle.std.specs.List.{All, slice_get}
use Rattle.std.specs.Option.{is_none, unwrap_or}
use Rattle.std.specs.Result.{MatchResult}
use Rattle.jam_records.specs.declared.message.Kind.{Kind}
use Rattle.jam_records.specs.declared.message.Kind.TheVariants.{Local}
use Rattle.setup_file.specs.Texts.{is_conference_name}
use Rattle.setup_file.specs.Rising.{are_rising, rise_above}
use Rattle.setup_file.specs.Valid.{IsSetupConference, numbers_of}
use Rattle.setup_file.specs.Words.{is_number, number_of, kind_of, rights_of, begins_with, value_behind}
use Rattle.setup_file.specs.Rules.{LineRules, broken_in, conference_key, number_word, kind_word, rights_word, name_behind, is_place_number, is_out_of_order, conference_value_rules, conference_rules, line_number, number_before, broken_rule}
use Rattle.setup_file.specs.Reads.{ConferenceIs, ConferenceReads, ConferencesRead}
use Rattle.setup_file.specs.Fault.{KeepRules}
use Rattle.setup_file.specs.State.{NoneBroken, Breaks, PartsAre, conference_of_value, conferences_of_lines}
use Rattle.setup_file.specs.declared.conference.Conference.{Conference}
use Rattle.setup_file.specs.declared.conference_line.Parts.{Parts}
use Rattle.setup_file.specs.declared.error.SetupRule.{SetupRule}
use Rattle.setup_file.specs.declared.error.SetupRule.TheVariants as rule
use Rattle.setup_file.proofs.RuleLists.{Passes, passes, none_broken, not_false, false_not, rule_by_conference}
use Rattle.setup_file.proofs.ZoneWords.{and_left, and_right, both_true}

-- a first rule that is kept, and one that is broken
past_rule : (b : Bool) (r : SetupRule) (rules : LineRules) → b ≡ true → broken_in ((r, not b) ∷ rules) ≡ broken_in rules
past_rule true r rules e = refl
past_rule false r rules e = absurd (false≢true e)

at_rule : (b : Bool) (r : SetupRule) (rules : LineRules) → b ≡ false → broken_in ((r, not b) ∷ rules) ≡ Some r
at_rule true r rules e = absurd (false≢true (sym e))
at_rule false r rules e = refl

-- what a value says of a line that has the key
pub value_line : (line value : List ℕ) (count : ℕ) (last : Option ℕ) (r : Result Parts SetupRule) → begins_with conference_key line ≡ true → value ≡ value_behind conference_key line
    → MatchResult r (λ parts. NoneBroken (conference_value_rules count last value) × PartsAre value parts) (Breaks (conference_value_rules count last value))
    → MatchResult r (λ parts. NoneBroken (conference_rules count last line) × PartsAre (value_behind conference_key line) parts) (Breaks (conference_rules count last line))
value_line line value count last (Ok parts) b e h =
    let v = value_behind conference_key line in (
      past_rule (begins_with conference_key line) rule.Key (conference_value_rules count last v) b ∙ (ap (λ (t : List ℕ). broken_in (conference_value_rules count last t)) (sym e) ∙ h.0),
      subst (λ (t : List ℕ). PartsAre t parts) e h.1,
    )
value_line line value count last (Err r) b e h =
    let v = value_behind conference_key line in
    past_rule (begins_with conference_key line) rule.Key (conference_value_rules count last v) b ∙ (ap (λ (t : List ℕ). broken_in (conference_value_rules count last t)) (sym e) ∙ h)

pub no_key_line : (line : List ℕ) (count : ℕ) (last : Option ℕ) → begins_with conference_key line ≡ false → Breaks (conference_rules count last line) rule.Key
no_key_line line count last e = at_rule (begins_with conference_key line) rule.Key (conference_value_rules count last (value_behind conference_key line)) e

-- the last line of some
slice_last : (xs : List (List ℕ)) (x : List ℕ) → slice_get (xs ++ x ∷ []) (length xs) ≡ Some x
slice_last [] x = refl
slice_last (y ∷ xs) x = slice_last xs x

-- behind one more, the number before is that of the last
pub number_behind : (front : List (List ℕ)) (line : List ℕ) → 7 ≤ length front → number_before (front ++ line ∷ []) ≡ Some (line_number line)
number_behind front line many =
    let n : length (front ++ line ∷ []) - 1 ≡ length front = omega (arith, length-append front (line ∷ [])) in
    let last : slice_get (front ++ line ∷ []) (length (front ++ line ∷ []) - 1) ≡ Some line = ap (slice_get (front ++ line ∷ [])) n ∙ slice_last front line in
    let test : ltb 7 (length (front ++ line ∷ [])) ≡ true = grind (arith, nat_tests, length-append front (line ∷ [])) in
    rw (test, last) refl

pub no_number_before : (front : List (List ℕ)) → length front ≡ 7 → number_before front ≡ None
no_number_before front e =
    let test : ltb 7 (length front) ≡ false = grind (arith, nat_tests) in
    rw test refl

-- the rules of the next line, by how many conferences there are and the number of the last
pub rule_of_next : (kept own : List (List ℕ)) (line : List ℕ) (count : ℕ) (last : Option ℕ) → length kept ≡ 7 → count ≡ length own → last ≡ number_before (kept ++ own) → broken_rule (kept ++ own) line ≡ broken_in (conference_rules count last line)
rule_of_next kept own line count last seven e f =
    let n : length (kept ++ own) - 7 ≡ count = omega (arith, length-append kept own) in
    rule_by_conference (kept ++ own) line (omega (arith, length-append kept own))
    ∙ (ap (λ (m : ℕ). broken_in (conference_rules m (number_before (kept ++ own)) line)) n ∙ ap (λ (o : Option ℕ). broken_in (conference_rules count o line)) (sym f))

-- the conferences of lines, one at a time
pub conferences_append : (own : List (List ℕ)) (line : List ℕ) → conferences_of_lines (own ++ line ∷ []) ≡ conferences_of_lines own ++ conference_of_value (value_behind conference_key line) ∷ []
conferences_append [] line = refl
conferences_append (x ∷ own) line = ap (λ (cs : List Conference). conference_of_value (value_behind conference_key x) ∷ cs) (conferences_append own line)

pub conferences_more : (cs : List Conference) (own : List (List ℕ)) (line : List ℕ) (c : Conference) → cs ≡ conferences_of_lines own → c ≡ conference_of_value (value_behind conference_key line) → cs ++ c ∷ [] ≡ conferences_of_lines (own ++ line ∷ [])
conferences_more cs own line c e f = ap (λ (l : List Conference). l ++ c ∷ []) e ∙ (ap (λ (d : Conference). conferences_of_lines own ++ d ∷ []) f ∙ sym (conferences_append own line))

pub conference_count : (own : List (List ℕ)) → length (conferences_of_lines own) ≡ length own
conference_count [] = refl
conference_count (line ∷ own) = omega (arith, conference_count own)

pub count_is : (cs : List Conference) (own : List (List ℕ)) → cs ≡ conferences_of_lines own → length cs ≡ length own
count_is cs own e = ap length e ∙ conference_count own

-- there is a number before exactly where there are lines
number_none : (kept own : List (List ℕ)) → length kept ≡ 7 → length own ≡ 0 → is_none (number_before (kept ++ own)) ≡ true
number_none kept own seven none = ap is_none (no_number_before (kept ++ own) (omega (arith, length-append kept own)))

number_some : (front : List (List ℕ)) → 7 < length front → is_none (number_before front) ≡ false
number_some front many =
    let test : ltb 7 (length front) ≡ true = grind (arith, nat_tests) in
    rw test refl

pub none_before : (kept own : List (List ℕ)) → length kept ≡ 7 → is_none (number_before (kept ++ own)) ≡ true → length own ≡ 0
none_before kept [] seven e = refl
none_before kept (line ∷ own) seven e = absurd (false≢true (sym (number_some (kept ++ line ∷ own) (omega (arith, length-append kept (line ∷ own)))) ∙ e))

pub some_own : (kept own : List (List ℕ)) (last : Option ℕ) → length kept ≡ 7 → last ≡ number_before (kept ++ own) → is_none last ≡ false → 1 ≤ length own
some_own kept [] last seven e f = absurd (false≢true (sym f ∙ (ap is_none e ∙ number_none kept [] seven refl)))
some_own kept (line ∷ own) last seven e f = omega arith

-- what a conference line that breaks no rule has
pub record ConferencePasses (front : List (List ℕ)) (line : List ℕ) : Type 0 where
  pub begins : begins_with conference_key line ≡ true
  pub few : length front < 71
  pub number : is_place_number (number_word (value_behind conference_key line)) ≡ true
  pub kind : is_none (kind_of (kind_word (value_behind conference_key line))) ≡ false
  pub rights : is_none (rights_of (rights_word (value_behind conference_key line))) ≡ false
  pub name : is_conference_name (name_behind (value_behind conference_key line)) ≡ true
  pub order : is_out_of_order (number_before front) (line_number line) ≡ false

pub conference_passes : (front : List (List ℕ)) (line : List ℕ) → 7 ≤ length front → broken_rule front line ≡ None → ConferencePasses front line
conference_passes front line many e =
    let value = value_behind conference_key line in
    let rules = conference_rules (length front - 7) (number_before front) line in
    let p : Passes rules = passes rules (sym (rule_by_conference front line many) ∙ e) in
    record {
      begins = not_false (begins_with conference_key line) p.0;
      few = (let t : leb 64 (length front - 7) ≡ false = p.1.0 in grind (arith, nat_tests));
      number = not_false (is_place_number (number_word value)) p.1.1.0;
      kind = p.1.1.1.0;
      rights = p.1.1.1.1.0;
      name = not_false (is_conference_name (name_behind value)) p.1.1.1.1.1.0;
      order = p.1.1.1.1.1.1.0;
    }

pub passes_conference : (front : List (List ℕ)) (line : List ℕ) → 7 ≤ length front → ConferencePasses front line → broken_rule front line ≡ None
passes_conference front line many p =
    let value = value_behind conference_key line in
    let few : length front < 71 = p.few in
    let count : leb 64 (length front - 7) ≡ false = grind (arith, nat_tests) in
    rule_by_conference front line many
    ∙ none_broken (conference_rules (length front - 7) (number_before front) line) (
      false_not (begins_with conference_key line) p.begins,
      (
        count,
        (
          false_not (is_place_number (number_word value)) p.number,
          (p.kind, (p.rights, (false_not (is_conference_name (name_behind value)) p.name, (p.order, tt)))),
        ),
      ),
    )

-- a value that is there
pub some_unwrap : {X : Type 0} (o : Option X) (d : X) → is_none o ≡ false → o ≡ Some (unwrap_or o d)
some_unwrap None d e = absurd (false≢true (sym e))
some_unwrap (Some x) d e = refl

pub some_is : {X : Type 0} (o : Option X) (x : X) → o ≡ Some x → is_none o ≡ false
some_is o x e = ap is_none e

-- the conference that the line says
pub line_reads : (front : List (List ℕ)) (line : List ℕ) → ConferencePasses front line → ConferenceReads line (conference_of_value (value_behind conference_key line))
line_reads front line p =
    let value = value_behind conference_key line in (
      value,
      record { begins = p.begins; rest = refl },
      record {
        number = record { digits = and_left (is_number (number_word value)) (leb (number_of (number_word value)) 65535) p.number; value = refl };
        kind = some_unwrap (kind_of (kind_word value)) Local p.kind;
        rights = some_unwrap (rights_of (rights_word value)) (false, false) p.rights;
        name = refl;
      },
    )

pub line_valid : (front : List (List ℕ)) (line : List ℕ) → ConferencePasses front line → IsSetupConference (conference_of_value (value_behind conference_key line))
line_valid front line p =
    let word = number_word (value_behind conference_key line) in
    let small : leb (number_of word) 65535 ≡ true = and_right (is_number word) (leb (number_of word) 65535) p.number in
    record { number = grind (arith, nat_tests); name = p.name }

-- what the lines of conferences that break no rule say
pub lines_read : (front own : List (List ℕ)) → 7 ≤ length front → KeepRules front own → ConferencesRead own (conferences_of_lines own)
lines_read front [] many k = tt
lines_read front (line ∷ own) many k = (
  line_reads front line (conference_passes front line many k.0),
  lines_read (front ++ line ∷ []) own (omega (arith, length-append front (line ∷ []))) k.1,
)

pub lines_few : (front own : List (List ℕ)) → 7 ≤ length front → length front ≤ 71 → KeepRules front own → length front + length own ≤ 71
lines_few front [] many small k = omega arith
lines_few front (line ∷ own) many small k =
    let p : ConferencePasses front line = conference_passes front line many k.0 in
    let few : length front < 71 = p.few in
    let more : length (front ++ line ∷ []) + length own ≤ 71 = lines_few (front ++ line ∷ []) own (omega (arith, length-append front (line ∷ []))) (omega (arith, length-append front (line ∷ []))) k.1 in
    omega (arith, more, length-append front (line ∷ []))

pub lines_valid : (front own : List (List ℕ)) → 7 ≤ length front → KeepRules front own → All IsSetupConference (conferences_of_lines own)
lines_valid front [] many k = All-nil IsSetupConference
lines_valid front (line ∷ own) many k =
    All-cons IsSetupConference (conference_of_value (value_behind conference_key line)) (conferences_of_lines own) (line_valid front line (conference_passes front line many k.0))
    (lines_valid (front ++ line ∷ []) own (omega (arith, length-append front (line ∷ []))) k.1)

-- the numbers rise from the one before, where there is one
abbrev pub RiseFrom : Option ℕ → List ℕ → Type 0
RiseFrom None numbers = IsTrue (are_rising numbers)
RiseFrom (Some last) numbers = IsTrue (rise_above last numbers)

rise_push : (o : Option ℕ) (n : ℕ) (numbers : List ℕ) → is_out_of_order o n ≡ false → RiseFrom (Some n) numbers → RiseFrom o (n ∷ numbers)
rise_push None n numbers e h = h
rise_push (Some last) n numbers e h = both_true (ltb last n) (rise_above n numbers) (grind (arith, nat_tests)) h

rise_first : (o : Option ℕ) (n : ℕ) (numbers : List ℕ) → RiseFrom o (n ∷ numbers) → is_out_of_order o n ≡ false
rise_first None n numbers h = refl
rise_first (Some last) n numbers h = let t : ltb last n ≡ true = and_left (ltb last n) (rise_above n numbers) h in grind (arith, nat_tests)

rise_rest : (o : Option ℕ) (n : ℕ) (numbers : List ℕ) → RiseFrom o (n ∷ numbers) → RiseFrom (Some n) numbers
rise_rest None n numbers h = h
rise_rest (Some last) n numbers h = and_right (ltb last n) (rise_above n numbers) h

rise_nil : (o : Option ℕ) → RiseFrom o []
rise_nil None = refl
rise_nil (Some last) = refl

pub lines_rise : (front own : List (List ℕ)) → 7 ≤ length front → KeepRules front own → RiseFrom (number_before front) (numbers_of (conferences_of_lines own))
lines_rise front [] many k = rise_nil (number_before front)
lines_rise front (line ∷ own) many k =
    let p : ConferencePasses front line = conference_passes front line many k.0 in
    let rest : RiseFrom (number_before (front ++ line ∷ [])) (numbers_of (conferences_of_lines own)) = lines_rise (front ++ line ∷ []) own (omega (arith, length-append front (line ∷ []))) k.1 in
    rise_push (number_before front) (line_number line) (numbers_of (conferences_of_lines own)) p.order
    (subst (λ (o : Option ℕ). RiseFrom o (numbers_of (conferences_of_lines own))) (number_behind front line many) rest)

-- conferences that the lines say, and are valid, break no rule
read_passes : (front : List (List ℕ)) (line : List ℕ) (c : Conference) (numbers : List ℕ) → length front < 71 → ConferenceReads line c → IsSetupConference c → RiseFrom (number_before front) (c.number ∷ numbers) → ConferencePasses front line
read_passes front line c numbers few r valid rise =
    let value = value_behind conference_key line in
    let e : r.0 ≡ value = r.1.rest in
    let is : ConferenceIs value c = subst (λ (v : List ℕ). ConferenceIs v c) e r.2 in
    let small : c.number < 2 ^ 16 = valid.number in
    let same : c.number ≡ number_of (number_word value) = is.number.value in
    record {
      begins = r.1.begins;
      few = few;
      number = both_true (is_number (number_word value)) (leb (number_of (number_word value)) 65535) is.number.digits (grind (arith, nat_tests));
      kind = some_is (kind_of (kind_word value)) c.kind is.kind;
      rights = some_is (rights_of (rights_word value)) (c.readonly, c.private) is.rights;
      name = ap is_conference_name (sym is.name) ∙ valid.name;
      order = ap (is_out_of_order (number_before front)) (sym same) ∙ rise_first (number_before front) c.number numbers rise;
    }

pub read_keep : (front own : List (List ℕ)) (cs : List Conference) → 7 ≤ length front → length front + length own ≤ 71 → ConferencesRead own cs → All IsSetupConference cs → RiseFrom (number_before front) (numbers_of cs) → KeepRules front own
read_keep front [] [] many few r valid rise = tt
read_keep front [] (c ∷ cs) many few r valid rise = absurd r
read_keep front (line ∷ own) [] many few r valid rise = absurd r
read_keep front (line ∷ own) (c ∷ cs) many few r valid rise =
    let here : IsSetupConference c = All-head IsSetupConference c cs valid in
    let p : ConferencePasses front line = read_passes front line c (numbers_of cs) (omega arith) r.0 here rise in
    let number : c.number ≡ line_number line = (let is : c.number ≡ number_of (number_word r.0.0) = r.0.2.number.value in is ∙ ap (λ (v : List ℕ). number_of (number_word v)) r.0.1.rest) in
    let next : Some c.number ≡ number_before (front ++ line ∷ []) = ap Some number ∙ sym (number_behind front line many) in (
      passes_conference front line many p,
      read_keep (front ++ line ∷ []) own cs (omega (arith, length-append front (line ∷ []))) (omega (arith, length-append front (line ∷ []))) r.1 (All-tail IsSetupConference c cs valid)
          (subst (λ (o : Option ℕ). RiseFrom o (numbers_of cs)) next (rise_rest (number_before front) c.number (numbers_of cs) rise)),
    )

made : ℕ → Kind → Bool → Bool → List ℕ → Conference
made number kind readonly private name = record { number = number; kind = kind; readonly = readonly; private = private; name = name }

made_is : (c : Conference) → c ≡ made c.number c.kind c.readonly c.private c.name
unfolding made
made_is c = refl

same_conference : (a b : Conference) → a.number ≡ b.number → a.kind ≡ b.kind → a.readonly ≡ b.readonly → a.private ≡ b.private → a.name ≡ b.name → a ≡ b
same_conference a b number kind readonly private name =
    let p : a ≡ made a.number a.kind a.readonly a.private a.name = made_is a in
    let q : b ≡ made b.number b.kind b.readonly b.private b.name = made_is b in
    cc

-- lines say the conferences that are made of them, and no others
one_conference : (line : List ℕ) (c : Conference) → ConferenceReads line c → c ≡ conference_of_value (value_behind conference_key line)
one_conference line c r =
    let value = value_behind conference_key line in
    let is : ConferenceIs value c = subst (λ (v : List ℕ). ConferenceIs v c) r.1.rest r.2 in
    let kind : unwrap_or (kind_of (kind_word value)) Local ≡ c.kind = ap (λ (o : Option Kind). unwrap_or o Local) is.kind in
    let rights : unwrap_or (rights_of (rights_word value)) (false, false) ≡ (c.readonly, c.private) = ap (λ (o : Option (Bool × Bool)). unwrap_or o (false, false)) is.rights in
    same_conference c (conference_of_value value) is.number.value (sym kind) (sym (ap (λ (p : Bool × Bool). p.0) rights)) (sym (ap (λ (p : Bool × Bool). p.1) rights)) is.name

pub one_list : (own : List (List ℕ)) (cs : List Conference) → ConferencesRead own cs → cs ≡ conferences_of_lines own
one_list [] [] r = refl
one_list [] (c ∷ cs) r = absurd r
one_list (line ∷ own) [] r = absurd r
one_list (line ∷ own) (c ∷ cs) r =
    let first : c ≡ conference_of_value (value_behind conference_key line) = one_conference line c r.0 in
    let rest : cs ≡ conferences_of_lines own = one_list own cs r.1 in
    ap (λ (d : Conference). d ∷ cs) first ∙ ap (λ (l : List Conference). conference_of_value (value_behind conference_key line) ∷ l) rest
