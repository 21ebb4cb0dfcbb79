-- Lines begin with one message at most, and have one fault in it at most.
use Rattle.std.proofs.Common.{◌≡◌, ◌≢◌, ◌↔◌, ℕ, Bool, true, false, List, [], ◌∷◌, ◌++◌, Option, Some, None, IsTrue, length, refl, sym, ap, ◌∙◌, subst, inl, inr, arith, codes, append_assoc}
use Rattle.text_fields.proofs.Numbers.{digits_unique}
use Rattle.import_sheet.specs.Header.{HeaderLineReads, DateIs}
use Rattle.import_sheet.specs.Sheet.{Has, Headers, HeaderGives, HeaderGivesOrEmpty, HeaderGivesDate, FieldsAre, BodyLines, SheetIs, stored_body, dot}
use Rattle.import_sheet.specs.Fault.{WholeHeaders, LineBreaks, no_word, word_again, bad_value, too_soon, HeaderBreaks, by_line, no_line, BodyBreaks, MessageFault, in_headers, in_body}
use Rattle.import_sheet.specs.State.{StartsWithText}
use Rattle.import_sheet.specs.declared.fault.SheetRule.{SheetRule}
use Rattle.import_sheet.specs.declared.field.Field.{Field}
use Rattle.import_sheet.specs.declared.field.Field.TheVariants.{From, To, Subject, Date, Msgid, Reply, Private}
use Rattle.import_sheet.specs.declared.sheet.Sheet.{Sheet}
use Rattle.import_sheet.proofs.Lines.{Stops, stops_once}
use Rattle.import_sheet.proofs.Words.{begins}
use Rattle.import_sheet.proofs.Heads.{headers_front, has_not_none, given_has, no_empty_header, breaks_headers, begins_some, breaks_once, gives_once}
use Rattle.import_sheet.proofs.Bodies.{body_front, dot_ends, breaks_body, dot_is_right, body_breaks_once}

-- the headers of a message give one value to each of its fields
text_once : (hs : List (List ℕ)) (field : Field) (a b : List ℕ) → Headers hs → HeaderGivesOrEmpty hs field a → HeaderGivesOrEmpty hs field b → a ≡ b
text_once hs field a b h x y = elim x [
  | inl g ↦ elim y [ inl k ↦ gives_once hs field a b h g k | inr n ↦ absurd (has_not_none hs field (given_has hs field a g) n.0) ]
  | inr m ↦ elim y [ inl k ↦ absurd (has_not_none hs field (given_has hs field b k) m.0) | inr n ↦ m.1 ∙ sym n.1 ]
]

date_once : (hs : List (List ℕ)) (a b : Option ℕ) → Headers hs → HeaderGivesDate hs a → HeaderGivesDate hs b → a ≡ b
date_once hs None None h x y = refl
date_once hs None (Some n) h x y = absurd (has_not_none hs Date (given_has hs Date y.0 y.1) x)
date_once hs (Some m) None h x y = absurd (has_not_none hs Date (given_has hs Date x.0 x.1) y)
date_once hs (Some m) (Some n) h x y =
    let same : x.0 ≡ y.0 = gives_once hs Date x.0 y.0 h x.1 y.1 in
    let d : DateIs y.0 m = subst (λ (v : List ℕ). DateIs v m) same x.2 in
    ap Some (digits_unique y.0 m n d.digits y.2.digits)

truth_once : (P : Type 0) (a b : Bool) → IsTrue a ↔ P → IsTrue b ↔ P → a ≡ b
truth_once P true true x y = refl
truth_once P false false x y = refl
truth_once P true false x y = let t : IsTrue false = y.1 (x.0 refl) in cc
truth_once P false true x y = let t : IsTrue false = x.1 (y.0 refl) in cc

made : List ℕ → List ℕ → List ℕ → Option ℕ → List ℕ → List ℕ → Bool → List ℕ → Sheet
made from to subject date msgid reply private body = record {
  from = from;
  to = to;
  subject = subject;
  date = date;
  msgid = msgid;
  reply = reply;
  private = private;
  body = body;
}

made_is : (s : Sheet) → s ≡ made s.from s.to s.subject s.date s.msgid s.reply s.private s.body
unfolding made
made_is s = refl

fields_once : (hs : List (List ℕ)) (a b : Sheet) → Headers hs → FieldsAre hs a → FieldsAre hs b → a.body ≡ b.body → a ≡ b
fields_once hs a b h x y body =
    let from : a.from ≡ b.from = gives_once hs From a.from b.from h x.from y.from in
    let to : a.to ≡ b.to = gives_once hs To a.to b.to h x.to y.to in
    let subject : a.subject ≡ b.subject = text_once hs Subject a.subject b.subject h x.subject y.subject in
    let date : a.date ≡ b.date = date_once hs a.date b.date h x.date y.date in
    let msgid : a.msgid ≡ b.msgid = text_once hs Msgid a.msgid b.msgid h x.msgid y.msgid in
    let reply : a.reply ≡ b.reply = text_once hs Reply a.reply b.reply h x.reply y.reply in
    let private : a.private ≡ b.private = truth_once (HeaderGives hs Private (codes "yes")) a.private b.private x.private y.private in
    let p : a ≡ made a.from a.to a.subject a.date a.msgid a.reply a.private a.body = made_is a in
    let q : b ≡ made b.from b.to b.subject b.date b.msgid b.reply b.private b.body = made_is b in
    cc

-- the lines are whole headers, an empty line, body lines, and what isn't one
record InBody (all hs body rest : List (List ℕ)) : Type 0 where
  whole : all ≡ hs ++ [] ∷ (body ++ rest)
  headed : WholeHeaders hs
  stops : Stops BodyLines (body ++ rest) body rest

same_line : (rest more more' : List (List ℕ)) (line line' : List ℕ) → rest ≡ line ∷ more → rest ≡ line' ∷ more' → line ≡ line'
same_line rest more more' line line' e f = let both : line ∷ more ≡ line' ∷ more' = sym e ∙ f in cc

headers_stop : (all hs rest : List (List ℕ)) → all ≡ hs ++ [] ∷ rest → Headers hs → Stops Headers all hs ([] ∷ rest)
headers_stop all hs rest e h = record {
  whole = e;
  good = h;
  ends = λ line more is k.
      let first : line ≡ [] = same_line ([] ∷ rest) more rest line [] is refl in
      no_empty_header hs (subst (λ (l : List ℕ). Headers (hs ++ l ∷ [])) first k);
}

broken_stop : (all hs rest : List (List ℕ)) (rule : SheetRule) → all ≡ hs ++ rest → Headers hs → HeaderBreaks hs rest rule → Stops Headers all hs rest
broken_stop all hs rest rule e h (by_line line next breaks) = record {
  whole = e;
  good = h;
  ends = λ line' more is k.
      let first : line' ≡ line = same_line rest more next.0 line' line is next.1 in
      breaks_headers hs line rule breaks (subst (λ (l : List ℕ). Headers (hs ++ l ∷ [])) first k);
}
broken_stop all hs rest rule e h (no_line r some none) = record {
  whole = e;
  good = h;
  ends = λ line' more is k. absurd (omega (arith, ap length is, ap length none));
}

in_body_once : (all hs hs' body body' rest rest' : List (List ℕ)) → InBody all hs body rest → InBody all hs' body' rest' → (hs ≡ hs') × (body ≡ body') × (rest ≡ rest')
in_body_once all hs hs' body body' rest rest' x y =
    let u : (hs ≡ hs') × ([] ∷ (body ++ rest) ≡ [] ∷ (body' ++ rest')) = stops_once Headers all hs hs' ([] ∷ (body ++ rest)) ([] ∷ (body' ++ rest')) headers_front (headers_stop all hs (body ++ rest) x.whole x.headed.headed) (headers_stop all hs' (body' ++ rest') y.whole y.headed.headed) in
    let behind : [] ∷ (body ++ rest) ≡ [] ∷ (body' ++ rest') = u.1 in
    let text : body' ++ rest' ≡ body ++ rest = cc in
    let v : (body ≡ body') × (rest ≡ rest') = stops_once BodyLines (body ++ rest) body body' rest rest' body_front x.stops (subst (λ (t : List (List ℕ)). Stops BodyLines t body' rest') text y.stops) in
    (u.0, v.0, v.1)

no_rule : (hs : List (List ℕ)) (line : List ℕ) (rule : SheetRule) → WholeHeaders hs → line ≡ [] → LineBreaks hs line rule → ⊥
no_rule hs line rule w e (no_word r some none) = some e
no_rule hs line rule w e (word_again field r b has) = begins_some field line b e
no_rule hs line rule w e (bad_value field value r new reads bad) = begins_some field line (begins field line value reads) e
no_rule hs line rule w e (too_soon r some empty missing) = elim missing [
  | inl none ↦ has_not_none hs From w.from none
  | inr none ↦ has_not_none hs To w.to none
]

-- whole headers and the empty line break no rule
empty_is_right : (hs rest : List (List ℕ)) (rule : SheetRule) → WholeHeaders hs → HeaderBreaks hs ([] ∷ rest) rule → ⊥
empty_is_right hs rest rule w (no_line r some none) = omega (arith, ap length none)
empty_is_right hs rest rule w (by_line line next breaks) = no_rule hs line rule w (sym (same_line ([] ∷ rest) rest next.0 [] line refl next.1)) breaks

no_header_fault : (all hs hs' body rest rest' : List (List ℕ)) (rule : SheetRule) → InBody all hs body rest → all ≡ hs' ++ rest' → Headers hs' → HeaderBreaks hs' rest' rule → ⊥
no_header_fault all hs hs' body rest rest' rule x e h b =
    let u : (hs ≡ hs') × ([] ∷ (body ++ rest) ≡ rest') = stops_once Headers all hs hs' ([] ∷ (body ++ rest)) rest' headers_front (headers_stop all hs (body ++ rest) x.whole x.headed.headed) (broken_stop all hs' rest' rule e h b) in
    empty_is_right hs (body ++ rest) rule x.headed (subst (λ (r : List (List ℕ)). HeaderBreaks hs r rule) (sym u.1) (subst (λ (l : List (List ℕ)). HeaderBreaks l rest' rule) (sym u.0) b))

header_breaks_once : (hs rest : List (List ℕ)) (q r : SheetRule) → HeaderBreaks hs rest q → HeaderBreaks hs rest r → q ≡ r
header_breaks_once hs rest q r (by_line line next b) (by_line line' next' b') =
    let same : line ≡ line' = same_line rest next.0 next'.0 line line' next.1 next'.1 in
    breaks_once hs line' q r (subst (λ (l : List ℕ). LineBreaks hs l q) same b) b'
header_breaks_once hs rest q r (by_line line next b) (no_line e some none) = absurd (omega (arith, ap length next.1, ap length none))
header_breaks_once hs rest q r (no_line e some none) (by_line line next b) = absurd (omega (arith, ap length next.1, ap length none))
header_breaks_once hs rest q r (no_line e some none) (no_line e' some' none') = e ∙ sym e'

body_in : (all hs body rest : List (List ℕ)) (rule : SheetRule) → all ≡ hs ++ [] ∷ (body ++ rest) → WholeHeaders hs → BodyLines body → BodyBreaks body rest rule → InBody all hs body rest
body_in all hs body rest rule e w h b = record {
  whole = e;
  headed = w;
  stops = record { whole = refl; good = h; ends = λ line more is k. breaks_body body rest more line rule b is k };
}

-- lines that begin with a message
sheet_in : (all own more : List (List ℕ)) (s : Sheet) → all ≡ own ++ more → (x : SheetIs own s) → InBody all x.headers x.body (dot ∷ more)
sheet_in all own more s e x = record {
  whole = e ∙ (ap (λ (l : List (List ℕ)). l ++ more) x.whole ∙ (append_assoc x.headers ([] ∷ (x.body ++ dot ∷ [])) more ∙ ap (λ (l : List (List ℕ)). x.headers ++ [] ∷ l) (append_assoc x.body (dot ∷ []) more)));
  headed = record { headed = x.headed; from = given_has x.headers From s.from x.fields.from; to = given_has x.headers To s.to x.fields.to };
  stops = record {
    whole = refl;
    good = x.bodied;
    ends = λ line rest is k.
        let first : line ≡ dot = same_line (dot ∷ more) rest more line dot is refl in
        dot_ends x.body (subst (λ (l : List ℕ). BodyLines (x.body ++ l ∷ [])) first k);
  };
}

-- the fault of a message is one
pub message_fault_once : (all : List (List ℕ)) (m n : ℕ) (q r : SheetRule) → MessageFault all m q → MessageFault all n r → (m ≡ n) × (q ≡ r)
message_fault_once all m n q r (in_headers hs rest e h b at) (in_headers hs' rest' e' h' b' at') =
    let u : (hs ≡ hs') × (rest ≡ rest') = stops_once Headers all hs hs' rest rest' headers_front (broken_stop all hs rest q e h b) (broken_stop all hs' rest' r e' h' b') in (
      at ∙ (ap length u.0 ∙ sym at'),
      header_breaks_once hs' rest' q r (subst (λ (l : List (List ℕ)). HeaderBreaks hs' l q) u.1 (subst (λ (l : List (List ℕ)). HeaderBreaks l rest q) u.0 b)) b',
    )
message_fault_once all m n q r (in_headers hs rest e h b at) (in_body hs' body rest' e' w h' b' at') = absurd (no_header_fault all hs' hs body rest' rest q (body_in all hs' body rest' r e' w h' b') e h b)
message_fault_once all m n q r (in_body hs body rest e w h b at) (in_headers hs' rest' e' h' b' at') = absurd (no_header_fault all hs hs' body rest rest' r (body_in all hs body rest q e w h b) e' h' b')
message_fault_once all m n q r (in_body hs body rest e w h b at) (in_body hs' body' rest' e' w' h' b' at') =
    let u : (hs ≡ hs') × (body ≡ body') × (rest ≡ rest') = in_body_once all hs hs' body body' rest rest' (body_in all hs body rest q e w h b) (body_in all hs' body' rest' r e' w' h' b') in (
      omega (arith, at, at', ap length u.0, ap length u.1),
      body_breaks_once body' rest' q r (subst (λ (l : List (List ℕ)). BodyBreaks body' l q) u.2 (subst (λ (l : List (List ℕ)). BodyBreaks l rest q) u.1 b)) b',
    )

-- a whole message has no fault
pub sheet_no_fault : (all own more : List (List ℕ)) (s : Sheet) (n : ℕ) (rule : SheetRule) → all ≡ own ++ more → SheetIs own s → MessageFault all n rule → ⊥
sheet_no_fault all own more s n rule e x (in_headers hs rest e' h b at) = no_header_fault all x.headers hs x.body (dot ∷ more) rest rule (sheet_in all own more s e x) e' h b
sheet_no_fault all own more s n rule e x (in_body hs body rest e' w h b at) =
    let u : (x.headers ≡ hs) × (x.body ≡ body) × (dot ∷ more ≡ rest) = in_body_once all x.headers hs x.body body (dot ∷ more) rest (sheet_in all own more s e x) (body_in all hs body rest rule e' w h b) in
    dot_is_right body rest more rule b (sym u.2)

-- and lines begin with one message at most
pub sheet_once : (all own own' more more' : List (List ℕ)) (s t : Sheet) → all ≡ own ++ more → all ≡ own' ++ more' → SheetIs own s → SheetIs own' t → (s ≡ t) × (more ≡ more')
sheet_once all own own' more more' s t e f x y =
    let u : (x.headers ≡ y.headers) × (x.body ≡ y.body) × (dot ∷ more ≡ dot ∷ more') = in_body_once all x.headers y.headers x.body y.body (dot ∷ more) (dot ∷ more') (sheet_in all own more s e x) (sheet_in all own' more' t f y) in
    let ends : dot ∷ more ≡ dot ∷ more' = u.2 in
    let left : more ≡ more' = cc in
    let body : s.body ≡ t.body = x.text ∙ (ap stored_body u.1 ∙ sym y.text) in
    (fields_once y.headers s t y.headed (subst (λ (hs : List (List ℕ)). FieldsAre hs s) u.0 x.fields) y.fields body, left)

-- a message begins with a line that isn't empty
header_first : (line value : List ℕ) (field : Field) (rest more : List (List ℕ)) → HeaderLineReads line field value → rest ≡ line ∷ more → StartsWithText rest
header_first line value field rest more reads e = (line, more, e, begins_some field line (begins field line value reads))

whole_starts : (hs rest all : List (List ℕ)) → Has hs From → Headers hs → all ≡ hs ++ [] ∷ rest → StartsWithText all
whole_starts [] rest all has h e = absurd (omega (arith, has.1.1))
whole_starts (line ∷ hs) rest all has h e = header_first line h.1 h.0 all (hs ++ [] ∷ rest) h.2 e

line_some : (line : List ℕ) (rule : SheetRule) → LineBreaks [] line rule → line ≢ []
line_some line rule (no_word r some none) = some
line_some line rule (word_again field r b has) = begins_some field line b
line_some line rule (bad_value field value r new reads bad) = begins_some field line (begins field line value reads)
line_some line rule (too_soon r some empty missing) = absurd (some refl)

first_breaks : (all rest : List (List ℕ)) (rule : SheetRule) → all ≡ rest → HeaderBreaks [] rest rule → StartsWithText all
first_breaks all rest rule e (by_line line next b) = (line, next.0, e ∙ next.1, line_some line rule b)
first_breaks all rest rule e (no_line r some none) = absurd (some refl)

pub sheet_starts : (own : List (List ℕ)) (s : Sheet) → SheetIs own s → StartsWithText own
sheet_starts own s x = whole_starts x.headers (x.body ++ dot ∷ []) own (given_has x.headers From s.from x.fields.from) x.headed x.whole

pub fault_starts : (all : List (List ℕ)) (n : ℕ) (rule : SheetRule) → MessageFault all n rule → StartsWithText all
fault_starts all n rule (in_body hs body rest e w h b at) = whole_starts hs (body ++ rest) all w.from w.headed e
fault_starts all n rule (in_headers [] rest e h b at) = first_breaks all rest rule e b
fault_starts all n rule (in_headers (line ∷ hs) rest e h b at) = header_first line h.1 h.0 all (hs ++ rest) h.2 e
