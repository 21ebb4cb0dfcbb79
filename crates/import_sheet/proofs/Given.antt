-- From the values that are held of header lines to the fields of their message.
use Rattle.std.proofs.Common.{◌≡◌, ◌⊎◌, ◌↔◌, ℕ, Bool, true, false, List, Option, Some, None, IsTrue, refl, sym, subst, inl, inr, codes}
use Rattle.std.specs.Borrow.{Bor}
use Rattle.std.specs.Option.{MatchOption, is_some}
use Rattle.import_sheet.specs.Header.{DateIs}
use Rattle.import_sheet.specs.Sheet.{Has, HasNone, Headers, HeaderGives, HeaderGivesOrEmpty, HeaderGivesDate, FieldsAre}
use Rattle.import_sheet.specs.Fault.{WholeHeaders}
use Rattle.import_sheet.specs.State.{HoldsValues, text_or_empty}
use Rattle.import_sheet.specs.declared.field.Field.{Field}
use Rattle.import_sheet.specs.declared.field.Field.TheVariants.{From, To, Subject, Date, Msgid, Reply, Private}
use Rattle.import_sheet.specs.declared.found.Found.{Found}
use Rattle.import_sheet.specs.declared.sheet.Sheet.{Sheet}
use Rattle.import_sheet.proofs.Heads.{has_not_none, given_has, gives_once, gives_fits}

-- what is held of one field
abbrev pub HoldsOf : List (List ℕ) → Field → Option (Bor (List ℕ)) → Type 0
HoldsOf hs field o = MatchOption o (HasNone hs field) (λ value. HeaderGives hs field value.now)

pub held_has : (hs : List (List ℕ)) (field : Field) (o : Option (Bor (List ℕ))) → HoldsOf hs field o → is_some o ≡ true → Has hs field
held_has hs field None h e = cc
held_has hs field (Some v) h e = given_has hs field v.now h

pub held_none : (hs : List (List ℕ)) (field : Field) (o : Option (Bor (List ℕ))) → HoldsOf hs field o → is_some o ≡ false → HasNone hs field
held_none hs field None h e = h
held_none hs field (Some v) h e = cc

pub has_held : (hs : List (List ℕ)) (field : Field) (o : Option (Bor (List ℕ))) → HoldsOf hs field o → Has hs field → is_some o ≡ true
has_held hs field None h has = absurd (has_not_none hs field has h)
has_held hs field (Some v) h has = refl

pub date_given : (hs : List (List ℕ)) (value : List ℕ) (r : Option ℕ) → Headers hs → HeaderGives hs Date value → MatchOption r ((n : ℕ) → DateIs value n → ⊥) (DateIs value) → HeaderGivesDate hs r
date_given hs value None h g none =
    let fits : (n : ℕ) × DateIs value n = gives_fits hs Date value h g in
    absurd (none fits.0 fits.1)
date_given hs value (Some n) h g is = (value, g, is)

-- a value says `yes` exactly where that is the value which is given
pub yes_given : (hs : List (List ℕ)) (value : List ℕ) (r : Bool) → Headers hs → HeaderGives hs Private value → (r ≡ true → value ≡ codes "yes") → (value ≡ codes "yes" → r ≡ true) → IsTrue r ↔ HeaderGives hs Private (codes "yes")
yes_given hs value r h g to from = (λ t. subst (HeaderGives hs Private) (to t) g, λ said. from (gives_once hs Private value (codes "yes") h g said))

pub no_yes : (hs : List (List ℕ)) → HasNone hs Private → HeaderGives hs Private (codes "yes") → ⊥
no_yes hs none g = has_not_none hs Private (given_has hs Private (codes "yes") g) none

text_given : (hs : List (List ℕ)) (field : Field) (o : Option (Bor (List ℕ))) (text : List ℕ) → HoldsOf hs field o → text ≡ text_or_empty o → HeaderGivesOrEmpty hs field text
text_given hs field None text h e = inr (h, e)
text_given hs field (Some v) text h e = inl (subst (HeaderGives hs field) (sym e) h)

text_there : (hs : List (List ℕ)) (field : Field) (o : Option (Bor (List ℕ))) (text : List ℕ) → HoldsOf hs field o → Has hs field → text ≡ text_or_empty o → HeaderGives hs field text
text_there hs field None text h has e = absurd (has_not_none hs field has h)
text_there hs field (Some v) text h has e = subst (HeaderGives hs field) (sym e) h

pub record TextsAre (found : Found) (sheet : Sheet) : Type 0 where
  pub from : sheet.from ≡ text_or_empty found.from
  pub to : sheet.to ≡ text_or_empty found.to
  pub subject : sheet.subject ≡ text_or_empty found.subject
  pub msgid : sheet.msgid ≡ text_or_empty found.msgid
  pub reply : sheet.reply ≡ text_or_empty found.reply

pub fields_are : (hs : List (List ℕ)) (found : Found) (sheet : Sheet) → WholeHeaders hs → HoldsValues hs found → TextsAre found sheet → HeaderGivesDate hs sheet.date → (IsTrue sheet.private ↔ HeaderGives hs Private (codes "yes")) → FieldsAre hs sheet
fields_are hs found sheet whole holds texts date said = record {
  from = text_there hs From found.from sheet.from (holds From) whole.from texts.from;
  to = text_there hs To found.to sheet.to (holds To) whole.to texts.to;
  subject = text_given hs Subject found.subject sheet.subject (holds Subject) texts.subject;
  date = date;
  msgid = text_given hs Msgid found.msgid sheet.msgid (holds Msgid) texts.msgid;
  reply = text_given hs Reply found.reply sheet.reply (holds Reply) texts.reply;
  private = said;
}

has_or_none : (hs : List (List ℕ)) (field : Field) (o : Option (Bor (List ℕ))) → HoldsOf hs field o → Has hs field ⊎ HasNone hs field
has_or_none hs field None h = inr h
has_or_none hs field (Some v) h = inl (given_has hs field v.now h)

-- where not both From and To were there, one wasn't
pub one_missing : (hs : List (List ℕ)) (found : Found) → HoldsValues hs found → (Has hs From × Has hs To → ⊥) → HasNone hs From ⊎ HasNone hs To
one_missing hs found holds not_both = elim (has_or_none hs From found.from (holds From)) [
  | inl from ↦ elim (has_or_none hs To found.to (holds To)) [
    | inl to ↦ absurd (not_both (from, to))
    | inr none ↦ inr none
  ]
  | inr none ↦ inl none
]
