-- What holds of each long value, and of a field before, holds of the field of a message as it is read.
use Rattle.std.proofs.Common.{◌≡◌, ℕ, true, List, [], ◌∷◌, length, take, subst, sym, ap, inl, inr}
use Rattle.std.specs.Prelude.{◌&&◌}
use Rattle.std.specs.Str.{bytes_eq, str_eq_ignore_ascii_case}
use Rattle.std.proofs.lemmas.Bool.{and_parts, cases_Bool, cond-true, cond-false}
use Rattle.qwk_blocks.specs.declared.message.Header.{Header}
use Rattle.qwk_blocks.specs.declared.message.QwkMessage.{QwkMessage}
use Rattle.long_names.specs.Value.{short_form, is_long, name_of, most_of, value_on, gives}
use Rattle.long_names.specs.Lead.{given, lead, takes}
use Rattle.long_names.specs.Plain.{with_names, with_lead, plain}
use Rattle.long_names.specs.declared.line_field.LineField.{LineField}
use Rattle.long_names.specs.declared.line_field.LineField.TheVariants.{To, From, Subject}

-- what a line gives is long
gives_long : (field : LineField) (short line : List ℕ) → gives field short line ≡ true → is_long (most_of field) (value_on field line) ≡ true
unfolding gives
gives_long field short line does =
    let behind = (and_parts (bytes_eq (take (length (name_of field)) line) (name_of field)) (is_long (most_of field) (value_on field line) && str_eq_ignore_ascii_case (short_form (value_on field line)) short) does).1 in
    (and_parts (is_long (most_of field) (value_on field line)) (str_eq_ignore_ascii_case (short_form (value_on field line)) short) behind).0

given_keeps : (P : List ℕ → Type 0) (field : LineField) (short : List ℕ) (lines : List (List ℕ)) → ((value : List ℕ) → is_long (most_of field) value ≡ true → P value) → P short → P (given field short lines).0
given_keeps P field short [] long own = own
given_keeps P field short (line ∷ lines) long own =
    elim (cases_Bool (gives field short line)) [
      | inl does ↦
          subst (λ (x : List ℕ × List (List ℕ)). P x.0) (sym (cond-true (gives field short line) (value_on field line, lines) (short, line ∷ lines) does))
          (long (value_on field line) (gives_long field short line does))
      | inr fails ↦ subst (λ (x : List ℕ × List (List ℕ)). P x.0) (sym (cond-false (gives field short line) (value_on field line, lines) (short, line ∷ lines) fails)) own
    ]

-- the header of a message as it is read: its own, but for its names and its subject
pub record ReadHeader (own : Header) (read : Header) : Type 0 where
  pub to : List ℕ
  pub from : List ℕ
  pub subject : List ℕ
  pub is : read ≡ with_names to from subject own

pub plain_header : (m : QwkMessage) → ReadHeader m.header (plain m).header
unfolding plain
plain_header m =
    elim (cases_Bool (takes m.header m.lines)) [
      | inl does ↦ record {
        to = (lead m.header m.lines).to;
        from = (lead m.header m.lines).from;
        subject = (lead m.header m.lines).subject;
        is = ap (λ (x : QwkMessage). x.header) (cond-true (takes m.header m.lines) _ _ does);
      }
      | inr fails ↦ record {
        to = m.header.to;
        from = m.header.from;
        subject = m.header.subject;
        is = ap (λ (x : QwkMessage). x.header) (cond-false (takes m.header m.lines) _ _ fails);
      }
    ]

-- whatever holds of each header that may be read
header_keeps : (P : Header → Type 0) (m : QwkMessage) → P m.header → P (with_lead (lead m.header m.lines) m.header) → P (plain m).header
unfolding plain
header_keeps P m own led =
    elim (cases_Bool (takes m.header m.lines)) [
      | inl does ↦ subst (λ (x : QwkMessage). P x.header) (sym (cond-true (takes m.header m.lines) _ _ does)) led
      | inr fails ↦ subst (λ (x : QwkMessage). P x.header) (sym (cond-false (takes m.header m.lines) _ _ fails)) own
    ]

pub to_keeps : (P : List ℕ → Type 0) (m : QwkMessage) → ((value : List ℕ) → is_long 36 value ≡ true → P value) → P m.header.to → P (plain m).header.to
to_keeps P m long own = header_keeps (λ (h : Header). P h.to) m own (given_keeps P To m.header.to m.lines long own)

pub from_keeps : (P : List ℕ → Type 0) (m : QwkMessage) → ((value : List ℕ) → is_long 36 value ≡ true → P value) → P m.header.from → P (plain m).header.from
from_keeps P m long own = header_keeps (λ (h : Header). P h.from) m own (given_keeps P From m.header.from (given To m.header.to m.lines).1 long own)

pub subject_keeps : (P : List ℕ → Type 0) (m : QwkMessage) → ((value : List ℕ) → is_long 72 value ≡ true → P value) → P m.header.subject → P (plain m).header.subject
subject_keeps P m long own =
    header_keeps (λ (h : Header). P h.subject) m own (given_keeps P Subject m.header.subject (given From m.header.from (given To m.header.to m.lines).1).1 long own)
