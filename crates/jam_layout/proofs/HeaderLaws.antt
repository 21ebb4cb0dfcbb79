-- .JHR, first pass: the headers that are read are those of the layout, and the layout is read.
use Rattle.std.proofs.Common.{◌≡◌, ℕ, ◌+◌, ◌≤◌, ◌<◌, true, false, not, ◌||◌, eqb, ltb, leb, List, [], ◌++◌, length, take, unwrap_or, ap, subst, arith}
use Rattle.std.proofs.lemmas.Bool.{ltb-false, le-ltb}
use Rattle.std.proofs.lemmas.Bool.Decides.{nat_tests}
use Rattle.std.proofs.lemmas.Slice.Eq.{bytes_eq-Decides}
use Rattle.name_crc.specs.JamCrc.{jam_crc}
use Rattle.jam_records.specs.record_numbers.Numbers.{u16_at}
use Rattle.jam_records.specs.Signature.{signature}
use Rattle.jam_records.specs.MessageHeaders.{message_header_at}
use Rattle.jam_records.specs.declared.message.Kind.{Kind}
use Rattle.jam_records.specs.declared.message_header.MessageHeader.{MessageHeader}
use Rattle.jam_layout.specs.Fields.{right_values}
use Rattle.jam_layout.specs.Limits.{slot_limit}
use Rattle.jam_layout.specs.Marks.{wrong_attribute}
use Rattle.jam_layout.specs.Headers.{wrong_fields, wrong_number, wrong_text, wrong_crc, values_of, front_rules, field_rules, length_rules, value_rules, header_rules}
use Rattle.jam_layout.specs.declared.entry.Front.{Front}
use Rattle.jam_layout.specs.declared.fields.Values.{Values}
use Rattle.damage_rules.proofs.KeptRules.{Kept, kept_both, both_kept}
use Rattle.damage_rules.proofs.BoolTests.{or_false, not_not, both_false, equal, unequal}

-- ---- the rules of a header as facts
pub record HeaderKept (kind : Kind) (f : Front) (h : MessageHeader) (v : Values) (bytes : List ℕ) : Type 0 where
  pub long : 76 ≤ length bytes
  pub signed : take 4 bytes ≡ signature
  pub revision : u16_at 4 bytes ≡ 1
  pub reserved : u16_at 6 bytes ≡ 0
  pub times_read : h.times_read ≡ 0
  pub attribute2 : h.attribute2 ≡ 0
  pub password : h.password_crc ≡ 0xFFFF_FFFF
  pub cost : h.cost ≡ 0
  pub rising : f.last < h.number
  pub few : h.number ≤ slot_limit
  pub attribute : wrong_attribute kind h.attribute ≡ false
  pub offset : h.offset ≡ f.offset
  pub text : h.text_len ≤ 16384
  pub subfields : 76 + h.subfield_len ≤ length bytes
  pub left : v.left ≡ 0
  pub values : right_values v ≡ true
  pub msgid : h.msgid_crc ≡ jam_crc (unwrap_or v.msgid [])
  pub reply : h.reply_crc ≡ jam_crc (unwrap_or v.replyid [])

pub keep : (kind : Kind) (f : Front) (bytes : List ℕ) → Kept (header_rules kind f bytes) → HeaderKept kind f (message_header_at bytes) (values_of (message_header_at bytes) bytes) bytes
unfolding front_rules field_rules length_rules value_rules wrong_fields wrong_number wrong_text wrong_crc
keep kind f bytes kept =
    let h : MessageHeader = message_header_at bytes in
    let v : Values = values_of h bytes in
    let a = both_kept (front_rules bytes) (field_rules kind f h ++ (length_rules h bytes ++ value_rules h v)) kept in
    let b = both_kept (field_rules kind f h) (length_rules h bytes ++ value_rules h v) a.1 in
    let d = both_kept (length_rules h bytes) (value_rules h v) b.1 in
    let revision = or_false _ _ a.0.1.1.0 in
    let fields = or_false _ _ b.0.0 in
    let low = or_false _ _ fields.0 in
    let high = or_false _ _ fields.1 in
    let number = b.0.1.0 in
    let text = or_false _ _ b.0.1.1.1.0 in
    let crc = or_false _ _ d.1.1.1.0 in
    record {
      long = ltb-false _ _ a.0.0;
      signed = (bytes_eq-Decides (take 4 bytes) signature).0 (not_not _ a.0.1.0);
      revision = equal _ _ revision.0;
      reserved = equal _ _ revision.1;
      times_read = equal _ _ low.0;
      attribute2 = equal _ _ low.1;
      password = equal _ _ high.0;
      cost = equal _ _ high.1;
      rising = grind (arith, nat_tests, number);
      few = grind (arith, nat_tests, number);
      attribute = b.0.1.1.0;
      offset = equal _ _ text.0;
      text = ltb-false _ _ text.1;
      subfields = ltb-false _ _ d.0.0;
      left = equal _ _ d.1.0;
      values = not_not _ d.1.1.0;
      msgid = equal _ _ crc.0;
      reply = equal _ _ crc.1;
    }

right_number : (n last : ℕ) → last < n → n ≤ slot_limit → ((eqb n 0 || ltb slot_limit n) || leb n last) ≡ false
right_number n last rising few = grind (arith, nat_tests)

pub keeps : (kind : Kind) (f : Front) (bytes : List ℕ) (h : MessageHeader) (v : Values) → h ≡ message_header_at bytes → v ≡ values_of h bytes → HeaderKept kind f h v bytes → Kept (header_rules kind f bytes)
unfolding front_rules field_rules length_rules value_rules wrong_fields wrong_number wrong_text wrong_crc
keeps kind f bytes h v is has k =
    let front : Kept (front_rules bytes) = (le-ltb _ _ k.long, (ap not ((bytes_eq-Decides (take 4 bytes) signature).1 k.signed), (both_false _ _ (unequal _ _ k.revision) (unequal _ _ k.reserved), tt))) in
    let fields : Kept (field_rules kind f h) = (both_false _ _ (both_false _ _ (unequal _ _ k.times_read) (unequal _ _ k.attribute2)) (both_false _ _ (unequal _ _ k.password) (unequal _ _ k.cost)), (right_number h.number f.last k.rising k.few, (k.attribute, (both_false _ _ (unequal _ _ k.offset) (le-ltb _ _ k.text), tt)))) in
    let size : Kept (length_rules h bytes) = (le-ltb _ _ k.subfields, tt) in
    let values : Kept (value_rules h v) = (unequal _ _ k.left, (ap not k.values, (both_false _ _ (unequal _ _ k.msgid) (unequal _ _ k.reply), tt))) in
    let all : Kept (front_rules bytes ++ (field_rules kind f h ++ (length_rules h bytes ++ value_rules h v))) =
    kept_both (front_rules bytes) (field_rules kind f h ++ (length_rules h bytes ++ value_rules h v)) front (kept_both (field_rules kind f h) (length_rules h bytes ++ value_rules h v) fields (kept_both (length_rules h bytes) (value_rules h v) size values)) in
    let with_values : Kept (front_rules bytes ++ (field_rules kind f h ++ (length_rules h bytes ++ value_rules h (values_of h bytes)))) = subst (λ (x : Values). Kept (front_rules bytes ++ (field_rules kind f h ++ (length_rules h bytes ++ value_rules h x)))) has all in
    subst (λ (x : MessageHeader). Kept (front_rules bytes ++ (field_rules kind f x ++ (length_rules x bytes ++ value_rules x (values_of x bytes))))) is with_values
