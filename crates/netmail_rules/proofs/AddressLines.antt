-- An address line names one name and one address.
use Rattle.std.proofs.Common.{◌≡◌, ◌≢◌, ◌↔◌, ℕ, ◌+◌, ◌-◌, ◌<◌, ◌≤◌, Bool, true, false, cond, ◌&&◌, eqb, Option, Some, None, List, [], ◌∷◌, ◌++◌, length, drop, refl, sym, ap, ◌∙◌, subst, arith, length-append, append_assoc}
use Rattle.std.proofs.lemmas.Bool.{le-leb, lt-leb}
use Rattle.std.proofs.lemmas.List.{append-nil}
use Rattle.std.proofs.lemmas.List.Elements.{All-append, All-cons, All-nil}
use Rattle.std.proofs.lemmas.Str.Parse.{digit_from_value}
use Rattle.std.specs.List.{All, before_last}
use Rattle.std.specs.Option.{option_map}
use Rattle.std.specs.Str.Parse.{AllDigits}
use Rattle.text_fields.specs.Blank.{IsBlank}
use Rattle.text_fields.specs.Number.{Digits}
use Rattle.text_fields.specs.Split.{Lacks, SplitsAt}
use Rattle.text_fields.specs.Trim.{TrimmedEnd}
use Rattle.text_fields.specs.declared.blank.Blank.TheVariants.{Spaces}
use Rattle.setup_file.specs.Words.{is_number, number_of, past_spaces, before_spaces}
use Rattle.setup_file.proofs.Spaces.{before_is, trimmed_is}
use Rattle.setup_file.proofs.Numbers.{number_is, number_value, no_number, too_long}
use Rattle.jam_layout.specs.Address.{before, past, is_part}
use Rattle.jam_layout.specs.Fields.{is_text}
use Rattle.netmail_rules.specs.AddressLine.{SplitsAtLast, PartReads, PointReads, NodeReads, AddressReads, IsAddressLine, part_of, point_of, both, node_of, address_from, address_of, name_part, address_part, name_end, naming, net_line}
use Rattle.netmail_rules.specs.declared.address.Address.{Address}
use Rattle.netmail_rules.specs.declared.net_line.NetLine.{NetLine}
use Rattle.netmail_rules.proofs.Marks.{before_at, past_at, from_at, before_whole, past_whole, from_whole, before_last_at, after_last_at, before_last_none, FrontSpaces, front_spaces, past_is, lacks_ends}

-- ---- numbers
some_if : (a b : Bool) (k n : ℕ) → a ≡ true → b ≡ true → n ≡ k → cond (a && b) (Some k) None ≡ Some n
some_if true true k n p q e = ap Some (sym e)
some_if true false k n p q e = cc
some_if false b k n p q e = cc

none_unless : (a b : Bool) (k : ℕ) → a ≡ false → cond (a && b) (Some k) None ≡ None
none_unless true b k p = cc
none_unless false b k p = refl

none_above : (a b : Bool) (k : ℕ) → b ≡ false → cond (a && b) (Some k) None ≡ None
none_above true true k p = cc
none_above true false k p = refl
none_above false b k p = refl

pub part_is : (digits : List ℕ) (n : ℕ) → PartReads digits n → part_of digits ≡ Some n
unfolding part_of
part_is digits n r =
    let value : n ≡ number_of digits = number_value digits n r.digits in
    some_if (is_number digits) (is_part (number_of digits)) (number_of digits) n (number_is digits n r.digits r.short) (le-leb (number_of digits) 32767 (omega (arith, value, r.small))) value

pub part_long : (digits : List ℕ) → 5 < length digits → part_of digits ≡ None
unfolding part_of
part_long digits long = none_unless (is_number digits) (is_part (number_of digits)) (number_of digits) (too_long digits long)

pub part_none : (digits : List ℕ) → ((n : ℕ) → Digits digits n → ⊥) → part_of digits ≡ None
unfolding part_of
part_none digits none = none_unless (is_number digits) (is_part (number_of digits)) (number_of digits) (no_number digits none)

pub part_above : (digits : List ℕ) (n : ℕ) → Digits digits n → 32767 < n → part_of digits ≡ None
unfolding part_of
part_above digits n x above =
    let value : n ≡ number_of digits = number_value digits n x in
    none_above (is_number digits) (is_part (number_of digits)) (number_of digits) (lt-leb (number_of digits) 32767 (omega arith))

-- ---- addresses
abbrev NoDigit : ℕ → Type 0
NoDigit byte = (c : ℕ) → 48 ≤ c → c ≤ 57 → c ≢ byte

digits_lack : (byte : ℕ) → NoDigit byte → (ds : List ℕ) → AllDigits 10 ds → Lacks byte ds
digits_lack byte unlike [] all = All-nil (λ b. b ≢ byte)
digits_lack byte unlike (d ∷ ds) all =
    let range = digit_from_value d all.0 in
    All-cons (λ b. b ≢ byte) d ds (unlike d range.0 range.1) (digits_lack byte unlike ds all.1)

part_lacks : (byte : ℕ) → NoDigit byte → (digits : List ℕ) (n : ℕ) → PartReads digits n → Lacks byte digits
part_lacks byte unlike digits n r = digits_lack byte unlike digits r.digits.numeral.1

node_split : (text : List ℕ) (found : ℕ × ℕ) (digits behind : List ℕ) → text ≡ digits ++ behind → PartReads digits found.0 → PointReads behind found.1 → node_of text ≡ Some found
unfolding node_of
node_split text found digits [] whole node point =
    let same : text ≡ digits = whole ∙ append-nil digits in
    let unlike : Lacks 46 digits = part_lacks 46 (λ c low high is. omega arith) digits found.0 node in
    let first : part_of (before 46 text) ≡ Some found.0 = ap (λ xs. part_of (before 46 xs)) same ∙ (ap part_of (before_whole 46 digits unlike) ∙ part_is digits found.0 node) in
    let second : point_of (drop (length (before 46 text)) text) ≡ Some found.1 = ap (λ (xs : List ℕ). point_of (drop (length (before 46 xs)) xs)) same ∙ (ap point_of (from_whole 46 digits unlike) ∙ ap Some (sym point)) in
    ap (λ n. both n (point_of (drop (length (before 46 text)) text))) first ∙ ap (λ p. both (Some found.0) p) second
node_split text found digits (mark ∷ ds) whole node point =
    let same : text ≡ digits ++ 46 ∷ ds = whole ∙ ap (λ m. digits ++ m ∷ ds) point.0 in
    let unlike : Lacks 46 digits = part_lacks 46 (λ c low high is. omega arith) digits found.0 node in
    let first : part_of (before 46 text) ≡ Some found.0 = ap (λ xs. part_of (before 46 xs)) same ∙ (ap part_of (before_at 46 digits ds unlike) ∙ part_is digits found.0 node) in
    let second : point_of (drop (length (before 46 text)) text) ≡ Some found.1 = ap (λ (xs : List ℕ). point_of (drop (length (before 46 xs)) xs)) same ∙ (ap point_of (from_at 46 digits ds unlike) ∙ part_is ds found.1 point.1) in
    ap (λ n. both n (point_of (drop (length (before 46 text)) text))) first ∙ ap (λ p. both (Some found.0) p) second

pub node_is : (text : List ℕ) (found : ℕ × ℕ) → NodeReads text found → node_of text ≡ Some found
node_is text found r = node_split text found r.digits r.behind r.whole r.node r.point

-- the node of its parts
pub node_at : (text node point : List ℕ) → SplitsAt 46 text node point → node_of text ≡ both (part_of node) (part_of point)
unfolding node_of
node_at text node point s =
    let first : before 46 text ≡ node = ap (before 46) s.whole ∙ before_at 46 node point s.first in
    let second : drop (length (before 46 text)) text ≡ 46 ∷ point = ap (λ (xs : List ℕ). drop (length (before 46 xs)) xs) s.whole ∙ from_at 46 node point s.first in
    ap (λ xs. both (part_of xs) (point_of (drop (length (before 46 text)) text))) first ∙ ap (λ xs. both (part_of node) (point_of xs)) second

pub node_whole : (text : List ℕ) → Lacks 46 text → node_of text ≡ both (part_of text) (Some 0)
unfolding node_of
node_whole text lacks =
    ap (λ xs. both (part_of xs) (point_of (drop (length (before 46 text)) text))) (before_whole 46 text lacks) ∙ ap (λ xs. both (part_of text) (point_of xs)) (from_whole 46 text lacks)

pub no_point : (node : Option ℕ) → both node None ≡ None
no_point None = refl
no_point (Some node) = refl

-- the address of its parts
pub address_parts : (text zone behind net tail : List ℕ) → text ≡ zone ++ 58 ∷ behind → behind ≡ net ++ 47 ∷ tail → Lacks 58 zone → Lacks 47 net
    → address_of text ≡ address_from (part_of zone) (part_of net) (node_of tail)
unfolding address_of
address_parts text zone behind net tail whole rest no_colon no_slash =
    let front : before 58 text ≡ zone = ap (before 58) whole ∙ before_at 58 zone behind no_colon in
    let back : past 58 text ≡ net ++ 47 ∷ tail = ap (past 58) whole ∙ (past_at 58 zone behind no_colon ∙ rest) in
    let middle : before 47 (past 58 text) ≡ net = ap (before 47) back ∙ before_at 47 net tail no_slash in
    let last : past 47 (past 58 text) ≡ tail = ap (past 47) back ∙ past_at 47 net tail no_slash in
    ap (λ xs. address_from (part_of xs) (part_of (before 47 (past 58 text))) (node_of (past 47 (past 58 text)))) front
    ∙ (ap (λ xs. address_from (part_of zone) (part_of xs) (node_of (past 47 (past 58 text)))) middle
    ∙ ap (λ xs. address_from (part_of zone) (part_of net) (node_of xs)) last)

pub address_at : (text zone behind net tail : List ℕ) → SplitsAt 58 text zone behind → SplitsAt 47 behind net tail → address_of text ≡ address_from (part_of zone) (part_of net) (node_of tail)
address_at text zone behind net tail s t = address_parts text zone behind net tail s.whole t.whole s.first t.first

-- where a part isn't there, the address isn't
pub no_net : (zone : Option ℕ) (found : Option (ℕ × ℕ)) → address_from zone None found ≡ None
no_net None found = refl
no_net (Some zone) found = refl

pub no_node : (zone net : Option ℕ) → address_from zone net None ≡ None
no_node None net = refl
no_node (Some zone) None = refl
no_node (Some zone) (Some net) = refl

part_empty : part_of [] ≡ None
part_empty = part_none [] (λ n x. omega (arith, x.numeral.0))

node_empty : node_of [] ≡ None
node_empty = node_whole [] (All-nil (λ b. b ≢ 46)) ∙ ap (λ n. both n (Some 0)) part_empty

-- a text without the marks is none
pub address_without : (text : List ℕ) → Lacks 58 text → address_of text ≡ None
unfolding address_of
address_without text lacks =
    let none : before 47 (past 58 text) ≡ [] = ap (before 47) (past_whole 58 text lacks) in
    ap (λ xs. address_from (part_of (before 58 text)) (part_of xs) (node_of (past 47 (past 58 text)))) none ∙ (ap (λ n. address_from (part_of (before 58 text)) n (node_of (past 47 (past 58 text)))) part_empty ∙ no_net (part_of (before 58 text)) (node_of (past 47 (past 58 text))))

pub net_without : (text zone behind : List ℕ) → SplitsAt 58 text zone behind → Lacks 47 behind → address_of text ≡ None
unfolding address_of
net_without text zone behind s lacks =
    let back : past 58 text ≡ behind = ap (past 58) s.whole ∙ past_at 58 zone behind s.first in
    let tail : past 47 (past 58 text) ≡ [] = ap (past 47) back ∙ past_whole 47 behind lacks in
    ap (λ xs. address_from (part_of (before 58 text)) (part_of (before 47 (past 58 text))) (node_of xs)) tail
    ∙ (ap (λ n. address_from (part_of (before 58 text)) (part_of (before 47 (past 58 text))) n) node_empty ∙ no_node (part_of (before 58 text)) (part_of (before 47 (past 58 text))))

pub address_is : (text : List ℕ) (a : Address) → AddressReads text a → address_of text ≡ Some a
address_is text a r =
    let no_colon : Lacks 58 r.zone_digits = part_lacks 58 (λ c low high is. omega arith) r.zone_digits a.zone r.zone in
    let no_slash : Lacks 47 r.net_digits = part_lacks 47 (λ c low high is. omega arith) r.net_digits a.net r.net in
    address_parts text r.zone_digits (r.net_digits ++ 47 ∷ r.node_text) r.net_digits r.node_text r.whole refl no_colon no_slash
    ∙ (ap (λ z. address_from z (part_of r.net_digits) (node_of r.node_text)) (part_is r.zone_digits a.zone r.zone)
    ∙ (ap (λ n. address_from (Some a.zone) n (node_of r.node_text)) (part_is r.net_digits a.net r.net)
    ∙ ap (λ k. address_from (Some a.zone) (Some a.net) k) (node_is r.node_text (a.node, a.point) r.node)))

-- an address has digits and these three marks alone
record OtherByte (byte : ℕ) : Type 0 where
  digit : NoDigit byte
  colon : 58 ≢ byte
  slash : 47 ≢ byte
  dot : 46 ≢ byte

point_lacks : (byte : ℕ) → OtherByte byte → (behind : List ℕ) (point : ℕ) → PointReads behind point → Lacks byte behind
point_lacks byte o [] point r = All-nil (λ b. b ≢ byte)
point_lacks byte o (mark ∷ digits) point r =
    All-cons (λ b. b ≢ byte) mark digits (λ is. o.dot (sym r.0 ∙ is)) (part_lacks byte o.digit digits point r.1)

address_lacks : (byte : ℕ) → OtherByte byte → (text : List ℕ) (a : Address) → AddressReads text a → Lacks byte text
address_lacks byte o text a r =
    let P : ℕ → Type 0 = λ b. b ≢ byte in
    let node : Lacks byte r.node_text = subst (Lacks byte) (sym r.node.whole) (All-append P r.node.digits r.node.behind (part_lacks byte o.digit r.node.digits a.node r.node.node) (point_lacks byte o r.node.behind a.point r.node.point)) in
    let net : Lacks byte (r.net_digits ++ 47 ∷ r.node_text) = All-append P r.net_digits (47 ∷ r.node_text) (part_lacks byte o.digit r.net_digits a.net r.net) (All-cons P 47 r.node_text o.slash node) in
    subst (Lacks byte) (sym r.whole) (All-append P r.zone_digits (58 ∷ (r.net_digits ++ 47 ∷ r.node_text)) (part_lacks byte o.digit r.zone_digits a.zone r.zone) (All-cons P 58 (r.net_digits ++ 47 ∷ r.node_text) o.colon net))

no_space : OtherByte 32
no_space = record { digit = λ c low high is. omega arith; colon = λ is. omega arith; slash = λ is. omega arith; dot = λ is. omega arith }

no_at : OtherByte 64
no_at = record { digit = λ c low high is. omega arith; colon = λ is. omega arith; slash = λ is. omega arith; dot = λ is. omega arith }

-- spaces aren't `@`
spaces_lack : (blank : List ℕ) → All (IsBlank Spaces) blank → Lacks 64 blank
spaces_lack blank h = λ k d lt is. omega (arith, h k d lt)

-- ---- lines
-- a line that is split at its last `@`
pub line_at : (line front behind text : List ℕ) → line ≡ front ++ 64 ∷ behind → Lacks 64 behind → before_spaces behind ≡ text
    → net_line line ≡ cond (is_text 36 (past_spaces front)) (option_map (naming (past_spaces front) (length front)) (address_of text)) None
unfolding net_line
line_at line front behind text whole last back =
    let first : before_last (λ b. eqb b 64) line ≡ front = ap (before_last (λ b. eqb b 64)) whole ∙ before_last_at 64 front behind last in
    let rest : address_part line ≡ text = ap address_part whole ∙ (ap before_spaces (after_last_at 64 front behind last) ∙ back) in
    ap (λ (f : List ℕ). cond (is_text 36 (past_spaces f)) (option_map (naming (past_spaces f) (length f)) (address_of (address_part line))) None) first
    ∙ ap (λ xs. cond (is_text 36 (past_spaces front)) (option_map (naming (past_spaces front) (length front)) (address_of xs)) None) rest

no_name : is_text 36 [] ≡ false
unfolding is_text
no_name = refl

-- a line without `@` is none
pub line_without : (line : List ℕ) → Lacks 64 line → net_line line ≡ None
unfolding net_line
line_without line lacks =
    let front : before_last (λ b. eqb b 64) line ≡ [] = before_last_none 64 line lacks in
    let none : is_text 36 (name_part line) ≡ false = ap (λ xs. is_text 36 (past_spaces xs)) front ∙ no_name in
    ap (λ b. cond b (option_map (naming (name_part line) (name_end line)) (address_of (address_part line))) None) none

abbrev naming_at : ℕ → ℕ → Address → NetLine
naming_at from to address = record { name_from = from; name_to = to; address = address }

-- a line names what it is read as, and nothing else
pub line_is : (line : List ℕ) (found : NetLine) → IsAddressLine line found → net_line line ≡ Some found
line_is line found r =
    let front : List ℕ = r.before ++ r.name in
    let behind : List ℕ = r.address_text ++ r.after in
    let whole : line ≡ front ++ 64 ∷ behind = r.whole ∙ sym (append_assoc r.before r.name (64 ∷ behind)) in
    let last : Lacks 64 behind = All-append (λ b. b ≢ 64) r.address_text r.after (address_lacks 64 no_at r.address_text found.address r.address) (spaces_lack r.after r.blank_after) in
    let back : before_spaces behind ≡ r.address_text = before_is r.address_text r.after r.blank_after (lacks_ends r.address_text (address_lacks 32 no_space r.address_text found.address r.address)) in
    let name : past_spaces front ≡ r.name = past_is r.before r.name r.blank_before r.begins in
    let to : length front ≡ found.name_to = length-append r.before r.name ∙ sym r.to in
    let from : length front - length r.name ≡ found.name_from = omega (arith, length-append r.before r.name, r.from) in
    let same : naming r.name (length front) found.address ≡ found
    = ap (λ n. naming_at n (length front) found.address) from ∙ ap (λ n. naming_at found.name_from n found.address) to in
    line_at line front behind r.address_text whole last back
    ∙ (ap (λ (xs : List ℕ). cond (is_text 36 xs) (option_map (naming xs (length front)) (address_of r.address_text)) None) name
    ∙ (ap (λ b. cond b (option_map (naming r.name (length front)) (address_of r.address_text)) None) r.named
    ∙ (ap (option_map (naming r.name (length front))) (address_is r.address_text found.address r.address) ∙ ap Some same)))

-- what a line is read as, from its parts
pub line_reads : (line front behind text after : List ℕ) (a : Address) → line ≡ front ++ 64 ∷ behind → behind ≡ text ++ after → All (IsBlank Spaces) after
    → is_text 36 (past_spaces front) ≡ true → AddressReads text a → IsAddressLine line (naming (past_spaces front) (length front) a)
line_reads line front behind text after a whole rest blank named address =
    let f : FrontSpaces front = front_spaces front in
    let len : length front ≡ length f.blank + length (past_spaces front) = ap length f.whole ∙ length-append f.blank (past_spaces front) in
    record {
      before = f.blank;
      name = past_spaces front;
      address_text = text;
      after = after;
      whole = whole ∙ (ap (λ xs. xs ++ 64 ∷ behind) f.whole ∙ (append_assoc f.blank (past_spaces front) (64 ∷ behind) ∙ ap (λ xs. f.blank ++ (past_spaces front ++ 64 ∷ xs)) rest));
      blank_before = f.spaces;
      blank_after = blank;
      begins = f.begins;
      named = named;
      from = omega arith;
      to = len;
      address = address;
    }

-- a line without a name, or without an address, is none
pub line_unnamed : (line front behind name : List ℕ) → SplitsAtLast 64 line front behind → name ≡ past_spaces front → is_text 36 name ≡ false → net_line line ≡ None
line_unnamed line front behind name s is none =
    let text : List ℕ = before_spaces behind in
    line_at line front behind text s.whole s.last refl
    ∙ ap (λ b. cond b (option_map (naming (past_spaces front) (length front)) (address_of text)) None) (ap (is_text 36) (sym is) ∙ none)

same_both : (b : Bool) (x : Option NetLine) → cond b x x ≡ x
same_both true x = refl
same_both false x = refl

pub line_unaddressed : (line front behind text : List ℕ) → SplitsAtLast 64 line front behind → TrimmedEnd (IsBlank Spaces) behind text → address_of text ≡ None → net_line line ≡ None
line_unaddressed line front behind text s t none =
    line_at line front behind text s.whole s.last (trimmed_is behind text t)
    ∙ (ap (λ (a : Option Address). cond (is_text 36 (past_spaces front)) (option_map (naming (past_spaces front) (length front)) a) None) none ∙ same_both (is_text 36 (past_spaces front)) None)

-- a line with both is read
pub line_read : (line front behind name text : List ℕ) (a : Address) → SplitsAtLast 64 line front behind → name ≡ past_spaces front → is_text 36 name ≡ true
    → TrimmedEnd (IsBlank Spaces) behind text → AddressReads text a → IsAddressLine line (naming name (length front) a)
line_read line front behind name text a s is named t address =
    subst (λ (n : List ℕ). IsAddressLine line (naming n (length front) a)) (sym is) (line_reads line front behind text t.pad a s.whole t.whole t.blank (ap (is_text 36) (sym is) ∙ named) address)

-- both ways, of a line that names nothing, and of one that names this
pub reads_none : (line : List ℕ) (r : Option NetLine) → r ≡ None → r ≡ net_line line → (found : NetLine) → (r ≡ Some found) ↔ IsAddressLine line found
reads_none line r none is found = (λ e. absurd (cc), λ a. is ∙ line_is line found a)

pub reads_some : (line : List ℕ) (a : NetLine) → IsAddressLine line a → Some a ≡ net_line line → (found : NetLine) → (Some a ≡ Some found) ↔ IsAddressLine line found
reads_some line a r is found = (λ e. let same : a ≡ found = cc in subst (IsAddressLine line) same r, λ b. is ∙ line_is line found b)
