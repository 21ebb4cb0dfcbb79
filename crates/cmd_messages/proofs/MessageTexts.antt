-- The messages of a sample are such as conferences may hold.
use Rattle.std.proofs.Common.{◌≡◌, ◌⊎◌, inl, inr, ⊎_elim, ℕ, zero, suc, ◌+◌, ◌-◌, ◌*◌, ◌%◌, ◌^◌, ◌<◌, ◌≤◌, Bool, true, false, cond, not, ◌&&◌, ◌||◌, leb, eqb, List, [], ◌∷◌, ◌++◌, length, get_or, refl, sym, ◌∙◌, ap, subst, append_assoc, arith, length-append}
use Rattle.std.specs.Prelude.{All, codes, decimal, Option, Some, None, slice_get, unwrap_or, option_map}
use Rattle.std.specs.List.{list_all}
use Rattle.std.specs.Option.{option_map_or}
use Rattle.std.proofs.Math.Seq.{get_or-append_right}
use Rattle.std.proofs.lemmas.Bool.{and_from, and_parts, cases_lt, eq-eqb, leb-true, le-leb, or_left, or_right}
use Rattle.std.proofs.lemmas.Fmt.{decimal_by_steps, length-decimal-le}
use Rattle.std.proofs.lemmas.List.Elements.{All-cons, All-head, All-nil, All-push, All-tail}
use Rattle.post_changes.proofs.board_changes.OneBase.{all_at}
use Rattle.board_layout.specs.Board.{Board}
use Rattle.board_layout.specs.Valid.{IsBoard}
use Rattle.board_ledger.specs.Users.{IsUser}
use Rattle.board_ledger.specs.declared.user.User.{User}
use Rattle.jam_layout.specs.Address.{is_address}
use Rattle.jam_layout.specs.Fields.{is_text}
use Rattle.jam_layout.specs.Marks.{is_net}
use Rattle.jam_layout.specs.Messages.{EmptyOr, IsTyped}
use Rattle.jam_records.specs.declared.message.Message.{Message}
use Rattle.cmd_board.specs.Places.{kind_of_place}
use Rattle.packet_verdicts.proofs.offered_packets.ShownMessages.{is_there}
use Rattle.board_layout.specs.Lookups.{slots_in, message_at}
use Rattle.board_layout.proofs.BoardLookups.{few_in_place}
use Rattle.packet_verdicts.proofs.PostLists.{few_in}
use Rattle.packet_verdicts.proofs.Validity.{ids, no_conference}
use Rattle.post_changes.specs.Posted.{posts_in, spread}
use Rattle.cmd_messages.proofs.DrawLaws.{drawn_below}
use Rattle.cmd_messages.proofs.LastSlots.{last_kept, last_posted}
use Rattle.cmd_messages.proofs.SampleLists.{next_post, no_msgids, place_within, posts_count}
use Rattle.cmd_messages.specs.Draws.{draws_of}
use Rattle.cmd_messages.specs.Sample.{last_msgid, numbered_line, recipient_name, repeated, sampled_posts, subject_of}
use Rattle.setup_file.specs.Texts.{has_bare_ends, is_name_byte, is_user_name}
use Rattle.setup_file.specs.declared.conference.Conference.{Conference as SetupConference}
use Rattle.post_changes.proofs.slot_changes.ValueLaws.{tested_holds}
use Rattle.post_changes.specs.slot_changes.Values.{MayHold, has_right_texts, is_empty_or, is_right_body}
use Rattle.std.proofs.lemmas.Option.{slice_get-get_or}

-- ---- texts
-- a byte that isn't below 20h
IsPlain : ℕ → Type 0
IsPlain b = 0x20 ≤ b

all_plain : (text : List ℕ) → All IsPlain text → list_all (λ b. leb 0x20 b) text ≡ true
unfolding IsPlain
all_plain [] all = refl
all_plain (b ∷ text) all = and_from (leb 0x20 b) (list_all (λ c. leb 0x20 c) text) (le-leb 0x20 b (All-head IsPlain b text all)) (all_plain text (All-tail IsPlain b text all))

plain_text : (most : ℕ) (text : List ℕ) → list_all (λ b. leb 0x20 b) text ≡ true → 1 ≤ length text → length text ≤ most → is_text most text ≡ true
unfolding is_text
plain_text most text plain some short =
    and_from (leb 1 (length text) && leb (length text) most) (list_all (λ b. leb 0x20 b) text) (and_from (leb 1 (length text)) (leb (length text) most) (le-leb 1 (length text) some) (le-leb (length text) most short)) plain

decimal_plain : (n : ℕ) → n < 2 ^ 64 → All IsPlain (decimal n)
unfolding IsPlain
decimal_plain n small =
    decimal_by_steps (λ m ds. All IsPlain ds) (λ m digit. All-cons IsPlain (48 + m) [] (omega arith) (All-nil IsPlain)) (λ m ds more so_far. All-push IsPlain ds (48 + m % 10) so_far (omega arith)) n small

empty_or : (test : List ℕ → Bool) (text : List ℕ) → EmptyOr test text → is_empty_or test text ≡ true
empty_or test text (inl none) = or_left (eqb (length text) 0) (test text) (eq-eqb (length text) 0 none)
empty_or test text (inr passes) = or_right (eqb (length text) 0) (test text) passes

-- ---- the recipient
name_bytes : (name : List ℕ) → list_all is_name_byte name ≡ true → list_all (λ b. leb 0x20 b) name ≡ true
name_bytes [] all = refl
name_bytes (b ∷ name) all =
    let parts = and_parts (is_name_byte b) (list_all is_name_byte name) all in
    let printed = and_parts (leb 0x20 b && leb b 0x7E) (not (eqb b 0x22)) parts.0 in
    and_from (leb 0x20 b) (list_all (λ c. leb 0x20 c) name) (and_parts (leb 0x20 b) (leb b 0x7E) printed.0).0 (name_bytes name parts.1)

name_text : (name : List ℕ) → is_user_name name ≡ true → is_text 36 name ≡ true
unfolding is_user_name
name_text name is =
    let parts = and_parts (leb (length name) 25) (list_all is_name_byte name && has_bare_ends name) is in
    let inner = and_parts (list_all is_name_byte name) (has_bare_ends name) parts.1 in
    let short : length name ≤ 25 = leb-true (length name) 25 parts.0 in
    let some : 1 ≤ length name = leb-true 1 (length name) (and_parts (leb 1 (length name)) _ inner.1).0 in
    plain_text 36 name (name_bytes name inner.0) some (omega arith)

all_text : is_text 36 (codes "All") ≡ true
unfolding is_text
all_text = refl

own_text : is_text 36 (codes "Sampler") ≡ true
unfolding is_text
own_text = refl

found_text : (count : ℕ) (users : List User) (k : ℕ) (found : Option User) → All (IsUser count) users → slice_get users k ≡ found → is_text 36 (option_map_or (λ (u : User). u.name) found (codes "All")) ≡ true
found_text count users k None all is = all_text
found_text count users k (Some u) all is = name_text u.name (all_at (IsUser count) users k u is all).name

recipient_text : (b : Board) (id : ℕ) → IsBoard b → is_text 36 (recipient_name id b) ≡ true
recipient_text b id ok = elim (eqb id 0) as (λ t. is_text 36 (option_map_or (λ (u : User). u.name) (cond t None (slice_get b.ledger.users (id - 1))) (codes "All")) ≡ true) [
  | true ↦ all_text
  | false ↦ found_text (length b.ledger.setup.conferences) b.ledger.users (id - 1) (slice_get b.ledger.users (id - 1)) ok.ledger.users refl
]

-- ---- the msgid that is answered
held_text : (b : Board) (place number : ℕ) (found : Option Message) → IsBoard b → message_at b place number ≡ found → EmptyOr (is_text 80) (unwrap_or (option_map (λ (m : Message). m.msgid) found) [])
held_text b place number None ok is = inl refl
held_text b place number (Some m) ok is = inr (is_there b place number m ok is).message.msgid

module _ (b : Board) (posts : List (ℕ × Message)) (place : ℕ) (ok : IsBoard b) (within : place < length b.ledger.setup.conferences) (none : All (λ (p : ℕ × Message). p.1.msgid ≡ []) posts) (few : length posts ≤ 5000) where
  last_text : EmptyOr (is_text 80) (last_msgid place (spread posts b))
  last_text =
      let count : ℕ = length (posts_in place posts) in
      let number : ℕ = length (slots_in b place) + count in
      let c : SetupConference = get_or b.ledger.setup.conferences place no_conference in
      let is : slice_get b.ledger.setup.conferences place ≡ Some c = slice_get-get_or b.ledger.setup.conferences place no_conference within in
      ⊎_elim
      (λ some. subst (EmptyOr (is_text 80)) (sym (last_posted b posts place ok within none some)) (inr (ids b place c number ok is (omega (arith, few, few_in place posts, few_in_place b place ok))).text))
      (λ least. subst (EmptyOr (is_text 80)) (sym (last_kept b posts place ok within (omega (arith, least)))) (held_text b place (length (slots_in b place)) (message_at b place (length (slots_in b place))) ok refl))
      (cases_lt 0 count)

  reply_text : (answers : Bool) → EmptyOr (is_text 80) (cond answers (last_msgid place (spread posts b)) [])
  reply_text true = last_text
  reply_text false = inl refl

-- ---- the subject
subject_text : (number : ℕ) → number ≤ 5000 → is_text 72 (subject_of number) ≡ true
subject_text number few =
    let short = length-decimal-le 4 number (omega arith) (omega (arith, few)) (omega (arith, few)) in
    let whole = length-append (codes "Sample ") (decimal number) in
    plain_text 72 (subject_of number) (all_plain (decimal number) (decimal_plain number (omega (arith, few)))) (omega (arith, whole)) (omega (arith, whole, short))

-- ---- the body
-- a line without its end
abbrev line_start : ℕ → ℕ → List ℕ
line_start seed number = codes "Line " ++ (decimal number ++ (codes " of seed " ++ decimal seed))

line_ended : (seed number : ℕ) → numbered_line seed number ≡ line_start seed number ++ 13 ∷ []
line_ended seed number = simp append_assoc

line_short : (seed number : ℕ) → seed < 2 ^ 32 → number ≤ 5000 → length (numbered_line seed number) ≤ 64
line_short seed number small few =
    let a = length-decimal-le 4 number (omega arith) (omega (arith, few)) (omega (arith, few)) in
    let d = length-decimal-le 10 seed (omega arith) (omega (arith, small)) (omega (arith, small)) in
    omega (
      arith,
      a,
      d,
      length-append (codes "Line ") (decimal number ++ (codes " of seed " ++ (decimal seed ++ 13 ∷ []))),
      length-append (decimal number) (codes " of seed " ++ (decimal seed ++ 13 ∷ [])),
      length-append (codes " of seed ") (decimal seed ++ 13 ∷ []),
      length-append (decimal seed) (13 ∷ []),
    )

lines_short : (line : List ℕ) (n : ℕ) → length line ≤ 64 → length (repeated line n) ≤ 64 * n
lines_short line zero short = omega arith
lines_short line (suc n) short = omega (arith, length-append (repeated line n) line, lines_short line n short, short)

-- a text is empty or ends with 0Dh
Ends : List ℕ → Type 0
Ends text = (length text ≡ 0) ⊎ (get_or text (length text - 1) 0 ≡ 13)

return_ends : (front : List ℕ) → Ends (front ++ 13 ∷ [])
unfolding Ends
return_ends front =
    let whole = length-append front (13 ∷ []) in
    let place : length (front ++ 13 ∷ []) - 1 - length front ≡ 0 = omega (arith, whole) in
    inr (get_or-append_right front (13 ∷ []) (length (front ++ 13 ∷ []) - 1) 0 (omega (arith, whole)) ∙ ap (λ n. get_or (13 ∷ []) n 0) place)

lines_end : (line start : List ℕ) (n : ℕ) → line ≡ start ++ 13 ∷ [] → Ends (repeated line n)
unfolding Ends
lines_end line start zero is = inl refl
lines_end line start (suc n) is = subst Ends (sym (ap (λ (xs : List ℕ). repeated line n ++ xs) is ∙ sym (append_assoc (repeated line n) start (13 ∷ [])))) (return_ends (repeated line n ++ start))

body_right : (body : List ℕ) → length body ≤ 16384 → Ends body → is_right_body body ≡ true
unfolding is_right_body Ends
body_right body short (inl none) = or_left (eqb (length body) 0) _ (eq-eqb (length body) 0 none)
body_right body short (inr last) = or_right (eqb (length body) 0) _ (and_from (leb (length body) 16384) (eqb (get_or body (length body - 1) 0) 13) (le-leb (length body) 16384 short) (eq-eqb (get_or body (length body - 1) 0) 13 last))

body_is : (seed number lines : ℕ) → seed < 2 ^ 32 → number ≤ 5000 → lines ≤ 8 → is_right_body (repeated (numbered_line seed number) lines) ≡ true
body_is seed number lines small few short =
    body_right (repeated (numbered_line seed number) lines) (let whole = lines_short (numbered_line seed number) lines (line_short seed number small few) in omega (arith, whole, short)) (lines_end (numbered_line seed number) (line_start seed number) lines (line_ended seed number))

-- ---- the message
private_enough : (net : Bool) → (net || not net) ≡ true
private_enough true = refl
private_enough false = refl

-- the message that comes behind so many others
module _ (seed now : ℕ) (b : Board) (k : ℕ) (ok : IsBoard b) (small : seed < 2 ^ 32) (few : k < 5000) where
  texts_right : has_right_texts (next_post seed now b k).1 ≡ true
  unfolding has_right_texts
  texts_right =
      let m : Message = (next_post seed now b k).1 in
      let posts : List (ℕ × Message) = sampled_posts seed now b k in
      let address : is_empty_or is_address [] ≡ true = refl in
      let msgid : is_empty_or (is_text 80) [] ≡ true = refl in
      let count = posts_count seed now b k in
      let reply : is_empty_or (is_text 80) m.replyid ≡ true =
      empty_or (is_text 80) m.replyid (reply_text b posts (draws_of seed k b).place ok (place_within seed now b k ok) (no_msgids seed now b k) (omega (arith, count, few)) (eqb (draws_of seed k b).reply 0)) in
      let subject : is_empty_or (is_text 72) m.subject ≡ true = or_right (eqb (length m.subject) 0) (is_text 72 m.subject) (subject_text (k + 1) (omega (arith, few))) in
      and_from ((is_text 36 m.from && is_text 36 m.to) && (is_empty_or is_address [] && is_empty_or is_address [])) ((is_empty_or (is_text 80) [] && is_empty_or (is_text 80) m.replyid) && is_empty_or (is_text 72) m.subject)
      (and_from (is_text 36 m.from && is_text 36 m.to) (is_empty_or is_address [] && is_empty_or is_address []) (and_from (is_text 36 m.from) (is_text 36 m.to) own_text (recipient_text b (draws_of seed k b).recipient ok)) refl)
      (and_from (is_empty_or (is_text 80) [] && is_empty_or (is_text 80) m.replyid) (is_empty_or (is_text 72) m.subject) (and_from (is_empty_or (is_text 80) []) (is_empty_or (is_text 80) m.replyid) msgid reply) subject)

  pub may_hold : IsTyped (next_post seed now b k).1 → MayHold (kind_of_place (next_post seed now b k).0 b) (next_post seed now b k).1
  may_hold typed =
      let lines : (draws_of seed k b).lines ≤ 8 = let below = drawn_below seed (4 * k + 4) 8 (omega arith) in omega (arith, below) in
      tested_holds (kind_of_place (next_post seed now b k).0 b) (next_post seed now b k).1 typed texts_right (body_is seed (k + 1) (draws_of seed k b).lines small (omega (arith, few)) lines) (private_enough (is_net (kind_of_place (next_post seed now b k).0 b)))
