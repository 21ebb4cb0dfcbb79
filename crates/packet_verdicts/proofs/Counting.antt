-- Each message is posted or refused.
use Rattle.std.proofs.Common.{◌≡◌, ℕ, ◌+◌, cond, is_none, List, [], ◌∷◌, ◌++◌, length, get_or, refl, sym, ap, ◌∙◌, arith, length-append}
use Rattle.std.specs.Prelude.{Option, Some, None, option_map, slice_get, fold}
use Rattle.std.proofs.lemmas.List.Sums.{sum_by-append}
use Rattle.std.proofs.lemmas.Option.{slice_get-get_or}
use Rattle.board_layout.specs.Board.{Board}
use Rattle.jam_records.specs.declared.message.Message.{Message}
use Rattle.netmail_rules.specs.declared.verdict.Verdict.{Verdict}
use Rattle.netmail_rules.specs.declared.verdict.Verdict.TheVariants.{Post, Refused}
use Rattle.netmail_rules.specs.declared.view.ConferenceView.{ConferenceView}
use Rattle.packet_verdicts.proofs.Places.{place_same, place_within}
use Rattle.packet_verdicts.proofs.Steps.{one_outcome}
use Rattle.packet_verdicts.proofs.Validity.{no_conference}
use Rattle.packet_verdicts.specs.Judged.{is_refused, judged, judged_next, outcome_of, posts_after, refused_count}
use Rattle.post_changes.specs.Posted.{spread}
use Rattle.packet_verdicts.specs.Views.{conference_seen, conference_view, addressed_place, user_with, verdict_on, view_of}
use Rattle.packet_verdicts.specs.declared.outcome.Outcome.{Outcome}
use Rattle.qwk_blocks.specs.declared.message.QwkMessage.{QwkMessage}
use Rattle.setup_file.specs.declared.conference.Conference.{Conference as SetupConference}

count_more : (outcomes : List Outcome) (o : Outcome) → refused_count (outcomes ++ o ∷ []) ≡ refused_count outcomes + refused_count (o ∷ [])
count_more outcomes o = sum_by-append (λ (x : Outcome). cond (is_refused x) 1 0) outcomes (o ∷ [])

one_counted : (c : Option ConferenceView) (place : Option ℕ) (w : Verdict) (posts : List (ℕ × Message)) (outcomes : List Outcome) → is_none place ≡ is_none c
    → length (posts_after place w posts) + refused_count (outcomes ++ outcome_of c w ∷ []) ≡ length posts + refused_count outcomes + 1
one_counted None None (Refused r) posts outcomes same = omega (arith, count_more outcomes (outcome_of None (Refused r)))
one_counted None None (Post d) posts outcomes same = omega (arith, count_more outcomes (outcome_of None (Post d)))
one_counted None (Some place) w posts outcomes same = absurd (cc)
one_counted (Some c) None w posts outcomes same = absurd (cc)
one_counted (Some c) (Some place) (Refused r) posts outcomes same = omega (arith, count_more outcomes (outcome_of (Some c) (Refused r)))
one_counted (Some c) (Some place) (Post d) posts outcomes same = omega (arith, count_more outcomes (outcome_of (Some c) (Post d)), length-append posts ((place, d) ∷ []))

module _ (b : Board) (id now : ℕ) where
  -- the rules see a conference just where the number is that of one
  seen_where : (posts : List (ℕ × Message)) (number o : Option ℕ) → addressed_place number b ≡ o → is_none o ≡ is_none (conference_seen (spread posts b) (user_with id b) o)
  seen_where posts number None e = refl
  seen_where posts number (Some place) e =
      let conferences : List SetupConference = b.ledger.setup.conferences in
      let is : slice_get conferences place ≡ Some (get_or conferences place no_conference) = slice_get-get_or conferences place no_conference (place_within number b place e) in
      sym (ap (λ (o : Option SetupConference). is_none (option_map (conference_view (spread posts b) (user_with id b) place) o)) is)

  counted : List Outcome × List (ℕ × Message) → ℕ
  counted so_far = length so_far.1 + refused_count so_far.0

  counted_next : (so_far : List Outcome × List (ℕ × Message)) (m : QwkMessage) → counted (judged_next b id now so_far m) ≡ counted so_far + 1
  unfolding counted
  counted_next so_far m =
      let board : Board = spread so_far.1 b in
      let seen : is_none (addressed_place m.header.number b) ≡ is_none (view_of board id m).conference =
      seen_where so_far.1 m.header.number (addressed_place m.header.number b) refl ∙ ap (λ (o : Option ℕ). is_none (conference_seen board (user_with id b) o)) (sym (place_same m.header.number b so_far.1)) in
      one_counted (view_of board id m).conference (addressed_place m.header.number b) (verdict_on board id m now) so_far.1 so_far.0 seen

  counted_all : (so_far : List Outcome × List (ℕ × Message)) (messages : List QwkMessage) → counted (fold (judged_next b id now) so_far messages) ≡ counted so_far + length messages
  counted_all so_far [] = omega arith
  counted_all so_far (m ∷ messages) = omega (arith, counted_all (judged_next b id now so_far m) messages, counted_next so_far m)

  told_all : (so_far : List Outcome × List (ℕ × Message)) (messages : List QwkMessage) → length (fold (judged_next b id now) so_far messages).0 ≡ length so_far.0 + length messages
  told_all so_far [] = omega arith
  told_all so_far (m ∷ messages) = omega (arith, told_all (judged_next b id now so_far m) messages, one_outcome b id now so_far (judged_next b id now so_far m) m refl)

pub all_told : (b : Board) (user now : ℕ) (messages : List QwkMessage) → length (judged b user now messages).0 ≡ length messages
unfolding judged
all_told b user now messages = omega (arith, told_all b user now ([], []) messages)

pub all_counted : (b : Board) (user now : ℕ) (messages : List QwkMessage) → length (judged b user now messages).1 + refused_count (judged b user now messages).0 ≡ length messages
unfolding judged counted
all_counted b user now messages = omega (arith, counted_all b user now ([], []) messages)
