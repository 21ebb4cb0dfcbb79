-- What is known after a message more.
use Rattle.std.proofs.Common.{◌≡◌, ℕ, ◌+◌, ◌-◌, ◌≤◌, ◌<◌, List, [], ◌∷◌, ◌++◌, length, get_or, refl, sym, ap, ◌∙◌, arith, length-append}
use Rattle.std.specs.Prelude.{Option, Some, None, option_map, unwrap_or, slice_get, Result, Ok, Err, OnOk, IfSome}
use Rattle.std.proofs.lemmas.Option.{slice_get-get_or}
use Rattle.post_changes.proofs.board_changes.OneBase.{conferences_back}
use Rattle.board_layout.specs.Board.{Board, conferences_in, shapes_of}
use Rattle.board_layout.specs.Layout.{board_size}
use Rattle.board_layout.specs.Lookups.{user_of}
use Rattle.board_layout.specs.Renewed.{contents_of}
use Rattle.board_layout.specs.Valid.{IsBoard, board_limit}
use Rattle.board_ledger.specs.Uploads.{upload_size}
use Rattle.board_ledger.specs.declared.user.User.{User}
use Rattle.board_layout.specs.jam_base.Contents.{Contents}
use Rattle.jam_records.specs.declared.message.Message.{Message}
use Rattle.netmail_rules.specs.declared.verdict.Verdict.TheVariants.{Post}
use Rattle.netmail_rules.specs.declared.view.ConferenceView.{ConferenceView}
use Rattle.netmail_rules.specs.declared.view.View.{View}
use Rattle.qwk_blocks.specs.declared.message.QwkMessage.{QwkMessage}
use Rattle.packet_verdicts.proofs.Places.{place_same}
use Rattle.packet_verdicts.proofs.SpreadSizes.{room_next}
use Rattle.packet_verdicts.proofs.Validity.{no_conference}
use Rattle.packet_verdicts.specs.Accepted.{IsIndexed}
use Rattle.packet_verdicts.specs.Judged.{judged_next, outcome_of, posts_after, refused_count, room_left}
use Rattle.packet_verdicts.specs.Judging.{IsJudging}
use Rattle.post_changes.specs.Posted.{all_posted, spread}
use Rattle.packet_verdicts.specs.Views.{conference_seen, conference_view, nobody, addressed_place, room_of, user_with, verdict_on, view_of, view_with}
use Rattle.packet_verdicts.specs.declared.judging.Judging.{Judging}
use Rattle.packet_verdicts.specs.declared.outcome.Outcome.{Outcome}
use Rattle.setup_file.specs.declared.conference.Conference.{Conference as SetupConference}

-- ---- before the first message
none_posted : (b : Board) (first : ℕ) (bases : List Contents) → all_posted b [] first bases ≡ bases
none_posted b first [] = refl
none_posted b first (base ∷ bases) = ap (λ (rest : List Contents). base ∷ rest) (none_posted b (first + 1) bases)

pub spread_none : (b : Board) → IsBoard b → spread [] b ≡ b
spread_none b ok =
    let conferences : conferences_in (all_posted b [] 0 (contents_of b)) ≡ b.conferences = ap conferences_in (none_posted b 0 (contents_of b)) ∙ conferences_back (shapes_of b.ledger) b.conferences ok.conferences in
    λ i. record { ledger = b.ledger; conferences = conferences i }

-- ---- the view
-- the view shows the board with the posts, whatever conference and reply it has
pub shows : (b : Board) (user : ℕ) (conference : Option ConferenceView) (reply : List ℕ) (posts : List (ℕ × Message)) (j : Judging) → j.view ≡ view_with b.ledger (user_with user b) conference reply (room_of (spread posts b)) → j.user ≡ user → j.accepted.posts ≡ posts
    → j.view ≡ view_with b.ledger (user_with j.user b) j.view.conference j.view.reply (room_of (spread j.accepted.posts b))
shows b user conference reply posts j is same all = is ∙ sym (λ i. view_with b.ledger (user_with (same i) b) (is i).conference (is i).reply (room_of (spread (all i) b)))

pub first_view : (b : Board) (id : ℕ) (u : User) (view : View) (room size : ℕ) (posts : List (ℕ × Message)) → IsBoard b → user_of id b ≡ Some u → view ≡ view_with b.ledger u None [] room → room ≡ board_limit - (size + upload_size) → size ≡ board_size b → posts ≡ []
    → view ≡ view_with b.ledger (user_with id b) view.conference view.reply (room_of (spread posts b))
first_view b id u view room size posts ok user is left all none =
    let own : u ≡ user_with id b = sym (ap (λ (o : Option User). unwrap_or o nobody) user) in
    let free : room ≡ room_of (spread posts b) = left ∙ (ap (λ (n : ℕ). board_limit - (n + upload_size)) all ∙ (ap room_of (sym (spread_none b ok)) ∙ ap (λ (ps : List (ℕ × Message)). room_of (spread ps b)) (sym none))) in
    is ∙ (λ i. view_with b.ledger (own i) (sym is i).conference (sym is i).reply (free i))

-- ---- a draft more
pub room_after : (b : Board) (posts : List (ℕ × Message)) (user : ℕ) (place : Option ℕ) (d : Message) → IsBoard b → IfSome place (λ place. place < length b.ledger.setup.conferences) → d.msgid ≡ []
    → room_left (conference_seen (spread posts b) (user_with user b) place) d (room_of (spread posts b)) ≡ room_of (spread (posts_after place (Post d) posts) b)
room_after b posts user None d ok within none = refl
room_after b posts user (Some place) d ok within none =
    let conferences : List SetupConference = b.ledger.setup.conferences in
    let is : slice_get conferences place ≡ Some (get_or conferences place no_conference) = slice_get-get_or conferences place no_conference within in
    ap (λ (o : Option SetupConference). room_left (option_map (conference_view (spread posts b) (user_with user b) place) o) d (room_of (spread posts b))) is
    ∙ sym (room_next b posts place d ok within none)

few_after : (place : Option ℕ) (d : Message) (posts : List (ℕ × Message)) → length (posts_after place (Post d) posts) ≤ length posts + 1
few_after None d posts = omega arith
few_after (Some place) d posts = omega (arith, length-append posts ((place, d) ∷ []))

-- what was known before, and what the message showed
pub record Looked (b : Board) (old mid : Judging) (m : QwkMessage) (place : Option ℕ) : Type 0 where
  pub board : IsBoard b
  pub before : IsJudging b old
  pub number : place ≡ addressed_place m.header.number b
  pub within : IfSome place (λ place. place < length b.ledger.setup.conferences)
  pub view : mid.view ≡ view_of (spread old.accepted.posts b) old.user m
  pub rest : mid ≡ record old { view = mid.view }

pub posted_judging : {T E : Type 0} (r : Result T E) (b : Board) (old mid new : Judging) (m : QwkMessage) (place : Option ℕ) (d : Message) (o : Outcome) → Looked b old mid m place → d.msgid ≡ []
    → OnOk r (new.outcomes ≡ mid.outcomes ++ o ∷ []) → OnOk r (new.accepted.posts ≡ posts_after place (Post d) mid.accepted.posts) → OnOk r (IsIndexed new.accepted) → OnOk r (new.refused ≡ refused_count new.outcomes)
    → OnOk r (new.view ≡ record mid.view { room = room_left mid.view.conference d mid.view.room }) → OnOk r (new.user ≡ mid.user) → OnOk r (IsJudging b new)
posted_judging (Err e) b old mid new m place d o l none outcomes posts indexed refused view user = tt
posted_judging (Ok x) b old mid new m place d o l none outcomes posts indexed refused view user =
    let before : List (ℕ × Message) = old.accepted.posts in
    let own : mid.accepted.posts ≡ before = ap (λ (j : Judging). j.accepted.posts) l.rest in
    let after : new.accepted.posts ≡ posts_after place (Post d) before = posts ∙ ap (posts_after place (Post d)) own in
    let v : View = view_of (spread before b) old.user m in
    let seen : v.conference ≡ conference_seen (spread before b) (user_with old.user b) place = ap (conference_seen (spread before b) (user_with old.user b)) (place_same m.header.number b before ∙ sym l.number) in
    let room : room_left v.conference d v.room ≡ room_of (spread (posts_after place (Post d) before) b) =
    ap (λ (c : Option ConferenceView). room_left c d (room_of (spread before b))) seen ∙ room_after b before old.user place d l.board l.within none in
    let shown : new.view ≡ view_with b.ledger (user_with old.user b) v.conference v.reply (room_of (spread (posts_after place (Post d) before) b)) =
    view ∙ (ap (λ (w : View). record w { room = room_left w.conference d w.room }) l.view ∙ ap (view_with b.ledger (user_with old.user b) v.conference v.reply) room) in
    let few = l.before.few in
    record {
      indexed = indexed;
      view = shows b old.user v.conference v.reply (posts_after place (Post d) before) new shown (user ∙ ap (λ (j : Judging). j.user) l.rest) after;
      few = omega (arith, few, ap length after, few_after place d before, ap length outcomes, length-append mid.outcomes (o ∷ []), ap (λ (j : Judging). length j.outcomes) l.rest);
      refused = refused;
    }

pub one_outcome : (b : Board) (id now : ℕ) (old new : List Outcome × List (ℕ × Message)) (m : QwkMessage) → new ≡ judged_next b id now old m → length new.0 ≡ length old.0 + 1
one_outcome b id now old new m e =
    let board : Board = spread old.1 b in
    omega (arith, ap (λ (j : List Outcome × List (ℕ × Message)). length j.0) e, length-append old.0 (outcome_of (view_of board id m).conference (verdict_on board id m now) ∷ []))
