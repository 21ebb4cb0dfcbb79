-- A sample for which the conferences have the slots may be appended where the files aren't too long then, and their size
-- is a number of 64 bits.
use Rattle.std.proofs.Common.{◌≡◌, ℕ, zero, suc, ◌+◌, ◌*◌, ◌^◌, ◌<◌, ◌≤◌, List, [], ◌∷◌, ◌++◌, length, get_or, sym, ◌∙◌, ap, subst, arith}
use Rattle.std.specs.Prelude.{All, Some, slice_get}
use Rattle.std.specs.Option.{option_map_or}
use Rattle.std.proofs.lemmas.List.Elements.{All-cons, All-head, All-nil, All-push, All-tail, All-weaker}
use Rattle.std.proofs.lemmas.Option.{slice_get-get_or}
use Rattle.board_layout.specs.Board.{Board}
use Rattle.board_layout.specs.Layout.{board_size}
use Rattle.board_layout.specs.Valid.{IsBoard, board_limit}
use Rattle.jam_layout.proofs.LayoutBounds.{size_at_most}
use Rattle.jam_layout.specs.Limits.{slot_limit}
use Rattle.jam_layout.specs.Messages.{IsMessage}
use Rattle.jam_records.specs.declared.message.Kind.{Kind}
use Rattle.jam_records.specs.declared.message.Kind.TheVariants.{Local}
use Rattle.jam_records.specs.declared.message.Message.{Message}
use Rattle.cmd_board.specs.mail_board.Changes.{Fits}
use Rattle.cmd_board.specs.mail_board.declared.change.Change.TheVariants.{Spread}
use Rattle.cmd_board.specs.Places.{kind_of_place}
use Rattle.board_layout.specs.Lookups.{slots_in}
use Rattle.board_layout.proofs.BoardLookups.{few_in_place}
use Rattle.packet_verdicts.proofs.PostLists.{few_in}
use Rattle.packet_verdicts.proofs.SpreadSizes.{spread_grows}
use Rattle.packet_verdicts.proofs.Spreading.{spread_count}
use Rattle.packet_verdicts.proofs.Steps.{spread_none}
use Rattle.packet_verdicts.proofs.Validity.{AreFit, fit_board, ids, no_conference}
use Rattle.packet_verdicts.specs.Views.{next_number}
use Rattle.post_changes.proofs.FitLaws.{held_in}
use Rattle.post_changes.specs.Posted.{MayHoldIn, posts_in, spread}
use Rattle.cmd_messages.proofs.MessageTexts.{may_hold}
use Rattle.cmd_messages.proofs.SampleLists.{are_placed, next_post, place_within, posts_count}
use Rattle.cmd_messages.specs.Sample.{sampled_posts}
use Rattle.packet_verdicts.specs.Typed.{IsTypedPost}
use Rattle.setup_file.specs.declared.conference.Conference.{Conference as SetupConference}
use Rattle.post_changes.proofs.slot_changes.SlotBytes.{message_size}
use Rattle.post_changes.specs.slot_changes.Msgids.{identified, msgid_in}
use Rattle.post_changes.specs.slot_changes.Values.{MayHold}

front_of_all : {A : Type 0} (P : A → Type 0) (xs : List A) (x : A) → All P (xs ++ x ∷ []) → All P xs
front_of_all P [] x all = All-nil P
front_of_all P (y ∷ xs) x all = All-cons P y xs (All-head P y (xs ++ x ∷ []) all) (front_of_all P xs x (All-tail P y (xs ++ x ∷ []) all))

last_of_all : {A : Type 0} (P : A → Type 0) (xs : List A) (x : A) → All P (xs ++ x ∷ []) → P x
last_of_all P [] x all = All-head P x [] all
last_of_all P (y ∷ xs) x all = last_of_all P xs x (All-tail P y (xs ++ x ∷ []) all)

small_message : (kind : Kind) (m : Message) → IsMessage kind m → message_size m ≤ 16874
small_message kind m is = let body = is.body in omega (arith, size_at_most kind m is, body)

-- the conference of the place of a post may hold its message
HoldsPost : Board → ℕ × Message → Type 0
HoldsPost b p = MayHold (kind_of_place p.0 b) p.1

module _ (seed now : ℕ) (b : Board) (ok : IsBoard b) (small : seed < 2 ^ 32) where
  all_hold : (n : ℕ) → n ≤ 5000 → All IsTypedPost (sampled_posts seed now b n) → All (HoldsPost b) (sampled_posts seed now b n)
  unfolding HoldsPost sampled_posts
  all_hold zero few typed = All-nil (HoldsPost b)
  all_hold (suc n) few typed =
      let posts : List (ℕ × Message) = sampled_posts seed now b n in
      let one : ℕ × Message = next_post seed now b n in
      All-push (HoldsPost b) posts one (all_hold n (omega (arith, few)) (front_of_all IsTypedPost posts one typed)) (may_hold seed now b n ok small (omega (arith, few)) (last_of_all IsTypedPost posts one typed))

  held : (n : ℕ) → n ≤ 5000 → All IsTypedPost (sampled_posts seed now b n) → (place : ℕ) (c : SetupConference) → slice_get b.ledger.setup.conferences place ≡ Some c → All (MayHold c.kind) (posts_in place (sampled_posts seed now b n))
  unfolding HoldsPost
  held n few typed place c is =
      let kind : kind_of_place place b ≡ c.kind = ap (λ o. option_map_or (λ (c : SetupConference). c.kind) o Local) is in
      held_in c.kind place (sampled_posts seed now b n)
      (All-weaker (HoldsPost b) (MayHoldIn c.kind place) (λ p holds same. subst (λ (k : Kind). MayHold k p.1) (ap (λ (j : ℕ). kind_of_place j b) same ∙ kind) holds) (sampled_posts seed now b n) (all_hold n few typed))

  -- ---- the size
  one_grows : (n : ℕ) → n < 5000 → IsTypedPost (next_post seed now b n)
      → board_size (spread (sampled_posts seed now b n ++ next_post seed now b n ∷ []) b) ≤ board_size (spread (sampled_posts seed now b n) b) + 16874
  one_grows n few typed =
      let posts : List (ℕ × Message) = sampled_posts seed now b n in
      let place : ℕ = (next_post seed now b n).0 in
      let m : Message = (next_post seed now b n).1 in
      let number : ℕ = next_number (spread posts b) place in
      let within : place < length b.ledger.setup.conferences = place_within seed now b n ok in
      let c : SetupConference = get_or b.ledger.setup.conferences place no_conference in
      let is : slice_get b.ledger.setup.conferences place ≡ Some c = slice_get-get_or b.ledger.setup.conferences place no_conference within in
      let low : number < 10 ^ 5 = omega (arith, spread_count b posts place ok within, few_in place posts, posts_count seed now b n, few_in_place b place ok, few) in
      let holds : MayHold (kind_of_place place b) m = may_hold seed now b n ok small few typed in
      omega (arith, spread_grows b posts place m ok within, small_message (kind_of_place place b) (identified (msgid_in place b number) m) (holds (msgid_in place b number) (ids b place c number ok is low)))

  grows : (n : ℕ) → n ≤ 5000 → All IsTypedPost (sampled_posts seed now b n) → board_size (spread (sampled_posts seed now b n) b) ≤ board_size (spread [] b) + 16874 * n
  unfolding sampled_posts
  grows zero few typed = omega arith
  grows (suc n) few typed =
      let posts : List (ℕ × Message) = sampled_posts seed now b n in
      let one : ℕ × Message = next_post seed now b n in
      omega (arith, grows n (omega (arith, few)) (front_of_all IsTypedPost posts one typed), one_grows n (omega (arith, few)) (last_of_all IsTypedPost posts one typed))

  module _ (n : ℕ) (few : n ≤ 5000) (posts : List (ℕ × Message)) (made : posts ≡ sampled_posts seed now b n) (typed : All IsTypedPost posts) where
    typed_all : All IsTypedPost (sampled_posts seed now b n)
    typed_all = subst (All IsTypedPost) made typed

    pub sample_short : board_size (spread posts b) < 2 ^ 64
    sample_short =
        let size : board_size (spread posts b) ≡ board_size (spread (sampled_posts seed now b n) b) = ap (λ (ps : List (ℕ × Message)). board_size (spread ps b)) made in
        let least = ok.small in
        omega (arith, size, grows n few typed_all, ap board_size (spread_none b ok), least, few)

    pub sample_fits : ((place : ℕ) → place < length b.ledger.setup.conferences → length (slots_in (spread posts b) place) ≤ slot_limit) → board_size (spread posts b) ≤ board_limit → Fits (Spread posts) b
    sample_fits slots size =
        let fit : AreFit b posts = record {
          held = λ place c is. subst (λ (ps : List (ℕ × Message)). All (MayHold c.kind) (posts_in place ps)) (sym made) (held n few typed_all place c is);
          few = λ place within. omega (arith, slots place within, spread_count b posts place ok within);
        } in
        (subst (λ (ps : List (ℕ × Message)). All (λ (p : ℕ × Message). p.0 < length b.conferences) ps) (sym made) (are_placed seed now b n ok), fit_board b posts ok fit size)
