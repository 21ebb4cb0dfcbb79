-- A command that changes the board and then writes the shelf is lawful, and answers damage only on files that are no
-- board's.
use Rattle.std.proofs.Common.{◌≡◌, ◌≢◌, ℕ, List, [], Option, Some, None, refl, sym, ◌∙◌, ap, subst}
use Rattle.std.proofs.lemmas.Bool.{true≢false}
use Rattle.std.specs.Prelude.{◌↔◌}
use Rattle.cmd_board.proofs.BoardActs.{KeepsState, made_migrated, migrated_once}
use Rattle.cmd_board.specs.Damages.{damaged}
use Rattle.cmd_board.specs.State.{State, NotMade, Made, Old, Spoiled, IsSpoiled, migrated, state_of}
use Rattle.cmd_board.specs.Turns.{SaysDamage}
use Rattle.board_layout.specs.Board.{Board}
use Rattle.door_outside.specs.Shelf.{ShelfFiles, held, SameBut}
use Rattle.entry_runs.specs.Door.{World, IsLawful}
use Rattle.entry_runs.specs.Entry.{Reply}
use Rattle.entry_runs.specs.Runs.{Stepped}
use Rattle.entry_runs.specs.declared.class.Class.TheVariants as class
use Rattle.intent_journal.specs.Patches as Data
use Rattle.cmd_exchange.specs.Handing.{Handing, HandsOnState, on_board_then_shelf}

-- what the handings of a command give, for it to be lawful
pub record AreHandings (names : List (List ℕ)) (hands : ShelfFiles → Option Board → Handing → Type 0) : Type 0 where
  pub says : (shelf : ShelfFiles) (board : Option Board) (h : Handing) → hands shelf board h → h.reply.text ≢ []
  pub refused_board : (shelf : ShelfFiles) (board : Option Board) (h : Handing) → hands shelf board h → h.reply.class ≡ class.Refused → h.board ≡ board
  pub refused_shelf : (shelf : ShelfFiles) (board : Option Board) (h : Handing) → hands shelf board h → h.reply.class ≡ class.Refused → h.shelf ≡ shelf
  pub undamaged : (shelf : ShelfFiles) (board : Option Board) (h : Handing) → hands shelf board h → h.reply.class ≢ class.Damaged
  pub within : (shelf : ShelfFiles) (board : Option Board) (h : Handing) → hands shelf board h → SameBut names shelf h.shelf
  pub one_handing : (shelf : ShelfFiles) (board : Option Board) (one other : Handing) → hands shelf board one → hands shelf board other → one ≡ other

made_unspoiled : {P : Type 0} (board : Option Board) → IsSpoiled (state_of board) → P
made_unspoiled None spoiled = absurd spoiled
made_unspoiled (Some b) spoiled = absurd spoiled

damage_is : (files : Data.HostFiles) (one other : Reply) → SaysDamage files one → SaysDamage files other → one ≡ other
damage_is files one other first second =
    let same : Some first.0 ≡ Some second.0 = sym first.1 ∙ second.1 in
    let damage : first.0 ≡ second.0 = cc in
    first.2 ∙ (ap damaged damage ∙ sym second.2)

module _ (names : List (List ℕ)) (hands : ShelfFiles → Option Board → Handing → Type 0) (laws : AreHandings names hands) where
  says : (shelf later : ShelfFiles) (s next : State) (reply : Reply) → HandsOnState (hands shelf) s shelf next later reply → reply.text ≢ []
  says shelf later NotMade next reply step none = laws.says shelf None step.0 step.1 (ap (λ (r : Reply). r.text) (sym step.4) ∙ none)
  says shelf later (Made b) next reply step none = laws.says shelf (Some b) step.0 step.1 (ap (λ (r : Reply). r.text) (sym step.4) ∙ none)
  says shelf later (Old b) next reply step none = laws.says shelf (Some b) step.0 step.1 (ap (λ (r : Reply). r.text) (sym step.4) ∙ none)
  says shelf later (Spoiled files) next reply step none = let text : (damaged step.2.0).text ≡ [] = ap (λ (r : Reply). r.text) (sym step.2.2) ∙ none in absurd (cc text)

  refused_state : (shelf later : ShelfFiles) (s next : State) (reply : Reply) → HandsOnState (hands shelf) s shelf next later reply → reply.class ≡ class.Refused → next ≡ migrated s
  refused_state shelf later NotMade next reply step is = step.2 ∙ ap state_of (laws.refused_board shelf None step.0 step.1 (ap (λ (r : Reply). r.class) (sym step.4) ∙ is))
  refused_state shelf later (Made b) next reply step is = step.2 ∙ ap state_of (laws.refused_board shelf (Some b) step.0 step.1 (ap (λ (r : Reply). r.class) (sym step.4) ∙ is))
  refused_state shelf later (Old b) next reply step is = step.2 ∙ ap state_of (laws.refused_board shelf (Some b) step.0 step.1 (ap (λ (r : Reply). r.class) (sym step.4) ∙ is))
  refused_state shelf later (Spoiled files) next reply step is = step.0

  refused_files : (shelf later : ShelfFiles) (s next : State) (reply : Reply) → HandsOnState (hands shelf) s shelf next later reply → reply.class ≡ class.Refused → later ≡ shelf
  refused_files shelf later NotMade next reply step is = step.3 ∙ laws.refused_shelf shelf None step.0 step.1 (ap (λ (r : Reply). r.class) (sym step.4) ∙ is)
  refused_files shelf later (Made b) next reply step is = step.3 ∙ laws.refused_shelf shelf (Some b) step.0 step.1 (ap (λ (r : Reply). r.class) (sym step.4) ∙ is)
  refused_files shelf later (Old b) next reply step is = step.3 ∙ laws.refused_shelf shelf (Some b) step.0 step.1 (ap (λ (r : Reply). r.class) (sym step.4) ∙ is)
  refused_files shelf later (Spoiled files) next reply step is = step.1

  same_but : (shelf later : ShelfFiles) (s next : State) (reply : Reply) → HandsOnState (hands shelf) s shelf next later reply → SameBut names shelf later
  same_but shelf later NotMade next reply step = subst (SameBut names shelf) (sym step.3) (laws.within shelf None step.0 step.1)
  same_but shelf later (Made b) next reply step = subst (SameBut names shelf) (sym step.3) (laws.within shelf (Some b) step.0 step.1)
  same_but shelf later (Old b) next reply step = subst (SameBut names shelf) (sym step.3) (laws.within shelf (Some b) step.0 step.1)
  same_but shelf later (Spoiled files) next reply step = λ name other. ap (λ (f : ShelfFiles). held f name) step.1

  spoiled_only : (shelf later : ShelfFiles) (s next : State) (reply : Reply) → HandsOnState (hands shelf) s shelf next later reply → reply.class ≡ class.Damaged → IsSpoiled s
  spoiled_only shelf later NotMade next reply step is = absurd (laws.undamaged shelf None step.0 step.1 (ap (λ (r : Reply). r.class) (sym step.4) ∙ is))
  spoiled_only shelf later (Made b) next reply step is = absurd (laws.undamaged shelf (Some b) step.0 step.1 (ap (λ (r : Reply). r.class) (sym step.4) ∙ is))
  spoiled_only shelf later (Old b) next reply step is = absurd (laws.undamaged shelf (Some b) step.0 step.1 (ap (λ (r : Reply). r.class) (sym step.4) ∙ is))
  spoiled_only shelf later (Spoiled files) next reply step is = tt

  spoiled_still : (shelf later : ShelfFiles) (s next : State) (reply : Reply) → HandsOnState (hands shelf) s shelf next later reply → IsSpoiled next → IsSpoiled s
  spoiled_still shelf later NotMade next reply step spoiled = made_unspoiled step.0.board (subst IsSpoiled step.2 spoiled)
  spoiled_still shelf later (Made b) next reply step spoiled = made_unspoiled step.0.board (subst IsSpoiled step.2 spoiled)
  spoiled_still shelf later (Old b) next reply step spoiled = made_unspoiled step.0.board (subst IsSpoiled step.2 spoiled)
  spoiled_still shelf later (Spoiled files) next reply step spoiled = tt

  state_is : (shelf f g : ShelfFiles) (s one other : State) (r q : Reply) → HandsOnState (hands shelf) s shelf one f r → HandsOnState (hands shelf) s shelf other g q → one ≡ other
  state_is shelf f g NotMade one other r q first second = first.2 ∙ (ap (λ (h : Handing). state_of h.board) (laws.one_handing shelf None first.0 second.0 first.1 second.1) ∙ sym second.2)
  state_is shelf f g (Made b) one other r q first second = first.2 ∙ (ap (λ (h : Handing). state_of h.board) (laws.one_handing shelf (Some b) first.0 second.0 first.1 second.1) ∙ sym second.2)
  state_is shelf f g (Old b) one other r q first second = first.2 ∙ (ap (λ (h : Handing). state_of h.board) (laws.one_handing shelf (Some b) first.0 second.0 first.1 second.1) ∙ sym second.2)
  state_is shelf f g (Spoiled files) one other r q first second = first.0 ∙ sym second.0

  files_are : (shelf f g : ShelfFiles) (s one other : State) (r q : Reply) → HandsOnState (hands shelf) s shelf one f r → HandsOnState (hands shelf) s shelf other g q → f ≡ g
  files_are shelf f g NotMade one other r q first second = first.3 ∙ (ap (λ (h : Handing). h.shelf) (laws.one_handing shelf None first.0 second.0 first.1 second.1) ∙ sym second.3)
  files_are shelf f g (Made b) one other r q first second = first.3 ∙ (ap (λ (h : Handing). h.shelf) (laws.one_handing shelf (Some b) first.0 second.0 first.1 second.1) ∙ sym second.3)
  files_are shelf f g (Old b) one other r q first second = first.3 ∙ (ap (λ (h : Handing). h.shelf) (laws.one_handing shelf (Some b) first.0 second.0 first.1 second.1) ∙ sym second.3)
  files_are shelf f g (Spoiled files) one other r q first second = first.1 ∙ sym second.1

  reply_is : (shelf f g : ShelfFiles) (s one other : State) (r q : Reply) → HandsOnState (hands shelf) s shelf one f r → HandsOnState (hands shelf) s shelf other g q → r ≡ q
  reply_is shelf f g NotMade one other r q first second = first.4 ∙ (ap (λ (h : Handing). h.reply) (laws.one_handing shelf None first.0 second.0 first.1 second.1) ∙ sym second.4)
  reply_is shelf f g (Made b) one other r q first second = first.4 ∙ (ap (λ (h : Handing). h.reply) (laws.one_handing shelf (Some b) first.0 second.0 first.1 second.1) ∙ sym second.4)
  reply_is shelf f g (Old b) one other r q first second = first.4 ∙ (ap (λ (h : Handing). h.reply) (laws.one_handing shelf (Some b) first.0 second.0 first.1 second.1) ∙ sym second.4)
  reply_is shelf f g (Spoiled files) one other r q first second = damage_is files r q first.2 second.2

  abbrev reply_in : Stepped (World State) → Reply
  reply_in stepped = record { text = stepped.reply; class = stepped.class }

  same_migrated : (shelf later : ShelfFiles) (s next : State) (reply : Reply) → HandsOnState (hands shelf) (migrated s) shelf next later reply ↔ HandsOnState (hands shelf) s shelf next later reply
  same_migrated shelf later NotMade next reply = ((λ step. step), (λ step. step))
  same_migrated shelf later (Made b) next reply = ((λ step. step), (λ step. step))
  same_migrated shelf later (Old b) next reply = ((λ step. step), (λ step. step))
  same_migrated shelf later (Spoiled files) next reply = ((λ step. step), (λ step. step))

  left_migrated : (shelf later : ShelfFiles) (s next : State) (reply : Reply) → HandsOnState (hands shelf) s shelf next later reply → migrated next ≡ next
  left_migrated shelf later NotMade next reply step = subst (λ (n : State). migrated n ≡ n) (sym step.2) (made_migrated step.0.board)
  left_migrated shelf later (Made b) next reply step = subst (λ (n : State). migrated n ≡ n) (sym step.2) (made_migrated step.0.board)
  left_migrated shelf later (Old b) next reply step = subst (λ (n : State). migrated n ≡ n) (sym step.2) (made_migrated step.0.board)
  left_migrated shelf later (Spoiled files) next reply step = subst (λ (n : State). migrated n ≡ n) (sym step.0) refl

  pub lawful_handing : IsLawful (on_board_then_shelf names hands)
  lawful_handing = record {
    leaves_board = λ off. absurd (true≢false off);
    within_reach = λ world stepped step. same_but world.shelf stepped.world.shelf world.state stepped.world.state (reply_in stepped) step;
    says_something = λ world stepped step. says world.shelf stepped.world.shelf world.state stepped.world.state (reply_in stepped) step;
    refusals_change_nothing = λ world stepped step is i. record {
      state = refused_state world.shelf stepped.world.shelf world.state stepped.world.state (reply_in stepped) step is i;
      shelf = refused_files world.shelf stepped.world.shelf world.state stepped.world.state (reply_in stepped) step is i;
    };
    same_migrated = λ world stepped. same_migrated world.shelf stepped.world.shelf world.state stepped.world.state (reply_in stepped);
    migrated_once = migrated_once;
    leaves_migrated = λ touched world stepped step. left_migrated world.shelf stepped.world.shelf world.state stepped.world.state (reply_in stepped) step;
    damage_of_board = λ world stepped step is. refl;
    one_outcome = λ world one other first second.
        let state = state_is world.shelf one.world.shelf other.world.shelf world.state one.world.state other.world.state (reply_in one) (reply_in other) first second in
        let shelf = files_are world.shelf one.world.shelf other.world.shelf world.state one.world.state other.world.state (reply_in one) (reply_in other) first second in
        let reply = reply_is world.shelf one.world.shelf other.world.shelf world.state one.world.state other.world.state (reply_in one) (reply_in other) first second in
        λ i. record { world = record { state = state i; shelf = shelf i }; reply = (reply i).text; class = (reply i).class };
  }

  pub keeps_handing : KeepsState (on_board_then_shelf names hands)
  keeps_handing = record {
    only_spoiled = λ world stepped step is. spoiled_only world.shelf stepped.world.shelf world.state stepped.world.state (reply_in stepped) step is;
    still_spoiled = λ world stepped step spoiled. spoiled_still world.shelf stepped.world.shelf world.state stepped.world.state (reply_in stepped) step spoiled;
  }
