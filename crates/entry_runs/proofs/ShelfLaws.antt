-- Laws of commands that reach the shelf alone.
use Rattle.std.proofs.Common.{◌≡◌, ◌≢◌, ℕ, List, [], ◌∷◌, ◌++◌, refl, sym, ◌∙◌, ap}
use Rattle.door_outside.specs.Shelf.{ShelfFiles, held, SameBut}
use Rattle.entry_runs.specs.Door.{World, IsLawful}
use Rattle.entry_runs.specs.Entry.{Reply, ShelfAct, on_shelf, looks}
use Rattle.entry_runs.specs.Runs.{Stepped}
use Rattle.entry_runs.specs.declared.class.Class.TheVariants.{Refused, Damaged}

-- what such a command gives, to be lawful
pub record IsLawfulOnShelf (act : ShelfAct) : Type 0 where
  pub within : (old new : ShelfFiles) (reply : Reply) → act.step old new reply → SameBut act.names old new
  pub says : (old new : ShelfFiles) (reply : Reply) → act.step old new reply → reply.text ≢ []
  pub refused : (old new : ShelfFiles) (reply : Reply) → act.step old new reply → reply.class ≡ Refused → new ≡ old
  pub undamaged : (old new : ShelfFiles) (reply : Reply) → act.step old new reply → reply.class ≢ Damaged
  pub one_shelf : (old new other : ShelfFiles) (reply answer : Reply) → act.step old new reply → act.step old other answer → new ≡ other
  pub one_reply : (old new other : ShelfFiles) (reply answer : Reply) → act.step old new reply → act.step old other answer → reply ≡ answer

abbrev reply_in : {State : Type 0} → Stepped (World State) → Reply
reply_in stepped = record { text = stepped.reply; class = stepped.class }

pub lawful_on_shelf : {State : Type 0} (act : ShelfAct) → IsLawfulOnShelf act → IsLawful (on_shelf {State = State} act)
lawful_on_shelf {State} act laws = record {
  leaves_board = λ off world stepped step. step.1;
  within_reach = λ world stepped step. laws.within world.shelf stepped.world.shelf (reply_in stepped) step.0;
  says_something = λ world stepped step. laws.says world.shelf stepped.world.shelf (reply_in stepped) step.0;
  refusals_change_nothing = λ world stepped step refused i. record {
    state = step.1 i;
    shelf = laws.refused world.shelf stepped.world.shelf (reply_in stepped) step.0 refused i;
  };
  same_migrated = λ world stepped. ((λ step. step), (λ step. step));
  migrated_once = λ state. refl;
  leaves_migrated = λ touched world stepped step. refl;
  damage_of_board = λ world stepped step damaged. absurd (laws.undamaged world.shelf stepped.world.shelf (reply_in stepped) step.0 damaged);
  one_outcome = λ world one other first second.
      let shelf = laws.one_shelf world.shelf one.world.shelf other.world.shelf (reply_in one) (reply_in other) first.0 second.0 in
      let reply = laws.one_reply world.shelf one.world.shelf other.world.shelf (reply_in one) (reply_in other) first.0 second.0 in
      let state : one.world.state ≡ other.world.state = first.1 ∙ sym second.1 in
      λ i. record { world = record { state = state i; shelf = shelf i }; reply = (reply i).text; class = (reply i).class };
}

-- what only looks is lawful where it says one thing, and something, and never damage
pub lawful_look : (answers : ShelfFiles → Reply → Type 0) → ((shelf : ShelfFiles) (reply : Reply) → answers shelf reply → reply.text ≢ [])
    → ((shelf : ShelfFiles) (reply : Reply) → answers shelf reply → reply.class ≢ Damaged)
    → ((shelf : ShelfFiles) (one other : Reply) → answers shelf one → answers shelf other → one ≡ other) → IsLawfulOnShelf (looks answers)
lawful_look answers some undamaged one = record {
  within = λ old new reply step name other. ap (λ (files : ShelfFiles). held files name) step.0;
  says = λ old new reply step. some old reply step.1;
  refused = λ old new reply step is. step.0;
  undamaged = λ old new reply step. undamaged old reply step.1;
  one_shelf = λ old new other reply answer first second. first.0 ∙ sym second.0;
  one_reply = λ old new other reply answer first second. one old reply answer first.1 second.1;
}

-- what only says one thing
pub lawful_saying : (reply : Reply) → reply.text ≢ [] → reply.class ≢ Damaged → IsLawfulOnShelf (looks (λ shelf answer. answer ≡ reply))
lawful_saying reply some undamaged = lawful_look _ (λ shelf answer is none. some (ap (λ (r : Reply). r.text) (sym is) ∙ none))
    (λ shelf answer is damaged. undamaged (ap (λ (r : Reply). r.class) (sym is) ∙ damaged)) (λ shelf one other first second. first ∙ sym second)

-- one text behind another is something where the other is
pub some_behind : (a b : List ℕ) → b ≢ [] → a ++ b ≢ []
some_behind [] b some is = some is
some_behind (x ∷ a) b some is = absurd (cc is)
