-- The commands that touch the board are lawful, and answer damage only on files that are no board's.
use Rattle.std.proofs.Common.{◌≡◌, ◌≢◌, ℕ, List, [], Option, Some, None, Result, Ok, Err, Bool, refl, sym, ◌∙◌, ap, subst}
use Rattle.std.proofs.lemmas.Bool.{true≢false}
use Rattle.std.specs.Prelude.{◌↔◌}
use Rattle.std.specs.Str.Lines.{lines}
use Rattle.door_outside.specs.Shelf as Shelf
use Rattle.entry_runs.specs.Door.{World, Act, IsLawful}
use Rattle.entry_runs.specs.Entry.{Reply}
use Rattle.entry_runs.specs.Runs.{Stepped}
use Rattle.entry_runs.specs.declared.class.Class.TheVariants as class
use Rattle.intent_journal.specs.Patches.{HostFiles}
use Rattle.board_layout.specs.Board.{Board}
use Rattle.cmd_words.proofs.ChoiceLaws.{choice_unique}
use Rattle.cmd_words.specs.declared.choice.Choice.{Choice}
use Rattle.setup_file.proofs.Readings.{one_reading}
use Rattle.setup_file.proofs.Single.{line_once, rule_once, no_fault}
use Rattle.setup_file.specs.Reads.{SetupReads}
use Rattle.setup_file.specs.declared.error.SetupRule.{SetupRule}
use Rattle.setup_file.specs.declared.fields.SetupFields.{SetupFields}
use Rattle.shelf_files.proofs.Replies.{read_unique, some_refusal}
use Rattle.shelf_files.specs.declared.refusal.Refusal.{Refusal}
use Rattle.shelf_files.specs.declared.refusal.Refusal.TheVariants as refusal
use Rattle.shelf_files.specs.ShelfFile.{file_within, file_limit}
use Rattle.cmd_board.specs.Check.{checked}
use Rattle.cmd_board.specs.Damages.{damaged}
use Rattle.cmd_board.specs.Enroll.{Enrolls, is_net_flag, enroll_refusals, enroll_turn, enrolling, first_refusal}
use Rattle.cmd_board.specs.Init.{Inits, BreaksSetup, made_of, SetupOf}
use Rattle.cmd_board.specs.State.{State, NotMade, Made, Old, Spoiled, IsSpoiled, migrated, state_of}
use Rattle.cmd_board.specs.Turns.{Turn, OnState, SaysDamage, on_board}

-- what the turns of a command give, for it to be lawful
pub record AreTurns (turns : Shelf.ShelfFiles → Option Board → Turn → Type 0) : Type 0 where
  pub says : (shelf : Shelf.ShelfFiles) (board : Option Board) (turn : Turn) → turns shelf board turn → turn.reply.text ≢ []
  pub refused : (shelf : Shelf.ShelfFiles) (board : Option Board) (turn : Turn) → turns shelf board turn → turn.reply.class ≡ class.Refused → turn.board ≡ board
  pub undamaged : (shelf : Shelf.ShelfFiles) (board : Option Board) (turn : Turn) → turns shelf board turn → turn.reply.class ≢ class.Damaged
  pub one_turn : (shelf : Shelf.ShelfFiles) (board : Option Board) (one other : Turn) → turns shelf board one → turns shelf board other → one ≡ other

-- what else a run takes of an entry: damage is answered on spoiled files alone, and none spoils them
pub record KeepsState (act : Act State) : Type 0 where
  pub only_spoiled : (world : World State) (stepped : Stepped (World State)) → act.Step world stepped → stepped.class ≡ class.Damaged → IsSpoiled world.state
  pub still_spoiled : (world : World State) (stepped : Stepped (World State)) → act.Step world stepped → IsSpoiled stepped.world.state → IsSpoiled world.state

pub migrated_once : (s : State) → migrated (migrated s) ≡ migrated s
migrated_once NotMade = refl
migrated_once (Made b) = refl
migrated_once (Old b) = refl
migrated_once (Spoiled held) = refl

-- what is made is in files of today's version
pub made_migrated : (board : Option Board) → migrated (state_of board) ≡ state_of board
made_migrated None = refl
made_migrated (Some b) = refl

made_unspoiled : {P : Type 0} (board : Option Board) → IsSpoiled (state_of board) → P
made_unspoiled None spoiled = absurd spoiled
made_unspoiled (Some b) spoiled = absurd spoiled

damage_is : (held : HostFiles) (one other : Reply) → SaysDamage held one → SaysDamage held other → one ≡ other
damage_is held one other first second =
    let same : Some first.0 ≡ Some second.0 = sym first.1 ∙ second.1 in
    let damage : first.0 ≡ second.0 = cc in
    first.2 ∙ (ap damaged damage ∙ sym second.2)

module _ (turns : Shelf.ShelfFiles → Option Board → Turn → Type 0) (laws : AreTurns turns) where
  says : (shelf : Shelf.ShelfFiles) (s next : State) (reply : Reply) → OnState (turns shelf) s next reply → reply.text ≢ []
  says shelf NotMade next reply step none = laws.says shelf None step.0 step.1 (ap (λ (r : Reply). r.text) (sym step.3) ∙ none)
  says shelf (Made b) next reply step none = laws.says shelf (Some b) step.0 step.1 (ap (λ (r : Reply). r.text) (sym step.3) ∙ none)
  says shelf (Old b) next reply step none = laws.says shelf (Some b) step.0 step.1 (ap (λ (r : Reply). r.text) (sym step.3) ∙ none)
  says shelf (Spoiled held) next reply step none = let text : (damaged step.1.0).text ≡ [] = ap (λ (r : Reply). r.text) (sym step.1.2) ∙ none in absurd (cc text)

  refused : (shelf : Shelf.ShelfFiles) (s next : State) (reply : Reply) → OnState (turns shelf) s next reply → reply.class ≡ class.Refused → next ≡ migrated s
  refused shelf NotMade next reply step is = step.2 ∙ ap state_of (laws.refused shelf None step.0 step.1 (ap (λ (r : Reply). r.class) (sym step.3) ∙ is))
  refused shelf (Made b) next reply step is = step.2 ∙ ap state_of (laws.refused shelf (Some b) step.0 step.1 (ap (λ (r : Reply). r.class) (sym step.3) ∙ is))
  refused shelf (Old b) next reply step is = step.2 ∙ ap state_of (laws.refused shelf (Some b) step.0 step.1 (ap (λ (r : Reply). r.class) (sym step.3) ∙ is))
  refused shelf (Spoiled held) next reply step is = step.0

  spoiled_only : (shelf : Shelf.ShelfFiles) (s next : State) (reply : Reply) → OnState (turns shelf) s next reply → reply.class ≡ class.Damaged → IsSpoiled s
  spoiled_only shelf NotMade next reply step is = absurd (laws.undamaged shelf None step.0 step.1 (ap (λ (r : Reply). r.class) (sym step.3) ∙ is))
  spoiled_only shelf (Made b) next reply step is = absurd (laws.undamaged shelf (Some b) step.0 step.1 (ap (λ (r : Reply). r.class) (sym step.3) ∙ is))
  spoiled_only shelf (Old b) next reply step is = absurd (laws.undamaged shelf (Some b) step.0 step.1 (ap (λ (r : Reply). r.class) (sym step.3) ∙ is))
  spoiled_only shelf (Spoiled held) next reply step is = tt

  spoiled_still : (shelf : Shelf.ShelfFiles) (s next : State) (reply : Reply) → OnState (turns shelf) s next reply → IsSpoiled next → IsSpoiled s
  spoiled_still shelf NotMade next reply step spoiled = made_unspoiled step.0.board (subst IsSpoiled step.2 spoiled)
  spoiled_still shelf (Made b) next reply step spoiled = made_unspoiled step.0.board (subst IsSpoiled step.2 spoiled)
  spoiled_still shelf (Old b) next reply step spoiled = made_unspoiled step.0.board (subst IsSpoiled step.2 spoiled)
  spoiled_still shelf (Spoiled held) next reply step spoiled = tt

  next_is : (shelf : Shelf.ShelfFiles) (s one other : State) (r q : Reply) → OnState (turns shelf) s one r → OnState (turns shelf) s other q → one ≡ other
  next_is shelf NotMade one other r q first second = first.2 ∙ (ap (λ (t : Turn). state_of t.board) (laws.one_turn shelf None first.0 second.0 first.1 second.1) ∙ sym second.2)
  next_is shelf (Made b) one other r q first second = first.2 ∙ (ap (λ (t : Turn). state_of t.board) (laws.one_turn shelf (Some b) first.0 second.0 first.1 second.1) ∙ sym second.2)
  next_is shelf (Old b) one other r q first second = first.2 ∙ (ap (λ (t : Turn). state_of t.board) (laws.one_turn shelf (Some b) first.0 second.0 first.1 second.1) ∙ sym second.2)
  next_is shelf (Spoiled held) one other r q first second = first.0 ∙ sym second.0

  reply_is : (shelf : Shelf.ShelfFiles) (s one other : State) (r q : Reply) → OnState (turns shelf) s one r → OnState (turns shelf) s other q → r ≡ q
  reply_is shelf NotMade one other r q first second = first.3 ∙ (ap (λ (t : Turn). t.reply) (laws.one_turn shelf None first.0 second.0 first.1 second.1) ∙ sym second.3)
  reply_is shelf (Made b) one other r q first second = first.3 ∙ (ap (λ (t : Turn). t.reply) (laws.one_turn shelf (Some b) first.0 second.0 first.1 second.1) ∙ sym second.3)
  reply_is shelf (Old b) one other r q first second = first.3 ∙ (ap (λ (t : Turn). t.reply) (laws.one_turn shelf (Some b) first.0 second.0 first.1 second.1) ∙ sym second.3)
  reply_is shelf (Spoiled held) one other r q first second = damage_is held r q first.1 second.1

  abbrev reply_in : Stepped (World State) → Reply
  reply_in stepped = record { text = stepped.reply; class = stepped.class }

  same_migrated : (shelf : Shelf.ShelfFiles) (s next : State) (reply : Reply) → OnState (turns shelf) (migrated s) next reply ↔ OnState (turns shelf) s next reply
  same_migrated shelf NotMade next reply = ((λ step. step), (λ step. step))
  same_migrated shelf (Made b) next reply = ((λ step. step), (λ step. step))
  same_migrated shelf (Old b) next reply = ((λ step. step), (λ step. step))
  same_migrated shelf (Spoiled held) next reply = ((λ step. step), (λ step. step))

  left_migrated : (shelf : Shelf.ShelfFiles) (s next : State) (reply : Reply) → OnState (turns shelf) s next reply → migrated next ≡ next
  left_migrated shelf NotMade next reply step = subst (λ (n : State). migrated n ≡ n) (sym step.2) (made_migrated step.0.board)
  left_migrated shelf (Made b) next reply step = subst (λ (n : State). migrated n ≡ n) (sym step.2) (made_migrated step.0.board)
  left_migrated shelf (Old b) next reply step = subst (λ (n : State). migrated n ≡ n) (sym step.2) (made_migrated step.0.board)
  left_migrated shelf (Spoiled held) next reply step = subst (λ (n : State). migrated n ≡ n) (sym step.0) refl

  pub lawful_on_board : IsLawful (on_board turns)
  lawful_on_board = record {
    leaves_board = λ off. absurd (true≢false off);
    within_reach = λ world stepped step name other. ap (λ (files : Shelf.ShelfFiles). Shelf.held files name) step.0;
    says_something = λ world stepped step. says world.shelf world.state stepped.world.state (reply_in stepped) step.1;
    refusals_change_nothing = λ world stepped step is i. record {
      state = refused world.shelf world.state stepped.world.state (reply_in stepped) step.1 is i;
      shelf = step.0 i;
    };
    same_migrated = λ world stepped.
        let same = same_migrated world.shelf world.state stepped.world.state (reply_in stepped) in
        ((λ step. (step.0, same.0 step.1)), (λ step. (step.0, same.1 step.1)));
    migrated_once = migrated_once;
    leaves_migrated = λ touched world stepped step. left_migrated world.shelf world.state stepped.world.state (reply_in stepped) step.1;
    damage_of_board = λ world stepped step is. refl;
    one_outcome = λ world one other first second.
        let shelf : one.world.shelf ≡ other.world.shelf = first.0 ∙ sym second.0 in
        let state = next_is world.shelf world.state one.world.state other.world.state (reply_in one) (reply_in other) first.1 second.1 in
        let reply = reply_is world.shelf world.state one.world.state other.world.state (reply_in one) (reply_in other) first.1 second.1 in
        λ i. record { world = record { state = state i; shelf = shelf i }; reply = (reply i).text; class = (reply i).class };
  }

  pub keeps_state : KeepsState (on_board turns)
  keeps_state = record {
    only_spoiled = λ world stepped step is. spoiled_only world.shelf world.state stepped.world.state (reply_in stepped) step.1 is;
    still_spoiled = λ world stepped step spoiled. spoiled_still world.shelf world.state stepped.world.state (reply_in stepped) step.1 spoiled;
  }

-- ---- check
checked_says : (board : Option Board) → (checked board).reply.text ≢ []
checked_says None is = some_refusal refusal.NotMade is
checked_says (Some b) is = absurd (cc is)

checked_keeps : (board : Option Board) → (checked board).board ≡ board
checked_keeps None = refl
checked_keeps (Some b) = refl

checked_sound : (board : Option Board) → (checked board).reply.class ≢ class.Damaged
checked_sound None is = absurd (cc is)
checked_sound (Some b) is = absurd (cc is)

pub check_turns : AreTurns (λ shelf board turn. turn ≡ checked board)
check_turns = record {
  says = λ shelf board turn is none. checked_says board (ap (λ (t : Turn). t.reply.text) (sym is) ∙ none);
  refused = λ shelf board turn is class_is. ap (λ (t : Turn). t.board) is ∙ checked_keeps board;
  undamaged = λ shelf board turn is class_is. checked_sound board (ap (λ (t : Turn). t.reply.class) (sym is) ∙ class_is);
  one_turn = λ shelf board one other first second. first ∙ sym second;
}

-- ---- enroll
enrolling_says : (name : List ℕ) (net : Bool) (choice : Choice) (b : Board) (why : Option Refusal) → (enrolling name net choice b why).reply.text ≢ []
enrolling_says name net choice b (Some why) is = some_refusal why is
enrolling_says name net choice b None is = absurd (cc is)

enrolling_keeps : (name : List ℕ) (net : Bool) (choice : Choice) (b : Board) (why : Option Refusal) → (enrolling name net choice b why).reply.class ≡ class.Refused → (enrolling name net choice b why).board ≡ Some b
enrolling_keeps name net choice b (Some why) is = refl
enrolling_keeps name net choice b None is = absurd (cc is)

enrolling_sound : (name : List ℕ) (net : Bool) (choice : Choice) (b : Board) (why : Option Refusal) → (enrolling name net choice b why).reply.class ≢ class.Damaged
enrolling_sound name net choice b (Some why) is = absurd (cc is)
enrolling_sound name net choice b None is = absurd (cc is)

module _ (name : List ℕ) (net : Bool) (choice : Choice) where
  enroll_says : (board : Option Board) → (enroll_turn name net choice board).reply.text ≢ []
  enroll_says None = some_refusal refusal.NotMade
  enroll_says (Some b) = enrolling_says name net choice b (first_refusal (enroll_refusals name net choice b))

  enroll_keeps : (board : Option Board) → (enroll_turn name net choice board).reply.class ≡ class.Refused → (enroll_turn name net choice board).board ≡ board
  enroll_keeps None is = refl
  enroll_keeps (Some b) is = enrolling_keeps name net choice b (first_refusal (enroll_refusals name net choice b)) is

  enroll_sound : (board : Option Board) → (enroll_turn name net choice board).reply.class ≢ class.Damaged
  enroll_sound None is = absurd (cc is)
  enroll_sound (Some b) is = enrolling_sound name net choice b (first_refusal (enroll_refusals name net choice b)) is

pub enroll_turns : (name flags conferences : List ℕ) → AreTurns (λ shelf. Enrolls name flags conferences)
enroll_turns name flags conferences = record {
  says = λ shelf board turn is none. enroll_says name (is_net_flag flags) is.0 board (ap (λ (t : Turn). t.reply.text) (sym is.2) ∙ none);
  refused = λ shelf board turn is class_is. ap (λ (t : Turn). t.board) is.2 ∙ enroll_keeps name (is_net_flag flags) is.0 board (ap (λ (t : Turn). t.reply.class) (sym is.2) ∙ class_is);
  undamaged = λ shelf board turn is class_is. enroll_sound name (is_net_flag flags) is.0 board (ap (λ (t : Turn). t.reply.class) (sym is.2) ∙ class_is);
  one_turn = λ shelf board one other first second.
      first.2 ∙ (ap (λ (c : Choice). enroll_turn name (is_net_flag flags) c board) (choice_unique conferences first.0 second.0 first.1 second.1) ∙ sym second.2);
}

-- ---- init
fault_once : (bytes : List ℕ) (f g : ℕ × SetupRule) → BreaksSetup bytes f → BreaksSetup bytes g → f ≡ g
fault_once bytes f g x y =
    let line = line_once (lines bytes) f.0 g.0 f.1 g.1 x y in
    let rule = rule_once (lines bytes) f.0 g.0 f.1 g.1 x y in
    λ i. (line i, rule i)

setup_unique : (shelf : Shelf.ShelfFiles) (name : List ℕ) (a b : Result SetupFields Refusal) → SetupOf shelf name a → SetupOf shelf name b → a ≡ b
setup_unique shelf name =
    read_unique SetupReads BreaksSetup (λ (fault : ℕ × SetupRule). refusal.Setup fault.0 fault.1) (λ (bytes : List ℕ). one_reading (lines bytes)) fault_once
    (λ (bytes : List ℕ) (setup : SetupFields) (fault : ℕ × SetupRule). no_fault (lines bytes) setup fault.0 fault.1) (file_within shelf name file_limit)

init_says : (now : ℕ) (read : Result SetupFields Refusal) → (made_of now read).reply.text ≢ []
init_says now (Ok setup) is = absurd (cc is)
init_says now (Err why) is = some_refusal why is

init_keeps : (now : ℕ) (read : Result SetupFields Refusal) → (made_of now read).reply.class ≡ class.Refused → (made_of now read).board ≡ None
init_keeps now (Ok setup) is = absurd (cc is)
init_keeps now (Err why) is = refl

init_sound : (now : ℕ) (read : Result SetupFields Refusal) → (made_of now read).reply.class ≢ class.Damaged
init_sound now (Ok setup) is = absurd (cc is)
init_sound now (Err why) is = absurd (cc is)

module _ (file : List ℕ) (now : ℕ) where
  inits_says : (shelf : Shelf.ShelfFiles) (board : Option Board) (turn : Turn) → Inits file now shelf board turn → turn.reply.text ≢ []
  inits_says shelf None turn is none = init_says now is.0 (ap (λ (t : Turn). t.reply.text) (sym is.2) ∙ none)
  inits_says shelf (Some b) turn is none = some_refusal refusal.Exists (ap (λ (t : Turn). t.reply.text) (sym is) ∙ none)

  inits_keeps : (shelf : Shelf.ShelfFiles) (board : Option Board) (turn : Turn) → Inits file now shelf board turn → turn.reply.class ≡ class.Refused → turn.board ≡ board
  inits_keeps shelf None turn is class_is = ap (λ (t : Turn). t.board) is.2 ∙ init_keeps now is.0 (ap (λ (t : Turn). t.reply.class) (sym is.2) ∙ class_is)
  inits_keeps shelf (Some b) turn is class_is = ap (λ (t : Turn). t.board) is

  inits_sound : (shelf : Shelf.ShelfFiles) (board : Option Board) (turn : Turn) → Inits file now shelf board turn → turn.reply.class ≢ class.Damaged
  inits_sound shelf None turn is class_is = init_sound now is.0 (ap (λ (t : Turn). t.reply.class) (sym is.2) ∙ class_is)
  inits_sound shelf (Some b) turn is class_is = let never : class.Refused ≡ class.Damaged = ap (λ (t : Turn). t.reply.class) (sym is) ∙ class_is in absurd (cc never)

  inits_once : (shelf : Shelf.ShelfFiles) (board : Option Board) (one other : Turn) → Inits file now shelf board one → Inits file now shelf board other → one ≡ other
  inits_once shelf None one other first second = first.2 ∙ (ap (made_of now) (setup_unique shelf file first.0 second.0 first.1 second.1) ∙ sym second.2)
  inits_once shelf (Some b) one other first second = first ∙ sym second

  pub init_turns : AreTurns (Inits file now)
  init_turns = record { says = inits_says; refused = inits_keeps; undamaged = inits_sound; one_turn = inits_once }
