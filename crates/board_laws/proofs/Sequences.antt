-- What holds of boards deed by deed.
use Rattle.std.proofs.Common.{◌≡◌, ◌⊎◌, inl, inr, ⊎_elim, ℕ, zero, suc, ◌≤◌, List, Option, Some, None, refl, sym, ap, ◌∙◌, subst, arith}
use Rattle.std.specs.Prelude.{slice_get}
use Rattle.std.proofs.lemmas.Bool.{cases_eq}
use Rattle.post_changes.specs.board_changes.Changed.{made}
use Rattle.cmd_messages.specs.cmd_board.State.{State, NotMade, Made, Old, Spoiled, migrated}
use Rattle.board_layout.specs.Board.{Board}
use Rattle.board_layout.specs.Valid.{IsBoard}
use Rattle.door_outside.specs.Shelf.{ShelfFiles}
use Rattle.board_laws.proofs.Moves.{Move, moved}
use Rattle.board_laws.proofs.Turns.{BecauseOf, FromNone, Turns, from_none, turn_on}
use Rattle.board_laws.specs.BoardCommand.{BoardCommand, board_does}
use Rattle.board_laws.specs.BoardCommand as command
use Rattle.board_laws.specs.History.{Deed, Steps, IsBeginning, IsHistory, LeadsTo, after, left_by}
use Rattle.entry_runs.specs.Door.{World, here}
use Rattle.entry_runs.specs.Runs.{Stepped}
use Rattle.setup_file.specs.declared.fields.SetupFields.{SetupFields}

-- each entry does to a board what its command does
abbrev pub AreCommands : {Entry : Type 0} → (Entry → BoardCommand) → Steps Entry → Type 0
AreCommands {Entry} command_of Step = (now : ℕ) (entry : Entry) (world : World State) (stepped : Stepped (World State)) → Step now entry world stepped → board_does now (command_of entry) world stepped

-- one board
pub same_made : (b c : Board) → Made b ≡ Made c → b ≡ c
same_made b c same = cc

-- ---- a command that touches the board
abbrev pub IsOfBoard : BoardCommand → Type 0
IsOfBoard (command.Init file) = Unit {0}
IsOfBoard (command.Enroll name flags conferences) = Unit {0}
IsOfBoard command.Check = Unit {0}
IsOfBoard (command.Import conference file) = Unit {0}
IsOfBoard (command.Adopt conference prefix) = Unit {0}
IsOfBoard (command.Toss file) = Unit {0}
IsOfBoard (command.Kill conference number) = Unit {0}
IsOfBoard (command.Pack conference) = Unit {0}
IsOfBoard (command.Export name limit folder) = Unit {0}
IsOfBoard (command.Ack name packet) = Unit {0}
IsOfBoard (command.Upload name file) = Unit {0}
IsOfBoard (command.Sample seed count) = Unit {0}
IsOfBoard command.Other = ⊥

of_board : (c : BoardCommand) → IsOfBoard c ⊎ ((now : ℕ) (world : World State) (stepped : Stepped (World State)) → board_does now c world stepped → stepped.world.state ≡ world.state)
of_board (command.Init file) = inl tt
of_board (command.Enroll name flags conferences) = inl tt
of_board command.Check = inl tt
of_board (command.Import conference file) = inl tt
of_board (command.Adopt conference prefix) = inl tt
of_board (command.Toss file) = inl tt
of_board (command.Kill conference number) = inl tt
of_board (command.Pack conference) = inl tt
of_board (command.Export name limit folder) = inl tt
of_board (command.Ack name packet) = inl tt
of_board (command.Upload name file) = inl tt
of_board (command.Sample seed count) = inl tt
of_board command.Other = inr (λ now world stepped same. same)

-- what it does to a board in files of the first version it does to that board
as_today : (now : ℕ) (c : BoardCommand) (b : Board) (shelf : ShelfFiles) (stepped : Stepped (World State)) → IsOfBoard c → board_does now c (here (Old b) shelf) stepped → board_does now c (here (Made b) shelf) stepped
as_today now (command.Init file) b shelf stepped own step = step
as_today now (command.Enroll name flags conferences) b shelf stepped own step = step
as_today now command.Check b shelf stepped own step = step
as_today now (command.Import conference file) b shelf stepped own step = step
as_today now (command.Adopt conference prefix) b shelf stepped own step = step
as_today now (command.Toss file) b shelf stepped own step = step
as_today now (command.Kill conference number) b shelf stepped own step = step
as_today now (command.Pack conference) b shelf stepped own step = step
as_today now (command.Export name limit folder) b shelf stepped own step = step
as_today now (command.Ack name packet) b shelf stepped own step = step
as_today now (command.Upload name file) b shelf stepped own step = step
as_today now (command.Sample seed count) b shelf stepped own step = step
as_today now command.Other b shelf stepped own step = absurd own

-- so it does to any state what it does to the board that the state is of
as_made : (now : ℕ) (c : BoardCommand) (s : State) (b : Board) (shelf : ShelfFiles) (stepped : Stepped (World State)) → IsOfBoard c → migrated s ≡ Made b → board_does now c (here s shelf) stepped → board_does now c (here (Made b) shelf) stepped
as_made now c NotMade b shelf stepped own is step = absurd (cc is)
as_made now c (Made a) b shelf stepped own is step = subst (λ (s : State). board_does now c (here s shelf) stepped) is step
as_made now c (Old a) b shelf stepped own is step = subst (λ (s : State). board_does now c (here s shelf) stepped) is (as_today now c a shelf stepped own step)
as_made now c (Spoiled files) b shelf stepped own is step = absurd (cc is)

module _ {Entry : Type 0} (command_of : Entry → BoardCommand) (Step : Steps Entry) (commands : AreCommands command_of Step) (start : State) (deeds : List (Deed Entry)) (are : IsHistory Step start deeds) where
  -- ---- one deed
  pub after_none : (n : ℕ) → slice_get deeds n ≡ None → after start deeds (suc n) ≡ after start deeds n
  after_none n none = ap (left_by (after start deeds n)) none

  pub after_one : (n : ℕ) (d : Deed Entry) → slice_get deeds n ≡ Some d → after start deeds (suc n) ≡ d.stepped.world.state
  after_one n d is = ap (left_by (after start deeds n)) is

  pub does_on : (n : ℕ) (d : Deed Entry) (s : State) → slice_get deeds n ≡ Some d → after start deeds n ≡ s → board_does d.now (command_of d.entry) (here s d.shelf) d.stepped
  does_on n d s is state = subst (λ (t : State). board_does d.now (command_of d.entry) (here t d.shelf) d.stepped) state (commands d.now d.entry (here (after start deeds n) d.shelf) d.stepped (are n d is))

  -- what a command that touches the board does to it
  pub does_made : (n : ℕ) (d : Deed Entry) (b : Board) → IsOfBoard (command_of d.entry) → slice_get deeds n ≡ Some d → LeadsTo start deeds n b → board_does d.now (command_of d.entry) (here (Made b) d.shelf) d.stepped
  does_made n d b own is leads = as_made d.now (command_of d.entry) (after start deeds n) b d.shelf d.stepped own leads (does_on n d (after start deeds n) is refl)

  -- a deed leaves the state, or is a turn of the board
  abbrev TurnsAt : ℕ → Deed Entry → Board → Type 0
  TurnsAt n d b = (d.stepped.world.state ≡ after start deeds n) ⊎ Turns d.now b (command_of d.entry) d.stepped.world.state d.stepped.class

  turn_at : (n : ℕ) (d : Deed Entry) (b : Board) → slice_get deeds n ≡ Some d → LeadsTo start deeds n b → TurnsAt n d b
  turn_at n d b is leads = by (of_board (command_of d.entry))
    where
      by : IsOfBoard (command_of d.entry) ⊎ ((now : ℕ) (world : World State) (stepped : Stepped (World State)) → board_does now (command_of d.entry) world stepped → stepped.world.state ≡ world.state) → TurnsAt n d b
      by (inl own) = inr (turn_on d.now b (command_of d.entry) d.shelf d.stepped (does_made n d b own is leads))
      by (inr off) = inl (off d.now (here (after start deeds n) d.shelf) d.stepped (does_on n d (after start deeds n) is refl))

  -- ---- from a board on
  -- what holds of a board after the first n deeds, and is kept by each change or pack
  module _ (P : ℕ → Board → Type 0) (i : ℕ)
      (next : (n : ℕ) (d : Deed Entry) (b : Board) (move : Move) → i ≤ n → slice_get deeds n ≡ Some d → LeadsTo start deeds n b → BecauseOf d.now b (command_of d.entry) d.stepped.class move → P n b → P (suc n) (moved move b))
      (idle : (n : ℕ) (b : Board) → P n b → P (suc n) b) where
    -- there is a board of which it holds
    abbrev pub Reaches : ℕ → Type 0
    Reaches n = (b : Board) × LeadsTo start deeds n b × P n b

    one_further : (n : ℕ) → i ≤ n → Reaches n → Reaches (suc n)
    one_further n from (b, board, holds) = by (slice_get deeds n) refl
      where
        turned : (d : Deed Entry) → slice_get deeds n ≡ Some d → TurnsAt n d b → Reaches (suc n)
        turned d is (inl still) = (b, ap migrated (after_one n d is ∙ still) ∙ board, idle n b holds)
        turned d is (inr (inl same)) = (b, ap migrated (after_one n d is ∙ same), idle n b holds)
        turned d is (inr (inr (move, becomes, because))) = (moved move b, ap migrated (after_one n d is ∙ becomes), next n d b move from is board because holds)

        by : (o : Option (Deed Entry)) → slice_get deeds n ≡ o → Reaches (suc n)
        by None none = (b, ap migrated (after_none n none) ∙ board, idle n b holds)
        by (Some d) is = turned d is (turn_at n d b is board)

    pub onward : (j : ℕ) → i ≤ j → Reaches i → Reaches j
    onward zero order first = let same : i ≡ zero = omega (arith, order) in subst Reaches same first
    onward (suc j) order first = ⊎_elim
        (λ same. subst Reaches same first)
        (λ other. one_further j (omega (arith, order, other)) (onward j (omega (arith, order, other)) first))
        (cases_eq i (suc j))

  -- ---- from the beginning on
  -- what holds of the board with which they begin, and of each that is made, and is kept by each change or pack
  module _ (P : ℕ → Board → Type 0) (begins : IsBeginning start) (first : (b : Board) → IsBoard b → migrated start ≡ Made b → P zero b)
      (fresh : (n : ℕ) (setup : SetupFields) (now : ℕ) → P (suc n) (made setup now))
      (next : (n : ℕ) (d : Deed Entry) (b : Board) (move : Move) → slice_get deeds n ≡ Some d → LeadsTo start deeds n b → BecauseOf d.now b (command_of d.entry) d.stepped.class move → P n b → P (suc n) (moved move b))
      (idle : (n : ℕ) (b : Board) → P n b → P (suc n) b) where
    Holds : ℕ → State → Type 0
    Holds n NotMade = Unit {0}
    Holds n (Made b) = P n b
    Holds n (Old b) = P n b
    Holds n (Spoiled files) = ⊥

    idles : (n : ℕ) (s : State) → Holds n s → Holds (suc n) s
    unfolding Holds
    idles n NotMade holds = tt
    idles n (Made b) holds = idle n b holds
    idles n (Old b) holds = idle n b holds
    idles n (Spoiled files) holds = holds

    made_of_none : (n now : ℕ) (next : State) → FromNone now next → Holds (suc n) next
    unfolding Holds
    made_of_none n now next (inl is) = subst (Holds (suc n)) (sym is) tt
    made_of_none n now next (inr (setup, is)) = subst (Holds (suc n)) (sym is) (fresh n setup now)

    turned : (n : ℕ) (d : Deed Entry) (b : Board) → slice_get deeds n ≡ Some d → LeadsTo start deeds n b → Holds n (after start deeds n) → P n b → TurnsAt n d b → Holds (suc n) d.stepped.world.state
    unfolding Holds
    turned n d b is board held holds (inl still) = subst (Holds (suc n)) (sym still) (idles n (after start deeds n) held)
    turned n d b is board held holds (inr (inl same)) = subst (Holds (suc n)) (sym same) (idle n b holds)
    turned n d b is board held holds (inr (inr (move, becomes, because))) = subst (Holds (suc n)) (sym becomes) (next n d b move is board because holds)

    at_board : (n : ℕ) (d : Deed Entry) (s : State) (b : Board) → migrated s ≡ Made b → slice_get deeds n ≡ Some d → after start deeds n ≡ s → Holds n s → P n b → Holds (suc n) d.stepped.world.state
    at_board n d s b leads is state held holds =
        let board : LeadsTo start deeds n b = ap migrated state ∙ leads in
        turned n d b is board (subst (Holds n) (sym state) held) holds (turn_at n d b is board)

    one_deed : (n : ℕ) (d : Deed Entry) (s : State) → slice_get deeds n ≡ Some d → after start deeds n ≡ s → Holds n s → Holds (suc n) d.stepped.world.state
    unfolding Holds
    one_deed n d NotMade is state holds = made_of_none n d.now d.stepped.world.state (from_none d.now (command_of d.entry) d.shelf d.stepped (does_on n d NotMade is state))
    one_deed n d (Made b) is state holds = at_board n d (Made b) b refl is state holds holds
    one_deed n d (Old b) is state holds = at_board n d (Old b) b refl is state holds holds
    one_deed n d (Spoiled files) is state holds = absurd holds

    at_start : (s : State) → IsBeginning s → ((b : Board) → IsBoard b → migrated s ≡ Made b → P zero b) → Holds zero s
    unfolding Holds
    at_start NotMade begun is = tt
    at_start (Made b) begun is = is b begun refl
    at_start (Old b) begun is = is b begun refl
    at_start (Spoiled files) begun is = begun

    all_hold : (n : ℕ) → Holds n (after start deeds n)
    unfolding Holds
    all_hold zero = at_start start begins first
    all_hold (suc n) = by (all_hold n) (slice_get deeds n) refl
      where
        by : Holds n (after start deeds n) → (o : Option (Deed Entry)) → slice_get deeds n ≡ o → Holds (suc n) (left_by (after start deeds n) o)
        by holds None none = idles n (after start deeds n) holds
        by holds (Some d) is = one_deed n d (after start deeds n) is refl holds

    of_board_there : (n : ℕ) (s : State) (b : Board) → migrated s ≡ Made b → Holds n s → P n b
    unfolding Holds
    of_board_there n NotMade b is holds = absurd (cc is)
    of_board_there n (Made a) b is holds = subst (P n) (same_made a b is) holds
    of_board_there n (Old a) b is holds = subst (P n) (same_made a b is) holds
    of_board_there n (Spoiled files) b is holds = absurd holds

    pub everywhere : (n : ℕ) (b : Board) → LeadsTo start deeds n b → P n b
    everywhere n b board = of_board_there n (after start deeds n) b board (all_hold n)
