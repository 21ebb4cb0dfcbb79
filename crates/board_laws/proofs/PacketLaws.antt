-- A later packet of a user has a greater number, since his last packet is never an earlier one.
use Rattle.std.proofs.Common.{◌≡◌, ℕ, suc, ◌+◌, ◌<◌, ◌≤◌, List, Option, Some, None, Ok, refl, sym, ap, ◌∙◌, subst, arith}
use Rattle.std.specs.Prelude.{Result}
use Rattle.std.proofs.lemmas.Option.{same_Some}
use Rattle.cmd_messages.specs.cmd_board.State.{State, Made, migrated, state_of}
use Rattle.board_layout.specs.Board.{Board}
use Rattle.board_layout.specs.Lookups.{user_of}
use Rattle.board_laws.proofs.Moves.{Move, moved, users_moved}
use Rattle.board_laws.proofs.Sequences.{AreCommands, IsOfBoard, after_one, does_made, onward, same_made}
use Rattle.board_laws.proofs.Users.{offered_there, user_still}
use Rattle.board_laws.specs.BoardCommand.{BoardCommand, Export, board_does}
use Rattle.board_laws.specs.History.{Deed, IsHistory, LeadsTo, Steps}
use Rattle.board_laws.specs.Passed.{IsExport, PacketsRise}
use Rattle.board_ledger.specs.declared.user.User.{User}
use Rattle.cmd_exchange.specs.door_export.Export.{ExportRefusal, Handout, export_as, export_of, export_to, packet_to, handed_unless_refused, user_refusal}
use Rattle.entry_runs.specs.Door.{here}
use Rattle.cmd_exchange.specs.Export.{handing_of}
use Rattle.cmd_exchange.specs.Handing.{Handing}
use Rattle.cmd_messages.specs.mail_board.Changes.{changed}
use Rattle.cmd_messages.specs.mail_board.Readers.{user_id}
use Rattle.cmd_messages.specs.mail_board.declared.change.Change.TheVariants.{Offer}
use Rattle.offer_changes.specs.Changed.{with_offer}
use Rattle.offered_packets.specs.Offered.{highs, offered}

-- what is handed out to the user of a name
module _ (name : List ℕ) (limit now : ℕ) (b : Board) (id : ℕ) (p : Handout) where
  abbrev IsHanded : Type 0
  IsHanded = (u : User) × (user_of id b ≡ Some u) × (p ≡ packet_to limit now b id u)

  by_refusal : (u : User) → user_of id b ≡ Some u → (why : Option ExportRefusal) → handed_unless_refused (packet_to limit now b id u) why ≡ Ok p → IsHanded
  by_refusal u there None is = let same : packet_to limit now b id u ≡ p = cc in (u, there, sym same)
  by_refusal u there (Some why) is = absurd (cc is)

  by_user : (o : Option User) → user_of id b ≡ o → export_to limit now b id o ≡ Ok p → IsHanded
  by_user None none is = absurd (cc is)
  by_user (Some u) there is = by_refusal u there (user_refusal limit u) is

  handed : user_id name b ≡ Some id → export_of name limit now b ≡ Ok p → IsHanded
  handed user is = by_user (user_of id b) refl (sym (ap (export_as limit now b) user) ∙ is)

module _ {Entry : Type 0} (command_of : Entry → BoardCommand) (Step : Steps Entry) (commands : AreCommands command_of Step) (start : State) (deeds : List (Deed Entry)) (are : IsHistory Step start deeds) (user : ℕ) where
  -- the user is there, and his last packet isn't before this one
  abbrev HasPacket : ℕ → ℕ → Board → Type 0
  HasPacket packet n b = (u : User) × (user_of user b ≡ Some u) × (packet ≤ u.last)

  still_has : (packet n : ℕ) (b : Board) (move : Move) → HasPacket packet n b → HasPacket packet (suc n) (moved move b)
  still_has packet n b move (u, there, least) =
      let v = user_still (user_of user b) (user_of user (moved move b)) u (users_moved user b move) there in
      (v.0, v.1, omega (arith, least, v.2))

  -- ---- one export
  module _ (n packet : ℕ) (e : IsExport command_of start deeds n user packet) where
    out : (u : User) × (user_of user e.board ≡ Some u) × (e.handout ≡ packet_to e.limit e.deed.now e.board user u)
    out = handed e.name e.limit e.deed.now e.board user e.handout e.user_is e.export

    number_is : (u : User) × (user_of user e.board ≡ Some u) × (packet ≡ u.last + 1)
    number_is = (out.0, out.1, sym e.packet_is ∙ ap (λ (p : Handout). p.answer.packet) out.2)

    -- the board after it
    made : e.deed.stepped.world.state ≡ Made e.handout.board
    made = by (subst (λ (c : BoardCommand). board_does e.deed.now c (here (Made e.board) e.deed.shelf) e.deed.stepped) e.command
        (does_made command_of Step commands start deeds are n e.deed e.board (subst IsOfBoard (sym e.command) tt) e.carried.there e.carried.board_is))
      where
        by : board_does e.deed.now (Export e.name e.limit e.folder) (here (Made e.board) e.deed.shelf) e.deed.stepped → e.deed.stepped.world.state ≡ Made e.handout.board
        by (handing, is, next, new, reply) =
            next ∙ (ap (λ (h : Handing). state_of h.board) is ∙ ap (λ (r : Result Handout ExportRefusal). state_of (handing_of e.folder e.deed.shelf e.board r).board) e.export)

    first : (b : Board) × LeadsTo start deeds (suc n) b × HasPacket packet (suc n) b
    first =
        let given : List ℕ = highs e.board (offered e.board user e.limit) in
        let u : User = number_is.0 in (
          changed (Offer user given) e.board,
          ap migrated (after_one command_of Step commands start deeds are n e.deed e.carried.there ∙ (made ∙ ap (λ (p : Handout). Made p.board) out.2)),
          (with_offer given u, offered_there user e.board given u number_is.1, omega (arith, number_is.2)),
        )

  pub rises : (i j packet later : ℕ) → i < j → IsExport command_of start deeds i user packet → IsExport command_of start deeds j user later → packet < later
  rises i j packet later order one other =
      let reached = onward command_of Step commands start deeds are (HasPacket packet) (suc i) (λ n d b move from is board because has. still_has packet n b move has) (λ n b has. has) j (omega (arith, order)) (first i packet one) in
      let same : Made reached.0 ≡ Made other.board = sym reached.1 ∙ other.carried.board_is in
      by (subst (HasPacket packet j) (same_made reached.0 other.board same) reached.2) (number_is j later other)
    where
      by : HasPacket packet j other.board → (u : User) × (user_of user other.board ≡ Some u) × (later ≡ u.last + 1) → packet < later
      by (u, there, least) (v, here, number) =
          let one_user : u ≡ v = same_user there here in
          omega (arith, least, number, ap (λ (w : User). w.last) one_user)
        where
          same_user : user_of user other.board ≡ Some u → user_of user other.board ≡ Some v → u ≡ v
          same_user there here = same_Some u v (sym there ∙ here)

-- ---- the law
module _ {Entry : Type 0} (command_of : Entry → BoardCommand) (Step : Steps Entry) (commands : AreCommands command_of Step) where
  pub packets_rise : PacketsRise command_of Step
  packets_rise start deeds are user i j packet later order one other = rises command_of Step commands start deeds are user i j packet later order one other
