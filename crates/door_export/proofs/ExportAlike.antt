-- An export of boards with one outline: it is refused alike, and differs in the messages' texts alone.
use Rattle.std.proofs.Common.{◌≡◌, ℕ, ◌+◌, Bool, true, false, cond, List, [], length, Option, Some, None, Ok, Err, refl, sym, ap, ◌∙◌}
use Rattle.std.specs.Prelude.{option_map}
use Rattle.std.specs.Result.{result_err, result_ok}
use Rattle.board_layout.proofs.OneOutline.{alike_ledger, alike_user}
use Rattle.board_layout.specs.Board.{Board}
use Rattle.board_layout.specs.Lookups.{user_of}
use Rattle.board_ledger.specs.declared.ledger.Ledger.{Ledger}
use Rattle.board_ledger.specs.declared.user.User.{User}
use Rattle.mail_board.specs.Changes.{changed}
use Rattle.mail_board.specs.Held.{AreAlike}
use Rattle.mail_board.specs.Readers.{is_offered, offer_of, user_id}
use Rattle.mail_board.specs.declared.change.Change.TheVariants.{Offer}
use Rattle.mail_board.specs.offer_changes.Changed.{acknowledged}
use Rattle.offered_packets.proofs.OutlineLaws.{outline_highs, outline_offered}
use Rattle.offered_packets.specs.Control.{control}
use Rattle.offered_packets.specs.Offered.{highs, offered}
use Rattle.offered_packets.specs.Shown.{notice, shown_all}
use Rattle.offered_packets.specs.declared.offered_message.OfferedMessage.{OfferedMessage}
use Rattle.qwk_blocks.specs.Written.{spelling}
use Rattle.qwk_control.specs.Written.{control_text}
use Rattle.door_export.specs.Ack.{NoPacket, ack_as, ack_of, ack_offer}
use Rattle.door_export.specs.Export.{ExportRefusal, Handout, control_file, export_as, export_of, export_to, packet_to, handed_unless_refused, user_refusal}
use Rattle.door_export.specs.Exporting as exporting
use Rattle.door_export.specs.declared.exporting.Exporting.{Exporting}

module _ (a b : Board) (alike : AreAlike a b) where
  -- ---- who, and what is offered
  pub id_alike : (name : List ℕ) → user_id name a ≡ user_id name b
  id_alike name = ap (λ (l : Ledger). user_id name (record { ledger = l; conferences = [] })) (alike_ledger a b alike)

  pub offered_alike : (id limit : ℕ) → offered a id limit ≡ offered b id limit
  offered_alike id limit = sym (outline_offered a id limit) ∙ (ap (λ (o : Board). offered o id limit) alike ∙ outline_offered b id limit)

  highs_alike : (messages : List OfferedMessage) → highs a messages ≡ highs b messages
  highs_alike messages = sym (outline_highs a messages) ∙ (ap (λ (o : Board). highs o messages) alike ∙ outline_highs b messages)

  control_alike : (u : User) (count now : ℕ) → control a u count now ≡ control b u count now
  unfolding control
  control_alike u count now = ap (λ (l : Ledger). control (record { ledger = l; conferences = [] }) u count now) (alike_ledger a b alike)

  pub control_file_alike : (id : ℕ) (u : User) (limit now : ℕ) → control_file a id u limit now ≡ control_file b id u limit now
  control_file_alike id u limit now =
      ap control_text ((λ i. control a u (length (offered_alike id limit i)) now) ∙ control_alike u (length (offered b id limit)) now)

  pub highs_same : (id limit : ℕ) → highs a (offered a id limit) ≡ highs b (offered b id limit)
  highs_same id limit = ap (highs a) (offered_alike id limit) ∙ highs_alike (offered b id limit)

  -- ---- what is refused, and what is answered
  unless_alike : (p q : Handout) (why : Option ExportRefusal) → p.answer ≡ q.answer
      → (result_err (handed_unless_refused p why) ≡ result_err (handed_unless_refused q why)) × (option_map (λ (x : Handout). x.answer) (result_ok (handed_unless_refused p why)) ≡ option_map (λ (x : Handout). x.answer) (result_ok (handed_unless_refused q why)))
  unless_alike p q None same = (refl, ap Some same)
  unless_alike p q (Some why) same = (refl, refl)

  module _ (limit now : ℕ) where
    to_alike : (id : ℕ) (o : Option User) → (result_err (export_to limit now a id o) ≡ result_err (export_to limit now b id o))
        × (option_map (λ (p : Handout). p.answer) (result_ok (export_to limit now a id o)) ≡ option_map (λ (p : Handout). p.answer) (result_ok (export_to limit now b id o)))
    to_alike id None = (refl, refl)
    to_alike id (Some u) =
        unless_alike (packet_to limit now a id u) (packet_to limit now b id u) (user_refusal limit u) (λ i. record { packet = u.last + 1; count = length (offered_alike id limit i) })

    as_alike : (o : Option ℕ) → (result_err (export_as limit now a o) ≡ result_err (export_as limit now b o))
        × (option_map (λ (p : Handout). p.answer) (result_ok (export_as limit now a o)) ≡ option_map (λ (p : Handout). p.answer) (result_ok (export_as limit now b o)))
    as_alike None = (refl, refl)
    as_alike (Some id) =
        let to = to_alike id (user_of id a) in
        let user = alike_user a b alike id in (
          to.0 ∙ ap (λ (o : Option User). result_err (export_to limit now b id o)) user,
          to.1 ∙ ap (λ (o : Option User). option_map (λ (p : Handout). p.answer) (result_ok (export_to limit now b id o))) user,
        )

    pub refused_alike : (name : List ℕ) → result_err (export_of name limit now a) ≡ result_err (export_of name limit now b)
    refused_alike name = (as_alike (user_id name a)).0 ∙ ap (λ (o : Option ℕ). result_err (export_as limit now b o)) (id_alike name)

    pub answer_alike : (name : List ℕ) → option_map (λ (p : Handout). p.answer) (result_ok (export_of name limit now a)) ≡ option_map (λ (p : Handout). p.answer) (result_ok (export_of name limit now b))
    answer_alike name = (as_alike (user_id name a)).1 ∙ ap (λ (o : Option ℕ). option_map (λ (p : Handout). p.answer) (result_ok (export_as limit now b o))) (id_alike name)

  -- ---- what is prepared for the one, and the messages of the other
  pub packet_alike : (id limit now : ℕ) (u : User) (e : Exporting) → e.change ≡ Offer id (highs b (offered b id limit)) → e.controls ≡ control_file b id u limit now
      → e.messages ≡ spelling (notice (u.last + 1)) (shown_all a (offered b id limit)) → e.exported ≡ record { packet = u.last + 1; count = length (offered b id limit) } → exporting.packet_of e a ≡ packet_to limit now a id u
  packet_alike id limit now u e change controls messages answer =
      let change_is : e.change ≡ Offer id (highs a (offered a id limit)) = change ∙ ap (Offer id) (sym (highs_same id limit)) in
      let controls_are : e.controls ≡ control_file a id u limit now = controls ∙ sym (control_file_alike id u limit now) in
      let messages_are : e.messages ≡ spelling (notice (u.last + 1)) (shown_all a (offered a id limit)) =
      messages ∙ ap (λ (ms : List OfferedMessage). spelling (notice (u.last + 1)) (shown_all a ms)) (sym (offered_alike id limit)) in
      let answer_is : e.exported ≡ record { packet = u.last + 1; count = length (offered a id limit) } =
      answer ∙ ap (λ (ms : List OfferedMessage). record { packet = u.last + 1; count = length ms }) (sym (offered_alike id limit)) in
      λ i. record { board = changed (change_is i) a; controls = controls_are i; messages = messages_are i; answer = answer_is i }

-- ---- an acknowledgement is refused alike
module _ (a b : Board) (alike : AreAlike a b) (packet now id : ℕ) where
  pub open_alike : is_offered id packet a ≡ is_offered id packet b
  open_alike = ap (λ (l : Ledger). is_offered id packet (record { ledger = l; conferences = [] })) (alike_ledger a b alike)

  offer_alike : offer_of id a ≡ offer_of id b
  offer_alike = ap (λ (l : Ledger). offer_of id (record { ledger = l; conferences = [] })) (alike_ledger a b alike)

  by_packet : (found : Bool) → result_err (cond found (Ok (acknowledged id packet now a)) (Err (NoPacket (offer_of id a)))) ≡ result_err (cond found (Ok (acknowledged id packet now b)) (Err (NoPacket (offer_of id b))))
  by_packet true = refl
  by_packet false = ap (λ (offer : Option ℕ). Some (NoPacket offer)) offer_alike

  pub offer_refused : result_err (ack_offer packet now a id) ≡ result_err (ack_offer packet now b id)
  offer_refused = by_packet (is_offered id packet a) ∙ ap (λ (found : Bool). result_err (cond found (Ok (acknowledged id packet now b)) (Err (NoPacket (offer_of id b))))) open_alike

pub ack_alike : (a b : Board) → AreAlike a b → (name : List ℕ) (packet now : ℕ) → result_err (ack_of name packet now a) ≡ result_err (ack_of name packet now b)
ack_alike a b alike name packet now = by_id (user_id name a) ∙ ap (λ (o : Option ℕ). result_err (ack_as packet now b o)) (id_alike a b alike name)
  where
    by_id : (o : Option ℕ) → result_err (ack_as packet now a o) ≡ result_err (ack_as packet now b o)
    by_id None = refl
    by_id (Some id) = offer_refused a b alike packet now id
