-- The MESSAGES.DAT of an export reads as what is offered, and as nothing else.
use Rattle.std.proofs.Common.{◌≡◌, ◌↔◌, ℕ, ◌+◌, ◌≤◌, List, length, map, Option, Some, None, Ok, refl, sym, ap, ◌∙◌, subst, arith}
use Rattle.std.specs.Prelude.{All, filter}
use Rattle.board_layout.specs.Board.{Board}
use Rattle.board_layout.specs.Lookups.{user_of}
use Rattle.board_layout.specs.Valid.{IsBoard}
use Rattle.board_ledger.specs.declared.user.User.{User}
use Rattle.door_export.proofs.ExportLaws.{MayExport, last_small, may_export}
use Rattle.door_export.specs.Export.{ExportRefusal, Handout, export_as, export_of, export_to, packet_to, handed_unless_refused, user_refusal}
use Rattle.mail_board.specs.Readers.{user_id}
use Rattle.long_names.specs.Plain.{plain}
use Rattle.offered_packets.proofs.Offers.{taken_few}
use Rattle.offered_packets.proofs.ReadBack.{all_read}
use Rattle.offered_packets.proofs.PacketSizes.{all_writable, notice_short}
use Rattle.offered_packets.specs.Offered.{all_numbers, is_new, offered}
use Rattle.offered_packets.specs.Shown.{notice, packet, packet_read}
use Rattle.qwk_blocks.proofs.Written.{no_others, packet_back}
use Rattle.qwk_blocks.specs.Packet.{PacketReads}
use Rattle.qwk_blocks.specs.Written.{Writable, spelling}
use Rattle.qwk_blocks.specs.declared.message.QwkMessage.{QwkMessage}

few_offered : (b : Board) (id limit : ℕ) → length (offered b id limit) ≤ limit
unfolding offered
few_offered b id limit = taken_few limit (filter (is_new b id) (all_numbers b))

-- what a user's handout holds
module _ (b : Board) (id limit now : ℕ) (u : User) (ok : IsBoard b) (here : user_of id b ≡ Some u) (may : MayExport limit u) where
  writable : All Writable (packet b id limit)
  writable = let few = may.few in all_writable b (offered b id limit) ok (omega (arith, few, few_offered b id limit))

  short : length (notice (u.last + 1)) ≤ 128
  short = let more = may.more in notice_short (u.last + 1) (omega (arith, more))

  reads_as : (messages : List QwkMessage) → PacketReads (packet_to limit now b id u).messages messages ↔ (messages ≡ packet b id limit)
  reads_as messages = (
    λ reads. no_others (notice (u.last + 1)) (packet b id limit) messages short writable reads,
    λ is. subst (PacketReads (spelling (notice (u.last + 1)) (packet b id limit))) (sym is) (packet_back (notice (u.last + 1)) (packet b id limit) short writable),
  )

abbrev ReadsAs : Board → ℕ → ℕ → Handout → Type 0
ReadsAs b id limit p = (messages : List QwkMessage) → PacketReads p.messages messages ↔ (messages ≡ packet b id limit)

module _ (limit now : ℕ) (b : Board) (p : Handout) (ok : IsBoard b) where
  by_refusal : (id : ℕ) (u : User) → user_of id b ≡ Some u → (why : Option ExportRefusal) → user_refusal limit u ≡ why → handed_unless_refused (packet_to limit now b id u) why ≡ Ok p → ReadsAs b id limit p
  by_refusal id u here None none is =
      let same : packet_to limit now b id u ≡ p = cc in
      subst (ReadsAs b id limit) same (reads_as b id limit now u ok here (may_export limit u (last_small b id u ok here) none))
  by_refusal id u here (Some why) some is = absurd (cc is)

  by_user : (id : ℕ) (o : Option User) → user_of id b ≡ o → export_to limit now b id o ≡ Ok p → ReadsAs b id limit p
  by_user id None none is = absurd (cc is)
  by_user id (Some u) here is = by_refusal id u here (user_refusal limit u) refl is

  by_id : (found o : Option ℕ) → found ≡ o → export_as limit now b o ≡ Ok p → (id : ℕ) × (found ≡ Some id) × ReadsAs b id limit p
  by_id found None none is = absurd (cc is)
  by_id found (Some id) here is = (id, here, by_user id (user_of id b) refl is)

pub exported_reads : (name : List ℕ) (limit now : ℕ) (b : Board) (p : Handout) → IsBoard b → export_of name limit now b ≡ Ok p → (id : ℕ) × (user_id name b ≡ Some id) × ((messages : List QwkMessage) → PacketReads p.messages messages ↔ (messages ≡ packet b id limit))
exported_reads name limit now b p ok is = by_id limit now b p ok (user_id name b) (user_id name b) refl is

-- what its reader sees
pub exported_seen : (name : List ℕ) (limit now : ℕ) (b : Board) (p : Handout) → IsBoard b → export_of name limit now b ≡ Ok p
    → (id : ℕ) × (user_id name b ≡ Some id) × ((messages : List QwkMessage) → PacketReads p.messages messages → map plain messages ≡ packet_read b id limit)
exported_seen name limit now b p ok is =
    let r = exported_reads name limit now b p ok is in
    (r.0, r.1, λ messages reads. ap (map plain) ((r.2 messages).0 reads) ∙ all_read b (offered b r.0 limit))
