-- A packet that isn't refused is an offer that fits, so the board after it is valid.
use Rattle.std.proofs.Common.{◌≡◌, ℕ, zero, suc, ◌+◌, ◌<◌, ◌≤◌, ◌^◌, Bool, true, false, cond, ◌||◌, eqb, ltb, List, Option, Some, None, Result, Err, refl, sym, ap, ◌∙◌, subst, inl, inr, ◌⊎◌, arith}
use Rattle.std.proofs.lemmas.Bool.{cases_lt, eqb-false, ltb-false}
use Rattle.board_layout.specs.Board.{Board}
use Rattle.board_layout.specs.Lookups.{user_of}
use Rattle.board_layout.specs.Valid.{IsBoard}
use Rattle.board_ledger.specs.declared.user.User.{User}
use Rattle.mail_board.specs.Changes.{Fits}
use Rattle.mail_board.specs.Held.{HeldBoard}
use Rattle.mail_board.specs.Readers.{user_id}
use Rattle.mail_board.specs.declared.change.Change.TheVariants.{Offer}
use Rattle.mail_board.specs.declared.change.ChangeError.{ChangeError}
use Rattle.mail_board.specs.declared.change.ChangeError.TheVariants as change
use Rattle.mail_board.proofs.offer_changes.FitLaws.{offer_fits}
use Rattle.mail_board.proofs.offer_changes.LedgerLaws.{user_was}
use Rattle.mail_board.proofs.offer_changes.UserLaws.{Alike, user_there}
use Rattle.offered_packets.specs.Offered.{highs, offered}
use Rattle.door_export.proofs.HighsFit.{offer_may}
use Rattle.door_export.specs.Export.{ExportRefusal, Limit, Packets, after_export, export_as, export_of, export_to, packet_to, handed_unless_refused, user_refusal}
use Rattle.door_export.specs.Exporting.{KeepsOffer, ExportLeavesAll, export_change_error}
use Rattle.door_export.specs.declared.exporting.ExportError.{ExportError}

-- ---- a user who isn't refused
-- the limit is one, and there is a number for his next packet
pub record MayExport (limit : ℕ) (u : User) : Type 0 where
  pub some : 0 < limit
  pub few : limit ≤ 2000
  pub more : u.last < 0xFFFF_FFFF

unrefused : (none many last : Bool) → cond (none || many) (Some Limit) (cond last (Some Packets) None) ≡ None → (none ≡ false) × (many ≡ false) × (last ≡ false)
unrefused true many last is = absurd (cc is)
unrefused false true last is = absurd (cc is)
unrefused false false true is = absurd (cc is)
unrefused false false false is = (refl, refl, refl)

not_zero : (n : ℕ) → eqb n 0 ≡ false → 0 < n
not_zero zero is = absurd (eqb-false 0 0 is refl)
not_zero (suc n) is = omega arith

not_last : (n m : ℕ) → n < m + 1 → eqb n m ≡ false → n < m
not_last n m small is = elim (cases_lt n m) [
  | inl less ↦ less
  | inr more ↦ absurd (eqb-false n m is (omega (arith, small, more)))
]

pub may_export : (limit : ℕ) (u : User) → u.last < 2 ^ 32 → user_refusal limit u ≡ None → MayExport limit u
may_export limit u small none =
    let parts = unrefused (eqb limit 0) (ltb 2000 limit) (eqb u.last 0xFFFF_FFFF) none in
    record {
      some = not_zero limit parts.0;
      few = ltb-false 2000 limit parts.1;
      more = not_last u.last 0xFFFF_FFFF (omega (arith, small)) parts.2;
    }

pub offer_may_be : (b : Board) (id limit : ℕ) (u : User) → IsBoard b → user_of id b ≡ Some u → MayExport limit u → Fits (Offer id (highs b (offered b id limit))) b
offer_may_be b id limit u ok here may =
    (offer_fits b id (highs b (offered b id limit)) ok u true here may.more (sym (offer_may b id u ok here limit))).0 refl

-- ---- the board after an export is valid
pub last_small : (b : Board) (id : ℕ) (u : User) → IsBoard b → user_of id b ≡ Some u → u.last < 2 ^ 32
last_small b id u ok here =
    let alike : Alike u u = record { name = refl; members = refl } in
    (user_was b.ledger id u u (user_there b id u here) alike ok.ledger).last

pub export_board : (name : List ℕ) (limit now : ℕ) (b : Board) → IsBoard b → IsBoard (after_export b (export_of name limit now b))
export_board name limit now b ok = by_id (user_id name b)
  where
    by_refusal : (id : ℕ) (u : User) → user_of id b ≡ Some u → (why : Option ExportRefusal) → user_refusal limit u ≡ why → IsBoard (after_export b (handed_unless_refused (packet_to limit now b id u) why))
    by_refusal id u here None none = (offer_may_be b id limit u ok here (may_export limit u (last_small b id u ok here) none)).1
    by_refusal id u here (Some why) is = ok

    by_user : (id : ℕ) (o : Option User) → user_of id b ≡ o → IsBoard (after_export b (export_to limit now b id o))
    by_user id None none = ok
    by_user id (Some u) here = by_refusal id u here (user_refusal limit u) refl

    by_id : (o : Option ℕ) → IsBoard (after_export b (export_as limit now b o))
    by_id None = ok
    by_id (Some id) = by_user id (user_of id b) refl

-- ---- what is answered

-- what an export comes to, once the user is found
pub export_found : (name : List ℕ) (limit now : ℕ) (b : Board) (id : ℕ) (u : User) → user_id name b ≡ Some id → user_of id b ≡ Some u → export_of name limit now b ≡ handed_unless_refused (packet_to limit now b id u) (user_refusal limit u)
export_found name limit now b id u id_is user_is = ap (export_as limit now b) id_is ∙ ap (export_to limit now b id) user_is

-- an error of the board's change that leaves all as it was
pub undone : {T : Type 0} (e : ChangeError) (result : Result T ExportError) → result ≡ Err (export_change_error e) → ExportLeavesAll result → (e ≡ change.Doubt) ⊎ (e ≡ change.OutOfMemory)
undone change.DiskFault result is early = absurd (subst ExportLeavesAll is early)
undone change.Doubt result is early = inl refl
undone change.OutOfMemory result is early = inr refl

-- none of them keeps the offer
pub kept_never : {T : Type 0} (e : ChangeError) (result : Result T ExportError) → result ≡ Err (export_change_error e) → KeepsOffer result → ⊥
kept_never change.DiskFault result is kept = subst KeepsOffer is kept
kept_never change.Doubt result is kept = subst KeepsOffer is kept
kept_never change.OutOfMemory result is kept = subst KeepsOffer is kept

-- one behind which the board is in no doubt leaves all as it was
pub undone_sure : (e : ChangeError) (old new : HeldBoard) → (e ≡ change.DiskFault → new ≡ record { board = old.board; doubtful = true }) → new.doubtful ≡ false → (e ≡ change.Doubt) ⊎ (e ≡ change.OutOfMemory)
undone_sure change.DiskFault old new fault certain = absurd (cc (ap (λ (held : HeldBoard). held.doubtful) (fault refl), certain))
undone_sure change.Doubt old new fault certain = inl refl
undone_sure change.OutOfMemory old new fault certain = inr refl
