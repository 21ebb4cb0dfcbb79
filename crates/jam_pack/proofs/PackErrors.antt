-- What an error of the change says of a pack.
use Rattle.std.proofs.Common.{◌≡◌, ◌⊎◌, true, false, Err, inl, inr, refl, ap, subst}
use Rattle.std.specs.Prelude.{Result}
use Rattle.jam_pack.specs.Packing.{PackLeavesAll, pack_change_error}
use Rattle.jam_pack.specs.declared.error.PackError.{PackError}
use Rattle.mail_board.specs.Held.{HeldBoard}
use Rattle.mail_board.specs.declared.change.ChangeError.{ChangeError}
use Rattle.mail_board.specs.declared.change.ChangeError.TheVariants as change

-- one that leaves all as it was
pub undone : {T : Type 0} (e : ChangeError) (result : Result T PackError) → result ≡ Err (pack_change_error e) → PackLeavesAll result → (e ≡ change.Doubt) ⊎ (e ≡ change.OutOfMemory)
undone change.DiskFault result is early = absurd (subst PackLeavesAll is early)
undone change.Doubt result is early = inl refl
undone change.OutOfMemory result is early = inr refl

-- one behind which the board is in no doubt does so
pub undone_sure : (e : ChangeError) (old new : HeldBoard) → (e ≡ change.DiskFault → new ≡ record { board = old.board; doubtful = true }) → new.doubtful ≡ false → (e ≡ change.Doubt) ⊎ (e ≡ change.OutOfMemory)
undone_sure change.DiskFault old new fault certain = absurd (cc (ap (λ (held : HeldBoard). held.doubtful) (fault refl), certain))
undone_sure change.Doubt old new fault certain = inl refl
undone_sure change.OutOfMemory old new fault certain = inr refl
