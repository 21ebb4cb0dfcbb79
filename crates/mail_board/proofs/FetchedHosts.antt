-- A board's files once messages were fetched from the host, of which nothing changed, and a change behind that.
use Rattle.std.proofs.Common.{inl, inr, ⊎_elim, refl, ◌∙◌, arith}
use Rattle.board_layout.specs.Board.{Board}
use Rattle.board_layout.specs.Layout.{IsLayout}
use Rattle.door_outside.specs.Disk.{Disk, Image, AllNow, Between, Unchanged}
use Rattle.door_outside.proofs.Moments.{now_unchanged}
use Rattle.mail_board.proofs.CommitLaws.{calm_now}
use Rattle.mail_board.proofs.DataLaws.{layout_moves}
use Rattle.mail_board.specs.Held.{BeforeOrNext, Holds}

-- ---- before the first is fetched
pub unchanged_never : (disk : Disk) → Unchanged disk disk
unchanged_never disk = record { files = refl; said = refl; clock = refl; wrote = refl; leaves = λ t image left. left; left = λ t image left. left }

module _ (b next : Board) (old mid : Disk) (holds : Holds b old) (same : Unchanged old mid) where
  pub fetched_now : AllNow mid (BeforeOrNext (IsLayout b) next old)
  fetched_now = now_unchanged same (calm_now (IsLayout b) (layout_moves b) next old holds.1.calm holds.1.files)

-- ---- a change behind it
module _ (b next : Board) (old mid new : Disk) (same : Unchanged old mid) where
  moved : (image : Image) → BeforeOrNext (IsLayout b) next mid image → BeforeOrNext (IsLayout b) next old image
  moved image it = record { said = it.said ∙ same.said; files = it.files }

  pub behind_moments : Between mid new (BeforeOrNext (IsLayout b) next mid) → Between old new (BeforeOrNext (IsLayout b) next old)
  behind_moments moments = record {
    later = omega (arith, moments.later, same.clock);
    each = λ t image early left. ⊎_elim (λ then. inl (same.leaves t image then)) (λ it. inr (moved image it)) (moments.each t image (omega (arith, early, same.clock)) left);
  }

  pub behind_now : AllNow new (BeforeOrNext (IsLayout b) next mid) → AllNow new (BeforeOrNext (IsLayout b) next old)
  behind_now now = λ image left. moved image (now image left)
