-- What is known between two messages of a packet.
use Rattle.std.specs.Prelude.{◌≡◌, ◌≤◌, length}
use Rattle.board_layout.specs.Board.{Board}
use Rattle.packet_verdicts.specs.Accepted.{IsIndexed}
use Rattle.packet_verdicts.specs.Judged.{refused_count}
use Rattle.post_changes.specs.Posted.{spread}
use Rattle.packet_verdicts.specs.Views.{room_of, user_with, view_with}
use Rattle.packet_verdicts.specs.declared.judging.Judging.{Judging}

-- the view shows the user of an id the board with the posts, but for the conference and the reply
pub record IsJudging (b : Board) (j : Judging) : Type 0 where
  pub indexed : IsIndexed j.accepted
  pub view : j.view ≡ view_with b.ledger (user_with j.user b) j.view.conference j.view.reply (room_of (spread j.accepted.posts b))
  pub few : length j.accepted.posts ≤ length j.outcomes
  pub refused : j.refused ≡ refused_count j.outcomes
