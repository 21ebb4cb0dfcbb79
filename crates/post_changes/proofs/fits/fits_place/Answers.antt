use Rattle.std.proofs.Common.{ℕ, List, arith}
use Rattle.std.proofs.lemmas.Bool.{leb-true, le-leb}
use Rattle.board_layout.specs.Board.{Board}
use Rattle.board_layout.specs.jam_base.Contents.{Contents}
use Rattle.board_layout.specs.jam_layout.Limits.{slot_limit}
use Rattle.jam_records.specs.declared.message.Message.{Message}
use Rattle.post_changes.proofs.FitLaws.{held_in, in_held, place_fits, place_may}
use Rattle.post_changes.proofs.PlacePosts.{count_posts, place_there, posted_few}
use Rattle.board_ledger.specs.setup_file.declared.conference.Conference.{Conference}
use Rattle.post_changes.proofs.fits.fits_place.Goals as goal

pub conference_of-requires : goal.conference_of-requires
conference_of-requires c = place_there c.args.board.now c.args.place c.args.base.now c.requires.base

pub returns-then-slots-le-SLOT_LIMIT : goal.returns-then-slots-le-SLOT_LIMIT
returns-then-slots-le-SLOT_LIMIT c =
    let b : Board = c.args.board.now in
    let posts : List (ℕ × Message) = c.args.posts.now in
    let base : Contents = c.args.base.now in
    let conference : Conference = c.conference_of.result.now in (
      λ yes. place_fits b posts c.args.place base conference c.requires.board c.requires.base c.conference_of.ensures (held_in conference.kind c.args.place posts (c.may_hold_posts.ensures.0 yes))
          (omega (arith, c.saturating_add-slots.ensures, c.slot_count.ensures, c.count_in.ensures, count_posts c.args.place posts, c.if-slots-le-SLOT_LIMIT.true)),
      λ next. c.may_hold_posts.ensures.1 (in_held conference.kind c.args.place posts (place_may b posts c.args.place base conference c.requires.board c.requires.base c.conference_of.ensures next)),
    )

pub returns-else-slots-le-SLOT_LIMIT : goal.returns-else-slots-le-SLOT_LIMIT
returns-else-slots-le-SLOT_LIMIT c =
    let posts : List (ℕ × Message) = c.args.posts.now in (
      λ yes. absurd (omega (arith, leb-true c.saturating_add-slots.result slot_limit yes, c.if-slots-le-SLOT_LIMIT.false)),
      λ next.
          let few = posted_few c.args.board.now posts c.args.place c.args.base.now next in
          le-leb c.saturating_add-slots.result slot_limit (omega (arith, c.saturating_add-slots.ensures, c.slot_count.ensures, c.count_in.ensures, count_posts c.args.place posts, few)),
    )
