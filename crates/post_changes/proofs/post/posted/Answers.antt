use Rattle.post_changes.proofs.PostSteps.{posting_begun}
use Rattle.post_changes.proofs.post.posted.Goals as goal

pub add_bases-requires : goal.add_bases-requires
add_bases-requires c =
    posting_begun c.args.board.now c.args.posts.now (record { ledger = c.args.ledger; bases = c.new.result; intent = c.args.intent }) c.requires.shapes c.requires.next c.new.ensures c.requires.gathered c.requires.spent
