use Rattle.std.proofs.Common.{ℕ, List, [], ◌∷◌, Ok, subst}
use Rattle.offline_writer.specs.Drafts.{reply_draft}
use Rattle.cmd_replies.specs.RepFile.{DraftsFit, Enlarges}
use Rattle.cmd_replies.specs.Reply.{TextOf}
use Rattle.cmd_replies.proofs.Steps.{comes_next, enlarges}
use Rattle.cmd_replies.proofs.replying.answer.Goals as goal

pub returns-in-Ok-clause-made : goal.returns-in-Ok-clause-made
returns-in-Ok-clause-made g c tells =
    let old = g.S.Shelf.files c.args.shelf.now in
    let made = c.in-Ok.drafts in
    let draft = λ (bytes : List ℕ). reply_draft c.args.control.now c.args.answered.now bytes c.args.now in
    comes_next (TextOf old c.args.text.now) (λ bytes. Enlarges old c.args.rep.now c.args.control.now.bbsid (draft bytes ∷ [])) c.in_ok-bytes.bytes c.enlarge.result (c.in_ok-bytes.ensures.file tells)
    (enlarges old (g.S.Shelf.files c.file_in.new.shelf) c.args.rep.now c.args.control.now.bbsid c.as_slice-in-Ok.result.now (draft c.in_ok-bytes.bytes ∷ []) made c.enlarge.result
    (c.in_ok-bytes.ensures.unchanged tells) c.as_slice-in-Ok.ensures.same (subst (λ (bytes : List ℕ). DraftsFit (draft bytes ∷ []) (Ok made)) c.as_slice.ensures.same c.in-Ok.ensures.drafts)
    (c.enlarge.ensures.made tells))
