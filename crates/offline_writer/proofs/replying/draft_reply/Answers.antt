use Rattle.std.proofs.Common.{◌≡◌, List, [], ◌∷◌, ◌++◌, ap, sym, ◌∙◌, subst, refl}
use Rattle.std.specs.List.{All}
use Rattle.std.proofs.lemmas.Bool.{true≢false}
use Rattle.std.proofs.lemmas.List.Elements.{All-nil, All-cons}
use Rattle.long_names.specs.Fits.{FitsWithLong}
use Rattle.long_names.specs.Plain.{plain}
use Rattle.qwk_blocks.specs.declared.message.QwkMessage.{QwkMessage}
use Rattle.offline_writer.specs.Drafts.{reply_envelope}
use Rattle.offline_writer.specs.Fitting.{FitsQwk}
use Rattle.offline_writer.proofs.Writing.{draft_writable, read_clean}
use Rattle.offline_writer.proofs.replying.draft_reply.Goals as goal

pub returns-then-not-fits_qwk-clause-drafts : goal.returns-then-not-fits_qwk-clause-drafts
returns-then-not-fits_qwk-clause-drafts c = record {
  before = [];
  draft = c.in_ok-draft.draft;
  behind = [];
  whole = ap (λ (d : QwkMessage). d ∷ []) (sym c.in_ok-draft.ensures.draft);
  fit = All-nil FitsQwk;
  unfit = λ fits. true≢false (sym (c.if-not-fits_qwk.ensures.1 fits));
  at = refl;
}

pub returns-clause-writable : goal.returns-clause-writable
returns-clause-writable c clean =
    let draft = c.in_ok-draft.draft in
    let one : c.add.new.self ≡ draft ∷ [] = c.in_ok-add.ensures.ok ∙ ap (λ (ds : List QwkMessage). ds ++ draft ∷ []) c.new-drafts.ensures in
    let w = draft_writable c.args.control.now (reply_envelope (plain c.args.answered.now).header) c.args.now draft (ap (λ (d : QwkMessage). d.header) c.in_ok-draft.ensures.draft) (read_clean c.args.answered.now clean) c.in_ok-draft.ensures.conference (c.if-not-fits_qwk.ensures.0 refl) in
    subst (All FitsWithLong) (sym one) (All-cons FitsWithLong draft [] w (All-nil FitsWithLong))
