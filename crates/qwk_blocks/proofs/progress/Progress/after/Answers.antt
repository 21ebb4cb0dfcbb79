use Rattle.qwk_blocks.proofs.Stream.{awaits_known}
use Rattle.qwk_blocks.proofs.Steps.{after_notice, after_header, after_text, after_bad}
use Rattle.qwk_blocks.proofs.progress.Progress.after.Goals as goal

pub returns-in-Notice-clause-goes_on : goal.returns-in-Notice-clause-goes_on
returns-in-Notice-clause-goes_on c = λ s is at h. after_notice c.args.self c.args.end s is (awaits_known c.args.self _ 128 s c.in-Notice.is h)

pub returns-in_err-blocks-in-Header-clause-goes_on : goal.returns-in_err-blocks-in-Header-clause-goes_on
returns-in_err-blocks-in-Header-clause-goes_on c = λ s is at h.
    rw c.from_residual.ensures (after_bad c.args.self c.args.end s c.args.block.now is at (awaits_known c.args.self _ 128 s c.in-Header.is h) c.in_err-blocks-in-Header.ensures)

pub returns-in_ok-blocks-in-Header-clause-goes_on : goal.returns-in_ok-blocks-in-Header-clause-goes_on
returns-in_ok-blocks-in-Header-clause-goes_on c = λ s is at h.
    after_header c.args.self c.with_text.result c.in_ok-blocks-in-Header.blocks c.args.end s c.args.block.now is at (awaits_known c.args.self _ 128 s c.in-Header.is h)
    c.in_ok-blocks-in-Header.ensures c.with_text.ensures

pub returns-in-Text-clause-goes_on : goal.returns-in-Text-clause-goes_on
returns-in-Text-clause-goes_on c = λ s is at h. after_text c.args.self c.with_text-in-Text.result c.in-Text.left c.args.end s is (awaits_known c.args.self _ 128 s c.in-Text.is h) c.with_text-in-Text.ensures
