use Rattle.std.proofs.Common.{ℕ, List, Err, ap, subst}
use Rattle.setup_file.specs.Fault.{SetupFault}
use Rattle.setup_file.specs.Reads.{SetupReads}
use Rattle.setup_file.specs.declared.error.SetupRule.{SetupRule}
use Rattle.shelf_files.proofs.Replies.{refused_by}
use Rattle.shelf_files.specs.declared.refusal.Refusal.TheVariants.{Setup}
use Rattle.cmd_board.specs.Init.{BreaksSetup}
use Rattle.cmd_board.proofs.setup.setup_in.Goals as goal

pub returns-in-Err-Line-clause-setup : goal.returns-in-Err-Line-clause-setup
returns-in-Err-Line-clause-setup g c tells =
    let line = c.in-Err-Line.line in
    let rule = c.in-Err-Line.rule in
    let first : SetupFault c.as_slice.result.now line rule = c.in-Err-Line.ensures.fault line rule (ap Err c.in-Err-Line.field-0-is) in
    refused_by SetupReads BreaksSetup (λ (fault : ℕ × SetupRule). Setup fault.0 fault.1) _ c.in_ok-bytes.bytes (line, rule) (c.in_ok-bytes.ensures.file tells)
    (subst (λ (bytes : List ℕ). SetupFault bytes line rule) c.as_slice.ensures.same first)
