use Rattle.std.proofs.Common.{◌≡◌, List, map, sym, ap, ◌∙◌}
use Rattle.board_layout.specs.Board.{Board}
use Rattle.jam_records.specs.declared.message.Kind.{Kind}
use Rattle.jam_records.specs.declared.message.Message.{Message}
use Rattle.cmd_board.specs.mail_board.declared.change.Change.TheVariants.{Append}
use Rattle.cmd_messages.proofs.ImportLaws.{appends, import_fits, import_short}
use Rattle.cmd_messages.specs.Import.{imported_message, imported_messages}
use Rattle.cmd_messages.proofs.importing.prepared.Goals as goal

pub size_refusal-requires-clause-short : goal.size_refusal-requires-clause-short
size_refusal-requires-clause-short c =
    let b : Board = c.args.board.now.board in
    let messages : List Message = c.in_ok-messages.messages in
    let made : messages ≡ imported_messages c.args.now c.args.place b c.args.entries = c.in_ok-messages.ensures.messages ∙ ap (λ (kind : Kind). map (imported_message kind c.args.now) c.args.entries) c.kind_in.ensures in
    import_short c.args.now c.args.place b c.args.entries messages made c.requires.board c.requires.place c.requires.read c.in_ok-messages.ensures.typed (sym c.slots_refusal.ensures ∙ c.in_default.is)

pub returns : goal.returns
returns c conference =
    let b : Board = c.args.board.now.board in
    let messages : List Message = c.in_ok-messages.messages in
    let made : messages ≡ imported_messages c.args.now c.args.place b c.args.entries = c.in_ok-messages.ensures.messages ∙ ap (λ (kind : Kind). map (imported_message kind c.args.now) c.args.entries) c.kind_in.ensures in
    let few = sym c.slots_refusal.ensures ∙ c.in_default.is in
    let short = sym c.size_refusal.ensures ∙ c.in_default-size_refusal.is in (
      import_fits c.args.now c.args.place b c.args.entries messages made c.requires.board c.requires.place c.requires.read c.in_ok-messages.ensures.typed few short,
      appends c.args.now c.args.place b c.args.entries messages made conference c.len-count.result c.len-count.ensures few short,
      tt,
      ap (Append c.args.place) made,
    )
