use Rattle.std.proofs.Common.{List}
use Rattle.import_sheet.specs.declared.sheet.Sheet.{Sheet}
use Rattle.offline_writer.specs.Drafts.{entry_drafts}
use Rattle.shelf_files.specs.Sheets.{SheetOf}
use Rattle.cmd_replies.specs.RepFile.{Enlarges}
use Rattle.cmd_replies.proofs.Clean.{entries_clean, entries_few}
use Rattle.cmd_replies.proofs.Steps.{comes_next, enlarges}
use Rattle.cmd_replies.proofs.composing.composed.Goals as goal

pub draft_entries-requires : goal.draft_entries-requires
draft_entries-requires g c = entries_few c.in_ok-entries.entries c.in_ok-entries.ensures.read

pub enlarge-requires-clause-writable : goal.enlarge-requires-clause-writable
enlarge-requires-clause-writable g c = c.in-Ok.ensures.writable (entries_clean c.args.conference c.in_ok-entries.entries c.in_ok-entries.ensures.read)

pub returns-in-Ok-clause-made : goal.returns-in-Ok-clause-made
returns-in-Ok-clause-made g c tells =
    let old = g.S.Shelf.files c.args.shelf.now in
    let drafts = λ (entries : List Sheet). entry_drafts c.args.control.now c.args.conference entries c.args.now in
    comes_next (SheetOf old c.args.sheet.now) (λ entries. Enlarges old c.args.rep.now c.args.control.now.bbsid (drafts entries)) c.in_ok-entries.entries c.enlarge.result (c.in_ok-entries.ensures.sheet tells)
    (enlarges old (g.S.Shelf.files c.sheet_in.new.shelf) c.args.rep.now c.args.control.now.bbsid c.as_slice.result.now (drafts c.in_ok-entries.entries) c.in-Ok.drafts c.enlarge.result
    (c.in_ok-entries.ensures.unchanged tells) c.as_slice.ensures.same c.in-Ok.ensures.drafts (c.enlarge.ensures.made tells))
