use Rattle.std.proofs.Common.{◌≡◌, ℕ, [], List, length, sym, ap, ◌∙◌, subst, arith}
use Rattle.board_changes.specs.Changed.{new_ledger, empty_conferences, made}
use Rattle.board_changes.specs.Gathered.{Gathered, FitJournal}
use Rattle.board_changes.proofs.GatherLaws.{gathered_none}
use Rattle.board_changes.proofs.LeadLaws.{leads_made}
use Rattle.board_changes.proofs.MadeLaws.{new_fits, new_is_board}
use Rattle.board_changes.proofs.BaseOutlines.{made_outline}
use Rattle.board_layout.specs.Board.{Board, board_with, conferences_in, shapes_of}
use Rattle.board_layout.specs.Layout.{AreEmpty, layouts}
use Rattle.board_layout.specs.Outlines.{board_outline}
use Rattle.board_layout.specs.Valid.{IsBoard}
use Rattle.board_ledger.specs.Ledger.{ledger_text}
use Rattle.board_ledger.specs.declared.ledger.Ledger.{Ledger}
use Rattle.board_ledger.specs.declared.upload.UploadRecord.{UploadRecord}
use Rattle.board_ledger.specs.declared.user.User.{User}
use Rattle.board_layout.specs.jam_base.Contents.{Contents}
use Rattle.board_layout.specs.jam_layout.declared.files.BaseFiles.{BaseFiles}
use Rattle.board_ledger.specs.setup_file.declared.fields.SetupFields.{SetupFields}
use Rattle.board_changes.proofs.make.made.Goals as goal

-- a ledger without users and upload records
ledger_is : (setup : SetupFields) (created : ℕ) (users : List User) (uploads : List UploadRecord) → users ≡ [] → uploads ≡ [] → record { version = 2; setup = setup; created = created; users = users; uploads = uploads } ≡ new_ledger setup created
ledger_is setup created users uploads none nothing = λ i. record { version = 2; setup = setup; created = created; users = none i; uploads = nothing i }

pub fresh_bases-requires-clause-gathered : goal.fresh_bases-requires-clause-gathered
fresh_bases-requires-clause-gathered c =
    let l : Ledger = record { version = 2; setup = c.args.setup; created = c.args.created; users = c.new.result; uploads = c.new-2.result } in
    let new : List BaseFiles = layouts (shapes_of l) (empty_conferences (shapes_of l)) in
    subst (Gathered AreEmpty (ledger_text l) [] new 0) (sym c.in_ok-intent.ensures) (gathered_none AreEmpty (ledger_text l) [] new (λ files empty. empty.places))

pub fresh_bases-requires-clause-fit : goal.fresh_bases-requires-clause-fit
fresh_bases-requires-clause-fit c =
    subst (λ (l : Ledger). FitJournal (ledger_text l) (layouts (shapes_of l) (empty_conferences (shapes_of l)))) (sym (ledger_is c.args.setup c.args.created c.new.result c.new-2.result c.new.ensures c.new-2.ensures))
    (new_fits c.args.setup c.args.created c.fields-fields.ensures.valid)

pub new-board-requires-clause-board : goal.new-board-requires-clause-board
new-board-requires-clause-board c =
    let l : Ledger = record { version = 2; setup = c.args.setup; created = c.args.created; users = c.new.result; uploads = c.new-2.result } in
    let is : l ≡ new_ledger c.args.setup c.args.created = ledger_is c.args.setup c.args.created c.new.result c.new-2.result c.new.ensures c.new-2.ensures in
    let bases : List Contents = c.in_ok-bases.bases in
    let conferences : conferences_in bases ≡ empty_conferences (shapes_of (new_ledger c.args.setup c.args.created)) = c.in_ok-bases.ensures.conferences ∙ ap (λ (k : Ledger). empty_conferences (shapes_of k)) is in
    let board : board_with l bases ≡ made c.args.setup c.args.created = λ i. record { ledger = is i; conferences = conferences i } in
    subst IsBoard (sym board) (new_is_board c.args.setup c.args.created c.fields-fields.ensures.valid (omega (arith, c.ranges.created.fits)))

pub new-board-requires-clause-outline : goal.new-board-requires-clause-outline
new-board-requires-clause-outline c =
    let l : Ledger = record { version = 2; setup = c.args.setup; created = c.args.created; users = c.new.result; uploads = c.new-2.result } in
    let is : l ≡ new_ledger c.args.setup c.args.created = ledger_is c.args.setup c.args.created c.new.result c.new-2.result c.new.ensures c.new-2.ensures in
    let bases : List Contents = c.in_ok-bases.bases in
    let conferences : conferences_in bases ≡ empty_conferences (shapes_of (new_ledger c.args.setup c.args.created)) = c.in_ok-bases.ensures.conferences ∙ ap (λ (k : Ledger). empty_conferences (shapes_of k)) is in
    let board : board_with l bases ≡ made c.args.setup c.args.created = λ i. record { ledger = is i; conferences = conferences i } in
    subst (λ (b : Board). board_outline b ≡ b) (sym board) (made_outline c.args.setup c.args.created)

pub returns-clause-leads : goal.returns-clause-leads
returns-clause-leads c =
    leads_made c.args.setup c.args.created c.fresh_bases.new.intent
    (subst (λ (l : Ledger). Gathered AreEmpty (ledger_text l) [] (layouts (shapes_of l) (empty_conferences (shapes_of l))) (length (shapes_of l)) c.fresh_bases.new.intent)
    (ledger_is c.args.setup c.args.created c.new.result c.new-2.result c.new.ensures c.new-2.ensures) c.in_ok-bases.ensures.gathers)

pub returns-clause-valid : goal.returns-clause-valid
returns-clause-valid c = new_is_board c.args.setup c.args.created c.fields-fields.ensures.valid (omega (arith, c.ranges.created.fits))

pub returns-in_err-intent-clause-valid : goal.returns-in_err-intent-clause-valid
returns-in_err-intent-clause-valid c = new_is_board c.args.setup c.args.created c.fields-fields.ensures.valid (omega (arith, c.ranges.created.fits))

pub returns-in_err-bases-clause-valid : goal.returns-in_err-bases-clause-valid
returns-in_err-bases-clause-valid c = new_is_board c.args.setup c.args.created c.fields-fields.ensures.valid (omega (arith, c.ranges.created.fits))
