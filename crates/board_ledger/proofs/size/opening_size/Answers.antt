use Rattle.std.proofs.Common.{length, sym, ap, subst, ◌∙◌, arith, length-append}
use Rattle.std.specs.List.{flat_map}
use Rattle.setup_file.specs.Valid.{IsSetup}
use Rattle.setup_file.specs.declared.fields.SetupFields.{SetupFields}
use Rattle.board_ledger.specs.Conferences.{conference_text}
use Rattle.board_ledger.specs.Opening.{fixed_text, setup_text}
use Rattle.open_offers.specs.declared.version.Version.TheVariants.{Second}
use Rattle.board_ledger.proofs.SizeLaws.{fixed_length}
use Rattle.board_ledger.proofs.size.opening_size.Goals as goal

pub setup_size-requires : goal.setup_size-requires
setup_size-requires c = subst IsSetup (sym c.fields-setup.ensures.fields) c.fields-setup.ensures.valid

pub returns-clause-size : goal.returns-clause-size
returns-clause-size c =
    let l = c.args.ledger.now in
    let setup = ap (λ (s : SetupFields). length (setup_text s)) c.fields-setup.ensures.fields in
    let conferences = ap (λ xs. length (flat_map conference_text xs)) (c.as_slice.ensures ∙ ap (λ (s : SetupFields). s.conferences) c.fields-setup.ensures.fields) in
    omega (arith, length-append (fixed_text Second l) (setup_text l.setup), fixed_length Second l, setup, conferences, c.setup_size.ensures.size, c.conferences_size.ensures.size)
