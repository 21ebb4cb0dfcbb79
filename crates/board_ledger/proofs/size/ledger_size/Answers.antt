use Rattle.std.proofs.Common.{length, ap, arith, length-append}
use Rattle.std.proofs.lemmas.List.{take_all}
use Rattle.board_ledger.specs.Opening.{fixed_text, setup_text}
use Rattle.board_ledger.specs.Users.{users_text}
use Rattle.open_offers.specs.declared.version.Version.TheVariants.{Second}
use Rattle.board_ledger.proofs.SizeLaws.{fixed_length, ledger_length}
use Rattle.board_ledger.proofs.size.ledger_size.Goals as goal

pub returns : goal.returns
returns c =
    let l = c.args.ledger.now in
    let users = ap (λ us. length (users_text Second (length l.setup.conferences) us)) (take_all c.len.result l.users (omega (arith, c.len.ensures))) in
    omega (
      arith,
      ledger_length Second l (λ k d within. (c.requires.uploads k d within).digest),
      length-append (fixed_text Second l) (setup_text l.setup),
      fixed_length Second l,
      users,
      c.user_place.ensures.place,
      c.len-uploads.ensures,
      c.len.ensures,
    )
