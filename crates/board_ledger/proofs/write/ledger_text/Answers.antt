use Rattle.std.proofs.Common.{◌^◌, ◌<◌, ◌≤◌, List, arith, length, subst, sym}
use Rattle.std.specs.Prelude.{All}
use Rattle.board_ledger.specs.declared.user.User.{User}
use Rattle.board_ledger.proofs.SetupBounds.{user_small}
use Rattle.board_ledger.proofs.write.ledger_text.Goals as goal

pub add_users-requires-clause-names : goal.add_users-requires-clause-names
add_users-requires-clause-names c =
    let each : All (λ (u : User). length u.name < 2 ^ 16) c.args.ledger.now.users = λ k d within. omega (arith, user_small _ (c.requires.users k d within).name) in
    subst (λ (us : List User). All (λ (u : User). length u.name < 2 ^ 16) us) (sym c.as_slice.ensures) each

pub add_users-requires-clause-offers : goal.add_users-requires-clause-offers
add_users-requires-clause-offers c =
    let each : All (λ (u : User). length u.offers ≤ 4) c.args.ledger.now.users = λ k d within. (c.requires.users k d within).offers.few in
    subst (λ (us : List User). All (λ (u : User). length u.offers ≤ 4) us) (sym c.as_slice.ensures) each
