use Rattle.std.proofs.Common.{◌+◌, ◌-◌, ◌||◌, List, length, subst, sym, ap, ◌∙◌, arith}
use Rattle.std.proofs.lemmas.List.{take_rest, length_push}
use Rattle.std.proofs.lemmas.Result.{err_from_is_err_and}
use Rattle.board_ledger.specs.Rules.{damage_of_ledger}
use Rattle.damage_rules.specs.Rules.{Stops}
use Rattle.std.specs.List.{list_any}
use Rattle.std.specs.Str.{bytes_eq}
use Rattle.board_ledger.specs.Users.{lowered, user_at}
use Rattle.board_ledger.specs.declared.user.User.{User}
use Rattle.board_ledger.proofs.MetLoops.{met_more}
use Rattle.board_ledger.proofs.RecordLaws.{records_more, records_fail, records_done}
use Rattle.board_ledger.proofs.users.users_of.Goals as goal

pub returns-in_err-user : goal.returns-in_err-user
returns-in_err-user c =
    let p = err_from_is_err_and c.from_residual.result c.from_residual.ensures.1 in
    let failed = subst (λ (xs : List User). Stops (damage_of_ledger c.in_err-user.field-0.0) (user_at c.args.version c.args.conferences xs c.loop.rest.now)) c.as_slice.ensures c.in_err-user.ensures.gives in
    rw (p.1, p.2) (records_fail (user_at c.args.version c.args.conferences) (c.args.count - c.loop.counter) (c.args.count - (c.loop.counter + 1)) c.loop.users c.loop.rest.now (damage_of_ledger c.in_err-user.field-0.0) _ (omega arith) failed c.loop.invariant.read)

pub loop-preserved : goal.loop-preserved
loop-preserved c =
    let read = ap (λ (xs : List User). user_at c.args.version c.args.conferences xs c.loop.rest.now) (sym c.as_slice.ensures) ∙ c.in_ok-user.ensures.gives in
    record {
      read = records_more (user_at c.args.version c.args.conferences) (c.args.count - c.loop.counter) (c.args.count - (c.loop.counter + 1)) c.loop.users c.add.new.self c.loop.rest.now _ (c.in_ok-user.user, c.in_ok-user.size) _ (omega arith) read c.in_ok-add.ensures.ok (take_rest c.loop.rest.now c.in_ok-user.size) c.loop.invariant.read;
      many = ap length c.in_ok-add.ensures.ok ∙ (length_push c.loop.users c.in_ok-user.user ∙ ap (λ n. n + 1) c.loop.invariant.many);
      met = λ key.
          c.in_ok-user.ensures.added key ∙ (ap (λ b. bytes_eq (lowered c.in_ok-user.user.name) key || b) (c.loop.invariant.met key)
          ∙ (met_more (λ (u : User). bytes_eq (lowered u.name) key) c.loop.users c.in_ok-user.user ∙ ap (list_any (λ (u : User). bytes_eq (lowered u.name) key)) (sym c.in_ok-add.ensures.ok)));
    }

pub returns : goal.returns
returns c = records_done (user_at c.args.version c.args.conferences) (c.args.count - c.loop.counter) c.loop.users c.loop.rest.now _ (omega arith) c.loop.invariant.read
