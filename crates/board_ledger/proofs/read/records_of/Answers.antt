use Rattle.std.proofs.Common.{◌≡◌, ◌+◌, ◌∙◌, [], ◌∷◌, List, ℕ, Bool, true, false, not, eqb, length, sym, ap, subst, arith}
use Rattle.std.proofs.lemmas.List.{take_rest}
use Rattle.std.proofs.lemmas.Result.{err_from_is_err_and}
use Rattle.jam_records.specs.declared.damage.DamageRule.TheVariants.{Rest}
use Rattle.damage_rules.specs.Rules.{Stops, by_rules}
use Rattle.board_ledger.specs.Rules.{damage_of_ledger}
use Rattle.board_ledger.specs.Records.{records_at}
use Rattle.board_ledger.specs.Conferences.{conference_at}
use Rattle.board_ledger.specs.Uploads.{upload_at}
use Rattle.board_ledger.specs.Ledger.{ledger_with}
use Rattle.board_ledger.proofs.ReadingSteps.{conferences_fail, users_fail, uploads_fail, at_end}
use Rattle.board_ledger.proofs.read.records_of.Goals as goal

pub returns-in_err-conferences : goal.returns-in_err-conferences
returns-in_err-conferences c =
    let p = err_from_is_err_and c.from_residual.result c.from_residual.ensures.1 in
    let o = c.args.opening.now in
    let bytes = c.args.bytes.now in
    let same = take_rest bytes o.size in
    let e = damage_of_ledger c.in_err-conferences.field-0.0 in
    let failed = subst (λ (xs : List ℕ). Stops e (records_at conference_at o.conferences [] xs)) same c.in_err-conferences.ensures in
    rw (p.1, p.2) (conferences_fail bytes o e c.requires.opening failed)

pub returns-in_err-users : goal.returns-in_err-users
returns-in_err-users c =
    let p = err_from_is_err_and c.from_residual-in_err-users.result c.from_residual-in_err-users.ensures.1 in
    let o = c.args.opening.now in
    let bytes = c.args.bytes.now in
    let same = take_rest bytes o.size in
    let conferences = ap (records_at conference_at o.conferences []) (sym same) ∙ c.in_ok-conferences.ensures in
    let e = damage_of_ledger c.in_err-users.field-0.0 in
    rw (p.1, p.2) (users_fail bytes o (c.in_ok-conferences.conferences, c.in_ok-conferences.rest.now) e c.requires.opening conferences c.in_err-users.ensures)

pub returns-in_err-uploads : goal.returns-in_err-uploads
returns-in_err-uploads c =
    let p = err_from_is_err_and c.from_residual-in_err-uploads.result c.from_residual-in_err-uploads.ensures.1 in
    let o = c.args.opening.now in
    let bytes = c.args.bytes.now in
    let same = take_rest bytes o.size in
    let conferences = ap (records_at conference_at o.conferences []) (sym same) ∙ c.in_ok-conferences.ensures in
    let first : 1 + c.from.result + c.from-2.result ≡ 1 + o.conferences + o.users = omega (arith, c.from.ensures, c.from-2.ensures) in
    let e = damage_of_ledger c.in_err-uploads.field-0.0 in
    let failed = subst (λ (n : ℕ). Stops e (records_at (upload_at n o.users) o.uploads [] c.in_ok-users.rest.now)) first c.in_err-uploads.ensures in
    rw (p.1, p.2) (uploads_fail bytes o (c.in_ok-conferences.conferences, c.in_ok-conferences.rest.now) (c.in_ok-users.users, c.in_ok-users.rest.now) e c.requires.opening conferences c.in_ok-users.ensures failed)

pub returns-then-not-is_empty : goal.returns-then-not-is_empty
returns-then-not-is_empty c =
    let o = c.args.opening.now in
    let bytes = c.args.bytes.now in
    let same = take_rest bytes o.size in
    let conferences = ap (records_at conference_at o.conferences []) (sym same) ∙ c.in_ok-conferences.ensures in
    let first : 1 + c.from.result + c.from-2.result ≡ 1 + o.conferences + o.users = omega (arith, c.from.ensures, c.from-2.ensures) in
    let uploads = ap (λ n. records_at (upload_at n o.users) o.uploads [] c.in_ok-users.rest.now) (sym first) ∙ c.in_ok-uploads.ensures in
    let whole = at_end bytes o (c.in_ok-conferences.conferences, c.in_ok-conferences.rest.now) (c.in_ok-users.users, c.in_ok-users.rest.now) (c.in_ok-uploads.uploads, c.in_ok-uploads.rest.now) c.requires.opening conferences c.in_ok-users.ensures uploads in
    let rest : not (eqb (length c.in_ok-uploads.rest.now) 0) ≡ true = ap not (sym c.if-not-is_empty.ensures) in
    let item : 1 + o.conferences + o.users + o.uploads ≡ 1 + c.from.result + c.from-2.result + o.uploads = omega arith in
    let l = ledger_with o c.in_ok-conferences.conferences c.in_ok-users.users c.in_ok-uploads.uploads in
    rw c.damaged.ensures (whole ∙ (ap (λ (b : Bool). by_rules 0 (1 + o.conferences + o.users + o.uploads) ((Rest, b) ∷ []) l) rest ∙ ap (λ (n : ℕ). by_rules 0 n ((Rest, true) ∷ []) l) item))

pub returns : goal.returns
returns c =
    let o = c.args.opening.now in
    let bytes = c.args.bytes.now in
    let same = take_rest bytes o.size in
    let conferences = ap (records_at conference_at o.conferences []) (sym same) ∙ c.in_ok-conferences.ensures in
    let first : 1 + c.from.result + c.from-2.result ≡ 1 + o.conferences + o.users = omega (arith, c.from.ensures, c.from-2.ensures) in
    let uploads = ap (λ n. records_at (upload_at n o.users) o.uploads [] c.in_ok-users.rest.now) (sym first) ∙ c.in_ok-uploads.ensures in
    let whole = at_end bytes o (c.in_ok-conferences.conferences, c.in_ok-conferences.rest.now) (c.in_ok-users.users, c.in_ok-users.rest.now) (c.in_ok-uploads.uploads, c.in_ok-uploads.rest.now) c.requires.opening conferences c.in_ok-users.ensures uploads in
    let rest : not (eqb (length c.in_ok-uploads.rest.now) 0) ≡ false = ap not (sym c.if-not-is_empty.ensures) in
    let l = ledger_with o c.in_ok-conferences.conferences c.in_ok-users.users c.in_ok-uploads.uploads in
    whole ∙ ap (λ (b : Bool). by_rules 0 (1 + o.conferences + o.users + o.uploads) ((Rest, b) ∷ []) l) rest
