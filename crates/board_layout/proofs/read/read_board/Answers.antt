use Rattle.std.proofs.Common.{◌≡◌, ◌∙◌, ◌≤◌, ◌<◌, Some, None, sym, ap, subst, arith}
use Rattle.std.proofs.lemmas.Result.{err_from_is_err_and}
use Rattle.board_ledger.specs.damage_rules.Rules.{Stops}
use Rattle.door_outside.specs.File.{ledger_file}
use Rattle.board_ledger.specs.intent_journal.Patches.{HostFiles}
use Rattle.board_layout.specs.Damage.{parts_of, size_limit, board_in}
use Rattle.board_layout.specs.Layout.{data_size}
use Rattle.board_layout.specs.Rules.{IsFoundOf, ReadSo, damage_of_read}
use Rattle.board_layout.specs.declared.error.ReadError.{ReadError}
use Rattle.board_layout.proofs.ReadingBoard.{no_bytes, too_long, parts_fail, parts_read}
use Rattle.board_layout.proofs.SizeLaws.{empty}
use Rattle.board_layout.proofs.read.read_board.Goals as goal

pub returns-then-size-eq0-clause-gives : goal.returns-then-size-eq0-clause-gives
returns-then-size-eq0-clause-gives g c = λ tells.
    let files : HostFiles = (g.H.Host.disk c.args.host.now).files in
    let none : data_size files ≡ 0 = sym (c.in_ok-size.ensures.value tells) ∙ c.if-size-eq0.true in
    record { whole = None; is_read = no_bytes files none; holds = (empty files).0 none }

pub returns-then-branch-clause-gives : goal.returns-then-branch-clause-gives
returns-then-branch-clause-gives g c = λ tells.
    let files : HostFiles = (g.H.Host.disk c.args.host.now).files in
    let size = c.in_ok-size.ensures.value tells in
    let some : data_size files ≡ 0 → ⊥ = λ none. c.if-size-eq0.false (size ∙ none) in
    let same = ap (λ (now : HostFiles). size_limit (now ledger_file)) (c.data_size.ensures.unchanged tells).files in
    let long : size_limit (files ledger_file) < data_size files = omega (arith, size, c.in_ok-size_limit.ensures.value tells, same, c.if-branch.true) in
    subst (λ (e : ReadError). Stops (damage_of_read e) (board_in files)) (sym c.too_long.ensures) (too_long files some long)

pub returns-in_err-found-clause-gives : goal.returns-in_err-found-clause-gives
returns-in_err-found-clause-gives g c =
    let p = err_from_is_err_and c.from_residual-in_err-found.result c.from_residual-in_err-found.ensures.1 in
    let e = damage_of_read c.in_err-found.field-0.0 in
    let files : HostFiles = (g.H.Host.disk c.args.host.now).files in
    rw (p.1, p.2) (λ tells.
    let size = c.in_ok-size.ensures.value tells in
    let some : data_size files ≡ 0 → ⊥ = λ none. c.if-size-eq0.false (size ∙ none) in
    let before = (c.data_size.ensures.unchanged tells).files in
    let same = ap (λ (now : HostFiles). size_limit (now ledger_file)) before in
    let short : data_size files ≤ size_limit (files ledger_file) = omega (arith, size, c.in_ok-size_limit.ensures.value tells, same, c.if-branch.false) in
    parts_fail files some short e (subst (λ (now : HostFiles). Stops e (parts_of now)) ((c.size_limit.ensures.unchanged tells).files ∙ before) (c.in_err-found.ensures.gives tells)))

pub returns-clause-gives : goal.returns-clause-gives
returns-clause-gives g c = λ tells.
    let files : HostFiles = (g.H.Host.disk c.args.host.now).files in
    let size = c.in_ok-size.ensures.value tells in
    let some : data_size files ≡ 0 → ⊥ = λ none. c.if-size-eq0.false (size ∙ none) in
    let before = (c.data_size.ensures.unchanged tells).files in
    let same = ap (λ (now : HostFiles). size_limit (now ledger_file)) before in
    let short : data_size files ≤ size_limit (files ledger_file) = omega (arith, size, c.in_ok-size_limit.ensures.value tells, same, c.if-branch.false) in
    let read = subst (λ (now : HostFiles). ReadSo (IsFoundOf now) c.in_ok-found.found (parts_of now)) ((c.size_limit.ensures.unchanged tells).files ∙ before) (c.in_ok-found.ensures.gives tells) in
    record { whole = Some read.whole; is_read = parts_read files some short read.whole read.is_read; holds = read.holds }
