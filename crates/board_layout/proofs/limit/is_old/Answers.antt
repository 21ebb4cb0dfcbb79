use Rattle.std.proofs.Common.{◌≡◌, ◌≤◌, ◌∙◌, List, ℕ, length, replicate, refl, ap, arith}
use Rattle.door_outside.specs.Disk.{read_into}
use Rattle.door_outside.specs.File.{ledger_file}
use Rattle.board_ledger.specs.intent_journal.Patches.{HostFiles}
use Rattle.board_layout.proofs.FirstBytes.{old_read}
use Rattle.board_layout.proofs.limit.is_old.Goals as goal

pub returns-then-count-eq6-clause-value : goal.returns-then-count-eq6-clause-value
returns-then-count-eq6-clause-value g c = λ tells.
    let files : HostFiles = (g.H.Host.disk c.args.host.now).files in
    let room : List ℕ = replicate 6 0 in
    let at : files c.ledger.result ≡ files ledger_file = ap files c.ledger.ensures in
    let long : 24 ≤ length (files ledger_file) = omega (arith, c.if-len-ge24.true, c.in_ok-len.ensures.value tells, ap length at) in
    let read : c.read_at.new.buf ≡ read_into (files ledger_file) 0 room = c.in_ok-count.ensures.bytes tells ∙ (λ i. read_into ((c.length.ensures.unchanged tells).files i (c.ledger-2.ensures i)) 0 room) in
    old_read (files ledger_file) room c.read_at.new.buf c.is_first.result long refl read c.is_first.ensures
