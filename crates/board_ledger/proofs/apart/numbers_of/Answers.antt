use Rattle.std.proofs.Common.{◌+◌, ◌-◌, ◌≤◌, length, arith}
use Rattle.std.proofs.lemmas.List.{take_rest}
use Rattle.board_ledger.specs.Apart.{digest_numbers}
use Rattle.board_ledger.specs.Uploads.{upload_size}
use Rattle.board_ledger.proofs.ApartLaws.{numbers_end, numbers_none, numbers_short, numbers_step}
use Rattle.board_ledger.proofs.apart.numbers_of.Goals as goal

pub returns-then-rest-lt-UPLOAD_SIZE : goal.returns-then-rest-lt-UPLOAD_SIZE
returns-then-rest-lt-UPLOAD_SIZE c =
    let left = c.args.count - c.loop.counter in
    numbers_end left c.loop.numbers.items (digest_numbers c.args.count c.args.bytes.now) c.loop.rest.now (numbers_short left c.loop.rest.now c.if-rest-lt-UPLOAD_SIZE.true) c.loop.invariant

pub loop-preserved : goal.loop-preserved
loop-preserved c =
    let long : upload_size ≤ length c.loop.rest.now = omega (arith, c.if-rest-lt-UPLOAD_SIZE.false) in
    numbers_step (c.args.count - c.loop.counter) (c.args.count - (c.loop.counter + 1)) c.loop.numbers.items c.push.new.self.items (digest_numbers c.args.count c.args.bytes.now) c.number_of.result c.loop.rest.now _
    (omega arith) long c.number_of.ensures c.in_ok-push.ensures.items (take_rest c.loop.rest.now upload_size) c.loop.invariant

pub returns : goal.returns
returns c =
    let left = c.args.count - c.loop.counter in
    numbers_end left c.loop.numbers.items (digest_numbers c.args.count c.args.bytes.now) c.loop.rest.now (numbers_none left c.loop.rest.now (omega arith)) c.loop.invariant
