use Rattle.std.proofs.Common.{ℕ, ◌-◌, List, ◌++◌, length, take, drop, refl, subst, arith}
use Rattle.std.proofs.lemmas.List.{take_all, take_rest, length-take}
use Rattle.offline_reader.specs.Scan.{HasFed}
use Rattle.offline_reader.proofs.Scanning.{fed_ok, fed_err, more_fed, all_fed}
use Rattle.offline_reader.proofs.scan.feed_all.Goals as goal

pub loop-at-preserved : goal.loop-at-preserved
loop-at-preserved c =
    let at = c.loop-at.at in
    let piece = c.args.piece.now in
    let rest = take (length piece - at) (drop at piece) in
    let used = c.in-Ok.fed.used in
    record {
      within = omega (arith, c.in-Ok.ensures.bound.0, length-take (length piece - at) (drop at piece), c.loop-at-test.true);
      taken = omega (arith, c.in-Ok.ensures.taken, c.loop-at.invariant.taken);
      fed = λ s h.
          let next = fed_ok c.loop-at.reader c.feed.new.self (s ++ take at piece) rest c.in-Ok.fed c.in-Ok.ensures.holds c.in-Ok.ensures.used
          (λ t holds sound place. (c.in-Ok.ensures.fault t holds sound place).1) (λ t holds place f. (c.in-Ok.ensures.later t holds place f).0) (c.loop-at.invariant.fed s h) in
          more_fed c.feed.new.self s piece at used (subst (λ (l : List ℕ). HasFed c.feed.new.self ((s ++ take at piece) ++ take used l)) (take_rest piece at) next);
    }

pub returns-in-Err-clause-fed : goal.returns-in-Err-clause-fed
returns-in-Err-clause-fed c = λ s h.
    let at = c.loop-at.at in
    let piece = c.args.piece.now in
    let rest = take (length piece - at) (drop at piece) in
    let found = c.in-Err.field-0 in
    let next = fed_err c.loop-at.reader c.feed.new.self (s ++ take at piece) rest found c.in-Err.ensures.holds (λ t holds sound. (c.in-Err.ensures.fault t holds sound found.at).0 refl)
    (λ t holds place f. (c.in-Err.ensures.later t holds place f).1) (c.loop-at.invariant.fed s h) in
    all_fed c.feed.new.self s piece at (subst (λ (l : List ℕ). HasFed c.feed.new.self ((s ++ take at piece) ++ l)) (take_rest piece at) next)

pub returns-clause-fed : goal.returns-clause-fed
returns-clause-fed c = λ s h. subst (λ (l : List ℕ). HasFed c.loop-at.reader (s ++ l)) (take_all c.loop-at.at c.args.piece.now c.loop-at-test.false) (c.loop-at.invariant.fed s h)
