use Rattle.std.proofs.Common.{◌≡◌, true, false, sym, subst, arith}
use Rattle.setup_file.specs.Words.{words}
use Rattle.setup_file.specs.Zones.{are_zones}
use Rattle.setup_file.proofs.ZoneWords.{ZonesTaken, none_taken, word_more, bad_word, many_words, bad_zones, good_zones, zones_are}
use Rattle.setup_file.proofs.zones_line.zones_in.Goals as goal

pub loop-word-init : goal.loop-word-init
loop-word-init c = subst (ZonesTaken c.args.value.now (words c.args.value.now)) (sym c.new-zones.ensures) (none_taken c.args.value.now)

pub returns-in_default-zone_of : goal.returns-in_default-zone_of
returns-in_default-zone_of c = bad_word c.args.value.now c.in-Some.word.now (words c.loop-word.here.now) (words c.in-Some.rest.now) c.loop-word.zones c.loop-word.invariant c.in-Some.ensures c.in_default-zone_of.ensures

pub returns-then-len-ge16 : goal.returns-then-len-ge16
returns-then-len-ge16 c = many_words c.args.value.now c.in-Some.word.now (words c.loop-word.here.now) (words c.in-Some.rest.now) c.loop-word.zones c.loop-word.invariant c.in-Some.ensures (omega arith)

pub loop-word-preserved : goal.loop-word-preserved
loop-word-preserved c =
    let e = c.in-Some-zone_of.ensures in
    subst (ZonesTaken c.args.value.now (words c.in-Some.rest.now)) (sym c.in_ok-add.ensures.ok)
    (word_more c.args.value.now c.in-Some.word.now (words c.loop-word.here.now) (words c.in-Some.rest.now) c.loop-word.zones c.in-Some-zone_of.zone c.loop-word.invariant c.in-Some.ensures e.0 e.1)

pub returns-then-not-are_zones : goal.returns-then-not-are_zones
returns-then-not-are_zones c = bad_zones c.args.value.now (words c.loop-word.here.now) c.loop-word.zones c.loop-word.invariant c.in_default.ensures
    (let e : are_zones c.loop-word.zones ≡ false = cc (c.as_slice.ensures, c.are_zones.ensures, c.if-not-are_zones.true) in e)

pub returns : goal.returns
returns c =
    let left = words c.loop-word.here.now in
    let good : are_zones c.loop-word.zones ≡ true = cc (c.as_slice.ensures, c.are_zones.ensures, c.if-not-are_zones.false) in
    (good_zones c.args.value.now left c.loop-word.zones c.loop-word.invariant c.in_default.ensures good, zones_are c.args.value.now left c.loop-word.zones c.loop-word.invariant c.in_default.ensures)
