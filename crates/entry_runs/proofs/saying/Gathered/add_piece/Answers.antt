use Rattle.std.proofs.Common.{rules, ◌≡◌, [], ◌++◌, Err}
use Rattle.entry_runs.proofs.Voice.{gathers_more, gathers_cut, gathers_anew, gathers_none, voiced_as, voiced_by_call}
use Rattle.entry_runs.proofs.saying.Gathered.add_piece.Goals as goal

pub returns-then-is_ok-clause-gathers : goal.returns-then-is_ok-clause-gathers
returns-then-is_ok-clause-gathers g c tells =
    let is : c.try_extend_from_slice.new.self.items ≡ c.args.self.now ++ c.args.piece.now = search rules in
    gathers_more _ is

pub returns-in_err-say-clause-gathers : goal.returns-in_err-say-clause-gathers
returns-in_err-say-clause-gathers g c tells =
    let same : c.try_extend_from_slice.new.self.items ≡ c.args.self.now = search rules in
    let is : c.from_residual.result ≡ Err c.in_err-say.field-0.0 = search rules in
    rw is (gathers_cut (voiced_as same (c.in_err-say.ensures.voiced tells)))

pub returns-then-is_ok-2-clause-gathers : goal.returns-then-is_ok-2-clause-gathers
returns-then-is_ok-2-clause-gathers g c tells =
    let same : c.try_extend_from_slice.new.self.items ≡ c.args.self.now = search rules in
    let is : c.try_extend_from_slice-2.new.self.items ≡ c.args.piece.now = search rules in
    gathers_anew is (voiced_as same (c.in_ok-say.ensures.voiced tells))

pub returns-clause-gathers : goal.returns-clause-gathers
returns-clause-gathers g c tells =
    let same : c.try_extend_from_slice.new.self.items ≡ c.args.self.now = search rules in
    let is : c.try_extend_from_slice-2.new.self.items ≡ [] = search rules in
    gathers_none is (voiced_as same (c.in_ok-say.ensures.voiced tells))
    (voiced_by_call c.say-2.result tells (c.say-2.ensures.crash tells) (c.say-2.ensures.partly tells) (c.say-2.ensures.wrote tells) c.say-2.ensures.done)
