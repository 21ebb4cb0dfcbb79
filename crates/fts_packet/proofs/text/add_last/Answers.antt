use Rattle.std.proofs.Common.{◌≡◌, ◌≢◌, List, ℕ, ◌++◌, length, ap, ◌∙◌, arith}
use Rattle.std.proofs.lemmas.Bool.Decides.{nat_tests}
use Rattle.std.proofs.lemmas.Result.{on_ok_weaker}
use Rattle.fts_packet.specs.Text.{if_any}
use Rattle.fts_packet.proofs.TextLines.{nothing_more, some_more}
use Rattle.fts_packet.proofs.text.add_last.Goals as goal

pub returns-then-is_empty : goal.returns-then-is_empty
returns-then-is_empty c =
    let last = c.in_ok-last.last in
    let none : length last ≡ 0 = grind (arith, nat_tests) in
    nothing_more c.args.lines.now last none ∙ ap (λ (x : List ℕ). c.args.lines.now ++ if_any x) c.in_ok-last.ensures

pub returns : goal.returns
returns c =
    let last = c.in_ok-last.last in
    let some : length last ≢ 0 = grind (arith, nat_tests) in
    on_ok_weaker c.add.result
    (λ added. added ∙ (some_more c.args.lines.now last some ∙ ap (λ (x : List ℕ). c.args.lines.now ++ if_any x) c.in_ok-last.ensures))
    c.add.ensures.ok
