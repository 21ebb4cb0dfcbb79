use Rattle.std.proofs.Common.{◌≡◌, ◌∙◌, ℕ, List, [], ◌∷◌, ◌++◌, ◌≤◌, length, set, Option, sym, ap, arith}
use Rattle.std.proofs.lemmas.List.{nil_from_length}
use Rattle.jam_base.specs.Contents.{Contents}
use Rattle.board_layout.specs.Renewed.{renewed}
use Rattle.board_layout.proofs.RenewedBases.{none_new, last_old, last_new, past_last}
use Rattle.board_layout.proofs.board.renew_bases.Goals as goal

pub loop-new-preserved-then-place-olds : goal.loop-new-preserved-then-place-olds
loop-new-preserved-then-place-olds c =
    let olds : List Contents = c.loop-new.olds in
    let b : Contents = c.in-Some-new.base in
    let left : List (Option Contents) = c.pop.new.self.items in
    let place : c.len-place.result ≡ length left = omega (arith, c.len-place.ensures, c.pop.new.self.ok.0) in
    let news = c.in-Some.ensures.items ∙ ap (λ (new : Option Contents). left ++ new ∷ []) c.in-Some-new.is in
    ap (λ (k : ℕ). renewed (set olds k b) left) place ∙ (sym (last_new olds left b) ∙ (ap (renewed olds) (sym news) ∙ c.loop-new.invariant))

pub loop-new-preserved-else-place-olds : goal.loop-new-preserved-else-place-olds
loop-new-preserved-else-place-olds c =
    let olds : List Contents = c.loop-new.olds in
    let b : Contents = c.in-Some-new.base in
    let left : List (Option Contents) = c.pop.new.self.items in
    let past : length olds ≤ length left = omega (arith, c.len-place.ensures, c.pop.new.self.ok.0) in
    let news = c.in-Some.ensures.items ∙ ap (λ (new : Option Contents). left ++ new ∷ []) c.in-Some-new.is in
    sym (past_last olds left b past) ∙ (ap (renewed olds) (sym news) ∙ c.loop-new.invariant)

pub loop-new-preserved : goal.loop-new-preserved
loop-new-preserved c =
    let olds : List Contents = c.loop-new.olds in
    let left : List (Option Contents) = c.pop.new.self.items in
    let news = c.in-Some.ensures.items ∙ ap (λ (new : Option Contents). left ++ new ∷ []) c.in_default-new.is in
    sym (last_old olds left) ∙ (ap (renewed olds) (sym news) ∙ c.loop-new.invariant)

pub returns : goal.returns
returns c =
    let olds : List Contents = c.loop-new.olds in
    let none : length c.loop-new.news.items ≡ 0 = omega (arith, c.in_default.ensures.cases, c.loop-new.news.ok.0) in
    sym (none_new olds) ∙ (ap (renewed olds) (sym (nil_from_length c.loop-new.news.items none)) ∙ c.loop-new.invariant)
