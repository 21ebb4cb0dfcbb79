-- The tests of a conference's record in the code are those of its rules.
use Rattle.std.proofs.Common.{◌≡◌, ℕ, suc, ◌-◌, ◌<◌, leb, List, [], ◌∷◌, length, get_or, ap, ◌∙◌, arith}
use Rattle.setup_file.specs.declared.conference.Conference.{Conference}
use Rattle.board_ledger.specs.Conferences.{out_of_order}

pub order_by_last : (before : List Conference) (last : Conference) (number : ℕ) → 0 < length before → last ≡ get_or before (length before - 1) last → leb number last.number ≡ out_of_order before number
order_by_last [] last number some is = absurd (omega arith)
order_by_last (c ∷ []) last number some is = ap (λ (x : Conference). leb number x.number) is
order_by_last (c ∷ d ∷ before) last number some is =
    let place : suc (suc (length before)) - 1 ≡ suc (suc (length before) - 1) = omega arith in
    order_by_last (d ∷ before) last number (omega arith) (is ∙ ap (λ k. get_or (c ∷ d ∷ before) k last) place)
