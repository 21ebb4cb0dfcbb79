-- Of drafts one at most is the first that can't be put into QWK, and none is where all can.
use Rattle.std.proofs.Common.{◌≡◌, ℕ, ◌+◌, ◌<◌, List, ◌∷◌, ◌++◌, length, get_or, sym, ◌∙◌, ap, subst, inl, inr, arith, length-append}
use Rattle.std.proofs.lemmas.Bool.{cases_lt}
use Rattle.std.proofs.lemmas.List.{get_or_append_left, get_or-append-add}
use Rattle.std.specs.List.{All}
use Rattle.qwk_blocks.specs.declared.message.QwkMessage.{QwkMessage}
use Rattle.offline_writer.specs.Fitting.{FitsQwk, IsFirstUnfit}

-- the draft stands behind those before it
at_place : (drafts : List QwkMessage) (number : ℕ) (u : IsFirstUnfit drafts number) → get_or drafts (length u.before) u.draft ≡ u.draft
at_place drafts number u =
    let k : length u.before + 0 ≡ length u.before = omega arith in
    ap (λ ds. get_or ds (length u.before) u.draft) u.whole
    ∙ subst (λ (n : ℕ). get_or (u.before ++ u.draft ∷ u.behind) n u.draft ≡ u.draft) k (get_or-append-add u.before (u.draft ∷ u.behind) 0 u.draft)

-- it isn't among those that fit
not_among : (drafts front rest : List QwkMessage) (number : ℕ) (u : IsFirstUnfit drafts number) → drafts ≡ front ++ rest → All FitsQwk front → length u.before < length front → ⊥
not_among drafts front rest number u is fit lt =
    let here : get_or drafts (length u.before) u.draft ≡ get_or front (length u.before) u.draft
    = ap (λ ds. get_or ds (length u.before) u.draft) is ∙ get_or_append_left front rest u.draft (length u.before) lt in
    u.unfit (subst FitsQwk (sym here ∙ at_place drafts number u) (fit (length u.before) u.draft lt))

pub none_unfit : (drafts : List QwkMessage) (number : ℕ) → All FitsQwk drafts → IsFirstUnfit drafts number → ⊥
none_unfit drafts number fit u =
    u.unfit (subst FitsQwk (at_place drafts number u) (fit (length u.before) u.draft (omega (arith, ap length u.whole, length-append u.before (u.draft ∷ u.behind)))))

pub first_unfit_once : (drafts : List QwkMessage) (m n : ℕ) → IsFirstUnfit drafts m → IsFirstUnfit drafts n → m ≡ n
first_unfit_once drafts m n u v = elim (cases_lt (length u.before) (length v.before)) [
  | inl lt ↦ absurd (not_among drafts v.before (v.draft ∷ v.behind) m u v.whole v.fit lt)
  | inr ge ↦ elim (cases_lt (length v.before) (length u.before)) [
    | inl less ↦ absurd (not_among drafts u.before (u.draft ∷ u.behind) n v u.whole u.fit less)
    | inr same ↦ omega (arith, u.at, v.at)
  ]
]
