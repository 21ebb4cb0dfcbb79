-- Bases with some of them anew, from the last one on.
use Rattle.std.proofs.Common.{◌≡◌, suc, ◌≤◌, List, [], ◌∷◌, ◌++◌, length, set, Option, Some, None, refl, sym, ap, ◌∙◌, arith}
use Rattle.board_ledger.specs.declared.ledger.Ledger.{Ledger}
use Rattle.jam_base.specs.Contents.{Contents}
use Rattle.jam_base.specs.jam_layout.declared.shape.Shape.{Shape}
use Rattle.board_layout.specs.Board.{board_with, conferences_in, shapes_in, shapes_of}
use Rattle.board_layout.specs.Renewed.{contents, contents_of, renewed}

pub none_new : (olds : List Contents) → renewed olds [] ≡ olds
none_new [] = refl
none_new (old ∷ olds) = refl

pub last_old : (olds : List Contents) (news : List (Option Contents)) → renewed olds (news ++ None ∷ []) ≡ renewed olds news
last_old [] news = refl
last_old (old ∷ olds) [] = ap (λ (xs : List Contents). old ∷ xs) (none_new olds)
last_old (old ∷ olds) (None ∷ news) = ap (λ (xs : List Contents). old ∷ xs) (last_old olds news)
last_old (old ∷ olds) (Some new ∷ news) = ap (λ (xs : List Contents). new ∷ xs) (last_old olds news)

pub last_new : (olds : List Contents) (news : List (Option Contents)) (b : Contents) → renewed olds (news ++ Some b ∷ []) ≡ renewed (set olds (length news) b) news
last_new [] news b = refl
last_new (old ∷ olds) [] b = ap (λ (xs : List Contents). b ∷ xs) (none_new olds)
last_new (old ∷ olds) (None ∷ news) b = ap (λ (xs : List Contents). old ∷ xs) (last_new olds news b)
last_new (old ∷ olds) (Some new ∷ news) b = ap (λ (xs : List Contents). new ∷ xs) (last_new olds news b)

-- a base past the last is none
pub past_last : (olds : List Contents) (news : List (Option Contents)) (b : Contents) → length olds ≤ length news → renewed olds (news ++ Some b ∷ []) ≡ renewed olds news
past_last [] news b past = refl
past_last (old ∷ olds) [] b past = absurd (omega arith)
past_last (old ∷ olds) (None ∷ news) b past = ap (λ (xs : List Contents). old ∷ xs) (past_last olds news b (omega arith))
past_last (old ∷ olds) (Some new ∷ news) b past = ap (λ (xs : List Contents). new ∷ xs) (past_last olds news b (omega arith))

pub renewed_count : (olds : List Contents) (news : List (Option Contents)) → length (renewed olds news) ≡ length olds
renewed_count [] news = refl
renewed_count (old ∷ olds) [] = refl
renewed_count (old ∷ olds) (None ∷ news) = ap suc (renewed_count olds news)
renewed_count (old ∷ olds) (Some new ∷ news) = ap suc (renewed_count olds news)

-- ---- the bases of a board
own_contents : (bases : List Contents) → contents (shapes_in bases) (conferences_in bases) ≡ bases
own_contents [] = refl
own_contents (b ∷ bases) = ap (λ (xs : List Contents). b ∷ xs) (own_contents bases)

pub contents_are : (l : Ledger) (bases : List Contents) → shapes_in bases ≡ shapes_of l → contents_of (board_with l bases) ≡ bases
contents_are l bases shapes = ap (λ (s : List Shape). contents s (conferences_in bases)) (sym shapes) ∙ own_contents bases
