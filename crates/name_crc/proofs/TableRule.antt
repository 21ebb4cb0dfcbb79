-- Each word of the table is eight steps of its place.
use Rattle.std.proofs.Common.{◌≡◌, ℕ, ◌+◌, ◌<◌, ◌==◌, ◌&&◌, Bool, true, List, [], ◌∷◌, length, get_or, refl, ap, ◌∙◌, arith, zero, suc}
use Rattle.std.proofs.lemmas.Bool.{and_parts, eqb-true}
use Rattle.name_crc.specs.JamCrc.{eight_times}
use Rattle.name_crc.specs.declared.table.TheConstants.{TABLE}

-- the words from a place on are the eight steps of their places
agrees : ℕ → List ℕ → Bool
agrees place [] = true
agrees place (word ∷ words) = (word == eight_times place) && agrees (place + 1) words

table_agrees : agrees 0 TABLE ≡ true
unfolding agrees eight_times
table_agrees = refl

agrees-at : (place : ℕ) (words : List ℕ) (i : ℕ) → agrees place words ≡ true → i < length words → get_or words i 0 ≡ eight_times (place + i)
unfolding agrees
agrees-at place [] i all within = absurd (omega arith)
agrees-at place (word ∷ words) zero all within = eqb-true word (eight_times place) (and_parts _ _ all).0 ∙ ap eight_times (omega arith)
agrees-at place (word ∷ words) (suc i) all within =
    agrees-at (place + 1) words i (and_parts _ _ all).1 (omega arith) ∙ ap eight_times (omega arith)

pub table_word : (i : ℕ) → i < 256 → get_or TABLE i 0 ≡ eight_times i
table_word i within = agrees-at 0 TABLE i table_agrees within ∙ ap eight_times (omega arith)
