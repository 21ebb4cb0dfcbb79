-- What is left of the first bytes of a value without the spaces at their end.
use Rattle.std.proofs.Common.{◌≡◌, ℕ, min, List, length, take, sym, ap, ◌∙◌, arith}
use Rattle.std.proofs.lemmas.List.{take_min}
use Rattle.text_fields.specs.Blank.{IsBlank}
use Rattle.text_fields.specs.Trim.{TrimmedEnd}
use Rattle.text_fields.specs.declared.blank.Blank.TheVariants.{Spaces}
use Rattle.setup_file.proofs.Spaces.{trimmed_is}
use Rattle.setup_file.specs.Words.{before_spaces}

-- what is trimmed of the first so many bytes
pub trimmed_front : (most n : ℕ) (value result : List ℕ) → n ≡ min (length value) most → TrimmedEnd (IsBlank Spaces) (take n value) result → result ≡ before_spaces (take most value)
trimmed_front most n value result is t =
    let order : min (length value) most ≡ min most (length value) = omega arith in
    let same : take n value ≡ take most value = ap (λ k. take k value) (is ∙ order) ∙ take_min most value in
    sym (ap before_spaces (sym same) ∙ trimmed_is (take n value) result t)
