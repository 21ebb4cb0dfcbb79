-- What a line gives behind a key, and the first of lines that does.
use Rattle.std.proofs.Common.{◌≡◌, ℕ, true, false, cond, Some, None, List, ap, sym, ◌∙◌}
use Rattle.setup_file.specs.Words.{begins_with, value_behind}
use Rattle.fts_packet.specs.Lines.{keyed_value}

pub value_some : (key line value : List ℕ) → begins_with key line ≡ true → value ≡ value_behind key line → Some value ≡ keyed_value key line
value_some key line value begins is = ap Some is ∙ sym (ap (λ t. cond t (Some (value_behind key line)) None) begins)

pub value_none : (key line : List ℕ) → begins_with key line ≡ false → None ≡ keyed_value key line
value_none key line none = sym (ap (λ t. cond t (Some (value_behind key line)) None) none)
