-- The first bytes of file 0, which say that its ledger is of version 1.
use Rattle.std.proofs.Common.{◌≡◌, ℕ, ◌-◌, ◌≤◌, Bool, ◌&&◌, eqb, List, [], ◌∷◌, ◌++◌, length, take, drop, refl, sym, ap, ◌∙◌, arith}
use Rattle.std.specs.Str.{bytes_eq}
use Rattle.std.proofs.lemmas.List.{append-nil, drop_all}
use Rattle.board_ledger.specs.Opening.{magic}
use Rattle.door_outside.specs.Disk.{read_into}
use Rattle.jam_records.specs.record_numbers.Numbers.{u16_at}
use Rattle.board_layout.specs.Damage.{is_old_text}
use Rattle.board_layout.proofs.StoredLedgers.{is_first}

abbrev says_first : List ℕ → Bool
says_first head = bytes_eq (take 4 head) magic && eqb (u16_at 4 head) 1

in_front : (file : List ℕ) → 24 ≤ length file → says_first (take 6 file) ≡ says_first file
unfolding u16_at
in_front [] long = absurd (omega arith)
in_front (a ∷ []) long = absurd (omega arith)
in_front (a ∷ b ∷ []) long = absurd (omega arith)
in_front (a ∷ b ∷ c ∷ []) long = absurd (omega arith)
in_front (a ∷ b ∷ c ∷ d ∷ []) long = absurd (omega arith)
in_front (a ∷ b ∷ c ∷ d ∷ e ∷ []) long = absurd (omega arith)
in_front (a ∷ b ∷ c ∷ d ∷ e ∷ f ∷ rest) long = refl

front_read : (file room : List ℕ) → 24 ≤ length file → length room ≡ 6 → read_into file 0 room ≡ take 6 file
front_read file room long six =
    ap (λ n. take n file ++ drop (length file - 0) room) six ∙ (ap (λ xs. take 6 file ++ xs) (drop_all (length file - 0) room (omega (arith, long, six))) ∙ append-nil (take 6 file))

pub old_read : (file room head : List ℕ) (is : Bool) → 24 ≤ length file → length room ≡ 6 → head ≡ read_into file 0 room → is ≡ says_first head → is ≡ is_old_text file
old_read file room head is long six read says =
    says ∙ (ap says_first (read ∙ front_read file room long six) ∙ (in_front file long ∙ sym (is_first file long)))
