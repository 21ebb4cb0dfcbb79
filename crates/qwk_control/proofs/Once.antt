-- A line says one number, or one serial and board id, at most.
use Rattle.std.proofs.Common.{◌≡◌, ℕ, List, sym, ◌∙◌, subst, inl, inr}
use Rattle.text_fields.specs.Split.{Lacks, SplitsAt}
use Rattle.text_fields.specs.Trim.{Trimmed}
use Rattle.text_fields.proofs.Numbers.{number_unique}
use Rattle.text_fields.proofs.Splits.{not_split, split_once}
use Rattle.text_fields.proofs.Trimming.{trimmed_unique}
use Rattle.qwk_control.specs.Line.{IsSpace, NumberLine, PlaceLine, IsId, IdLine}
use Rattle.qwk_control.specs.Control.{CountReads}

pub line_number_unique : (text : List ℕ) (m n : ℕ) → NumberLine text m → NumberLine text n → m ≡ n
line_number_unique = number_unique IsSpace 9 9

pub place_unique : (text : List ℕ) (m n : ℕ) → PlaceLine text m → PlaceLine text n → m ≡ n
place_unique text m n x y = line_number_unique text m n x.number y.number

pub count_unique : (text : List ℕ) (m n : ℕ) → CountReads text m → CountReads text n → m ≡ n
count_unique text m n x y = elim x [
  | inl a ↦ elim y [ inl b ↦ line_number_unique text m n a b | inr b ↦ absurd (b.0 m a) ]
  | inr a ↦ elim y [ inl b ↦ absurd (a.0 n b) | inr b ↦ a.1 ∙ sym b.1 ]
]

-- the parts before and behind the first comma
parts_once : (text s t u v : List ℕ) → SplitsAt 44 text s u → SplitsAt 44 text t v → (s ≡ t) × (u ≡ v)
parts_once text s t u v x y = split_once 44 s t u v x.first y.first (sym x.whole ∙ y.whole)

pub serial_unique : (text s t i j : List ℕ) → IdLine text s i → IdLine text t j → s ≡ t
serial_unique text s t i j x y = (parts_once text s t x.rest y.rest x.comma y.comma).0

pub id_unique : (text s t i j : List ℕ) → IdLine text s i → IdLine text t j → i ≡ j
id_unique text s t i j x y =
    let e : x.rest ≡ y.rest = (parts_once text s t x.rest y.rest x.comma y.comma).1 in
    trimmed_unique IsSpace y.rest i j (subst (λ (r : List ℕ). Trimmed IsSpace r i) e x.trimmed) y.trimmed

pub no_comma : (text : List ℕ) → Lacks 44 text → (serial id : List ℕ) → IdLine text serial id → ⊥
no_comma text h serial id x = not_split 44 text serial x.rest h x.comma.whole

-- what a trim leaves behind the comma is no board id
pub no_id : (text s r i : List ℕ) → SplitsAt 44 text s r → Trimmed IsSpace r i → (IsId i → ⊥) → (serial id : List ℕ) → IdLine text serial id → ⊥
no_id text s r i c t bad serial id x =
    let e : x.rest ≡ r = (parts_once text serial s x.rest r x.comma c).1 in
    bad (subst IsId (trimmed_unique IsSpace r id i (subst (λ (k : List ℕ). Trimmed IsSpace k id) e x.trimmed) t) x.valid)
