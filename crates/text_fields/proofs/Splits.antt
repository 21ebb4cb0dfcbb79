-- A text is split at its first byte of a value in one way.
use Rattle.std.proofs.Common.{◌≡◌, ◌≢◌, ℕ, ◌+◌, List, [], ◌∷◌, ◌++◌, sym, refl}
use Rattle.std.proofs.lemmas.List.Elements.{All-head, All-tail}
use Rattle.text_fields.specs.Split.{Lacks}

-- a text that lacks the byte is not split at it
pub not_split : (byte : ℕ) (text front rest : List ℕ) → Lacks byte text → text ≡ front ++ byte ∷ rest → ⊥
not_split byte [] [] rest p e = cc
not_split byte [] (d ∷ front) rest p e = cc
not_split byte (c ∷ text) [] rest p e = let h : c ≡ byte = cc in All-head (λ b. b ≢ byte) c text p h
not_split byte (c ∷ text) (d ∷ front) rest p e =
    let t : text ≡ front ++ byte ∷ rest = cc in
    not_split byte text front rest (All-tail (λ b. b ≢ byte) c text p) t

pub split_once : (byte : ℕ) (x y u v : List ℕ) → Lacks byte x → Lacks byte y → x ++ byte ∷ u ≡ y ++ byte ∷ v → (x ≡ y) × (u ≡ v)
split_once byte [] [] u v p q e = (refl, cc)
split_once byte [] (d ∷ y) u v p q e = let h : byte ≡ d = cc in absurd (All-head (λ b. b ≢ byte) d y q (sym h))
split_once byte (c ∷ x) [] u v p q e = let h : c ≡ byte = cc in absurd (All-head (λ b. b ≢ byte) c x p h)
split_once byte (c ∷ x) (d ∷ y) u v p q e =
    let h : c ≡ d = cc in
    let t : x ++ byte ∷ u ≡ y ++ byte ∷ v = cc in
    let r : (x ≡ y) × (u ≡ v) = split_once byte x y u v (All-tail (λ b. b ≢ byte) c x p) (All-tail (λ b. b ≢ byte) d y q) t in
    let xy : x ≡ y = r.0 in
    (cc, r.1)
