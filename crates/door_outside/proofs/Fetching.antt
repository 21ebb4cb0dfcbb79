-- A file that is read piece by piece.
use Rattle.std.proofs.Common.{◌≡◌, ℕ, ◌+◌, List, [], ◌++◌, Option, Some, None, length, take, drop, sym, ◌∙◌, ap, subst, arith, length-append, length-take, length-drop}
use Rattle.std.proofs.Math.Seq.{take-add}
use Rattle.std.proofs.lemmas.List.{take-append-le}
use Rattle.door_outside.specs.Shelf.{IsPieceOf, PieceIs}
use Rattle.door_outside.specs.declared.shelf.Piece.{Piece}
use Rattle.door_outside.specs.declared.shelf.Piece.TheVariants.{Count}

-- a front of the file, or nothing where it isn't there
abbrev pub FrontOf : Option (List ℕ) → List ℕ → Type 0
FrontOf None front = front ≡ []
FrontOf (Some file) front = front ≡ take (length front) file

-- what a piece gave of a file, whatever stood behind it in the buffer
given : (file buf new rest : List ℕ) (at n : ℕ) → length new ≡ length buf → IsPieceOf file at buf new n → take n (new ++ rest) ≡ take n (drop at file)
given file buf new rest at n same piece = take-append-le n new rest (omega (arith, piece.within, same)) ∙ piece.bytes

-- a piece more is a longer front
pub front_more : (held : Option (List ℕ)) (whole buf new rest : List ℕ) (n : ℕ) → length new ≡ length buf → FrontOf held whole → PieceIs held (length whole) buf new (Count n) → FrontOf held (whole ++ take n (new ++ rest))
front_more None whole buf new rest n same front piece = absurd piece
front_more (Some file) whole buf new rest n same front piece = joined ∙ sym (ap (λ (k : ℕ). take k file) long)
  where
    got : List ℕ
    got = take n (new ++ rest)

    is : got ≡ take n (drop (length whole) file)
    is = given file buf new rest (length whole) n same piece

    long : length (whole ++ got) ≡ length whole + n
    long = omega (arith, length-append whole got, ap length is, length-take n (drop (length whole) file), length-drop (length whole) file, piece.there)

    joined : whole ++ got ≡ take (length whole + n) file
    joined = (λ i. front i ++ is i) ∙ sym (take-add (length whole) n file)

-- the same, where each part is known by an equation
pub front_after : (held read : Option (List ℕ)) (whole buf new rest all : List ℕ) (at n : ℕ) (piece : Piece)
    → read ≡ held → at ≡ length whole → piece ≡ Count n → all ≡ whole ++ take n (new ++ rest)
    → length new ≡ length buf → FrontOf held whole → PieceIs read at buf new piece → FrontOf held all
front_after held read whole buf new rest all at n piece same place is more size front gave =
    subst (FrontOf held) (sym more) (front_more held whole buf new rest n size front moved)
  where
    moved : PieceIs held (length whole) buf new (Count n)
    moved = subst (λ (p : Piece). PieceIs held (length whole) buf new p) is (subst (λ (k : ℕ). PieceIs held k buf new piece) place (subst (λ (h : Option (List ℕ)). PieceIs h at buf new piece) same gave))
