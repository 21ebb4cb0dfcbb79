-- The names of the files of a base differ in their endings alone: where one is a shelf name, the others are.
use Rattle.std.proofs.Common.{◌≡◌, inl, inr, ℕ, ◌≤◌, Bool, true, false, cond, eqb, List, [], ◌∷◌, ◌++◌, length, get_or, refl, sym, ◌∙◌, subst, arith}
use Rattle.std.specs.Prelude.{All, codes}
use Rattle.std.specs.List.{onto_first}
use Rattle.std.proofs.lemmas.List.Elements.{All-cons, All-head, All-nil, All-tail}
use Rattle.door_outside.specs.Name.{IsNameByte, IsNamePart, IsShelfName, parts}

-- a part has the length and the first byte of another one, and its bytes are allowed where the other's are
record IsLike (one other : List ℕ) : Type 0 where
  long : length one ≡ length other
  allowed : All IsNameByte one → All IsNameByte other
  first : get_or one 0 0 ≡ get_or other 0 0

none_like : IsLike [] []
none_like = record { long = refl; allowed = λ all. all; first = refl }

more_like : (b : ℕ) (one other : List ℕ) → IsLike one other → IsLike (b ∷ one) (b ∷ other)
more_like b one other like = record {
  long = omega (arith, like.long);
  allowed = λ all. All-cons IsNameByte b other (All-head IsNameByte b one all) (like.allowed (All-tail IsNameByte b one all));
  first = refl;
}

part_like : (one other : List ℕ) → IsLike one other → IsNamePart one → IsNamePart other
part_like one other like is = record {
  some = omega (arith, like.long, is.some);
  short = omega (arith, like.long, is.short);
  allowed = like.allowed is.allowed;
  visible = λ dot. is.visible (like.first ∙ dot);
}

-- so it is part by part
abbrev AreLike : List (List ℕ) → List (List ℕ) → Type 0
AreLike [] [] = Unit {0}
AreLike [] (part ∷ others) = ⊥
AreLike (part ∷ ones) [] = ⊥
AreLike (one ∷ ones) (other ∷ others) = IsLike one other × AreLike ones others

count_like : (ones others : List (List ℕ)) → AreLike ones others → length ones ≡ length others
count_like [] [] like = refl
count_like [] (part ∷ others) like = absurd like
count_like (part ∷ ones) [] like = absurd like
count_like (one ∷ ones) (other ∷ others) like = omega (arith, count_like ones others like.1)

parts_like : (ones others : List (List ℕ)) → AreLike ones others → All IsNamePart ones → All IsNamePart others
parts_like [] [] like all = All-nil IsNamePart
parts_like [] (part ∷ others) like all = absurd like
parts_like (part ∷ ones) [] like all = absurd like
parts_like (one ∷ ones) (other ∷ others) like all = All-cons IsNamePart other others (part_like one other like.0 (All-head IsNamePart one ones all)) (parts_like ones others like.1 (All-tail IsNamePart one ones all))

-- a byte more in front of both, which splits or doesn't
front_like : (splits : Bool) (b : ℕ) (ones others : List (List ℕ)) → AreLike ones others → AreLike (cond splits ([] ∷ ones) (onto_first b ones)) (cond splits ([] ∷ others) (onto_first b others))
front_like true b ones others like = (none_like, like)
front_like false b [] [] like = (more_like b [] [] none_like, tt)
front_like false b [] (part ∷ others) like = absurd like
front_like false b (part ∷ ones) [] like = absurd like
front_like false b (one ∷ ones) (other ∷ others) like = (more_like b one other like.0, like.1)

module _ (old new : List ℕ) (like : IsLike old new) (old_whole : parts old ≡ old ∷ []) (new_whole : parts new ≡ new ∷ []) where
  texts_like : (prefix : List ℕ) → AreLike (parts (prefix ++ old)) (parts (prefix ++ new))
  texts_like [] = subst (λ (ones : List (List ℕ)). AreLike ones (parts new)) (sym old_whole) (subst (λ (others : List (List ℕ)). AreLike (old ∷ []) others) (sym new_whole) (like, tt))
  texts_like (b ∷ prefix) = front_like (eqb b 47) b (parts (prefix ++ old)) (parts (prefix ++ new)) (texts_like prefix)

  named : (prefix : List ℕ) → IsShelfName (prefix ++ old) → IsShelfName (prefix ++ new)
  named prefix is =
      let all = texts_like prefix in
      record {
        few = omega (arith, count_like (parts (prefix ++ old)) (parts (prefix ++ new)) all, is.few);
        each = parts_like (parts (prefix ++ old)) (parts (prefix ++ new)) all is.each;
      }

-- ---- the endings
dot : IsNameByte 46
dot = inr (inr (inr (inl refl)))

letter : (b : ℕ) → 65 ≤ b → b ≤ 90 → IsNameByte b
letter b low high = inr (inl (low, high))

ending : (a b c : ℕ) → IsNameByte a → IsNameByte b → IsNameByte c → All IsNameByte (46 ∷ a ∷ b ∷ c ∷ [])
ending a b c one two three =
    All-cons IsNameByte 46 (a ∷ b ∷ c ∷ []) dot (All-cons IsNameByte a (b ∷ c ∷ []) one (All-cons IsNameByte b (c ∷ []) two (All-cons IsNameByte c [] three (All-nil IsNameByte))))

pub jdx_named : (prefix : List ℕ) → IsShelfName (prefix ++ codes ".JHR") → IsShelfName (prefix ++ codes ".JDX")
jdx_named prefix is =
    named (codes ".JHR") (codes ".JDX")
    (record { long = refl; allowed = λ all. ending 74 68 88 (letter 74 (omega arith) (omega arith)) (letter 68 (omega arith) (omega arith)) (letter 88 (omega arith) (omega arith)); first = refl })
    refl refl prefix is

pub jdt_named : (prefix : List ℕ) → IsShelfName (prefix ++ codes ".JHR") → IsShelfName (prefix ++ codes ".JDT")
jdt_named prefix is =
    named (codes ".JHR") (codes ".JDT")
    (record { long = refl; allowed = λ all. ending 74 68 84 (letter 74 (omega arith) (omega arith)) (letter 68 (omega arith) (omega arith)) (letter 84 (omega arith) (omega arith)); first = refl })
    refl refl prefix is
