-- The marks of an attribute: what is written is read. The 48 attributes are computed.
use Rattle.std.proofs.Common.{◌≡◌, ℕ, ◌^◌, ◌<◌, Bool, true, false, not, ◌&&◌, eqb, ltb, refl, sym, ap, subst}
use Rattle.std.specs.Prelude.{IsTrue}
use Rattle.std.proofs.lemmas.Bool.{ltb-true, eqb-true, eq-eqb, and_parts}
use Rattle.jam_records.specs.declared.message.Kind.{Kind}
use Rattle.jam_records.specs.declared.message.Kind.TheVariants.{Local, Echo, Net}
use Rattle.jam_layout.specs.Marks.{attribute_of, marks_of, is_net, wrong_attribute}
use Rattle.jam_layout.specs.declared.marks.Marks.{Marks}
use Rattle.damage_rules.proofs.BoolTests.{or_false, not_not, both_false}

abbrev marks : Bool → Bool → Bool → Bool → Marks
marks a b c d = record { local = a; private = b; seen = c; deleted = d }

-- a test that passes at both passes at each
abbrev both : (Bool → Bool) → Bool
both t = t true && t false

both_is : (t : Bool → Bool) → both t ≡ true → (b : Bool) → t b ≡ true
both_is t e true = (and_parts (t true) (t false) e).0
both_is t e false = (and_parts (t true) (t false) e).1

abbrev same : Bool → Bool → Bool
same true b = b
same false b = not b

same_is : (a b : Bool) → same a b ≡ true → a ≡ b
same_is true true e = refl
same_is true false e = absurd cc
same_is false true e = absurd cc
same_is false false e = refl

test : Kind → Bool → Bool → Bool → Bool → Bool
unfolding attribute_of marks_of
test kind a b c d =
    let n = attribute_of kind (marks a b c d) in
    ((same (marks_of n).local a && same (marks_of n).private b) && (same (marks_of n).seen c && same (marks_of n).deleted d)) && ltb n (2 ^ 32)

all_pass : (kind : Kind) → both (λ a. both (λ b. both (λ c. both (λ d. test kind a b c d)))) ≡ true
unfolding test
all_pass Local = refl
all_pass Echo = refl
all_pass Net = refl

passes : (kind : Kind) (a b c d : Bool) → test kind a b c d ≡ true
passes kind a b c d =
    both_is (λ d. test kind a b c d) (both_is (λ c. both (λ d. test kind a b c d)) (both_is (λ b. both (λ c. both (λ d. test kind a b c d))) (both_is (λ a. both (λ b. both (λ c. both (λ d. test kind a b c d)))) (all_pass kind) a) b) c) d

pub marks_again : (kind : Kind) (m : Marks) → (marks_of (attribute_of kind m) ≡ m) × (attribute_of kind m < 2 ^ 32)
unfolding test
marks_again kind m =
    let p = and_parts _ _ (passes kind m.local m.private m.seen m.deleted) in
    let q = and_parts _ _ p.0 in
    let low = and_parts _ _ q.0 in
    let high = and_parts _ _ q.1 in
    let n : ℕ = attribute_of kind m in (
      λ i. record {
        local = same_is (marks_of n).local m.local low.0 i;
        private = same_is (marks_of n).private m.private low.1 i;
        seen = same_is (marks_of n).seen m.seen high.0 i;
        deleted = same_is (marks_of n).deleted m.deleted high.1 i;
      },
      ltb-true n (2 ^ 32) p.1,
    )

implied : (a b : Bool) → (a && not b) ≡ false → IsTrue a → IsTrue b
implied true b e t = not_not b e
implied false b e t = absurd cc

not_implied : (a b : Bool) → (IsTrue a → IsTrue b) → (a && not b) ≡ false
not_implied true true f = refl
not_implied true false f = let t = f refl in absurd cc
not_implied false b f = refl

pub right_attribute : (kind : Kind) (n : ℕ) → wrong_attribute kind n ≡ false → (n ≡ attribute_of kind (marks_of n)) × (IsTrue (is_net kind) → IsTrue (marks_of n).private)
unfolding wrong_attribute
right_attribute kind n e =
    let o = or_false (not (eqb n (attribute_of kind (marks_of n)))) (is_net kind && not (marks_of n).private) e in
    (eqb-true n (attribute_of kind (marks_of n)) (not_not _ o.0), implied (is_net kind) (marks_of n).private o.1)

pub attribute_right : (kind : Kind) (m : Marks) → (IsTrue (is_net kind) → IsTrue m.private) → wrong_attribute kind (attribute_of kind m) ≡ false
unfolding wrong_attribute
attribute_right kind m net =
    let a = marks_again kind m in
    let n : ℕ = attribute_of kind m in
    let same : not (eqb n (attribute_of kind (marks_of n))) ≡ false = ap not (eq-eqb n (attribute_of kind (marks_of n)) (ap (attribute_of kind) (sym a.0))) in
    both_false _ _ same (not_implied (is_net kind) (marks_of n).private (λ t. subst (λ (x : Marks). IsTrue x.private) (sym a.0) (net t)))
