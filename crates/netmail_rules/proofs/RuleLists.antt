-- The first rule that refuses, in two lists one after the other; and the rules of a conference by their tests.
use Rattle.std.proofs.Common.{◌≡◌, Bool, true, false, Some, None, List, [], ◌∷◌, ◌++◌, refl}
use Rattle.netmail_rules.specs.Rules.{first_refusing}
use Rattle.netmail_rules.specs.declared.rule.Rule.{Rule}
use Rattle.netmail_rules.specs.declared.rule.Rule.TheVariants.{Member, Readonly, Sender, To, Subject, Length, Private, Netuser, Address, Zone, Full}

pub refused_before : {R : Type 0} → (before behind : List (R × Bool)) (r : R) → first_refusing before ≡ Some r → first_refusing (before ++ behind) ≡ Some r
refused_before [] behind r e = absurd (cc)
refused_before ((q, true) ∷ before) behind r e = e
refused_before ((q, false) ∷ before) behind r e = refused_before before behind r e

pub refused_behind : {R : Type 0} → (before behind : List (R × Bool)) → first_refusing before ≡ None → first_refusing (before ++ behind) ≡ first_refusing behind
refused_behind [] behind e = refl
refused_behind ((q, true) ∷ before) behind e = absurd (cc)
refused_behind ((q, false) ∷ before) behind e = refused_behind before behind e

-- the rules that speak of the conference, by what they test
abbrev pub table : (member readonly sender to subject long private netuser address zone full : Bool) → List (Rule × Bool)
table member readonly sender to subject long private netuser address zone full =
    (Member, member) ∷ (Readonly, readonly) ∷ (Sender, sender) ∷ (To, to) ∷ (Subject, subject) ∷ (Length, long) ∷ (Private, private)
    ∷ (Netuser, netuser) ∷ (Address, address) ∷ (Zone, zone) ∷ (Full, full) ∷ []

-- equal tests make equal rules
pub same_table : {a b b' c c' d d' e e' f f' g g' h h' k k' m m' n n' : Bool} → b ≡ b' → c ≡ c' → d ≡ d' → e ≡ e' → f ≡ f' → g ≡ g' → h ≡ h' → k ≡ k' → m ≡ m' → n ≡ n'
    → table a b c d e f g h k m n ≡ table a b' c' d' e' f' g' h' k' m' n'
same_table {a = a} b c d e f g h k m n = λ i. table a (b i) (c i) (d i) (e i) (f i) (g i) (h i) (k i) (m i) (n i)
