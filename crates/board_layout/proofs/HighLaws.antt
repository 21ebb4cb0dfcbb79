-- No high of an open offer is above the count of slots of its conference.
use Rattle.std.proofs.Common.{◌≡◌, inl, inr, ℕ, ◌+◌, not, min, Bool, true, false, List, [], ◌∷◌, length, map, drop, Ok, refl, ap, ◌∙◌, arith, length-drop}
use Rattle.std.specs.Prelude.{All, IsTrue}
use Rattle.std.specs.List.{list_all}
use Rattle.std.proofs.lemmas.Bool.{cases_lt, not-false}
use Rattle.std.proofs.lemmas.List.{length-map}
use Rattle.std.proofs.lemmas.List.Elements.{All-nil, All-cons, All-drop}
use Rattle.board_ledger.specs.declared.user.User.{User}
use Rattle.board_ledger.specs.damage_rules.Rules.{Rules, by_rules, ◌>>=◌}
use Rattle.board_ledger.proofs.damage_rules.KeptRules.{bind_ok, rules_kept, kept_rules}
use Rattle.door_outside.specs.File.{ledger_file}
use Rattle.jam_base.specs.Contents.{Contents}
use Rattle.jam_base.specs.jam_layout.Outlines.{outline}
use Rattle.jam_base.specs.jam_layout.declared.conference.ConferenceContents.{ConferenceContents}
use Rattle.board_layout.proofs.OutlineLaws.{highs_outline}
use Rattle.jam_records.specs.declared.damage.DamageRule.TheVariants.{High}
use Rattle.board_layout.specs.Board.{conferences_in}
use Rattle.board_layout.specs.Damage.{highs_of}
use Rattle.board_layout.specs.Valid.{highs_fit, offers_fit}

abbrev HasHighs : List ConferenceContents → User → Type 0
HasHighs conferences u = IsTrue (offers_fit conferences u.offers)

abbrev rules_of : List ConferenceContents → User → Rules
rules_of conferences u = (High, not (offers_fit conferences u.offers)) ∷ []

pub highs_take : (conferences : List ConferenceContents) (item : ℕ) (users : List User) (x : Unit {0}) → highs_of conferences item users ≡ Ok x → All (HasHighs conferences) users
highs_take conferences item [] x e = All-nil (HasHighs conferences)
highs_take conferences item (u ∷ users) x e =
    let a = bind_ok (by_rules ledger_file item (rules_of conferences u) (tt {0})) (λ one. highs_of conferences (item + 1) users) x e in
    let k = rules_kept ledger_file item (rules_of conferences u) (tt {0}) a.0 a.1 in
    All-cons (HasHighs conferences) u users (not-false (offers_fit conferences u.offers) k.0.0) (highs_take conferences (item + 1) users x a.2)

pub highs_again : (conferences : List ConferenceContents) (item : ℕ) (users : List User) → All (HasHighs conferences) users → highs_of conferences item users ≡ Ok (tt {0})
highs_again conferences item [] all = refl
highs_again conferences item (u ∷ users) all =
    let one : IsTrue (offers_fit conferences u.offers) = all 0 u (omega arith) in
    let kept : not (offers_fit conferences u.offers) ≡ false = ap not one in
    ap (λ r. r >>= λ one. highs_of conferences (item + 1) users) (kept_rules ledger_file item (rules_of conferences u) (tt {0}) (kept, tt))
    ∙ highs_again conferences (item + 1) users (All-drop (HasHighs conferences) 1 (u ∷ users) all)

-- the highs that are asked of, in other places
pub highs_asked : (slice bases : List Contents) (first wanted : ℕ) (others users : List User) → slice ≡ bases → first ≡ wanted → others ≡ users
    → highs_of (conferences_in slice) first others ≡ highs_of (conferences_in bases) wanted users
highs_asked slice bases first wanted others users a b c = λ i. highs_of (conferences_in (a i)) (b i) (c i)

-- ---- a loop over the highs of an offer
no_conferences : (conferences : List ConferenceContents) (highs : List ℕ) → length conferences ≡ 0 → highs_fit conferences highs ≡ true
no_conferences [] highs none = refl
no_conferences (c ∷ conferences) highs none = absurd (omega arith)

no_highs : (conferences : List ConferenceContents) (highs : List ℕ) → length highs ≡ 0 → highs_fit conferences highs ≡ true
no_highs [] highs none = refl
no_highs (c ∷ conferences) [] none = refl
no_highs (c ∷ conferences) (high ∷ highs) none = absurd (omega arith)

pub highs_done : (bases : List Contents) (highs : List ℕ) (n : ℕ) → n ≡ min (length bases) (length highs) → highs_fit (conferences_in (drop n bases)) (drop n highs) ≡ true
highs_done bases highs n all = elim (cases_lt (length bases) (length highs)) [
  | inl fewer ↦ no_conferences (conferences_in (drop n bases)) (drop n highs) (omega (arith, length-map (drop n bases) (λ (x : Contents). x.conference), length-drop n bases))
  | inr others ↦ no_highs (conferences_in (drop n bases)) (drop n highs) (omega (arith, length-drop n highs))
]

-- ---- outlines have the counts of slots of their conferences
pub highs_alike : (conferences : List ConferenceContents) (item : ℕ) (users : List User) → highs_of (map outline conferences) item users ≡ highs_of conferences item users
highs_alike conferences item [] = refl
highs_alike conferences item (u ∷ users) =
    let fits : offers_fit (map outline conferences) u.offers ≡ offers_fit conferences u.offers = ap (λ (fit : List ℕ → Bool). list_all (λ o. fit o.highs) u.offers) (λ i highs. highs_outline conferences highs i) in
    λ i. by_rules ledger_file item ((High, not (fits i)) ∷ []) (tt {0}) >>= λ one. highs_alike conferences (item + 1) users i
