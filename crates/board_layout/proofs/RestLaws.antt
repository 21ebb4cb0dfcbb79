-- The files of the places past the conferences are empty.
use Rattle.std.proofs.Common.{◌≡◌, ℕ, zero, suc, ◌+◌, ◌-◌, ◌<◌, not, eqb, false, List, [], ◌∷◌, length, Option, Ok, refl, sym, ap, ◌∙◌, subst, arith}
use Rattle.std.proofs.lemmas.Bool.Decides.{nat_tests}
use Rattle.std.proofs.lemmas.List.{nil_from_length}
use Rattle.board_ledger.specs.damage_rules.Rules.{Rules, ◌>>=◌, Stops}
use Rattle.board_ledger.proofs.damage_rules.KeptRules.{bind_ok, rules_kept, kept_rules, step_fails}
use Rattle.door_outside.specs.File.{jhr_file, jdt_file, jdx_file, jlr_file}
use Rattle.board_ledger.specs.intent_journal.Patches.{HostFiles}
use Rattle.jam_base.specs.Change.{files_of_place}
use Rattle.jam_base.specs.jam_layout.declared.files.BaseFiles.{BaseFiles}
use Rattle.jam_records.specs.declared.damage.Damage.{Damage}
use Rattle.jam_records.specs.declared.damage.DamageRule.TheVariants.{Rest}
use Rattle.board_layout.specs.Damage.{is_rest, is_rest_place, are_rest}
use Rattle.board_layout.specs.Layout.{no_base}
use Rattle.board_layout.proofs.BasePlaces.{same_place}

abbrev rules_of : ℕ → HostFiles → Rules
rules_of file files = (Rest, not (eqb (length (files file)) 0)) ∷ []

-- ---- one file
file_take : (file : ℕ) (files : HostFiles) (u : Unit {0}) → is_rest file files ≡ Ok u → files file ≡ []
file_take file files u e =
    let k = rules_kept file 0 (rules_of file files) (tt {0}) u e in
    let none : length (files file) ≡ 0 = grind (arith, nat_tests, k.0.0) in
    nil_from_length (files file) none

file_again : (file : ℕ) (files : HostFiles) → files file ≡ [] → is_rest file files ≡ Ok (tt {0})
file_again file files e =
    let none : not (eqb (length (files file)) 0) ≡ false = ap (λ (bytes : List ℕ). not (eqb (length bytes) 0)) e in
    kept_rules file 0 (rules_of file files) (tt {0}) (none, tt)

-- ---- the four of a place
place_take : (place : ℕ) (files : HostFiles) (u : Unit {0}) → is_rest_place place files ≡ Ok u → files_of_place place files ≡ no_base
unfolding is_rest_place
place_take place files u e =
    let a = bind_ok (is_rest (jhr_file place) files) (λ jhr. is_rest (jdt_file place) files >>= λ jdt. is_rest (jdx_file place) files >>= λ jdx. is_rest (jlr_file place) files) u e in
    let b = bind_ok (is_rest (jdt_file place) files) (λ jdt. is_rest (jdx_file place) files >>= λ jdx. is_rest (jlr_file place) files) u a.2 in
    let c = bind_ok (is_rest (jdx_file place) files) (λ jdx. is_rest (jlr_file place) files) u b.2 in
    let jhr = file_take (jhr_file place) files a.0 a.1 in
    let jdt = file_take (jdt_file place) files b.0 b.1 in
    let jdx = file_take (jdx_file place) files c.0 c.1 in
    let jlr = file_take (jlr_file place) files u c.2 in
    λ i. record { jhr = jhr i; jdt = jdt i; jdx = jdx i; jlr = jlr i }

place_again : (place : ℕ) (files : HostFiles) → files_of_place place files ≡ no_base → is_rest_place place files ≡ Ok (tt {0})
unfolding is_rest_place
place_again place files e =
    ap (λ r. r >>= λ jhr. is_rest (jdt_file place) files >>= λ jdt. is_rest (jdx_file place) files >>= λ jdx. is_rest (jlr_file place) files) (file_again (jhr_file place) files (ap (λ (f : BaseFiles). f.jhr) e))
    ∙ (ap (λ r. r >>= λ jdt. is_rest (jdx_file place) files >>= λ jdx. is_rest (jlr_file place) files) (file_again (jdt_file place) files (ap (λ (f : BaseFiles). f.jdt) e))
    ∙ (ap (λ r. r >>= λ jdx. is_rest (jlr_file place) files) (file_again (jdx_file place) files (ap (λ (f : BaseFiles). f.jdx) e))
    ∙ file_again (jlr_file place) files (ap (λ (f : BaseFiles). f.jlr) e)))

-- ---- the places from one on
pub rest_take : (place n : ℕ) (files : HostFiles) (u : Unit {0}) → are_rest place n files ≡ Ok u → (k : ℕ) → k < n → files_of_place (place + k) files ≡ no_base
unfolding are_rest
rest_take place zero files u e k within = absurd (omega arith)
rest_take place (suc n) files u e zero within =
    let a = bind_ok (is_rest_place place files) (λ here. are_rest (place + 1) n files) u e in
    same_place (place + zero) place files (omega arith) ∙ place_take place files a.0 a.1
rest_take place (suc n) files u e (suc k) within =
    let a = bind_ok (is_rest_place place files) (λ here. are_rest (place + 1) n files) u e in
    same_place (place + suc k) (place + 1 + k) files (omega arith) ∙ rest_take (place + 1) n files u a.2 k (omega arith)

pub rest_again : (place n : ℕ) (files : HostFiles) → ((k : ℕ) → k < n → files_of_place (place + k) files ≡ no_base) → are_rest place n files ≡ Ok (tt {0})
unfolding are_rest
rest_again place zero files none = refl
rest_again place (suc n) files none =
    let here = same_place place (place + 0) files (omega arith) ∙ none 0 (omega arith) in
    ap (λ r. r >>= λ here. are_rest (place + 1) n files) (place_again place files here)
    ∙ rest_again (place + 1) n files (λ k within. same_place (place + 1 + k) (place + suc k) files (omega arith) ∙ none (suc k) (omega arith))

-- the file that is asked for, as another disk has it
pub asked : (file wanted : ℕ) (now old : HostFiles) → file ≡ wanted → now ≡ old → is_rest file now ≡ is_rest wanted old
asked file wanted now old is same = λ i. is_rest (is i) (same i)

-- ---- the first file that isn't empty
at_second : (place : ℕ) (files : HostFiles) (u : Unit {0}) → is_rest (jhr_file place) files ≡ Ok u
    → is_rest_place place files ≡ (is_rest (jdt_file place) files >>= λ jdt. is_rest (jdx_file place) files >>= λ jdx. is_rest (jlr_file place) files)
unfolding is_rest_place
at_second place files u a = ap (λ r. r >>= λ jhr. is_rest (jdt_file place) files >>= λ jdt. is_rest (jdx_file place) files >>= λ jdx. is_rest (jlr_file place) files) a

at_third : (place : ℕ) (files : HostFiles) (u v : Unit {0}) → is_rest (jhr_file place) files ≡ Ok u → is_rest (jdt_file place) files ≡ Ok v
    → is_rest_place place files ≡ (is_rest (jdx_file place) files >>= λ jdx. is_rest (jlr_file place) files)
at_third place files u v a b = at_second place files u a ∙ ap (λ r. r >>= λ jdt. is_rest (jdx_file place) files >>= λ jdx. is_rest (jlr_file place) files) b

pub at_last : (place : ℕ) (files : HostFiles) (u v w : Unit {0}) → is_rest (jhr_file place) files ≡ Ok u → is_rest (jdt_file place) files ≡ Ok v → is_rest (jdx_file place) files ≡ Ok w
    → is_rest_place place files ≡ is_rest (jlr_file place) files
at_last place files u v w a b c = at_third place files u v a b ∙ ap (λ r. r >>= λ jdx. is_rest (jlr_file place) files) c

pub jhr_fails : (place : ℕ) (files : HostFiles) (e : Option Damage) → Stops e (is_rest (jhr_file place) files) → Stops e (is_rest_place place files)
unfolding is_rest_place
jhr_fails place files e h = step_fails e (is_rest (jhr_file place) files) (λ jhr. is_rest (jdt_file place) files >>= λ jdt. is_rest (jdx_file place) files >>= λ jdx. is_rest (jlr_file place) files) h

pub jdt_fails : (place : ℕ) (files : HostFiles) (u : Unit {0}) (e : Option Damage) → is_rest (jhr_file place) files ≡ Ok u → Stops e (is_rest (jdt_file place) files) → Stops e (is_rest_place place files)
jdt_fails place files u e a h =
    subst (Stops e) (sym (at_second place files u a)) (step_fails e (is_rest (jdt_file place) files) (λ jdt. is_rest (jdx_file place) files >>= λ jdx. is_rest (jlr_file place) files) h)

pub jdx_fails : (place : ℕ) (files : HostFiles) (u v : Unit {0}) (e : Option Damage) → is_rest (jhr_file place) files ≡ Ok u → is_rest (jdt_file place) files ≡ Ok v
    → Stops e (is_rest (jdx_file place) files) → Stops e (is_rest_place place files)
jdx_fails place files u v e a b h = subst (Stops e) (sym (at_third place files u v a b)) (step_fails e (is_rest (jdx_file place) files) (λ jdx. is_rest (jlr_file place) files) h)

-- ---- a loop over the places
pub rest_asked : (first wanted : ℕ) (now old : HostFiles) → first ≡ wanted → now ≡ old → are_rest first (64 - first) now ≡ are_rest wanted (64 - wanted) old
rest_asked first wanted now old is same = λ i. are_rest (is i) (64 - is i) (same i)

pub one_place_more : (place n m : ℕ) (files : HostFiles) (u : Unit {0}) → n ≡ suc m → is_rest_place place files ≡ Ok u → are_rest place n files ≡ are_rest (place + 1) m files
unfolding are_rest
one_place_more place n m files u count a = ap (λ k. are_rest place k files) count ∙ ap (λ r. r >>= λ here. are_rest (place + 1) m files) a

pub one_place_fails : (place n m : ℕ) (files : HostFiles) (e : Option Damage) → n ≡ suc m → Stops e (is_rest_place place files) → Stops e (are_rest place n files)
unfolding are_rest
one_place_fails place n m files e count h =
    subst (λ k. Stops e (are_rest place k files)) (sym count) (step_fails e (is_rest_place place files) (λ here. are_rest (place + 1) m files) h)

pub no_place : (place n : ℕ) (files : HostFiles) → n ≡ 0 → are_rest place n files ≡ Ok (tt {0})
unfolding are_rest
no_place place n files none = ap (λ k. are_rest place k files) none
