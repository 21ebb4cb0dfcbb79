-- Lines that break no rule, one more of them, and the first that breaks one.
use Rattle.std.proofs.Common.{◌≡◌, ℕ, ◌<◌, false, List, [], ◌∷◌, ◌++◌, length, length-append, Option, Some, None, refl, sym, ap, ◌∙◌, subst, inl, inr, arith, append_assoc}
use Rattle.std.proofs.lemmas.Bool.{cases_lt}
use Rattle.std.proofs.lemmas.List.{append-nil}
use Rattle.std.specs.List.{slice_get}
use Rattle.setup_file.specs.Rules.{keys, broken_rule}
use Rattle.text_fields.specs.Lines.{is_skipped}
use Rattle.setup_file.specs.Reads.{counted}
use Rattle.setup_file.specs.Fault.{KeepRules, LinesFault, at_line, at_end}
use Rattle.setup_file.specs.State.{Ahead, SkippedTo, Kept, SetupFaultOrMemory}
use Rattle.setup_file.specs.declared.error.SetupRule.{SetupRule}
use Rattle.setup_file.specs.declared.error.SetupRule.TheVariants.{Missing}
use Rattle.setup_file.specs.declared.error.SetupError.{SetupError}
use Rattle.setup_file.specs.declared.error.SetupError.TheVariants.{Line, OutOfMemory}
use Rattle.setup_file.specs.declared.key.Key.{Key}
use Rattle.setup_file.proofs.Lines.{counted_append, counted_one, all_skipped}
use Rattle.setup_file.proofs.RuleLists.{no_key}

abbrev NoRule : List ℕ → List (List ℕ) → Type 0
NoRule line front = broken_rule front line ≡ None

pub keep_push : (front kept : List (List ℕ)) (line : List ℕ) → KeepRules front kept → broken_rule (front ++ kept) line ≡ None → KeepRules front (kept ++ line ∷ [])
keep_push front [] line h e = (subst (NoRule line) (append-nil front) e, tt)
keep_push front (x ∷ kept) line h e = (h.0, keep_push (front ++ x ∷ []) kept line h.1 (subst (NoRule line) (sym (append_assoc front (x ∷ []) kept)) e))

pub keep_at : (front a b : List (List ℕ)) (line : List ℕ) → KeepRules front (a ++ line ∷ b) → broken_rule (front ++ a) line ≡ None
keep_at front [] b line h = subst (NoRule line) (sym (append-nil front)) h.0
keep_at front (x ∷ a) b line h = subst (NoRule line) (append_assoc front (x ∷ []) a) (keep_at (front ++ x ∷ []) a b line h.1)

pub kept_start : (all : List (List ℕ)) → Kept all all 1 []
kept_start all = record { before = []; whole = refl; count = refl; counted = refl; keep = tt }

-- past lines that are skipped
pub kept_skip : (all start left kept : List (List ℕ)) (at next : ℕ) → Kept all start at kept → SkippedTo start at left next → Kept all left next kept
kept_skip all start left kept at next k s = record {
  before = k.before ++ s.skipped;
  whole = k.whole ∙ (ap (λ (l : List (List ℕ)). k.before ++ l) s.ahead.whole ∙ sym (append_assoc k.before s.skipped left));
  count = omega (arith, k.count, s.ahead.count, length-append k.before s.skipped);
  counted = counted_append k.before s.skipped ∙ (ap (λ (l : List (List ℕ)). counted k.before ++ l) (all_skipped s.skipped s.each) ∙ (append-nil (counted k.before) ∙ k.counted));
  keep = k.keep;
}

-- past a line that breaks no rule
pub kept_more : (all left after kept : List (List ℕ)) (line : List ℕ) (at next : ℕ) → Kept all left at kept → Ahead left at after next (line ∷ []) → is_skipped line ≡ false → broken_rule kept line ≡ None → Kept all after next (kept ++ line ∷ [])
kept_more all left after kept line at next k a counts e = record {
  before = k.before ++ line ∷ [];
  whole = k.whole ∙ (ap (λ (l : List (List ℕ)). k.before ++ l) a.whole ∙ sym (append_assoc k.before (line ∷ []) after));
  count = omega (arith, k.count, a.count, length-append k.before (line ∷ []));
  counted = counted_append k.before (line ∷ []) ∙ (ap (λ (l : List (List ℕ)). counted k.before ++ l) (counted_one line [] counts) ∙ ap (λ (l : List (List ℕ)). l ++ line ∷ []) k.counted);
  keep = keep_push [] kept line k.keep e;
}

-- at a line that breaks a rule
pub line_fault : (all left kept more : List (List ℕ)) (line : List ℕ) (at : ℕ) (rule : SetupRule) → Kept all left at kept → left ≡ line ∷ more → is_skipped line ≡ false → broken_rule kept line ≡ Some rule → LinesFault all at rule
line_fault all left kept more line at broken k e counts breaks =
    at_line k.before more line (k.whole ∙ ap (λ (l : List (List ℕ)). k.before ++ l) e) counts (subst (KeepRules []) (sym k.counted) k.keep)
    (ap (λ (l : List (List ℕ)). broken_rule l line) k.counted ∙ breaks) k.count

-- at the end, where lines are missing
pub end_fault : (all left kept : List (List ℕ)) (at : ℕ) → Kept all left at kept → left ≡ [] → length kept < 8 → LinesFault all at Missing
end_fault all left kept at k e few =
    let whole : all ≡ k.before = k.whole ∙ (ap (λ (l : List (List ℕ)). k.before ++ l) e ∙ append-nil k.before) in
    let same : counted all ≡ kept = ap counted whole ∙ k.counted in
    at_end refl (subst (KeepRules []) (sym same) k.keep) (omega (arith, ap length same, few)) (omega (arith, k.count, ap length whole))

some_none : (key : Key) (o : Option Key) → o ≡ Some key → o ≡ None → ⊥
some_none key o e f = cc

-- a line with a key is one of the first six
pub key_place : (n : ℕ) (key : Key) → slice_get keys n ≡ Some key → n < 6
key_place n key e = elim (cases_lt n 6) [
  | inl lt ↦ lt
  | inr ge ↦ absurd (some_none key (slice_get keys n) e (no_key n ge))
]

pub weaker_fault : (P Q : ℕ → SetupRule → Type 0) → ((n : ℕ) (rule : SetupRule) → P n rule → Q n rule) → (e : SetupError) → SetupFaultOrMemory P e → SetupFaultOrMemory Q e
weaker_fault P Q f (Line n broken) h = f n broken h
weaker_fault P Q f OutOfMemory h = tt
