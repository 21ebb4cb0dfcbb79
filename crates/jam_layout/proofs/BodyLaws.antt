-- .JDT: the bodies that are read are those of the layout, and the layout is read.
use Rattle.std.proofs.Common.{◌≡◌, ℕ, ◌+◌, ◌-◌, ◌≤◌, false, not, ◌||◌, eqb, List, [], ◌∷◌, ◌++◌, length, get_or, take, drop, map, Ok, refl, sym, ap, ◌∙◌, subst, arith, length-append, ◌⊎◌, inl, inr}
use Rattle.std.proofs.lemmas.Bool.{ltb-false, le-ltb, cases_lt}
use Rattle.std.proofs.lemmas.Bool.Decides.{nat_tests}
use Rattle.std.proofs.lemmas.List.{drop_at, take_at, take-append-drop, nil_from_length, length-take, get_or-take, get_or_append_left}
use Rattle.jam_records.specs.declared.damage.DamageRule.TheVariants.{Rest}
use Rattle.damage_rules.specs.Rules.{by_rules, ◌>>=◌}
use Rattle.door_outside.specs.File.{jdt_file}
use Rattle.jam_layout.specs.Bodies.{body_rules, with_body, message_with, bodies_at, bodies_text}
use Rattle.jam_layout.specs.Messages.{IsBody}
use Rattle.jam_layout.specs.declared.entry.HeaderEntry.{HeaderEntry}
use Rattle.damage_rules.proofs.KeptRules.{Kept, rules_kept, kept_rules, bind_ok, ok_is}

-- an entry as its header alone shows it
abbrev pub bare : HeaderEntry → HeaderEntry
bare e = with_body e []

abbrev pub Bodiless : List HeaderEntry → Type 0
Bodiless [] = Unit {0}
Bodiless (e ∷ es) = (e.message.body ≡ []) × Bodiless es

abbrev pub BodiesFit : List HeaderEntry → Type 0
BodiesFit [] = Unit {0}
BodiesFit (e ∷ es) = (IsBody e.message.body × (e.text_len ≡ length e.message.body)) × BodiesFit es

line_is : (n last : ℕ) → not (eqb n 0 || eqb last 0x0D) ≡ false → (n ≡ 0) ⊎ (last ≡ 0x0D)
line_is n last e = elim (cases_lt 0 n) [
  | inl some ↦ inr (grind (arith, nat_tests))
  | inr none ↦ inl (omega arith)
]

is_line : (n last : ℕ) → (n ≡ 0) ⊎ (last ≡ 0x0D) → not (eqb n 0 || eqb last 0x0D) ≡ false
is_line n last h = elim h [ inl e ↦ grind (arith, nat_tests) | inr e ↦ grind (arith, nat_tests) ]

body_takes : (len : ℕ) (bytes : List ℕ) → Kept (body_rules len bytes) → (length (take len bytes) ≡ len) × IsBody (take len bytes)
body_takes len bytes k =
    let body : List ℕ = take len bytes in
    let long : len ≤ length bytes = ltb-false _ _ k.0 in
    let n : length body ≡ len = omega (arith, length-take len bytes) in (
      n,
      elim (cases_lt 0 len) [
        | inr none ↦ inl (omega arith)
        | inl some ↦ elim (line_is len (get_or bytes (len - 1) 0) k.1.0) [
          | inl e ↦ inl (omega arith)
          | inr e ↦ inr (ap (λ n. get_or body (n - 1) 0) n ∙ (get_or-take len bytes (len - 1) 0 (omega arith) ∙ e))
        ]
      ],
    )

body_again : (len : ℕ) (body rest : List ℕ) → len ≡ length body → IsBody body → Kept (body_rules len (body ++ rest))
body_again len body rest n is =
    let line : (len ≡ 0) ⊎ (get_or (body ++ rest) (len - 1) 0 ≡ 0x0D) = elim (cases_lt 0 (length body)) [
      | inr none ↦ inl (omega arith)
      | inl some ↦ elim is [
        | inl e ↦ inl (omega arith)
        | inr e ↦ inr (ap (λ n. get_or (body ++ rest) (n - 1) 0) n ∙ (get_or_append_left body rest 0 (length body - 1) (omega arith) ∙ e))
      ]
    ] in
    (le-ltb _ _ (omega (arith, length-append body rest)), (is_line len (get_or (body ++ rest) (len - 1) 0) line, tt))

bare_again : (e : HeaderEntry) (body : List ℕ) → e.message.body ≡ [] → bare (with_body e body) ≡ e
bare_again e body none = λ i. record { number = e.number; text_len = e.text_len; link = e.link; message = message_with e.message (sym none i) }

pub bodies_take : (place i : ℕ) (headers : List HeaderEntry) (bytes : List ℕ) (entries : List HeaderEntry) → Bodiless headers → bodies_at place i headers bytes ≡ Ok entries → (bytes ≡ bodies_text entries) × (map bare entries ≡ headers) × BodiesFit entries
bodies_take place i [] bytes entries bodiless e =
    let k = rules_kept (jdt_file place) i ((Rest, not (eqb (length bytes) 0)) ∷ []) [] entries e in
    let none : length bytes ≡ 0 = grind (arith, nat_tests, k.0.0) in
    subst (λ (es : List HeaderEntry). (bytes ≡ bodies_text es) × (map bare es ≡ []) × BodiesFit es) k.1 (nil_from_length bytes none, refl, tt)
bodies_take place i (h ∷ headers) bytes entries bodiless e =
    let n : ℕ = h.text_len in
    let a = bind_ok (by_rules (jdt_file place) i (body_rules n bytes) (take n bytes)) (λ body. bodies_at place (i + 1) headers (drop n bytes) >>= λ es. Ok (with_body h body ∷ es)) entries e in
    let b = bind_ok (bodies_at place (i + 1) headers (drop n bytes)) (λ es. Ok (with_body h a.0 ∷ es)) entries a.2 in
    let k = rules_kept (jdt_file place) i (body_rules n bytes) (take n bytes) a.0 a.1 in
    let first = body_takes n bytes k.0 in
    let body : List ℕ = take n bytes in
    let others = bodies_take place (i + 1) headers (drop n bytes) b.0 bodiless.1 b.1 in
    let whole : bytes ≡ body ++ bodies_text b.0 = sym (take-append-drop n bytes) ∙ ap (λ xs. body ++ xs) others.0 in
    let heads : map bare (with_body h body ∷ b.0) ≡ h ∷ headers = λ i. bare_again h body bodiless.0 i ∷ others.1 i in
    subst (λ (es : List HeaderEntry). (bytes ≡ bodies_text es) × (map bare es ≡ h ∷ headers) × BodiesFit es) (ap (λ x. with_body h x ∷ b.0) k.1 ∙ ok_is (with_body h a.0 ∷ b.0) entries b.2) (whole, heads, ((first.1, sym first.0), others.2))

pub bodies_again : (place i : ℕ) (entries : List HeaderEntry) → BodiesFit entries → bodies_at place i (map bare entries) (bodies_text entries) ≡ Ok entries
bodies_again place i [] fits = refl
bodies_again place i (e ∷ entries) fits =
    let n : ℕ = e.text_len in
    let body : List ℕ = e.message.body in
    let rest : List ℕ = bodies_text entries in
    let len : length body ≡ n = sym fits.0.1 in
    let first : by_rules (jdt_file place) i (body_rules n (body ++ rest)) (take n (body ++ rest)) ≡ Ok body =
    kept_rules (jdt_file place) i (body_rules n (body ++ rest)) (take n (body ++ rest)) (body_again n body rest fits.0.1 fits.0.0) ∙ ap (λ x. Ok x) (take_at body rest n len) in
    let others : bodies_at place (i + 1) (map bare entries) (drop n (body ++ rest)) ≡ Ok entries = ap (bodies_at place (i + 1) (map bare entries)) (drop_at body rest n len) ∙ bodies_again place (i + 1) entries fits.1 in
    ap (λ x. x >>= λ body. bodies_at place (i + 1) (map bare entries) (drop n (e.message.body ++ rest)) >>= λ es. Ok (with_body e body ∷ es)) first ∙ ap (λ x. x >>= λ es. Ok (with_body e body ∷ es)) others
