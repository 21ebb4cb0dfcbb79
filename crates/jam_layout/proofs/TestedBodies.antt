-- .JDT and .JLR are tested as their flat lists say.
use Rattle.std.proofs.Common.{◌≡◌, ℕ, suc, ◌+◌, ◌*◌, not, eqb, List, [], ◌∷◌, ◌++◌, length, take, drop, Result, Ok, refl, sym, ap, ◌∙◌, arith, append_assoc, length-append}
use Rattle.std.specs.Prelude.{sum_by}
use Rattle.std.proofs.lemmas.List.{append-nil, drop-drop}
use Rattle.jam_records.specs.record_numbers.Numbers.{u32_at}
use Rattle.jam_records.specs.declared.damage.Damage.{Damage}
use Rattle.jam_records.specs.declared.damage.DamageRule.TheVariants.{Rest}
use Rattle.damage_rules.specs.Rules.{Rules, by_rules, ◌>>=◌}
use Rattle.damage_rules.specs.Tests.{Tests, at_record, for_each}
use Rattle.damage_rules.proofs.TestLists.{by_tests, rules_listed, then_listed, value_listed}
use Rattle.door_outside.specs.File.{jdt_file, jlr_file}
use Rattle.jam_layout.specs.BaseTests.{texts_size, body_tests, reader_tests}
use Rattle.jam_layout.specs.Bodies.{body_rules, with_body, bodies_at}
use Rattle.jam_layout.specs.Readers.{reader_rules, pointers_at}
use Rattle.jam_layout.specs.declared.entry.HeaderEntry.{HeaderEntry}
use Rattle.jam_layout.specs.declared.reader.Reader.{Reader}
use Rattle.jam_layout.proofs.TestedHeaders.{texts_more}

-- ---- .JDT
-- the messages with their bodies
abbrev pub bodied : List HeaderEntry → List ℕ → List HeaderEntry
bodied [] bytes = []
bodied (e ∷ entries) bytes = with_body e (take e.text_len bytes) ∷ bodied entries (drop e.text_len bytes)

-- one past the last
abbrev pub body_end : ℕ → List ℕ → List HeaderEntry → Tests
body_end place jdt entries = at_record (jdt_file place) (1 + length entries) ((Rest, not (eqb (length (drop (texts_size entries) jdt)) 0)) ∷ [])

bodies_end : (place : ℕ) (jdt : List ℕ) (before : List HeaderEntry) (i : ℕ) (bytes : List ℕ) → i ≡ 1 + length before → bytes ≡ drop (texts_size before) jdt
    → bodies_at place i [] bytes ≡ by_tests (body_end place jdt (before ++ [])) []
bodies_end place jdt before i bytes is e =
    rules_listed (jdt_file place) i ((Rest, not (eqb (length bytes) 0)) ∷ []) []
    ∙ ((λ k. by_tests (at_record (jdt_file place) (is k) ((Rest, not (eqb (length (e k)) 0)) ∷ [])) [])
    ∙ ap (λ (all : List HeaderEntry). by_tests (body_end place jdt all) []) (sym (append-nil before)))

pub bodies_listed : (place : ℕ) (jdt : List ℕ) (entries before : List HeaderEntry) (i : ℕ) (bytes : List ℕ) → i ≡ 1 + length before → bytes ≡ drop (texts_size before) jdt
    → bodies_at place i entries bytes ≡ by_tests (for_each (body_tests place jdt) before entries ++ body_end place jdt (before ++ entries)) (bodied entries bytes)
bodies_listed place jdt [] before i bytes is e = bodies_end place jdt before i bytes is e
bodies_listed place jdt (x ∷ entries) before i bytes is e =
    let seen : List HeaderEntry = before ++ x ∷ [] in
    let rest : List ℕ = drop x.text_len bytes in
    let rules : Rules = body_rules x.text_len bytes in
    let body : List ℕ = take x.text_len bytes in
    let others : Tests = for_each (body_tests place jdt) seen entries ++ body_end place jdt (before ++ x ∷ entries) in
    let next = λ (b : List ℕ). bodies_at place (i + 1) entries rest >>= λ (xs : List HeaderEntry). Ok (with_body x b ∷ xs) in
    let more : i + 1 ≡ 1 + length seen = omega (arith, length-append before (x ∷ [])) in
    let behind : rest ≡ drop (texts_size seen) jdt = ap (drop x.text_len) e ∙ (drop-drop x.text_len (texts_size before) jdt ∙ ap (λ n. drop n jdt) (sym (texts_more before x))) in
    let read : bodies_at place (i + 1) entries rest ≡ by_tests others (bodied entries rest) =
    bodies_listed place jdt entries seen (i + 1) rest more behind
    ∙ ap (λ (all : List HeaderEntry). by_tests (for_each (body_tests place jdt) seen entries ++ body_end place jdt all) (bodied entries rest)) (append_assoc before (x ∷ []) entries) in
    let tail : next body ≡ by_tests others (bodied (x ∷ entries) bytes) =
    ap (λ (r : Result (List HeaderEntry) Damage). r >>= λ (xs : List HeaderEntry). Ok (with_body x body ∷ xs)) read ∙ value_listed others (bodied entries rest) (λ (xs : List HeaderEntry). with_body x body ∷ xs) in
    let here : by_rules (jdt_file place) i rules body ≡ by_tests (body_tests place jdt before x) body =
    rules_listed (jdt_file place) i rules body ∙ (λ k. by_tests (at_record (jdt_file place) (is k) (body_rules x.text_len (e k))) body) in
    ap (λ (r : Result (List ℕ) Damage). r >>= next) here
    ∙ (then_listed (body_tests place jdt before x) others body next (bodied (x ∷ entries) bytes) (λ held. tail)
    ∙ ap (λ (tests : Tests). by_tests tests (bodied (x ∷ entries) bytes)) (sym (append_assoc (body_tests place jdt before x) (for_each (body_tests place jdt) seen entries) (body_end place jdt (before ++ x ∷ entries)))))

-- ---- .JLR
abbrev pub read_pointers : List Reader → List ℕ → List ℕ
read_pointers [] bytes = []
read_pointers (r ∷ readers) bytes = u32_at 8 bytes ∷ read_pointers readers (drop 16 bytes)

-- one past the last
abbrev pub reader_end : ℕ → List ℕ → List Reader → Tests
reader_end place jlr readers = at_record (jlr_file place) (length readers) ((Rest, not (eqb (length (drop (16 * length readers) jlr)) 0)) ∷ [])

pub pointers_listed : (place count : ℕ) (jlr : List ℕ) (readers before : List Reader) (j : ℕ) (bytes : List ℕ) → j ≡ length before → bytes ≡ drop (16 * length before) jlr
    → pointers_at place count j readers bytes ≡ by_tests (for_each (reader_tests place count jlr) before readers ++ reader_end place jlr (before ++ readers)) (read_pointers readers bytes)
pointers_listed place count jlr [] before j bytes is e =
    rules_listed (jlr_file place) j ((Rest, not (eqb (length bytes) 0)) ∷ []) []
    ∙ ((λ k. by_tests (at_record (jlr_file place) (is k) ((Rest, not (eqb (length (e k)) 0)) ∷ [])) [])
    ∙ ap (λ (all : List Reader). by_tests (reader_end place jlr all) []) (sym (append-nil before)))
pointers_listed place count jlr (x ∷ readers) before j bytes is e =
    let seen : List Reader = before ++ x ∷ [] in
    let rest : List ℕ = drop 16 bytes in
    let rules : Rules = reader_rules count x bytes in
    let pointer : ℕ = u32_at 8 bytes in
    let others : Tests = for_each (reader_tests place count jlr) seen readers ++ reader_end place jlr (before ++ x ∷ readers) in
    let next = λ (p : ℕ). pointers_at place count (j + 1) readers rest >>= λ (xs : List ℕ). Ok (p ∷ xs) in
    let more : j + 1 ≡ length seen = omega (arith, length-append before (x ∷ [])) in
    let far : 16 * length before + 16 ≡ 16 * length seen = omega (arith, length-append before (x ∷ [])) in
    let behind : rest ≡ drop (16 * length seen) jlr = ap (drop 16) e ∙ (drop-drop 16 (16 * length before) jlr ∙ ap (λ n. drop n jlr) far) in
    let read : pointers_at place count (j + 1) readers rest ≡ by_tests others (read_pointers readers rest) =
    pointers_listed place count jlr readers seen (j + 1) rest more behind
    ∙ ap (λ (all : List Reader). by_tests (for_each (reader_tests place count jlr) seen readers ++ reader_end place jlr all) (read_pointers readers rest)) (append_assoc before (x ∷ []) readers) in
    let tail : next pointer ≡ by_tests others (read_pointers (x ∷ readers) bytes) =
    ap (λ (r : Result (List ℕ) Damage). r >>= λ (xs : List ℕ). Ok (pointer ∷ xs)) read ∙ value_listed others (read_pointers readers rest) (λ (xs : List ℕ). pointer ∷ xs) in
    let here : by_rules (jlr_file place) j rules pointer ≡ by_tests (reader_tests place count jlr before x) pointer =
    rules_listed (jlr_file place) j rules pointer ∙ (λ k. by_tests (at_record (jlr_file place) (is k) (reader_rules count x (e k))) pointer) in
    ap (λ (r : Result ℕ Damage). r >>= next) here
    ∙ (then_listed (reader_tests place count jlr before x) others pointer next (read_pointers (x ∷ readers) bytes) (λ held. tail)
    ∙ ap (λ (tests : Tests). by_tests tests (read_pointers (x ∷ readers) bytes)) (sym (append_assoc (reader_tests place count jlr before x) (for_each (reader_tests place count jlr) seen readers) (reader_end place jlr (before ++ x ∷ readers)))))
