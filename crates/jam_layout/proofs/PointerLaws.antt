-- .JLR: what is read is the layout, and the layout is read.
use Rattle.std.proofs.Common.{◌≡◌, ℕ, suc, ◌+◌, ◌^◌, ◌<◌, ◌≤◌, not, eqb, ltb, List, [], ◌∷◌, ◌++◌, length, drop, Ok, refl, sym, ap, ◌∙◌, subst, arith}
use Rattle.std.specs.Prelude.{All}
use Rattle.std.proofs.lemmas.Bool.{ltb-false, le-ltb}
use Rattle.std.proofs.lemmas.Bool.Decides.{nat_tests}
use Rattle.std.proofs.lemmas.List.{nil_from_length}
use Rattle.std.proofs.lemmas.List.Elements.{All-drop, All-cons, All-nil, All-tail}
use Rattle.jam_records.specs.byte_lists.Byte.{IsByte}
use Rattle.name_crc.specs.JamCrc.{jam_crc}
use Rattle.jam_records.specs.record_numbers.Numbers.{u32_at, IsU32}
use Rattle.jam_records.specs.LastReads.{last_read_at, last_text, IsLastRead}
use Rattle.jam_records.specs.declared.damage.DamageRule.TheVariants.{Rest}
use Rattle.jam_records.specs.declared.last_read.LastRead.{LastRead}
use Rattle.jam_records.proofs.HeaderLemmas.{last_stands}
use Rattle.damage_rules.specs.Rules.{by_rules, ◌>>=◌}
use Rattle.door_outside.specs.File.{jlr_file}
use Rattle.jam_layout.specs.declared.reader.Reader.{Reader}
use Rattle.jam_layout.specs.Reader.{IsReader}
use Rattle.jam_layout.specs.Readers.{last_read, last_reads, reader_rules, pointers_at}
use Rattle.jam_layout.specs.Valid.{PointersFit}
use Rattle.damage_rules.proofs.KeptRules.{Kept, rules_kept, kept_rules, bind_ok, ok_is}
use Rattle.jam_layout.proofs.RecordFronts.{last_front}
use Rattle.jam_layout.proofs.CrcLaws.{crc_small}
use Rattle.damage_rules.proofs.BoolTests.{or_false, both_false, equal, unequal}

reader_takes : (count : ℕ) (reader : Reader) (bytes : List ℕ) → All IsByte bytes → Kept (reader_rules count reader bytes) → (bytes ≡ last_text (last_read reader (u32_at 8 bytes)) ++ drop 16 bytes) × (u32_at 8 bytes ≤ count)
reader_takes count reader bytes fits k =
    let r = or_false (not (eqb (u32_at 0 bytes) (jam_crc reader.name))) (not (eqb (u32_at 4 bytes) reader.id)) k.1.0 in
    let p = or_false (not (eqb (u32_at 8 bytes) (u32_at 12 bytes))) (ltb count (u32_at 8 bytes)) k.1.1.0 in
    let crc : u32_at 0 bytes ≡ jam_crc reader.name = equal (u32_at 0 bytes) (jam_crc reader.name) r.0 in
    let id : u32_at 4 bytes ≡ reader.id = equal (u32_at 4 bytes) reader.id r.1 in
    let high : u32_at 12 bytes ≡ u32_at 8 bytes = sym (equal (u32_at 8 bytes) (u32_at 12 bytes) p.0) in
    let is : last_read_at bytes ≡ last_read reader (u32_at 8 bytes) = λ i. record {
      user_crc = crc i;
      user_id = id i;
      last = u32_at 8 bytes;
      high = high i;
    } in
    (last_front bytes fits (ltb-false _ _ k.0) ∙ ap (λ (x : LastRead). last_text x ++ drop 16 bytes) is, ltb-false count (u32_at 8 bytes) p.1)

reader_numbers : (reader : Reader) (p : ℕ) → IsReader reader → p < 2 ^ 32 → IsLastRead (last_read reader p)
reader_numbers reader p fits small =
    All-cons IsU32 (jam_crc reader.name) (reader.id ∷ p ∷ p ∷ []) (crc_small reader.name fits.1) (All-cons IsU32 reader.id (p ∷ p ∷ []) fits.0 (All-cons IsU32 p (p ∷ []) small (All-cons IsU32 p [] small (All-nil IsU32))))

record Again (count : ℕ) (reader : Reader) (p : ℕ) (bytes : List ℕ) : Type 0 where
  kept : Kept (reader_rules count reader bytes)
  pointer : u32_at 8 bytes ≡ p

reader_again : (count : ℕ) (reader : Reader) (p : ℕ) (rest : List ℕ) → IsReader reader → p < 2 ^ 32 → p ≤ count → Again count reader p (last_text (last_read reader p) ++ rest)
reader_again count reader p rest fits small le =
    let stands = last_stands (last_read reader p) rest (reader_numbers reader p fits small) in
    let f = sym stands.fields in
    let crc : u32_at 0 (last_text (last_read reader p) ++ rest) ≡ jam_crc reader.name = ap (λ (x : LastRead). x.user_crc) f in
    let id : u32_at 4 (last_text (last_read reader p) ++ rest) ≡ reader.id = ap (λ (x : LastRead). x.user_id) f in
    let last : u32_at 8 (last_text (last_read reader p) ++ rest) ≡ p = ap (λ (x : LastRead). x.last) f in
    let high : u32_at 12 (last_text (last_read reader p) ++ rest) ≡ p = ap (λ (x : LastRead). x.high) f in
    record {
      kept = (le-ltb _ _ stands.whole, (both_false _ _ (unequal _ _ crc) (unequal _ _ id), (both_false _ _ (unequal _ _ (last ∙ sym high)) (le-ltb _ _ (omega (arith, last))), tt)));
      pointer = last;
    }

behind_last : (r : LastRead) (rest : List ℕ) → drop 16 (last_text r ++ rest) ≡ rest
unfolding last_text
behind_last r rest = refl

pub pointers_take : (place count j : ℕ) (readers : List Reader) (bytes pointers : List ℕ) → All IsByte bytes → pointers_at place count j readers bytes ≡ Ok pointers → (bytes ≡ last_reads readers pointers) × PointersFit count readers pointers
pointers_take place count j [] bytes pointers fits e =
    let k = rules_kept (jlr_file place) j ((Rest, not (eqb (length bytes) 0)) ∷ []) [] pointers e in
    let none : length bytes ≡ 0 = grind (arith, nat_tests, k.0.0) in
    subst (λ (ps : List ℕ). (bytes ≡ last_reads [] ps) × PointersFit count [] ps) k.1 (nil_from_length bytes none, record { all = refl; within = All-nil (λ p. p ≤ count) })
pointers_take place count j (r ∷ readers) bytes pointers fits e =
    let a = bind_ok (by_rules (jlr_file place) j (reader_rules count r bytes) (u32_at 8 bytes)) (λ p. pointers_at place count (j + 1) readers (drop 16 bytes) >>= λ ps. Ok (p ∷ ps)) pointers e in
    let b = bind_ok (pointers_at place count (j + 1) readers (drop 16 bytes)) (λ ps. Ok (a.0 ∷ ps)) pointers a.2 in
    let k = rules_kept (jlr_file place) j (reader_rules count r bytes) (u32_at 8 bytes) a.0 a.1 in
    let first = reader_takes count r bytes fits k.0 in
    let others = pointers_take place count (j + 1) readers (drop 16 bytes) b.0 (All-drop IsByte 16 bytes fits) b.1 in
    let whole : bytes ≡ last_text (last_read r a.0) ++ last_reads readers b.0 = first.0 ∙ ap (λ xs. last_text (last_read r (u32_at 8 bytes)) ++ xs) others.0 ∙ ap (λ p. last_text (last_read r p) ++ last_reads readers b.0) k.1 in
    let le : a.0 ≤ count = subst (λ (p : ℕ). p ≤ count) k.1 first.1 in
    subst (λ (ps : List ℕ). (bytes ≡ last_reads (r ∷ readers) ps) × PointersFit count (r ∷ readers) ps) (ok_is (a.0 ∷ b.0) pointers b.2) (whole, record { all = ap suc others.1.all; within = All-cons (λ p. p ≤ count) a.0 b.0 le others.1.within })

pub pointers_again : (place count j : ℕ) (readers : List Reader) (pointers : List ℕ) → count < 2 ^ 32 → All IsReader readers → PointersFit count readers pointers → pointers_at place count j readers (last_reads readers pointers) ≡ Ok pointers
pointers_again place count j [] [] small fits ok = refl
pointers_again place count j [] (p ∷ pointers) small fits ok = absurd (omega (arith, ok.all))
pointers_again place count j (r ∷ readers) [] small fits ok = absurd (omega (arith, ok.all))
pointers_again place count j (r ∷ readers) (p ∷ pointers) small fits ok =
    let rest : List ℕ = last_reads readers pointers in
    let text : List ℕ = last_text (last_read r p) ++ rest in
    let le : p ≤ count = ok.within 0 0 (omega arith) in
    let reader : IsReader r = fits 0 r (omega arith) in
    let again = reader_again count r p rest reader (omega arith) le in
    let first : by_rules (jlr_file place) j (reader_rules count r text) (u32_at 8 text) ≡ Ok p =
    kept_rules (jlr_file place) j (reader_rules count r text) (u32_at 8 text) again.kept ∙ ap (λ n. Ok n) again.pointer in
    let others : pointers_at place count (j + 1) readers rest ≡ Ok pointers = pointers_again place count (j + 1) readers pointers small (All-drop IsReader 1 (r ∷ readers) fits) record { all = omega (arith, ok.all); within = All-tail (λ p. p ≤ count) p pointers ok.within } in
    let behind : pointers_at place count (j + 1) readers (drop 16 text) ≡ Ok pointers = ap (pointers_at place count (j + 1) readers) (behind_last (last_read r p) rest) ∙ others in
    ap (λ x. x >>= λ p. pointers_at place count (j + 1) readers (drop 16 text) >>= λ ps. Ok (p ∷ ps)) first ∙ ap (λ x. x >>= λ ps. Ok (p ∷ ps)) behind
