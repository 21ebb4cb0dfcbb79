-- What the data files are read as doesn't depend on any other file: no ledger has more than 64 conferences, so that
-- no place past the last is looked at.
use Rattle.std.proofs.Common.{◌≡◌, ℕ, zero, suc, ◌+◌, ◌-◌, ◌<◌, ◌≤◌, cond, ltb, eqb, not, None, List, [], ◌∷◌, ◌++◌, length, length-append, drop, Result, Ok, Err, refl, sym, ap, ◌∙◌, subst, arith}
use Rattle.board_ledger.specs.Ledger.{ledger_of}
use Rattle.board_ledger.specs.Opening.{fixed_rules, opening_at, opening_of, setup_of, setup_rules}
use Rattle.board_ledger.specs.Conferences.{conference_at}
use Rattle.board_ledger.specs.Records.{records_at}
use Rattle.board_ledger.specs.Valid.{today}
use Rattle.board_ledger.specs.declared.ledger.Ledger.{Ledger}
use Rattle.board_ledger.proofs.OpeningTests.{fixed_counts}
use Rattle.board_ledger.proofs.ReadingSteps.{ledger_parts}
use Rattle.board_layout.specs.Board.{shape_of, shapes_from}
use Rattle.board_layout.specs.Damage.{conferences_of, is_rest, is_rest_place, are_rest, highs_of, parts_behind, parts_of, size_limit, board_of, some_board, board_in}
use Rattle.board_layout.specs.Layout.{places_size, data_size}
use Rattle.board_ledger.specs.damage_rules.Rules.{by_rules, ◌>>=◌}
use Rattle.board_ledger.proofs.damage_rules.KeptRules.{bind_ok, both_kept, kept_none, ok_is, rules_kept}
use Rattle.door_outside.specs.File.{ledger_file, jhr_file, jdt_file, jdx_file, jlr_file}
use Rattle.intent_journal.specs.Journal.{intent_of}
use Rattle.intent_journal.specs.Patches.{HostFiles, data_files, patched}
use Rattle.intent_journal.specs.Recovered.{recovered}
use Rattle.jam_layout.specs.Layout.{conference_of, files_size}
use Rattle.jam_layout.specs.declared.conference.ConferenceContents.{ConferenceContents}
use Rattle.jam_records.specs.declared.damage.Damage.{Damage}
use Rattle.jam_records.specs.declared.damage.DamageRule.TheVariants.{Rest, Size}
use Rattle.board_ledger.specs.setup_file.declared.conference.Conference.{Conference as SetupConference}
use Rattle.mail_board.proofs.DataLaws.{at_file, is_data, place_moves, data_twice}

-- ---- at most 64 conferences
few_opened : (bytes : List ℕ) (o : _) → opening_at bytes ≡ Ok o → o.conferences ≤ 64
unfolding opening_at opening_of
few_opened bytes o e =
    let k = rules_kept 0 0 (fixed_rules bytes ++ setup_rules bytes (setup_of bytes)) (opening_of bytes) o e in
    let fixed = both_kept (fixed_rules bytes) (setup_rules bytes (setup_of bytes)) k.0 in
    let counts = fixed_counts bytes (sym (kept_none (fixed_rules bytes) fixed.0)) in
    subst (λ p. p.conferences ≤ 64) k.1 counts.conferences

counted : {A : Type 0} (read : List A → List ℕ → Result (A × ℕ) Damage) (n : ℕ) (before : List A) (bytes : List ℕ) (found : List A × List ℕ)
    → records_at read n before bytes ≡ Ok found → length found.0 ≡ length before + n
unfolding records_at
counted read zero before bytes found e = let same = ap (λ p. length p.0) (ok_is (before, bytes) found e) in omega (arith, same)
counted read (suc n) before bytes found e =
    let a = bind_ok (read before bytes) (λ x. records_at read n (before ++ x.0 ∷ []) (drop x.1 bytes)) found e in
    let others = counted read n (before ++ a.0.0 ∷ []) (drop a.0.1 bytes) found a.2 in
    omega (arith, others, length-append before (a.0.0 ∷ []))

few_conferences : (bytes : List ℕ) (l : Ledger) → ledger_of bytes ≡ Ok l → length l.setup.conferences ≤ 64
few_conferences bytes l e =
    let x = ledger_parts bytes l e in
    let opened = few_opened bytes x.opening x.at_opening in
    let count = counted conference_at x.opening.conferences [] (drop x.opening.size bytes) x.conferences x.at_conferences in
    let end = rules_kept 0 (1 + x.opening.conferences + x.opening.users + x.opening.uploads) ((Rest, not (eqb (length x.uploads.1) 0)) ∷ []) _ l x.at_end in
    let same = ap (λ (m : Ledger). length m.setup.conferences) end.1 in
    omega (arith, opened, count, same)

-- ---- reading that goes on alike
bind_moves : {A B : Type 0} (r : Result A Damage) (p q : A → Result B Damage) → ((x : A) → r ≡ Ok x → p x ≡ q x) → (r >>= p) ≡ (r >>= q)
bind_moves (Ok x) p q same = same x refl
bind_moves (Err d) p q same = refl

module _ (f g : HostFiles) (same : data_files f ≡ data_files g) where
  -- ---- the parts
  conferences_move : (l : Ledger) (place : ℕ) (cs : List SetupConference) → place + length cs ≤ 64 → conferences_of (shapes_from l place cs) f ≡ conferences_of (shapes_from l place cs) g
  conferences_move l place [] few = refl
  conferences_move l place (c ∷ cs) few =
      let here = place_moves place f g (omega arith) same in
      let others = conferences_move l (place + 1) cs (omega arith) in
      λ i. conference_of (shape_of l place c.kind) (here i) >>= λ (one : ConferenceContents). others i >>= λ (more : List ConferenceContents). Ok (one ∷ more)

  rest_moves : (file : ℕ) → 1 < file → file < 258 → is_rest file f ≡ is_rest file g
  rest_moves file low high = ap (λ (bytes : List ℕ). by_rules file 0 ((Rest, not (eqb (length bytes) 0)) ∷ []) (tt {0})) (at_file f g file same (is_data file low high))

  rest_place_moves : (place : ℕ) → place < 64 → is_rest_place place f ≡ is_rest_place place g
  unfolding is_rest_place
  rest_place_moves place within =
      let jhr = rest_moves (jhr_file place) (omega arith) (omega arith) in
      let jdt = rest_moves (jdt_file place) (omega arith) (omega arith) in
      let jdx = rest_moves (jdx_file place) (omega arith) (omega arith) in
      let jlr = rest_moves (jlr_file place) (omega arith) (omega arith) in
      λ i. jhr i >>= λ a. jdt i >>= λ b. jdx i >>= λ d. jlr i

  rests_move : (place n : ℕ) → place + n ≤ 64 → are_rest place n f ≡ are_rest place n g
  unfolding are_rest
  rests_move place zero few = refl
  rests_move place (suc n) few =
      let here = rest_place_moves place (omega arith) in
      let others = rests_move (place + 1) n (omega arith) in
      λ i. here i >>= λ one. others i

  -- ---- all of them
  behind_moves : (l : Ledger) → length l.setup.conferences ≤ 64 → parts_behind l f ≡ parts_behind l g
  unfolding parts_behind
  behind_moves l few =
      let bases = conferences_move l 0 l.setup.conferences (omega arith) in
      let rests = rests_move (length l.setup.conferences) (64 - length l.setup.conferences) (omega arith) in
      λ i. bases i >>= λ (conferences : List ConferenceContents). rests i
      >>= λ empty. highs_of conferences (1 + length l.setup.conferences) l.users >>= λ within. Ok (record { ledger = l; conferences = conferences })

  text_moves : f ledger_file ≡ g ledger_file
  text_moves = at_file f g ledger_file same refl

  parts_move : parts_of f ≡ parts_of g
  unfolding parts_of
  parts_move =
      ap (λ (bytes : List ℕ). ledger_of bytes >>= λ (l : Ledger). parts_behind (today l) f) text_moves
      ∙ bind_moves (ledger_of (g ledger_file)) (λ (l : Ledger). parts_behind (today l) f) (λ (l : Ledger). parts_behind (today l) g)
      (λ l is. behind_moves (today l) (few_conferences (g ledger_file) l is))

  places_move : (n : ℕ) → n ≤ 64 → places_size n f ≡ places_size n g
  unfolding places_size
  places_move zero few = refl
  places_move (suc n) few =
      let before = places_move n (omega arith) in
      let here = ap files_size (place_moves n f g (omega arith) same) in
      λ i. before i + here i

  size_moves : data_size f ≡ data_size g
  size_moves = let places = places_move 64 (omega arith) in λ i. length (text_moves i) + places i

  board_moves : board_of f ≡ board_of g
  unfolding board_of
  board_moves = λ i. by_rules ledger_file 0 ((Size, ltb (size_limit (text_moves i)) (size_moves i)) ∷ []) (tt {0}) >>= λ sized. parts_move i

  pub reading_moves : board_in f ≡ board_in g
  reading_moves = λ i. cond (eqb (size_moves i) 0) (Ok None) (some_board (board_moves i))

-- the recovered files, and those that a recovery left
pub recovered_reading : (old mid : HostFiles) → data_files mid ≡ recovered old → board_in (recovered old) ≡ board_in mid
recovered_reading old mid done = reading_moves (recovered old) mid (data_twice (patched (intent_of old) old) ∙ sym done)
