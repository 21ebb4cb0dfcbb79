-- The puts of a new user make of the ledger's text that with him behind the others.
use Rattle.std.proofs.Common.{◌≡◌, ℕ, ◌+◌, ◌*◌, ◌≤◌, List, [], ◌∷◌, ◌++◌, length, refl, sym, ap, ◌∙◌, subst, arith, append_assoc, append-nil, length-append}
use Rattle.std.specs.List.{flat_map}
use Rattle.std.proofs.lemmas.List.{get_or_push, take_all}
use Rattle.std.proofs.lemmas.Grind.{flat_map-append}
use Rattle.intent_journal.specs.door_outside.Disk.{written}
use Rattle.jam_records.specs.record_numbers.Numbers.{u16_text}
use Rattle.intent_journal.specs.Patches.{byte_count}
use Rattle.intent_journal.specs.declared.patch.Patch.TheVariants.{Put}
use Rattle.board_ledger.specs.Conferences.{conference_text}
use Rattle.board_ledger.specs.EnrollPuts.{with_user, enroll_puts}
use Rattle.board_ledger.specs.Ledger.{ledger_text}
use Rattle.board_ledger.specs.OneFile.{TurnsFile}
use Rattle.board_ledger.specs.Opening.{fixed_text, setup_text}
use Rattle.board_ledger.specs.Uploads.{upload_text, upload_size}
use Rattle.board_ledger.specs.UserPuts.{record_in, user_place}
use Rattle.board_ledger.specs.Users.{users_text, IsUser}
use Rattle.board_ledger.specs.Valid.{IsLedger}
use Rattle.board_ledger.specs.declared.ledger.Ledger.{Ledger}
use Rattle.board_ledger.specs.declared.user.User.{User}
use Rattle.open_offers.specs.declared.version.Version.TheVariants.{Second}
use Rattle.board_ledger.proofs.LedgerParts.{numbers, numbers_long, middle, parts_are, text_long}
use Rattle.board_ledger.proofs.SizeLaws.{fixed_length, flat_length, upload_length}
use Rattle.board_ledger.proofs.TwoPuts.{two_turn, two_bytes}
use Rattle.intent_journal.proofs.Writes.{written_before, written_over}

count_written : (l : Ledger) (uploads old new : ℕ) → written (numbers l old uploads) 8 (u16_text new) ≡ numbers l new uploads
unfolding numbers
count_written l uploads old new = refl

module _ (l : Ledger) (u : User) where
  longer : length (l.users ++ u ∷ []) ≡ length l.users + 1
  longer = length-append l.users (u ∷ [])

  abbrev records : List ℕ
  records = flat_map upload_text l.uploads

  abbrev first : List ℕ
  first = numbers l (length l.users + 1) (length l.uploads)

  counted : written (ledger_text l) 8 (u16_text (length l.users + 1)) ≡ (first ++ middle l) ++ records
  counted =
      let old : List ℕ = numbers l (length l.users) (length l.uploads) in
      let rest : List ℕ = middle l ++ records in
      ap (λ (xs : List ℕ). written xs 8 (u16_text (length l.users + 1))) (parts_are l)
      ∙ (written_before old rest (u16_text (length l.users + 1)) 8 (omega (arith, numbers_long l (length l.users) (length l.uploads)))
      ∙ (ap (λ (xs : List ℕ). xs ++ rest) (count_written l (length l.uploads) (length l.users) (length l.users + 1))
      ∙ sym (append_assoc first (middle l) records)))

  place_is : user_place (length l.users) l ≡ length (first ++ middle l)
  unfolding middle
  place_is =
      let s : List ℕ = setup_text l.setup in
      let c : List ℕ = flat_map conference_text l.setup.conferences in
      let us : List ℕ = users_text Second (length l.setup.conferences) l.users in
      omega (
        arith,
        length-append (fixed_text Second l) s,
        fixed_length Second l,
        ap (λ (users : List User). length (users_text Second (length l.setup.conferences) users)) (take_all (length l.users) l.users (omega arith)),
        numbers_long l (length l.users + 1) (length l.uploads),
        length-append first (s ++ (c ++ us)),
        length-append s (c ++ us),
        length-append c us,
      )

  middle_more : middle (with_user u l) ≡ middle l ++ record_in l u
  unfolding middle
  middle_more =
      let s : List ℕ = setup_text l.setup in
      let c : List ℕ = flat_map conference_text l.setup.conferences in
      let us : List ℕ = users_text Second (length l.setup.conferences) l.users in
      ap (λ (xs : List ℕ). s ++ (c ++ xs)) (flat_map-append (record_in l) l.users (u ∷ []) ∙ ap (λ (xs : List ℕ). us ++ xs) (append-nil (record_in l u)))
      ∙ (ap (λ (xs : List ℕ). s ++ xs) (sym (append_assoc c us (record_in l u))) ∙ sym (append_assoc s (c ++ us) (record_in l u)))

  text_more : ledger_text (with_user u l) ≡ (first ++ middle l) ++ (record_in l u ++ records)
  unfolding numbers
  text_more =
      parts_are (with_user u l)
      ∙ ((λ i. numbers l (longer i) (length l.uploads) ++ (middle_more i ++ records))
      ∙ (ap (λ (xs : List ℕ). first ++ xs) (append_assoc (middle l) (record_in l u) records)
      ∙ sym (append_assoc first (middle l) (record_in l u ++ records))))

  added : written (written (ledger_text l) 8 (u16_text (length l.users + 1))) (user_place (length l.users) l) (record_in l u ++ records) ≡ ledger_text (with_user u l)
  added =
      ap (λ (xs : List ℕ). written xs (user_place (length l.users) l) (record_in l u ++ records)) counted
      ∙ (written_over (first ++ middle l) records (record_in l u ++ records) (user_place (length l.users) l) place_is (omega (arith, length-append (record_in l u) records)) ∙ sym text_more)

  -- ---- the patches
  pub enroll_turns : TurnsFile 0 (ledger_text l) (ledger_text (with_user u l)) (enroll_puts l u)
  enroll_turns =
      two_turn (ledger_text l) (ledger_text (with_user u l)) (u16_text (length l.users + 1)) (record_in l u ++ records) 8 (user_place (length l.users) l)
      (omega (arith, text_long l)) (omega (arith, ap length counted, place_is, length-append (first ++ middle l) records)) added

  pub records_length : IsLedger l → length (record_in l u ++ records) ≡ length (record_in l u) + upload_size * length l.uploads
  records_length ok = omega (arith, length-append (record_in l u) records, flat_length upload_text upload_size l.uploads (λ k d within. upload_length _ (ok.uploads k d within).digest))

  pub enroll_bytes : IsLedger l → byte_count (enroll_puts l u) ≡ 2 + length (record_in l u) + upload_size * length l.uploads
  enroll_bytes ok = omega (
    arith,
    two_bytes (Put 0 8 (u16_text (length l.users + 1))) (Put 0 (user_place (length l.users) l) (record_in l u ++ records)),
    records_length ok,
  )

  -- ---- where the second put begins and ends
  pub put_begins : 24 ≤ user_place (length l.users) l
  put_begins = omega (arith, place_is, numbers_long l (length l.users + 1) (length l.uploads), length-append first (middle l))

  pub put_ends : user_place (length l.users) l + length (record_in l u ++ records) ≡ length (ledger_text (with_user u l))
  put_ends = omega (arith, place_is, ap length text_more, length-append (first ++ middle l) (record_in l u ++ records))

  -- ---- the user
  pub last_user : IsLedger (with_user u l) → IsUser (length l.setup.conferences) u
  last_user ok = subst (IsUser (length l.setup.conferences)) (get_or_push l.users u u (length l.users) refl) (ok.users (length l.users) u (omega (arith, longer)))
