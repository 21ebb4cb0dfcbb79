-- The puts of an upload make of the ledger's text that with the record at its end.
use Rattle.std.proofs.Common.{◌≡◌, ℕ, ◌+◌, List, [], ◌∷◌, ◌++◌, length, refl, sym, ap, ◌∙◌, subst, arith, append_assoc, append-nil, length-append}
use Rattle.std.specs.List.{flat_map}
use Rattle.std.proofs.lemmas.List.{get_or_push}
use Rattle.std.proofs.lemmas.Grind.{flat_map-append}
use Rattle.intent_journal.specs.door_outside.Disk.{written}
use Rattle.jam_records.specs.record_numbers.Numbers.{u32_text}
use Rattle.intent_journal.specs.Patches.{byte_count}
use Rattle.intent_journal.specs.declared.patch.Patch.TheVariants.{Put}
use Rattle.board_ledger.specs.Ledger.{ledger_text}
use Rattle.board_ledger.specs.Uploads.{upload_text, IsUpload}
use Rattle.board_ledger.specs.OneFile.{TurnsFile}
use Rattle.board_ledger.specs.UploadPuts.{with_upload, upload_puts}
use Rattle.board_ledger.specs.Valid.{IsLedger}
use Rattle.board_ledger.specs.declared.ledger.Ledger.{Ledger}
use Rattle.board_ledger.specs.declared.upload.UploadRecord.{UploadRecord}
use Rattle.board_ledger.proofs.LedgerParts.{numbers, numbers_long, middle, parts_are, text_long}
use Rattle.board_ledger.proofs.SizeLaws.{upload_length}
use Rattle.board_ledger.proofs.TwoPuts.{two_turn, two_bytes}
use Rattle.intent_journal.proofs.Writes.{written_before, written_end}

count_written : (l : Ledger) (users old new : ℕ) → written (numbers l users old) 12 (u32_text new) ≡ numbers l users new
unfolding numbers
count_written l users old new = refl

module _ (l : Ledger) (r : UploadRecord) where
  longer : length (l.uploads ++ r ∷ []) ≡ length l.uploads + 1
  longer = length-append l.uploads (r ∷ [])

  abbrev users : ℕ
  users = length l.users

  abbrev rest : List ℕ
  rest = middle l ++ flat_map upload_text l.uploads

  counted : written (ledger_text l) 12 (u32_text (length l.uploads + 1)) ≡ numbers l users (length l.uploads + 1) ++ rest
  counted =
      let old : ℕ = length l.uploads in
      let new : ℕ = length l.uploads + 1 in
      ap (λ (xs : List ℕ). written xs 12 (u32_text new)) (parts_are l)
      ∙ (written_before (numbers l users old) rest (u32_text new) 12 (omega (arith, numbers_long l users old)) ∙ ap (λ (xs : List ℕ). xs ++ rest) (count_written l users old new))

  counted_long : length (numbers l users (length l.uploads + 1) ++ rest) ≡ length (ledger_text l)
  counted_long = omega (
    arith,
    ap length (parts_are l),
    numbers_long l users (length l.uploads),
    numbers_long l users (length l.uploads + 1),
    length-append (numbers l users (length l.uploads + 1)) rest,
    length-append (numbers l users (length l.uploads)) rest,
  )

  added : written (written (ledger_text l) 12 (u32_text (length l.uploads + 1))) (length (ledger_text l)) (upload_text r) ≡ ledger_text (with_upload r l)
  unfolding middle numbers
  added =
      let front : List ℕ = numbers l users (length l.uploads + 1) in
      let mid : List ℕ = middle l in
      let records : List ℕ = flat_map upload_text l.uploads in
      (λ i. written (counted i) (length (ledger_text l)) (upload_text r))
      ∙ (written_end (front ++ (mid ++ records)) (upload_text r) (length (ledger_text l)) (sym counted_long)
      ∙ (append_assoc front (mid ++ records) (upload_text r)
      ∙ (ap (λ (xs : List ℕ). front ++ xs) (append_assoc mid records (upload_text r)
      ∙ ap (λ (xs : List ℕ). mid ++ xs) (ap (λ (xs : List ℕ). records ++ xs) (sym (append-nil (upload_text r))) ∙ sym (flat_map-append upload_text l.uploads (r ∷ []))))
      ∙ ((λ i. numbers l users (sym longer i) ++ (mid ++ flat_map upload_text (l.uploads ++ r ∷ [])))
      ∙ sym (parts_are (with_upload r l))))))

  -- ---- the patches
  pub upload_turns : TurnsFile 0 (ledger_text l) (ledger_text (with_upload r l)) (upload_puts l r)
  upload_turns =
      two_turn (ledger_text l) (ledger_text (with_upload r l)) (u32_text (length l.uploads + 1)) (upload_text r) 12 (length (ledger_text l))
      (omega (arith, text_long l)) (omega (arith, ap length counted, counted_long)) added

  pub upload_bytes : length r.digest ≡ 32 → byte_count (upload_puts l r) ≡ 46
  upload_bytes digest = omega (arith, two_bytes (Put 0 12 (u32_text (length l.uploads + 1))) (Put 0 (length (ledger_text l)) (upload_text r)), upload_length r digest)

  -- ---- the record
  pub last_digest : IsLedger (with_upload r l) → length r.digest ≡ 32
  last_digest ok =
      let long = longer in
      let one : IsUpload (length l.users) r = subst (IsUpload (length l.users)) (get_or_push l.uploads r r (length l.uploads) refl) (ok.uploads (length l.uploads) r (omega (arith, long))) in
      one.digest
