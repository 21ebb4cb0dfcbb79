-- The puts of marks make of .JHR that of the slots with these marks.
use Rattle.std.proofs.Common.{◌≡◌, ◌≢◌, ℕ, ◌+◌, ◌*◌, ◌≤◌, List, [], ◌∷◌, ◌++◌, length, Bool, true, false, cond, refl, sym, ap, ◌∙◌, subst, arith, append_assoc, length-append}
use Rattle.std.specs.Prelude.{sum_by, All}
use Rattle.std.proofs.lemmas.List.Sums.{sum_by-cons}
use Rattle.std.proofs.lemmas.List.Elements.{All-cons, All-nil, All-append}
use Rattle.intent_journal.specs.door_outside.Disk.{written}
use Rattle.intent_journal.specs.door_outside.File.{jlr_file}
use Rattle.jam_records.specs.record_numbers.Numbers.{u32s_text}
use Rattle.intent_journal.specs.Patches.{byte_count, file_of}
use Rattle.intent_journal.specs.declared.patch.Patch.{Patch}
use Rattle.jam_records.specs.MessageHeaders.{header_text}
use Rattle.jam_records.specs.Subfields.{subfields_text}
use Rattle.jam_records.specs.declared.message.Kind.{Kind}
use Rattle.jam_records.specs.declared.message.Message.{Message}
use Rattle.jam_records.specs.declared.message.Slot.{Slot}
use Rattle.jam_records.specs.declared.message.Slot.TheVariants.{Gone, Held}
use Rattle.jam_records.specs.declared.message_header.MessageHeader.{MessageHeader}
use Rattle.jam_threads.specs.declared.link.Link.{Link}
use Rattle.jam_writing.specs.jam_layout.Fields.{subfields_of}
use Rattle.jam_writing.specs.jam_layout.Headers.{entry_text, headers_text, message_header, marks_in, header_size}
use Rattle.jam_writing.specs.jam_layout.Layout.{entries_of}
use Rattle.jam_writing.specs.jam_layout.Marks.{attribute_of}
use Rattle.jam_writing.specs.jam_layout.Sizes.{slot_header}
use Rattle.jam_writing.proofs.jam_layout.EntryLaws.{entry_length}
use Rattle.jam_writing.specs.Pieces.{entry_with, body_size}
use Rattle.jam_writing.proofs.PieceLaws.{headers_length}
use Rattle.jam_writing.proofs.SlotShapes.{header_changed}
use Rattle.jam_base.specs.Change.{Turns}
use Rattle.jam_base.specs.MarkPuts.{marks_text, marks_put, receive_put, receive_puts}
use Rattle.jam_base.specs.Slots.{is_due, slots_received}
use Rattle.jam_base.specs.declared.receipt.Receipt.{Receipt}
use Rattle.jam_base.proofs.HeaderPlaces.{text_length, entry_long}
use Rattle.jam_base.proofs.PatchLaws.{nothing_turns}
use Rattle.jam_base.proofs.PutBounds.{IsPut, count_more, count_append}
use Rattle.jam_base.proofs.PutLaws.{four, jhr_put, turns_after}
use Rattle.intent_journal.proofs.Writes.{written_before, written_behind, written_in}

abbrev headers : (ℕ → Link) → Kind → ℕ → ℕ → List Slot → List ℕ
headers links kind offset n slots = headers_text kind offset (entries_of links n slots)

-- ---- one header
header_marked : (h : MessageHeader) (r p n a : ℕ) → written (header_text h) 40 (u32s_text (r ∷ p ∷ n ∷ a ∷ [])) ≡ header_text (record h { received = r; processed = p; number = n; attribute = a })
unfolding header_text
header_marked h r p n a = refl

abbrev pub marked : Message → ℕ → Bool → Bool → Message
marked m received seen deleted = record m { received = received; seen = seen; deleted = deleted }

marks_written : (kind : Kind) (offset number : ℕ) (link : Link) (m : Message) (r : ℕ) (s d : Bool)
    → written (entry_text kind offset (entry_with number link m)) 40 (marks_text kind number (marked m r s d)) ≡ entry_text kind offset (entry_with number link (marked m r s d))
unfolding message_header subfields_of
marks_written kind offset number link m r s d =
    let h : MessageHeader = message_header kind offset (entry_with number link m) in
    let fields : List ℕ = subfields_text (subfields_of m) in
    let long = text_length h in
    written_before (header_text h) fields (marks_text kind number (marked m r s d)) 40 (omega (arith, long))
    ∙ ap (λ (xs : List ℕ). xs ++ fields) (header_marked h r m.processed number (attribute_of kind (marks_in (marked m r s d))))

-- ---- the header of a message among others
pub marks_among : (links : ℕ → Link) (kind : Kind) (base : List ℕ) (before behind : List Slot) (m : Message) (r : ℕ) (s d : Bool) → length base ≡ 1024
    → written (base ++ headers links kind 0 1 (before ++ Held m ∷ behind)) ((1024 + sum_by slot_header before) + 40) (marks_text kind (1 + length before) (marked m r s d)) ≡ base ++ headers links kind 0 1 (before ++ Held (marked m r s d) ∷ behind)
marks_among links kind base before behind m r s d long =
    let number : ℕ = 1 + length before in
    let offset : ℕ = 0 + sum_by body_size before in
    let front : List ℕ = headers links kind 0 1 before in
    let piece : List ℕ = entry_text kind offset (entry_with number (links number) m) in
    let rest : List ℕ = headers links kind (offset + length m.body) (number + 1) behind in
    let bytes : List ℕ = marks_text kind number (marked m r s d) in
    ap (λ (xs : List ℕ). written (base ++ xs) ((1024 + sum_by slot_header before) + 40) bytes) (header_changed links kind 0 1 before behind (Held m) (Held m) refl)
    ∙ (written_in base front piece rest bytes (1024 + sum_by slot_header before) 40 (omega (arith, long, headers_length links kind 0 1 before)) (omega (arith, entry_long kind offset (entry_with number (links number) m)))
    ∙ (ap (λ (xs : List ℕ). base ++ (front ++ (xs ++ rest))) (marks_written kind offset number (links number) m r s d)
    ∙ ap (λ (xs : List ℕ). base ++ xs) (sym (header_changed links kind 0 1 before behind (Held m) (Held (marked m r s d)) refl))))

-- ---- all that are due
module _ (place : ℕ) (kind : Kind) (name : List ℕ) (r : Receipt) (links : ℕ → Link) (jdt jdx jlr : List ℕ) where
  abbrev Makes : List ℕ → List ℕ → List Patch → Type 0
  Makes old new patches = Turns place (four old jdt jdx jlr) (four new jdt jdx jlr) patches

  join : (done piece new rest more : List ℕ) (ps qs : List Patch) → Makes (done ++ (piece ++ rest)) (done ++ (new ++ rest)) ps → Makes ((done ++ new) ++ rest) ((done ++ new) ++ more) qs → Makes (done ++ (piece ++ rest)) (done ++ (new ++ more)) (ps ++ qs)
  join done piece new rest more ps qs first second =
      turns_after place (four (done ++ (piece ++ rest)) jdt jdx jlr) (four (done ++ (new ++ rest)) jdt jdx jlr) (four (done ++ (new ++ more)) jdt jdx jlr) ps qs first
      (subst (λ (xs : List ℕ). Makes (done ++ (new ++ rest)) xs qs) (append_assoc done new more) (subst (λ (xs : List ℕ). Makes xs ((done ++ new) ++ more) qs) (append_assoc done new rest) second))

  one_due : (done rest : List ℕ) (at offset n : ℕ) (m : Message) (due : Bool) → at ≡ length done
      → Makes (done ++ (entry_text kind offset (entry_with n (links n) m) ++ rest)) (done ++ (entry_text kind offset (entry_with n (links n) (cond due (record m { seen = true; received = r.now }) m)) ++ rest))
      (cond due (marks_put kind place at n (record m { seen = true; received = r.now }) ∷ []) [])
  one_due done rest at offset n m false is = nothing_turns place (four (done ++ (entry_text kind offset (entry_with n (links n) m) ++ rest)) jdt jdx jlr)
  one_due done rest at offset n m true is =
      let piece : List ℕ = entry_text kind offset (entry_with n (links n) m) in
      let bytes : List ℕ = marks_text kind n (marked m r.now true m.deleted) in
      let there : at + 40 ≡ length done + 40 = omega (arith, is) in
      let long = entry_long kind offset (entry_with n (links n) m) in
      let made : written (done ++ (piece ++ rest)) (at + 40) bytes ≡ done ++ (entry_text kind offset (entry_with n (links n) (marked m r.now true m.deleted)) ++ rest) =
      ap (λ k. written (done ++ (piece ++ rest)) k bytes) there
      ∙ (written_behind done (piece ++ rest) bytes 40 (omega (arith, long, length-append piece rest))
      ∙ (ap (λ (xs : List ℕ). done ++ xs) (written_before piece rest bytes 40 (omega (arith, long)))
      ∙ ap (λ (xs : List ℕ). done ++ (xs ++ rest)) (marks_written kind offset n (links n) m r.now true m.deleted))) in
      subst (λ (xs : List ℕ). Makes (done ++ (piece ++ rest)) xs (marks_put kind place at n (record m { seen = true; received = r.now }) ∷ [])) made
      (jhr_put place (at + 40) bytes (done ++ (piece ++ rest)) jdt jdx jlr (omega (arith, is, long, length-append done (piece ++ rest), length-append piece rest)))

  body_kept : (m : Message) (due : Bool) → length (cond due (record m { seen = true; received = r.now }) m).body ≡ length m.body
  body_kept m true = refl
  body_kept m false = refl

  size_kept : (kind_of_it : Kind) (offset n : ℕ) (link : Link) (m : Message) (due : Bool) → length (entry_text kind_of_it offset (entry_with n link (cond due (record m { seen = true; received = r.now }) m))) ≡ header_size m
  unfolding header_size subfields_of
  size_kept kind_of_it offset n link m true = entry_length kind_of_it offset (entry_with n link (record m { seen = true; received = r.now }))
  size_kept kind_of_it offset n link m false = entry_length kind_of_it offset (entry_with n link m)

  pub receive_turns : (done : List ℕ) (at offset n : ℕ) (slots : List Slot) → at ≡ length done
      → Makes (done ++ headers links kind offset n slots) (done ++ headers links kind offset n (slots_received name r n slots)) (receive_puts kind place name r at n slots)
  receive_turns done at offset n [] is = nothing_turns place (four (done ++ []) jdt jdx jlr)
  receive_turns done at offset n (Gone ∷ slots) is = receive_turns done (at + 0) offset (n + 1) slots (omega (arith, is))
  receive_turns done at offset n (Held m ∷ slots) is =
      let due : Bool = is_due name r n m in
      let now : Message = cond due (record m { seen = true; received = r.now }) m in
      let piece : List ℕ = entry_text kind offset (entry_with n (links n) m) in
      let new : List ℕ = entry_text kind offset (entry_with n (links n) now) in
      let rest : List ℕ = headers links kind (offset + length m.body) (n + 1) slots in
      let more : List ℕ = headers links kind (offset + length m.body) (n + 1) (slots_received name r (n + 1) slots) in
      subst (λ k. Makes (done ++ (piece ++ rest)) (done ++ (new ++ headers links kind (offset + k) (n + 1) (slots_received name r (n + 1) slots))) (receive_puts kind place name r at n (Held m ∷ slots))) (sym (body_kept m due))
      (join done piece new rest more (receive_put kind place name r at n (Held m)) (receive_puts kind place name r (at + header_size m) (n + 1) slots)
      (one_due done rest at offset n m due is)
      (receive_turns (done ++ new) (at + header_size m) (offset + length m.body) (n + 1) slots (omega (arith, is, length-append done new, size_kept kind offset n (links n) m due))))

  -- ---- what they take
  header_big : (m : Message) → 76 ≤ header_size m
  unfolding header_size
  header_big m = omega arith

  one_cost : (at n : ℕ) (m : Message) (due : Bool) → 11 * length (cond due (marks_put kind place at n (record m { seen = true; received = r.now }) ∷ []) []) + byte_count (cond due (marks_put kind place at n (record m { seen = true; received = r.now }) ∷ []) []) ≤ 27
  one_cost at n m true = omega (arith, count_more (marks_put kind place at n (record m { seen = true; received = r.now })) [])
  one_cost at n m false = omega arith

  pub receive_cost : (at n : ℕ) (slots : List Slot) → 11 * length (receive_puts kind place name r at n slots) + byte_count (receive_puts kind place name r at n slots) ≤ sum_by slot_header slots
  receive_cost at n [] = omega arith
  receive_cost at n (Gone ∷ slots) = omega (arith, receive_cost (at + 0) (n + 1) slots, sum_by-cons slot_header Gone slots)
  receive_cost at n (Held m ∷ slots) =
      omega (
        arith,
        receive_cost (at + header_size m) (n + 1) slots,
        sum_by-cons slot_header (Held m) slots,
        header_big m,
        one_cost at n m (is_due name r n m),
        length-append (receive_put kind place name r at n (Held m)) (receive_puts kind place name r (at + header_size m) (n + 1) slots),
        count_append (receive_put kind place name r at n (Held m)) (receive_puts kind place name r (at + header_size m) (n + 1) slots),
      )

  one_put : (size at n : ℕ) (m : Message) (due : Bool) → at + 76 ≤ size → All (IsPut place size) (cond due (marks_put kind place at n (record m { seen = true; received = r.now }) ∷ []) [])
  one_put size at n m true room = All-cons (IsPut place size) (marks_put kind place at n (record m { seen = true; received = r.now })) [] (record { here = (omega arith, omega arith); part = refl; ends = omega (arith, room) }) (All-nil (IsPut place size))
  one_put size at n m false room = All-nil (IsPut place size)

  pub receive_are : (size at n : ℕ) (slots : List Slot) → at + sum_by slot_header slots ≤ size → All (IsPut place size) (receive_puts kind place name r at n slots)
  receive_are size at n [] room = All-nil (IsPut place size)
  receive_are size at n (Gone ∷ slots) room = receive_are size (at + 0) (n + 1) slots (omega (arith, room, sum_by-cons slot_header Gone slots))
  receive_are size at n (Held m ∷ slots) room =
      All-append (IsPut place size) (receive_put kind place name r at n (Held m)) (receive_puts kind place name r (at + header_size m) (n + 1) slots)
      (one_put size at n m (is_due name r n m) (omega (arith, room, sum_by-cons slot_header (Held m) slots, header_big m)))
      (receive_are size (at + header_size m) (n + 1) slots (omega (arith, room, sum_by-cons slot_header (Held m) slots)))

  -- ---- they are none of .JLR
  one_apart : (at n : ℕ) (m : Message) (due : Bool) → All (λ p. jlr_file place ≢ file_of p) (cond due (marks_put kind place at n (record m { seen = true; received = r.now }) ∷ []) [])
  one_apart at n m true = All-cons (λ p. jlr_file place ≢ file_of p) (marks_put kind place at n (record m { seen = true; received = r.now })) [] (λ e. omega (arith, e)) (All-nil (λ p. jlr_file place ≢ file_of p))
  one_apart at n m false = All-nil (λ p. jlr_file place ≢ file_of p)

  pub receive_apart : (at n : ℕ) (slots : List Slot) → All (λ p. jlr_file place ≢ file_of p) (receive_puts kind place name r at n slots)
  receive_apart at n [] = All-nil (λ p. jlr_file place ≢ file_of p)
  receive_apart at n (Gone ∷ slots) = receive_apart (at + 0) (n + 1) slots
  receive_apart at n (Held m ∷ slots) =
      All-append (λ p. jlr_file place ≢ file_of p) (receive_put kind place name r at n (Held m)) (receive_puts kind place name r (at + header_size m) (n + 1) slots)
      (one_apart at n m (is_due name r n m)) (receive_apart (at + header_size m) (n + 1) slots)
