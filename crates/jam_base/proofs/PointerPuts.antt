-- The put of a pointer makes .JLR that of the pointers with it moved.
use Rattle.std.proofs.Common.{◌≡◌, ◌≢◌, Bool, true, false, cond, ℕ, zero, suc, ◌+◌, ◌*◌, ◌<◌, ◌≤◌, ◌==◌, List, [], ◌∷◌, ◌++◌, length, Result, Option, Some, None, refl, sym, ap, ◌∙◌, subst, arith, length-append}
use Rattle.std.specs.Prelude.{IfOk, All, sum_by, nat_lt}
use Rattle.std.proofs.Math.ListN.{set, length-set}
use Rattle.std.proofs.lemmas.List.Elements.{All-cons, All-nil, All-append}
use Rattle.std.proofs.lemmas.List.Quantifiers.{position-Some}
use Rattle.intent_journal.specs.door_outside.Disk.{written}
use Rattle.intent_journal.specs.door_outside.File.{jlr_file}
use Rattle.jam_records.specs.record_numbers.Numbers.{u32s_text}
use Rattle.intent_journal.specs.Patches.{file_of, bytes_of, byte_count}
use Rattle.intent_journal.specs.declared.patch.Patch.{Patch}
use Rattle.intent_journal.specs.declared.patch.Patch.TheVariants.{Whole}
use Rattle.jam_records.specs.BaseHeaders.{base_text}
use Rattle.jam_records.specs.LastReads.{last_text}
use Rattle.jam_records.specs.declared.last_read.LastRead.{LastRead}
use Rattle.jam_records.specs.declared.message.Slot.{Slot}
use Rattle.jam_threads.specs.Links.{link_of}
use Rattle.jam_writing.specs.jam_layout.Headers.{headers_text}
use Rattle.jam_writing.specs.jam_layout.Layout.{layout, base_header, entries_of, files_size}
use Rattle.jam_writing.specs.jam_layout.Readers.{last_read, last_reads}
use Rattle.jam_writing.specs.jam_layout.Sizes.{slot_header}
use Rattle.jam_writing.specs.jam_layout.declared.files.BaseFiles.{BaseFiles}
use Rattle.jam_writing.specs.jam_layout.declared.reader.Reader.{Reader}
use Rattle.jam_writing.proofs.jam_layout.BaseLaws.{base_length}
use Rattle.jam_writing.proofs.jam_layout.SlotSizes.{last_length}
use Rattle.jam_writing.proofs.PieceLaws.{headers_length}
use Rattle.jam_base.specs.Bodies.{Lengthens}
use Rattle.jam_base.specs.Change.{Turns, SuitsIntent}
use Rattle.jam_base.specs.Contents.{Contents, with_pointer, reader_place, pointers_with, receipt_to}
use Rattle.jam_base.specs.MarkPuts.{pointer_patch, pointer_put, receive_puts}
use Rattle.jam_base.specs.Puts.{counts_put}
use Rattle.jam_base.specs.declared.change.BaseChange.{BaseChange}
use Rattle.jam_base.specs.declared.receipt.Receipt.{Receipt}
use Rattle.jam_base.proofs.BodyLaws.{SparesBodies, bodies_stay, counts_spares, pointer_spares, received_spares}
use Rattle.jam_base.proofs.ChangeClauses.{both_ok}
use Rattle.jam_base.proofs.MarkClauses.{marks_turn}
use Rattle.jam_base.proofs.MarkTurns.{receive_turns, receive_cost, receive_are, receive_apart}
use Rattle.jam_base.proofs.MarkedSlots.{received_files, received_sizes}
use Rattle.jam_base.proofs.PatchLaws.{jlr_small, jlr_turns}
use Rattle.jam_base.proofs.PutBounds.{IsPut, count_more, count_append, puts_suit, puts_then_suit}
use Rattle.jam_base.proofs.PutLaws.{four, jlr_put, turns_after}
use Rattle.jam_base.proofs.ReadingLaws.{slots_to, received_to}
use Rattle.jam_base.proofs.SameLinks.{links_same, all_received_same}
use Rattle.intent_journal.proofs.Writes.{written_before, written_behind}

-- ---- one record
record_written : (r : LastRead) (n : ℕ) → written (last_text r) 8 (u32s_text (n ∷ n ∷ [])) ≡ last_text (record r { last = n; high = n })
unfolding last_text
record_written r n = refl

pub room : (readers : List Reader) (pointers : List ℕ) (place : ℕ) → place < length readers → place < length pointers → 16 * place + 16 ≤ length (last_reads readers pointers)
room [] pointers place in_readers in_pointers = absurd (omega (arith, in_readers))
room (r ∷ readers) [] place in_readers in_pointers = absurd (omega (arith, in_pointers))
room (r ∷ readers) (p ∷ pointers) zero in_readers in_pointers = omega (arith, length-append (last_text (last_read r p)) (last_reads readers pointers), last_length (last_read r p))
room (r ∷ readers) (p ∷ pointers) (suc place) in_readers in_pointers =
    omega (arith, length-append (last_text (last_read r p)) (last_reads readers pointers), last_length (last_read r p), room readers pointers place (omega (arith, in_readers)) (omega (arith, in_pointers)))

pub pointer_written : (readers : List Reader) (pointers : List ℕ) (place number : ℕ) → place < length readers → place < length pointers
    → written (last_reads readers pointers) (16 * place + 8) (u32s_text (number ∷ number ∷ [])) ≡ last_reads readers (set pointers place number)
pointer_written [] pointers place number in_readers in_pointers = absurd (omega (arith, in_readers))
pointer_written (r ∷ readers) [] place number in_readers in_pointers = absurd (omega (arith, in_pointers))
pointer_written (r ∷ readers) (p ∷ pointers) zero number in_readers in_pointers =
    let long = last_length (last_read r p) in
    written_before (last_text (last_read r p)) (last_reads readers pointers) (u32s_text (number ∷ number ∷ [])) 8 (omega (arith, long))
    ∙ ap (λ (xs : List ℕ). xs ++ last_reads readers pointers) (record_written (last_read r p) number)
pointer_written (r ∷ readers) (p ∷ pointers) (suc place) number in_readers in_pointers =
    let text : List ℕ = last_text (last_read r p) in
    let rest : List ℕ = last_reads readers pointers in
    let there : 16 * suc place + 8 ≡ length text + (16 * place + 8) = omega (arith, last_length (last_read r p)) in
    ap (λ k. written (text ++ rest) k (u32s_text (number ∷ number ∷ []))) there
    ∙ (written_behind text rest (u32s_text (number ∷ number ∷ [])) (16 * place + 8) (omega (arith, room readers pointers place (omega (arith, in_readers)) (omega (arith, in_pointers))))
    ∙ ap (λ (xs : List ℕ). text ++ xs) (pointer_written readers pointers place number (omega (arith, in_readers)) (omega (arith, in_pointers))))

-- ---- a pointer of a base
module _ (base : Contents) (user number reader : ℕ) (there : reader_place user base.shape.readers ≡ Some reader) (all : length base.conference.pointers ≡ length base.shape.readers) where
  reader_in : reader < length base.shape.readers
  reader_in = (position-Some (λ (r : Reader). r.id == user) base.shape.readers reader (record { id = 0; name = [] }) there).0

  pub reader_room : 16 * reader + 16 ≤ length (layout base.shape base.conference).jlr
  reader_room =
      let first = reader_in in
      room base.shape.readers base.conference.pointers reader reader_in (omega (arith, first, all))

  put_turns : Turns base.shape.place (layout base.shape base.conference) (layout base.shape (with_pointer user number base).conference) (pointer_put base.shape.place reader number ∷ [])
  put_turns =
      let old = layout base.shape base.conference in
      let first = reader_in in
      let moved : last_reads base.shape.readers (set base.conference.pointers reader number) ≡ last_reads base.shape.readers (pointers_with (reader_place user base.shape.readers) number base.conference.pointers) =
      ap (λ (p : Option ℕ). last_reads base.shape.readers (pointers_with p number base.conference.pointers)) (sym there) in
      subst (λ (xs : List ℕ). Turns base.shape.place old (four old.jhr old.jdt old.jdx xs) (pointer_put base.shape.place reader number ∷ []))
      (pointer_written base.shape.readers base.conference.pointers reader number reader_in (omega (arith, first, all)) ∙ moved)
      (jlr_put base.shape.place (16 * reader + 8) (u32s_text (number ∷ number ∷ [])) old.jhr old.jdt old.jdx old.jlr (omega (arith, reader_room)))

  pub pointer_is : (size : ℕ) → length (layout base.shape base.conference).jlr ≤ size → IsPut base.shape.place size (pointer_put base.shape.place reader number)
  pointer_is size le = record { here = (omega arith, omega arith); part = refl; ends = omega (arith, reader_room, le) }

  pub pointer_turns : Turns base.shape.place (layout base.shape base.conference) (layout base.shape (with_pointer user number base).conference) (pointer_patch (with_pointer user number base) reader number ∷ [])
  pointer_turns = by (nat_lt reader 0x7FF_FFFF)
    where
      by : (few : Bool) → Turns base.shape.place (layout base.shape base.conference) (layout base.shape (with_pointer user number base).conference)
          (cond few (pointer_put base.shape.place reader number) (Whole (jlr_file base.shape.place) (layout base.shape (with_pointer user number base).conference).jlr) ∷ [])
      by true = put_turns
      by false = jlr_turns base.shape.place (layout base.shape base.conference) (layout base.shape (with_pointer user number base).conference).jlr

-- the records take as many bytes, whatever the pointers are
reads_long : (readers : List Reader) (one other : List ℕ) → length one ≡ length other → length (last_reads readers one) ≡ length (last_reads readers other)
reads_long [] one other same = refl
reads_long (r ∷ readers) [] [] same = refl
reads_long (r ∷ readers) [] (q ∷ other) same = absurd (omega (arith, same))
reads_long (r ∷ readers) (p ∷ one) [] same = absurd (omega (arith, same))
reads_long (r ∷ readers) (p ∷ one) (q ∷ other) same =
    omega (arith, length-append (last_text (last_read r p)) (last_reads readers one), length-append (last_text (last_read r q)) (last_reads readers other), last_length (last_read r p), last_length (last_read r q), reads_long readers one other (omega (arith, same)))

moved_long : (pointers : List ℕ) (number : ℕ) (place : Option ℕ) → length (pointers_with place number pointers) ≡ length pointers
moved_long pointers number None = refl
moved_long pointers number (Some place) = length-set pointers place number

-- ---- as functions answer
module _ {E : Type 0} (base : Contents) (user number reader : ℕ) (made : Contents) (res : Result BaseChange E) (there : reader_place user base.shape.readers ≡ Some reader) (all : length base.conference.pointers ≡ length base.shape.readers)
    (is : made ≡ with_pointer user number base)
    (base_is : IfOk res (λ change. change.base ≡ made)) (patches_are : IfOk res (λ change. change.patches ≡ pointer_patch made reader number ∷ [])) where
  clause : (Q : BaseFiles → List Patch → Type 0) → Q (layout base.shape (with_pointer user number base).conference) (pointer_patch (with_pointer user number base) reader number ∷ []) → IfOk res (λ change. Q (layout change.base.shape change.base.conference) change.patches)
  clause Q holds = both_ok (λ (change : BaseChange). change.base ≡ made) (λ (change : BaseChange). change.patches ≡ pointer_patch made reader number ∷ []) (λ (change : BaseChange). Q (layout change.base.shape change.base.conference) change.patches) res
      (λ change b p. subst (λ (ps : List Patch). Q (layout change.base.shape change.base.conference) ps) (sym (p ∙ ap (λ (k : Contents). pointer_patch k reader number ∷ []) is))
      (subst (λ (k : Contents). Q (layout k.shape k.conference) (pointer_patch (with_pointer user number base) reader number ∷ [])) (sym (b ∙ is)) holds)) base_is patches_are

  pub pointed_turns : IfOk res (λ change. Turns base.shape.place (layout base.shape base.conference) (layout change.base.shape change.base.conference) change.patches)
  pointed_turns = clause (λ f ps. Turns base.shape.place (layout base.shape base.conference) f ps) (pointer_turns base user number reader there all)

  pub pointed_suits : IfOk res (λ change. SuitsIntent base.shape.place (layout change.base.shape change.base.conference) change.patches)
  pointed_suits =
      let new = layout base.shape (with_pointer user number base).conference in
      let put : Patch = pointer_put base.shape.place reader number in
      let long : length (layout base.shape base.conference).jlr ≤ files_size new = omega (arith, reads_long base.shape.readers (pointers_with (reader_place user base.shape.readers) number base.conference.pointers) base.conference.pointers (moved_long base.conference.pointers number (reader_place user base.shape.readers))) in
      clause (λ f ps. SuitsIntent base.shape.place f ps)
      (by (nat_lt reader 0x7FF_FFFF)
      (puts_suit base.shape.place new (put ∷ []) (All-cons (IsPut base.shape.place (files_size new)) put [] (pointer_is base user number reader there all (files_size new) long) (All-nil (IsPut base.shape.place (files_size new)))) (omega (arith, count_more put []))))
    where
      by : (few : Bool) → SuitsIntent base.shape.place (layout base.shape (with_pointer user number base).conference) (pointer_put base.shape.place reader number ∷ [])
          → SuitsIntent base.shape.place (layout base.shape (with_pointer user number base).conference) (cond few (pointer_put base.shape.place reader number) (Whole (jlr_file base.shape.place) (layout base.shape (with_pointer user number base).conference).jlr) ∷ [])
      by true one = one
      by false one = jlr_small base.shape.place (layout base.shape (with_pointer user number base).conference)

  pub pointed_lengthens : IfOk res (λ change. Lengthens base.shape.place (layout base.shape base.conference) (layout change.base.shape change.base.conference) change.patches)
  pointed_lengthens =
      let next : Contents = with_pointer user number base in
      let place : ℕ = base.shape.place in
      clause (λ f ps. Lengthens place (layout base.shape base.conference) f ps)
      (bodies_stay place (layout base.shape base.conference) (layout base.shape next.conference) (pointer_patch next reader number ∷ []) refl
      (All-cons (SparesBodies place) (pointer_patch next reader number) [] (pointer_spares next reader number) (All-nil (SparesBodies place))))

module _ {E : Type 0} (base : Contents) (user : ℕ) (name : List ℕ) (upto now reader : ℕ) (marks : List Patch) (made : Contents) (res : Result BaseChange E)
    (there : reader_place user base.shape.readers ≡ Some reader) (all : length base.conference.pointers ≡ length base.shape.readers)
    (marks_are : marks ≡ receive_puts base.shape.kind base.shape.place name (receipt_to user upto now base) 1024 1 base.conference.slots)
    (is : made ≡ with_pointer user upto (received_to base user name upto now))
    (base_is : IfOk res (λ change. change.base ≡ made)) (patches_are : IfOk res (λ change. change.patches ≡ (marks ++ counts_put made.shape.place made.conference ∷ []) ++ pointer_patch made reader upto ∷ [])) where
  abbrev between : Contents
  between = received_to base user name upto now

  abbrev new : Contents
  new = with_pointer user upto (received_to base user name upto now)

  abbrev slots : List Slot
  slots = slots_to base user name upto now

  abbrev puts : List Patch
  puts = receive_puts base.shape.kind base.shape.place name (receipt_to user upto now base) 1024 1 base.conference.slots

  abbrev all_puts : List Patch
  all_puts = (puts ++ counts_put base.shape.place new.conference ∷ []) ++ pointer_patch new reader upto ∷ []

  both : (Q : BaseFiles → List Patch → Type 0) → Q (layout base.shape new.conference) all_puts → IfOk res (λ change. Q (layout change.base.shape change.base.conference) change.patches)
  both Q holds = both_ok (λ (change : BaseChange). change.base ≡ made) (λ (change : BaseChange). change.patches ≡ (marks ++ counts_put made.shape.place made.conference ∷ []) ++ pointer_patch made reader upto ∷ []) (λ (change : BaseChange). Q (layout change.base.shape change.base.conference) change.patches) res
      (λ change b p. subst (λ (ps : List Patch). Q (layout change.base.shape change.base.conference) ps) (sym (p ∙ (λ i. (marks_are i ++ counts_put (is i).shape.place (is i).conference ∷ []) ++ pointer_patch (is i) reader upto ∷ [])))
      (subst (λ (k : Contents). Q (layout k.shape k.conference) all_puts) (sym (b ∙ is)) holds)) base_is patches_are

  received_first : Turns base.shape.place (layout base.shape base.conference) (layout base.shape between.conference) (puts ++ counts_put base.shape.place between.conference ∷ [])
  received_first =
      let r : Receipt = receipt_to user upto now base in
      let old = layout base.shape base.conference in
      marks_turn base slots puts (links_same base.conference.slots slots (all_received_same name r 1 base.conference.slots)) (received_sizes base.conference.slots name r 1) (received_files base slots name r refl)
      (receive_turns base.shape.place base.shape.kind name r (link_of base.conference.slots) old.jdt old.jdx old.jlr (base_text (base_header base.shape base.conference)) 1024 0 1 base.conference.slots (sym (base_length (base_header base.shape base.conference))))

  pub acknowledged_turns : IfOk res (λ change. Turns base.shape.place (layout base.shape base.conference) (layout change.base.shape change.base.conference) change.patches)
  acknowledged_turns = both (λ f ps. Turns base.shape.place (layout base.shape base.conference) f ps)
      (turns_after base.shape.place (layout base.shape base.conference) (layout base.shape between.conference) (layout base.shape new.conference) (puts ++ counts_put base.shape.place between.conference ∷ []) (pointer_patch new reader upto ∷ [])
      received_first (pointer_turns between user upto reader there all))

  -- the marks and the counts, and behind them the pointer or the whole .JLR
  marks_suit : (few : Bool) → SuitsIntent base.shape.place (layout base.shape new.conference) ((puts ++ counts_put base.shape.place new.conference ∷ []) ++ cond few (pointer_put base.shape.place reader upto) (Whole (jlr_file base.shape.place) (layout base.shape new.conference).jlr) ∷ [])
  marks_suit few =
      let r : Receipt = receipt_to user upto now base in
      let place : ℕ = base.shape.place in
      let files = layout base.shape new.conference in
      let size : ℕ = files_size files in
      let P : Patch → Type 0 = IsPut place size in
      let Apart : Patch → Type 0 = λ p. jlr_file place ≢ file_of p in
      let counts : Patch = counts_put place new.conference in
      let pointer : Patch = pointer_put place reader upto in
      let old = layout base.shape base.conference in
      let jlr : length old.jlr ≤ length files.jlr = omega (arith, reads_long base.shape.readers (pointers_with (reader_place user base.shape.readers) upto base.conference.pointers) base.conference.pointers (moved_long base.conference.pointers upto (reader_place user base.shape.readers))) in
      let jhr : length files.jhr ≡ 1024 + sum_by slot_header base.conference.slots =
      omega (arith, base_length (base_header base.shape new.conference), headers_length (link_of slots) base.shape.kind 0 1 slots, length-append (base_text (base_header base.shape new.conference)) (headers_text base.shape.kind 0 (entries_of (link_of slots) 1 slots)), received_sizes base.conference.slots name r 1) in
      let counts_is : P counts = record { here = (omega arith, omega arith); part = refl; ends = omega (arith, jhr) } in
      let first : All P puts = receive_are place base.shape.kind name r (link_of base.conference.slots) old.jdt old.jdx old.jlr size 1024 1 base.conference.slots (omega (arith, jhr)) in
      let marks : All P (puts ++ counts ∷ []) = All-append P puts (counts ∷ []) first (All-cons P counts [] counts_is (All-nil P)) in
      let apart : All Apart (puts ++ counts ∷ []) =
      All-append Apart puts (counts ∷ []) (receive_apart place base.shape.kind name r (link_of base.conference.slots) old.jdt old.jdx old.jlr 1024 1 base.conference.slots) (All-cons Apart counts [] (λ e. omega (arith, e)) (All-nil Apart)) in
      let cost = receive_cost place base.shape.kind name r (link_of base.conference.slots) old.jdt old.jdx old.jlr 1024 1 base.conference.slots in
      let long : (last : Patch) → 11 * length ((puts ++ counts ∷ []) ++ last ∷ []) + byte_count ((puts ++ counts ∷ []) ++ last ∷ []) ≡ 11 * length puts + byte_count puts + (30 + length (bytes_of last)) =
      λ last. omega (
        arith,
        length-append (puts ++ counts ∷ []) (last ∷ []),
        length-append puts (counts ∷ []),
        count_append (puts ++ counts ∷ []) (last ∷ []),
        count_append puts (counts ∷ []),
        count_more counts [],
        count_more last [],
      ) in
      by few
      (puts_suit place files ((puts ++ counts ∷ []) ++ pointer ∷ []) (All-append P (puts ++ counts ∷ []) (pointer ∷ []) marks (All-cons P pointer [] (pointer_is base user upto reader there all size (omega (arith, jlr))) (All-nil P)))
      (omega (arith, jhr, cost, long pointer)))
      (puts_then_suit place files (puts ++ counts ∷ []) marks apart (omega (arith, jhr, cost, long (Whole (jlr_file place) files.jlr))))
    where
      by : (one : Bool) → SuitsIntent base.shape.place (layout base.shape new.conference) ((puts ++ counts_put base.shape.place new.conference ∷ []) ++ pointer_put base.shape.place reader upto ∷ [])
          → SuitsIntent base.shape.place (layout base.shape new.conference) ((puts ++ counts_put base.shape.place new.conference ∷ []) ++ Whole (jlr_file base.shape.place) (layout base.shape new.conference).jlr ∷ [])
          → SuitsIntent base.shape.place (layout base.shape new.conference) ((puts ++ counts_put base.shape.place new.conference ∷ []) ++ cond one (pointer_put base.shape.place reader upto) (Whole (jlr_file base.shape.place) (layout base.shape new.conference).jlr) ∷ [])
      by true put whole = put
      by false put whole = whole

  pub acknowledged_suits : IfOk res (λ change. SuitsIntent base.shape.place (layout change.base.shape change.base.conference) change.patches)
  acknowledged_suits = both (λ f ps. SuitsIntent base.shape.place f ps) (marks_suit (nat_lt reader 0x7FF_FFFF))

  pub acknowledged_lengthens : IfOk res (λ change. Lengthens base.shape.place (layout base.shape base.conference) (layout change.base.shape change.base.conference) change.patches)
  acknowledged_lengthens =
      let r : Receipt = receipt_to user upto now base in
      let place : ℕ = base.shape.place in
      let counts : Patch = counts_put place new.conference in
      let pointer : Patch = pointer_patch new reader upto in
      let marked : All (SparesBodies place) (puts ++ counts ∷ []) =
      All-append (SparesBodies place) puts (counts ∷ []) (received_spares base.shape.kind place name r 1024 1 base.conference.slots) (All-cons (SparesBodies place) counts [] (counts_spares place new.conference) (All-nil (SparesBodies place))) in
      both (λ f ps. Lengthens place (layout base.shape base.conference) f ps)
      (bodies_stay place (layout base.shape base.conference) (layout base.shape new.conference) all_puts (ap (λ (f : BaseFiles). f.jdt) (received_files base slots name r refl))
      (All-append (SparesBodies place) (puts ++ counts ∷ []) (pointer ∷ []) marked (All-cons (SparesBodies place) pointer [] (pointer_spares new reader upto) (All-nil (SparesBodies place)))))
