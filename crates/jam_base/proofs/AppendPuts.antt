-- The puts of messages more make of the files those of the conference with the messages.
use Rattle.std.proofs.Common.{◌≡◌, inl, inr, ℕ, ◌+◌, ◌-◌, ◌*◌, ◌<◌, ◌≤◌, ◌==◌, List, [], ◌∷◌, ◌++◌, length, take, drop, Option, Some, None, sym, ap, ◌∙◌, subst, arith, append_assoc, append-nil, length-append}
use Rattle.std.specs.Prelude.{sum_by, map, IfSome, nat_le}
use Rattle.std.specs.List.{slice_get, flat_map}
use Rattle.std.proofs.Math.Seq.{take-append_seam, drop-append_seam}
use Rattle.std.proofs.lemmas.Bool.{cases_Bool, leb-true, leb-false, cond-true, cond-false, ne_eqb}
use Rattle.std.proofs.lemmas.Grind.{flat_map-append}
use Rattle.intent_journal.specs.door_outside.Disk.{written}
use Rattle.jam_records.specs.record_numbers.Numbers.{u32_text, u32s_text}
use Rattle.intent_journal.specs.declared.patch.Patch.{Patch}
use Rattle.intent_journal.specs.declared.patch.Patch.TheVariants.{Put}
use Rattle.intent_journal.specs.door_outside.File.{jhr_file, jdt_file, jdx_file}
use Rattle.jam_records.specs.BaseHeaders.{base_text}
use Rattle.jam_records.specs.declared.base_header.BaseHeader.{BaseHeader}
use Rattle.jam_records.specs.declared.message.Kind.{Kind}
use Rattle.jam_records.specs.declared.message.Message.{Message}
use Rattle.jam_records.specs.declared.message.Slot.{Slot}
use Rattle.jam_records.specs.declared.message.Slot.TheVariants.{Held}
use Rattle.jam_threads.specs.LinkChanges.{link_after, link_change, IsOlder}
use Rattle.jam_threads.specs.Links.{link_of}
use Rattle.jam_threads.specs.declared.link.Link.{Link}
use Rattle.jam_threads.specs.declared.link.LinkField.{LinkField}
use Rattle.jam_threads.specs.declared.link.LinkField.TheVariants.{First, Next}
use Rattle.jam_threads.specs.declared.link.LinkPatch.{LinkPatch}
use Rattle.jam_threads.proofs.ChangeLemmas.{is_change}
use Rattle.jam_threads.proofs.ChildrenLemmas.{slice_get_front}
use Rattle.jam_writing.specs.jam_layout.Bodies.{bodies_text}
use Rattle.jam_writing.specs.jam_layout.Conference.{live_count}
use Rattle.jam_writing.specs.jam_layout.Headers.{headers_text}
use Rattle.jam_writing.specs.jam_layout.Index.{index_records}
use Rattle.jam_writing.specs.jam_layout.Layout.{layout, base_header, entries_of}
use Rattle.jam_writing.specs.jam_layout.Sizes.{slot_header}
use Rattle.jam_writing.specs.jam_layout.declared.conference.ConferenceContents.{ConferenceContents}
use Rattle.jam_writing.specs.jam_layout.declared.shape.Shape.{Shape}
use Rattle.jam_writing.proofs.jam_layout.BaseLaws.{base_length}
use Rattle.jam_writing.proofs.jam_layout.SlotLaws.{index_length}
use Rattle.jam_writing.specs.Pieces.{body_piece, body_size}
use Rattle.jam_writing.proofs.PieceLaws.{bodies_are, bodies_length, headers_length}
use Rattle.jam_writing.proofs.SlotShapes.{headers-append, index-append}
use Rattle.jam_base.specs.Change.{Turns}
use Rattle.jam_base.specs.Places.{header_place, field_place}
use Rattle.jam_base.specs.Puts.{counts_put, link_put, link_puts, last_puts, append_puts}
use Rattle.jam_base.specs.Slots.{slots_with_all}
use Rattle.jam_base.proofs.HeaderPlaces.{counts_written, headers_same, linked, header_within}
use Rattle.jam_base.proofs.PatchLaws.{nothing_turns, turns_then}
use Rattle.jam_base.proofs.PutLaws.{four, jhr_put, jdt_put, jdx_put, turns_after}
use Rattle.intent_journal.proofs.Writes.{written_before, written_end}

abbrev headers : (ℕ → Link) → Kind → List Slot → List ℕ
headers links kind slots = headers_text kind 0 (entries_of links 1 slots)

abbrev pub helds : List Message → List Slot
helds messages = map (λ m. Held m) messages

pub all_slots_are : (slots : List Slot) (messages : List Message) → slots_with_all slots messages ≡ slots ++ helds messages
all_slots_are slots [] = sym (append-nil slots)
all_slots_are slots (m ∷ messages) = all_slots_are (slots ++ Held m ∷ []) messages ∙ append_assoc slots (Held m ∷ []) (helds messages)

field_small : (field : LinkField) → field_place field ≤ 76
field_small First = omega arith
field_small Next = omega arith

-- ---- the links of the old slots
module _ (place : ℕ) (kind : Kind) (base : List ℕ) (long : length base ≡ 1024) (jdt jdx jlr : List ℕ) (old : List Slot) where
  abbrev with_links : (ℕ → Link) → List ℕ
  with_links links = base ++ headers links kind old

  unlinked : (links others : ℕ → Link) → ((k : ℕ) → 0 < k → k ≤ length old → others k ≡ links k) → Turns place (four (with_links links) jdt jdx jlr) (four (with_links others) jdt jdx jlr) []
  unlinked links others same =
      subst (λ (xs : List ℕ). Turns place (four (with_links links) jdt jdx jlr) (four (base ++ xs) jdt jdx jlr) []) (sym (headers_same links others kind 0 1 old (λ k above below. same k (omega (arith, above)) (omega (arith, below)))))
      (nothing_turns place (four (with_links links) jdt jdx jlr))

  link_step : (slots more : List Slot) (change : Option LinkPatch) (links others : ℕ → Link) → slots ≡ old ++ more → IfSome change (IsOlder slots) → ((k : ℕ) → 0 < k → k ≤ length slots → others k ≡ link_after change k (links k))
      → Turns place (four (with_links links) jdt jdx jlr) (four (with_links others) jdt jdx jlr) (link_put place old change)
  link_step slots more None links others is older each = unlinked links others (λ k above below. each k above (omega (arith, below, ap length is, length-append old more)))
  link_step slots more (Some patch) links others is older each =
      let each_old : (k : ℕ) → 0 < k → k ≤ length old → others k ≡ link_after (Some patch) k (links k) = λ k above below. each k above (omega (arith, below, ap length is, length-append old more)) in
      let at : ℕ = header_place old patch.number + field_place patch.field in
      let put : Patch = Put (jhr_file place) at (u32_text patch.value) in
      elim (cases_Bool (nat_le patch.number (length old))) [
        | inl among ↦
            let within : patch.number ≤ length old = leb-true patch.number (length old) among in
            let held : slice_get old (patch.number - 1) ≡ Some (Held older.message) =
            sym (slice_get_front old more (patch.number - 1) (omega (arith, within, older.some))) ∙ (ap (λ (xs : List Slot). slice_get xs (patch.number - 1)) (sym is) ∙ older.held) in
            let turned : Turns place (four (with_links links) jdt jdx jlr) (four (with_links others) jdt jdx jlr) (put ∷ []) =
            subst (λ (xs : List ℕ). Turns place (four (with_links links) jdt jdx jlr) (four xs jdt jdx jlr) (put ∷ []))
            (linked kind old patch.number older.message older.some held links others patch.field patch.value each_old base long)
            (jhr_put place at (u32_text patch.value) (with_links links) jdt jdx jlr (omega (arith, header_within kind old patch.number older.message older.some held links base long, field_small patch.field))) in
            subst (λ (ps : List Patch). Turns place (four (with_links links) jdt jdx jlr) (four (with_links others) jdt jdx jlr) ps) (sym (cond-true (nat_le patch.number (length old)) (put ∷ []) [] among)) turned
        | inr behind ↦
            let past : length old < patch.number = leb-false patch.number (length old) behind in
            subst (λ (ps : List Patch). Turns place (four (with_links links) jdt jdx jlr) (four (with_links others) jdt jdx jlr) ps) (sym (cond-false (nat_le patch.number (length old)) (put ∷ []) [] behind))
            (unlinked links others (λ k above below. each_old k above below ∙ cond-false (k == patch.number) _ _ (ne_eqb k patch.number (λ e. omega (arith, e, past, below)))))
      ]

  pub links_turn : (slots more : List Slot) (messages : List Message) → slots ≡ old ++ more
      → Turns place (four (with_links (link_of slots)) jdt jdx jlr) (four (with_links (link_of (slots_with_all slots messages))) jdt jdx jlr) (link_puts place old slots messages)
  links_turn slots more [] is = nothing_turns place (four (with_links (link_of slots)) jdt jdx jlr)
  links_turn slots more (m ∷ messages) is =
      let next : List Slot = slots ++ Held m ∷ [] in
      let change = is_change slots m in
      turns_after place (four (with_links (link_of slots)) jdt jdx jlr) (four (with_links (link_of next)) jdt jdx jlr) (four (with_links (link_of (slots_with_all next messages))) jdt jdx jlr)
      (link_put place old (link_change slots m.replyid)) (link_puts place old next messages)
      (link_step slots more (link_change slots m.replyid) (link_of slots) (link_of next) is change.older change.links)
      (links_turn next (more ++ Held m ∷ []) messages (ap (λ (xs : List Slot). xs ++ Held m ∷ []) is ∙ append_assoc old more (Held m ∷ [])))

-- ---- the ends
jhr_last : (links : ℕ → Link) (kind : Kind) (base : List ℕ) (slots old more : List Slot) → length base ≡ 1024 → slots ≡ old ++ more
    → written (base ++ headers links kind old) (1024 + sum_by slot_header (take (length old) slots)) (headers_text kind (sum_by body_size (take (length old) slots)) (entries_of links (length old + 1) (drop (length old) slots)))
    ≡ base ++ headers links kind slots
jhr_last links kind base slots old more long is = subst (λ (xs : List Slot).
    written (base ++ headers links kind old) (1024 + sum_by slot_header (take (length old) xs)) (headers_text kind (sum_by body_size (take (length old) xs)) (entries_of links (length old + 1) (drop (length old) xs)))
    ≡ base ++ headers links kind xs) (sym is)
    (let tail : List ℕ = headers_text kind (sum_by body_size old) (entries_of links (length old + 1) more) in
    let zero_more : sum_by body_size old ≡ 0 + sum_by body_size old = omega arith in
    let number : length old + 1 ≡ 1 + length old = omega arith in
    (λ i. written (base ++ headers links kind old) (1024 + sum_by slot_header (take-append_seam old more i)) (headers_text kind (sum_by body_size (take-append_seam old more i)) (entries_of links (length old + 1) (drop-append_seam old more i))))
    ∙ (written_end (base ++ headers links kind old) tail (1024 + sum_by slot_header old) (omega (arith, long, length-append base (headers links kind old), headers_length links kind 0 1 old))
    ∙ (append_assoc base (headers links kind old) tail
    ∙ ((λ i. base ++ (headers links kind old ++ headers_text kind (zero_more i) (entries_of links (number i) more)))
    ∙ ap (λ (xs : List ℕ). base ++ xs) (sym (headers-append links kind 0 1 old more))))))

jdt_last : (links others : ℕ → Link) (slots old more : List Slot) → slots ≡ old ++ more
    → written (bodies_text (entries_of links 1 old)) (sum_by body_size (take (length old) slots)) (flat_map body_piece (drop (length old) slots)) ≡ bodies_text (entries_of others 1 slots)
jdt_last links others slots old more is = subst (λ (xs : List Slot). written (bodies_text (entries_of links 1 old)) (sum_by body_size (take (length old) xs)) (flat_map body_piece (drop (length old) xs)) ≡ bodies_text (entries_of others 1 xs)) (sym is)
    ((λ i. written (bodies_are links 1 old i) (sum_by body_size (take-append_seam old more i)) (flat_map body_piece (drop-append_seam old more i)))
    ∙ (written_end (flat_map body_piece old) (flat_map body_piece more) (sum_by body_size old) (sym (bodies_length old))
    ∙ (sym (flat_map-append body_piece old more) ∙ sym (bodies_are others 1 (old ++ more)))))

jdx_last : (slots old more : List Slot) → slots ≡ old ++ more
    → written (index_records 1024 old) (8 * length old) (index_records (1024 + sum_by slot_header (take (length old) slots)) (drop (length old) slots)) ≡ index_records 1024 slots
jdx_last slots old more is = subst (λ (xs : List Slot). written (index_records 1024 old) (8 * length old) (index_records (1024 + sum_by slot_header (take (length old) xs)) (drop (length old) xs)) ≡ index_records 1024 xs) (sym is)
    ((λ i. written (index_records 1024 old) (8 * length old) (index_records (1024 + sum_by slot_header (take-append_seam old more i)) (drop-append_seam old more i)))
    ∙ (written_end (index_records 1024 old) (index_records (1024 + sum_by slot_header old) more) (8 * length old) (sym (index_length 1024 old))
    ∙ sym (index-append 1024 old more)))

-- ---- all of them
module _ (shape : Shape) (c : ConferenceContents) (counter : ℕ) (messages : List Message) where
  abbrev pub more_in : ConferenceContents
  more_in = record c { counter = counter; slots = slots_with_all c.slots messages }

  place : ℕ
  place = shape.place

  more : List Slot
  more = helds messages

  pub parts : (more_in).slots ≡ c.slots ++ helds messages
  parts = all_slots_are c.slots messages

  links : ℕ → Link
  links = link_of (more_in).slots

  old_base : List ℕ
  old_base = base_text (base_header shape c)

  new_base : List ℕ
  new_base = base_text (base_header shape more_in)

  jdt : List ℕ
  jdt = (layout shape c).jdt

  jdx : List ℕ
  jdx = (layout shape c).jdx

  jlr : List ℕ
  jlr = (layout shape c).jlr

  counted : written (old_base ++ headers links shape.kind c.slots) 8 (u32s_text (counter ∷ live_count (more_in).slots ∷ [])) ≡ new_base ++ headers links shape.kind c.slots
  unfolding old_base new_base
  counted =
      let h : BaseHeader = base_header shape c in
      let long = base_length h in
      written_before (base_text h) (headers links shape.kind c.slots) (u32s_text (counter ∷ live_count (more_in).slots ∷ [])) 8 (omega (arith, long))
      ∙ ap (λ (xs : List ℕ). xs ++ headers links shape.kind c.slots) (counts_written h counter (live_count (more_in).slots))

  take_old : take (length c.slots) (more_in).slots ≡ c.slots
  take_old = ap (take (length c.slots)) parts ∙ take-append_seam c.slots (helds messages)

  last_turns : Turns shape.place (four (new_base ++ headers links shape.kind c.slots) jdt jdx jlr) (layout shape more_in) (last_puts shape (length c.slots) more_in)
  unfolding new_base links jdt jdx jlr
  last_turns =
      let new = layout shape more_in in
      let kind = shape.kind in
      let n = length c.slots in
      let at : ℕ = 1024 + sum_by slot_header (take n (more_in).slots) in
      let body : ℕ = sum_by body_size (take n (more_in).slots) in
      let jhr_now : List ℕ = base_text (base_header shape more_in) ++ headers (link_of (more_in).slots) kind c.slots in
      let headers_more : List ℕ = headers_text kind body (entries_of (link_of (more_in).slots) (n + 1) (drop n (more_in).slots)) in
      let bodies_more : List ℕ = flat_map body_piece (drop n (more_in).slots) in
      let records_more : List ℕ = index_records at (drop n (more_in).slots) in
      let first : Turns shape.place (four jhr_now (layout shape c).jdt (layout shape c).jdx (layout shape c).jlr) (four new.jhr (layout shape c).jdt (layout shape c).jdx (layout shape c).jlr) (Put (jhr_file shape.place) at headers_more ∷ []) =
      subst (λ (xs : List ℕ). Turns shape.place (four jhr_now (layout shape c).jdt (layout shape c).jdx (layout shape c).jlr) (four xs (layout shape c).jdt (layout shape c).jdx (layout shape c).jlr) (Put (jhr_file shape.place) at headers_more ∷ []))
      (jhr_last (link_of (more_in).slots) kind (base_text (base_header shape more_in)) (more_in).slots c.slots (helds messages) (base_length (base_header shape more_in)) parts)
      (jhr_put shape.place at headers_more jhr_now (layout shape c).jdt (layout shape c).jdx (layout shape c).jlr
      (omega (arith, ap (sum_by slot_header) take_old, base_length (base_header shape more_in), length-append (base_text (base_header shape more_in)) (headers (link_of (more_in).slots) kind c.slots), headers_length (link_of (more_in).slots) kind 0 1 c.slots))) in
      let second : Turns shape.place (four new.jhr (layout shape c).jdt (layout shape c).jdx (layout shape c).jlr) (four new.jhr new.jdt (layout shape c).jdx (layout shape c).jlr) (Put (jdt_file shape.place) body bodies_more ∷ []) =
      subst (λ (xs : List ℕ). Turns shape.place (four new.jhr (layout shape c).jdt (layout shape c).jdx (layout shape c).jlr) (four new.jhr xs (layout shape c).jdx (layout shape c).jlr) (Put (jdt_file shape.place) body bodies_more ∷ []))
      (jdt_last (link_of c.slots) (link_of (more_in).slots) (more_in).slots c.slots (helds messages) parts)
      (jdt_put shape.place body bodies_more new.jhr (layout shape c).jdt (layout shape c).jdx (layout shape c).jlr
      (omega (arith, ap (sum_by body_size) take_old, ap length (bodies_are (link_of c.slots) 1 c.slots), bodies_length c.slots))) in
      let third : Turns shape.place (four new.jhr new.jdt (layout shape c).jdx (layout shape c).jlr) new (Put (jdx_file shape.place) (8 * n) records_more ∷ []) =
      subst (λ (xs : List ℕ). Turns shape.place (four new.jhr new.jdt (layout shape c).jdx (layout shape c).jlr) (four new.jhr new.jdt xs (layout shape c).jlr) (Put (jdx_file shape.place) (8 * n) records_more ∷ []))
      (jdx_last (more_in).slots c.slots (helds messages) parts)
      (jdx_put shape.place (8 * n) records_more new.jhr new.jdt (layout shape c).jdx (layout shape c).jlr (omega (arith, index_length 1024 c.slots))) in
      turns_then shape.place _ _ new (Put (jhr_file shape.place) at headers_more) (Put (jdt_file shape.place) body bodies_more ∷ Put (jdx_file shape.place) (8 * n) records_more ∷ []) first
      (turns_then shape.place _ _ new (Put (jdt_file shape.place) body bodies_more) (Put (jdx_file shape.place) (8 * n) records_more ∷ []) second third)

  pub append_turns : Turns shape.place (layout shape c) (layout shape more_in) (append_puts shape c.slots messages more_in)
  unfolding old_base new_base links jdt jdx jlr
  append_turns =
      let kind = shape.kind in
      let base : List ℕ = base_text (base_header shape c) in
      let long = base_length (base_header shape c) in
      let between : List ℕ = base ++ headers (link_of (more_in).slots) kind c.slots in
      let first = links_turn shape.place kind base long (layout shape c).jdt (layout shape c).jdx (layout shape c).jlr c.slots c.slots [] messages (sym (append-nil c.slots)) in
      let counts : Turns shape.place (four between (layout shape c).jdt (layout shape c).jdx (layout shape c).jlr) (four (base_text (base_header shape more_in) ++ headers (link_of (more_in).slots) kind c.slots) (layout shape c).jdt (layout shape c).jdx (layout shape c).jlr) (counts_put shape.place more_in ∷ []) =
      subst (λ (xs : List ℕ). Turns shape.place (four between (layout shape c).jdt (layout shape c).jdx (layout shape c).jlr) (four xs (layout shape c).jdt (layout shape c).jdx (layout shape c).jlr) (counts_put shape.place more_in ∷ []))
      counted
      (jhr_put shape.place 8 (u32s_text (counter ∷ live_count (more_in).slots ∷ [])) between (layout shape c).jdt (layout shape c).jdx (layout shape c).jlr (omega (arith, long, length-append base (headers (link_of (more_in).slots) kind c.slots)))) in
      turns_after shape.place (layout shape c) (four between (layout shape c).jdt (layout shape c).jdx (layout shape c).jlr) (layout shape more_in) (link_puts shape.place c.slots c.slots messages) (counts_put shape.place more_in ∷ last_puts shape (length c.slots) more_in)
      first
      (turns_then shape.place _ _ (layout shape more_in) (counts_put shape.place more_in) (last_puts shape (length c.slots) more_in) counts last_turns)
