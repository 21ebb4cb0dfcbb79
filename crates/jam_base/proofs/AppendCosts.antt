-- What the puts of messages more cost.
use Rattle.std.proofs.Common.{◌≡◌, inl, inr, ℕ, suc, ◌+◌, ◌-◌, ◌*◌, ◌≤◌, List, [], ◌∷◌, ◌++◌, length, take, drop, Option, Some, None, refl, sym, ap, ◌∙◌, subst, arith, append_assoc, append-nil, length-append}
use Rattle.std.specs.Prelude.{All, IfSome, sum_by, nat_le}
use Rattle.std.specs.List.{slice_get, flat_map}
use Rattle.std.proofs.Math.Seq.{take-append_seam, drop-append_seam}
use Rattle.std.proofs.lemmas.Bool.{cases_Bool, leb-true, cond-true, cond-false}
use Rattle.std.proofs.lemmas.List.Elements.{All-cons, All-nil, All-append}
use Rattle.std.proofs.lemmas.List.Sums.{sum_by-cons, sum_by-append}
use Rattle.jam_records.specs.record_numbers.Numbers.{u32_text}
use Rattle.intent_journal.specs.Patches.{byte_count}
use Rattle.intent_journal.specs.declared.patch.Patch.{Patch}
use Rattle.intent_journal.specs.declared.patch.Patch.TheVariants.{Put}
use Rattle.intent_journal.specs.door_outside.File.{jhr_file, jdt_file, jdx_file}
use Rattle.jam_records.specs.BaseHeaders.{base_text}
use Rattle.jam_records.specs.declared.message.Message.{Message}
use Rattle.jam_records.specs.declared.message.Slot.{Slot}
use Rattle.jam_records.specs.declared.message.Slot.TheVariants.{Held}
use Rattle.jam_threads.specs.LinkChanges.{link_change, IsOlder}
use Rattle.jam_threads.specs.Links.{link_of}
use Rattle.jam_threads.specs.declared.link.Link.{Link}
use Rattle.jam_threads.specs.declared.link.LinkPatch.{LinkPatch}
use Rattle.jam_threads.proofs.ChangeLemmas.{is_change}
use Rattle.jam_threads.proofs.ChildrenLemmas.{slice_get_front}
use Rattle.jam_writing.specs.jam_layout.Headers.{headers_text, header_size}
use Rattle.jam_writing.specs.jam_layout.Index.{index_records}
use Rattle.jam_writing.specs.jam_layout.Layout.{layout, base_header, entries_of, files_size}
use Rattle.jam_writing.specs.jam_layout.Sizes.{slot_header}
use Rattle.jam_writing.specs.jam_layout.declared.conference.ConferenceContents.{ConferenceContents}
use Rattle.jam_writing.specs.jam_layout.declared.shape.Shape.{Shape}
use Rattle.jam_writing.proofs.jam_layout.BaseLaws.{base_length}
use Rattle.jam_writing.proofs.jam_layout.SlotLaws.{index_length}
use Rattle.jam_writing.specs.Pieces.{body_piece, body_size}
use Rattle.jam_writing.proofs.PieceLaws.{bodies_are, bodies_length, headers_length}
use Rattle.jam_base.specs.Change.{SuitsIntent}
use Rattle.jam_base.specs.Places.{header_place, field_place}
use Rattle.jam_base.specs.Puts.{counts_put, link_put, link_puts, last_puts, append_puts, Costs}
use Rattle.jam_base.proofs.AppendPuts.{helds, more_in, parts}
use Rattle.jam_base.proofs.HeaderPlaces.{field_within, header_within}
use Rattle.jam_base.proofs.PutBounds.{IsPut, count_more, count_append, puts_suit}

-- ---- the links
link_few : (place : ℕ) (old : List Slot) (change : Option LinkPatch) → length (link_put place old change) ≤ 1
link_few place old None = omega arith
link_few place old (Some patch) = elim (cases_Bool (nat_le patch.number (length old))) [
  | inl among ↦ omega (arith, ap length (cond-true (nat_le patch.number (length old)) (Put (jhr_file place) (header_place old patch.number + field_place patch.field) (u32_text patch.value) ∷ []) [] among))
  | inr behind ↦ omega (arith, ap length (cond-false (nat_le patch.number (length old)) (Put (jhr_file place) (header_place old patch.number + field_place patch.field) (u32_text patch.value) ∷ []) [] behind))
]

link_bytes : (place : ℕ) (old : List Slot) (change : Option LinkPatch) → byte_count (link_put place old change) ≤ 4
link_bytes place old None = omega arith
link_bytes place old (Some patch) =
    let put : Patch = Put (jhr_file place) (header_place old patch.number + field_place patch.field) (u32_text patch.value) in
    elim (cases_Bool (nat_le patch.number (length old))) [
      | inl among ↦ omega (arith, ap byte_count (cond-true (nat_le patch.number (length old)) (put ∷ []) [] among), count_more put [])
      | inr behind ↦ omega (arith, ap byte_count (cond-false (nat_le patch.number (length old)) (put ∷ []) [] behind))
    ]

links_few : (place : ℕ) (old slots : List Slot) (messages : List Message) → length (link_puts place old slots messages) ≤ length messages
links_few place old slots [] = omega arith
links_few place old slots (m ∷ messages) =
    omega (arith, length-append (link_put place old (link_change slots m.replyid)) (link_puts place old (slots ++ Held m ∷ []) messages), link_few place old (link_change slots m.replyid), links_few place old (slots ++ Held m ∷ []) messages)

links_bytes : (place : ℕ) (old slots : List Slot) (messages : List Message) → byte_count (link_puts place old slots messages) ≤ 4 * length messages
links_bytes place old slots [] = omega arith
links_bytes place old slots (m ∷ messages) =
    omega (arith, count_append (link_put place old (link_change slots m.replyid)) (link_puts place old (slots ++ Held m ∷ []) messages), link_bytes place old (link_change slots m.replyid), links_bytes place old (slots ++ Held m ∷ []) messages)

-- each is within the headers of the old slots
module _ (shape : Shape) (links : ℕ → Link) (base : List ℕ) (long : length base ≡ 1024) (size : ℕ) (old : List Slot) (room : 1024 + sum_by slot_header old ≤ size) where
  link_is : (slots more : List Slot) (change : Option LinkPatch) → slots ≡ old ++ more → IfSome change (IsOlder slots) → All (IsPut shape.place size) (link_put shape.place old change)
  link_is slots more None is older = All-nil (IsPut shape.place size)
  link_is slots more (Some patch) is older =
      let put : Patch = Put (jhr_file shape.place) (header_place old patch.number + field_place patch.field) (u32_text patch.value) in
      elim (cases_Bool (nat_le patch.number (length old))) [
        | inl among ↦
            let within : patch.number ≤ length old = leb-true patch.number (length old) among in
            let held : slice_get old (patch.number - 1) ≡ Some (Held older.message) =
            sym (slice_get_front old more (patch.number - 1) (omega (arith, within, older.some))) ∙ (ap (λ (xs : List Slot). slice_get xs (patch.number - 1)) (sym is) ∙ older.held) in
            let inside = header_within shape.kind old patch.number older.message older.some held links base long in
            let is_put : IsPut shape.place size put = record {
              here = (omega arith, omega arith);
              part = refl;
              ends = omega (arith, inside, field_within patch.field 76 (omega arith), room, long, length-append base (headers_text shape.kind 0 (entries_of links 1 old)), headers_length links shape.kind 0 1 old);
            } in
            subst (λ (ps : List Patch). All (IsPut shape.place size) ps) (sym (cond-true (nat_le patch.number (length old)) (put ∷ []) [] among)) (All-cons (IsPut shape.place size) put [] is_put (All-nil (IsPut shape.place size)))
        | inr behind ↦ subst (λ (ps : List Patch). All (IsPut shape.place size) ps) (sym (cond-false (nat_le patch.number (length old)) (put ∷ []) [] behind)) (All-nil (IsPut shape.place size))
      ]

  links_are : (slots more : List Slot) (messages : List Message) → slots ≡ old ++ more → All (IsPut shape.place size) (link_puts shape.place old slots messages)
  links_are slots more [] is = All-nil (IsPut shape.place size)
  links_are slots more (m ∷ messages) is =
      All-append (IsPut shape.place size) (link_put shape.place old (link_change slots m.replyid)) (link_puts shape.place old (slots ++ Held m ∷ []) messages)
      (link_is slots more (link_change slots m.replyid) is (is_change slots m).older)
      (links_are (slots ++ Held m ∷ []) (more ++ Held m ∷ []) messages (ap (λ (xs : List Slot). xs ++ Held m ∷ []) is ∙ append_assoc old more (Held m ∷ [])))

-- ---- sizes
pub size_is : (shape : Shape) (c : ConferenceContents) → files_size (layout shape c) ≡ (1024 + sum_by slot_header c.slots) + (sum_by body_size c.slots + (8 * length c.slots + length (layout shape c).jlr))
size_is shape c =
    omega (
      arith,
      length-append (base_text (base_header shape c)) (headers_text shape.kind 0 (entries_of (link_of c.slots) 1 c.slots)),
      base_length (base_header shape c),
      headers_length (link_of c.slots) shape.kind 0 1 c.slots,
      ap length (bodies_are (link_of c.slots) 1 c.slots),
      bodies_length c.slots,
      index_length 1024 c.slots,
    )

helds_long : (messages : List Message) → length (helds messages) ≡ length messages
helds_long [] = refl
helds_long (m ∷ messages) = ap suc (helds_long messages)

header_big : (m : Message) → 76 ≤ header_size m
unfolding header_size
header_big m = omega arith

headers_big : (messages : List Message) → 76 * length messages ≤ sum_by slot_header (helds messages)
headers_big [] = omega arith
headers_big (m ∷ messages) = omega (arith, headers_big messages, header_big m, sum_by-cons slot_header (Held m) (helds messages))

-- ---- all puts
module _ (shape : Shape) (c : ConferenceContents) (counter : ℕ) (messages : List Message) where
  head : List Slot
  head = take (length c.slots) (more_in shape c counter messages).slots

  tail : List Slot
  tail = drop (length c.slots) (more_in shape c counter messages).slots

  head_is : head ≡ c.slots
  unfolding head
  head_is = ap (take (length c.slots)) (parts shape c counter messages) ∙ take-append_seam c.slots (helds messages)

  tail_is : tail ≡ helds messages
  unfolding tail
  tail_is = ap (drop (length c.slots)) (parts shape c counter messages) ∙ drop-append_seam c.slots (helds messages)

  record Sizes : Type 0 where
    headers : sum_by slot_header (more_in shape c counter messages).slots ≡ sum_by slot_header c.slots + sum_by slot_header (helds messages)
    bodies : sum_by body_size (more_in shape c counter messages).slots ≡ sum_by body_size c.slots + sum_by body_size (helds messages)
    count : length (more_in shape c counter messages).slots ≡ length c.slots + length messages

  sizes : Sizes
  sizes = record {
    headers = ap (sum_by slot_header) (parts shape c counter messages) ∙ sum_by-append slot_header c.slots (helds messages);
    bodies = ap (sum_by body_size) (parts shape c counter messages) ∙ sum_by-append body_size c.slots (helds messages);
    count = ap length (parts shape c counter messages) ∙ (length-append c.slots (helds messages) ∙ ap (λ n. length c.slots + n) (helds_long messages));
  }

  record HeadSums : Type 0 where
    headers : sum_by slot_header (take (length c.slots) (more_in shape c counter messages).slots) ≡ sum_by slot_header c.slots
    bodies : sum_by body_size (take (length c.slots) (more_in shape c counter messages).slots) ≡ sum_by body_size c.slots

  head_sums : HeadSums
  unfolding head
  head_sums = record { headers = ap (sum_by slot_header) head_is; bodies = ap (sum_by body_size) head_is }

  last_bytes : byte_count (last_puts shape (length c.slots) (more_in shape c counter messages)) ≡ sum_by slot_header (helds messages) + (sum_by body_size (helds messages) + 8 * length messages)
  unfolding tail
  last_bytes =
      let at : ℕ = 1024 + sum_by slot_header (take (length c.slots) (more_in shape c counter messages).slots) in
      let body : ℕ = sum_by body_size (take (length c.slots) (more_in shape c counter messages).slots) in
      let first : List ℕ = headers_text shape.kind body (entries_of (link_of (more_in shape c counter messages).slots) (length c.slots + 1) tail) in
      let second : List ℕ = flat_map body_piece tail in
      let third : List ℕ = index_records at tail in
      omega (
        arith,
        count_more (Put (jhr_file shape.place) at first) (Put (jdt_file shape.place) body second ∷ Put (jdx_file shape.place) (8 * length c.slots) third ∷ []),
        count_more (Put (jdt_file shape.place) body second) (Put (jdx_file shape.place) (8 * length c.slots) third ∷ []),
        count_more (Put (jdx_file shape.place) (8 * length c.slots) third) [],
        headers_length (link_of (more_in shape c counter messages).slots) shape.kind body (length c.slots + 1) tail,
        bodies_length tail,
        index_length at tail,
        ap (sum_by slot_header) tail_is,
        ap (sum_by body_size) tail_is,
        ap length tail_is,
        helds_long messages,
      )

  rest_bytes : byte_count (counts_put shape.place (more_in shape c counter messages) ∷ last_puts shape (length c.slots) (more_in shape c counter messages)) ≡ 8 + (sum_by slot_header (helds messages) + (sum_by body_size (helds messages) + 8 * length messages))
  rest_bytes = omega (arith, count_more (counts_put shape.place (more_in shape c counter messages)) (last_puts shape (length c.slots) (more_in shape c counter messages)), last_bytes)

  all_bytes : byte_count (append_puts shape c.slots messages (more_in shape c counter messages)) ≡ byte_count (link_puts shape.place c.slots c.slots messages) + (8 + (sum_by slot_header (helds messages) + (sum_by body_size (helds messages) + 8 * length messages)))
  all_bytes = omega (arith, count_append (link_puts shape.place c.slots c.slots messages) (counts_put shape.place (more_in shape c counter messages) ∷ last_puts shape (length c.slots) (more_in shape c counter messages)), rest_bytes)

  all_count : length (append_puts shape c.slots messages (more_in shape c counter messages)) ≡ length (link_puts shape.place c.slots c.slots messages) + 4
  all_count = length-append (link_puts shape.place c.slots c.slots messages) (counts_put shape.place (more_in shape c counter messages) ∷ last_puts shape (length c.slots) (more_in shape c counter messages))

  pub append_costs : Costs (length messages) (layout shape c) (layout shape (more_in shape c counter messages)) (append_puts shape c.slots messages (more_in shape c counter messages))
  append_costs = record {
    few = omega (arith, all_count, links_few shape.place c.slots c.slots messages);
    short = omega (arith, all_bytes, links_bytes shape.place c.slots c.slots messages, size_is shape c, size_is shape (more_in shape c counter messages), sizes.headers, sizes.bodies, sizes.count);
  }

  pub append_suits : SuitsIntent shape.place (layout shape (more_in shape c counter messages)) (append_puts shape c.slots messages (more_in shape c counter messages))
  unfolding tail
  append_suits =
      let new_size : ℕ = files_size (layout shape (more_in shape c counter messages)) in
      let P : Patch → Type 0 = IsPut shape.place new_size in
      let at : ℕ = 1024 + sum_by slot_header (take (length c.slots) (more_in shape c counter messages).slots) in
      let body : ℕ = sum_by body_size (take (length c.slots) (more_in shape c counter messages).slots) in
      let first : List ℕ = headers_text shape.kind body (entries_of (link_of (more_in shape c counter messages).slots) (length c.slots + 1) tail) in
      let second : List ℕ = flat_map body_piece tail in
      let third : List ℕ = index_records at tail in
      let counts : Patch = counts_put shape.place (more_in shape c counter messages) in
      let whole = size_is shape (more_in shape c counter messages) in
      let counts_is : P counts = record { here = (omega arith, omega arith); part = refl; ends = omega (arith, whole) } in
      let first_is : P (Put (jhr_file shape.place) at first) = record { here = (omega arith, omega arith); part = refl; ends = omega (arith, whole, head_sums.headers, sizes.headers, headers_length (link_of (more_in shape c counter messages).slots) shape.kind body (length c.slots + 1) tail, ap (sum_by slot_header) tail_is) } in
      let second_is : P (Put (jdt_file shape.place) body second) = record { here = (omega arith, omega arith); part = refl; ends = omega (arith, whole, head_sums.bodies, sizes.bodies, bodies_length tail, ap (sum_by body_size) tail_is) } in
      let third_is : P (Put (jdx_file shape.place) (8 * length c.slots) third) = record { here = (omega arith, omega arith); part = refl; ends = omega (arith, whole, sizes.count, index_length at tail, ap length tail_is, helds_long messages) } in
      let last : All P (last_puts shape (length c.slots) (more_in shape c counter messages)) =
      All-cons P (Put (jhr_file shape.place) at first) (Put (jdt_file shape.place) body second ∷ Put (jdx_file shape.place) (8 * length c.slots) third ∷ []) first_is
      (All-cons P (Put (jdt_file shape.place) body second) (Put (jdx_file shape.place) (8 * length c.slots) third ∷ []) second_is (All-cons P (Put (jdx_file shape.place) (8 * length c.slots) third) [] third_is (All-nil P))) in
      let all : All P (append_puts shape c.slots messages (more_in shape c counter messages)) =
      All-append P (link_puts shape.place c.slots c.slots messages) (counts ∷ last_puts shape (length c.slots) (more_in shape c counter messages))
      (links_are shape (link_of c.slots) (base_text (base_header shape c)) (base_length (base_header shape c)) new_size c.slots (omega (arith, whole, sizes.headers)) c.slots [] messages (sym (append-nil c.slots)))
      (All-cons P counts (last_puts shape (length c.slots) (more_in shape c counter messages)) counts_is last) in
      puts_suit shape.place (layout shape (more_in shape c counter messages)) (append_puts shape c.slots messages (more_in shape c counter messages)) all
      (omega (arith, all_count, all_bytes, whole, sizes.headers, sizes.bodies, sizes.count, links_few shape.place c.slots c.slots messages, links_bytes shape.place c.slots c.slots messages, headers_big messages))
