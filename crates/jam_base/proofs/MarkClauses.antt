-- What the change of marks does, from what its base and its patches are.
use Rattle.std.proofs.Common.{◌≡◌, ℕ, suc, ◌+◌, ◌-◌, ◌*◌, ◌<◌, ◌≤◌, true, List, [], ◌∷◌, ◌++◌, length, take, drop, Result, Some, refl, sym, ap, ◌∙◌, subst, arith, length-append, length-take}
use Rattle.std.specs.Prelude.{IfOk, All, sum_by}
use Rattle.std.proofs.Math.ListN.{set, get_or}
use Rattle.std.proofs.lemmas.List.Elements.{All-cons, All-nil, All-append}
use Rattle.intent_journal.specs.Patches.{byte_count}
use Rattle.intent_journal.specs.declared.patch.Patch.{Patch}
use Rattle.jam_records.specs.BaseHeaders.{base_text}
use Rattle.jam_records.specs.declared.message.Slot.{Slot}
use Rattle.jam_threads.specs.Links.{link_of}
use Rattle.jam_threads.specs.declared.link.Link.{Link}
use Rattle.jam_writing.specs.jam_layout.Headers.{headers_text}
use Rattle.jam_writing.specs.jam_layout.Layout.{layout, base_header, entries_of, files_size}
use Rattle.jam_writing.specs.jam_layout.Sizes.{slot_header}
use Rattle.jam_writing.specs.jam_layout.declared.files.BaseFiles.{BaseFiles}
use Rattle.jam_writing.proofs.jam_layout.BaseLaws.{base_length}
use Rattle.jam_writing.proofs.PieceLaws.{headers_length}
use Rattle.jam_base.specs.Bodies.{Lengthens}
use Rattle.jam_base.specs.Change.{Turns, SuitsIntent}
use Rattle.jam_base.specs.Contents.{Contents, with_slots}
use Rattle.jam_base.specs.Puts.{counts_put}
use Rattle.jam_base.specs.declared.change.BaseChange.{BaseChange}
use Rattle.jam_base.proofs.BodyLaws.{SparesBodies, bodies_stay, counts_spares, marks_spares, received_spares}
use Rattle.jam_base.proofs.ChangeClauses.{both_ok, one_ok}
use Rattle.jam_base.proofs.HeaderPlaces.{counts_in}
use Rattle.jam_base.proofs.PutBounds.{IsPut, count_more, count_append, puts_suit}
use Rattle.jam_base.proofs.PutLaws.{four, jhr_put, turns_after}
use Rattle.std.specs.List.{slice_get}
use Rattle.std.proofs.lemmas.List.{set_split}
use Rattle.std.proofs.lemmas.Option.{slice_get-get_or, slice_get_within}
use Rattle.intent_journal.specs.door_outside.Disk.{written}
use Rattle.jam_records.specs.declared.message.Message.{Message}
use Rattle.jam_records.specs.declared.message.Slot.TheVariants.{Gone, Held}
use Rattle.jam_writing.specs.jam_layout.Conference.{is_live}
use Rattle.jam_base.specs.MarkPuts.{marks_text, marks_put, delete_puts, receive_puts}
use Rattle.jam_base.specs.Places.{header_place}
use Rattle.jam_base.specs.Slots.{has_live, numbered, slot_deleted, slots_deleted, slots_received}
use Rattle.jam_base.specs.declared.receipt.Receipt.{Receipt}
use Rattle.jam_base.proofs.HeaderPlaces.{parted, header_within}
use Rattle.jam_base.proofs.MarkTurns.{marks_among, receive_turns, receive_cost, receive_are}
use Rattle.jam_base.proofs.MarkedSlots.{deleted_files, deleted_sizes, received_files, received_sizes}
use Rattle.jam_base.proofs.SameLinks.{SameIds, links_same, set_same, deleted_same, all_received_same}
use Rattle.jam_base.proofs.SlotChanges.{live_above, live_within, numbered_is}

abbrev files_in : Contents → BaseFiles
files_in base = layout base.shape base.conference

-- the files of a base, and those with other slots of the same links and the same sizes
module _ (base : Contents) (slots : List Slot) (marks : List Patch)
    (links : link_of slots ≡ link_of base.conference.slots) (sizes : sum_by slot_header slots ≡ sum_by slot_header base.conference.slots)
    (files : record (files_in base) { jhr = (files_in (with_slots slots base)).jhr } ≡ files_in (with_slots slots base))
    (turns : Turns base.shape.place (files_in base) (record (files_in base) { jhr = base_text (base_header base.shape base.conference) ++ headers_text base.shape.kind 0 (entries_of (link_of base.conference.slots) 1 slots) }) marks) where
  pub marks_turn : Turns base.shape.place (files_in base) (files_in (with_slots slots base)) (marks ++ counts_put base.shape.place (with_slots slots base).conference ∷ [])
  marks_turn =
      let place = base.shape.place in
      let old = files_in base in
      let headers : (ℕ → Link) → List ℕ = λ some. headers_text base.shape.kind 0 (entries_of some 1 slots) in
      let jhr : List ℕ = base_text (base_header base.shape base.conference) ++ headers (link_of base.conference.slots) in
      let counts : Patch = counts_put place (with_slots slots base).conference in
      let counted : Turns place (four jhr old.jdt old.jdx old.jlr) (four (base_text (base_header base.shape (with_slots slots base).conference) ++ headers (link_of base.conference.slots)) old.jdt old.jdx old.jlr) (counts ∷ []) =
      subst (λ (xs : List ℕ). Turns place (four jhr old.jdt old.jdx old.jlr) (four xs old.jdt old.jdx old.jlr) (counts ∷ []))
      (counts_in base.shape base.conference (with_slots slots base).conference (headers (link_of base.conference.slots)))
      (jhr_put place 8 _ jhr old.jdt old.jdx old.jlr (omega (arith, base_length (base_header base.shape base.conference), length-append (base_text (base_header base.shape base.conference)) (headers (link_of base.conference.slots))))) in
      let linked : Turns place (four jhr old.jdt old.jdx old.jlr) (record old { jhr = (files_in (with_slots slots base)).jhr }) (counts ∷ []) =
      subst (λ (some : ℕ → Link). Turns place (four jhr old.jdt old.jdx old.jlr) (four (base_text (base_header base.shape (with_slots slots base).conference) ++ headers some) old.jdt old.jdx old.jlr) (counts ∷ [])) (sym links) counted in
      turns_after place old (four jhr old.jdt old.jdx old.jlr) (files_in (with_slots slots base)) marks (counts ∷ []) turns
      (subst (λ (f : BaseFiles). Turns place (four jhr old.jdt old.jdx old.jlr) f (counts ∷ [])) files linked)

  new_long : 1024 + sum_by slot_header base.conference.slots ≤ files_size (files_in (with_slots slots base))
  new_long = omega (
    arith,
    sizes,
    base_length (base_header base.shape (with_slots slots base).conference),
    headers_length (link_of slots) base.shape.kind 0 1 slots,
    length-append (base_text (base_header base.shape (with_slots slots base).conference)) (headers_text base.shape.kind 0 (entries_of (link_of slots) 1 slots)),
  )

  pub marks_suit : ((size : ℕ) → 1024 + sum_by slot_header base.conference.slots ≤ size → All (IsPut base.shape.place size) marks) → 11 * length marks + byte_count marks ≤ sum_by slot_header base.conference.slots
      → SuitsIntent base.shape.place (files_in (with_slots slots base)) (marks ++ counts_put base.shape.place (with_slots slots base).conference ∷ [])
  marks_suit are few =
      let size : ℕ = files_size (files_in (with_slots slots base)) in
      let counts : Patch = counts_put base.shape.place (with_slots slots base).conference in
      let long : 1024 + sum_by slot_header base.conference.slots ≤ size = new_long in
      let counts_is : IsPut base.shape.place size counts = record { here = (omega arith, omega arith); part = refl; ends = omega (arith, long) } in
      puts_suit base.shape.place (files_in (with_slots slots base)) (marks ++ counts ∷ [])
      (All-append (IsPut base.shape.place size) marks (counts ∷ []) (are size long) (All-cons (IsPut base.shape.place size) counts [] counts_is (All-nil (IsPut base.shape.place size))))
      (omega (arith, few, long, length-append marks (counts ∷ []), count_append marks (counts ∷ []), count_more counts []))

-- so the bodies stay
pub marks_lengthen : (base : Contents) (slots : List Slot) (marks : List Patch) → record (files_in base) { jhr = (files_in (with_slots slots base)).jhr } ≡ files_in (with_slots slots base) → All (SparesBodies base.shape.place) marks
    → Lengthens base.shape.place (files_in base) (files_in (with_slots slots base)) (marks ++ counts_put base.shape.place (with_slots slots base).conference ∷ [])
marks_lengthen base slots marks files apart =
    let place : ℕ = base.shape.place in
    let counts : Patch = counts_put place (with_slots slots base).conference in
    bodies_stay place (files_in base) (files_in (with_slots slots base)) (marks ++ counts ∷ []) (ap (λ (f : BaseFiles). f.jdt) files)
    (All-append (SparesBodies place) marks (counts ∷ []) apart (All-cons (SparesBodies place) counts [] (counts_spares place (with_slots slots base).conference) (All-nil (SparesBodies place))))

-- ---- as a function answers
module _ {E : Type 0} (base : Contents) (slots : List Slot) (marks : List Patch) (made : Contents) (r : Result BaseChange E) (is : made ≡ with_slots slots base)
    (base_is : IfOk r (λ change. change.base ≡ made)) (patches_are : IfOk r (λ change. change.patches ≡ marks ++ counts_put made.shape.place made.conference ∷ [])) where
  pub marked_clause : (Q : BaseFiles → List Patch → Type 0) → Q (files_in (with_slots slots base)) (marks ++ counts_put base.shape.place (with_slots slots base).conference ∷ []) → IfOk r (λ change. Q (files_in change.base) change.patches)
  marked_clause Q holds = both_ok (λ (change : BaseChange). change.base ≡ made) (λ (change : BaseChange). change.patches ≡ marks ++ counts_put made.shape.place made.conference ∷ []) (λ (change : BaseChange). Q (files_in change.base) change.patches) r
      (λ change b p. subst (λ (ps : List Patch). Q (files_in change.base) ps) (sym (p ∙ ap (λ (k : Contents). marks ++ counts_put k.shape.place k.conference ∷ []) is))
      (subst (λ (k : Contents). Q (files_in k) (marks ++ counts_put base.shape.place (with_slots slots base).conference ∷ [])) (sym (b ∙ is)) holds)) base_is patches_are

-- ---- messages received
module _ {E : Type 0} (base : Contents) (name : List ℕ) (r : Receipt) (slots : List Slot) (marks : List Patch) (made : Contents) (res : Result BaseChange E)
    (slots_are : slots ≡ slots_received name r 1 base.conference.slots) (marks_are : marks ≡ receive_puts base.shape.kind base.shape.place name r 1024 1 base.conference.slots) (is : made ≡ with_slots slots base)
    (base_is : IfOk res (λ change. change.base ≡ made)) (patches_are : IfOk res (λ change. change.patches ≡ marks ++ counts_put made.shape.place made.conference ∷ [])) where
  abbrev old_slots : List Slot
  old_slots = base.conference.slots

  abbrev new_slots : List Slot
  new_slots = slots_received name r 1 base.conference.slots

  abbrev puts : List Patch
  puts = receive_puts base.shape.kind base.shape.place name r 1024 1 base.conference.slots

  abbrev first_text : List ℕ
  first_text = base_text (base_header base.shape base.conference)

  same : link_of new_slots ≡ link_of old_slots
  same = links_same old_slots new_slots (all_received_same name r 1 old_slots)

  sizes_same : sum_by slot_header new_slots ≡ sum_by slot_header old_slots
  sizes_same = received_sizes old_slots name r 1

  files_same : record (files_in base) { jhr = (files_in (with_slots new_slots base)).jhr } ≡ files_in (with_slots new_slots base)
  files_same = received_files base new_slots name r refl

  turned : Turns base.shape.place (files_in base) (record (files_in base) { jhr = first_text ++ headers_text base.shape.kind 0 (entries_of (link_of old_slots) 1 new_slots) }) puts
  turned = receive_turns base.shape.place base.shape.kind name r (link_of old_slots) (files_in base).jdt (files_in base).jdx (files_in base).jlr first_text 1024 0 1 old_slots (sym (base_length (base_header base.shape base.conference)))

  clause : (Q : BaseFiles → List Patch → Type 0) → Q (files_in (with_slots new_slots base)) (puts ++ counts_put base.shape.place (with_slots new_slots base).conference ∷ []) → IfOk res (λ change. Q (files_in change.base) change.patches)
  clause = marked_clause base new_slots puts made res (is ∙ ap (λ (xs : List Slot). with_slots xs base) slots_are) base_is
      (one_ok (λ (change : BaseChange). change.patches ≡ marks ++ counts_put made.shape.place made.conference ∷ []) (λ (change : BaseChange). change.patches ≡ puts ++ counts_put made.shape.place made.conference ∷ []) res
      (λ change p. p ∙ ap (λ (ps : List Patch). ps ++ counts_put made.shape.place made.conference ∷ []) marks_are) patches_are)

  pub received_turns : IfOk res (λ change. Turns base.shape.place (files_in base) (files_in change.base) change.patches)
  received_turns = clause (λ f ps. Turns base.shape.place (files_in base) f ps) (marks_turn base new_slots puts same sizes_same files_same turned)

  pub received_suits : IfOk res (λ change. SuitsIntent base.shape.place (files_in change.base) change.patches)
  received_suits = clause (λ f ps. SuitsIntent base.shape.place f ps) (marks_suit base new_slots puts same sizes_same files_same turned
      (λ size room. receive_are base.shape.place base.shape.kind name r (link_of old_slots) (files_in base).jdt (files_in base).jdx (files_in base).jlr size 1024 1 old_slots room)
      (receive_cost base.shape.place base.shape.kind name r (link_of old_slots) (files_in base).jdt (files_in base).jdx (files_in base).jlr 1024 1 old_slots))

  pub received_lengthens : IfOk res (λ change. Lengthens base.shape.place (files_in base) (files_in change.base) change.patches)
  received_lengthens = clause (λ f ps. Lengthens base.shape.place (files_in base) f ps)
      (marks_lengthen base new_slots puts files_same (received_spares base.shape.kind base.shape.place name r 1024 1 old_slots))

-- ---- a message deleted
live_message : (s : Slot) → is_live s ≡ true → (m : Message) × (s ≡ Held m)
live_message Gone live = absurd (cc)
live_message (Held m) live = (m, refl)

delete_turns : (base : Contents) (number : ℕ) (m : Message) → 0 < number → slice_get base.conference.slots (number - 1) ≡ Some (Held m)
    → Turns base.shape.place (files_in base) (record (files_in base) { jhr = base_text (base_header base.shape base.conference) ++ headers_text base.shape.kind 0 (entries_of (link_of base.conference.slots) 1 (set base.conference.slots (number - 1) (Held (record m { deleted = true })))) })
    (marks_put base.shape.kind base.shape.place (header_place base.conference.slots number) number (record m { deleted = true }) ∷ [])
delete_turns base number m some held =
    let slots : List Slot = base.conference.slots in
    let old = files_in base in
    let within : number - 1 < length slots = slice_get_within slots (number - 1) (Held m) held in
    let before : List Slot = take (number - 1) slots in
    let behind : List Slot = drop (suc (number - 1)) slots in
    let links : ℕ → Link = link_of slots in
    let text : List ℕ = base_text (base_header base.shape base.conference) in
    let long = base_length (base_header base.shape base.conference) in
    let put : Patch = marks_put base.shape.kind base.shape.place (header_place slots number) number (record m { deleted = true }) in
    let parts : slots ≡ before ++ Held m ∷ behind = parted slots (number - 1) (Held m) held in
    let split : set slots (number - 1) (Held (record m { deleted = true })) ≡ before ++ Held (record m { deleted = true }) ∷ behind = set_split slots (number - 1) (Held (record m { deleted = true })) within in
    let counted : 1 + length before ≡ number = omega (arith, some, within, length-take (number - 1) slots) in
    let written_is : written (text ++ headers_text base.shape.kind 0 (entries_of links 1 slots)) (header_place slots number + 40) (marks_text base.shape.kind number (record m { deleted = true }))
    ≡ text ++ headers_text base.shape.kind 0 (entries_of links 1 (set slots (number - 1) (Held (record m { deleted = true })))) =
    (λ i. written (text ++ headers_text base.shape.kind 0 (entries_of links 1 (parts i))) (header_place slots number + 40) (marks_text base.shape.kind (sym counted i) (record m { deleted = true })))
    ∙ (marks_among links base.shape.kind text before behind m m.received m.seen true long
    ∙ ap (λ (xs : List Slot). text ++ headers_text base.shape.kind 0 (entries_of links 1 xs)) (sym split)) in
    subst (λ (xs : List ℕ). Turns base.shape.place old (four xs old.jdt old.jdx old.jlr) (put ∷ [])) written_is
    (jhr_put base.shape.place (header_place slots number + 40) (marks_text base.shape.kind number (record m { deleted = true })) old.jhr old.jdt old.jdx old.jlr (omega (arith, header_within base.shape.kind slots number m some held links text long)))

module _ {E : Type 0} (base : Contents) (number : ℕ) (slots : List Slot) (marks : List Patch) (made : Contents) (res : Result BaseChange E)
    (live : has_live number base.conference.slots ≡ true)
    (slots_are : slots ≡ slots_deleted number base.conference.slots) (marks_are : marks ≡ delete_puts base.shape.kind base.shape.place base.conference.slots number (numbered base.conference.slots number)) (is : made ≡ with_slots slots base)
    (base_is : IfOk res (λ change. change.base ≡ made)) (patches_are : IfOk res (λ change. change.patches ≡ marks ++ counts_put made.shape.place made.conference ∷ [])) where
  found : (m : Message) × (numbered base.conference.slots number ≡ Held m)
  found = live_message (numbered base.conference.slots number) live

  above : 0 < number
  above = live_above number base.conference.slots live

  within : number ≤ length base.conference.slots
  within = live_within number base.conference.slots live

  clause_of : (m : Message) → numbered base.conference.slots number ≡ Held m → (Q : BaseFiles → List Patch → Type 0)
      → (let puts : List Patch = marks_put base.shape.kind base.shape.place (header_place base.conference.slots number) number (record m { deleted = true }) ∷ [] in
      let new : List Slot = set base.conference.slots (number - 1) (Held (record m { deleted = true })) in Q (files_in (with_slots new base)) (puts ++ counts_put base.shape.place (with_slots new base).conference ∷ []))
      → IfOk res (λ change. Q (files_in change.base) change.patches)
  clause_of m e Q =
      let puts : List Patch = marks_put base.shape.kind base.shape.place (header_place base.conference.slots number) number (record m { deleted = true }) ∷ [] in
      let new : List Slot = set base.conference.slots (number - 1) (Held (record m { deleted = true })) in
      let all : slots ≡ new = slots_are ∙ ap (λ (s : Slot). set base.conference.slots (number - 1) (slot_deleted s)) e in
      let text : marks ≡ puts = marks_are ∙ ap (delete_puts base.shape.kind base.shape.place base.conference.slots number) e in
      marked_clause base new puts made res (is ∙ ap (λ (xs : List Slot). with_slots xs base) all) base_is
      (one_ok (λ (change : BaseChange). change.patches ≡ marks ++ counts_put made.shape.place made.conference ∷ []) (λ (change : BaseChange). change.patches ≡ puts ++ counts_put made.shape.place made.conference ∷ []) res
      (λ change p. p ∙ ap (λ (ps : List Patch). ps ++ counts_put made.shape.place made.conference ∷ []) text) patches_are) Q

  record Facts (m : Message) : Type 0 where
    held : slice_get base.conference.slots (number - 1) ≡ Some (Held m)
    links : link_of (set base.conference.slots (number - 1) (Held (record m { deleted = true }))) ≡ link_of base.conference.slots
    sizes : sum_by slot_header (set base.conference.slots (number - 1) (Held (record m { deleted = true }))) ≡ sum_by slot_header base.conference.slots
    files : record (files_in base) { jhr = (files_in (with_slots (set base.conference.slots (number - 1) (Held (record m { deleted = true }))) base)).jhr } ≡ files_in (with_slots (set base.conference.slots (number - 1) (Held (record m { deleted = true }))) base)

  facts : (m : Message) → numbered base.conference.slots number ≡ Held m → Facts m
  facts m e =
      let old : List Slot = base.conference.slots in
      let place_in : number - 1 < length old = omega (arith, above, within) in
      let got : get_or old (number - 1) Gone ≡ Held m = sym (numbered_is old number above) ∙ e in
      record {
        held = slice_get-get_or old (number - 1) Gone place_in ∙ ap (λ (s : Slot). Some s) got;
        links = links_same old (set old (number - 1) (Held (record m { deleted = true }))) (set_same old (number - 1) Gone (Held (record m { deleted = true })) place_in (subst (λ (s : Slot). SameIds s (Held (record m { deleted = true }))) (sym got) (deleted_same (Held m))));
        sizes = ap (λ (s : Slot). sum_by slot_header (set old (number - 1) (slot_deleted s))) (sym got) ∙ deleted_sizes old (number - 1) place_in;
        files = deleted_files base (set old (number - 1) (Held (record m { deleted = true }))) number (ap (λ (s : Slot). set old (number - 1) (slot_deleted s)) (sym e)) above within;
      }

  pub killed_turns : IfOk res (λ change. Turns base.shape.place (files_in base) (files_in change.base) change.patches)
  killed_turns =
      let m = found.0 in
      let f = facts m found.1 in
      let puts : List Patch = marks_put base.shape.kind base.shape.place (header_place base.conference.slots number) number (record m { deleted = true }) ∷ [] in
      clause_of m found.1 (λ g ps. Turns base.shape.place (files_in base) g ps)
      (marks_turn base (set base.conference.slots (number - 1) (Held (record m { deleted = true }))) puts f.links f.sizes f.files (delete_turns base number m above f.held))

  pub killed_suits : IfOk res (λ change. SuitsIntent base.shape.place (files_in change.base) change.patches)
  killed_suits =
      let m = found.0 in
      let f = facts m found.1 in
      let put : Patch = marks_put base.shape.kind base.shape.place (header_place base.conference.slots number) number (record m { deleted = true }) in
      let long = base_length (base_header base.shape base.conference) in
      let inside = header_within base.shape.kind base.conference.slots number m above f.held (link_of base.conference.slots) (base_text (base_header base.shape base.conference)) long in
      let whole = length-append (base_text (base_header base.shape base.conference)) (headers_text base.shape.kind 0 (entries_of (link_of base.conference.slots) 1 base.conference.slots)) in
      let sum = headers_length (link_of base.conference.slots) base.shape.kind 0 1 base.conference.slots in
      clause_of m found.1 (λ g ps. SuitsIntent base.shape.place g ps)
      (marks_suit base (set base.conference.slots (number - 1) (Held (record m { deleted = true }))) (put ∷ []) f.links f.sizes f.files (delete_turns base number m above f.held)
      (λ size room. All-cons (IsPut base.shape.place size) put [] (record { here = (omega arith, omega arith); part = refl; ends = omega (arith, room, inside, whole, sum, long) }) (All-nil (IsPut base.shape.place size)))
      (omega (arith, count_more put [], inside, whole, sum, long)))

  pub killed_costs : IfOk res (λ change. (length change.patches ≤ 2) × (byte_count change.patches ≤ 24))
  killed_costs =
      let m = found.0 in
      let put : Patch = marks_put base.shape.kind base.shape.place (header_place base.conference.slots number) number (record m { deleted = true }) in
      let counts : Patch = counts_put base.shape.place (with_slots (set base.conference.slots (number - 1) (Held (record m { deleted = true }))) base).conference in
      clause_of m found.1 (λ g ps. (length ps ≤ 2) × (byte_count ps ≤ 24)) (omega arith, omega (arith, count_more put (counts ∷ []), count_more counts []))

  pub killed_lengthens : IfOk res (λ change. Lengthens base.shape.place (files_in base) (files_in change.base) change.patches)
  killed_lengthens =
      let m = found.0 in
      let f = facts m found.1 in
      let place : ℕ = base.shape.place in
      let put : Patch = marks_put base.shape.kind place (header_place base.conference.slots number) number (record m { deleted = true }) in
      clause_of m found.1 (λ g ps. Lengthens place (files_in base) g ps)
      (marks_lengthen base (set base.conference.slots (number - 1) (Held (record m { deleted = true }))) (put ∷ []) f.files
      (All-cons (SparesBodies place) put [] (marks_spares base.shape.kind place (header_place base.conference.slots number) number (record m { deleted = true })) (All-nil (SparesBodies place))))
