-- The patches of a change leave the bodies in .JDT, and put new ones behind them.
use Rattle.std.proofs.Common.{◌≡◌, ◌≢◌, Bool, true, false, cond, ℕ, ◌+◌, ◌==◌, List, [], ◌∷◌, ◌++◌, length, take, drop, Option, Some, None, refl, sym, ap, ◌∙◌, subst, arith, append_assoc, append-nil}
use Rattle.std.specs.Prelude.{All, sum_by, nat_le, nat_lt}
use Rattle.std.specs.List.{flat_map}
use Rattle.std.proofs.Math.Seq.{take-append_seam, drop-append_seam}
use Rattle.std.proofs.lemmas.Bool.{cond-true, cond-false, eq-eqb, ne_eqb}
use Rattle.std.proofs.lemmas.Grind.{flat_map-append}
use Rattle.std.proofs.lemmas.List.{drop_all}
use Rattle.std.proofs.lemmas.List.Elements.{All-append, All-cons, All-head, All-nil, All-tail}
use Rattle.intent_journal.specs.door_outside.Disk.{written}
use Rattle.intent_journal.specs.door_outside.File.{jhr_file, jdt_file, jlr_file}
use Rattle.jam_records.specs.record_numbers.Numbers.{u32_text, u32s_text}
use Rattle.intent_journal.specs.Patches.{HostFiles, apply, file_of, patched}
use Rattle.intent_journal.specs.declared.patch.Patch.{Patch}
use Rattle.intent_journal.specs.declared.patch.Patch.TheVariants.{Put, Whole}
use Rattle.jam_records.specs.declared.message.Kind.{Kind}
use Rattle.jam_records.specs.declared.message.Message.{Message}
use Rattle.jam_records.specs.declared.message.Slot.{Slot}
use Rattle.jam_records.specs.declared.message.Slot.TheVariants.{Gone, Held}
use Rattle.jam_threads.specs.LinkChanges.{link_change}
use Rattle.jam_threads.specs.Links.{link_of}
use Rattle.jam_threads.specs.declared.link.LinkPatch.{LinkPatch}
use Rattle.jam_writing.specs.jam_layout.Layout.{layout}
use Rattle.jam_writing.specs.jam_layout.Sizes.{slot_header}
use Rattle.jam_writing.specs.jam_layout.declared.conference.ConferenceContents.{ConferenceContents}
use Rattle.jam_writing.specs.jam_layout.declared.files.BaseFiles.{BaseFiles}
use Rattle.jam_writing.specs.jam_layout.declared.shape.Shape.{Shape}
use Rattle.jam_writing.specs.Pieces.{body_piece, body_size}
use Rattle.jam_writing.proofs.PieceLaws.{bodies_are, bodies_length}
use Rattle.jam_base.specs.Bodies.{Lengthens}
use Rattle.jam_base.specs.Contents.{Contents}
use Rattle.jam_base.specs.MarkPuts.{marks_put, pointer_patch, receive_put, receive_puts, record_patch, record_put}
use Rattle.jam_base.specs.Places.{header_place, field_place}
use Rattle.jam_base.specs.Puts.{append_puts, counts_put, last_bodies, last_headers, last_records, link_put, link_puts}
use Rattle.jam_base.specs.Slots.{is_due}
use Rattle.jam_base.specs.declared.receipt.Receipt.{Receipt}
use Rattle.jam_base.proofs.AppendPuts.{helds, more_in, parts}
use Rattle.jam_base.proofs.PutLaws.{patched-append}
use Rattle.intent_journal.proofs.Writes.{written_end}

-- ---- patches of other files
-- the patch is none of the bodies
abbrev pub SparesBodies : ℕ → Patch → Type 0
SparesBodies place p = jdt_file place ≢ file_of p

pub untouched : (place : ℕ) (ps : List Patch) (files : HostFiles) → All (SparesBodies place) ps → patched ps files (jdt_file place) ≡ files (jdt_file place)
untouched place [] files all = refl
untouched place (p ∷ ps) files all =
    let away : jdt_file place ≢ file_of p = All-head (SparesBodies place) p ps all in
    let first : apply p files (jdt_file place) ≡ files (jdt_file place) = cond-false (jdt_file place == file_of p) _ _ (ne_eqb (jdt_file place) (file_of p) away) in
    untouched place ps (apply p files) (All-tail (SparesBodies place) p ps all) ∙ first

pub bodies_stay : (place : ℕ) (old new : BaseFiles) (ps : List Patch) → old.jdt ≡ new.jdt → All (SparesBodies place) ps → Lengthens place old new ps
bodies_stay place old new ps same all = record {
  bodies = λ files long.
      let none : drop (length old.jdt) new.jdt ≡ [] = drop_all (length old.jdt) new.jdt (omega (arith, ap length same)) in
      untouched place ps files all ∙ sym (ap (λ (xs : List ℕ). files (jdt_file place) ++ xs) none ∙ append-nil (files (jdt_file place)));
}

-- ---- one put at the end, among patches of other files
put_here : (file at : ℕ) (bytes : List ℕ) (files : HostFiles) → apply (Put file at bytes) files file ≡ written (files file) at bytes
put_here file at bytes files = cond-true (file == file) _ _ (eq-eqb file file refl)

pub bodies_put : (place : ℕ) (old new : BaseFiles) (before after : List Patch) (at : ℕ) (bytes : List ℕ) → All (SparesBodies place) before → All (SparesBodies place) after → at ≡ length old.jdt → new.jdt ≡ old.jdt ++ bytes
    → Lengthens place old new (before ++ Put (jdt_file place) at bytes ∷ after)
bodies_put place old new before after at bytes first last is text = record {
  bodies = λ files long.
      let file : ℕ = jdt_file place in
      let mid : HostFiles = patched before files in
      let put : apply (Put file at bytes) mid file ≡ files file ++ bytes =
      put_here file at bytes mid ∙ (ap (λ (xs : List ℕ). written xs at bytes) (untouched place before files first) ∙ written_end (files file) bytes at (is ∙ sym long)) in
      let behind : drop (length old.jdt) new.jdt ≡ bytes = ap (drop (length old.jdt)) text ∙ drop-append_seam old.jdt bytes in
      (λ i. patched-append before (Put file at bytes ∷ after) files i file) ∙ (untouched place after (apply (Put file at bytes) mid) last ∙ (put ∙ ap (λ (xs : List ℕ). files file ++ xs) (sym behind)));
}

-- ---- the patches of each kind
pub counts_spares : (place : ℕ) (c : ConferenceContents) → SparesBodies place (counts_put place c)
counts_spares place c = λ e. omega (arith, e)

pub marks_spares : (kind : Kind) (place at number : ℕ) (m : Message) → SparesBodies place (marks_put kind place at number m)
marks_spares kind place at number m = λ e. omega (arith, e)

one_spares : (place : ℕ) (p : Patch) (some : Bool) → SparesBodies place p → All (SparesBodies place) (cond some (p ∷ []) [])
one_spares place p true here = All-cons (SparesBodies place) p [] here (All-nil (SparesBodies place))
one_spares place p false here = All-nil (SparesBodies place)

link_spares : (place : ℕ) (old : List Slot) (change : Option LinkPatch) → All (SparesBodies place) (link_put place old change)
link_spares place old None = All-nil (SparesBodies place)
link_spares place old (Some patch) =
    one_spares place (Put (jhr_file place) (header_place old patch.number + field_place patch.field) (u32_text patch.value)) (nat_le patch.number (length old)) (λ e. omega (arith, e))

links_spares : (place : ℕ) (old slots : List Slot) (messages : List Message) → All (SparesBodies place) (link_puts place old slots messages)
links_spares place old slots [] = All-nil (SparesBodies place)
links_spares place old slots (m ∷ messages) =
    All-append (SparesBodies place) (link_put place old (link_change slots m.replyid)) (link_puts place old (slots ++ Held m ∷ []) messages) (link_spares place old (link_change slots m.replyid))
    (links_spares place old (slots ++ Held m ∷ []) messages)

pub received_spares : (kind : Kind) (place : ℕ) (name : List ℕ) (r : Receipt) (at n : ℕ) (slots : List Slot) → All (SparesBodies place) (receive_puts kind place name r at n slots)
received_spares kind place name r at n [] = All-nil (SparesBodies place)
received_spares kind place name r at n (Gone ∷ slots) = received_spares kind place name r (at + 0) (n + 1) slots
received_spares kind place name r at n (Held m ∷ slots) =
    let mark : Patch = marks_put kind place at n (record m { seen = true; received = r.now }) in
    All-append (SparesBodies place) (receive_put kind place name r at n (Held m)) (receive_puts kind place name r (at + slot_header (Held m)) (n + 1) slots)
    (one_spares place mark (is_due name r n m) (λ e. omega (arith, e)))
    (received_spares kind place name r (at + slot_header (Held m)) (n + 1) slots)

pub record_spares : (base : Contents) (reader at : ℕ) (bytes : List ℕ) → SparesBodies base.shape.place (record_patch base reader at bytes)
record_spares base reader at bytes = by (nat_lt reader 0x7FF_FFFF)
  where
    by : (few : Bool) → SparesBodies base.shape.place (cond few (record_put base.shape.place reader at bytes) (Whole (jlr_file base.shape.place) (layout base.shape base.conference).jlr))
    by true = λ e. omega (arith, e)
    by false = λ e. omega (arith, e)

pub pointer_spares : (base : Contents) (reader number : ℕ) → SparesBodies base.shape.place (pointer_patch base reader number)
pointer_spares base reader number = record_spares base reader 8 (u32s_text (number ∷ number ∷ []))

-- ---- messages more
module _ (shape : Shape) (c : ConferenceContents) (counter : ℕ) (messages : List Message) where
  abbrev next : ConferenceContents
  next = more_in shape c counter messages

  abbrev more : List Slot
  more = helds messages

  drop_old : drop (length c.slots) (more_in shape c counter messages).slots ≡ helds messages
  drop_old = ap (drop (length c.slots)) (parts shape c counter messages) ∙ drop-append_seam c.slots more

  take_old : take (length c.slots) (more_in shape c counter messages).slots ≡ c.slots
  take_old = ap (take (length c.slots)) (parts shape c counter messages) ∙ take-append_seam c.slots more

  bodies_longer : (layout shape (more_in shape c counter messages)).jdt ≡ (layout shape c).jdt ++ flat_map body_piece (drop (length c.slots) (more_in shape c counter messages).slots)
  bodies_longer =
      bodies_are (link_of next.slots) 1 next.slots
      ∙ (ap (flat_map body_piece) (parts shape c counter messages)
      ∙ (flat_map-append body_piece c.slots more
      ∙ (ap (λ (xs : List ℕ). xs ++ flat_map body_piece more) (sym (bodies_are (link_of c.slots) 1 c.slots))
      ∙ ap (λ (xs : List Slot). (layout shape c).jdt ++ flat_map body_piece xs) (sym drop_old))))

  at_end : sum_by body_size (take (length c.slots) (more_in shape c counter messages).slots) ≡ length (layout shape c).jdt
  at_end = ap (sum_by body_size) take_old ∙ (sym (bodies_length c.slots) ∙ ap length (sym (bodies_are (link_of c.slots) 1 c.slots)))

  pub append_lengthens : Lengthens shape.place (layout shape c) (layout shape (more_in shape c counter messages)) (append_puts shape c.slots messages (more_in shape c counter messages))
  append_lengthens =
      let place : ℕ = shape.place in
      let n : ℕ = length c.slots in
      let links : List Patch = link_puts place c.slots c.slots messages in
      let first : List Patch = counts_put place next ∷ last_headers shape n next ∷ [] in
      let after : List Patch = last_records place n next ∷ [] in
      let apart_first : All (SparesBodies place) first =
      All-cons (SparesBodies place) (counts_put place next) (last_headers shape n next ∷ []) (λ e. omega (arith, e)) (All-cons (SparesBodies place) (last_headers shape n next) [] (λ e. omega (arith, e)) (All-nil (SparesBodies place))) in
      let apart_after : All (SparesBodies place) after = All-cons (SparesBodies place) (last_records place n next) [] (λ e. omega (arith, e)) (All-nil (SparesBodies place)) in
      subst (λ (ps : List Patch). Lengthens place (layout shape c) (layout shape next) ps) (append_assoc links first (last_bodies place n next ∷ after))
      (bodies_put place (layout shape c) (layout shape next) (links ++ first) after _ _ (All-append (SparesBodies place) links first (links_spares place c.slots c.slots messages) apart_first) apart_after at_end bodies_longer)
