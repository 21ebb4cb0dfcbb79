-- What the files are after one slot more, and after one slot changed: the old pieces with one more at the end, or
-- with one replaced. Links are those of the new slots.
use Rattle.std.proofs.Common.{◌≡◌, ℕ, suc, ◌+◌, List, [], ◌∷◌, ◌++◌, length, refl, sym, ap, ◌∙◌, arith, append_assoc, append-nil}
use Rattle.std.specs.Prelude.{sum_by}
use Rattle.std.specs.List.{flat_map}
use Rattle.std.proofs.lemmas.Grind.{flat_map-append}
use Rattle.std.proofs.lemmas.List.Sums.{sum_by-cons}
use Rattle.jam_records.specs.BaseHeaders.{base_text}
use Rattle.jam_records.specs.IndexRecords.{index_text}
use Rattle.jam_records.specs.declared.message.Kind.{Kind}
use Rattle.jam_records.specs.declared.message.Message.{Message}
use Rattle.jam_records.specs.declared.message.Slot.{Slot}
use Rattle.jam_records.specs.declared.message.Slot.TheVariants.{Held}
use Rattle.jam_layout.specs.jam_threads.Links.{link_of}
use Rattle.jam_layout.specs.jam_threads.declared.link.Link.{Link}
use Rattle.jam_layout.specs.Headers.{headers_text, entry_text}
use Rattle.jam_layout.specs.Index.{index_records, pair_of}
use Rattle.jam_layout.specs.Layout.{base_header, entries_of, layout}
use Rattle.jam_layout.specs.Sizes.{slot_header}
use Rattle.jam_layout.specs.declared.conference.ConferenceContents.{ConferenceContents}
use Rattle.jam_layout.specs.declared.shape.Shape.{Shape}
use Rattle.jam_writing.specs.Pieces.{entry_with, header_piece, body_piece, body_size, index_piece}
use Rattle.jam_writing.proofs.PieceLaws.{headers_more, index_more, bodies_are}

-- ---- slots behind others
abbrev headers : (ℕ → Link) → Kind → ℕ → ℕ → List Slot → List ℕ
headers links kind offset n slots = headers_text kind offset (entries_of links n slots)

pub headers-append : (links : ℕ → Link) (kind : Kind) (offset n : ℕ) (slots more : List Slot)
    → headers links kind offset n (slots ++ more) ≡ headers links kind offset n slots ++ headers links kind (offset + sum_by body_size slots) (n + length slots) more
headers-append links kind offset n [] more =
    let there : offset ≡ offset + 0 = omega arith in
    let number : n ≡ n + 0 = omega arith in
    ap (λ at. headers links kind at n more) there ∙ ap (λ k. headers links kind (offset + 0) k more) number
headers-append links kind offset n (s ∷ slots) more =
    let piece : List ℕ = header_piece kind offset n (links n) s in
    let there : (offset + body_size s) + sum_by body_size slots ≡ offset + sum_by body_size (s ∷ slots) = omega (arith, sum_by-cons body_size s slots) in
    let number : (n + 1) + length slots ≡ n + suc (length slots) = omega arith in
    headers_more links kind offset n s (slots ++ more)
    ∙ (ap (λ xs. piece ++ xs) (headers-append links kind (offset + body_size s) (n + 1) slots more)
    ∙ (sym (append_assoc piece (headers links kind (offset + body_size s) (n + 1) slots) (headers links kind ((offset + body_size s) + sum_by body_size slots) ((n + 1) + length slots) more))
    ∙ (ap (λ xs. xs ++ headers links kind ((offset + body_size s) + sum_by body_size slots) ((n + 1) + length slots) more) (sym (headers_more links kind offset n s slots))
    ∙ (ap (λ at. headers links kind offset n (s ∷ slots) ++ headers links kind at ((n + 1) + length slots) more) there
    ∙ ap (λ k. headers links kind offset n (s ∷ slots) ++ headers links kind (offset + sum_by body_size (s ∷ slots)) k more) number))))

pub index-append : (at : ℕ) (slots more : List Slot) → index_records at (slots ++ more) ≡ index_records at slots ++ index_records (at + sum_by slot_header slots) more
index-append at [] more = let same : at ≡ at + 0 = omega arith in ap (λ k. index_records k more) same
index-append at (s ∷ slots) more =
    let there : (at + slot_header s) + sum_by slot_header slots ≡ at + sum_by slot_header (s ∷ slots) = omega (arith, sum_by-cons slot_header s slots) in
    index_more at s (slots ++ more)
    ∙ (ap (λ xs. index_piece at s ++ xs) (index-append (at + slot_header s) slots more)
    ∙ (sym (append_assoc (index_piece at s) (index_records (at + slot_header s) slots) (index_records ((at + slot_header s) + sum_by slot_header slots) more))
    ∙ (ap (λ xs. xs ++ index_records ((at + slot_header s) + sum_by slot_header slots) more) (sym (index_more at s slots))
    ∙ ap (λ k. index_records at (s ∷ slots) ++ index_records k more) there)))

-- ---- one message more
module _ (shape : Shape) (c : ConferenceContents) (counter : ℕ) (m : Message) where
  -- the conference with the message at the end
  abbrev more : ConferenceContents
  more = record c { counter = counter; slots = c.slots ++ Held m ∷ [] }

  -- .JHR has the header of the message at its end; the other headers have the links of the new slots
  pub jhr_more : (layout shape more).jhr ≡ base_text (base_header shape more) ++ (headers (link_of more.slots) shape.kind 0 1 c.slots
      ++ entry_text shape.kind (sum_by body_size c.slots) (entry_with (1 + length c.slots) (link_of more.slots (1 + length c.slots)) m))
  jhr_more =
      let links : ℕ → Link = link_of more.slots in
      let last : List ℕ = entry_text shape.kind (0 + sum_by body_size c.slots) (entry_with (1 + length c.slots) (links (1 + length c.slots)) m) in
      let offset : 0 + sum_by body_size c.slots ≡ sum_by body_size c.slots = omega arith in
      ap (λ xs. base_text (base_header shape more) ++ xs) (headers-append links shape.kind 0 1 c.slots (Held m ∷ [])
      ∙ (ap (λ xs. headers links shape.kind 0 1 c.slots ++ xs) (append-nil last)
      ∙ ap (λ at. headers links shape.kind 0 1 c.slots ++ entry_text shape.kind at (entry_with (1 + length c.slots) (links (1 + length c.slots)) m)) offset))

  -- .JDT has its body at the end
  pub jdt_more : (layout shape more).jdt ≡ (layout shape c).jdt ++ m.body
  jdt_more =
      bodies_are (link_of more.slots) 1 more.slots
      ∙ (flat_map-append body_piece c.slots (Held m ∷ [])
      ∙ (ap (λ xs. flat_map body_piece c.slots ++ xs) (append-nil m.body) ∙ ap (λ xs. xs ++ m.body) (sym (bodies_are (link_of c.slots) 1 c.slots))))

  -- .JDX has its record at the end
  pub jdx_more : (layout shape more).jdx ≡ (layout shape c).jdx ++ index_text (pair_of m (1024 + sum_by slot_header c.slots))
  jdx_more =
      index-append 1024 c.slots (Held m ∷ []) ∙ ap (λ xs. index_records 1024 c.slots ++ xs) (append-nil (index_text (pair_of m (1024 + sum_by slot_header c.slots))))

  pub jlr_more : (layout shape more).jlr ≡ (layout shape c).jlr
  jlr_more = refl

-- ---- one slot changed, whose body has the same length: the headers before it and behind it are the same
pub header_changed : (links : ℕ → Link) (kind : Kind) (offset n : ℕ) (before behind : List Slot) (old new : Slot) → body_size new ≡ body_size old
    → headers links kind offset n (before ++ new ∷ behind) ≡ headers links kind offset n before ++ (header_piece kind (offset + sum_by body_size before) (n + length before) (links (n + length before)) new
    ++ headers links kind ((offset + sum_by body_size before) + body_size old) ((n + length before) + 1) behind)
header_changed links kind offset n before behind old new same =
    let at : ℕ = offset + sum_by body_size before in
    let number : ℕ = n + length before in
    let piece : List ℕ = header_piece kind at number (links number) new in
    headers-append links kind offset n before (new ∷ behind)
    ∙ (ap (λ xs. headers links kind offset n before ++ xs) (headers_more links kind at number new behind)
    ∙ ap (λ size. headers links kind offset n before ++ (piece ++ headers links kind (at + size) (number + 1) behind)) same)
