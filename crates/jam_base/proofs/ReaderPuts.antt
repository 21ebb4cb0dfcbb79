-- The put of a record more makes .JLR that of one reader more.
use Rattle.std.proofs.Common.{◌≡◌, Bool, true, false, cond, ℕ, ◌+◌, ◌*◌, List, [], ◌∷◌, ◌++◌, length, Result, refl, sym, ap, ◌∙◌, subst, arith, append_assoc, append-nil, length-append}
use Rattle.std.specs.Prelude.{IfOk, nat_lt}
use Rattle.std.proofs.lemmas.List.Elements.{All-cons, All-nil}
use Rattle.intent_journal.specs.door_outside.File.{jlr_file}
use Rattle.intent_journal.specs.declared.patch.Patch.{Patch}
use Rattle.intent_journal.specs.declared.patch.Patch.TheVariants.{Whole}
use Rattle.jam_records.specs.LastReads.{last_text}
use Rattle.jam_writing.specs.jam_layout.Layout.{layout, files_size}
use Rattle.jam_writing.specs.jam_layout.Readers.{last_read, last_reads}
use Rattle.jam_writing.specs.jam_layout.declared.files.BaseFiles.{BaseFiles}
use Rattle.jam_writing.specs.jam_layout.declared.reader.Reader.{Reader}
use Rattle.jam_writing.proofs.jam_layout.SlotSizes.{last_length, readers_length}
use Rattle.jam_base.specs.Bodies.{Lengthens}
use Rattle.jam_base.specs.Change.{Turns, SuitsIntent}
use Rattle.jam_base.specs.Contents.{Contents, with_reader}
use Rattle.jam_base.specs.MarkPuts.{record_put, record_patch}
use Rattle.jam_base.specs.declared.change.BaseChange.{BaseChange}
use Rattle.jam_base.proofs.BodyLaws.{SparesBodies, bodies_stay, record_spares}
use Rattle.jam_base.proofs.ChangeClauses.{both_ok}
use Rattle.jam_base.proofs.PatchLaws.{jlr_small, jlr_turns}
use Rattle.jam_base.proofs.PutBounds.{IsPut, count_more, puts_suit}
use Rattle.jam_base.proofs.PutLaws.{four, jlr_put}
use Rattle.intent_journal.proofs.Writes.{written_end}

-- ---- the records of one reader more
reads_more : (readers : List Reader) (pointers : List ℕ) (r : Reader) (p : ℕ) → length pointers ≡ length readers
    → last_reads (readers ++ r ∷ []) (pointers ++ p ∷ []) ≡ last_reads readers pointers ++ last_text (last_read r p)
reads_more [] [] r p same = append-nil (last_text (last_read r p))
reads_more [] (q ∷ pointers) r p same = absurd (omega (arith, same))
reads_more (s ∷ readers) [] r p same = absurd (omega (arith, same))
reads_more (s ∷ readers) (q ∷ pointers) r p same =
    ap (λ (xs : List ℕ). last_text (last_read s q) ++ xs) (reads_more readers pointers r p (omega (arith, same)))
    ∙ sym (append_assoc (last_text (last_read s q)) (last_reads readers pointers) (last_text (last_read r p)))

-- ---- a reader more of a base
module _ (base : Contents) (user : ℕ) (name : List ℕ) (all : length base.conference.pointers ≡ length base.shape.readers) where
  abbrev reader : Reader
  reader = record { id = user; name = name }

  abbrev next : Contents
  next = with_reader user name base

  abbrev old_files : BaseFiles
  old_files = layout base.shape base.conference

  abbrev new_files : BaseFiles
  new_files = layout next.shape next.conference

  abbrev text : List ℕ
  text = last_text (last_read reader 0)

  abbrev put : Patch
  put = record_put base.shape.place (length base.shape.readers) 0 text

  abbrev pub patch : Patch
  patch = record_patch next (length base.shape.readers) 0 text

  at_end : 16 * length base.shape.readers + 0 ≡ length (last_reads base.shape.readers base.conference.pointers)
  at_end = omega (arith, readers_length base.shape.readers base.conference.pointers all)

  more : last_reads next.shape.readers next.conference.pointers ≡ last_reads base.shape.readers base.conference.pointers ++ text
  more = reads_more base.shape.readers base.conference.pointers reader 0 all

  put_turns : Turns base.shape.place old_files new_files (put ∷ [])
  put_turns =
      subst (λ (xs : List ℕ). Turns base.shape.place old_files (four old_files.jhr old_files.jdt old_files.jdx xs) (put ∷ []))
      (written_end old_files.jlr text (16 * length base.shape.readers + 0) at_end ∙ sym more)
      (jlr_put base.shape.place (16 * length base.shape.readers + 0) text old_files.jhr old_files.jdt old_files.jdx old_files.jlr (omega (arith, at_end)))

  patch_turns : Turns base.shape.place old_files new_files (patch ∷ [])
  patch_turns = by (nat_lt (length base.shape.readers) 0x7FF_FFFF)
    where
      by : (few : Bool) → Turns base.shape.place old_files new_files (cond few put (Whole (jlr_file base.shape.place) new_files.jlr) ∷ [])
      by true = put_turns
      by false = jlr_turns base.shape.place old_files new_files.jlr

  put_is : IsPut base.shape.place (files_size new_files) put
  put_is = record { here = (omega arith, omega arith); part = refl; ends = omega (arith, at_end, ap (length {A = ℕ}) more, length-append old_files.jlr text) }

  put_suits : SuitsIntent base.shape.place new_files (put ∷ [])
  put_suits =
      puts_suit base.shape.place new_files (put ∷ []) (All-cons (IsPut base.shape.place (files_size new_files)) put [] put_is (All-nil (IsPut base.shape.place (files_size new_files))))
      (omega (arith, count_more put [], last_length (last_read reader 0)))

  patch_suits : SuitsIntent base.shape.place new_files (patch ∷ [])
  patch_suits = by (nat_lt (length base.shape.readers) 0x7FF_FFFF)
    where
      by : (few : Bool) → SuitsIntent base.shape.place new_files (cond few put (Whole (jlr_file base.shape.place) new_files.jlr) ∷ [])
      by true = put_suits
      by false = jlr_small base.shape.place new_files

  patch_lengthens : Lengthens base.shape.place old_files new_files (patch ∷ [])
  patch_lengthens =
      bodies_stay base.shape.place old_files new_files (patch ∷ []) refl
      (All-cons (SparesBodies base.shape.place) patch [] (record_spares next (length base.shape.readers) 0 text) (All-nil (SparesBodies base.shape.place)))

-- ---- as functions answer
module _ {E : Type 0} (base : Contents) (user : ℕ) (name text : List ℕ) (place : ℕ) (made : Contents) (res : Result BaseChange E) (all : length base.conference.pointers ≡ length base.shape.readers)
    (text_is : text ≡ last_text (last_read (record { id = user; name = name }) 0)) (at : place ≡ length base.shape.readers) (is : made ≡ with_reader user name base)
    (base_is : IfOk res (λ change. change.base ≡ made)) (patches_are : IfOk res (λ change. change.patches ≡ record_patch made place 0 text ∷ [])) where
  clause : (Q : BaseFiles → List Patch → Type 0) → Q (layout (with_reader user name base).shape (with_reader user name base).conference) (patch base user name all ∷ []) → IfOk res (λ change. Q (layout change.base.shape change.base.conference) change.patches)
  clause Q holds = both_ok (λ (change : BaseChange). change.base ≡ made) (λ (change : BaseChange). change.patches ≡ record_patch made place 0 text ∷ []) (λ (change : BaseChange). Q (layout change.base.shape change.base.conference) change.patches) res
      (λ change b p. subst (λ (ps : List Patch). Q (layout change.base.shape change.base.conference) ps) (sym (p ∙ (λ i. record_patch (is i) (at i) 0 (text_is i) ∷ [])))
      (subst (λ (k : Contents). Q (layout k.shape k.conference) (patch base user name all ∷ [])) (sym (b ∙ is)) holds)) base_is patches_are

  pub joined_turns : IfOk res (λ change. Turns base.shape.place (layout base.shape base.conference) (layout change.base.shape change.base.conference) change.patches)
  joined_turns = clause (λ f ps. Turns base.shape.place (layout base.shape base.conference) f ps) (patch_turns base user name all)

  pub joined_lengthens : IfOk res (λ change. Lengthens base.shape.place (layout base.shape base.conference) (layout change.base.shape change.base.conference) change.patches)
  joined_lengthens = clause (λ f ps. Lengthens base.shape.place (layout base.shape base.conference) f ps) (patch_lengthens base user name all)

  pub joined_suits : IfOk res (λ change. SuitsIntent base.shape.place (layout change.base.shape change.base.conference) change.patches)
  joined_suits = clause (λ f ps. SuitsIntent base.shape.place f ps) (patch_suits base user name all)
