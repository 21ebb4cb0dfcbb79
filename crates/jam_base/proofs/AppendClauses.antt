-- What the change of messages more does, from what its base and its patches are.
use Rattle.std.proofs.Common.{◌≡◌, ℕ, List, ◌∷◌, ◌++◌, length, map, Result, sym, ap, ◌∙◌, subst}
use Rattle.std.specs.Prelude.{IfOk}
use Rattle.std.specs.List.{flat_map}
use Rattle.intent_journal.specs.declared.patch.Patch.{Patch}
use Rattle.jam_records.specs.declared.message.Message.{Message}
use Rattle.jam_records.specs.declared.message.Slot.{Slot}
use Rattle.jam_writing.specs.jam_layout.Layout.{layout}
use Rattle.jam_writing.specs.jam_layout.Outlines.{message_outline, slot_outline}
use Rattle.jam_writing.specs.jam_layout.declared.files.BaseFiles.{BaseFiles}
use Rattle.jam_base.specs.Bodies.{Lengthens}
use Rattle.jam_base.specs.Change.{Turns, SuitsIntent}
use Rattle.jam_base.specs.Contents.{Contents, counter_after, with_messages, with_slots}
use Rattle.jam_base.specs.Outlined.{outlined, TurnsEach}
use Rattle.jam_base.specs.Puts.{append_puts, counts_put, end_puts, link_puts, Costs}
use Rattle.jam_base.specs.Slots.{slots_with_all}
use Rattle.jam_base.specs.declared.change.BaseChange.{BaseChange}
use Rattle.jam_base.proofs.AppendCosts.{append_costs, append_suits}
use Rattle.jam_base.proofs.AppendPuts.{append_turns}
use Rattle.jam_base.proofs.BodyLaws.{append_lengthens}
use Rattle.jam_base.proofs.ChangeClauses.{both_ok}
use Rattle.jam_base.proofs.EndOutlines.{added_bodies, costs_alike, ends_alike, suits_alike}
use Rattle.jam_base.proofs.OutlineChanges.{all_outlined, appended_each}

abbrev files_in : Contents → BaseFiles
files_in base = layout base.shape base.conference

-- the base with the messages, whole
abbrev pub with_all : Contents → List Message → Contents
with_all base messages = with_slots (slots_with_all base.conference.slots messages) base

-- the slots that are kept are the outline of those with the messages
pub kept_slots : (base : Contents) (slots : List Slot) (messages : List Message) → outlined base ≡ base → slots ≡ slots_with_all base.conference.slots (map message_outline messages) → slots ≡ map slot_outline (slots_with_all base.conference.slots messages)
kept_slots base slots messages own are =
    are ∙ (ap (λ (k : Contents). slots_with_all k.conference.slots (map message_outline messages)) (sym own) ∙ sym (all_outlined base.conference.slots messages))

module _ {E : Type 0} (base : Contents) (slots : List Slot) (messages : List Message) (made : Contents) (count : ℕ) (links : List Patch) (bodies : List ℕ) (r : Result BaseChange E) (own : outlined base ≡ base)
    (slots_are : slots ≡ slots_with_all base.conference.slots (map message_outline messages)) (is : made ≡ with_slots slots base) (counted : count ≡ length base.conference.slots)
    (linked : links ≡ link_puts base.shape.place base.conference.slots base.conference.slots messages) (bodies_are : bodies ≡ flat_map (λ m. m.body) messages)
    (base_is : IfOk r (λ change. change.base ≡ made)) (patches_are : IfOk r (λ change. change.patches ≡ links ++ (counts_put made.shape.place made.conference ∷ end_puts made.shape count made.conference bodies))) where
  pub made_is : made ≡ outlined (with_all base messages)
  made_is = is ∙ ap (λ (xs : List Slot). with_slots xs base) (kept_slots base slots messages own slots_are)

  all_puts : links ++ (counts_put made.shape.place made.conference ∷ end_puts made.shape count made.conference bodies) ≡ append_puts base.shape base.conference.slots messages (with_all base messages).conference
  all_puts =
      (λ i. linked i ++ (counts_put (made_is i).shape.place (made_is i).conference ∷ end_puts (made_is i).shape (counted i) (made_is i).conference bodies))
      ∙ ap (λ (ps : List Patch). link_puts base.shape.place base.conference.slots base.conference.slots messages ++ ps)
      (ends_alike base.shape (length base.conference.slots) (with_all base messages).conference bodies (bodies_are ∙ sym (added_bodies base.conference.slots messages)))

  clause : (Q : Contents → List Patch → Type 0) → Q (outlined (with_all base messages)) (append_puts base.shape base.conference.slots messages (with_all base messages).conference)
      → IfOk r (λ change. Q change.base change.patches)
  clause Q holds = both_ok (λ (change : BaseChange). change.base ≡ made) (λ (change : BaseChange). change.patches ≡ links ++ (counts_put made.shape.place made.conference ∷ end_puts made.shape count made.conference bodies)) (λ (change : BaseChange). Q change.base change.patches) r
      (λ change b p. subst (λ (ps : List Patch). Q change.base ps) (sym (p ∙ all_puts))
      (subst (λ (k : Contents). Q k (append_puts base.shape base.conference.slots messages (with_all base messages).conference)) (sym (b ∙ made_is)) holds)) base_is patches_are

  pub extended_turns : IfOk r (λ change. Turns base.shape.place (files_in base) (files_in (with_all base messages)) change.patches)
  extended_turns = clause (λ k ps. Turns base.shape.place (files_in base) (files_in (with_all base messages)) ps) (append_turns base.shape base.conference (counter_after base.conference.counter) messages)

  pub extended_lengthens : IfOk r (λ change. Lengthens base.shape.place (files_in base) (files_in (with_all base messages)) change.patches)
  extended_lengthens = clause (λ k ps. Lengthens base.shape.place (files_in base) (files_in (with_all base messages)) ps) (append_lengthens base.shape base.conference (counter_after base.conference.counter) messages)

  pub extended_suits : IfOk r (λ change. SuitsIntent base.shape.place (files_in change.base) change.patches)
  extended_suits =
      let puts : List Patch = append_puts base.shape base.conference.slots messages (with_all base messages).conference in
      clause (λ k ps. SuitsIntent base.shape.place (files_in k) ps)
      (suits_alike base.shape.place base.shape (with_all base messages).conference puts (append_suits base.shape base.conference (counter_after base.conference.counter) messages))

  pub extended_costs : IfOk r (λ change. Costs (length messages) (files_in base) (files_in change.base) change.patches)
  extended_costs =
      let puts : List Patch = append_puts base.shape base.conference.slots messages (with_all base messages).conference in
      clause (λ k ps. Costs (length messages) (files_in base) (files_in k) ps)
      (costs_alike (length messages) (files_in base) base.shape (with_all base messages).conference puts (append_costs base.shape base.conference (counter_after base.conference.counter) messages))

  -- where there is a message more
  pub extended_bodies : with_all base messages ≡ with_messages messages base → IfOk r (λ change. Lengthens base.shape.place (files_in base) (files_in (with_messages messages base)) change.patches)
  extended_bodies whole = subst (λ (k : Contents). IfOk r (λ (change : BaseChange). Lengthens base.shape.place (files_in base) (files_in k) change.patches)) whole extended_lengthens

  pub extended_each : with_all base messages ≡ with_messages messages base → IfOk r (λ change. TurnsEach base (with_messages messages) change.patches)
  extended_each whole =
      appended_each base messages r (subst (λ (k : Contents). IfOk r (λ (change : BaseChange). Turns base.shape.place (files_in base) (files_in k) change.patches)) whole extended_turns) (extended_bodies whole)

-- where there is none, what holds of the files of the base that stays holds of those with the messages
pub none_more : {E : Type 0} (base : Contents) (messages : List Message) (r : Result BaseChange E) (Q : BaseFiles → List Patch → Type 0) → base ≡ with_messages messages base → IfOk r (λ change. change.base ≡ base)
    → IfOk r (λ change. Q (files_in change.base) change.patches) → IfOk r (λ change. Q (files_in (with_messages messages base)) change.patches)
none_more base messages r Q whole =
    both_ok (λ (change : BaseChange). change.base ≡ base) (λ (change : BaseChange). Q (files_in change.base) change.patches) (λ (change : BaseChange). Q (files_in (with_messages messages base)) change.patches) r
    (λ change b q. subst (λ (k : Contents). Q (files_in k) change.patches) (b ∙ whole) q)
