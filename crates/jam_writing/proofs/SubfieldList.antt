-- The subfields of a message, added one after the other.
use Rattle.std.proofs.Common.{◌≡◌, ℕ, List, ◌++◌, sym, ap, ◌∙◌, append_assoc}
use Rattle.jam_records.specs.Subfields.{subfields_text}
use Rattle.jam_records.specs.declared.message.Message.{Message}
use Rattle.jam_layout.specs.Fields.{value_subfields, subfields_of}
use Rattle.jam_layout.proofs.ValueLaws.{texts}

regroup : (old a b c d e f g : List ℕ) → ((((((old ++ a) ++ b) ++ c) ++ d) ++ e) ++ f) ++ g ≡ old ++ (a ++ (b ++ (c ++ (d ++ (e ++ (f ++ g))))))
regroup old a b c d e f g = simp append_assoc

more : (old new part before : List ℕ) → new ≡ old ++ part → old ≡ before → new ≡ before ++ part
more old new part before is so_far = is ∙ ap (λ xs. xs ++ part) so_far

abbrev text : ℕ → List ℕ → List ℕ
text id value = subfields_text (value_subfields id value)

pub seven_added : (m : Message) (old a b c d e f g : List ℕ) → a ≡ old ++ subfields_text (value_subfields 0 m.origin) → b ≡ a ++ subfields_text (value_subfields 1 m.destination) → c ≡ b ++ subfields_text (value_subfields 2 m.from) → d ≡ c ++ subfields_text (value_subfields 3 m.to)
    → e ≡ d ++ subfields_text (value_subfields 4 m.msgid) → f ≡ e ++ subfields_text (value_subfields 5 m.replyid) → g ≡ f ++ subfields_text (value_subfields 6 m.subject) → g ≡ old ++ subfields_text (subfields_of m)
unfolding subfields_of
seven_added m old a b c d e f g a_is b_is c_is d_is e_is f_is g_is =
    let t0 : List ℕ = old ++ text 0 m.origin in
    let t1 : List ℕ = t0 ++ text 1 m.destination in
    let t2 : List ℕ = t1 ++ text 2 m.from in
    let t3 : List ℕ = t2 ++ text 3 m.to in
    let t4 : List ℕ = t3 ++ text 4 m.msgid in
    let t5 : List ℕ = t4 ++ text 5 m.replyid in
    more f g (text 6 m.subject) t5 g_is (more e f (text 5 m.replyid) t4 f_is (more d e (text 4 m.msgid) t3 e_is (more c d (text 3 m.to) t2 d_is (more b c (text 2 m.from) t1 c_is (more a b (text 1 m.destination) t0 b_is a_is)))))
    ∙ (regroup old (text 0 m.origin) (text 1 m.destination) (text 2 m.from) (text 3 m.to) (text 4 m.msgid) (text 5 m.replyid) (text 6 m.subject)
    ∙ ap (λ xs. old ++ xs) (sym (texts (value_subfields 0 m.origin) (value_subfields 1 m.destination) (value_subfields 2 m.from) (value_subfields 3 m.to) (value_subfields 4 m.msgid) (value_subfields 5 m.replyid) (value_subfields 6 m.subject))))
