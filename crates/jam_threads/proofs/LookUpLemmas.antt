-- The original of a message, looked up in the links of all.
use Rattle.std.proofs.Common.{◌≡◌, ◌∙◌, ℕ, suc, ◌+◌, ◌-◌, ◌<◌, ◌≤◌, List, [], length, Some, None, refl, sym, ap, arith, inl, inr}
use Rattle.std.specs.List.{slice_get}
use Rattle.std.proofs.lemmas.Bool.{cases_lt}
use Rattle.std.proofs.lemmas.Option.{slice_get_within, slice_get_past, none-some, same_Some}
use Rattle.jam_records.specs.declared.message.Slot.{Slot}
use Rattle.jam_threads.specs.Children.{slot_original, original}
use Rattle.jam_threads.specs.Links.{link_of, AreLinks}
use Rattle.jam_threads.specs.declared.link.Link.{Link}

pub none_zero : (slots : List Slot) → original slots 0 ≡ 0
unfolding original
none_zero slots = refl

pub no_links : (links : List Link) → links ≡ [] → AreLinks [] links
no_links links none = record { count = ap length none; each = λ place within. absurd (omega (arith, within)) }

past_all : (slots : List Slot) (place : ℕ) → length slots ≤ place → original slots (suc place) ≡ 0
unfolding original
past_all slots place past = ap (slot_original _) (slice_get_past slots place past)

to_of : (slots : List Slot) (number : ℕ) → (link_of slots number).to ≡ original slots number
unfolding link_of
to_of slots number = refl

one_more : (number : ℕ) → 0 < number → number - 1 + 1 ≡ number
one_more number some = omega arith

pub found_original : (slots : List Slot) (links : List Link) (number : ℕ) (link : Link) → 0 < number → AreLinks slots links → slice_get links (number - 1) ≡ Some link → link.to ≡ original slots number
found_original slots links number link some are is =
    let within : number - 1 < length slots = omega (arith, slice_get_within links (number - 1) link is, are.count) in
    ap (λ (l : Link). l.to) (same_Some link (link_of slots (number - 1 + 1)) (sym is ∙ are.each (number - 1) within))
    ∙ (to_of slots (number - 1 + 1) ∙ ap (original slots) (one_more number some))

pub missing_original : (slots : List Slot) (links : List Link) (number : ℕ) → 0 < number → AreLinks slots links → slice_get links (number - 1) ≡ None → 0 ≡ original slots number
missing_original slots links number some are is =
    elim (cases_lt (number - 1) (length slots)) [
      | inl within ↦ absurd (none-some (link_of slots (number - 1 + 1)) (sym is ∙ are.each (number - 1) within))
      | inr past ↦ sym (past_all slots (number - 1) past) ∙ ap (original slots) (omega arith)
    ]
