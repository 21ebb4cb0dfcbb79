-- A header says how long the body is, and nothing else of it.
use Rattle.std.proofs.Common.{◌≡◌, ℕ, sym, ap, ◌∙◌}
use Rattle.std.proofs.lemmas.List.{length-replicate}
use Rattle.jam_records.specs.declared.message.Kind.{Kind}
use Rattle.jam_records.specs.declared.message.Message.{Message}
use Rattle.jam_records.specs.declared.message.Slot.{Slot}
use Rattle.jam_records.specs.declared.message.Slot.TheVariants.{Held}
use Rattle.jam_layout.specs.jam_threads.declared.link.Link.{Link}
use Rattle.jam_layout.specs.Bodies.{message_with}
use Rattle.jam_layout.specs.Fields.{subfields_of}
use Rattle.jam_layout.specs.Headers.{entry_text, message_header}
use Rattle.jam_layout.specs.Outlines.{line_ends, slot_with}
use Rattle.jam_writing.specs.Pieces.{entry_with, header_piece}

pub entry_as_long : (kind : Kind) (offset number n : ℕ) (link : Link) (m : Message)
    → entry_text kind offset (record { number = number; text_len = n; link = link; message = m }) ≡ entry_text kind offset (entry_with number link (message_with m (line_ends n)))
unfolding message_header subfields_of
entry_as_long kind offset number n link m = ap (λ k. entry_text kind offset (record { number = number; text_len = k; link = link; message = m })) (sym (length-replicate n 0x0D))

-- so it is for a slot that holds a message, with a body of that length
pub piece_as_long : (kind : Kind) (offset number n : ℕ) (link : Link) (m : Message) (s : Slot) → s ≡ Held m → entry_text kind offset (record { number = number; text_len = n; link = link; message = m }) ≡ header_piece kind offset number link (slot_with n s)
piece_as_long kind offset number n link m s is = entry_as_long kind offset number n link m ∙ ap (λ (x : Slot). header_piece kind offset number link (slot_with n x)) (sym is)
