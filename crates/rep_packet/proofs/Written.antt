-- What is written of a reply packet reads back.
use Rattle.std.proofs.Common.{◌≡◌, ℕ, ◌+◌, ◌-◌, ◌≤◌, List, ◌++◌, length, take, replicate, refl, sym, ap, ◌∙◌, inl, arith}
use Rattle.std.proofs.lemmas.List.{take_at, append_assoc, replicate-append-replicate}
use Rattle.std.proofs.lemmas.List.Elements.{All-replicate}
use Rattle.std.specs.List.{flat_map}
use Rattle.qwk_blocks.specs.Header.{IsPad}
use Rattle.qwk_blocks.specs.Written.{padded, message_text, spelling}
use Rattle.qwk_blocks.specs.declared.message.QwkMessage.{QwkMessage}
use Rattle.qwk_blocks.proofs.Written.{packet_back, length_padded}
use Rattle.rep_packet.specs.Rep.{RepReads}
use Rattle.rep_packet.specs.Written.{IsRep, rep_text}
use Rattle.rep_packet.specs.declared.rep.Rep.{Rep}
use Rattle.rep_packet.proofs.Once.{rep_unique}

-- more padding is that of a narrower field, and spaces
pad_more : (text : List ℕ) (width more : ℕ) → length text ≤ width → padded (width + more) text ≡ padded width text ++ replicate more 32
pad_more text width more le =
    let k : width + more - length text ≡ (width - length text) + more = omega arith in
    ap (λ n. text ++ replicate n 32) k
    ∙ (ap (λ xs. text ++ xs) (sym (replicate-append-replicate (width - length text) more 32)) ∙ sym (append_assoc text (replicate (width - length text) 32) (replicate more 32)))

field_back : (id : List ℕ) (messages : List QwkMessage) → length id ≤ 8 → take 8 (spelling id messages) ≡ padded 8 id
field_back id messages le =
    let rest : List ℕ = flat_map message_text messages in
    ap (λ xs. take 8 (xs ++ rest)) (pad_more id 8 120 le)
    ∙ (ap (take 8) (append_assoc (padded 8 id) (replicate 120 32) rest) ∙ take_at (padded 8 id) (replicate 120 32 ++ rest) 8 (length_padded 8 id le))

pub rep_back : (rep : Rep) → IsRep rep → RepReads (rep_text rep) rep
rep_back rep w = record {
  packet = packet_back rep.bbsid rep.messages (omega (arith, w.bbsid.short)) w.messages;
  bbsid = record {
    text = record {
      pad = replicate (8 - length rep.bbsid) 32;
      whole = field_back rep.bbsid rep.messages w.bbsid.short;
      blank = All-replicate IsPad (8 - length rep.bbsid) 32 (inl refl);
      ends = w.bbsid.trimmed;
    };
    some = w.some;
  };
}

pub no_others : (rep other : Rep) → IsRep rep → RepReads (rep_text rep) other → other ≡ rep
no_others rep other w x = rep_unique (rep_text rep) other rep x (rep_back rep w)
