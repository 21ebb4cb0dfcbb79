use Rattle.std.proofs.Common.{◌≡◌, ◌↔◌, ℕ, true, false, List, Option, Ok, sym, subst}
use Rattle.std.specs.Prelude.{MatchOption}
use Rattle.std.proofs.lemmas.List.{take_rest}
use Rattle.jam_records.specs.MessageHeaders.{MessageHeaderStands}
use Rattle.jam_records.specs.declared.message_header.MessageHeader.{MessageHeader}
use Rattle.jam_adopt.specs.Verdicts.{wrong_header, header_in}
use Rattle.jam_adopt.proofs.HeaderTests.{found_header}
use Rattle.jam_adopt.proofs.headers.header_at.Goals as goal

pub returns : goal.returns
returns c =
    let jhr : List ℕ = c.args.jhr.now in
    let at : ℕ = c.args.offset in
    let r = c.read_message_header.result in
    let reads = subst (λ (bytes : List ℕ). (h : MessageHeader) → (r ≡ Ok h) ↔ MessageHeaderStands bytes h) (take_rest jhr at) c.read_message_header.ensures.ok in
    subst (λ (o : Option MessageHeader). MatchOption o (wrong_header jhr at ≡ true) (λ header. (wrong_header jhr at ≡ false) × (header ≡ header_in jhr at))) (sym c.ok.ensures.value) (found_header jhr at r reads)
