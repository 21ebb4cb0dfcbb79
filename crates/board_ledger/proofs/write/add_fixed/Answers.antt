use Rattle.std.proofs.Common.{◌≡◌, ℕ, List, [], ◌∷◌, ◌++◌, length, ap, ◌∙◌, arith, append_assoc}
use Rattle.std.specs.List.{flat_map}
use Rattle.byteorder.specs.Endian.{little_bytes}
use Rattle.jam_records.specs.record_numbers.Numbers.{u32s_text}
use Rattle.setup_file.specs.declared.fields.SetupFields.{SetupFields}
use Rattle.board_ledger.specs.Opening.{magic, fixed_text}
use Rattle.board_ledger.specs.declared.ledger.Ledger.{Ledger}
use Rattle.board_ledger.proofs.SetupBounds.{zones_few}
use Rattle.open_offers.proofs.WritingLaws.{on_ok}
use Rattle.board_ledger.proofs.write.add_fixed.Goals as goal

pub overflow_cast-counts-3 : goal.overflow_cast-counts-3
overflow_cast-counts-3 c = omega (arith, c.len-3.ensures, zones_few c.args.ledger.now.setup.zones c.requires.setup.zones, ap (λ (s : SetupFields). length s.zones) c.fields-setup.ensures.fields)

regroup : (out a b c : List ℕ) → ((out ++ a) ++ b) ++ c ≡ out ++ (a ++ (b ++ c))
regroup out a b c = simp append_assoc

three_parts : (out o1 o2 o3 a b c : List ℕ) → o1 ≡ out ++ a → o2 ≡ o1 ++ b → o3 ≡ o2 ++ c → o3 ≡ out ++ (a ++ (b ++ c))
three_parts out o1 o2 o3 a b c p q r = r ∙ (ap (λ x. x ++ c) (q ∙ ap (λ x. x ++ b) p) ∙ regroup out a b c)

counted : (n m k : ℕ) (l : Ledger) → n ≡ length l.setup.conferences → m ≡ length l.users → k ≡ length l.setup.zones
    → flat_map (little_bytes 2) (2 ∷ n ∷ m ∷ k ∷ []) ≡ flat_map (little_bytes 2) (2 ∷ length l.setup.conferences ∷ length l.users ∷ length l.setup.zones ∷ [])
counted n m k l a b d = λ i. flat_map (little_bytes 2) (2 ∷ a i ∷ b i ∷ d i ∷ [])

pub returns : goal.returns
unfolding fixed_text
returns c =
    let l : Ledger = c.args.ledger.now in
    on_ok c.add-3.result _ _ c.add-3.ensures.ok (λ last.
    three_parts c.args.out.now c.add.new.self c.add-2.new.self c.add-3.new.self magic
    (flat_map (little_bytes 2) (2 ∷ length l.setup.conferences ∷ length l.users ∷ length l.setup.zones ∷ [])) (u32s_text (length l.uploads ∷ l.created ∷ l.setup.serial ∷ []))
    c.in_ok-add.ensures.ok
    (c.in_ok-add-2.ensures.ok ∙ ap (λ x. c.add.new.self ++ x) (c.write_u16_into.ensures ∙ counted c.len.result c.len-2.result c.len-3.result l
    (c.len.ensures ∙ ap (λ (s : SetupFields). length s.conferences) c.fields-setup.ensures.fields) c.len-2.ensures (c.len-3.ensures ∙ ap (λ (s : SetupFields). length s.zones) c.fields-setup.ensures.fields)))
    (last ∙ ap (λ x. c.add-2.new.self ++ x) (c.write_u32_into.ensures ∙ (λ i. u32s_text (c.len-4.ensures i ∷ l.created ∷ (c.fields-setup.ensures.fields i).serial ∷ [])))))
