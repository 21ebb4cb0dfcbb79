use Rattle.std.proofs.Common.{◌+◌, ◌∙◌, ◌++◌, ◌∷◌, [], ap, sym, length}
use Rattle.std.proofs.lemmas.List.{length_push}
use Rattle.open_offers.specs.Texts.{u32s_at}
use Rattle.open_offers.proofs.TextLaws.{u32s_more}
use Rattle.open_offers.proofs.texts.u32s_at.Goals as goal

pub loop-i-preserved : goal.loop-i-preserved
loop-i-preserved c = record {
  so_far = c.in_ok-add.ensures.ok ∙ (ap (λ xs. xs ++ c.u32_at.result ∷ []) c.loop-i.invariant.so_far ∙ (ap (λ n. u32s_at c.args.place c.loop-i.i c.args.bytes.now ++ n ∷ []) c.u32_at.ensures ∙ sym (u32s_more c.args.place c.loop-i.i c.args.bytes.now)));
  count = ap length c.in_ok-add.ensures.ok ∙ (length_push c.loop-i.numbers c.u32_at.result ∙ ap (λ n. n + 1) c.loop-i.invariant.count);
}
