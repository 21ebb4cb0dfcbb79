use Rattle.std.proofs.Common.{[], ◌∷◌}
use Rattle.std.specs.Fmt.{decimal}
use Rattle.std.proofs.lemmas.Result.{IfOk-equal}
use Rattle.qwk_blocks.specs.Written.{header_block, padded, number_text, low_first}
use Rattle.qwk_blocks.proofs.Written.{regroup}
use Rattle.qwk_blocks.proofs.write.add_header.Goals as goal

-- one field after another
pub returns : goal.returns
unfolding header_block
returns c = IfOk-equal c.add-5.result _ _ _ c.add-5.ensures.ok (
    rw (
      c.in_ok-add_word-2.ensures,
      c.in_ok-add_word.ensures,
      c.in_ok-add-4.ensures.ok,
      c.in_ok-add_number-3.ensures,
      c.in_ok-add_number-2.ensures,
      c.in_ok-add_padded-4.ensures,
      c.as_slice-4.ensures.same,
      c.in_ok-add_padded-3.ensures,
      c.as_slice-3.ensures.same,
      c.in_ok-add_padded-2.ensures,
      c.as_slice-2.ensures.same,
      c.in_ok-add_padded.ensures,
      c.as_slice.ensures.same,
      c.in_ok-add-3.ensures.ok,
      c.in_ok-add-2.ensures.ok,
      c.in_ok-add_number.ensures,
      c.in_ok-add.ensures.ok,
    )
    (let h = c.args.header.now in
    regroup c.args.out.now (h.status ∷ []) (padded 7 (number_text h.number)) h.date h.time
    (padded 25 h.to) (padded 25 h.from) (padded 25 h.subject) (padded 12 h.password)
    (padded 8 (number_text h.reference)) (padded 6 (decimal c.args.count))
    (h.activity ∷ []) (low_first h.conference) (low_first h.logical) (h.tag ∷ [])))
