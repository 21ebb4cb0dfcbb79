use Rattle.std.proofs.Common.{◌+◌, [], ◌∷◌, length, ap, refl, sym, subst, arith, length-append}
use Rattle.std.specs.List.{All}
use Rattle.std.proofs.lemmas.Bool.{true≢false}
use Rattle.std.proofs.lemmas.List.Elements.{All-nil, All-cons, All-append}
use Rattle.long_names.specs.Fits.{FitsWithLong}
use Rattle.offline_writer.specs.Drafts.{entry_draft}
use Rattle.offline_writer.specs.Fitting.{FitsQwk}
use Rattle.offline_writer.proofs.Places.{first_unfit_at, drafts_more, drafts_all}
use Rattle.offline_writer.proofs.Writing.{entries_writable}
use Rattle.offline_writer.proofs.composing.draft_entries.Goals as goal

pub returns-then-not-fits_qwk-clause-drafts : goal.returns-then-not-fits_qwk-clause-drafts
returns-then-not-fits_qwk-clause-drafts c =
    let v = c.loop-entry.invariant in
    first_unfit_at (entry_draft c.args.control.now c.args.conference c.args.now) c.as_slice-entry-items.result.now c.args.entries.now c.loop-entry.entry-index _ c.entry-item.result c.loop-entry.drafts
    c.in_ok-draft.draft v.all (omega arith) c.entry-item.is v.drafts v.fit c.in_ok-draft.ensures (λ fits. true≢false (sym (c.if-not-fits_qwk.ensures.1 fits))) (ap (λ n. n + 1) c.len.ensures)

pub loop-entry-preserved : goal.loop-entry-preserved
loop-entry-preserved c =
    let v = c.loop-entry.invariant in
    let drafts = c.loop-entry.drafts in
    let draft = c.in_ok-draft.draft in
    record {
      all = v.all;
      count = omega (arith, v.count, ap length c.in_ok-add.ensures.ok, length-append drafts (draft ∷ []));
      drafts = drafts_more (entry_draft c.args.control.now c.args.conference c.args.now) c.as_slice-entry-items.result.now c.loop-entry.entry-index c.entry-item.result drafts c.add.new.self draft
          (omega arith) c.entry-item.is v.drafts c.in_ok-draft.ensures c.in_ok-add.ensures.ok;
      fit = subst (All FitsQwk) (sym c.in_ok-add.ensures.ok) (All-append FitsQwk drafts (draft ∷ []) v.fit (All-cons FitsQwk draft [] (c.if-not-fits_qwk.ensures.0 refl) (All-nil FitsQwk)));
    }

pub returns-clause-writable : goal.returns-clause-writable
returns-clause-writable c clean =
    let v = c.loop-entry.invariant in
    let all = drafts_all (entry_draft c.args.control.now c.args.conference c.args.now) c.as_slice-entry-items.result.now c.args.entries.now c.loop-entry.entry-index c.loop-entry.drafts v.all (omega arith) v.drafts in
    subst (All FitsWithLong) (sym all) (entries_writable c.args.control.now c.args.conference c.args.now c.args.entries.now (omega arith) clean (subst (All FitsQwk) all v.fit))
