use Rattle.std.proofs.Common.{rules, ◌≡◌, ◌++◌, ◌∷◌, [], List, length, sym, ap, ◌∙◌, subst, append_assoc, arith}
use Rattle.std.proofs.lemmas.List.{append-nil, nil_from_length}
use Rattle.std.specs.Vec.Iter.{into_iter_items}
use Rattle.intent_journal.specs.declared.patch.Patch.{Patch}
use Rattle.board_changes.specs.Gathered.{Joins}
use Rattle.board_changes.proofs.JoinLaws.{takes_first, joins_on}
use Rattle.board_changes.proofs.gathering.add_all.Goals as goal

pub loop-patch-init : goal.loop-patch-init
loop-patch-init c =
    let items : into_iter_items c.into_iter-patch-iterator.result ≡ c.args.patches = c.into_iter-patch-iterator.ensures.into_iter_gives.0 ∙ c.into_vec-patch-items.ensures in
    record {
      so_far = ap (λ (ps : List Patch). c.args.intent.now ++ ps) items;
      joins = subst (Joins c.args.intent.now) (sym items) c.requires;
      counted = search rules;
      can_next = tt;
      is_finite = tt;
    }

pub add-requires : goal.add-requires
add-requires c =
    takes_first c.loop-patch.intent c.in-Some.patch _ (subst (Joins c.loop-patch.intent) c.in-Some.ensures.steps.0 c.loop-patch.invariant.joins)

pub loop-patch-preserved : goal.loop-patch-preserved
loop-patch-preserved c =
    let v = c.loop-patch.invariant in
    let steps = c.in-Some.ensures.steps in
    let rest : List Patch = into_iter_items c.next.new.self in
    record {
      so_far = ap (λ (ps : List Patch). ps ++ rest) c.in_ok-add.ensures.ok ∙ (append_assoc c.loop-patch.intent (c.in-Some.patch ∷ []) rest ∙ (ap (λ (ps : List Patch). c.loop-patch.intent ++ ps) (sym steps.0) ∙ v.so_far));
      joins = subst (λ (ps : List Patch). Joins ps rest) (sym c.in_ok-add.ensures.ok) (joins_on c.loop-patch.intent c.in-Some.patch rest (subst (Joins c.loop-patch.intent) steps.0 v.joins));
      counted = omega (arith, steps.1, v.counted, ap length steps.0);
      can_next = tt;
      is_finite = tt;
    }

pub returns : goal.returns
returns c =
    let v = c.loop-patch.invariant in
    let none = nil_from_length (into_iter_items c.loop-patch.patch-iterator) (sym v.counted ∙ c.in-None.ensures.steps.0) in
    sym (append-nil c.loop-patch.intent) ∙ (ap (λ (ps : List Patch). c.loop-patch.intent ++ ps) (sym none) ∙ v.so_far)
