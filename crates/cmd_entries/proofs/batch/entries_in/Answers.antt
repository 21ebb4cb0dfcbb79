use Rattle.std.proofs.Common.{◌≡◌, ◌<◌, ◌^◌, ℕ, ◌+◌, true, false, List, [], ◌∷◌, ◌++◌, length, refl, sym, ◌∙◌, ap, subst, arith}
use Rattle.std.proofs.lemmas.List.{append-nil}
use Rattle.std.proofs.lemmas.List.Elements.{All-nil, All-push}
use Rattle.std.specs.Prelude.{All}
use Rattle.std.specs.Str.Lines.{lines}
use Rattle.text_fields.proofs.Numbered.{lines_numbered}
use Rattle.text_fields.specs.Lines.{is_skipped}
use Rattle.cmd_entries.proofs.Batches.{SoFar, runs_on, skips_on}
use Rattle.cmd_entries.specs.Batch.{BatchLinesRead}
use Rattle.cmd_entries.specs.Entries.{EntryCanRun, IsWrong}
use Rattle.cmd_entries.specs.declared.entry.Entry.{Entry}
use Rattle.cmd_entries.proofs.batch.entries_in.Goals as goal
use Rattle.cmd_entries.proofs.batch.entries_in.Goals.{then-not-is_skipped+in_ok-entry+in_ok-add+else-is_last, else-not-is_skipped}

pub loop-line-init : goal.loop-line-init
loop-line-init c =
    let all = lines c.args.text.now in
    record {
      reads = subst (SoFar all 1 all) (sym c.new-entries.ensures) (λ more reads. reads);
      can_run = subst (All EntryCanRun) (sym c.new-entries.ensures) (All-nil EntryCanRun);
      numbered = lines_numbered c.args.text.now c.requires;
    }

pub loop-line-preserved : goal.loop-line-preserved
loop-line-preserved c =
    let h = c.loop-line.invariant in
    let all : List (List ℕ) = lines c.args.text.now in
    let number : ℕ = c.loop-line.number in
    let line : List ℕ = c.in-Some.line.now in
    let behind : List (List ℕ) = lines c.in-Some.behind.now in
    let entries : List Entry = c.loop-line.entries in
    let left : List (List ℕ) = lines c.loop-line.rest.now in
    let is : left ≡ line ∷ behind = c.in-Some.ensures in
    let numbered : number + 1 + length behind < 2 ^ 32 = omega (arith, h.numbered, ap length is) in
    elim c.if-not-is_skipped.branch [
      | then-not-is_skipped+in_ok-entry+in_ok-add+else-is_last w ↦
          let entry : Entry = w.in_ok-entry.entry in
          let counts : is_skipped line ≡ false = cc (c.is_skipped.ensures, w.if-not-is_skipped.true) in
          let right : ¬ IsWrong entry = λ wrong. absurd (cc (w.is_wrong-is_last.ensures.1 wrong, w.if-is_last.false)) in
          let made : c.if-not-is_skipped.entries ≡ entries ++ entry ∷ [] = w.entries-is ∙ w.in_ok-add.ensures.ok in
          record {
            reads = subst (SoFar all (number + 1) behind) (sym made) (runs_on all left behind number line entries is h.reads entry counts w.in_ok-entry.ensures.reads right);
            can_run = subst (All EntryCanRun) (sym made) (All-push EntryCanRun entries entry h.can_run w.in_ok-entry.ensures.can_run);
            numbered = numbered;
          }
      | else-not-is_skipped w ↦
          let skipped : is_skipped line ≡ true = cc (c.is_skipped.ensures, w.if-not-is_skipped.false) in
          record {
            reads = subst (SoFar all (number + 1) behind) (sym w.entries-is) (skips_on all left behind number line entries is h.reads skipped);
            can_run = subst (All EntryCanRun) (sym w.entries-is) h.can_run;
            numbered = numbered;
          }
    ]

pub returns-clause-reads : goal.returns-clause-reads
returns-clause-reads c =
    let all = lines c.args.text.now in
    let none : lines c.loop-line.rest.now ≡ [] = c.in_default.ensures in
    subst (BatchLinesRead 1 all) (append-nil c.loop-line.entries) (c.loop-line.invariant.reads [] (subst (λ (left : List (List ℕ)). BatchLinesRead c.loop-line.number left []) (sym none) refl))
