use Rattle.std.proofs.Common.{◌≡◌, ◌∙◌, sym, ap, ℕ, ◌*◌, ◌-◌, ◌+◌, ◌/◌, ◌%◌, ◌++◌, arith, List, length, length-append}
use Rattle.std.proofs.Math.ListN.{set}
use Rattle.shared_lists.specs.Chunks.{joined}
use Rattle.shared_lists.proofs.ChunkLaws.{joined_length, set_chunk, set_last}
use Rattle.shared_lists.proofs.lists.SharedList.set.Goals as goal

pub index_mut-requires-else-chunk-len : goal.index_mut-requires-else-chunk-len
index_mut-requires-else-chunk-len g c =
    let chunks = c.self.inside.chunks.items in
    let last = c.self.inside.last.items in
    let len = joined_length chunks c.self.invariant.full in
    let count : c.len-else-chunk-len.result ≡ length chunks = omega (arith, c.len-else-chunk-len.ensures, c.self.inside.chunks.ok) in
    let first : c.len.result ≡ length chunks = omega (arith, c.len.ensures, c.self.inside.chunks.ok) in
    let whole = length-append (joined chunks) last in
    let view = ap length c.self.view_is in
    omega (arith, len, count, first, whole, view, c.requires, c.if-chunk-len.false, c.self.inside.last.ok)

pub returns-in_ok-self-inside-clause-ok : goal.returns-in_ok-self-inside-clause-ok
returns-in_ok-self-inside-clause-ok g c =
    let chunks = c.self.inside.chunks.items in
    let last = c.self.inside.last.items in
    let q : ℕ = c.args.place / 128 in
    let r : ℕ = c.args.place % 128 in
    let first : c.len.result ≡ length chunks = omega (arith, c.len.ensures, c.self.inside.chunks.ok) in
    let found = set_chunk chunks last c.args.place c.self.invariant.full c.index.result.now c.args.item (omega (arith, first, c.if-chunk-len.true)) in
    ap (λ (x : List g.row.T.Denot). joined (set chunks q x) ++ last) (c.in_ok-self-inside.ensures ∙ ap (λ (xs : List g.row.T.Denot). set xs r c.args.item) c.index.ensures)
    ∙ (sym found ∙ ap (λ (xs : List g.row.T.Denot). set xs c.args.place c.args.item) c.self.view_is)

pub returns-else-chunk-len-clause-ok : goal.returns-else-chunk-len-clause-ok
returns-else-chunk-len-clause-ok g c =
    let chunks = c.self.inside.chunks.items in
    let last = c.self.inside.last.items in
    let first : c.len.result ≡ length chunks = omega (arith, c.len.ensures, c.self.inside.chunks.ok) in
    let count : c.len-else-chunk-len.result ≡ length chunks = omega (arith, c.len-else-chunk-len.ensures, c.self.inside.chunks.ok) in
    let found = set_last chunks last c.args.place c.self.invariant.full c.args.item (omega (arith, first, c.if-chunk-len.false)) in
    ap (λ (n : ℕ). joined chunks ++ set last (c.args.place - 128 * n) c.args.item) count
    ∙ (sym found ∙ ap (λ (xs : List g.row.T.Denot). set xs c.args.place c.args.item) c.self.view_is)
