use Rattle.std.proofs.Common.{rules, ◌≡◌, ℕ, ◌<◌, length, inl, inr, true≢false, Option, Some, Err, refl, sym, ◌∙◌, ap, subst}
use Rattle.std.specs.Prelude.{Result}
use Rattle.std.proofs.lemmas.Option.{none-some}
use Rattle.std.proofs.lemmas.Result.{on_ok_weaker}
use Rattle.cmd_board.proofs.ChangeLaws.{stores_holds}
use Rattle.cmd_board.proofs.Exits.{unfound}
use Rattle.cmd_board.proofs.KeptLaws.{once_told}
use Rattle.cmd_board.proofs.LikeLaws.{real_stored, some_outlined}
use Rattle.cmd_board.specs.Halts.{told, halt_of_read}
use Rattle.cmd_board.specs.Kept.{AreSure, IsKept, kept_board}
use Rattle.cmd_board.specs.State.{Stores, migrated}
use Rattle.cmd_board.specs.declared.halt.BoardHalt.{BoardHalt}
use Rattle.board_layout.specs.Board.{Board}
use Rattle.board_layout.specs.Lookups.{place_of}
use Rattle.entry_runs.specs.Entry.{Works}
use Rattle.entry_runs.specs.Promise.{HasCauses, counts, ended}
use Rattle.jam_pack.specs.declared.error.PackError.TheVariants.{DiskFault}
use Rattle.jam_pack.specs.mail_board.Causes.{HasFault}
use Rattle.jam_pack.specs.mail_board.Held.{RestsOn}
use Rattle.jam_pack.specs.mail_board.declared.loading.Loaded.{Loaded}
use Rattle.cmd_board.proofs.ChangeExits.{refused_on, unmade_by}
use Rattle.cmd_board.specs.shelf_files.declared.refusal.Refusal.TheVariants.{NoConference}
use Rattle.jam_pack.specs.slot_changes.Packed.{packed, packed_count}
use Rattle.cmd_pack.proofs.PackAlike.{turn_packing, turn_unplaced}
use Rattle.cmd_pack.proofs.PackExits.{counted, pack_causes, pack_kept, pack_sure, works}
use Rattle.cmd_pack.specs.Pack.{pack_turn, packed_line, packs}
use Rattle.cmd_pack.proofs.packing.pack.Goals as goal

pub returns-in_err-find-clause-works : goal.returns-in_err-find-clause-works
returns-in_err-find-clause-works g c tells world shelf at =
    let is : c.from_residual.result ≡ Err (halt_of_read c.in_err-find.field-0.0) = search rules in
    subst (λ (r : Result ℕ BoardHalt). Works Stores (packs c.args.conference) world (g.H.Host.disk c.args.host.now) (g.H.Host.disk c.find.new.host) shelf (told (packed_line c.args.conference) r)) (sym is)
    (unfound (λ files board turn. turn ≡ pack_turn c.args.conference board) at (packed_line c.args.conference) c.find.new.kept c.in_err-find.field-0.0
    (c.in_err-find.ensures.finds tells world.state at.board.stores) (c.in_err-find.ensures.state tells world.state at.board.stores))

pub returns-in_err-found-clause-works : goal.returns-in_err-found-clause-works
returns-in_err-found-clause-works g c tells world shelf at =
    let e : BoardHalt = c.in_err-found.field-0.0 in
    let is : c.from_residual-in_err-found.result ≡ Err e = search rules in
    subst (λ (r : Result ℕ BoardHalt). Works Stores (packs c.args.conference) world (g.H.Host.disk c.args.host.now) (g.H.Host.disk c.find.new.host) shelf (told (packed_line c.args.conference) r)) (sym is)
    (unmade_by (λ files board turn. turn ≡ pack_turn c.args.conference board) at (kept_board c.find.new.kept) (c.in_ok-find.ensures.finds tells world.state at.board.stores) (c.in_ok-find.ensures.state tells world.state at.board.stores)
    (packed_line c.args.conference) e c.in_err-found.ensures.board.1 c.in_err-found.ensures.board.0 refl)

pub returns-in_err-place-clause-works : goal.returns-in_err-place-clause-works
returns-in_err-place-clause-works g c tells world shelf at =
    let e : BoardHalt = c.in_err-place.field-0.0 in
    let b : Board = c.in_ok-found.found.now.board in
    let is : c.from_residual-in_err-place.result ≡ Err e = search rules in
    subst (λ (r : Result ℕ BoardHalt). Works Stores (packs c.args.conference) world (g.H.Host.disk c.args.host.now) (g.H.Host.disk c.find.new.host) shelf (told (packed_line c.args.conference) r)) (sym is)
    (refused_on (λ files board turn. turn ≡ pack_turn c.args.conference board) at (kept_board c.find.new.kept) (c.in_ok-find.ensures.finds tells world.state at.board.stores) (c.in_ok-find.ensures.state tells world.state at.board.stores)
    (packed_line c.args.conference) b NoConference e c.in_ok-found.ensures.board c.in_err-place.ensures.place.0 (λ real valid alike. turn_unplaced c.args.conference b c.in_err-place.ensures.place.1 real alike))

-- there is a board to be taken
pub returns-in_err-board-clause-works : goal.returns-in_err-board-clause-works
returns-in_err-board-clause-works g c tells world shelf at = absurd (none-some c.in_ok-found.found.now.board (sym c.in_err-board.ensures.none.1 ∙ c.in_ok-found.ensures.board))

pub returns-clause-works : goal.returns-clause-works
returns-clause-works g c tells world shelf at =
    let held = c.in_ok-board.board in
    let here : c.find.new.kept ≡ _ = c.in_ok-board.ensures.board in
    let certain = subst AreSure here c.in_ok-find.ensures.sure in
    let disk = g.H.Host.disk c.find.new.host in
    let rests : RestsOn held.board disk = subst (λ (kept : Option Loaded). IsKept kept disk) here (c.in_ok-find.ensures.kept tells) in
    let finds = c.in_ok-find.ensures.finds tells world.state at.board.stores in
    let real = some_outlined (migrated world.state) (kept_board c.find.new.kept) held.board (ap kept_board here) (c.in_ok-find.ensures.state tells world.state at.board.stores) in
    let b : Board = real.board in
    let holds = stores_holds b disk rests.calm (real_stored finds b real.is) in
    let gives = c.pack-packed.ensures in
    let place : ℕ = c.in_ok-place.place in
    let found : c.in_ok-found.found.now.board ≡ held.board = let same : Some c.in_ok-found.found.now.board ≡ Some held.board = sym c.in_ok-found.ensures.board ∙ ap kept_board here in cc in
    let there = subst (λ (o : Board). place_of c.args.conference o ≡ Some place) found c.in_ok-place.ensures.place in
    subst (λ (r : Result ℕ BoardHalt). Works Stores (packs c.args.conference) world (g.H.Host.disk c.args.host.now) (g.H.Host.disk c.pack-packed.new.host) shelf (told (packed_line c.args.conference) r))
    (sym c.answered.ensures)
    (works c.args.conference place b real.valid at finds real.is c.pack-packed.result (record {
      moments = gives.moments tells certain.1 b holds;
      now_is = gives.now tells certain.1 b holds;
      settled = gives.settled tells certain.1;
      certain = λ doubt. true≢false (sym (gives.doubt.0 doubt) ∙ certain.1);
      undamaged = gives.undamaged tells;
      same = λ early. (gives.unchanged early).disk tells;
      rests = once_told _ c.pack-packed.result (on_ok_weaker c.pack-packed.result (λ next told. next told b holds) gives.next) tells;
    })
    (λ count ok. turn_packing c.args.conference held.board place count there (counted c.pack-packed.result count ok gives.count) b real.alike)
    (packed_count place held.board) (turn_packing c.args.conference held.board place (packed_count place held.board) there refl b real.alike))

pub pack-packed-requires-clause-place : goal.pack-packed-requires-clause-place
pack-packed-requires-clause-place g c =
    let held = c.in_ok-board.board in
    let found : c.in_ok-found.found.now.board ≡ held.board = let same : Some c.in_ok-found.found.now.board ≡ Some held.board = sym c.in_ok-found.ensures.board ∙ ap kept_board c.in_ok-board.ensures.board in cc in
    subst (λ (b : Board). c.in_ok-place.place < length b.conferences) found c.in_ok-place.ensures.within

pub returns-clause-kept : goal.returns-clause-kept
returns-clause-kept g c tells =
    let certain = subst AreSure c.in_ok-board.ensures.board c.in_ok-find.ensures.sure in
    let gives = c.pack-packed.ensures in
    subst (λ (kept : Option Loaded). IsKept kept (g.H.Host.disk c.pack-packed.new.host)) (sym c.keep_board.ensures)
    (pack_kept c.pack-packed.new.board (g.H.Host.disk c.pack-packed.new.host) (gives.rests tells certain.1) (gives.settled tells certain.1))

pub returns-clause-sure : goal.returns-clause-sure
returns-clause-sure g c =
    let held = c.in_ok-board.board in
    let certain = subst AreSure c.in_ok-board.ensures.board c.in_ok-find.ensures.sure in
    let gives = c.pack-packed.ensures in
    subst AreSure (sym c.keep_board.ensures)
    (pack_sure held c.pack-packed.new.board (packed c.in_ok-place.place held.board) certain.1 c.pack-packed.result certain.0 gives.board (λ early. (gives.unchanged early).board)
    (λ is. elim (gives.fault is) [ inl left ↦ inl left.board | inr doubted ↦ inr doubted ]))

pub returns-clause-causes : goal.returns-clause-causes
returns-clause-causes g c shelf =
    let certain = subst AreSure c.in_ok-board.ensures.board c.in_ok-find.ensures.sure in
    let gives = c.pack-packed.ensures in
    let disk : g.H.Host.disk_faults c.find.new.host ≡ g.H.Host.disk_faults c.args.host.now = search rules in
    let voice : g.H.Host.voice_faults c.find.new.host ≡ g.H.Host.voice_faults c.args.host.now = c.in_ok-find.ensures.voice in
    subst (λ (r : Result ℕ BoardHalt). HasCauses (counts (g.H.Host.disk_faults c.args.host.now) (g.H.Host.voice_faults c.args.host.now) shelf) (counts (g.H.Host.disk_faults c.pack-packed.new.host) (g.H.Host.voice_faults c.pack-packed.new.host) shelf) (ended (told (packed_line c.args.conference) r)))
    (sym c.answered.ensures)
    (pack_causes (gives.voice ∙ voice) (packed_line c.args.conference) c.pack-packed.result
    (subst (λ (before : ℕ). HasFault DiskFault before (g.H.Host.disk_faults c.pack-packed.new.host) c.pack-packed.result) disk gives.disk_cause) refl
    (λ doubt. true≢false (sym (gives.doubt.0 doubt) ∙ certain.1)))
