-- The conferences of a ledger are read exactly where the files of their places are their layouts.
use Rattle.std.proofs.Common.{◌≡◌, ℕ, ◌+◌, ◌≤◌, ◌<◌, List, [], ◌∷◌, length, Ok, refl, ap, ◌∙◌, subst, arith}
use Rattle.std.specs.List.{AllZip}
use Rattle.board_ledger.specs.Valid.{IsLedger}
use Rattle.board_ledger.specs.declared.ledger.Ledger.{Ledger}
use Rattle.board_ledger.specs.damage_rules.Rules.{◌>>=◌}
use Rattle.board_ledger.proofs.damage_rules.KeptRules.{bind_ok, ok_is}
use Rattle.board_ledger.specs.intent_journal.Patches.{HostFiles}
use Rattle.jam_base.specs.Change.{files_of_place}
use Rattle.jam_base.specs.jam_layout.Layout.{conference_of}
use Rattle.jam_base.specs.jam_layout.Valid.{BaseFilesFit, IsConference}
use Rattle.jam_base.specs.jam_layout.declared.conference.ConferenceContents.{ConferenceContents}
use Rattle.jam_base.specs.jam_layout.declared.shape.Shape.{Shape}
use Rattle.jam_base.proofs.jam_layout.ConferenceLayout.{layout_is, is_layout}
use Rattle.board_ledger.specs.setup_file.declared.conference.Conference.{Conference as SetupConference}
use Rattle.board_layout.specs.Board.{shape_of, shapes_from}
use Rattle.board_layout.specs.Damage.{conferences_of}
use Rattle.board_layout.specs.Layout.{layouts, AreAt}
use Rattle.board_layout.proofs.LedgerShapes.{shape_fits}

pub conferences_take : (l : Ledger) (place : ℕ) (setup : List SetupConference) (files : HostFiles) (conferences : List ConferenceContents)
    → ((k : ℕ) → k < 64 → BaseFilesFit (files_of_place k files)) → place + length setup ≤ 64 → conferences_of (shapes_from l place setup) files ≡ Ok conferences
    → AllZip IsConference (shapes_from l place setup) conferences × AreAt place (layouts (shapes_from l place setup) conferences) files
conferences_take l place [] files conferences fit few e = subst (λ (xs : List ConferenceContents). AllZip IsConference [] xs × AreAt place (layouts [] xs) files) (ok_is [] conferences e) (tt, tt)
conferences_take l place (c ∷ setup) files conferences fit few e =
    let shape : Shape = shape_of l place c.kind in
    let shapes : List Shape = shapes_from l (place + 1) setup in
    let a = bind_ok (conference_of shape (files_of_place place files)) (λ x. conferences_of shapes files >>= λ others. Ok (x ∷ others)) conferences e in
    let b = bind_ok (conferences_of shapes files) (λ others. Ok (a.0 ∷ others)) conferences a.2 in
    let one = layout_is shape (files_of_place place files) a.0 (fit place (omega arith)) a.1 in
    let others = conferences_take l (place + 1) setup files b.0 fit (omega arith) b.1 in
    subst (λ (xs : List ConferenceContents). AllZip IsConference (shape ∷ shapes) xs × AreAt place (layouts (shape ∷ shapes) xs) files) (ok_is (a.0 ∷ b.0) conferences b.2) ((one.1, others.0), (one.0, others.1))

pub conferences_again : (l : Ledger) (place : ℕ) (setup : List SetupConference) (files : HostFiles) (conferences : List ConferenceContents)
    → IsLedger l → AllZip IsConference (shapes_from l place setup) conferences → AreAt place (layouts (shapes_from l place setup) conferences) files
    → conferences_of (shapes_from l place setup) files ≡ Ok conferences
conferences_again l place [] files [] ok zip there = refl
conferences_again l place [] files (x ∷ conferences) ok zip there = absurd zip
conferences_again l place (c ∷ setup) files [] ok zip there = absurd zip
conferences_again l place (c ∷ setup) files (x ∷ conferences) ok zip there =
    let shape : Shape = shape_of l place c.kind in
    let shapes : List Shape = shapes_from l (place + 1) setup in
    let one = ap (conference_of shape) there.0 ∙ is_layout shape x (shape_fits l place c.kind ok) zip.0 in
    let others = conferences_again l (place + 1) setup files conferences ok zip.1 there.1 in
    ap (λ r. r >>= λ y. conferences_of shapes files >>= λ others. Ok (y ∷ others)) one ∙ ap (λ r. r >>= λ others. Ok (x ∷ others)) others
