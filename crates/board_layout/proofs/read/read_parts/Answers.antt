use Rattle.std.proofs.Common.{◌≡◌, ◌∙◌, eqb, sym, ap, subst, arith}
use Rattle.std.specs.Prelude.{All, IsTrue}
use Rattle.std.specs.List.{AllZip}
use Rattle.std.proofs.lemmas.Result.{err_from_is_err_and}
use Rattle.board_ledger.specs.Valid.{IsLedger, today}
use Rattle.board_ledger.proofs.VersionLaws.{today_valid}
use Rattle.board_ledger.specs.declared.ledger.Ledger.{Ledger}
use Rattle.board_ledger.specs.damage_rules.Rules.{Stops}
use Rattle.board_ledger.specs.intent_journal.Patches.{HostFiles}
use Rattle.jam_base.specs.jam_layout.Valid.{IsConference}
use Rattle.board_layout.specs.Board.{Board, shapes_of}
use Rattle.board_layout.specs.Damage.{parts_behind}
use Rattle.board_layout.specs.Layout.{board_size}
use Rattle.board_layout.specs.Rules.{ArePartsOf, IsLaidOutAs, damage_of_read}
use Rattle.board_layout.specs.Valid.{offers_fit}
use Rattle.board_layout.proofs.BoardParts.{after_ledger, ledger_fails}
use Rattle.board_layout.proofs.OutlineLaws.{outline_size}
use Rattle.board_layout.proofs.ReadingParts.{laid_out, small}
use Rattle.board_layout.proofs.read.read_parts.Goals as goal

pub returns-in_err-ledger-clause-gives : goal.returns-in_err-ledger-clause-gives
returns-in_err-ledger-clause-gives g c =
    let p = err_from_is_err_and c.from_residual.result c.from_residual.ensures.1 in
    rw (p.1, p.2) (λ tells. ledger_fails (g.H.Host.disk c.args.host.now).files (damage_of_read c.in_err-ledger.field-0.0) (c.in_err-ledger.ensures.gives tells))

pub returns-in_err-bases-clause-gives : goal.returns-in_err-bases-clause-gives
returns-in_err-bases-clause-gives g c =
    let p = err_from_is_err_and c.from_residual-in_err-bases.result c.from_residual-in_err-bases.ensures.1 in
    let e = damage_of_read c.in_err-bases.field-0.0 in
    let raw : Ledger = c.in_ok-ledger.ledger in
    let files : HostFiles = (g.H.Host.disk c.args.host.now).files in
    rw (p.1, p.2) (λ tells.
    let failed = subst (λ (now : HostFiles). Stops e (parts_behind (today raw) now)) (c.read_ledger.ensures.unchanged tells).files (c.in_err-bases.ensures.gives tells) in
    subst (Stops e) (sym (after_ledger files raw (c.in_ok-ledger.ensures.gives tells))) failed)

pub returns-in-Some-clause-gives : goal.returns-in-Some-clause-gives
returns-in-Some-clause-gives g c = λ tells.
    let raw : Ledger = c.in_ok-ledger.ledger in
    let files : HostFiles = (g.H.Host.disk c.args.host.now).files in
    let same = (c.read_ledger.ensures.unchanged tells).files in
    let read = c.in_ok-bases.ensures.gives tells in
    let parts : ArePartsOf (today raw) files c.in_ok-bases.bases read.whole = subst (λ (now : HostFiles). ArePartsOf (today raw) now c.in_ok-bases.bases read.whole) same read.holds in
    let ledger : read.whole.ledger ≡ today raw = sym (ap (λ (b : Board). b.ledger) parts.alike) in
    let laid = laid_out raw read.whole ledger parts.valid files c.in_ok-ledger.ensures.ledger (c.in_ok-ledger.ensures.layout tells) parts.stored (c.requires tells) in
    record {
      whole = read.whole;
      is_read = after_ledger files raw (c.in_ok-ledger.ensures.gives tells) ∙ (ap (parts_behind (today raw)) (sym same) ∙ read.is_read);
      holds = record {
        alike = c.in-Some.ensures ∙ parts.alike;
        valid = record {
          ledger = subst IsLedger (sym ledger) (today_valid raw c.in_ok-ledger.ensures.ledger);
          conferences = subst (λ (l : Ledger). AllZip IsConference (shapes_of l) read.whole.conferences) (sym ledger) parts.valid;
          highs = subst (λ (l : Ledger). All (λ u. IsTrue (offers_fit read.whole.conferences u.offers)) l.users) (sym ledger) parts.highs;
          small = small raw read.whole ledger parts.valid files c.in_ok-ledger.ensures.ledger (c.in_ok-ledger.ensures.layout tells) parts.stored (c.requires tells);
        };
        stored = subst (λ n. IsLaidOutAs (eqb n 1) read.whole files) (sym c.version-is_old.ensures) laid;
      };
    }

pub returns-in-None-clause-gives : goal.returns-in-None-clause-gives
returns-in-None-clause-gives g c = λ tells.
    let raw : Ledger = c.in_ok-ledger.ledger in
    let files : HostFiles = (g.H.Host.disk c.args.host.now).files in
    let read = c.in_ok-bases.ensures.gives tells in
    let parts : ArePartsOf (today raw) files c.in_ok-bases.bases read.whole = subst (λ (now : HostFiles). ArePartsOf (today raw) now c.in_ok-bases.bases read.whole) (c.read_ledger.ensures.unchanged tells).files read.holds in
    let ledger : read.whole.ledger ≡ today raw = sym (ap (λ (b : Board). b.ledger) parts.alike) in
    let most = small raw read.whole ledger parts.valid files c.in_ok-ledger.ensures.ledger (c.in_ok-ledger.ensures.layout tells) parts.stored (c.requires tells) in
    absurd (omega (arith, c.in-None.ensures, ap board_size parts.alike, outline_size read.whole, most))
