use Rattle.std.proofs.Common.{◌≡◌, ◌∙◌, ◌+◌, List, length, Some, sym, ap, subst, arith}
use Rattle.std.proofs.lemmas.Result.{err_from_is_err_and}
use Rattle.board_ledger.specs.declared.ledger.Ledger.{Ledger}
use Rattle.board_ledger.specs.damage_rules.Rules.{Stops}
use Rattle.board_ledger.specs.intent_journal.Patches.{HostFiles}
use Rattle.jam_base.specs.Contents.{Contents}
use Rattle.jam_base.specs.jam_layout.declared.conference.ConferenceContents.{ConferenceContents}
use Rattle.board_layout.specs.Board.{conferences_in}
use Rattle.board_layout.specs.Damage.{highs_of}
use Rattle.board_layout.specs.Rules.{damage_of_read}
use Rattle.board_layout.proofs.BoardParts.{bases_fail, rest_fails, highs_fail, all_parts}
use Rattle.board_layout.proofs.HighLaws.{highs_alike, highs_asked, highs_take}
use Rattle.board_layout.proofs.ReadingParts.{has_places}
use Rattle.board_layout.proofs.RestLaws.{rest_asked}
use Rattle.board_layout.proofs.read.read_conferences.Goals as goal

pub returns-in_err-bases-clause-gives : goal.returns-in_err-bases-clause-gives
returns-in_err-bases-clause-gives g c =
    let p = err_from_is_err_and c.from_residual.result c.from_residual.ensures.1 in
    rw (p.1, p.2) (λ tells. bases_fail (g.H.Host.disk c.args.host.now).files c.args.ledger.now (damage_of_read c.in_err-bases.field-0.0) (c.in_err-bases.ensures.gives tells))

pub returns-in_err-check_rests-clause-gives : goal.returns-in_err-check_rests-clause-gives
returns-in_err-check_rests-clause-gives g c =
    let p = err_from_is_err_and c.from_residual-in_err-check_rests.result c.from_residual-in_err-check_rests.ensures.1 in
    let l : Ledger = c.args.ledger.now in
    let places : c.conference_count-places.result ≡ length l.setup.conferences = c.conference_count-places.ensures in
    let files : HostFiles = (g.H.Host.disk c.args.host.now).files in
    let e = damage_of_read c.in_err-check_rests.field-0.0 in
    rw (p.1, p.2) (λ tells.
    let read = c.in_ok-bases.ensures.gives tells in
    let same = (c.read_bases.ensures.unchanged tells).files in
    rest_fails files l read.whole e read.is_read (subst (Stops e) (rest_asked _ _ _ files places same) (c.in_err-check_rests.ensures.gives tells)))

pub returns-in_err-check_highs-clause-gives : goal.returns-in_err-check_highs-clause-gives
returns-in_err-check_highs-clause-gives g c =
    let p = err_from_is_err_and c.from_residual-in_err-check_highs.result c.from_residual-in_err-check_highs.ensures.1 in
    let l : Ledger = c.args.ledger.now in
    let bases : List Contents = c.in_ok-bases.bases in
    let places : c.conference_count-places.result ≡ length l.setup.conferences = c.conference_count-places.ensures in
    let first : 1 + c.from.result ≡ 1 + length l.setup.conferences = omega (arith, places, c.from.ensures) in
    let asked = highs_asked c.as_slice.result.now bases (1 + c.from.result) (1 + length l.setup.conferences) c.as_slice-2.result.now l.users c.as_slice.ensures first c.as_slice-2.ensures in
    let files : HostFiles = (g.H.Host.disk c.args.host.now).files in
    rw (p.1, p.2) (λ tells.
    let read = c.in_ok-bases.ensures.gives tells in
    let rest = sym (rest_asked _ _ _ files places (c.read_bases.ensures.unchanged tells).files) ∙ c.in_ok-check_rests.ensures.gives tells in
    let whole = sym (highs_alike read.whole (1 + length l.setup.conferences) l.users) ∙ ap (λ (cs : List ConferenceContents). highs_of cs (1 + length l.setup.conferences) l.users) (sym read.holds.alike) in
    highs_fail files l read.whole _ (Some c.in_err-check_highs.field-0.0) read.is_read rest (whole ∙ (sym asked ∙ sym c.in_err-check_highs.ensures)))

pub returns-clause-highs : goal.returns-clause-highs
returns-clause-highs g c =
    let l : Ledger = c.args.ledger.now in
    let bases : List Contents = c.in_ok-bases.bases in
    let places : c.conference_count-places.result ≡ length l.setup.conferences = c.conference_count-places.ensures in
    let first : 1 + c.from.result ≡ 1 + length l.setup.conferences = omega (arith, places, c.from.ensures) in
    let asked = highs_asked c.as_slice.result.now bases (1 + c.from.result) (1 + length l.setup.conferences) c.as_slice-2.result.now l.users c.as_slice.ensures first c.as_slice-2.ensures in
    highs_take (conferences_in bases) (1 + length l.setup.conferences) l.users _ (sym asked ∙ sym c.in_ok-check_highs.ensures)

pub returns-clause-gives : goal.returns-clause-gives
returns-clause-gives g c = λ tells.
    let l : Ledger = c.args.ledger.now in
    let bases : List Contents = c.in_ok-bases.bases in
    let places : c.conference_count-places.result ≡ length l.setup.conferences = c.conference_count-places.ensures in
    let first : 1 + c.from.result ≡ 1 + length l.setup.conferences = omega (arith, places, c.from.ensures) in
    let asked = highs_asked c.as_slice.result.now bases (1 + c.from.result) (1 + length l.setup.conferences) c.as_slice-2.result.now l.users c.as_slice.ensures first c.as_slice-2.ensures in
    let files : HostFiles = (g.H.Host.disk c.args.host.now).files in
    let read = c.in_ok-bases.ensures.gives tells in
    let rest = sym (rest_asked _ _ _ files places (c.read_bases.ensures.unchanged tells).files) ∙ c.in_ok-check_rests.ensures.gives tells in
    let whole = sym (highs_alike read.whole (1 + length l.setup.conferences) l.users) ∙ ap (λ (cs : List ConferenceContents). highs_of cs (1 + length l.setup.conferences) l.users) (sym read.holds.alike) in
    let highs = whole ∙ (sym asked ∙ sym c.in_ok-check_highs.ensures) in
    record {
      whole = record { ledger = l; conferences = read.whole };
      is_read = all_parts files l read.whole _ _ read.is_read rest highs;
      holds = record {
        alike = λ i. record { ledger = l; conferences = read.holds.alike i };
        valid = read.holds.valid;
        highs = highs_take read.whole (1 + length l.setup.conferences) l.users _ highs;
        stored = has_places l read.whole read.holds.valid files _ read.holds.stored rest;
      };
    }
