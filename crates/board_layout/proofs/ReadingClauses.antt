-- What a base and a ledger are read as, from the clauses of `read_base` and `Ledger::read`.
use Rattle.std.proofs.Common.{◌≡◌, inl, inr, ℕ, List, Ok, sym, ap, ◌∙◌, subst}
use Rattle.board_ledger.specs.Ledger.{ledger_of, stored_text}
use Rattle.board_ledger.specs.Valid.{IsStored}
use Rattle.board_ledger.specs.declared.ledger.Ledger.{Ledger}
use Rattle.board_ledger.proofs.LedgerLaws.{ledger_again}
use Rattle.jam_base.specs.jam_layout.Layout.{layout, conference_of}
use Rattle.jam_base.specs.jam_layout.Valid.{ShapeFits, IsConference}
use Rattle.jam_base.specs.jam_layout.declared.conference.ConferenceContents.{ConferenceContents}
use Rattle.jam_base.specs.jam_layout.declared.files.BaseFiles.{BaseFiles}
use Rattle.jam_base.specs.jam_layout.declared.shape.Shape.{Shape}
use Rattle.jam_base.proofs.jam_layout.ConferenceLayout.{is_layout}
use Rattle.board_layout.specs.Rules.{HasReadCause}

-- read from these files and this shape, which equal those that are asked for
pub base_read : (shape wanted : Shape) (files read : BaseFiles) (c : ConferenceContents) → shape ≡ wanted → files ≡ read → ShapeFits wanted → IsConference shape c → read ≡ layout shape c → conference_of wanted files ≡ Ok c
base_read shape wanted files read c same from fits ok laid =
    (λ i. conference_of (sym same i) (from i)) ∙ (ap (conference_of shape) laid ∙ is_layout shape c (subst ShapeFits (sym same) fits) ok)

pub ledger_read : (bytes read : List ℕ) (l : Ledger) → bytes ≡ read → IsStored l → read ≡ stored_text l → ledger_of bytes ≡ Ok l
ledger_read bytes read l from ok text = ap ledger_of (from ∙ text) ∙ ledger_again l ok

pub kept_at_ok : {T : Type 0} (x : T) (before now : ℕ) → HasReadCause {T = T} before now (Ok x) → now ≡ before
kept_at_ok x before now cause = elim cause.kept [ inl fault ↦ absurd cc | inr kept ↦ kept ]
