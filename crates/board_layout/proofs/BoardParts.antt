-- What is read of a board, part by part: the ledger in its version, and in today's what stands behind it.
use Rattle.std.proofs.Common.{◌≡◌, ◌+◌, ◌-◌, List, length, Option, Result, Ok, refl, sym, ap, ◌∙◌, subst}
use Rattle.board_ledger.specs.Ledger.{ledger_of}
use Rattle.board_ledger.specs.Valid.{today}
use Rattle.board_ledger.specs.declared.ledger.Ledger.{Ledger}
use Rattle.board_ledger.specs.damage_rules.Rules.{◌>>=◌, Stops}
use Rattle.board_ledger.proofs.damage_rules.KeptRules.{bind_ok, step_fails}
use Rattle.door_outside.specs.File.{ledger_file}
use Rattle.board_ledger.specs.intent_journal.Patches.{HostFiles}
use Rattle.jam_base.specs.jam_layout.declared.conference.ConferenceContents.{ConferenceContents}
use Rattle.jam_records.specs.declared.damage.Damage.{Damage}
use Rattle.board_layout.specs.Board.{Board, shapes_of}
use Rattle.board_layout.specs.Damage.{conferences_of, are_rest, highs_of, parts_behind, parts_of}

-- the parts, each behind those before
abbrev pub ledger_in : HostFiles → Result Ledger Damage
ledger_in files = ledger_of (files ledger_file)

abbrev pub bases_in : HostFiles → Ledger → Result (List ConferenceContents) Damage
bases_in files l = conferences_of (shapes_of l) files

abbrev pub rest_in : HostFiles → Ledger → Result (Unit {0}) Damage
rest_in files l = are_rest (length l.setup.conferences) (64 - length l.setup.conferences) files

abbrev pub highs_in : Ledger → List ConferenceContents → Result (Unit {0}) Damage
highs_in l conferences = highs_of conferences (1 + length l.setup.conferences) l.users

abbrev made : Ledger → List ConferenceContents → Result Board Damage
made l conferences = Ok (record { ledger = l; conferences = conferences })

-- what is left behind each
unfoldable after_rest : Ledger → List ConferenceContents → Result Board Damage
after_rest l conferences = highs_in l conferences >>= λ within. made l conferences

unfoldable after_bases : HostFiles → Ledger → List ConferenceContents → Result Board Damage
after_bases files l conferences = rest_in files l >>= λ empty. after_rest l conferences

at_bases : (files : HostFiles) (l : Ledger) → parts_behind l files ≡ (bases_in files l >>= after_bases files l)
unfolding parts_behind after_bases after_rest
at_bases files l = refl

at_rest : (files : HostFiles) (l : Ledger) (cs : List ConferenceContents) → bases_in files l ≡ Ok cs → parts_behind l files ≡ (rest_in files l >>= λ empty. after_rest l cs)
unfolding after_bases
at_rest files l cs b = at_bases files l ∙ ap (λ r. r >>= after_bases files l) b

at_highs : (files : HostFiles) (l : Ledger) (cs : List ConferenceContents) (u : Unit {0}) → bases_in files l ≡ Ok cs → rest_in files l ≡ Ok u → parts_behind l files ≡ (highs_in l cs >>= λ within. made l cs)
unfolding after_rest
at_highs files l cs u b c = at_rest files l cs b ∙ ap (λ r. r >>= λ empty. after_rest l cs) c

pub all_parts : (files : HostFiles) (l : Ledger) (cs : List ConferenceContents) (u v : Unit {0}) → bases_in files l ≡ Ok cs → rest_in files l ≡ Ok u → highs_in l cs ≡ Ok v → parts_behind l files ≡ made l cs
all_parts files l cs u v b c d = at_highs files l cs u b c ∙ ap (λ r. r >>= λ within. made l cs) d

-- ---- behind the ledger
at_ledger : (files : HostFiles) → parts_of files ≡ (ledger_in files >>= λ raw. parts_behind (today raw) files)
unfolding parts_of
at_ledger files = refl

pub after_ledger : (files : HostFiles) (raw : Ledger) → ledger_in files ≡ Ok raw → parts_of files ≡ parts_behind (today raw) files
after_ledger files raw a = at_ledger files ∙ ap (λ r. r >>= λ raw. parts_behind (today raw) files) a

-- ---- the first part that fails
pub ledger_fails : (files : HostFiles) (e : Option Damage) → Stops e (ledger_in files) → Stops e (parts_of files)
ledger_fails files e h = subst (Stops e) (sym (at_ledger files)) (step_fails e (ledger_in files) (λ raw. parts_behind (today raw) files) h)

pub bases_fail : (files : HostFiles) (l : Ledger) (e : Option Damage) → Stops e (bases_in files l) → Stops e (parts_behind l files)
bases_fail files l e h = subst (Stops e) (sym (at_bases files l)) (step_fails e (bases_in files l) (after_bases files l) h)

pub rest_fails : (files : HostFiles) (l : Ledger) (cs : List ConferenceContents) (e : Option Damage) → bases_in files l ≡ Ok cs → Stops e (rest_in files l) → Stops e (parts_behind l files)
rest_fails files l cs e b h = subst (Stops e) (sym (at_rest files l cs b)) (step_fails e (rest_in files l) (λ empty. after_rest l cs) h)

pub highs_fail : (files : HostFiles) (l : Ledger) (cs : List ConferenceContents) (u : Unit {0}) (e : Option Damage) → bases_in files l ≡ Ok cs → rest_in files l ≡ Ok u → Stops e (highs_in l cs) → Stops e (parts_behind l files)
highs_fail files l cs u e b c h = subst (Stops e) (sym (at_highs files l cs u b c)) (step_fails e (highs_in l cs) (λ within. made l cs) h)

-- ---- the parts of a board that was read
pub record Parts (files : HostFiles) (b : Board) : Type 0 where
  -- the ledger as the file has it
  pub ledger : Ledger
  pub conferences : List ConferenceContents
  pub rest : Unit {0}
  pub highs : Unit {0}
  pub at_ledger : ledger_in files ≡ Ok ledger
  pub at_bases : bases_in files (today ledger) ≡ Ok conferences
  pub at_rest : rest_in files (today ledger) ≡ Ok rest
  pub at_highs : highs_in (today ledger) conferences ≡ Ok highs
  pub at_end : made (today ledger) conferences ≡ Ok b

pub board_parts : (files : HostFiles) (b : Board) → parts_of files ≡ Ok b → Parts files b
unfolding after_bases after_rest
board_parts files b e =
    let a = bind_ok (ledger_in files) (λ raw. parts_behind (today raw) files) b (sym (at_ledger files) ∙ e) in
    let l : Ledger = today a.0 in
    let c = bind_ok (bases_in files l) (after_bases files l) b (sym (at_bases files l) ∙ a.2) in
    let d = bind_ok (rest_in files l) (λ empty. after_rest l c.0) b c.2 in
    let f = bind_ok (highs_in l c.0) (λ within. made l c.0) b d.2 in
    record {
      ledger = a.0;
      conferences = c.0;
      rest = d.0;
      highs = f.0;
      at_ledger = a.1;
      at_bases = c.1;
      at_rest = d.1;
      at_highs = f.1;
      at_end = f.2;
    }
