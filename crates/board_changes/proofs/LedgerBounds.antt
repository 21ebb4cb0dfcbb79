-- How long the text of a valid ledger is at most.
use Rattle.std.proofs.Common.{ℕ, ◌*◌, ◌≤◌, List, [], ◌∷◌, length, arith, length-append}
use Rattle.std.specs.Prelude.{All}
use Rattle.std.specs.List.{flat_map}
use Rattle.std.proofs.lemmas.List.Elements.{All-drop}
use Rattle.board_ledger.specs.Conferences.{conference_text}
use Rattle.board_ledger.specs.Ledger.{ledger_text}
use Rattle.board_ledger.specs.Opening.{setup_text}
use Rattle.board_ledger.specs.Users.{user_text, users_text, IsUser}
use Rattle.board_ledger.specs.Valid.{IsLedger}
use Rattle.board_ledger.specs.declared.ledger.Ledger.{Ledger}
use Rattle.board_ledger.specs.declared.user.User.{User}
use Rattle.board_ledger.specs.open_offers.declared.version.Version.TheVariants.{Second}
use Rattle.board_ledger.proofs.SetupBounds.{board_small, user_small, bbsid_small, name_small, zones_few}
use Rattle.board_ledger.proofs.SizeLaws.{behind_most, ledger_length, setup_length, conference_length, user_length}
use Rattle.board_ledger.specs.setup_file.Valid.{IsSetup, IsSetupConference}
use Rattle.board_ledger.specs.setup_file.declared.conference.Conference.{Conference as SetupConference}
use Rattle.board_ledger.specs.setup_file.declared.fields.SetupFields.{SetupFields}

pub setup_at_most : (s : SetupFields) → IsSetup s → length (setup_text s) ≤ 400
setup_at_most s ok = omega (
  arith,
  setup_length s,
  board_small s.board ok.board,
  board_small s.city ok.city,
  board_small s.phone ok.phone,
  user_small s.sysop ok.sysop,
  bbsid_small s.bbsid ok.bbsid,
  zones_few s.zones ok.zones,
)

pub conferences_at_most : (conferences : List SetupConference) → All IsSetupConference conferences → length (flat_map conference_text conferences) ≤ 19 * length conferences
conferences_at_most [] each = omega arith
conferences_at_most (c ∷ conferences) each =
    let here : IsSetupConference c = each 0 c (omega arith) in
    omega (
      arith,
      length-append (conference_text c) (flat_map conference_text conferences),
      conference_length c,
      name_small c.name here.name,
      conferences_at_most conferences (All-drop IsSetupConference 1 (c ∷ conferences) each),
    )

users_at_most : (count : ℕ) (users : List User) → count ≤ 64 → All (IsUser count) users → length (users_text Second count users) ≤ 1080 * length users
users_at_most count [] many each = omega arith
users_at_most count (u ∷ users) many each =
    let here : IsUser count u = each 0 u (omega arith) in
    omega (
      arith,
      length-append (user_text Second count u) (users_text Second count users),
      user_length Second count u here,
      user_small u.name here.name,
      behind_most Second count many,
      users_at_most count users many (All-drop (IsUser count) 1 (u ∷ users) each),
    )

pub ledger_at_most : (l : Ledger) → IsLedger l → length (ledger_text l) ≤ 5000000
ledger_at_most l ok = omega (
  arith,
  ledger_length Second l (λ k d within. (ok.uploads k d within).digest),
  setup_at_most l.setup ok.setup,
  conferences_at_most l.setup.conferences ok.setup.conferences.each,
  users_at_most (length l.setup.conferences) l.users ok.setup.conferences.many ok.users,
  ok.setup.conferences.many,
  ok.few_users,
  ok.few_uploads,
)
