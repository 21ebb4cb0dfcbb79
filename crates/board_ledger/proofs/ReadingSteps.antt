-- What is read of a ledger, part by part.
use Rattle.std.proofs.Common.{◌≡◌, ℕ, ◌+◌, eqb, not, List, [], ◌∷◌, length, drop, Option, Result, Ok, refl, sym, ap, ◌∙◌, subst}
use Rattle.jam_records.specs.declared.damage.Damage.{Damage}
use Rattle.jam_records.specs.declared.damage.DamageRule.TheVariants.{Rest}
use Rattle.damage_rules.specs.Rules.{by_rules, ◌>>=◌, Stops}
use Rattle.damage_rules.proofs.KeptRules.{bind_ok, step_fails}
use Rattle.setup_file.specs.declared.conference.Conference.{Conference}
use Rattle.board_ledger.specs.Records.{records_at}
use Rattle.board_ledger.specs.Opening.{opening_at}
use Rattle.board_ledger.specs.Conferences.{conference_at}
use Rattle.board_ledger.specs.Users.{user_at}
use Rattle.board_ledger.specs.Uploads.{upload_at}
use Rattle.board_ledger.specs.Ledger.{ledger_with, ledger_of}
use Rattle.board_ledger.specs.declared.ledger.Ledger.{Ledger}
use Rattle.board_ledger.specs.declared.opening.Opening.{Opening}
use Rattle.board_ledger.specs.declared.upload.UploadRecord.{UploadRecord}
use Rattle.board_ledger.specs.declared.user.User.{User}

-- the parts, each behind those before
abbrev pub conferences_in : List ℕ → Opening → Result (List Conference × List ℕ) Damage
conferences_in bytes o = records_at conference_at o.conferences [] (drop o.size bytes)

abbrev pub users_in : Opening → List ℕ → Result (List User × List ℕ) Damage
users_in o bytes = records_at (user_at o.version o.conferences) o.users [] bytes

abbrev pub uploads_in : Opening → List ℕ → Result (List UploadRecord × List ℕ) Damage
uploads_in o bytes = records_at (upload_at (1 + o.conferences + o.users) o.users) o.uploads [] bytes

abbrev pub ledger_in : Opening → List Conference → List User → List UploadRecord × List ℕ → Result Ledger Damage
ledger_in o cs us x = by_rules 0 (1 + o.conferences + o.users + o.uploads) ((Rest, not (eqb (length x.1) 0)) ∷ []) (ledger_with o cs us x.0)

-- what is left behind each
unfoldable after_users : Opening → List Conference → List User × List ℕ → Result Ledger Damage
after_users o cs x = uploads_in o x.1 >>= ledger_in o cs x.0

unfoldable after_conferences : Opening → List Conference × List ℕ → Result Ledger Damage
after_conferences o x = users_in o x.1 >>= after_users o x.0

unfoldable after_opening : List ℕ → Opening → Result Ledger Damage
after_opening bytes o = conferences_in bytes o >>= after_conferences o

at_opening : (bytes : List ℕ) → ledger_of bytes ≡ (opening_at bytes >>= after_opening bytes)
unfolding ledger_of after_opening after_conferences after_users
at_opening bytes = refl

at_conferences : (bytes : List ℕ) (o : Opening) → opening_at bytes ≡ Ok o → ledger_of bytes ≡ (conferences_in bytes o >>= after_conferences o)
unfolding after_opening
at_conferences bytes o is = at_opening bytes ∙ ap (λ r. r >>= after_opening bytes) is

at_users : (bytes : List ℕ) (o : Opening) (cs : List Conference × List ℕ) → opening_at bytes ≡ Ok o → conferences_in bytes o ≡ Ok cs → ledger_of bytes ≡ (users_in o cs.1 >>= after_users o cs.0)
unfolding after_conferences
at_users bytes o cs a b = at_conferences bytes o a ∙ ap (λ r. r >>= after_conferences o) b

at_uploads : (bytes : List ℕ) (o : Opening) (cs : List Conference × List ℕ) (us : List User × List ℕ) → opening_at bytes ≡ Ok o → conferences_in bytes o ≡ Ok cs → users_in o cs.1 ≡ Ok us
    → ledger_of bytes ≡ (uploads_in o us.1 >>= ledger_in o cs.0 us.0)
unfolding after_users
at_uploads bytes o cs us a b c = at_users bytes o cs a b ∙ ap (λ r. r >>= after_users o cs.0) c

pub at_end : (bytes : List ℕ) (o : Opening) (cs : List Conference × List ℕ) (us : List User × List ℕ) (rs : List UploadRecord × List ℕ)
    → opening_at bytes ≡ Ok o → conferences_in bytes o ≡ Ok cs → users_in o cs.1 ≡ Ok us → uploads_in o us.1 ≡ Ok rs → ledger_of bytes ≡ ledger_in o cs.0 us.0 rs
at_end bytes o cs us rs a b c d = at_uploads bytes o cs us a b c ∙ ap (λ r. r >>= ledger_in o cs.0 us.0) d

-- ---- the first part that fails
pub opening_fails : (bytes : List ℕ) (e : Option Damage) → Stops e (opening_at bytes) → Stops e (ledger_of bytes)
opening_fails bytes e h = subst (Stops e) (sym (at_opening bytes)) (step_fails e (opening_at bytes) (after_opening bytes) h)

pub conferences_fail : (bytes : List ℕ) (o : Opening) (e : Option Damage) → opening_at bytes ≡ Ok o → Stops e (conferences_in bytes o) → Stops e (ledger_of bytes)
conferences_fail bytes o e a h = subst (Stops e) (sym (at_conferences bytes o a)) (step_fails e (conferences_in bytes o) (after_conferences o) h)

pub users_fail : (bytes : List ℕ) (o : Opening) (cs : List Conference × List ℕ) (e : Option Damage) → opening_at bytes ≡ Ok o → conferences_in bytes o ≡ Ok cs → Stops e (users_in o cs.1) → Stops e (ledger_of bytes)
users_fail bytes o cs e a b h = subst (Stops e) (sym (at_users bytes o cs a b)) (step_fails e (users_in o cs.1) (after_users o cs.0) h)

pub uploads_fail : (bytes : List ℕ) (o : Opening) (cs : List Conference × List ℕ) (us : List User × List ℕ) (e : Option Damage)
    → opening_at bytes ≡ Ok o → conferences_in bytes o ≡ Ok cs → users_in o cs.1 ≡ Ok us → Stops e (uploads_in o us.1) → Stops e (ledger_of bytes)
uploads_fail bytes o cs us e a b c h = subst (Stops e) (sym (at_uploads bytes o cs us a b c)) (step_fails e (uploads_in o us.1) (ledger_in o cs.0 us.0) h)

-- ---- the parts of a ledger that was read
pub record Parts (bytes : List ℕ) (l : Ledger) : Type 0 where
  pub opening : Opening
  pub conferences : List Conference × List ℕ
  pub users : List User × List ℕ
  pub uploads : List UploadRecord × List ℕ
  pub at_opening : opening_at bytes ≡ Ok opening
  pub at_conferences : conferences_in bytes opening ≡ Ok conferences
  pub at_users : users_in opening conferences.1 ≡ Ok users
  pub at_uploads : uploads_in opening users.1 ≡ Ok uploads
  pub at_end : ledger_in opening conferences.0 users.0 uploads ≡ Ok l

pub ledger_parts : (bytes : List ℕ) (l : Ledger) → ledger_of bytes ≡ Ok l → Parts bytes l
unfolding after_opening after_conferences after_users
ledger_parts bytes l e =
    let a = bind_ok (opening_at bytes) (after_opening bytes) l (sym (at_opening bytes) ∙ e) in
    let b = bind_ok (conferences_in bytes a.0) (after_conferences a.0) l a.2 in
    let c = bind_ok (users_in a.0 b.0.1) (after_users a.0 b.0.0) l b.2 in
    let d = bind_ok (uploads_in a.0 c.0.1) (ledger_in a.0 b.0.0 c.0.0) l c.2 in
    record {
      opening = a.0;
      conferences = b.0;
      users = c.0;
      uploads = d.0;
      at_opening = a.1;
      at_conferences = b.1;
      at_users = c.1;
      at_uploads = d.1;
      at_end = d.2;
    }
