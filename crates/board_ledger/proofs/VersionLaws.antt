-- The numbers of versions, and a ledger that a file has: its version, and what is valid of it.
use Rattle.std.proofs.Common.{◌≡◌, ◌^◌, ◌<◌, ℕ, false, true, ◌||◌, eqb, refl, sym, ap, ◌∙◌, arith, inl, inr}
use Rattle.std.specs.Prelude.{All}
use Rattle.std.proofs.lemmas.Bool.{cases_eq, cond-true, cond-false, eq-eqb, ne_eqb, eqb-true}
use Rattle.board_ledger.specs.Ledger.{ledger_text, stored_text, text_in}
use Rattle.board_ledger.specs.Opening.{fixed_text}
use Rattle.board_ledger.specs.Users.{IsOldUser}
use Rattle.board_ledger.specs.Valid.{IsLedger, IsStored, today}
use Rattle.open_offers.specs.Versions.{version_number, version_of, wrong_version}
use Rattle.board_ledger.specs.declared.ledger.Ledger.{Ledger}
use Rattle.open_offers.specs.declared.version.Version.{Version}
use Rattle.open_offers.specs.declared.version.Version.TheVariants.{First, Second}
use Rattle.damage_rules.proofs.BoolTests.{not_not}

-- ---- numbers
pub number_back : (v : Version) → version_of (version_number v) ≡ v
number_back First = refl
number_back Second = refl

pub number_right : (v : Version) → wrong_version (version_number v) ≡ false
number_right First = refl
number_right Second = refl

pub number_small : (v : Version) → version_number v < 2 ^ 16
number_small First = omega arith
number_small Second = omega arith

pub version_back : (n : ℕ) → wrong_version n ≡ false → version_number (version_of n) ≡ n
version_back n e = elim (cases_eq n 1) [
  | inl is ↦ ap version_number (cond-true (eqb n 1) First Second (eq-eqb n 1 is)) ∙ sym is
  | inr other ↦
      let two : eqb n 2 ≡ true = sym (ap (λ b. b || eqb n 2) (ne_eqb n 1 other)) ∙ not_not (eqb n 1 || eqb n 2) e in
      ap version_number (cond-false (eqb n 1) First Second (ne_eqb n 1 other)) ∙ sym (eqb-true n 2 two)
]

-- ---- a ledger in version 2
pub as_today : (l : Ledger) → IsLedger l → IsLedger (today l)
as_today l ok = record {
  version = refl;
  setup = ok.setup;
  created = ok.created;
  few_users = ok.few_users;
  users = ok.users;
  names = ok.names;
  few_uploads = ok.few_uploads;
  uploads = ok.uploads;
  pairs = ok.pairs;
}

of_today : (l : Ledger) → l.version ≡ 2 → IsLedger (today l) → IsLedger l
of_today l is ok = record {
  version = is;
  setup = ok.setup;
  created = ok.created;
  few_users = ok.few_users;
  users = ok.users;
  names = ok.names;
  few_uploads = ok.few_uploads;
  uploads = ok.uploads;
  pairs = ok.pairs;
}

pub text_today : (l : Ledger) → ledger_text (today l) ≡ ledger_text l
unfolding text_in fixed_text
text_today l = refl

pub stored_written : (l : Ledger) → IsLedger l → stored_text l ≡ ledger_text l
stored_written l ok = ap (λ n. text_in (version_of n) l) ok.version

-- ---- a ledger that a file has
pub record InVersion (l : Ledger) : Type 0 where
  pub v : Version
  pub version : l.version ≡ version_number v
  pub valid : IsLedger (today l)
  pub old : v ≡ First → All IsOldUser l.users

pub in_version : (l : Ledger) → IsStored l → InVersion l
in_version l (inl ok) = record { v = Second; version = ok.version; valid = as_today l ok; old = λ is. absurd (cc is) }
in_version l (inr ok) = record { v = First; version = ok.version; valid = ok.valid; old = λ is. ok.offers }

pub stored_in : (l : Ledger) (v : Version) → l.version ≡ version_number v → IsLedger (today l) → (v ≡ First → All IsOldUser l.users) → IsStored l
stored_in l First version valid old = inr (record { version = version; valid = valid; offers = old refl })
stored_in l Second version valid old = inl (of_today l version valid)

pub today_valid : (l : Ledger) → IsStored l → IsLedger (today l)
today_valid l stored = (in_version l stored).valid

-- the text that is stored is that of the version
pub text_stored : (l : Ledger) (v : Version) → l.version ≡ version_number v → stored_text l ≡ text_in v l
text_stored l v version = ap (λ (w : Version). text_in w l) (ap version_of version ∙ number_back v)
