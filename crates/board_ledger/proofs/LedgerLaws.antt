-- Bytes are read as a ledger exactly where they are its text, from the laws on each kind of record.
use Rattle.std.proofs.Common.{◌≡◌, ◌↔◌, ℕ, ◌+◌, false, not, eqb, List, [], ◌∷◌, ◌++◌, length, drop, None, Some, Result, Ok, Err, refl, sym, ap, ◌∙◌, subst, arith}
use Rattle.std.specs.Prelude.{All}
use Rattle.std.specs.List.{flat_map}
use Rattle.std.proofs.lemmas.Bool.{eqb-true}
use Rattle.std.proofs.lemmas.List.{append-nil, nil_from_length}
use Rattle.std.proofs.lemmas.List.Elements.{All-drop, All-cons, All-nil}
use Rattle.jam_records.specs.byte_lists.Byte.{IsByte}
use Rattle.jam_records.specs.declared.damage.Damage.{Damage}
use Rattle.jam_records.specs.declared.damage.DamageRule.TheVariants.{Rest}
use Rattle.damage_rules.specs.Rules.{damage_of}
use Rattle.damage_rules.proofs.KeptRules.{rules_kept, kept_rules, ok_is}
use Rattle.setup_file.specs.Valid.{IsSetup, IsSetupConference, AreSetupConferences}
use Rattle.setup_file.specs.declared.conference.Conference.{Conference}
use Rattle.setup_file.specs.declared.fields.SetupFields.{SetupFields}
use Rattle.board_ledger.specs.Records.{records_at, EachBehind}
use Rattle.board_ledger.specs.Opening.{fixed_text, setup_text, opening_text, opening_at}
use Rattle.board_ledger.specs.Conferences.{conference_text, conference_at, out_of_order}
use Rattle.board_ledger.specs.Users.{user_text, users_text, user_at, is_taken, IsUser, IsOldUser}
use Rattle.board_ledger.specs.Uploads.{upload_text, upload_at, is_repeated, IsUpload}
use Rattle.board_ledger.specs.Ledger.{text_in, stored_text, with_conferences, ledger_with, ledger_of, ledger_damage}
use Rattle.board_ledger.specs.Valid.{IsLedger, IsStored, today}
use Rattle.open_offers.specs.Versions.{version_number}
use Rattle.board_ledger.specs.declared.ledger.Ledger.{Ledger}
use Rattle.board_ledger.specs.declared.opening.Opening.{Opening}
use Rattle.board_ledger.specs.declared.upload.UploadRecord.{UploadRecord}
use Rattle.board_ledger.specs.declared.user.User.{User}
use Rattle.open_offers.specs.declared.version.Version.{Version}
use Rattle.open_offers.specs.declared.version.Version.TheVariants.{First}
use Rattle.damage_rules.proofs.BoolTests.{not_not}
use Rattle.board_ledger.proofs.ConferenceLaws.{ConferenceRight, conference_takes, conference_again, order_rises, rising_order}
use Rattle.board_ledger.proofs.OpeningLaws.{fixed_of, opening_takes, opening_in, opening_again, opening_behind}
use Rattle.board_ledger.proofs.ReadingSteps.{conferences_in, users_in, uploads_in, ledger_parts, at_end}
use Rattle.board_ledger.proofs.RecordLaws.{records_take, records_again, each_both, both_each}
use Rattle.board_ledger.proofs.UploadLaws.{UploadRight, upload_takes, upload_again}
use Rattle.board_ledger.proofs.UserLaws.{UserRight, user_takes, user_again}
use Rattle.board_ledger.proofs.VersionLaws.{in_version, stored_in, text_stored}

-- a user as a ledger of a version has him
abbrev RightUser : Version → ℕ → User → Type 0
RightUser v count u = IsUser count u × (v ≡ First → IsOldUser u)

abbrev with_version : ℕ → Ledger → Ledger
with_version n l = record l { version = n }

-- ---- each by recursion, and by place
all_of : {A : Type 0} (P : A → Type 0) (before xs : List A) → EachBehind (λ b x. P x) before xs → All P xs
all_of P before [] each = All-nil P
all_of P before (x ∷ xs) each = All-cons P x xs each.0 (all_of P (before ++ x ∷ []) xs each.1)

each_of : {A : Type 0} (P : A → Type 0) (before xs : List A) → All P xs → EachBehind (λ b x. P x) before xs
each_of P before [] all = tt
each_of {A = A} P before (x ∷ xs) all = (all 0 x (omega arith), each_of P (before ++ x ∷ []) xs (All-drop P 1 (x ∷ xs) all))

-- ---- what is read is a ledger's text
regroup : (a b c d : List ℕ) → a ++ (b ++ (c ++ (d ++ []))) ≡ a ++ (b ++ (c ++ d))
regroup a b c d = simp append-nil

pub ledger_takes : (bytes : List ℕ) (l : Ledger) → All IsByte bytes → ledger_of bytes ≡ Ok l → IsStored l × (bytes ≡ stored_text l)
unfolding text_in fixed_text
ledger_takes bytes l all e =
    let x = ledger_parts bytes l e in
    let o : Opening = x.opening in
    let opening = opening_takes bytes o all x.at_opening in
    let c = records_take conference_at conference_text ConferenceRight conference_takes o.conferences [] (drop o.size bytes) x.conferences (All-drop IsByte o.size bytes all) x.at_conferences in
    let v : Version = o.version in
    let u = records_take (user_at v o.conferences) (user_text v o.conferences) (UserRight v o.conferences) (user_takes v o.conferences) o.users [] x.conferences.1 x.users c.rest x.at_users in
    let first : ℕ = 1 + o.conferences + o.users in
    let r = records_take (upload_at first o.users) upload_text (UploadRight o.users) (upload_takes first o.users) o.uploads [] x.users.1 x.uploads u.rest x.at_uploads in
    let end = rules_kept 0 (1 + o.conferences + o.users + o.uploads) ((Rest, not (eqb (length x.uploads.1) 0)) ∷ []) (ledger_with o x.conferences.0 x.users.0 x.uploads.0) l x.at_end in
    let none : x.uploads.1 ≡ [] = nil_from_length x.uploads.1 (eqb-true (length x.uploads.1) 0 (not_not (eqb (length x.uploads.1) 0) end.0.0)) in
    let s : SetupFields = with_conferences o.setup c.new in
    let made : Ledger = ledger_with o c.new u.new r.new in
    let is : made ≡ l = (λ i. ledger_with o (sym c.all i) (sym u.all i) (sym r.all i)) ∙ end.1 in
    let cs = each_both IsSetupConference (λ b d. out_of_order b d.number ≡ false) ConferenceRight (λ b d h. h) [] c.new c.each in
    let us = each_both (RightUser v o.conferences) (λ b d. is_taken b d.name ≡ false) (UserRight v o.conferences) (λ b d h. h) [] u.new u.each in
    let right : All (RightUser v o.conferences) u.new = all_of (RightUser v o.conferences) [] u.new us.0 in
    let rs = each_both (IsUpload o.users) (λ b d. is_repeated b d ≡ false) (UploadRight o.users) (λ b d h. h) [] r.new r.each in
    let conferences : AreSetupConferences c.new = record {
      some = omega (arith, c.count, opening.some);
      many = omega (arith, c.count, opening.conferences);
      each = all_of IsSetupConference [] c.new cs.0;
      order = order_rises c.new cs.1;
    } in
    let setup : IsSetup s = record {
      board = opening.setup.board;
      city = opening.setup.city;
      phone = opening.setup.phone;
      sysop = opening.setup.sysop;
      bbsid = opening.setup.bbsid;
      serial = opening.setup.serial;
      zones = opening.setup.zones;
      conferences = conferences;
    } in
    let users : All (IsUser (length c.new)) u.new = subst (λ (n : ℕ). All (IsUser n) u.new) (sym c.count) (λ k d within. (right k d within).0) in
    let old : v ≡ First → All IsOldUser u.new = λ is k d within. (right k d within).1 is in
    let uploads : All (IsUpload (length u.new)) r.new = subst (λ (n : ℕ). All (IsUpload n) r.new) (sym u.count) (all_of (IsUpload o.users) [] r.new rs.0) in
    let ok : IsLedger (today made) = record {
      version = refl;
      setup = setup;
      created = opening.created;
      few_users = omega (arith, u.count, opening.users);
      users = users;
      names = us.1;
      few_uploads = omega (arith, r.count, opening.uploads);
      uploads = uploads;
      pairs = rs.1;
    } in
    let front : fixed_of v o.conferences o.users (length o.setup.zones) o.uploads o.created o.setup.serial ≡ fixed_text v made =
    λ i. fixed_of v (sym c.count i) (sym u.count i) (length o.setup.zones) (sym r.count i) o.created o.setup.serial in
    let cb : List ℕ = flat_map conference_text c.new in
    let ub : List ℕ = users_text v (length c.new) u.new in
    let rb : List ℕ = flat_map upload_text r.new in
    let d : x.users.1 ≡ rb ++ [] = r.whole ∙ ap (λ xs. rb ++ xs) none in
    let counted : users_text v o.conferences u.new ≡ ub = ap (λ n. users_text v n u.new) (sym c.count) in
    let b : x.conferences.1 ≡ ub ++ (rb ++ []) = u.whole ∙ (λ i. counted i ++ d i) in
    let a : drop o.size bytes ≡ cb ++ (ub ++ (rb ++ [])) = c.whole ∙ ap (λ xs. cb ++ xs) b in
    let text : bytes ≡ text_in v made =
    opening.whole ∙ (ap (λ xs. (xs ++ setup_text o.setup) ++ drop o.size bytes) front ∙ (ap (λ xs. opening_text v made ++ xs) a ∙ regroup (opening_text v made) cb ub rb)) in
    subst (λ (y : Ledger). IsStored y × (bytes ≡ stored_text y)) is (stored_in made v refl ok old, text ∙ sym (text_stored made v refl))

-- ---- a ledger's text is read as that ledger
again_in : (v : Version) (l : Ledger) → l.version ≡ version_number v → IsLedger (today l) → (v ≡ First → All IsOldUser l.users) → ledger_of (text_in v l) ≡ Ok l
unfolding text_in
again_in v l version ok old =
    let s : SetupFields = l.setup in
    let cs : List Conference = s.conferences in
    let us : List User = l.users in
    let rs : List UploadRecord = l.uploads in
    let o : Opening = opening_in v l in
    let rb : List ℕ = flat_map upload_text rs in
    let ub : List ℕ = users_text v (length cs) us in
    let cb : List ℕ = flat_map conference_text cs in
    let bytes : List ℕ = text_in v l in
    let setup = ok.setup.conferences in
    let right : All (RightUser v (length cs)) us = λ k d within. (ok.users k d within, λ is. old is k d within) in
    let c_right = both_each IsSetupConference (λ b d. out_of_order b d.number ≡ false) [] cs (each_of IsSetupConference [] cs setup.each) (rising_order cs setup.order) in
    let u_right = both_each (RightUser v (length cs)) (λ b d. is_taken b d.name ≡ false) [] us (each_of (RightUser v (length cs)) [] us right) ok.names in
    let r_right = both_each (IsUpload (length us)) (λ b d. is_repeated b d ≡ false) [] rs (each_of (IsUpload (length us)) [] rs ok.uploads) ok.pairs in
    let opening : opening_at bytes ≡ Ok o = opening_again v l (cb ++ (ub ++ rb)) ok in
    let conferences : conferences_in bytes o ≡ Ok (cs, ub ++ rb) =
    ap (records_at conference_at (length cs) []) (opening_behind v l (cb ++ (ub ++ rb))) ∙ records_again conference_at conference_text ConferenceRight conference_again cs [] (ub ++ rb) c_right in
    let users : users_in o (ub ++ rb) ≡ Ok (us, rb) =
    records_again (user_at v (length cs)) (user_text v (length cs)) (UserRight v (length cs)) (λ b u rest h. user_again v (length cs) b u rest setup.many h) us [] rb u_right in
    let first : ℕ = 1 + length cs + length us in
    let uploads : uploads_in o rb ≡ Ok (rs, []) =
    ap (records_at (upload_at first (length us)) (length rs) []) (sym (append-nil rb))
    ∙ records_again (upload_at first (length us)) upload_text (UploadRight (length us)) (λ b r rest h. upload_again first (length us) b r rest ok.few_users h) rs [] [] r_right in
    at_end bytes o (cs, ub ++ rb) (us, rb) (rs, []) opening conferences users uploads
    ∙ (kept_rules 0 (1 + length cs + length us + length rs) ((Rest, not (eqb (length {A = ℕ} []) 0)) ∷ []) (with_version (version_number v) l) (refl, tt)
    ∙ λ i. Ok (with_version (sym version i) l))

pub ledger_again : (l : Ledger) → IsStored l → ledger_of (stored_text l) ≡ Ok l
ledger_again l stored =
    let x = in_version l stored in
    ap ledger_of (text_stored l x.v x.version) ∙ again_in x.v l x.version x.valid x.old

-- ---- the law
some_none : (d : Damage) → Some d ≡ None → ⊥
some_none d e = cc

no_damage : {A : Type 0} (r : Result A Damage) → damage_of r ≡ None → (x : A) × (r ≡ Ok x)
no_damage (Ok x) e = (x, refl)
no_damage (Err d) e = absurd (some_none d e)

pub undamaged : (bytes : List ℕ) → All IsByte bytes → (ledger_damage bytes ≡ None) ↔ ((l : Ledger) × IsStored l × (bytes ≡ stored_text l))
undamaged bytes all = (
  λ e. let found = no_damage (ledger_of bytes) e in let taken = ledger_takes bytes found.0 all found.1 in (found.0, taken.0, taken.1),
  λ (l, ok, e). ap ledger_damage e ∙ ap damage_of (ledger_again l ok),
)

pub unique : (a b : Ledger) → IsStored a → IsStored b → stored_text a ≡ stored_text b → a ≡ b
unique a b first second e = ok_is a b (sym (ledger_again a first) ∙ (ap ledger_of e ∙ ledger_again b second))
