-- Record 0 is read exactly where its text stands.
use Rattle.std.proofs.Common.{◌≡◌, ℕ, zero, suc, ◌+◌, ◌*◌, ◌^◌, ◌≤◌, ◌<◌, true, false, not, ◌&&◌, ◌||◌, eqb, ltb, List, [], ◌∷◌, ◌++◌, length, get_or, take, drop, Ok, refl, sym, ap, ◌∙◌, subst, arith, length-append, append_assoc}
use Rattle.std.specs.Prelude.{All, IsTrue}
use Rattle.std.specs.List.{flat_map}
use Rattle.std.specs.Str.{bytes_eq}
use Rattle.std.specs.Cmp.Lexicographic.{bytes_decides}
use Rattle.std.proofs.lemmas.Bool.{ltb-false, le-ltb, and_parts}
use Rattle.std.proofs.lemmas.Bool.Decides.{nat_tests}
use Rattle.std.proofs.lemmas.List.{take-append-drop, drop_at}
use Rattle.std.proofs.lemmas.List.Elements.{All-cons, All-nil}
use Rattle.byteorder.specs.Endian.{little_bytes}
use Rattle.jam_records.specs.byte_lists.Byte.{IsByte}
use Rattle.jam_records.specs.record_numbers.Numbers.{u16_at, u32_at, u32s_text, IsU32}
use Rattle.jam_records.proofs.record_numbers.NumberFronts.{u32_small}
use Rattle.damage_rules.proofs.KeptRules.{Kept, both_kept, kept_both, rules_kept, kept_rules}
use Rattle.setup_file.specs.Texts.{is_board_text, is_user_name, is_bbsid}
use Rattle.setup_file.specs.Zones.{are_zones}
use Rattle.setup_file.specs.Valid.{IsSetup}
use Rattle.setup_file.specs.declared.fields.SetupFields.{SetupFields}
use Rattle.open_offers.specs.Texts.{sized_text, text_at, text_end, u16s_at}
use Rattle.board_ledger.specs.Limits.{upload_limit, user_limit}
use Rattle.board_ledger.specs.Opening.{magic, fixed_text, setup_text, opening_text, places_of, setup_of, opening_of, wrong_counts, wrong_texts, fixed_rules, setup_rules, opening_at}
use Rattle.board_ledger.specs.Ledger.{with_conferences}
use Rattle.board_ledger.specs.Valid.{IsLedger, today}
use Rattle.open_offers.specs.Versions.{version_number, version_of, wrong_version}
use Rattle.board_ledger.specs.declared.ledger.Ledger.{Ledger}
use Rattle.board_ledger.specs.declared.opening.Opening.{Opening}
use Rattle.open_offers.specs.declared.version.Version.{Version}
use Rattle.damage_rules.proofs.BoolTests.{not_not, both_pass, both_false}
use Rattle.board_ledger.proofs.OpeningTests.{PlacesFit, places_fit, CountsFit, counts_fit}
use Rattle.board_ledger.proofs.SetupBounds.{board_small, user_small, bbsid_small, zones_few, zones_small}
use Rattle.board_ledger.proofs.SizeLaws.{setup_length}
use Rattle.board_ledger.proofs.VersionLaws.{number_back, number_right, number_small, version_back}
use Rattle.open_offers.proofs.TextLaws.{glue, split, text_front, text_again, u16s_front, u32s_front, u16s_again, u32s_again}

-- the first 24 bytes by their numbers
abbrev pub fixed_of : Version → ℕ → ℕ → ℕ → ℕ → ℕ → ℕ → List ℕ
fixed_of v conferences users zones uploads created serial =
    magic ++ (flat_map (little_bytes 2) (version_number v ∷ conferences ∷ users ∷ zones ∷ []) ++ u32s_text (uploads ∷ created ∷ serial ∷ []))

fixed_front : (v : Version) (bytes : List ℕ) → All IsByte bytes → 24 ≤ length bytes → bytes_eq (take 4 bytes) magic ≡ true → version_number v ≡ u16_at 4 bytes
    → bytes ≡ fixed_of v (u16_at 6 bytes) (u16_at 8 bytes) (u16_at 10 bytes) (u32_at 12 bytes) (u32_at 16 bytes) (u32_at 20 bytes) ++ drop 24 bytes
fixed_front v bytes all long letters version =
    let counts : List ℕ = flat_map (little_bytes 2) (version_number v ∷ u16_at 6 bytes ∷ u16_at 8 bytes ∷ u16_at 10 bytes ∷ []) in
    let numbers : List ℕ = u32s_text (u32_at 12 bytes ∷ u32_at 16 bytes ∷ u32_at 20 bytes ∷ []) in
    let a : bytes ≡ magic ++ drop 4 bytes = sym (take-append-drop 4 bytes) ∙ ap (λ xs. xs ++ drop 4 bytes) ((bytes_decides (take 4 bytes) magic).0 letters) in
    let b : drop 4 bytes ≡ counts ++ drop 12 bytes = u16s_front 4 4 bytes all (omega arith) ∙ ap (λ n. flat_map (little_bytes 2) (n ∷ u16_at 6 bytes ∷ u16_at 8 bytes ∷ u16_at 10 bytes ∷ []) ++ drop 12 bytes) (sym version) in
    let d : drop 12 bytes ≡ numbers ++ drop 24 bytes = u32s_front 12 3 bytes all (omega arith) in
    glue bytes magic (counts ++ numbers) (drop 24 bytes) (drop 4 bytes) a (glue (drop 4 bytes) counts numbers (drop 24 bytes) (drop 12 bytes) b d)

setup_front : (bytes : List ℕ) → All IsByte bytes → PlacesFit bytes (places_of bytes) → drop 24 bytes ≡ setup_text (setup_of bytes) ++ drop (places_of bytes).end bytes
unfolding setup_of places_of
setup_front bytes all fit =
    let city : ℕ = text_end 24 bytes in
    let phone : ℕ = text_end city bytes in
    let sysop : ℕ = text_end phone bytes in
    let bbsid : ℕ = text_end sysop bytes in
    let zones : ℕ = text_end bbsid bytes in
    let count : ℕ = u16_at 10 bytes in
    let z : List ℕ = flat_map (little_bytes 2) (u16s_at zones count bytes) in
    let rest : List ℕ = drop (zones + 2 * count) bytes in
    let e5 = glue (drop bbsid bytes) (sized_text (text_at bbsid bytes)) z rest (drop zones bytes) (text_front bbsid bytes all fit.bbsid) (u16s_front zones count bytes all fit.zones) in
    let e4 = glue (drop sysop bytes) (sized_text (text_at sysop bytes)) (sized_text (text_at bbsid bytes) ++ z) rest (drop bbsid bytes) (text_front sysop bytes all fit.sysop) e5 in
    let e3 = glue (drop phone bytes) (sized_text (text_at phone bytes)) (sized_text (text_at sysop bytes) ++ (sized_text (text_at bbsid bytes) ++ z)) rest (drop sysop bytes) (text_front phone bytes all fit.phone) e4 in
    let e2 = glue (drop city bytes) (sized_text (text_at city bytes)) (sized_text (text_at phone bytes) ++ (sized_text (text_at sysop bytes) ++ (sized_text (text_at bbsid bytes) ++ z))) rest (drop phone bytes) (text_front city bytes all fit.city) e3 in
    glue (drop 24 bytes) (sized_text (text_at 24 bytes)) (sized_text (text_at city bytes) ++ (sized_text (text_at phone bytes) ++ (sized_text (text_at sysop bytes) ++ (sized_text (text_at bbsid bytes) ++ z)))) rest (drop city bytes) (text_front 24 bytes all fit.board) e2

-- ---- a setup but for its conferences
pub record SetupFits (s : SetupFields) : Type 0 where
  pub board : IsTrue (is_board_text s.board)
  pub city : IsTrue (is_board_text s.city)
  pub phone : IsTrue (is_board_text s.phone)
  pub sysop : IsTrue (is_user_name s.sysop)
  pub bbsid : IsTrue (is_bbsid s.bbsid)
  pub serial : s.serial ≤ 99999
  pub zones : IsTrue (are_zones s.zones)

texts_fit : (s : SetupFields) → wrong_texts s ≡ false → (is_board_text s.board ≡ true) × (is_board_text s.city ≡ true) × (is_board_text s.phone ≡ true) × (is_user_name s.sysop ≡ true)
unfolding wrong_texts
texts_fit s e =
    let all = not_not (is_board_text s.board && (is_board_text s.city && (is_board_text s.phone && is_user_name s.sysop))) e in
    let a = and_parts (is_board_text s.board) (is_board_text s.city && (is_board_text s.phone && is_user_name s.sysop)) all in
    let b = and_parts (is_board_text s.city) (is_board_text s.phone && is_user_name s.sysop) a.1 in
    let d = and_parts (is_board_text s.phone) (is_user_name s.sysop) b.1 in
    (a.0, b.0, d.0, d.1)

texts_right : (s : SetupFields) → SetupFits s → wrong_texts s ≡ false
unfolding wrong_texts
texts_right s fit =
    ap not (both_pass (is_board_text s.board) (is_board_text s.city && (is_board_text s.phone && is_user_name s.sysop)) fit.board
    (both_pass (is_board_text s.city) (is_board_text s.phone && is_user_name s.sysop) fit.city (both_pass (is_board_text s.phone) (is_user_name s.sysop) fit.phone fit.sysop)))

serial_is : (bytes : List ℕ) → (setup_of bytes).serial ≡ u32_at 20 bytes
unfolding setup_of
serial_is bytes = refl

u16s_count : (place n : ℕ) (bytes : List ℕ) → length (u16s_at place n bytes) ≡ n
u16s_count place zero bytes = refl
u16s_count place (suc n) bytes = ap suc (u16s_count (place + 2) n bytes)

zones_count : (bytes : List ℕ) → length (setup_of bytes).zones ≡ u16_at 10 bytes
unfolding setup_of
zones_count bytes = u16s_count (places_of bytes).zones (u16_at 10 bytes) bytes

-- what is said of record 0 where it is read
pub record OpeningTaken (bytes : List ℕ) (o : Opening) : Type 0 where
  pub whole : bytes ≡ (fixed_of o.version o.conferences o.users (length o.setup.zones) o.uploads o.created o.setup.serial ++ setup_text o.setup) ++ drop o.size bytes
  pub setup : SetupFits o.setup
  pub created : IsU32 o.created
  pub some : 1 ≤ o.conferences
  pub conferences : o.conferences ≤ 64
  pub users : o.users ≤ user_limit
  pub uploads : o.uploads ≤ upload_limit

opening_fits : (bytes : List ℕ) → All IsByte bytes → Kept (fixed_rules bytes) → Kept (setup_rules bytes (setup_of bytes)) → OpeningTaken bytes (opening_of bytes)
unfolding fixed_rules setup_rules opening_of
opening_fits bytes all fixed behind =
    let s : SetupFields = setup_of bytes in
    let long : 24 ≤ length bytes = ltb-false (length bytes) 24 fixed.0 in
    let letters : bytes_eq (take 4 bytes) magic ≡ true = not_not (bytes_eq (take 4 bytes) magic) fixed.1.0 in
    let v : Version = version_of (u16_at 4 bytes) in
    let version : version_number v ≡ u16_at 4 bytes = version_back (u16_at 4 bytes) fixed.1.1.0 in
    let counts = counts_fit bytes fixed.1.1.1.0 in
    let serial = ltb-false 99999 (u32_at 20 bytes) fixed.1.1.1.1.0 in
    let end : (places_of bytes).end ≤ length bytes = ltb-false (length bytes) (places_of bytes).end behind.0 in
    let texts = texts_fit s behind.1.0 in
    let front = fixed_front v bytes all long letters version in
    let zones : u16_at 10 bytes ≡ length s.zones = sym (zones_count bytes) in
    let number : u32_at 20 bytes ≡ s.serial = sym (serial_is bytes) in
    let fixed_text : fixed_of v (u16_at 6 bytes) (u16_at 8 bytes) (u16_at 10 bytes) (u32_at 12 bytes) (u32_at 16 bytes) (u32_at 20 bytes) ≡ fixed_of v (u16_at 6 bytes) (u16_at 8 bytes) (length s.zones) (u32_at 12 bytes) (u32_at 16 bytes) s.serial =
    λ i. fixed_of v (u16_at 6 bytes) (u16_at 8 bytes) (zones i) (u32_at 12 bytes) (u32_at 16 bytes) (number i) in
    record {
      whole = glue bytes (fixed_of v (u16_at 6 bytes) (u16_at 8 bytes) (length s.zones) (u32_at 12 bytes) (u32_at 16 bytes) s.serial) (setup_text s) (drop (places_of bytes).end bytes) (drop 24 bytes)
          (front ∙ ap (λ xs. xs ++ drop 24 bytes) fixed_text) (setup_front bytes all (places_fit bytes end));
      setup = record {
        board = texts.0;
        city = texts.1;
        phone = texts.2;
        sysop = texts.3;
        bbsid = not_not (is_bbsid s.bbsid) behind.1.1.0;
        serial = subst (λ (n : ℕ). n ≤ 99999) number serial;
        zones = not_not (are_zones s.zones) behind.1.1.1.0;
      };
      created = u32_small 16 bytes all;
      some = omega (arith, counts.some);
      conferences = counts.conferences;
      users = counts.users;
      uploads = counts.uploads;
    }

pub opening_takes : (bytes : List ℕ) (o : Opening) → All IsByte bytes → opening_at bytes ≡ Ok o → OpeningTaken bytes o
unfolding opening_at
opening_takes bytes o all e =
    let k = rules_kept 0 0 (fixed_rules bytes ++ setup_rules bytes (setup_of bytes)) (opening_of bytes) o e in
    let parts = both_kept (fixed_rules bytes) (setup_rules bytes (setup_of bytes)) k.0 in
    subst (OpeningTaken bytes) k.1 (opening_fits bytes all parts.0 parts.1)

-- ---- what is written is read
-- the numbers in the first 24 bytes
pub record FixedStands (bytes : List ℕ) (v : Version) (conferences users zones uploads created serial : ℕ) (rest : List ℕ) : Type 0 where
  pub letters : bytes_eq (take 4 bytes) magic ≡ true
  pub version : u16_at 4 bytes ≡ version_number v
  pub six : u16_at 6 bytes ≡ conferences
  pub eight : u16_at 8 bytes ≡ users
  pub ten : u16_at 10 bytes ≡ zones
  pub twelve : u32_at 12 bytes ≡ uploads
  pub sixteen : u32_at 16 bytes ≡ created
  pub twenty : u32_at 20 bytes ≡ serial
  pub behind : drop 24 bytes ≡ rest

unfoldable nth : ℕ → List ℕ → ℕ
nth n xs = get_or xs n 0

fixed_back : (v : Version) (c u z r created serial : ℕ) (rest : List ℕ) → c < 2 ^ 16 → u < 2 ^ 16 → z < 2 ^ 16 → IsU32 r → IsU32 created → IsU32 serial
    → FixedStands (fixed_of v c u z r created serial ++ rest) v c u z r created serial rest
unfolding nth
fixed_back v c u z r created serial rest cs us zs rs moment number =
    let small : List ℕ = version_number v ∷ c ∷ u ∷ z ∷ [] in
    let large : List ℕ = r ∷ created ∷ serial ∷ [] in
    let whole : List ℕ = fixed_of v c u z r created serial ++ rest in
    let fits : All (λ n. n < 2 ^ 16) small = All-cons (λ n. n < 2 ^ 16) (version_number v) (c ∷ u ∷ z ∷ []) (number_small v) (All-cons (λ n. n < 2 ^ 16) c (u ∷ z ∷ []) cs (All-cons (λ n. n < 2 ^ 16) u (z ∷ []) us (All-cons (λ n. n < 2 ^ 16) z [] zs (All-nil (λ n. n < 2 ^ 16))))) in
    let large_fits : All (λ n. n < 2 ^ 32) large = All-cons (λ n. n < 2 ^ 32) r (created ∷ serial ∷ []) rs (All-cons (λ n. n < 2 ^ 32) created (serial ∷ []) moment (All-cons (λ n. n < 2 ^ 32) serial [] number (All-nil (λ n. n < 2 ^ 32)))) in
    let at4 : drop 4 whole ≡ flat_map (little_bytes 2) small ++ (u32s_text large ++ rest) = append_assoc (flat_map (little_bytes 2) small) (u32s_text large) rest in
    let a = u16s_again 4 whole small (u32s_text large ++ rest) fits at4 in
    let b = u32s_again 12 whole large rest large_fits a.1 in
    record {
      letters = refl;
      version = ap (nth 0) a.0;
      six = ap (nth 1) a.0;
      eight = ap (nth 2) a.0;
      ten = ap (nth 3) a.0;
      twelve = ap (nth 0) b.0;
      sixteen = ap (nth 1) b.0;
      twenty = ap (nth 2) b.0;
      behind = b.1;
    }

abbrev setup_made : List ℕ → List ℕ → List ℕ → List ℕ → List ℕ → ℕ → List ℕ → SetupFields
setup_made board city phone sysop bbsid serial zones = record { board = board; city = city; phone = phone; sysop = sysop; bbsid = bbsid; serial = serial; zones = zones; conferences = [] }

pub record SetupStands (bytes : List ℕ) (s : SetupFields) (rest : List ℕ) : Type 0 where
  pub is : setup_of bytes ≡ with_conferences s []
  pub behind : drop (places_of bytes).end bytes ≡ rest
  pub end : (places_of bytes).end ≡ 24 + length (setup_text s)

setup_back : (bytes : List ℕ) (s : SetupFields) (rest : List ℕ) → SetupFits s → u16_at 10 bytes ≡ length s.zones → u32_at 20 bytes ≡ s.serial → drop 24 bytes ≡ setup_text s ++ rest → SetupStands bytes s rest
unfolding setup_of places_of
setup_back bytes s rest fit count serial e =
    let z : List ℕ = flat_map (little_bytes 2) s.zones in
    let t5 : List ℕ = sized_text s.bbsid ++ z in
    let t4 : List ℕ = sized_text s.sysop ++ t5 in
    let t3 : List ℕ = sized_text s.phone ++ t4 in
    let t2 : List ℕ = sized_text s.city ++ t3 in
    let board = text_again 24 bytes s.board (t2 ++ rest) (omega (arith, board_small s.board fit.board)) (split (drop 24 bytes) (sized_text s.board) t2 rest e) in
    let p2 : ℕ = text_end 24 bytes in
    let city = text_again p2 bytes s.city (t3 ++ rest) (omega (arith, board_small s.city fit.city)) (split (drop p2 bytes) (sized_text s.city) t3 rest board.behind) in
    let p3 : ℕ = text_end p2 bytes in
    let phone = text_again p3 bytes s.phone (t4 ++ rest) (omega (arith, board_small s.phone fit.phone)) (split (drop p3 bytes) (sized_text s.phone) t4 rest city.behind) in
    let p4 : ℕ = text_end p3 bytes in
    let sysop = text_again p4 bytes s.sysop (t5 ++ rest) (omega (arith, user_small s.sysop fit.sysop)) (split (drop p4 bytes) (sized_text s.sysop) t5 rest phone.behind) in
    let p5 : ℕ = text_end p4 bytes in
    let bbsid = text_again p5 bytes s.bbsid (z ++ rest) (omega (arith, bbsid_small s.bbsid fit.bbsid)) (split (drop p5 bytes) (sized_text s.bbsid) z rest sysop.behind) in
    let p6 : ℕ = text_end p5 bytes in
    let zones = u16s_again p6 bytes s.zones rest (zones_small s.zones fit.zones) bbsid.behind in
    let all : u16s_at p6 (u16_at 10 bytes) bytes ≡ s.zones = ap (λ n. u16s_at p6 n bytes) count ∙ zones.0 in
    record {
      is = λ i. setup_made (board.is i) (city.is i) (phone.is i) (sysop.is i) (bbsid.is i) (serial i) (all i);
      behind = ap (λ n. drop (p6 + 2 * n) bytes) count ∙ zones.1;
      end = omega (arith, setup_length s, board.end, city.end, phone.end, sysop.end, bbsid.end, count);
    }

abbrev opening_made : Version → SetupFields → ℕ → ℕ → ℕ → ℕ → ℕ → Opening
opening_made version setup created conferences users uploads size = record { version = version; setup = setup; created = created; conferences = conferences; users = users; uploads = uploads; size = size }

-- record 0 of a ledger, in a version
abbrev pub opening_in : Version → Ledger → Opening
opening_in v l = opening_made v (with_conferences l.setup []) l.created (length l.setup.conferences) (length l.users) (length l.uploads) (24 + length (setup_text l.setup))

pub setup_fits : (s : SetupFields) → IsSetup s → SetupFits s
setup_fits s ok = record { board = ok.board; city = ok.city; phone = ok.phone; sysop = ok.sysop; bbsid = ok.bbsid; serial = ok.serial; zones = ok.zones }

not_zero : (n : ℕ) → 0 < n → eqb n 0 ≡ false
not_zero n some = grind (arith, nat_tests)

same_fit : (s : SetupFields) → SetupFits s → SetupFits (with_conferences s [])
same_fit s fit = record { board = fit.board; city = fit.city; phone = fit.phone; sysop = fit.sysop; bbsid = fit.bbsid; serial = fit.serial; zones = fit.zones }

counts_right : (bytes : List ℕ) → CountsFit bytes → wrong_counts bytes ≡ false
unfolding wrong_counts
counts_right bytes fit =
    both_false ((eqb (u16_at 6 bytes) 0 || ltb 64 (u16_at 6 bytes)) || ltb user_limit (u16_at 8 bytes)) (ltb 16 (u16_at 10 bytes) || ltb upload_limit (u32_at 12 bytes))
    (both_false (eqb (u16_at 6 bytes) 0 || ltb 64 (u16_at 6 bytes)) (ltb user_limit (u16_at 8 bytes)) (both_false (eqb (u16_at 6 bytes) 0) (ltb 64 (u16_at 6 bytes)) (not_zero (u16_at 6 bytes) fit.some) (le-ltb _ _ fit.conferences)) (le-ltb _ _ fit.users))
    (both_false (ltb 16 (u16_at 10 bytes)) (ltb upload_limit (u32_at 12 bytes)) (le-ltb _ _ fit.zones) (le-ltb _ _ fit.uploads))

pub opening_again : (v : Version) (l : Ledger) (rest : List ℕ) → IsLedger (today l) → opening_at (opening_text v l ++ rest) ≡ Ok (opening_in v l)
unfolding opening_at opening_of fixed_rules setup_rules fixed_text
opening_again v l rest ok =
    let s : SetupFields = l.setup in
    let fit = setup_fits s ok.setup in
    let few = zones_few s.zones fit.zones in
    let whole : List ℕ = opening_text v l ++ rest in
    let conferences = ok.setup.conferences in
    let f = fixed_back v (length s.conferences) (length l.users) (length s.zones) (length l.uploads) l.created s.serial (setup_text s ++ rest)
    (omega (arith, conferences.many)) (omega (arith, ok.few_users)) (omega (arith, few)) (omega (arith, ok.few_uploads)) ok.created (omega (arith, fit.serial)) in
    let joined : whole ≡ fixed_of v (length s.conferences) (length l.users) (length s.zones) (length l.uploads) l.created s.serial ++ (setup_text s ++ rest) = append_assoc (fixed_text v l) (setup_text s) rest in
    let g : FixedStands whole v (length s.conferences) (length l.users) (length s.zones) (length l.uploads) l.created s.serial (setup_text s ++ rest) =
    subst (λ (xs : List ℕ). FixedStands xs v (length s.conferences) (length l.users) (length s.zones) (length l.uploads) l.created s.serial (setup_text s ++ rest)) (sym joined) f in
    let b = setup_back whole s rest fit g.ten g.twenty g.behind in
    let counts : CountsFit whole = record {
      some = omega (arith, g.six, conferences.some);
      conferences = omega (arith, g.six, conferences.many);
      users = omega (arith, g.eight, ok.few_users);
      zones = omega (arith, g.ten, few);
      uploads = omega (arith, g.twelve, ok.few_uploads);
    } in
    let size : length whole ≡ 24 + (length (setup_text s) + length rest) = omega (arith, ap length joined, length-append (setup_text s) rest) in
    let end : (places_of whole).end ≤ length whole = omega (arith, b.end, size) in
    let front : Kept (fixed_rules whole) = (
      le-ltb _ _ (omega (arith, size)),
      (
        ap not g.letters,
        (
          ap wrong_version g.version ∙ number_right v,
          (
            counts_right whole counts,
            (le-ltb _ _ (omega (arith, g.twenty, fit.serial)), tt),
          ),
        ),
      ),
    ) in
    let behind : Kept (setup_rules whole (setup_of whole)) = (
      le-ltb _ _ end,
      (
        ap wrong_texts b.is ∙ texts_right (with_conferences s []) (same_fit s fit),
        (
          ap (λ (x : SetupFields). not (is_bbsid x.bbsid)) b.is ∙ ap not fit.bbsid,
          (ap (λ (x : SetupFields). not (are_zones x.zones)) b.is ∙ ap not fit.zones, tt),
        ),
      ),
    ) in
    kept_rules 0 0 (fixed_rules whole ++ setup_rules whole (setup_of whole)) (opening_of whole) (kept_both (fixed_rules whole) (setup_rules whole (setup_of whole)) front behind)
    ∙ λ i. Ok (opening_made ((ap version_of g.version ∙ number_back v) i) (b.is i) (g.sixteen i) (g.six i) (g.eight i) (g.twelve i) (b.end i))

pub opening_behind : (v : Version) (l : Ledger) (rest : List ℕ) → drop (opening_in v l).size (opening_text v l ++ rest) ≡ rest
unfolding fixed_text
opening_behind v l rest = drop_at (opening_text v l) rest (24 + length (setup_text l.setup)) (omega arith)
