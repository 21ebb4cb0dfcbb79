-- Lines that break no rule are those of a setup, and the other way round.
use Rattle.std.proofs.Common.{◌≡◌, ℕ, ◌+◌, ◌≤◌, true, List, [], ◌∷◌, length, Option, IsTrue, refl, sym, ap, ◌∙◌, subst, arith}
use Rattle.std.proofs.lemmas.List.{append-nil}
use Rattle.setup_file.specs.Zones.{are_zones}
use Rattle.setup_file.specs.Valid.{AreSetupConferences, numbers_of}
use Rattle.setup_file.specs.Words.{is_number, number_of, numbers_of_words, value_behind}
use Rattle.setup_file.specs.Rules.{key_text, fits, zones_key, zones_fit}
use Rattle.setup_file.specs.Reads.{counted, ValueReads, SetupLinesRead}
use Rattle.setup_file.specs.Fault.{KeepRules}
use Rattle.setup_file.specs.State.{Kept, HeadIs, IsMadeOf, conferences_of_lines}
use Rattle.setup_file.specs.declared.conference.Conference.{Conference}
use Rattle.setup_file.specs.declared.head.Head.{Head}
use Rattle.setup_file.specs.declared.key.Key.{Key}
use Rattle.setup_file.specs.declared.key.Key.TheVariants.{Board, City, Phone, Sysop, Bbsid, Serial}
use Rattle.setup_file.specs.declared.fields.SetupFields.{SetupFields}
use Rattle.setup_file.proofs.Numbers.{number_at_most}
use Rattle.setup_file.proofs.ZoneWords.{fits_numbers, fits_zones, fits_both}
use Rattle.setup_file.proofs.RuleLists.{KeyPasses, key_passes, passes_key, ZonesPass, zones_pass, pass_zones, rule_by_key, rule_by_zones}
use Rattle.setup_file.proofs.ConferenceLines.{RiseFrom, no_number_before, conference_count, lines_read, lines_few, lines_valid, lines_rise, read_keep, one_list}

-- the first lines of a setup, and those of its conferences
pub record First : Type 0 where
  pub board : List ℕ
  pub city : List ℕ
  pub phone : List ℕ
  pub sysop : List ℕ
  pub bbsid : List ℕ
  pub serial : List ℕ
  pub zones : List ℕ

abbrev pub first_lines : First → List (List ℕ)
first_lines l = l.board ∷ l.city ∷ l.phone ∷ l.sysop ∷ l.bbsid ∷ l.serial ∷ l.zones ∷ []

abbrev pub lines_of : First → List (List ℕ) → List (List ℕ)
lines_of l own = l.board ∷ l.city ∷ l.phone ∷ l.sysop ∷ l.bbsid ∷ l.serial ∷ l.zones ∷ own

-- what they say
abbrev pub setup_of : First → List (List ℕ) → SetupFields
setup_of l own = record {
  board = value_behind (key_text Board) l.board;
  city = value_behind (key_text City) l.city;
  phone = value_behind (key_text Phone) l.phone;
  sysop = value_behind (key_text Sysop) l.sysop;
  bbsid = value_behind (key_text Bbsid) l.bbsid;
  serial = number_of (value_behind (key_text Serial) l.serial);
  zones = numbers_of_words (value_behind zones_key l.zones);
  conferences = conferences_of_lines own;
}

-- what lines have that break no rule
record Passing (l : First) (own : List (List ℕ)) : Type 0 where
  board : KeyPasses Board l.board
  city : KeyPasses City l.city
  phone : KeyPasses Phone l.phone
  sysop : KeyPasses Sysop l.sysop
  bbsid : KeyPasses Bbsid l.bbsid
  serial : KeyPasses Serial l.serial
  zones : ZonesPass l.zones
  conferences : KeepRules (first_lines l) own

passing : (l : First) (own : List (List ℕ)) → KeepRules [] (lines_of l own) → Passing l own
passing l own k = record {
  board = key_passes Board l.board (sym (rule_by_key [] l.board Board refl) ∙ k.0);
  city = key_passes City l.city (sym (rule_by_key (l.board ∷ []) l.city City refl) ∙ k.1.0);
  phone = key_passes Phone l.phone (sym (rule_by_key (l.board ∷ l.city ∷ []) l.phone Phone refl) ∙ k.1.1.0);
  sysop = key_passes Sysop l.sysop (sym (rule_by_key (l.board ∷ l.city ∷ l.phone ∷ []) l.sysop Sysop refl) ∙ k.1.1.1.0);
  bbsid = key_passes Bbsid l.bbsid (sym (rule_by_key (l.board ∷ l.city ∷ l.phone ∷ l.sysop ∷ []) l.bbsid Bbsid refl) ∙ k.1.1.1.1.0);
  serial = key_passes Serial l.serial (sym (rule_by_key (l.board ∷ l.city ∷ l.phone ∷ l.sysop ∷ l.bbsid ∷ []) l.serial Serial refl) ∙ k.1.1.1.1.1.0);
  zones = zones_pass l.zones (sym (rule_by_zones (l.board ∷ l.city ∷ l.phone ∷ l.sysop ∷ l.bbsid ∷ l.serial ∷ []) l.zones refl) ∙ k.1.1.1.1.1.1.0);
  conferences = k.1.1.1.1.1.1.1;
}

keeping : (l : First) (own : List (List ℕ)) → Passing l own → KeepRules [] (lines_of l own)
keeping l own p = (
  rule_by_key [] l.board Board refl ∙ passes_key Board l.board p.board.begins p.board.fit,
  (
    rule_by_key (l.board ∷ []) l.city City refl ∙ passes_key City l.city p.city.begins p.city.fit,
    (
      rule_by_key (l.board ∷ l.city ∷ []) l.phone Phone refl ∙ passes_key Phone l.phone p.phone.begins p.phone.fit,
      (
        rule_by_key (l.board ∷ l.city ∷ l.phone ∷ []) l.sysop Sysop refl ∙ passes_key Sysop l.sysop p.sysop.begins p.sysop.fit,
        (
          rule_by_key (l.board ∷ l.city ∷ l.phone ∷ l.sysop ∷ []) l.bbsid Bbsid refl ∙ passes_key Bbsid l.bbsid p.bbsid.begins p.bbsid.fit,
          (
            rule_by_key (l.board ∷ l.city ∷ l.phone ∷ l.sysop ∷ l.bbsid ∷ []) l.serial Serial refl ∙ passes_key Serial l.serial p.serial.begins p.serial.fit,
            (rule_by_zones (l.board ∷ l.city ∷ l.phone ∷ l.sysop ∷ l.bbsid ∷ l.serial ∷ []) l.zones refl ∙ pass_zones l.zones p.zones.begins p.zones.fit, p.conferences),
          ),
        ),
      ),
    ),
  ),
)

own_valid : (l : First) (own : List (List ℕ)) → 1 ≤ length own → KeepRules (first_lines l) own → AreSetupConferences (conferences_of_lines own)
own_valid l own some k =
    let front = first_lines l in
    let few : 7 + length own ≤ 71 = lines_few front own (omega arith) (omega arith) k in
    record {
      some = omega (arith, conference_count own);
      many = omega (arith, few, conference_count own);
      each = lines_valid front own (omega arith) k;
      order = subst (λ (o : Option ℕ). RiseFrom o (numbers_of (conferences_of_lines own))) (no_number_before front refl) (lines_rise front own (omega arith) k);
    }

-- lines that break no rule say a setup
pub kept_reads : (all : List (List ℕ)) (l : First) (own : List (List ℕ)) → counted all ≡ lines_of l own → KeepRules [] (lines_of l own) → 1 ≤ length own → SetupLinesRead all (setup_of l own)
kept_reads all l own e k some =
    let p : Passing l own = passing l own k in
    record {
      board_line = l.board;
      city_line = l.city;
      phone_line = l.phone;
      sysop_line = l.sysop;
      bbsid_line = l.bbsid;
      serial_line = l.serial;
      zones_line = l.zones;
      conference_lines = own;
      whole = e;
      board = record { begins = p.board.begins; rest = refl };
      city = record { begins = p.city.begins; rest = refl };
      phone = record { begins = p.phone.begins; rest = refl };
      sysop = record { begins = p.sysop.begins; rest = refl };
      bbsid = record { begins = p.bbsid.begins; rest = refl };
      serial = (value_behind (key_text Serial) l.serial, record { begins = p.serial.begins; rest = refl }, record { digits = p.serial.fit; value = refl });
      zones = (value_behind zones_key l.zones, record { begins = p.zones.begins; rest = refl }, fits_numbers (value_behind zones_key l.zones) p.zones.fit, refl);
      conferences = lines_read (first_lines l) own (omega arith) p.conferences;
      valid = record {
        board = p.board.fit;
        city = p.city.fit;
        phone = p.phone.fit;
        sysop = p.sysop.fit;
        bbsid = p.bbsid.fit;
        serial = number_at_most (value_behind (key_text Serial) l.serial) p.serial.fit;
        zones = fits_zones (value_behind zones_key l.zones) p.zones.fit;
        conferences = own_valid l own some p.conferences;
      };
    }

-- the lines of a reading
abbrev pub first_of : (all : List (List ℕ)) (s : SetupFields) → SetupLinesRead all s → First
first_of all s r = record {
  board = r.board_line;
  city = r.city_line;
  phone = r.phone_line;
  sysop = r.sysop_line;
  bbsid = r.bbsid_line;
  serial = r.serial_line;
  zones = r.zones_line;
}

key_reads : (key : Key) (line value : List ℕ) → ValueReads (key_text key) line value → fits key value ≡ true → KeyPasses key line
key_reads key line value r f = record { begins = r.begins; fit = ap (fits key) (sym r.rest) ∙ f }

reads_passing : (all : List (List ℕ)) (s : SetupFields) (r : SetupLinesRead all s) → Passing (first_of all s r) r.conference_lines
reads_passing all s r =
    let l : First = first_of all s r in
    let own : List (List ℕ) = r.conference_lines in
    let same : s.conferences ≡ conferences_of_lines own = one_list own s.conferences r.conferences in
    let count : length s.conferences ≡ length own = ap length same ∙ conference_count own in
    let many : length s.conferences ≤ 64 = r.valid.conferences.many in
    record {
      board = key_reads Board r.board_line s.board r.board r.valid.board;
      city = key_reads City r.city_line s.city r.city r.valid.city;
      phone = key_reads Phone r.phone_line s.phone r.phone r.valid.phone;
      sysop = key_reads Sysop r.sysop_line s.sysop r.sysop r.valid.sysop;
      bbsid = key_reads Bbsid r.bbsid_line s.bbsid r.bbsid r.valid.bbsid;
      serial = key_reads Serial r.serial_line r.serial.0 r.serial.1 r.serial.2.digits;
      zones = record {
        begins = r.zones.1.begins;
        fit = ap zones_fit (sym r.zones.1.rest) ∙ fits_both r.zones.0 r.zones.2 (ap are_zones (sym r.zones.3) ∙ r.valid.zones);
      };
      conferences = read_keep (first_lines l) own s.conferences (omega arith) (omega (arith, count, many)) r.conferences r.valid.conferences.each
          (subst (λ (o : Option ℕ). RiseFrom o (numbers_of s.conferences)) (sym (no_number_before (first_lines l) refl)) r.valid.conferences.order);
    }

-- the lines of a setup break no rule
pub reads_keep : (all : List (List ℕ)) (s : SetupFields) → SetupLinesRead all s → KeepRules [] (counted all)
reads_keep all s r = subst (KeepRules []) (sym r.whole) (keeping (first_of all s r) r.conference_lines (reads_passing all s r))

-- and none is missing
pub reads_many : (all : List (List ℕ)) (s : SetupFields) → SetupLinesRead all s → 8 ≤ length (counted all)
reads_many all s r =
    let own : List (List ℕ) = r.conference_lines in
    let count : length s.conferences ≡ length own = ap length (one_list own s.conferences r.conferences) ∙ conference_count own in
    omega (arith, ap length r.whole, count, r.valid.conferences.some)

made : List ℕ → List ℕ → List ℕ → List ℕ → List ℕ → ℕ → List ℕ → List Conference → SetupFields
made board city phone sysop bbsid serial zones conferences = record {
  board = board;
  city = city;
  phone = phone;
  sysop = sysop;
  bbsid = bbsid;
  serial = serial;
  zones = zones;
  conferences = conferences;
}

made_is : (s : SetupFields) → s ≡ made s.board s.city s.phone s.sysop s.bbsid s.serial s.zones s.conferences
unfolding made
made_is s = refl

pub same_setup : (a b : SetupFields) → a.board ≡ b.board → a.city ≡ b.city → a.phone ≡ b.phone → a.sysop ≡ b.sysop → a.bbsid ≡ b.bbsid → a.serial ≡ b.serial → a.zones ≡ b.zones → a.conferences ≡ b.conferences → a ≡ b
same_setup a b board city phone sysop bbsid serial zones conferences =
    let p : a ≡ made a.board a.city a.phone a.sysop a.bbsid a.serial a.zones a.conferences = made_is a in
    let q : b ≡ made b.board b.city b.phone b.sysop b.bbsid b.serial b.zones b.conferences = made_is b in
    cc

-- a setup is what its lines say
reads_setup : (all : List (List ℕ)) (s : SetupFields) (r : SetupLinesRead all s) → s ≡ setup_of (first_of all s r) r.conference_lines
reads_setup all s r =
    let l : First = first_of all s r in
    same_setup s (setup_of l r.conference_lines) r.board.rest r.city.rest r.phone.rest r.sysop.rest r.bbsid.rest (r.serial.2.value ∙ ap number_of r.serial.1.rest)
    (r.zones.3 ∙ ap numbers_of_words r.zones.1.rest) (one_list r.conference_lines s.conferences r.conferences)

-- what the lines in order say
setup_in : List (List ℕ) → SetupFields
setup_in (board ∷ city ∷ phone ∷ sysop ∷ bbsid ∷ serial ∷ zones ∷ own) =
    setup_of (record { board = board; city = city; phone = phone; sysop = sysop; bbsid = bbsid; serial = serial; zones = zones }) own
setup_in other = setup_of (record { board = []; city = []; phone = []; sysop = []; bbsid = []; serial = []; zones = [] }) []

in_lines : (l : First) (own : List (List ℕ)) → setup_of l own ≡ setup_in (lines_of l own)
unfolding setup_in
in_lines l own = refl

setup_is : (all : List (List ℕ)) (s : SetupFields) → SetupLinesRead all s → s ≡ setup_in (counted all)
setup_is all s r = reads_setup all s r ∙ (in_lines (first_of all s r) r.conference_lines ∙ ap setup_in (sym r.whole))

-- lines are those of one setup at most
pub one_reading : (all : List (List ℕ)) (a b : SetupFields) → SetupLinesRead all a → SetupLinesRead all b → a ≡ b
one_reading all a b x y = setup_is all a x ∙ sym (setup_is all b y)

-- all lines were kept
all_kept : (all kept : List (List ℕ)) (number : ℕ) → Kept all [] number kept → counted all ≡ kept
all_kept all kept number k = ap counted (k.whole ∙ append-nil k.before) ∙ k.counted

-- what was read of the lines is a setup
pub setup_reads : (all : List (List ℕ)) (l : First) (own : List (List ℕ)) (number : ℕ) (head : Head) (zones : List ℕ) (conferences : List Conference) (s : SetupFields) → Kept all [] number (lines_of l own) → 1 ≤ length own
    → HeadIs l.board l.city l.phone l.sysop l.bbsid l.serial head → zones ≡ numbers_of_words (value_behind zones_key l.zones) → conferences ≡ conferences_of_lines own → IsMadeOf head zones conferences s → SetupLinesRead all s
setup_reads all l own number head zones conferences s k some t z q m =
    let digits : IsTrue (is_number head.serial.now) = ap is_number t.serial ∙ (passing l own k.keep).serial.fit in
    let same : s ≡ setup_of l own
    = same_setup s (setup_of l own) (m.board ∙ t.board) (m.city ∙ t.city) (m.phone ∙ t.phone) (m.sysop ∙ t.sysop) (m.bbsid ∙ t.bbsid) (m.serial digits ∙ ap number_of t.serial) (m.zone_list ∙ z) (m.conference_list ∙ q) in
    subst (SetupLinesRead all) (sym same) (kept_reads all l own (all_kept all (lines_of l own) number k) k.keep some)
