-- The text of a valid ledger is bytes, and how long it is at most.
use Rattle.std.proofs.Common.{◌≡◌, ℕ, ◌+◌, ◌*◌, ◌^◌, ◌≤◌, ◌<◌, Bool, true, false, cond, not, ◌&&◌, eqb, leb, List, [], ◌∷◌, ◌++◌, length, arith, length-append}
use Rattle.std.specs.Prelude.{All, IsTrue}
use Rattle.std.specs.List.{flat_map, list_all}
use Rattle.std.proofs.lemmas.Bool.{leb-true, and_parts}
use Rattle.std.proofs.lemmas.Bool.Decides.{nat_tests}
use Rattle.std.proofs.lemmas.List.Elements.{All-nil, All-cons, All-append, All-drop}
use Rattle.std.proofs.lemmas.List.Sums.{AllPass-from_list_all}
use Rattle.byteorder.specs.Endian.{little_bytes}
use Rattle.jam_records.specs.byte_lists.Byte.{IsByte}
use Rattle.jam_records.proofs.record_numbers.NumberLemmas.{number_bytes}
use Rattle.jam_records.specs.record_numbers.Numbers.{u16_text, u32_text, u32s_text}
use Rattle.jam_records.specs.declared.message.Kind.{Kind}
use Rattle.jam_records.specs.declared.message.Kind.TheVariants.{Local, Echo, Net}
use Rattle.setup_file.specs.Texts.{is_printed_byte, is_printed, is_name_byte, has_bare_ends, is_letter_or_digit, is_board_text, is_user_name, is_bbsid, is_conference_name}
use Rattle.setup_file.specs.Valid.{IsSetup, IsSetupConference}
use Rattle.setup_file.specs.declared.conference.Conference.{Conference}
use Rattle.setup_file.specs.declared.fields.SetupFields.{SetupFields}
use Rattle.open_offers.specs.Texts.{sized_text, u64_text}
use Rattle.open_offers.specs.Offers.{behind_last, cell_count, cell_text, cells_for}
use Rattle.board_ledger.specs.Opening.{magic, fixed_text, setup_text}
use Rattle.board_ledger.specs.Conferences.{kind_number, rules_number, conference_text}
use Rattle.board_ledger.specs.Users.{user_text, users_text, IsUser}
use Rattle.board_ledger.specs.Uploads.{upload_text, IsUpload}
use Rattle.board_ledger.specs.Ledger.{stored_text, text_in}
use Rattle.board_ledger.specs.Valid.{IsLedger, IsStored, today}
use Rattle.open_offers.specs.Versions.{version_number, version_of}
use Rattle.board_ledger.specs.declared.ledger.Ledger.{Ledger}
use Rattle.open_offers.specs.declared.offer.OpenOffer.{OpenOffer}
use Rattle.board_ledger.specs.declared.upload.UploadRecord.{UploadRecord}
use Rattle.board_ledger.specs.declared.user.User.{User}
use Rattle.open_offers.specs.declared.version.Version.{Version}
use Rattle.open_offers.specs.declared.version.Version.TheVariants.{First, Second}
use Rattle.board_ledger.proofs.SetupBounds.{board_small, user_small, bbsid_small, name_small, zones_few}
use Rattle.board_ledger.proofs.SizeLaws.{setup_length, conference_length, user_length, behind_most, ledger_length}
use Rattle.board_ledger.proofs.VersionLaws.{today_valid}

-- ---- numbers and lists of records
both : (xs ys : List ℕ) → All IsByte xs → All IsByte ys → All IsByte (xs ++ ys)
both xs ys all others = All-append IsByte xs ys all others

numbers_bytes : (width : ℕ) (numbers : List ℕ) → All IsByte (flat_map (little_bytes width) numbers)
numbers_bytes width [] = All-nil IsByte
numbers_bytes width (n ∷ numbers) = both (little_bytes width n) (flat_map (little_bytes width) numbers) (number_bytes 0 width n) (numbers_bytes width numbers)

records_bytes : {A : Type 0} (f : A → List ℕ) (xs : List A) → All (λ x. All IsByte (f x)) xs → All IsByte (flat_map f xs)
records_bytes f [] each = All-nil IsByte
records_bytes {A = A} f (x ∷ xs) each = both (f x) (flat_map f xs) (each 0 x (omega arith)) (records_bytes f xs (All-drop (λ (y : A). All IsByte (f y)) 1 (x ∷ xs) each))

records_most : {A : Type 0} (f : A → List ℕ) (most : ℕ) (xs : List A) → All (λ x. length (f x) ≤ most) xs → length (flat_map f xs) ≤ most * length xs
records_most f most [] each = omega arith
records_most {A = A} f most (x ∷ xs) each =
    let here = each 0 x (omega arith) in
    let others = records_most f most xs (All-drop (λ (y : A). length (f y) ≤ most) 1 (x ∷ xs) each) in
    let more = length-append (f x) (flat_map f xs) in
    let product : most * length (x ∷ xs) ≡ most + most * length xs = omega arith in
    omega (arith, here, others, more, product)

-- ---- texts
all_bytes : (p : ℕ → Bool) (text : List ℕ) → ((b : ℕ) → p b ≡ true → b < 256) → list_all p text ≡ true → All IsByte text
all_bytes p text small e = λ k d within. small _ (AllPass-from_list_all p text e k d within)

printed_small : (b : ℕ) → is_printed_byte b ≡ true → b < 256
printed_small b e = let most = leb-true b 0x7E (and_parts (leb 0x20 b) (leb b 0x7E) e).1 in omega arith

name_byte_small : (b : ℕ) → is_name_byte b ≡ true → b < 256
name_byte_small b e = printed_small b (and_parts (is_printed_byte b) (not (eqb b 0x22)) e).0

letter_small : (b : ℕ) → is_letter_or_digit b ≡ true → b < 256
letter_small b e = grind (arith, nat_tests)

board_bytes : (text : List ℕ) → IsTrue (is_board_text text) → All IsByte text
unfolding is_board_text
board_bytes text e = all_bytes is_printed_byte text printed_small (and_parts (leb (length text) 60) (is_printed text) e).1

user_bytes : (name : List ℕ) → IsTrue (is_user_name name) → All IsByte name
unfolding is_user_name
user_bytes name e = all_bytes is_name_byte name name_byte_small (and_parts (list_all is_name_byte name) (has_bare_ends name) (and_parts (leb (length name) 25) (list_all is_name_byte name && has_bare_ends name) e).1).0

bbsid_bytes : (id : List ℕ) → IsTrue (is_bbsid id) → All IsByte id
unfolding is_bbsid
bbsid_bytes id e = all_bytes is_letter_or_digit id letter_small (and_parts (leb 1 (length id) && leb (length id) 8) (list_all is_letter_or_digit id) e).1

name_bytes : (name : List ℕ) → IsTrue (is_conference_name name) → All IsByte name
unfolding is_conference_name
name_bytes name e = all_bytes is_printed_byte name printed_small (and_parts (leb 1 (length name) && leb (length name) 13) (is_printed name) e).1

sized_bytes : (text : List ℕ) → All IsByte text → All IsByte (sized_text text)
sized_bytes text all = both (u16_text (length text)) text (number_bytes 0 2 (length text)) all

-- ---- records
magic_bytes : All IsByte magic
magic_bytes = All-cons IsByte 0x51 (0x4D ∷ 0x44 ∷ 0x4C ∷ []) (omega arith) (All-cons IsByte 0x4D (0x44 ∷ 0x4C ∷ []) (omega arith) (All-cons IsByte 0x44 (0x4C ∷ []) (omega arith) (All-cons IsByte 0x4C [] (omega arith) (All-nil IsByte))))

fixed_bytes : (v : Version) (l : Ledger) → All IsByte (fixed_text v l)
unfolding fixed_text
fixed_bytes v l =
    let counts : List ℕ = version_number v ∷ length l.setup.conferences ∷ length l.users ∷ length l.setup.zones ∷ [] in
    let numbers : List ℕ = length l.uploads ∷ l.created ∷ l.setup.serial ∷ [] in
    both magic (flat_map (little_bytes 2) counts ++ u32s_text numbers) magic_bytes (both (flat_map (little_bytes 2) counts) (u32s_text numbers) (numbers_bytes 2 counts) (numbers_bytes 4 numbers))

setup_bytes : (s : SetupFields) → IsSetup s → All IsByte (setup_text s)
setup_bytes s ok =
    let zones : List ℕ = flat_map (little_bytes 2) s.zones in
    let e5 = both (sized_text s.bbsid) zones (sized_bytes s.bbsid (bbsid_bytes s.bbsid ok.bbsid)) (numbers_bytes 2 s.zones) in
    let e4 = both (sized_text s.sysop) (sized_text s.bbsid ++ zones) (sized_bytes s.sysop (user_bytes s.sysop ok.sysop)) e5 in
    let e3 = both (sized_text s.phone) (sized_text s.sysop ++ (sized_text s.bbsid ++ zones)) (sized_bytes s.phone (board_bytes s.phone ok.phone)) e4 in
    let e2 = both (sized_text s.city) (sized_text s.phone ++ (sized_text s.sysop ++ (sized_text s.bbsid ++ zones))) (sized_bytes s.city (board_bytes s.city ok.city)) e3 in
    both (sized_text s.board) (sized_text s.city ++ (sized_text s.phone ++ (sized_text s.sysop ++ (sized_text s.bbsid ++ zones)))) (sized_bytes s.board (board_bytes s.board ok.board)) e2

kind_small : (k : Kind) → kind_number k < 256
kind_small Local = omega arith
kind_small Echo = omega arith
kind_small Net = omega arith

rules_small : (readonly private : Bool) → cond readonly 1 0 + cond private 2 0 < 256
rules_small true true = omega arith
rules_small true false = omega arith
rules_small false true = omega arith
rules_small false false = omega arith

conference_bytes : (c : Conference) → IsSetupConference c → All IsByte (conference_text c)
unfolding conference_text
conference_bytes c ok =
    let name : List ℕ = sized_text c.name in
    both (u16_text c.number) (kind_number c.kind ∷ rules_number c ∷ name) (number_bytes 0 2 c.number)
    (All-cons IsByte (kind_number c.kind) (rules_number c ∷ name) (kind_small c.kind) (All-cons IsByte (rules_number c) name (rules_small c.readonly c.private) (sized_bytes c.name (name_bytes c.name ok.name))))

flag_small : (net : Bool) → cond net 1 0 < 256
flag_small true = omega arith
flag_small false = omega arith

cell_bytes : (o : OpenOffer) → All IsByte (cell_text o)
cell_bytes o = both (u32_text o.number) (u32s_text o.highs) (number_bytes 0 4 o.number) (numbers_bytes 4 o.highs)

behind_bytes : (v : Version) (members : ℕ) (cells : List OpenOffer) → All IsByte (behind_last v members cells)
behind_bytes First members [] = All-nil IsByte
behind_bytes First members (o ∷ cells) =
    let rest : List ℕ = u64_text members ++ u32s_text o.highs in
    both (u32_text o.number) rest (number_bytes 0 4 o.number) (both (u64_text members) (u32s_text o.highs) (number_bytes 0 8 members) (numbers_bytes 4 o.highs))
behind_bytes Second members cells = both (u64_text members) (flat_map cell_text cells) (number_bytes 0 8 members) (records_bytes cell_text cells (λ k d within. cell_bytes _))

one_user_bytes : (v : Version) (count : ℕ) (u : User) → IsUser count u → All IsByte (user_text v count u)
unfolding user_text
one_user_bytes v count u ok =
    let behind : List ℕ = behind_last v u.members (cells_for count (cell_count v) u.offers) in
    let rest = both (u32_text u.last) behind (number_bytes 0 4 u.last) (behind_bytes v u.members (cells_for count (cell_count v) u.offers)) in
    both (sized_text u.name) (cond u.net 1 0 ∷ (u32_text u.last ++ behind)) (sized_bytes u.name (user_bytes u.name ok.name))
    (All-cons IsByte (cond u.net 1 0) (u32_text u.last ++ behind) (flag_small u.net) rest)

upload_bytes : (users : ℕ) (r : UploadRecord) → IsUpload users r → All IsByte (upload_text r)
unfolding upload_text
upload_bytes users r ok =
    let counts : List ℕ = u32_text r.counts.posted ++ u32_text r.counts.refused in
    both (u16_text r.user) (r.digest ++ counts) (number_bytes 0 2 r.user) (both r.digest counts ok.bytes (both (u32_text r.counts.posted) (u32_text r.counts.refused) (number_bytes 0 4 r.counts.posted) (number_bytes 0 4 r.counts.refused)))

-- ---- the whole
text_bytes : (v : Version) (l : Ledger) → IsLedger (today l) → All IsByte (text_in v l)
unfolding text_in
text_bytes v l ok =
    let c : List ℕ = flat_map conference_text l.setup.conferences in
    let count : ℕ = length l.setup.conferences in
    let u : List ℕ = users_text v count l.users in
    let r : List ℕ = flat_map upload_text l.uploads in
    let cs : All IsByte c = records_bytes conference_text l.setup.conferences (λ k d within. conference_bytes _ (ok.setup.conferences.each k d within)) in
    let us : All IsByte u = records_bytes (user_text v count) l.users (λ k d within. one_user_bytes v count _ (ok.users k d within)) in
    let rs : All IsByte r = records_bytes upload_text l.uploads (λ k d within. upload_bytes (length l.users) _ (ok.uploads k d within)) in
    both (fixed_text v l ++ setup_text l.setup) (c ++ (u ++ r)) (both (fixed_text v l) (setup_text l.setup) (fixed_bytes v l) (setup_bytes l.setup ok.setup)) (both c (u ++ r) cs (both u r us rs))

conference_most : (c : Conference) → IsSetupConference c → length (conference_text c) ≤ 19
conference_most c ok = omega (arith, conference_length c, name_small c.name ok.name)

user_most : (v : Version) (count : ℕ) (u : User) → count ≤ 64 → IsUser count u → length (user_text v count u) ≤ 1080
user_most v count u few ok = omega (arith, user_length v count u ok, user_small u.name ok.name, behind_most v count few)

pub text_short : (v : Version) (l : Ledger) → IsLedger (today l) → length (text_in v l) < 2 ^ 31
text_short v l ok =
    let s : SetupFields = l.setup in
    let board = board_small s.board ok.setup.board in
    let city = board_small s.city ok.setup.city in
    let phone = board_small s.phone ok.setup.phone in
    let sysop = user_small s.sysop ok.setup.sysop in
    let bbsid = bbsid_small s.bbsid ok.setup.bbsid in
    let zones = zones_few s.zones ok.setup.zones in
    let many = ok.setup.conferences.many in
    let setup : length (setup_text s) ≤ 400 = omega (arith, setup_length s) in
    let conferences : length (flat_map conference_text s.conferences) ≤ 19 * length s.conferences =
    records_most conference_text 19 s.conferences (λ k d within. conference_most _ (ok.setup.conferences.each k d within)) in
    let users : length (users_text v (length s.conferences) l.users) ≤ 1080 * length l.users =
    records_most (user_text v (length s.conferences)) 1080 l.users (λ k d within. user_most v (length s.conferences) _ many (ok.users k d within)) in
    omega (arith, ledger_length v l (λ k d within. (ok.uploads k d within).digest), setup, conferences, users, ok.few_users, ok.few_uploads)

pub fit : (l : Ledger) → IsStored l → All IsByte (stored_text l) × (length (stored_text l) < 2 ^ 31)
fit l stored = (text_bytes (version_of l.version) l (today_valid l stored), text_short (version_of l.version) l (today_valid l stored))
