-- How long the parts of a ledger's text are.
use Rattle.std.proofs.Common.{◌≡◌, ℕ, ◌+◌, ◌*◌, ◌<◌, ◌≤◌, List, [], ◌∷◌, ◌++◌, length, get_or, take, cond, refl, sym, ap, ◌∙◌, arith, length-append}
use Rattle.std.specs.Prelude.{All}
use Rattle.std.specs.List.{flat_map}
use Rattle.std.proofs.lemmas.List.{take_more, flat_map_more}
use Rattle.std.proofs.lemmas.List.Elements.{All-drop, All-head, All-tail}
use Rattle.byteorder.specs.Endian.{little_bytes}
use Rattle.jam_records.specs.record_numbers.Numbers.{u32_text, u32s_text}
use Rattle.setup_file.specs.declared.conference.Conference.{Conference}
use Rattle.setup_file.specs.declared.fields.SetupFields.{SetupFields}
use Rattle.open_offers.specs.Offers.{behind_last, behind_size, cell_count, cell_text, cells_for, cells_size}
use Rattle.open_offers.specs.Texts.{sized_text}
use Rattle.board_ledger.specs.Opening.{fixed_text, setup_text}
use Rattle.board_ledger.specs.Conferences.{conference_text}
use Rattle.board_ledger.specs.Users.{user_text, users_text, behind_name, IsUser}
use Rattle.board_ledger.specs.Uploads.{upload_text, upload_size}
use Rattle.board_ledger.specs.Ledger.{text_in}
use Rattle.board_ledger.specs.declared.ledger.Ledger.{Ledger}
use Rattle.open_offers.specs.declared.offer.OpenOffer.{OpenOffer}
use Rattle.board_ledger.specs.declared.upload.UploadRecord.{UploadRecord}
use Rattle.board_ledger.specs.declared.user.User.{User}
use Rattle.open_offers.specs.declared.version.Version.{Version}
use Rattle.open_offers.specs.declared.version.Version.TheVariants.{First, Second}
use Rattle.open_offers.proofs.OfferLaws.{CellFits, HasCells, has_cells}

-- records of one length
pub flat_length : {A : Type 0} (f : A → List ℕ) (size : ℕ) (xs : List A) → All (λ x. length (f x) ≡ size) xs → length (flat_map f xs) ≡ size * length xs
flat_length f size [] each = omega arith
flat_length {A = A} f size (x ∷ xs) each =
    let here = each 0 x (omega arith) in
    let others = flat_length f size xs (All-drop (λ (y : A). length (f y) ≡ size) 1 (x ∷ xs) each) in
    let more = length-append (f x) (flat_map f xs) in
    let product : size * length (x ∷ xs) ≡ size + size * length xs = omega arith in
    omega (arith, here, others, more, product)

pub one_more : {A : Type 0} (f : A → List ℕ) (xs : List A) (i : ℕ) (x : A) → i < length xs → x ≡ get_or xs i x → length (flat_map f (take (i + 1) xs)) ≡ length (flat_map f (take i xs)) + length (f x)
one_more f xs i x within is =
    ap (λ ys. length (flat_map f ys)) (take_more xs i x within ∙ ap (λ y. take i xs ++ y ∷ []) (sym is))
    ∙ (sym (ap length (flat_map_more f [] (take i xs) x)) ∙ length-append (flat_map f (take i xs)) (f x))

u16s_length : (numbers : List ℕ) → length (flat_map (little_bytes 2) numbers) ≡ 2 * length numbers
u16s_length numbers = flat_length (little_bytes 2) 2 numbers (λ k d within. refl)

u32s_length : (numbers : List ℕ) → length (u32s_text numbers) ≡ 4 * length numbers
u32s_length numbers = flat_length (little_bytes 4) 4 numbers (λ k d within. refl)

-- a text with its length, and what is behind it
sized_length : (text rest : List ℕ) → length (sized_text text ++ rest) ≡ 2 + length text + length rest
sized_length text rest = omega (arith, length-append text rest)

pub setup_length : (s : SetupFields) → length (setup_text s) ≡ ((2 + length s.board) + (2 + length s.city) + (2 + length s.phone)) + ((2 + length s.sysop) + (2 + length s.bbsid)) + 2 * length s.zones
setup_length s =
    let zones : List ℕ = flat_map (little_bytes 2) s.zones in
    let e = sized_length s.bbsid zones in
    let d = sized_length s.sysop (sized_text s.bbsid ++ zones) in
    let c = sized_length s.phone (sized_text s.sysop ++ (sized_text s.bbsid ++ zones)) in
    let b = sized_length s.city (sized_text s.phone ++ (sized_text s.sysop ++ (sized_text s.bbsid ++ zones))) in
    let a = sized_length s.board (sized_text s.city ++ (sized_text s.phone ++ (sized_text s.sysop ++ (sized_text s.bbsid ++ zones)))) in
    omega (arith, a, b, c, d, e, u16s_length s.zones)

pub fixed_length : (v : Version) (l : Ledger) → length (fixed_text v l) ≡ 24
unfolding fixed_text
fixed_length v l = omega arith

pub conference_length : (c : Conference) → length (conference_text c) ≡ 4 + (2 + length c.name)
unfolding conference_text
conference_length c = omega arith

-- the cells of a record, and what stands behind the last packet
cells_length : (count : ℕ) (cells : List OpenOffer) → All (CellFits count) cells → length (flat_map cell_text cells) ≡ cells_size count (length cells)
cells_length count [] each = refl
cells_length count (o ∷ cells) each =
    let highs = u32s_length o.highs in
    let fits = All-head (CellFits count) o cells each in
    let others = cells_length count cells (All-tail (CellFits count) o cells each) in
    omega (arith, highs, fits.many, others, length-append (cell_text o) (flat_map cell_text cells))

behind_length : (v : Version) (count members : ℕ) (cells : List OpenOffer) → HasCells v count cells → length (behind_last v members cells) ≡ behind_size v count
behind_length First count members [] has = absurd (let none = has.many in cc none)
behind_length First count members (o ∷ []) has =
    let highs = u32s_length o.highs in
    let fits = All-head (CellFits count) o [] has.each in
    omega (arith, highs, fits.many)
behind_length First count members (o ∷ p ∷ cells) has = absurd (let more = has.many in cc more)
behind_length Second count members cells has = omega (arith, cells_length count cells has.each, ap (cells_size count) has.many)

pub user_length : (v : Version) (count : ℕ) (u : User) → IsUser count u → length (user_text v count u) ≡ (2 + length u.name) + behind_name v count
unfolding user_text
user_length v count u ok =
    let cells : List OpenOffer = cells_for count (cell_count v) u.offers in
    let behind = behind_length v count u.members cells (has_cells v count u.members u.last u.offers ok.last ok.offers) in
    omega (arith, behind, length-append u.name (cond u.net 1 0 ∷ (u32_text u.last ++ behind_last v u.members cells)))

-- at most what it has where there are 64 conferences
pub behind_most : (v : Version) (count : ℕ) → count ≤ 64 → behind_name v count ≤ 1053
behind_most First count few = omega arith
behind_most Second count few = omega arith

pub upload_length : (r : UploadRecord) → length r.digest ≡ 32 → length (upload_text r) ≡ upload_size
unfolding upload_text
upload_length r digest = omega (arith, digest, length-append r.digest (u32_text r.counts.posted ++ u32_text r.counts.refused))

pub ledger_length : (v : Version) (l : Ledger) → All (λ r. length r.digest ≡ 32) l.uploads
    → length (text_in v l)
    ≡ 24 + (length (setup_text l.setup) + length (flat_map conference_text l.setup.conferences)) + length (users_text v (length l.setup.conferences) l.users) + upload_size * length l.uploads
unfolding text_in
ledger_length v l digests =
    let uploads = flat_length upload_text upload_size l.uploads (λ k d within. upload_length _ (digests k d within)) in
    let c : List ℕ = flat_map conference_text l.setup.conferences in
    let u : List ℕ = users_text v (length l.setup.conferences) l.users in
    let r : List ℕ = flat_map upload_text l.uploads in
    omega (arith, uploads, fixed_length v l, length-append (fixed_text v l) (setup_text l.setup), length-append (fixed_text v l ++ setup_text l.setup) (c ++ (u ++ r)), length-append c (u ++ r), length-append u r)
