-- The text of a ledger as its first 24 bytes, what stands between them and the upload records, and these.
use Rattle.std.proofs.Common.{◌≡◌, ℕ, ◌≤◌, List, [], ◌∷◌, ◌++◌, length, refl, sym, ap, ◌∙◌, arith, append_assoc, length-append}
use Rattle.std.specs.List.{flat_map}
use Rattle.byteorder.specs.Endian.{little_bytes}
use Rattle.jam_records.specs.record_numbers.Numbers.{u32s_text}
use Rattle.board_ledger.specs.Conferences.{conference_text}
use Rattle.board_ledger.specs.Ledger.{ledger_text, text_in}
use Rattle.board_ledger.specs.Opening.{magic, fixed_text, setup_text}
use Rattle.board_ledger.specs.Uploads.{upload_text}
use Rattle.board_ledger.specs.Users.{users_text}
use Rattle.board_ledger.specs.declared.ledger.Ledger.{Ledger}
use Rattle.open_offers.specs.declared.version.Version.TheVariants.{Second}

-- the first 24 bytes, where the counts of users and of upload records are these
unfoldable pub numbers : Ledger → ℕ → ℕ → List ℕ
numbers l users uploads = magic ++ (flat_map (little_bytes 2) (2 ∷ length l.setup.conferences ∷ users ∷ length l.setup.zones ∷ []) ++ u32s_text (uploads ∷ l.created ∷ l.setup.serial ∷ []))

pub numbers_long : (l : Ledger) (users uploads : ℕ) → length (numbers l users uploads) ≡ 24
unfolding numbers
numbers_long l users uploads = refl

numbers_are : (l : Ledger) → fixed_text Second l ≡ numbers l (length l.users) (length l.uploads)
unfolding fixed_text numbers
numbers_are l = refl

-- the setup, the conferences and the users
unfoldable pub middle : Ledger → List ℕ
middle l = setup_text l.setup ++ (flat_map conference_text l.setup.conferences ++ users_text Second (length l.setup.conferences) l.users)

pub parts_are : (l : Ledger) → ledger_text l ≡ numbers l (length l.users) (length l.uploads) ++ (middle l ++ flat_map upload_text l.uploads)
unfolding text_in middle
parts_are l =
    let s : List ℕ = setup_text l.setup in
    let c : List ℕ = flat_map conference_text l.setup.conferences in
    let u : List ℕ = users_text Second (length l.setup.conferences) l.users in
    let r : List ℕ = flat_map upload_text l.uploads in
    (λ i. (numbers_are l i ++ s) ++ (c ++ (u ++ r)))
    ∙ (append_assoc (numbers l (length l.users) (length l.uploads)) s (c ++ (u ++ r))
    ∙ ap (λ (xs : List ℕ). numbers l (length l.users) (length l.uploads) ++ xs) (ap (λ (xs : List ℕ). s ++ xs) (sym (append_assoc c u r)) ∙ sym (append_assoc s (c ++ u) r)))

-- a text has its first 24 bytes
pub text_long : (l : Ledger) → 24 ≤ length (ledger_text l)
text_long l = omega (
  arith,
  ap length (parts_are l),
  numbers_long l (length l.users) (length l.uploads),
  length-append (numbers l (length l.users) (length l.uploads)) (middle l ++ flat_map upload_text l.uploads),
)
