-- The shapes of a valid ledger: ids rise and are of four bytes, and names are bytes.
use Rattle.std.proofs.Common.{◌≡◌, ℕ, ◌+◌, ◌^◌, ◌≤◌, ◌<◌, Bool, true, false, cond, not, ◌&&◌, eqb, leb, List, [], ◌∷◌, ◌++◌, length, arith}
use Rattle.std.specs.Prelude.{All, IsTrue}
use Rattle.std.specs.List.{list_all}
use Rattle.std.proofs.lemmas.Bool.{leb-true, and_parts}
use Rattle.std.proofs.lemmas.List.Elements.{All-nil, All-cons, All-drop}
use Rattle.std.proofs.lemmas.List.Sums.{AllPass-from_list_all}
use Rattle.jam_records.specs.byte_lists.Byte.{IsByte}
use Rattle.board_ledger.specs.Users.{is_member}
use Rattle.board_ledger.specs.Valid.{IsLedger}
use Rattle.board_ledger.specs.declared.ledger.Ledger.{Ledger}
use Rattle.board_ledger.specs.declared.user.User.{User}
use Rattle.jam_base.specs.jam_layout.Reader.{IsReader}
use Rattle.jam_base.specs.jam_layout.Valid.{Rise, IsShape, ShapeFits}
use Rattle.jam_base.specs.jam_layout.declared.reader.Reader.{Reader}
use Rattle.jam_records.specs.declared.message.Kind.{Kind}
use Rattle.board_ledger.specs.setup_file.Texts.{is_printed_byte, is_name_byte, has_bare_ends, is_user_name}
use Rattle.board_layout.specs.Board.{readers_from, shape_of}

-- ---- ids
-- the first id is at least this one
abbrev FirstFrom : ℕ → List Reader → Type 0
FirstFrom id [] = Unit {0}
FirstFrom id (r ∷ readers) = id ≤ r.id

lower : (a b : ℕ) (readers : List Reader) → a ≤ b → FirstFrom b readers → FirstFrom a readers
lower a b [] le from = tt
lower a b (r ∷ readers) le from = omega arith

one_first : (member : Bool) (r : Reader) (readers : List Reader) → FirstFrom (r.id + 1) readers → FirstFrom r.id (cond member (r ∷ []) [] ++ readers)
one_first true r readers from = omega arith
one_first false r readers from = lower r.id (r.id + 1) readers (omega arith) from

first_from : (place id : ℕ) (users : List User) → FirstFrom id (readers_from place id users)
first_from place id [] = tt
first_from place id (u ∷ users) = one_first (is_member u place) (record { id = id; name = u.name }) (readers_from place (id + 1) users) (first_from place (id + 1) users)

rise_more : (r : Reader) (readers : List Reader) → FirstFrom (r.id + 1) readers → Rise readers → Rise (r ∷ readers)
rise_more r [] from rise = tt
rise_more r (s ∷ readers) from rise = (omega arith, rise)

one_rise : (member : Bool) (r : Reader) (readers : List Reader) → FirstFrom (r.id + 1) readers → Rise readers → Rise (cond member (r ∷ []) [] ++ readers)
one_rise true r readers from rise = rise_more r readers from rise
one_rise false r readers from rise = rise

readers_rise : (place id : ℕ) (users : List User) → Rise (readers_from place id users)
readers_rise place id [] = tt
readers_rise place id (u ∷ users) =
    one_rise (is_member u place) (record { id = id; name = u.name }) (readers_from place (id + 1) users) (first_from place (id + 1) users) (readers_rise place (id + 1) users)

pub shape_is : (l : Ledger) (place : ℕ) (kind : Kind) → place < 64 → IsShape (shape_of l place kind)
shape_is l place kind within = record { place = omega arith; rise = readers_rise place 1 l.users }

-- ---- names
name_byte_small : (b : ℕ) → is_name_byte b ≡ true → b < 256
name_byte_small b e = let most = leb-true b 0x7E (and_parts (leb 0x20 b) (leb b 0x7E) (and_parts (is_printed_byte b) (not (eqb b 0x22)) e).0).1 in omega arith

name_bytes : (name : List ℕ) → IsTrue (is_user_name name) → All IsByte name
unfolding is_user_name
name_bytes name e =
    let each : list_all is_name_byte name ≡ true = (and_parts (list_all is_name_byte name) (has_bare_ends name) (and_parts (leb (length name) 25) (list_all is_name_byte name && has_bare_ends name) e).1).0 in
    λ k d within. name_byte_small _ (AllPass-from_list_all is_name_byte name each k d within)

one_fits : (member : Bool) (r : Reader) (readers : List Reader) → IsReader r → All IsReader readers → All IsReader (cond member (r ∷ []) [] ++ readers)
one_fits true r readers one all = All-cons IsReader r readers one all
one_fits false r readers one all = all

readers_fit : (place id : ℕ) (users : List User) → id + length users ≤ 2 ^ 32 → All (λ u. IsTrue (is_user_name u.name)) users → All IsReader (readers_from place id users)
readers_fit place id [] few names = All-nil IsReader
readers_fit place id (u ∷ users) few names =
    let small : id < 2 ^ 32 = omega arith in
    let name : IsTrue (is_user_name u.name) = names 0 u (omega arith) in
    let others = readers_fit place (id + 1) users (omega arith) (All-drop (λ (v : User). IsTrue (is_user_name v.name)) 1 (u ∷ users) names) in
    one_fits (is_member u place) (record { id = id; name = u.name }) (readers_from place (id + 1) users) (small, name_bytes u.name name) others

pub shape_fits : (l : Ledger) (place : ℕ) (kind : Kind) → IsLedger l → ShapeFits (shape_of l place kind)
shape_fits l place kind ok =
    let few = ok.few_users in
    record { created = ok.created; readers = readers_fit place 1 l.users (omega arith) (λ k d within. (ok.users k d within).name) }
