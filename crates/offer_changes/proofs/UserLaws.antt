-- Users of whom one has another offer: their names, their places and their ids stay.
use Rattle.std.proofs.Common.{◌≡◌, ℕ, zero, suc, ◌+◌, ◌-◌, ◌<◌, ◌||◌, false, cond, eqb, List, [], ◌∷◌, ◌++◌, length, set, refl, sym, ap, ◌∙◌, subst, arith, length-append}
use Rattle.std.specs.Prelude.{All, slice_get, Some, None}
use Rattle.std.specs.Int.{bit_at}
use Rattle.std.specs.List.{flat_map}
use Rattle.std.specs.Str.{bytes_eq}
use Rattle.std.proofs.lemmas.Bool.{cond-false, ne_eqb}
use Rattle.std.proofs.lemmas.List.{length-replicate}
use Rattle.std.proofs.lemmas.List.Elements.{All-head, All-nil, All-tail}
use Rattle.std.proofs.lemmas.Option.{none-some, same_Some}
use Rattle.record_numbers.specs.Numbers.{u32_text}
use Rattle.board_layout.specs.Board.{Board, reader_of, readers_from, shape_of, shapes_from}
use Rattle.board_ledger.proofs.SizeLaws.{flat_length}
use Rattle.open_offers.specs.Offers.{behind_last, behind_size, cell_size, cell_text, cells_for, cells_size, no_offer}
use Rattle.board_ledger.specs.Records.{EachBehind}
use Rattle.board_ledger.specs.Users.{behind_name, is_taken, lowered, user_text}
use Rattle.board_ledger.specs.declared.ledger.Ledger.{Ledger}
use Rattle.open_offers.specs.declared.offer.OpenOffer.{OpenOffer}
use Rattle.board_ledger.specs.declared.user.User.{User}
use Rattle.open_offers.specs.declared.version.Version.TheVariants.{Second}
use Rattle.board_layout.specs.Lookups.{user_of}
use Rattle.board_ledger.specs.setup_file.declared.conference.Conference.{Conference as SetupConference}

-- ---- the user of an id
pub id_above : (b : Board) (id : ℕ) (u : User) → user_of id b ≡ Some u → 0 < id
id_above b zero u here = absurd (none-some u here)
id_above b (suc n) u here = omega arith

pub user_there : (b : Board) (id : ℕ) (u : User) → user_of id b ≡ Some u → slice_get b.ledger.users (id - 1) ≡ Some u
user_there b zero u here = absurd (none-some u here)
user_there b (suc n) u here = sym (cond-false (eqb (suc n) 0) None (slice_get b.ledger.users (suc n - 1)) (ne_eqb (suc n) 0 (λ e. omega (arith, e)))) ∙ here

-- ---- users that have the same names and places
-- two users that may differ in what is offered
pub record Alike (u v : User) : Type 0 where
  pub name : v.name ≡ u.name
  pub members : v.members ≡ u.members

abbrev pub AllAlike : List User → List User → Type 0
AllAlike [] [] = Unit {0}
AllAlike [] (v ∷ vs) = ⊥
AllAlike (u ∷ us) [] = ⊥
AllAlike (u ∷ us) (v ∷ vs) = Alike u v × AllAlike us vs

itself : (u : User) → Alike u u
itself u = record { name = refl; members = refl }

themselves : (users : List User) → AllAlike users users
themselves [] = tt
themselves (u ∷ users) = (itself u, themselves users)

pub one_alike : (users : List User) (place : ℕ) (u v : User) → slice_get users place ≡ Some u → Alike u v → AllAlike users (set users place v)
one_alike [] place u v here alike = absurd (none-some u here)
one_alike (w ∷ users) zero u v here alike = (subst (λ (x : User). Alike x v) (sym (same_Some w u here)) alike, themselves users)
one_alike (w ∷ users) (suc place) u v here alike = (itself w, one_alike users place u v here alike)

one_more : (us vs : List User) (u v : User) → AllAlike us vs → Alike u v → AllAlike (us ++ u ∷ []) (vs ++ v ∷ [])
one_more [] [] u v all alike = (alike, tt)
one_more [] (y ∷ vs) u v all alike = absurd all
one_more (x ∷ us) [] u v all alike = absurd all
one_more (x ∷ us) (y ∷ vs) u v all alike = (all.0, one_more us vs u v all.1 alike)

-- ---- the readers of a place
same_reader : (place id : ℕ) (u v : User) → Alike u v → reader_of place id v ≡ reader_of place id u
same_reader place id u v alike = λ i. cond (eqb (bit_at (alike.members i) place) 1) (record { id = id; name = alike.name i } ∷ []) []

same_readers : (place id : ℕ) (us vs : List User) → AllAlike us vs → readers_from place id vs ≡ readers_from place id us
same_readers place id [] [] all = refl
same_readers place id [] (v ∷ vs) all = absurd all
same_readers place id (u ∷ us) [] all = absurd all
same_readers place id (u ∷ us) (v ∷ vs) all = λ i. same_reader place id u v all.0 i ++ same_readers place (id + 1) us vs all.1 i

pub same_shapes : (l : Ledger) (users : List User) (place : ℕ) (conferences : List SetupConference) → AllAlike l.users users → shapes_from (record l { users = users }) place conferences ≡ shapes_from l place conferences
same_shapes l users place [] all = refl
same_shapes l users place (c ∷ conferences) all =
    let here : shape_of (record l { users = users }) place c.kind ≡ shape_of l place c.kind = λ i. record { place = place; created = l.created; kind = c.kind; readers = same_readers place 1 l.users users all i } in
    λ i. here i ∷ same_shapes l users (place + 1) conferences all i

-- ---- the names
same_taken : (us vs : List User) (name : List ℕ) → AllAlike us vs → is_taken vs name ≡ is_taken us name
same_taken [] [] name all = refl
same_taken [] (v ∷ vs) name all = absurd all
same_taken (u ∷ us) [] name all = absurd all
same_taken (u ∷ us) (v ∷ vs) name all = λ i. bytes_eq (lowered (all.0.name i)) (lowered name) || same_taken us vs name all.1 i

pub same_names : (before others us vs : List User) → AllAlike before others → AllAlike us vs → EachBehind (λ seen u. is_taken seen u.name ≡ false) before us → EachBehind (λ seen u. is_taken seen u.name ≡ false) others vs
same_names before others [] [] firsts all each = tt
same_names before others [] (v ∷ vs) firsts all each = absurd all
same_names before others (u ∷ us) [] firsts all each = absurd all
same_names before others (u ∷ us) (v ∷ vs) firsts all each = (
  same_taken before others v.name firsts ∙ (ap (is_taken before) all.0.name ∙ each.0),
  same_names (before ++ u ∷ []) (others ++ v ∷ []) us vs (one_more before others u v firsts all.0) all.1 each.1,
)

-- ---- their records
-- each offer of the user has a high for each of so many conferences
abbrev pub OneHighEach : ℕ → User → Type 0
OneHighEach count u = All (λ o. length o.highs ≡ count) u.offers

cell_length : (count : ℕ) (o : OpenOffer) → length o.highs ≡ count → length (cell_text o) ≡ cell_size count
cell_length count o many = omega (arith, many, flat_length u32_text 4 o.highs (λ k d within. refl))

cells_length : (count n : ℕ) (offers : List OpenOffer) → All (λ o. length o.highs ≡ count) offers → length (flat_map cell_text (cells_for count n offers)) ≡ cells_size count n
cells_length count zero offers each = refl
cells_length count (suc n) [] each = omega (
  arith,
  cell_length count (no_offer count) (length-replicate {A = ℕ} count 0),
  cells_length count n [] (All-nil (λ (o : OpenOffer). length o.highs ≡ count)),
  length-append (cell_text (no_offer count)) (flat_map cell_text (cells_for count n [])),
)
cells_length count (suc n) (o ∷ offers) each = omega (
  arith,
  cell_length count o (All-head (λ (p : OpenOffer). length p.highs ≡ count) o offers each),
  cells_length count n offers (All-tail (λ (p : OpenOffer). length p.highs ≡ count) o offers each),
  length-append (cell_text o) (flat_map cell_text (cells_for count n offers)),
)

record_length : (count : ℕ) (u : User) → OneHighEach count u → length (user_text Second count u) ≡ (2 + length u.name) + behind_name Second count
unfolding user_text
record_length count u each =
    let cells : List OpenOffer = cells_for count 4 u.offers in
    let behind : length (behind_last Second u.members cells) ≡ behind_size Second count = omega (arith, cells_length count 4 u.offers each) in
    omega (arith, behind, length-append u.name (cond u.net 1 0 ∷ (u32_text u.last ++ behind_last Second u.members cells)))

pub same_record : (count : ℕ) (u v : User) → Alike u v → OneHighEach count u → OneHighEach count v → length (user_text Second count v) ≡ length (user_text Second count u)
same_record count u v alike was each = omega (arith, record_length count u was, record_length count v each, ap (length {A = ℕ}) alike.name)
