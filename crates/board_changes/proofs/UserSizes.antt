-- What a user more makes of the conferences of a board, and how many bytes it adds to the files.
use Rattle.std.proofs.Common.{◌≡◌, ℕ, zero, suc, ◌+◌, ◌*◌, ◌≤◌, Bool, true, false, cond, eqb, List, [], ◌∷◌, ◌++◌, length, replicate, refl, sym, ap, ◌∙◌, subst, arith, length-append}
use Rattle.std.specs.Prelude.{All, sum_by}
use Rattle.std.specs.List.{AllZip}
use Rattle.std.specs.Int.{bit_at}
use Rattle.std.proofs.lemmas.List.{append-nil, length-replicate}
use Rattle.std.proofs.lemmas.List.Sums.{sum_by-cons}
use Rattle.std.proofs.lemmas.List.Elements.{All-append, All-nil, All-cons, All-replicate}
use Rattle.board_changes.specs.Changed.{joined_in, joined_from, new_user, with_user, with_member}
use Rattle.board_changes.specs.Enrolling.{one_if_joined, joined_count}
use Rattle.board_changes.proofs.MemberLaws.{readers_more}
use Rattle.board_layout.specs.Board.{Board, reader_of, readers_from, shape_of, shapes_from, shapes_of}
use Rattle.board_layout.specs.Layout.{board_size, layouts}
use Rattle.board_layout.specs.Valid.{IsBoard}
use Rattle.board_ledger.proofs.SizeLaws.{flat_length, ledger_length}
use Rattle.board_ledger.specs.Ledger.{ledger_text}
use Rattle.board_ledger.specs.open_offers.Offers.{behind_last, cell_text, cells_for, no_offer}
use Rattle.board_ledger.specs.UserPuts.{record_in}
use Rattle.board_ledger.specs.Users.{user_text, users_text}
use Rattle.board_ledger.specs.Valid.{IsLedger}
use Rattle.board_ledger.specs.declared.ledger.Ledger.{Ledger}
use Rattle.board_ledger.specs.open_offers.declared.offer.OpenOffer.{OpenOffer}
use Rattle.board_ledger.specs.declared.user.User.{User}
use Rattle.board_ledger.specs.open_offers.declared.version.Version.TheVariants.{Second}
use Rattle.board_layout.proofs.jam_layout.SlotSizes.{size_is}
use Rattle.board_layout.specs.jam_layout.Layout.{layout, files_size}
use Rattle.board_layout.specs.jam_layout.Sizes.{slot_size}
use Rattle.board_layout.specs.jam_layout.Valid.{IsConference}
use Rattle.board_layout.specs.jam_layout.declared.conference.ConferenceContents.{ConferenceContents}
use Rattle.board_layout.specs.jam_layout.declared.reader.Reader.{Reader}
use Rattle.board_layout.specs.jam_layout.declared.shape.Shape.{Shape}
use Rattle.jam_records.specs.declared.message.Kind.{Kind}
use Rattle.jam_records.specs.declared.message.Slot.{Slot}
use Rattle.jam_records.specs.record_numbers.Numbers.{u32_text}
use Rattle.board_ledger.specs.setup_file.declared.conference.Conference.{Conference as SetupConference}

-- ---- the conference of a place
pub slots_stay : (members place : ℕ) (c : ConferenceContents) → (joined_in members place c).slots ≡ c.slots
slots_stay members place c = by (eqb (bit_at members place) 1)
  where
    by : (b : Bool) → (cond b (record c { pointers = c.pointers ++ 0 ∷ [] }) c).slots ≡ c.slots
    by true = refl
    by false = refl

one_zero : (most : ℕ) → All (λ p. p ≤ most) (0 ∷ [])
one_zero most = All-cons (λ p. p ≤ most) 0 [] (omega arith) (All-nil (λ p. p ≤ most))

-- it is one of its shape, with a pointer for each reader
joined_conference : (l : Ledger) (u : User) (place : ℕ) (kind : Kind) (c : ConferenceContents) → IsConference (shape_of l place kind) c → IsConference (shape_of (with_user u l) place kind) (joined_in u.members place c)
joined_conference l u place kind c ok = subst (λ (rs : List Reader). IsConference (shape rs) (joined_in u.members place c)) (sym (readers_more place 1 l.users u)) (by (eqb (bit_at u.members place) 1))
  where
    shape : List Reader → Shape
    shape readers = record { place = place; created = l.created; kind = kind; readers = readers }

    by : (b : Bool) → IsConference (shape (readers_from place 1 l.users ++ cond b (record { id = 1 + length l.users; name = u.name } ∷ []) [])) (cond b (record c { pointers = c.pointers ++ 0 ∷ [] }) c)
    by true = record {
      counter = ok.counter;
      few = ok.few;
      slots = ok.slots;
      pointers = record {
        all = length-append c.pointers (0 ∷ []) ∙ (ap (λ n. n + 1) ok.pointers.all ∙ sym (length-append (readers_from place 1 l.users) (record { id = 1 + length l.users; name = u.name } ∷ [])));
        within = All-append (λ p. p ≤ length c.slots) c.pointers (0 ∷ []) ok.pointers.within (one_zero (length c.slots));
      };
    }
    by false = subst (λ (rs : List Reader). IsConference (shape rs) c) (sym (append-nil (readers_from place 1 l.users))) ok

readers_count : (place id : ℕ) (u : User) → length (reader_of place id u) ≡ one_if_joined u.members place
readers_count place id u = by (eqb (bit_at u.members place) 1)
  where
    one : List Reader
    one = record { id = id; name = u.name } ∷ []

    by : (b : Bool) → length (cond b one []) ≡ cond b 1 0
    by true = refl
    by false = refl

-- the files of a place have a record of the last read message more, where the user is a member
joined_size : (l : Ledger) (u : User) (place : ℕ) (kind : Kind) (c : ConferenceContents) → IsConference (shape_of l place kind) c
    → files_size (layout (shape_of (with_user u l) place kind) (joined_in u.members place c)) ≡ files_size (layout (shape_of l place kind) c) + 16 * one_if_joined u.members place
joined_size l u place kind c ok =
    let old = size_is (shape_of l place kind) c ok in
    let new = size_is (shape_of (with_user u l) place kind) (joined_in u.members place c) (joined_conference l u place kind c ok) in
    let slots = ap (λ (s : List Slot). sum_by slot_size s) (slots_stay u.members place c) in
    let more = ap (λ (rs : List Reader). length rs) (readers_more place 1 l.users u) in
    omega (arith, old, new, slots, more, length-append (readers_from place 1 l.users) (reader_of place (1 + length l.users) u), readers_count place (1 + length l.users) u)

-- ---- place by place
joined_all : (l : Ledger) (u : User) (place : ℕ) (cs : List SetupConference) (conferences : List ConferenceContents) → AllZip IsConference (shapes_from l place cs) conferences
    → AllZip IsConference (shapes_from (with_user u l) place cs) (joined_from u.members place conferences)
joined_all l u place [] [] all = tt
joined_all l u place [] (d ∷ conferences) all = absurd all
joined_all l u place (c ∷ cs) [] all = absurd all
joined_all l u place (c ∷ cs) (d ∷ conferences) all = (joined_conference l u place c.kind d all.0, joined_all l u (place + 1) cs conferences all.1)

pub members_are : (b : Board) (u : User) → IsBoard b → AllZip IsConference (shapes_of (with_user u b.ledger)) (joined_from u.members 0 b.conferences)
members_are b u ok = joined_all b.ledger u 0 b.ledger.setup.conferences b.conferences ok.conferences

joined_sizes : (l : Ledger) (u : User) (place : ℕ) (cs : List SetupConference) (conferences : List ConferenceContents) → AllZip IsConference (shapes_from l place cs) conferences
    → sum_by files_size (layouts (shapes_from (with_user u l) place cs) (joined_from u.members place conferences)) ≡ sum_by files_size (layouts (shapes_from l place cs) conferences) + 16 * joined_count u.members place (length conferences)
joined_sizes l u place [] [] all = refl
joined_sizes l u place [] (d ∷ conferences) all = absurd all
joined_sizes l u place (c ∷ cs) [] all = absurd all
joined_sizes l u place (c ∷ cs) (d ∷ conferences) all =
    let here = joined_size l u place c.kind d all.0 in
    let others = joined_sizes l u (place + 1) cs conferences all.1 in
    let old = sum_by-cons files_size (layout (shape_of l place c.kind) d) (layouts (shapes_from l (place + 1) cs) conferences) in
    let new = sum_by-cons files_size (layout (shape_of (with_user u l) place c.kind) (joined_in u.members place d)) (layouts (shapes_from (with_user u l) (place + 1) cs) (joined_from u.members (place + 1) conferences)) in
    omega (arith, here, others, old, new)

-- ---- the ledger
users_length : (count : ℕ) (users : List User) (u : User) → length (users_text Second count (users ++ u ∷ [])) ≡ length (users_text Second count users) + length (user_text Second count u)
users_length count [] u = omega (arith, length-append (user_text Second count u) [])
users_length count (v ∷ users) u =
    omega (arith, users_length count users u, length-append (user_text Second count v) (users_text Second count (users ++ u ∷ [])), length-append (user_text Second count v) (users_text Second count users))

user_ledger : (l : Ledger) (u : User) → IsLedger l → length (ledger_text (with_user u l)) ≡ length (ledger_text l) + length (record_in l u)
user_ledger l u ok =
    let old = ledger_length Second l (λ k d within. (ok.uploads k d within).digest) in
    let new = ledger_length Second (with_user u l) (λ k d within. (ok.uploads k d within).digest) in
    omega (arith, old, new, users_length (length l.setup.conferences) l.users u)

no_offer_length : (count : ℕ) → length (cell_text (no_offer count)) ≡ 4 + 4 * count
no_offer_length count =
    let zeros = flat_length u32_text 4 (replicate count 0) (λ k d within. refl) in
    omega (arith, zeros, length-replicate {A = ℕ} count 0)

-- the record of a user who was never offered a packet
pub new_length : (count : ℕ) (name : List ℕ) (net : Bool) (members : ℕ) → length (user_text Second count (new_user name net members)) ≡ 31 + length name + 16 * count
unfolding user_text
new_length count name net members =
    let cells : List OpenOffer = cells_for count 4 [] in
    let none = no_offer_length count in
    let behind = flat_length cell_text (4 + 4 * count) cells (All-replicate (λ (o : OpenOffer). length (cell_text o) ≡ 4 + 4 * count) 4 (no_offer count) none) in
    let product : (4 + 4 * count) * 4 ≡ 16 + 16 * count = omega arith in
    omega (arith, behind, product, length-append name (cond net 1 0 ∷ (u32_text 0 ++ behind_last Second members cells)))

-- ---- the places of a member set, counted one by one
pub one_at_most : (members place : ℕ) → one_if_joined members place ≤ 1
one_at_most members place = by (eqb (bit_at members place) 1)
  where
    by : (b : Bool) → cond b 1 0 ≤ 1
    by true = omega arith
    by false = omega arith

count_more : (members place n : ℕ) → joined_count members place (suc n) ≡ joined_count members place n + one_if_joined members (place + n)
count_more members place zero = omega (arith, ap (one_if_joined members) (plus_none place))
  where
    plus_none : (n : ℕ) → n ≡ n + 0
    plus_none n = omega arith
count_more members place (suc n) =
    let others = count_more members (place + 1) n in
    let same : one_if_joined members (place + 1 + n) ≡ one_if_joined members (place + suc n) = ap (one_if_joined members) (omega arith) in
    omega (arith, others, same)

pub joined_more : (members n : ℕ) → joined_count members 0 (n + 1) ≡ joined_count members 0 n + one_if_joined members n
joined_more members n =
    let longer : n + 1 ≡ suc n = omega arith in
    let last : 0 + n ≡ n = omega arith in
    ap (joined_count members 0) longer ∙ (count_more members 0 n ∙ ap (λ (k : ℕ). joined_count members 0 n + one_if_joined members k) last)

-- ---- the whole board
pub member_size : (b : Board) (u : User) → IsBoard b → board_size (with_member u b) ≡ board_size b + length (record_in b.ledger u) + 16 * joined_count u.members 0 (length b.conferences)
member_size b u ok =
    let ledger = user_ledger b.ledger u ok.ledger in
    let files = joined_sizes b.ledger u 0 b.ledger.setup.conferences b.conferences ok.conferences in
    omega (arith, ledger, files)
