-- What a user more makes of the conferences of a board and of their files.
use Rattle.std.proofs.Common.{◌≡◌, ℕ, zero, suc, ◌+◌, ◌<◌, ◌≤◌, Bool, true, false, cond, eqb, List, [], ◌∷◌, ◌++◌, length, take, refl, sym, ap, ◌∙◌, subst, arith, append_assoc}
use Rattle.std.specs.Prelude.{All, slice_get, unwrap_or, Option, Some, None}
use Rattle.std.specs.Int.{bit_at}
use Rattle.std.proofs.lemmas.Bool.{cond-true, cond-false}
use Rattle.std.proofs.lemmas.Option.{get_or_from_slice_get, slice_get_within, none-some}
use Rattle.std.proofs.lemmas.List.{append-nil, length-take-le, take_more}
use Rattle.std.proofs.lemmas.List.Elements.{All-append, All-nil, All-cons}
use Rattle.board_changes.specs.Changed.{joined_in, joined_from, with_user, with_member}
use Rattle.board_layout.specs.Board.{Board, reader_of, readers_from, shape_of, shapes_from, shapes_of}
use Rattle.board_changes.specs.Gathered.{at_place, FitJournal}
use Rattle.board_layout.specs.Layout.{base_files, layouts}
use Rattle.board_layout.specs.Valid.{IsBoard}
use Rattle.board_layout.proofs.BasePlaces.{shapes_count, layouts_count}
use Rattle.board_ledger.specs.Ledger.{ledger_text}
use Rattle.board_ledger.specs.Users.{is_member}
use Rattle.board_layout.specs.jam_layout.Layout.{layout}
use Rattle.board_layout.specs.jam_layout.declared.files.BaseFiles.{BaseFiles}
use Rattle.board_layout.specs.jam_layout.declared.shape.Shape.{Shape}
use Rattle.board_layout.specs.Renewed.{contents, contents_of, renewed}
use Rattle.board_ledger.specs.declared.ledger.Ledger.{Ledger}
use Rattle.board_ledger.specs.declared.user.User.{User}
use Rattle.board_layout.specs.jam_base.Contents.{Contents, with_reader}
use Rattle.board_layout.specs.jam_layout.declared.conference.ConferenceContents.{ConferenceContents}
use Rattle.board_layout.specs.jam_layout.declared.reader.Reader.{Reader}
use Rattle.jam_records.specs.declared.message.Kind.{Kind}
use Rattle.board_ledger.specs.setup_file.declared.conference.Conference.{Conference as SetupConference}

-- ---- readers
pub readers_more : (place id : ℕ) (users : List User) (u : User) → readers_from place id (users ++ u ∷ []) ≡ readers_from place id users ++ reader_of place (id + length users) u
readers_more place id [] u = append-nil (reader_of place id u) ∙ ap (λ (n : ℕ). reader_of place n u) (omega arith)
readers_more place id (v ∷ users) u =
    ap (λ (rs : List Reader). reader_of place id v ++ rs) (readers_more place (id + 1) users u)
    ∙ (sym (append_assoc (reader_of place id v) (readers_from place (id + 1) users) (reader_of place (id + 1 + length users) u))
    ∙ ap (λ (n : ℕ). (reader_of place id v ++ readers_from place (id + 1) users) ++ reader_of place n u) (omega arith))

one_below : (place id most : ℕ) (u : User) → id < most → All (λ r. r.id < most) (reader_of place id u)
one_below place id most u less = by (eqb (bit_at u.members place) 1)
  where
    by : (b : Bool) → All (λ (r : Reader). r.id < most) (cond b (record { id = id; name = u.name } ∷ []) [])
    by true = All-cons (λ (r : Reader). r.id < most) (record { id = id; name = u.name }) [] less (All-nil (λ (r : Reader). r.id < most))
    by false = All-nil (λ (r : Reader). r.id < most)

pub ids_below : (place id most : ℕ) (users : List User) → id + length users ≤ most → All (λ r. r.id < most) (readers_from place id users)
ids_below place id most [] fewer = All-nil (λ (r : Reader). r.id < most)
ids_below place id most (u ∷ users) fewer =
    All-append (λ (r : Reader). r.id < most) (reader_of place id u) (readers_from place (id + 1) users) (one_below place id most u (omega (arith, fewer))) (ids_below place (id + 1) most users (omega (arith, fewer)))

-- ---- the base of a place
-- with the user as a reader more, where it is a member
pub next_base : Ledger → User → ℕ → Contents → Contents
next_base l u place base = cond (eqb (bit_at u.members place) 1) (with_reader (1 + length l.users) u.name base) base

base_at : (l : Ledger) (u : User) (place : ℕ) (kind : Kind) (c : ConferenceContents) → record { shape = shape_of (with_user u l) place kind; conference = joined_in u.members place c } ≡ next_base l u place (record { shape = shape_of l place kind; conference = c })
unfolding next_base
base_at l u place kind c = ap over (readers_more place 1 l.users u) ∙ by (eqb (bit_at u.members place) 1)
  where
    over : List Reader → Contents
    over readers = record { shape = record { place = place; created = l.created; kind = kind; readers = readers }; conference = joined_in u.members place c }

    by : (b : Bool) → record { shape = record { place = place; created = l.created; kind = kind; readers = readers_from place 1 l.users ++ cond b (record { id = 1 + length l.users; name = u.name } ∷ []) [] }; conference = cond b (record c { pointers = c.pointers ++ 0 ∷ [] }) c }
        ≡ cond b (with_reader (1 + length l.users) u.name (record { shape = shape_of l place kind; conference = c })) (record { shape = shape_of l place kind; conference = c })
    by true = refl
    by false = λ i. record { shape = record { place = place; created = l.created; kind = kind; readers = append-nil (readers_from place 1 l.users) i }; conference = c }

next_from : (l : Ledger) (u : User) (place : ℕ) (cs : List SetupConference) (conferences : List ConferenceContents) (k : ℕ) (base : Contents) → slice_get (contents (shapes_from l place cs) conferences) k ≡ Some base
    → slice_get (contents (shapes_from (with_user u l) place cs) (joined_from u.members place conferences)) k ≡ Some (next_base l u (place + k) base)
next_from l u place [] conferences k base is = absurd (none-some base is)
next_from l u place (c ∷ cs) [] k base is = absurd (none-some base is)
next_from l u place (c ∷ cs) (d ∷ conferences) zero base is =
    ap Some (base_at l u place c.kind d) ∙ (ap next_of is ∙ ap (λ (n : ℕ). Some (next_base l u n base)) (omega arith))
  where
    next_of : Option Contents → Option Contents
    next_of None = None
    next_of (Some b) = Some (next_base l u place b)
next_from l u place (c ∷ cs) (d ∷ conferences) (suc k) base is =
    subst (λ (n : ℕ). slice_get (contents (shapes_from (with_user u l) (place + 1) cs) (joined_from u.members (place + 1) conferences)) k ≡ Some (next_base l u n base)) (omega arith) (next_from l u (place + 1) cs conferences k base is)

pub next_in : (b : Board) (u : User) (k : ℕ) (base : Contents) → slice_get (contents_of b) k ≡ Some base → slice_get (contents_of (with_member u b)) k ≡ Some (next_base b.ledger u k base)
next_in b u k base is = next_from b.ledger u 0 b.ledger.setup.conferences b.conferences k base is ∙ ap (λ (n : ℕ). Some (next_base b.ledger u n base)) (omega arith)

-- ---- bases anew
renewed_more : (olds : List Contents) (news : List (Option Contents)) (old : Contents) (new : Option Contents) → length news ≡ length olds → renewed (olds ++ old ∷ []) (news ++ new ∷ []) ≡ renewed olds news ++ unwrap_or new old ∷ []
renewed_more [] [] old None same = refl
renewed_more [] [] old (Some new) same = refl
renewed_more [] (n ∷ news) old new same = absurd (omega (arith, same))
renewed_more (o ∷ olds) [] old new same = absurd (omega (arith, same))
renewed_more (o ∷ olds) (None ∷ news) old new same = ap (λ (xs : List Contents). o ∷ xs) (renewed_more olds news old new (omega (arith, same)))
renewed_more (o ∷ olds) (Some n ∷ news) old new same = ap (λ (xs : List Contents). n ∷ xs) (renewed_more olds news old new (omega (arith, same)))

-- ---- what stands in a place
files_from : (shapes : List Shape) (conferences : List ConferenceContents) (k : ℕ) (base : Contents) → slice_get (contents shapes conferences) k ≡ Some base → at_place (layouts shapes conferences) k ≡ layout base.shape base.conference
files_from [] conferences k base is = absurd (none-some base is)
files_from (shape ∷ shapes) [] k base is = absurd (none-some base is)
files_from (shape ∷ shapes) (c ∷ conferences) zero base is = ap files_of is
  where
    files_of : Option Contents → BaseFiles
    files_of None = layout shape c
    files_of (Some other) = layout other.shape other.conference
files_from (shape ∷ shapes) (c ∷ conferences) (suc k) base is = files_from shapes conferences k base is

pub files_at : (b : Board) (k : ℕ) (base : Contents) → slice_get (contents_of b) k ≡ Some base → at_place (base_files b) k ≡ layout base.shape base.conference
files_at b k base is = files_from (shapes_of b.ledger) b.conferences k base is

shape_from : (l : Ledger) (place : ℕ) (cs : List SetupConference) (conferences : List ConferenceContents) (k : ℕ) (base : Contents) → slice_get (contents (shapes_from l place cs) conferences) k ≡ Some base
    → (base.shape.readers ≡ readers_from (place + k) 1 l.users) × (base.shape.place ≡ place + k)
shape_from l place [] conferences k base is = absurd (none-some base is)
shape_from l place (c ∷ cs) [] k base is = absurd (none-some base is)
shape_from l place (c ∷ cs) (d ∷ conferences) zero base is =
    (sym (ap readers_in is) ∙ ap (λ (n : ℕ). readers_from n 1 l.users) (omega arith), sym (ap place_in is) ∙ omega arith)
  where
    readers_in : Option Contents → List Reader
    readers_in None = []
    readers_in (Some other) = other.shape.readers

    place_in : Option Contents → ℕ
    place_in None = 0
    place_in (Some other) = other.shape.place
shape_from l place (c ∷ cs) (d ∷ conferences) (suc k) base is =
    let others = shape_from l (place + 1) cs conferences k base is in
    (others.0 ∙ ap (λ (n : ℕ). readers_from n 1 l.users) (omega arith), omega (arith, others.1))

pub readers_at : (b : Board) (k : ℕ) (base : Contents) → slice_get (contents_of b) k ≡ Some base → base.shape.readers ≡ readers_from k 1 b.ledger.users
readers_at b k base is = (shape_from b.ledger 0 b.ledger.setup.conferences b.conferences k base is).0 ∙ ap (λ (n : ℕ). readers_from n 1 b.ledger.users) (omega arith)

pub place_at : (b : Board) (k : ℕ) (base : Contents) → slice_get (contents_of b) k ≡ Some base → base.shape.place ≡ k
place_at b k base is = omega (arith, (shape_from b.ledger 0 b.ledger.setup.conferences b.conferences k base is).1)

contents_few : (shapes : List Shape) (conferences : List ConferenceContents) → length (contents shapes conferences) ≤ length shapes
contents_few [] conferences = omega arith
contents_few (shape ∷ shapes) [] = omega arith
contents_few (shape ∷ shapes) (c ∷ conferences) = omega (arith, contents_few shapes conferences)

-- a board has at most 64 places
pub place_known : (b : Board) (k : ℕ) (base : Contents) → slice_get (contents_of b) k ≡ Some base → k < length (shapes_of b.ledger)
place_known b k base is = omega (arith, slice_get_within (contents_of b) k base is, contents_few (shapes_of b.ledger) b.conferences)

pub place_small : (b : Board) (k : ℕ) (base : Contents) → IsBoard b → slice_get (contents_of b) k ≡ Some base → k < 64
place_small b k base ok is = omega (arith, place_known b k base is, shapes_count b.ledger 0 b.ledger.setup.conferences, ok.ledger.setup.conferences.many)

pub place_next : (b : Board) (u : User) (k : ℕ) (base : Contents) → IsBoard (with_member u b) → slice_get (contents_of b) k ≡ Some base → k < 64
place_next b u k base next is = place_small (with_member u b) k (next_base b.ledger u k base) next (next_in b u k base is)

pub files_count : (b : Board) → IsBoard b → length (base_files b) ≡ length b.ledger.setup.conferences
files_count b ok = layouts_count (shapes_of b.ledger) b.conferences ok.conferences ∙ shapes_count b.ledger 0 b.ledger.setup.conferences

-- ---- the base of a place after it
-- where the user isn't a member
pub same_base : (l : Ledger) (u : User) (place : ℕ) (base : Contents) → is_member u place ≡ false → next_base l u place base ≡ base
unfolding next_base
same_base l u place base away = cond-false (is_member u place) (with_reader (1 + length l.users) u.name base) base away

pub stays_base : (b : Board) (u : User) (place : ℕ) (base : Contents) → slice_get (contents_of b) place ≡ Some base → is_member u place ≡ false → slice_get (contents_of (with_member u b)) place ≡ Some base
stays_base b u place base here away = next_in b u place base here ∙ ap Some (same_base b.ledger u place base away)

-- where the user is
pub joined_is : (l : Ledger) (u : User) (place : ℕ) (base : Contents) → is_member u place ≡ true → next_base l u place base ≡ with_reader (length l.users + 1) u.name base
unfolding next_base
joined_is l u place base member = cond-true (is_member u place) (with_reader (1 + length l.users) u.name base) base member ∙ ap (λ (n : ℕ). with_reader n u.name base) (omega arith)

pub joins_base : (b : Board) (u : User) (place : ℕ) (base made : Contents) → slice_get (contents_of b) place ≡ Some base → is_member u place ≡ true → made ≡ with_reader (length b.ledger.users + 1) u.name base
    → slice_get (contents_of (with_member u b)) place ≡ Some made
joins_base b u place base made here member is = next_in b u place base here ∙ ap Some (joined_is b.ledger u place base member ∙ sym is)

-- ---- the whole board
pub member_fits : (b : Board) → IsBoard b → FitJournal (ledger_text b.ledger) (base_files b)
member_fits b ok = omega (arith, ok.small, files_count b ok, ok.ledger.setup.conferences.many)

-- ---- the places one after the other
next_count_from : (l : Ledger) (u : User) (place : ℕ) (cs : List SetupConference) (conferences : List ConferenceContents) → length (contents (shapes_from (with_user u l) place cs) (joined_from u.members place conferences)) ≡ length (contents (shapes_from l place cs) conferences)
next_count_from l u place [] conferences = refl
next_count_from l u place (c ∷ cs) [] = refl
next_count_from l u place (c ∷ cs) (d ∷ conferences) = ap suc (next_count_from l u (place + 1) cs conferences)

pub next_count : (b : Board) (u : User) → length (contents_of (with_member u b)) ≡ length (contents_of b)
next_count b u = next_count_from b.ledger u 0 b.ledger.setup.conferences b.conferences

pub renewed_pushed : (xs ys : List Contents) (news : List (Option Contents)) (k : ℕ) (x : Contents) (new : Option Contents) → renewed (take k xs) news ≡ take k ys → length news ≡ k → slice_get xs k ≡ Some x → slice_get ys k ≡ Some (unwrap_or new x)
    → renewed (take (k + 1) xs) (news ++ new ∷ []) ≡ take (k + 1) ys
renewed_pushed xs ys news k x new so_far counted old next =
    let within = slice_get_within xs k x old in
    let longer : take (k + 1) xs ≡ take k xs ++ x ∷ [] = take_more xs k x within ∙ ap (λ (y : Contents). take k xs ++ y ∷ []) (get_or_from_slice_get xs k x x old) in
    let y : Contents = unwrap_or new x in
    let longer_too : take (k + 1) ys ≡ take k ys ++ y ∷ [] = take_more ys k y (slice_get_within ys k y next) ∙ ap (λ (z : Contents). take k ys ++ z ∷ []) (get_or_from_slice_get ys k y y next) in
    ap (λ (zs : List Contents). renewed zs (news ++ new ∷ [])) longer
    ∙ (renewed_more (take k xs) news x new (counted ∙ sym (length-take-le k xs (omega (arith, within))))
    ∙ (ap (λ (zs : List Contents). zs ++ y ∷ []) so_far ∙ sym longer_too))
