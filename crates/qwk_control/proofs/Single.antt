-- Lines read as one value at most, and then have no fault; and they have one fault at most.
use Rattle.std.proofs.Common.{◌≡◌, ℕ, zero, suc, ◌+◌, ◌-◌, ◌*◌, ◌<◌, ◌≤◌, List, [], ◌∷◌, Some, Result, Ok, Err, length, get_or, refl, sym, ap, ◌∙◌, subst, inl, inr, arith}
use Rattle.std.proofs.lemmas.Bool.{cases_lt}
use Rattle.std.proofs.lemmas.List.{get_or-append-add}
use Rattle.std.proofs.lemmas.Option.{slice_get-get_or, slice_get_within}
use Rattle.std.specs.Result.{MatchResult}
use Rattle.byte_lists.specs.Memory.{UnlessMemory}
use Rattle.qwk_control.specs.Line.{line, or_empty, PlaceLine, IdLine}
use Rattle.qwk_control.specs.Control.{CountReads, ListedRead, ControlLinesRead}
use Rattle.qwk_control.specs.Fault.{IsNumberPlace, IsWanted, LineKeeps, BreaksLine, LineFault, MemoryOr}
use Rattle.qwk_control.specs.declared.control.Control.{Control}
use Rattle.qwk_control.specs.declared.fault.ControlError.{ControlError}
use Rattle.qwk_control.specs.declared.fault.ControlError.TheVariants.{TooFewLines, BadNumber, BadBoardId, OutOfMemory}
use Rattle.qwk_control.proofs.Kept.{some_once}
use Rattle.qwk_control.proofs.Once.{place_unique, count_unique, serial_unique, id_unique}

-- a value from its parts
made : List ℕ → List ℕ → List ℕ → List ℕ → List ℕ → List ℕ → List ℕ → List ℕ → List ℕ → ℕ → List (ℕ × List ℕ) → List ℕ → List ℕ → List ℕ → Control
made board city phone sysop serial bbsid stamp user menu count conferences welcome news goodbye = record {
  board = board;
  city = city;
  phone = phone;
  sysop = sysop;
  serial = serial;
  bbsid = bbsid;
  stamp = stamp;
  user = user;
  menu = menu;
  count = count;
  conferences = conferences;
  welcome = welcome;
  news = news;
  goodbye = goodbye;
}

made_is : (c : Control) → c ≡ made c.board c.city c.phone c.sysop c.serial c.bbsid c.stamp c.user c.menu c.count c.conferences c.welcome c.news c.goodbye
unfolding made
made_is c = refl

pair_is : (c d : ℕ × List ℕ) → c.0 ≡ d.0 → c.1 ≡ d.1 → c ≡ d
pair_is c d e f = ap (λ (x : ℕ). (x, c.1)) e ∙ ap (λ (y : List ℕ). (d.0, y)) f

-- as many conferences are the same ones, and the same lines follow
conferences_unique : (all : List (List ℕ)) (cs ds : List (ℕ × List ℕ)) (r s : List (List ℕ)) → length cs ≡ length ds → ListedRead all cs r → ListedRead all ds s → (cs ≡ ds) × (r ≡ s)
conferences_unique all [] [] r s len p q = (refl, sym p ∙ q)
conferences_unique all [] (d ∷ ds) r s len p q = absurd (omega arith)
conferences_unique all (c ∷ cs) [] r s len p q = absurd (omega arith)
conferences_unique all (c ∷ cs) (d ∷ ds) r s len p q =
    let e : p.0 ∷ c.1 ∷ p.1 ≡ q.0 ∷ d.1 ∷ q.1 = sym p.2 ∙ q.2 in
    let number : p.0 ≡ q.0 = cc in
    let name : c.1 ≡ d.1 = cc in
    let more : p.1 ≡ q.1 = cc in
    let value : c.0 ≡ d.0 = place_unique q.0 c.0 d.0 (subst (λ (t : List ℕ). PlaceLine t c.0) number p.3) q.3 in
    let u : (cs ≡ ds) × (r ≡ s) = conferences_unique q.1 cs ds r s (omega arith) (subst (λ (k : List (List ℕ)). ListedRead k cs r) more p.4) q.4 in
    let first : c ≡ d = pair_is c d value name in
    let others : cs ≡ ds = u.0 in
    (cc, u.1)

pub control_unique : (all : List (List ℕ)) (a b : Control) → ControlLinesRead all a → ControlLinesRead all b → a ≡ b
control_unique all a b x y =
    let e : a.board ∷ a.city ∷ a.phone ∷ a.sysop ∷ x.fifth ∷ a.stamp ∷ a.user ∷ a.menu ∷ x.ninth ∷ x.tenth ∷ x.eleventh ∷ x.listed
    ≡ b.board ∷ b.city ∷ b.phone ∷ b.sysop ∷ y.fifth ∷ b.stamp ∷ b.user ∷ b.menu ∷ y.ninth ∷ y.tenth ∷ y.eleventh ∷ y.listed = sym x.whole ∙ y.whole in
    let board : a.board ≡ b.board = cc in
    let city : a.city ≡ b.city = cc in
    let phone : a.phone ≡ b.phone = cc in
    let sysop : a.sysop ≡ b.sysop = cc in
    let fifth : x.fifth ≡ y.fifth = cc in
    let stamp : a.stamp ≡ b.stamp = cc in
    let user : a.user ≡ b.user = cc in
    let menu : a.menu ≡ b.menu = cc in
    let tenth : x.tenth ≡ y.tenth = cc in
    let eleventh : x.eleventh ≡ y.eleventh = cc in
    let listed : x.listed ≡ y.listed = cc in
    let id : IdLine y.fifth a.serial a.bbsid = subst (λ (t : List ℕ). IdLine t a.serial a.bbsid) fifth x.id in
    let serial : a.serial ≡ b.serial = serial_unique y.fifth a.serial b.serial a.bbsid b.bbsid id y.id in
    let bbsid : a.bbsid ≡ b.bbsid = id_unique y.fifth a.serial b.serial a.bbsid b.bbsid id y.id in
    let count : a.count ≡ b.count = count_unique y.tenth a.count b.count (subst (λ (t : List ℕ). CountReads t a.count) tenth x.counted) y.counted in
    let last : length a.conferences - 1 ≡ length b.conferences - 1 = place_unique y.eleventh _ _ (subst (λ (t : List ℕ). PlaceLine t (length a.conferences - 1)) eleventh x.last) y.last in
    let len : length a.conferences ≡ length b.conferences = omega (arith, x.some, y.some, last) in
    let u : (a.conferences ≡ b.conferences) × (x.rest ≡ y.rest) = conferences_unique y.listed a.conferences b.conferences x.rest y.rest len (subst (λ (k : List (List ℕ)). ListedRead k a.conferences x.rest) listed x.conferences) y.conferences in
    let conferences : a.conferences ≡ b.conferences = u.0 in
    let welcome : a.welcome ≡ b.welcome = x.welcome ∙ (ap (λ r. or_empty r 1) u.1 ∙ sym y.welcome) in
    let news : a.news ≡ b.news = x.news ∙ (ap (λ r. or_empty r 2) u.1 ∙ sym y.news) in
    let goodbye : a.goodbye ≡ b.goodbye = x.goodbye ∙ (ap (λ r. or_empty r 3) u.1 ∙ sym y.goodbye) in
    let p : a ≡ made a.board a.city a.phone a.sysop a.serial a.bbsid a.stamp a.user a.menu a.count a.conferences a.welcome a.news a.goodbye = made_is a in
    let q : b ≡ made b.board b.city b.phone b.sysop b.serial b.bbsid b.stamp b.user b.menu b.count b.conferences b.welcome b.news b.goodbye = made_is b in
    cc

-- a line that keeps its rule doesn't break it
keeps_not_breaks : (all : List (List ℕ)) (k : ℕ) (fault : ControlError) → 1 ≤ k → LineKeeps all k → BreaksLine all k fault → ⊥
keeps_not_breaks all k (TooFewLines at) from h b = omega (arith, b.1, slice_get_within all (k - 1) h.text h.there)
keeps_not_breaks all k (BadNumber at) from h b =
    let p : (n : ℕ) × PlaceLine h.text n = h.number b.1 in
    let e : h.text ≡ b.2.0 = some_once h.text b.2.0 (sym h.there ∙ b.2.1) in
    b.2.2 p.0 (subst (λ (t : List ℕ). PlaceLine t p.0) e p.1)
keeps_not_breaks all k BadBoardId from h b =
    let p : (serial id : List ℕ) × IdLine h.text serial id = h.id b.0 in
    let e : h.text ≡ b.1.0 = some_once h.text b.1.0 (sym h.there ∙ b.1.1) in
    b.1.2 p.0 p.1 (subst (λ (t : List ℕ). IdLine t p.0 p.1) e p.2)
keeps_not_breaks all k OutOfMemory from h b = b

not_there : (all : List (List ℕ)) (k : ℕ) (text : List ℕ) → 1 ≤ k → length all < k → line all k ≡ Some text → ⊥
not_there all k text from lt e = omega (arith, slice_get_within all (k - 1) text e)

fifth_no_number : (k : ℕ) → k ≡ 5 → IsNumberPlace k → ⊥
fifth_no_number k e p = elim p [ inl f ↦ omega arith | inr j ↦ omega (arith, j.1) ]

-- a line breaks its rule in one way
breaks_once : (all : List (List ℕ)) (k : ℕ) (f g : ControlError) → 1 ≤ k → BreaksLine all k f → BreaksLine all k g → f ≡ g
breaks_once all k (TooFewLines i) (TooFewLines j) from x y = ap TooFewLines (x.0 ∙ sym y.0)
breaks_once all k (BadNumber i) (BadNumber j) from x y = ap BadNumber (x.0 ∙ sym y.0)
breaks_once all k BadBoardId BadBoardId from x y = refl
breaks_once all k (TooFewLines i) (BadNumber j) from x y = absurd (not_there all k y.2.0 from x.1 y.2.1)
breaks_once all k (TooFewLines i) BadBoardId from x y = absurd (not_there all k y.1.0 from x.1 y.1.1)
breaks_once all k (BadNumber i) (TooFewLines j) from x y = absurd (not_there all k x.2.0 from y.1 x.2.1)
breaks_once all k (BadNumber i) BadBoardId from x y = absurd (fifth_no_number k y.0 x.1)
breaks_once all k BadBoardId (TooFewLines j) from x y = absurd (not_there all k x.1.0 from y.1 x.1.1)
breaks_once all k BadBoardId (BadNumber j) from x y = absurd (fifth_no_number k x.0 y.1)
breaks_once all k OutOfMemory g from x y = absurd x
breaks_once all k f OutOfMemory from x y = absurd y

pub fault_unique : (all : List (List ℕ)) (f g : ControlError) → LineFault all f → LineFault all g → f ≡ g
fault_unique all f g x y = elim (cases_lt x.0 y.0) [
  | inl lt ↦ absurd (keeps_not_breaks all x.0 f x.1 (y.3 x.0 x.1 lt) x.4)
  | inr ge ↦ elim (cases_lt y.0 x.0) [
    | inl lt ↦ absurd (keeps_not_breaks all y.0 g y.1 (x.3 y.0 y.1 lt) y.4)
    | inr le ↦
        let e : x.0 ≡ y.0 = omega arith in
        breaks_once all y.0 f g y.1 (subst (λ (k : ℕ). BreaksLine all k f) e x.4) y.4
  ]
]

-- two lines for each conference
conferences_length : (all : List (List ℕ)) (cs : List (ℕ × List ℕ)) (rest : List (List ℕ)) → ListedRead all cs rest → length all ≡ 2 * length cs + length rest
conferences_length all [] rest p = omega (arith, ap length p)
conferences_length all (c ∷ cs) rest p = omega (arith, ap length p.2, conferences_length p.1 cs rest p.4)

-- the first line of each conference is a number
conference_number : (all : List (List ℕ)) (cs : List (ℕ × List ℕ)) (rest : List (List ℕ)) (j : ℕ) → ListedRead all cs rest → j < length cs → (n : ℕ) × PlaceLine (get_or all (2 * j) []) n
conference_number all [] rest j p lt = absurd (omega arith)
conference_number all (c ∷ cs) rest zero p lt = (c.0, subst (λ (t : List ℕ). PlaceLine t c.0) (sym (ap (λ (k : List (List ℕ)). get_or k 0 []) p.2)) p.3)
conference_number all (c ∷ cs) rest (suc j) p lt =
    let r : (n : ℕ) × PlaceLine (get_or p.1 (2 * j) []) n = conference_number p.1 cs rest j p.4 (omega arith) in
    let i : 2 * suc j ≡ suc (suc (2 * j)) = omega arith in
    (r.0, subst (λ (t : List ℕ). PlaceLine t r.0) (sym (ap (λ (k : ℕ). get_or all k []) i ∙ ap (λ (k : List (List ℕ)). get_or k (suc (suc (2 * j))) []) p.2)) r.1)

past_eleven : (a b c d e f g h i j k : List ℕ) (rest : List (List ℕ)) (n : ℕ) → get_or (a ∷ b ∷ c ∷ d ∷ e ∷ f ∷ g ∷ h ∷ i ∷ j ∷ k ∷ rest) (11 + n) [] ≡ get_or rest n []
past_eleven a b c d e f g h i j k rest n = get_or-append-add (a ∷ b ∷ c ∷ d ∷ e ∷ f ∷ g ∷ h ∷ i ∷ j ∷ k ∷ []) rest n []

-- each line that must be there keeps its rule
kept : (all : List (List ℕ)) (c : Control) → ControlLinesRead all c → (k : ℕ) → 1 ≤ k → k ≤ 11 + 2 * length c.conferences → LineKeeps all k
kept all c x k from upto =
    let len : length all ≡ 11 + length x.listed = ap length x.whole ∙ omega arith in
    let many : length x.listed ≡ 2 * length c.conferences + length x.rest = conferences_length x.listed c.conferences x.rest x.conferences in
    record {
      text = get_or all (k - 1) [];
      there = slice_get-get_or all (k - 1) [] (omega arith);
      id = λ e.
          let i : k - 1 ≡ 4 = omega arith in
          let t : get_or all (k - 1) [] ≡ x.fifth = ap (λ (j : ℕ). get_or all j []) i ∙ ap (λ (ls : List (List ℕ)). get_or ls 4 []) x.whole in
          (c.serial, c.bbsid, subst (λ (u : List ℕ). IdLine u c.serial c.bbsid) (sym t) x.id);
      number = λ p. elim p [
        | inl e ↦
            let i : k - 1 ≡ 10 = omega arith in
            let t : get_or all (k - 1) [] ≡ x.eleventh = ap (λ (j : ℕ). get_or all j []) i ∙ ap (λ (ls : List (List ℕ)). get_or ls 10 []) x.whole in
            (length c.conferences - 1, subst (λ (u : List ℕ). PlaceLine u (length c.conferences - 1)) (sym t) x.last)
        | inr j ↦
            let r : (n : ℕ) × PlaceLine (get_or x.listed (2 * j.0) []) n = conference_number x.listed c.conferences x.rest j.0 x.conferences (omega (arith, j.1)) in
            let i : k - 1 ≡ 11 + 2 * j.0 = omega (arith, j.1) in
            let t : get_or all (k - 1) [] ≡ get_or x.listed (2 * j.0) [] = ap (λ (m : ℕ). get_or all m []) i ∙ (ap (λ (ls : List (List ℕ)). get_or ls (11 + 2 * j.0) []) x.whole ∙ past_eleven _ _ _ _ _ _ _ _ _ _ _ x.listed (2 * j.0)) in
            (r.0, subst (λ (u : List ℕ). PlaceLine u r.0) (sym t) r.1)
      ];
    }

-- a line that must be there is one of those that keep their rules
wanted_upto : (all : List (List ℕ)) (c : Control) → ControlLinesRead all c → (k : ℕ) → IsWanted all k → k ≤ 11 + 2 * length c.conferences
wanted_upto all c x k w = elim w [
  | inl le ↦ omega arith
  | inr v ↦
      let there : line all 11 ≡ Some x.eleventh = ap (λ (ls : List (List ℕ)). line ls 11) x.whole in
      let e : x.eleventh ≡ v.0 = some_once x.eleventh v.0 (sym there ∙ v.2) in
      let n : v.1 ≡ length c.conferences - 1 = place_unique v.0 v.1 _ v.3 (subst (λ (t : List ℕ). PlaceLine t (length c.conferences - 1)) e x.last) in
      omega (arith, v.4, n, x.some)
]

pub no_fault : (all : List (List ℕ)) (c : Control) (fault : ControlError) → ControlLinesRead all c → LineFault all fault → ⊥
no_fault all c fault x f = keeps_not_breaks all f.0 fault f.1 (kept all c x f.0 f.1 (wanted_upto all c x f.0 f.2)) f.4

pub only_ok : (all : List (List ℕ)) (r : Result Control ControlError) → MatchResult r (ControlLinesRead all) (MemoryOr (LineFault all)) → (c : Control) → ControlLinesRead all c → UnlessMemory OutOfMemory r (Ok c)
only_ok all (Ok d) h c x = inl (ap Ok (control_unique all d c h x))
only_ok all (Err e) h c x = elim h [ inl m ↦ inr (ap Err m) | inr f ↦ absurd (no_fault all c e x f) ]

pub only_fault : (all : List (List ℕ)) (r : Result Control ControlError) → MatchResult r (ControlLinesRead all) (MemoryOr (LineFault all)) → (e : ControlError) → LineFault all e → UnlessMemory OutOfMemory r (Err e)
only_fault all (Ok d) h e f = absurd (no_fault all d e h f)
only_fault all (Err g) h e f = elim h [ inl m ↦ inr (ap Err m) | inr k ↦ inl (ap Err (fault_unique all g e k f)) ]
