-- The msgids that are seen, with those of one place more, and with one post more.
use Rattle.std.proofs.Common.{◌≡◌, ℕ, zero, suc, ◌+◌, ◌<◌, Bool, true, false, ◌||◌, List, [], ◌∷◌, ◌++◌, length, map, get_or, set, is_some, Option, Some, None, refl, sym, ap, ◌∙◌, subst, inl, inr, arith, append_assoc}
use Rattle.std.specs.Prelude.{slice_get, bytes_eq}
use Rattle.std.specs.List.{list_any}
use Rattle.std.specs.Vec.{with_item}
use Rattle.std.proofs.lemmas.Bool.{cases_eq, ne_eqb}
use Rattle.std.proofs.lemmas.List.{append-nil, get_or-set_same, length-set, map-append}
use Rattle.std.proofs.lemmas.List.Folds.{list_any-append}
use Rattle.std.proofs.lemmas.Option.{none-some, same_Some, slice_get-get_or, slice_get_within}
use Rattle.board_layout.proofs.BoardLookups.{conferences_count}
use Rattle.board_layout.specs.Board.{Board}
use Rattle.board_layout.specs.Valid.{IsBoard}
use Rattle.jam_records.specs.declared.message.Message.{Message}
use Rattle.jam_records.specs.declared.message.Slot.{Slot}
use Rattle.jam_records.specs.declared.message.Slot.TheVariants.{Held}
use Rattle.jam_threads.specs.Children.{has_msgid}
use Rattle.mail_intake.specs.Msgids.{has_id}
use Rattle.mail_intake.specs.declared.msgids.MsgidSet.{MsgidSet}
use Rattle.board_layout.specs.Lookups.{slots_in}
use Rattle.mail_intake.proofs.packet_verdicts.PostLists.{identified_more, posts_hit, posts_miss}
use Rattle.mail_intake.proofs.packet_verdicts.Spreading.{spread_count, spread_slots}
use Rattle.mail_intake.specs.packet_verdicts.Views.{next_number}
use Rattle.post_changes.specs.Posted.{posts_in, spread}
use Rattle.post_changes.specs.slot_changes.Msgids.{all_identified, identified, msgid_in}
use Rattle.cmd_toss.specs.Tossing.{AreSeen, HasSet, IsSeen}
use Rattle.cmd_toss.specs.declared.seen.Seen.{Seen}

-- ---- one message more
or_swap : (p q : Bool) → (q || (p || false)) ≡ (p || q)
or_swap true true = refl
or_swap true false = refl
or_swap false true = refl
or_swap false false = refl

set_more : (slots : List Slot) (old new : MsgidSet) (msgid : List ℕ) (m : Message) → HasSet slots old → ((id : List ℕ) → has_id new id ≡ (bytes_eq msgid id || has_id old id)) → msgid ≡ m.msgid → HasSet (slots ++ Held m ∷ []) new
set_more slots old new msgid m has added is id =
    added id ∙ ((λ i. bytes_eq (is i) id || has id i) ∙ sym (list_any-append (has_msgid id) slots (Held m ∷ []) ∙ or_swap (bytes_eq m.msgid id) (list_any (has_msgid id) slots)))

-- ---- the slots of a board with posts
-- a place without posts
slots_unposted : (b : Board) (posts : List (ℕ × Message)) (place : ℕ) → IsBoard b → place < length b.ledger.setup.conferences → posts_in place posts ≡ [] → slots_in (spread posts b) place ≡ slots_in b place
slots_unposted b posts place ok within none =
    spread_slots b posts place ok within
    ∙ (ap (λ (ms : List Message). slots_in b place ++ map Held (all_identified (msgid_in place b) (length (slots_in b place) + 1) ms)) none ∙ append-nil (slots_in b place))

-- the place of one post more
slots_hit : (b : Board) (posts : List (ℕ × Message)) (place : ℕ) (m : Message) → IsBoard b → place < length b.ledger.setup.conferences
    → slots_in (spread (posts ++ (place, m) ∷ []) b) place ≡ slots_in (spread posts b) place ++ Held (identified (msgid_in place b (next_number (spread posts b) place)) m) ∷ []
slots_hit b posts place m ok within =
    let id : ℕ → List ℕ = msgid_in place b in
    let before : List Slot = slots_in b place in
    let n : ℕ = length (slots_in b place) + 1 in
    let ms : List Message = posts_in place posts in
    let given : List Message = all_identified (msgid_in place b) (length (slots_in b place) + 1) (posts_in place posts) in
    let last : Slot = Held (identified (msgid_in place b (next_number (spread posts b) place)) m) in
    let number : length (slots_in b place) + 1 + length (posts_in place posts) ≡ next_number (spread posts b) place = omega (arith, spread_count b posts place ok within) in
    spread_slots b (posts ++ (place, m) ∷ []) place ok within
    ∙ (ap (λ (xs : List Message). before ++ map Held (all_identified id n xs)) (posts_hit place posts m)
    ∙ (ap (λ (xs : List Message). before ++ map Held xs) (identified_more id n ms m)
    ∙ (ap (λ (k : ℕ). before ++ map Held (given ++ identified (id k) m ∷ [])) number
    ∙ (ap (λ (xs : List Slot). before ++ xs) (map-append Held given (identified (id (next_number (spread posts b) place)) m ∷ []))
    ∙ (sym (append_assoc before (map Held given) (last ∷ []))
    ∙ ap (λ (xs : List Slot). xs ++ last ∷ []) (sym (spread_slots b posts place ok within)))))))

-- another place
slots_miss : (b : Board) (posts : List (ℕ × Message)) (place k : ℕ) (m : Message) → IsBoard b → k < length b.ledger.setup.conferences → (place ≡ k → ⊥) → slots_in (spread (posts ++ (place, m) ∷ []) b) k ≡ slots_in (spread posts b) k
slots_miss b posts place k m ok within other =
    spread_slots b (posts ++ (place, m) ∷ []) k ok within
    ∙ (ap (λ (ms : List Message). slots_in b k ++ map Held (all_identified (msgid_in k b) (length (slots_in b k) + 1) ms)) (posts_miss k place posts m (ne_eqb place k other))
    ∙ sym (spread_slots b posts k ok within))

-- ---- lists of sets
none_found : (found : Option MsgidSet) → is_some found ≡ false → None ≡ found
none_found None is = refl
none_found (Some s) is = absurd (cc)

set_there : (xs : List (Option MsgidSet)) (at : ℕ) (x : Option MsgidSet) → at < length xs → slice_get (set xs at x) at ≡ Some x
set_there xs at x within = slice_get-get_or (set xs at x) at x (omega (arith, length-set xs at x, within)) ∙ ap Some (get_or-set_same xs at x x within)

set_elsewhere : (xs : List (Option MsgidSet)) (at k : ℕ) (x : Option MsgidSet) → (at ≡ k → ⊥) → slice_get (set xs at x) k ≡ slice_get xs k
set_elsewhere [] zero k x other = refl
set_elsewhere [] (suc at) k x other = refl
set_elsewhere (y ∷ xs) zero zero x other = absurd (other refl)
set_elsewhere (y ∷ xs) zero (suc k) x other = refl
set_elsewhere (y ∷ xs) (suc at) zero x other = refl
set_elsewhere (y ∷ xs) (suc at) (suc k) x other = set_elsewhere xs at k x (λ e. other (ap suc e))

-- a set that was found is there
pub found_there : (xs : List (Option MsgidSet)) (place at : ℕ) (found : Option MsgidSet) → at ≡ place → at < length xs → found ≡ get_or xs at found → is_some found ≡ true → (s : MsgidSet) × (slice_get xs place ≡ Some (Some s))
found_there xs place at None same within is some = absurd (cc)
found_there xs place at (Some s) same within is some = (s, ap (slice_get xs) (sym same) ∙ (slice_get-get_or xs at (Some s) within ∙ ap Some (sym is)))

-- one that is found is the one that is there
pub found_is : (xs : List (Option MsgidSet)) (place at : ℕ) (held found : Option MsgidSet) (s : MsgidSet) → at ≡ place → slice_get xs place ≡ Some held → found ≡ get_or xs at found → found ≡ Some s → slice_get xs place ≡ Some (Some s)
found_is xs place at held found s same there is some =
    ap (slice_get xs) (sym same) ∙ (slice_get-get_or xs at found (omega (arith, same, slice_get_within xs place held there)) ∙ ap Some (sym is ∙ some))

-- where a set is there, none isn't found
pub not_none : (xs : List (Option MsgidSet)) (place at : ℕ) (held : MsgidSet) (found : Option MsgidSet) → at ≡ place → slice_get xs place ≡ Some (Some held) → found ≡ get_or xs at found → found ≡ None → ⊥
not_none xs place at held found same there is none =
    let here : Some found ≡ Some (Some held)
    = ap Some is ∙ (sym (slice_get-get_or xs at found (omega (arith, same, slice_get_within xs place (Some held) there))) ∙ (ap (slice_get xs) same ∙ there)) in
    none-some held (sym none ∙ same_Some found (Some held) here)

-- one that is put there is
pub put_there : (xs : List (Option MsgidSet)) (place at : ℕ) (s : MsgidSet) → at ≡ place → at < length xs → (t : MsgidSet) × (slice_get (set xs at (Some s)) place ≡ Some (Some t))
put_there xs place at s same within = (s, ap (slice_get (set xs at (Some s))) (sym same) ∙ set_there xs at (Some s) within)

-- ---- what is seen
-- a place that is there in a list that has one for each
inside : (b : Board) (k : ℕ) (xs : List (Option MsgidSet)) (found : Option MsgidSet) → IsBoard b → length xs ≡ length b.conferences → slice_get xs k ≡ Some found → k < length b.ledger.setup.conferences
inside b k xs found ok count is = omega (arith, conferences_count b ok, count, slice_get_within xs k found is)

-- the msgids of a place more
pub seen_loaded : (b : Board) (posts : List (ℕ × Message)) (s : Seen) (place at : ℕ) (found : Option MsgidSet) (loaded : MsgidSet) → IsBoard b → place < length b.conferences → at ≡ place → found ≡ get_or s.sets.items at found → is_some found ≡ false
    → HasSet (slots_in b place) loaded → AreSeen b posts s → AreSeen b posts (record { sets = with_item s.sets at (Some loaded) })
seen_loaded b posts s place at found loaded ok within same is none has known =
    let count = known.count in
    let here : at < length s.sets.items = omega (arith, count, same, within) in
    let empty : slice_get s.sets.items place ≡ Some None
    = ap (slice_get s.sets.items) (sym same) ∙ (slice_get-get_or s.sets.items at found here ∙ ap Some (sym is ∙ sym (none_found found none))) in
    let all : HasSet (slots_in (spread posts b) place) loaded
    = subst (λ (slots : List Slot). HasSet slots loaded) (sym (slots_unposted b posts place ok (omega (arith, conferences_count b ok, within)) (known.each place None empty))) has in
    record {
      count = length-set s.sets.items at (Some loaded) ∙ count;
      each = λ k other there. elim (cases_eq at k) [
        | inl alike ↦
            let put : Some loaded ≡ other = same_Some (Some loaded) other (sym (set_there s.sets.items at (Some loaded) here) ∙ (ap (slice_get (set s.sets.items at (Some loaded))) alike ∙ there)) in
            subst (IsSeen b posts k) put (subst (λ (j : ℕ). HasSet (slots_in (spread posts b) j) loaded) (sym same ∙ alike) all)
        | inr apart ↦ known.each k other (sym (set_elsewhere s.sets.items at k (Some loaded) apart) ∙ there)
      ];
    }

-- a place for which the post isn't
seen_apart : (b : Board) (posts more : List (ℕ × Message)) (k : ℕ) (found : Option MsgidSet) → slots_in (spread more b) k ≡ slots_in (spread posts b) k → posts_in k more ≡ posts_in k posts → IsSeen b posts k found → IsSeen b more k found
seen_apart b posts more k None slots same seen = same ∙ seen
seen_apart b posts more k (Some s) slots same seen = subst (λ (xs : List Slot). HasSet xs s) (sym slots) seen

-- with one post more
pub seen_more : (b : Board) (posts : List (ℕ × Message)) (s : Seen) (place at : ℕ) (m : Message) (old new : MsgidSet) (msgid : List ℕ) → IsBoard b → place < length b.conferences → at ≡ place → slice_get s.sets.items place ≡ Some (Some old)
    → ((id : List ℕ) → has_id new id ≡ (bytes_eq msgid id || has_id old id)) → msgid ≡ (identified (msgid_in place b (next_number (spread posts b) place)) m).msgid → AreSeen b posts s
    → AreSeen b (posts ++ (place, m) ∷ []) (record { sets = with_item s.sets at (Some new) })
seen_more b posts s place at m old new msgid ok within same there added own known =
    let count = known.count in
    let here : at < length s.sets.items = omega (arith, count, same, within) in
    let inner : place < length b.ledger.setup.conferences = omega (arith, conferences_count b ok, within) in
    let all : HasSet (slots_in (spread (posts ++ (place, m) ∷ []) b) place) new
    = subst (λ (slots : List Slot). HasSet slots new) (sym (slots_hit b posts place m ok inner))
    (set_more (slots_in (spread posts b) place) old new msgid (identified (msgid_in place b (next_number (spread posts b) place)) m) (known.each place (Some old) there) added own) in
    record {
      count = length-set s.sets.items at (Some new) ∙ count;
      each = λ k other stands. elim (cases_eq at k) [
        | inl alike ↦
            let put : Some new ≡ other = same_Some (Some new) other (sym (set_there s.sets.items at (Some new) here) ∙ (ap (slice_get (set s.sets.items at (Some new))) alike ∙ stands)) in
            subst (IsSeen b (posts ++ (place, m) ∷ []) k) put (subst (λ (j : ℕ). HasSet (slots_in (spread (posts ++ (place, m) ∷ []) b) j) new) (sym same ∙ alike) all)
        | inr apart ↦
            let before : slice_get s.sets.items k ≡ Some other = sym (set_elsewhere s.sets.items at k (Some new) apart) ∙ stands in
            let other_place : place ≡ k → ⊥ = λ e. apart (same ∙ e) in
            seen_apart b posts (posts ++ (place, m) ∷ []) k other
            (slots_miss b posts place k m ok (inside b k s.sets.items other ok count before) other_place) (posts_miss k place posts m (ne_eqb place k other_place)) (known.each k other before)
      ];
    }

-- the set that is there tells of the msgid
pub has_seen : (b : Board) (posts : List (ℕ × Message)) (s : Seen) (place : ℕ) (held : MsgidSet) (msgid : List ℕ) (answer : Bool) → slice_get s.sets.items place ≡ Some (Some held)
    → answer ≡ has_id held msgid → AreSeen b posts s → answer ≡ list_any (has_msgid msgid) (slots_in (spread posts b) place)
has_seen b posts s place held msgid answer there says known = says ∙ known.each place (Some held) there msgid
