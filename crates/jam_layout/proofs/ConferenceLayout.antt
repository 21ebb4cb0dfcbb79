-- Four files are read as a conference exactly where they are its layout, from the laws on each of the files.
use Rattle.std.proofs.Common.{◌≡◌, ◌↔◌, ℕ, suc, ◌+◌, ◌*◌, ◌/◌, ◌^◌, ◌≤◌, ◌<◌, not, eqb, ltb, false, List, [], ◌∷◌, ◌++◌, length, drop, map, None, Result, Ok, Err, refl, sym, ap, ◌∙◌, subst, arith, length-append}
use Rattle.std.specs.Prelude.{All}
use Rattle.std.proofs.lemmas.Bool.{ltb-false, le-ltb, eq-eqb}
use Rattle.std.proofs.lemmas.Bool.Decides.{nat_tests}
use Rattle.std.proofs.lemmas.List.{nil_from_length, length-map, length-drop}
use Rattle.std.proofs.lemmas.List.Elements.{All-drop}
use Rattle.std.proofs.lemmas.List.Sums.{count_by-le-length}
use Rattle.jam_records.specs.byte_lists.Byte.{IsByte}
use Rattle.jam_records.specs.BaseHeaders.{base_text}
use Rattle.jam_records.specs.record_numbers.Numbers.{u32_at}
use Rattle.jam_records.specs.declared.damage.Damage.{Damage}
use Rattle.jam_records.specs.declared.damage.DamageRule.TheVariants.{Active, Count, Missing}
use Rattle.jam_records.specs.declared.message.Kind.{Kind}
use Rattle.jam_records.specs.declared.message.Slot.{Slot}
use Rattle.jam_threads.specs.Links.{link_of}
use Rattle.jam_threads.specs.declared.link.Link.{Link}
use Rattle.damage_rules.specs.Rules.{by_rules, ◌>>=◌, damage_of}
use Rattle.door_outside.specs.File.{jhr_file, jdx_file}
use Rattle.damage_rules.specs.Walk.{walk}
use Rattle.jam_layout.specs.Headers.{header_at, entries_at, headers_text, start}
use Rattle.jam_layout.specs.Limits.{slot_limit}
use Rattle.jam_layout.specs.SecondPass.{slots_of, active_in, links_at, second_pass}
use Rattle.jam_layout.specs.Bodies.{bodies_at, bodies_text}
use Rattle.jam_layout.specs.Outlines.{slot_bare}
use Rattle.jam_layout.specs.Index.{Pending, slot_at, slots_at, index_records}
use Rattle.jam_layout.specs.Readers.{pointers_at}
use Rattle.jam_layout.specs.Conference.{is_live, live_count}
use Rattle.jam_layout.specs.declared.conference.ConferenceContents.{ConferenceContents}
use Rattle.jam_layout.specs.Layout.{entries_of, base_rules, layout, conference_of, base_damage}
use Rattle.jam_layout.specs.Valid.{IsShape, ShapeFits, BaseFilesFit, IsConference}
use Rattle.jam_layout.specs.declared.entry.HeaderEntry.{HeaderEntry}
use Rattle.jam_layout.specs.declared.files.BaseFiles.{BaseFiles}
use Rattle.jam_layout.specs.declared.shape.Shape.{Shape}
use Rattle.damage_rules.proofs.KeptRules.{rules_kept, kept_rules, bind_ok, ok_is}
use Rattle.jam_records.proofs.record_numbers.NumberFronts.{u32_small}
use Rattle.jam_layout.proofs.EntryLaws.{HeadersFit, headers_take, headers_again}
use Rattle.jam_layout.proofs.BodyLaws.{bare, BodiesFit, bodies_take, bodies_again}
use Rattle.jam_layout.proofs.PointerLaws.{pointers_take, pointers_again}
use Rattle.jam_layout.proofs.IndexLaws.{Linked, RoomFor, slots_take, slots_again}
use Rattle.jam_layout.proofs.LinkLaws.{slots_bare, LinksFit, links_same, links_move, links_take, links_again, below_all, active_is}
use Rattle.jam_layout.proofs.LinkBounds.{LinkBound, link_bound}
use Rattle.jam_layout.proofs.BaseLaws.{base_length, header_of, base_takes, BaseAgain, base_again}
use Rattle.jam_layout.proofs.LayoutBounds.{layout_fits}
use Rattle.jam_layout.proofs.SlotLaws.{headers_bare, Fits, conference_fits, slots_fit, rising_of, bodiless_of, linked_of, links_of, index_length}

-- ---- .JHR
pub jhr_take : (place : ℕ) (kind : Kind) (bytes : List ℕ) (hs : List HeaderEntry) → All IsByte bytes → length bytes < 2 ^ 31 → entries_at place kind bytes ≡ Ok hs → (bytes ≡ headers_text kind 0 hs) × HeadersFit kind start hs
unfolding entries_at
jhr_take place kind bytes hs fits short e =
    let a = bind_ok (walk (header_at place kind) start bytes) (λ found. Ok found.0) hs e in
    let r = headers_take place kind 0 start bytes a.0.0 a.0.1 fits short a.1 in
    subst (λ (xs : List HeaderEntry). (bytes ≡ headers_text kind 0 xs) × HeadersFit kind start xs) (ok_is a.0.0 hs a.2) r

jhr_again : (place : ℕ) (kind : Kind) (hs : List HeaderEntry) → HeadersFit kind start hs → entries_at place kind (headers_text kind 0 hs) ≡ Ok hs
unfolding entries_at
jhr_again place kind hs fits =
    let r = headers_again place kind start hs (omega arith) (omega arith) fits in
    ap (λ x. x >>= λ found. Ok found.0) r.1

-- ---- .JHR again
abbrev unit : Result (Unit {0}) Damage
unit = Ok (tt {0})

pub second_take : (place active : ℕ) (hs : List HeaderEntry) (u : Unit {0}) → second_pass place active hs ≡ Ok u → (active ≡ active_in hs) × LinksFit (link_of (slots_of 1 hs)) hs
unfolding second_pass
second_take place active hs u e =
    let rules = (Active, not (eqb active (active_in hs))) ∷ [] in
    let a = bind_ok (by_rules (jhr_file place) 0 rules (tt {0})) (λ count. links_at place (slots_of 1 hs) 1 hs) u e in
    let k = rules_kept (jhr_file place) 0 rules (tt {0}) a.0 a.1 in
    let count = k.0.0 in
    (grind (arith, nat_tests, count), links_take place (slots_of 1 hs) 1 hs a.2)

second_again : (place active : ℕ) (hs : List HeaderEntry) → active ≡ active_in hs → LinksFit (link_of (slots_of 1 hs)) hs → second_pass place active hs ≡ unit
unfolding second_pass
second_again place active hs is fits =
    let rules = (Active, not (eqb active (active_in hs))) ∷ [] in
    let count : not (eqb active (active_in hs)) ≡ false = ap not (eq-eqb active (active_in hs) is) in
    ap (λ x. x >>= λ count. links_at place (slots_of 1 hs) 1 hs) (kept_rules (jhr_file place) 0 rules (tt {0}) (count, tt)) ∙ links_again place (slots_of 1 hs) 1 hs fits

-- ---- .JDX
pub jdx_take : (links : ℕ → Link) (place at : ℕ) (es : List HeaderEntry) (bytes : List ℕ) (slots : List Slot) → All IsByte bytes → Linked links es → slots_at place at es bytes ≡ Ok slots → (bytes ≡ index_records at slots) × (entries_of links 1 slots ≡ es) × (length slots ≤ slot_limit)
unfolding slots_at
jdx_take links place at es bytes slots fits linked e =
    let s : Pending = record { item = 0; at = at; entries = es } in
    let a = bind_ok (by_rules (jdx_file place) 0 ((Count, ltb slot_limit (length bytes / 8)) ∷ []) (tt {0})) (λ few. walk (slot_at place) s bytes >>= λ found. by_rules (jdx_file place) found.1.item ((Missing, not (eqb (length found.1.entries) 0)) ∷ []) found.0) slots e in
    let b = bind_ok (walk (slot_at place) s bytes) (λ found. by_rules (jdx_file place) found.1.item ((Missing, not (eqb (length found.1.entries) 0)) ∷ []) found.0) slots a.2 in
    let k = rules_kept (jdx_file place) 0 ((Count, ltb slot_limit (length bytes / 8)) ∷ []) (tt {0}) a.0 a.1 in
    let m = rules_kept (jdx_file place) b.0.1.item ((Missing, not (eqb (length b.0.1.entries) 0)) ∷ []) b.0.0 slots b.2 in
    let none : length b.0.1.entries ≡ 0 = grind (arith, nat_tests, m.0.0) in
    let r = slots_take links place 0 s bytes b.0.0 b.0.1 fits linked (nil_from_length b.0.1.entries none) b.1 in
    let few : length bytes / 8 ≤ slot_limit = ltb-false slot_limit (length bytes / 8) k.0.0 in
    let text : bytes ≡ index_records at b.0.0 = r.0 in
    let len : length bytes ≡ 8 * length b.0.0 = ap length text ∙ index_length at b.0.0 in
    let count : length b.0.0 ≤ slot_limit = omega (arith, few, len) in
    subst (λ (xs : List Slot). (bytes ≡ index_records at xs) × (entries_of links 1 xs ≡ es) × (length xs ≤ slot_limit)) m.1 (text, r.1, count)

jdx_again : (links : ℕ → Link) (place at : ℕ) (slots : List Slot) → length slots ≤ slot_limit → RoomFor at slots → slots_at place at (entries_of links 1 slots) (index_records at slots) ≡ Ok slots
unfolding slots_at
jdx_again links place at slots few room =
    let bytes : List ℕ = index_records at slots in
    let s : Pending = record { item = 0; at = at; entries = entries_of links 1 slots } in
    let r = slots_again links place 0 at slots room in
    let len = index_length at slots in
    let small : length bytes / 8 ≤ slot_limit = omega (arith, len, few) in
    let count : ltb slot_limit (length bytes / 8) ≡ false = le-ltb _ _ small in
    let none : not (eqb (length r.0.entries) 0) ≡ false = ap (λ (es : List HeaderEntry). not (eqb (length es) 0)) r.2 in
    ap (λ x. x >>= λ few. walk (slot_at place) s bytes >>= λ found. by_rules (jdx_file place) found.1.item ((Missing, not (eqb (length found.1.entries) 0)) ∷ []) found.0) (kept_rules (jdx_file place) 0 ((Count, ltb slot_limit (length bytes / 8)) ∷ []) (tt {0}) (count, tt))
    ∙ ap (λ x. x >>= λ found. by_rules (jdx_file place) found.1.item ((Missing, not (eqb (length found.1.entries) 0)) ∷ []) found.0) r.1
    ∙ kept_rules (jdx_file place) r.0.item ((Missing, not (eqb (length r.0.entries) 0)) ∷ []) slots (none, tt)

-- ---- the links of headers and slots
pub links_agree : (links : ℕ → Link) (slots : List Slot) (hs es : List HeaderEntry) → entries_of links 1 slots ≡ es → map bare es ≡ hs → (n : ℕ) → n < length (slots_of 1 hs) → link_of (slots_of 1 hs) (suc n) ≡ link_of slots (suc n)
links_agree links slots hs es is heads n within =
    let from : map bare (entries_of links 1 slots) ≡ hs = ap (map bare) is ∙ heads in
    let len : length (slots_of 1 hs) ≡ length (slots_of 1 (entries_of links 1 slots)) =
    ap (λ (xs : List HeaderEntry). length (slots_of 1 xs)) (sym from) ∙ (ap length (slots_bare 1 (entries_of links 1 slots)) ∙ length-map (slots_of 1 (entries_of links 1 slots)) slot_bare) in
    ap (λ (xs : List HeaderEntry). link_of (slots_of 1 xs) (suc n)) (sym from) ∙ links_same links slots n (omega (arith, len, within))

-- ---- the four files
unfoldable pub after_slots : Shape → BaseFiles → ℕ → List Slot → Result ConferenceContents Damage
after_slots shape files counter slots = pointers_at shape.place (length slots) 0 shape.readers files.jlr >>= λ pointers. Ok (record { counter = counter; slots = slots; pointers = pointers })

unfoldable pub after_bodies : Shape → BaseFiles → ℕ → List HeaderEntry → Result ConferenceContents Damage
after_bodies shape files counter es = slots_at shape.place 1024 es files.jdx >>= after_slots shape files counter

unfoldable pub after_second : Shape → BaseFiles → ℕ → List HeaderEntry → Result ConferenceContents Damage
after_second shape files counter hs = bodies_at shape.place 1 hs files.jdt >>= after_bodies shape files counter

unfoldable pub after_headers : Shape → BaseFiles → ℕ → List HeaderEntry → Result ConferenceContents Damage
after_headers shape files counter hs = second_pass shape.place (u32_at 12 files.jhr) hs >>= λ linked. after_second shape files counter hs

unfoldable pub after_counter : Shape → BaseFiles → ℕ → Result ConferenceContents Damage
after_counter shape files counter = entries_at shape.place shape.kind (drop 1024 files.jhr) >>= after_headers shape files counter

abbrev files_made : List ℕ → List ℕ → List ℕ → List ℕ → BaseFiles
files_made jhr jdt jdx jlr = record { jhr = jhr; jdt = jdt; jdx = jdx; jlr = jlr }

pub layout_is : (shape : Shape) (files : BaseFiles) (c : ConferenceContents) → BaseFilesFit files → conference_of shape files ≡ Ok c → (files ≡ layout shape c) × IsConference shape c
unfolding conference_of after_slots after_bodies after_second after_headers after_counter
layout_is shape files c fits e =
    let place : ℕ = shape.place in
    let kind : Kind = shape.kind in
    let x0 = bind_ok (by_rules (jhr_file place) 0 (base_rules shape files.jhr) (u32_at 8 files.jhr)) (after_counter shape files) c e in
    let x1 = bind_ok (entries_at place kind (drop 1024 files.jhr)) (after_headers shape files x0.0) c x0.2 in
    let hs : List HeaderEntry = x1.0 in
    let x2 = bind_ok (second_pass place (u32_at 12 files.jhr) hs) (λ linked. after_second shape files x0.0 hs) c x1.2 in
    let x3 = bind_ok (bodies_at place 1 hs files.jdt) (after_bodies shape files x0.0) c x2.2 in
    let es : List HeaderEntry = x3.0 in
    let x4 = bind_ok (slots_at place 1024 es files.jdx) (after_slots shape files x0.0) c x3.2 in
    let slots : List Slot = x4.0 in
    let x5 = bind_ok (pointers_at place (length slots) 0 shape.readers files.jlr) (λ pointers. Ok (record { counter = x0.0; slots = slots; pointers = pointers })) c x4.2 in
    let k0 = rules_kept (jhr_file place) 0 (base_rules shape files.jhr) (u32_at 8 files.jhr) x0.0 x0.1 in
    let base = base_takes shape files.jhr fits.jhr.0 k0.0 in
    let whole = fits.jhr.1 in
    let short : length (drop 1024 files.jhr) < 2 ^ 31 = omega (arith, length-drop 1024 files.jhr, whole) in
    let headers = jhr_take place kind (drop 1024 files.jhr) hs (All-drop IsByte 1024 files.jhr fits.jhr.0) short x1.1 in
    let second = second_take place (u32_at 12 files.jhr) hs x2.0 x2.1 in
    let bodies = bodies_take place 1 hs files.jdt es (bodiless_of kind start hs headers.1) x3.1 in
    let first_links : ℕ → Link = link_of (slots_of 1 hs) in
    let links : ℕ → Link = link_of slots in
    let first_fit : LinksFit first_links (map bare es) = subst (LinksFit first_links) (sym bodies.1) second.1 in
    let found = jdx_take first_links place 1024 es files.jdx slots fits.jdx.0 (linked_of first_links es first_fit bodies.2) x4.1 in
    let agree = links_agree first_links slots hs es found.1 bodies.1 in
    let moved : LinksFit links hs = links_move first_links links (length (slots_of 1 hs)) hs agree (below_all hs (rising_of kind start hs headers.1)) second.1 in
    let fit : LinksFit links (map bare es) = subst (LinksFit links) (sym bodies.1) moved in
    let index = jdx_take links place 1024 es files.jdx slots fits.jdx.0 (linked_of links es fit bodies.2) x4.1 in
    let pointers = pointers_take place (length slots) 0 shape.readers files.jlr x5.0 fits.jlr x5.1 in
    let d : ConferenceContents = record { counter = x0.0; slots = slots; pointers = x5.0 } in
    let hs_is : hs ≡ map bare (entries_of links 1 slots) = sym bodies.1 ∙ ap (map bare) (sym index.1) in
    let live : u32_at 12 files.jhr ≡ live_count slots = second.0 ∙ (ap active_in hs_is ∙ active_is links 1 slots) in
    let text : headers_text kind 0 hs ≡ headers_text kind 0 (entries_of links 1 slots) = ap (headers_text kind 0) hs_is ∙ headers_bare kind 0 (entries_of links 1 slots) in
    let jhr : files.jhr ≡ (layout shape d).jhr = base.0 ∙ (ap (λ xs. base_text (header_of shape (u32_at 8 files.jhr) (u32_at 12 files.jhr)) ++ xs) (headers.0 ∙ text)
    ∙ (ap (λ n. base_text (header_of shape n (u32_at 12 files.jhr)) ++ headers_text kind 0 (entries_of links 1 slots)) k0.1
    ∙ ap (λ n. base_text (header_of shape x0.0 n) ++ headers_text kind 0 (entries_of links 1 slots)) live)) in
    let jdt : files.jdt ≡ (layout shape d).jdt = bodies.0 ∙ ap bodies_text (sym index.1) in
    let jdx : files.jdx ≡ (layout shape d).jdx = index.0 in
    let jlr : files.jlr ≡ (layout shape d).jlr = pointers.0 in
    let same : files ≡ layout shape d = ap (λ xs. files_made xs files.jdt files.jdx files.jlr) jhr ∙ (ap (λ xs. files_made (layout shape d).jhr xs files.jdx files.jlr) jdt ∙ (ap (λ xs. files_made (layout shape d).jhr (layout shape d).jdt xs files.jlr) jdx ∙ ap (λ xs. files_made (layout shape d).jhr (layout shape d).jdt (layout shape d).jdx xs) jlr)) in
    let ok : IsConference shape d = record {
      counter = subst (λ (n : ℕ). n < 2 ^ 32) k0.1 (u32_small 8 files.jhr fits.jhr.0);
      few = index.2;
      slots = slots_fit links kind 1 0 start slots (subst (HeadersFit kind start) hs_is headers.1) (subst BodiesFit (sym index.1) bodies.2)
          (subst (All IsByte) (headers.0 ∙ text) (All-drop IsByte 1024 files.jhr fits.jhr.0)) (subst (All IsByte) jdt fits.jdt.0);
      pointers = pointers.1;
    } in
    subst (λ (y : ConferenceContents). (files ≡ layout shape y) × IsConference shape y) (ok_is d c x5.2) (same, ok)

bound_most : (k : ℕ) (link : Link) → k ≤ slot_limit → LinkBound k link → LinkBound slot_limit link
bound_most k link few b = let to = b.to in let first = b.first in let next = b.next in record { to = omega arith; first = omega arith; next = omega arith }

pub is_layout : (shape : Shape) (c : ConferenceContents) → ShapeFits shape → IsConference shape c → conference_of shape (layout shape c) ≡ Ok c
unfolding conference_of after_slots after_bodies after_second after_headers after_counter
is_layout shape c fits ok =
    let place : ℕ = shape.place in
    let kind : Kind = shape.kind in
    let files : BaseFiles = layout shape c in
    let links : ℕ → Link = link_of c.slots in
    let es : List HeaderEntry = entries_of links 1 c.slots in
    let hs : List HeaderEntry = map bare es in
    let rest : List ℕ = headers_text kind 0 es in
    let live : ℕ = live_count c.slots in
    let few = ok.few in
    let fit : BaseFilesFit files = layout_fits shape c ok in
    let small : live < 2 ^ 32 = omega (arith, count_by-le-length is_live c.slots, few) in
    let base : BaseAgain shape c.counter live rest files.jhr = base_again shape c.counter live rest fits.created ok.counter small in
    let whole = fit.jhr.1 in
    let len = length-append (base_text (header_of shape c.counter live)) rest in
    let long = base_length (header_of shape c.counter live) in
    let room : 1024 + length rest < 2 ^ 31 = omega (arith, len, long, whole) in
    let bound : (k : ℕ) → LinkBound slot_limit (links k) = λ k. bound_most (length c.slots) (links k) few (link_bound c.slots k) in
    let all : Fits kind start 1024 c.slots es = conference_fits links kind 1 start 1024 0 c.slots (omega arith) (omega arith) bound ok.slots room in
    let agree : (n : ℕ) → n < length (slots_of 1 hs) → links (suc n) ≡ link_of (slots_of 1 hs) (suc n) = λ n within. sym (links_agree links c.slots hs es refl refl n within) in
    let moved : LinksFit (link_of (slots_of 1 hs)) hs = links_move links (link_of (slots_of 1 hs)) (length (slots_of 1 hs)) hs agree (below_all hs (rising_of kind start hs all.headers)) (links_of links 1 c.slots) in
    let active : u32_at 12 files.jhr ≡ active_in hs = base.active_is ∙ sym (active_is links 1 c.slots) in
    let s0 : by_rules (jhr_file place) 0 (base_rules shape files.jhr) (u32_at 8 files.jhr) ≡ Ok c.counter = kept_rules (jhr_file place) 0 (base_rules shape files.jhr) (u32_at 8 files.jhr) base.kept ∙ ap (λ n. Ok n) base.counter_is in
    let s1 : entries_at place kind (drop 1024 files.jhr) ≡ Ok hs = ap (entries_at place kind) (base.behind ∙ sym (headers_bare kind 0 es)) ∙ jhr_again place kind hs all.headers in
    let s2 = second_again place (u32_at 12 files.jhr) hs active moved in
    let s3 : bodies_at place 1 hs files.jdt ≡ Ok es = bodies_again place 1 es all.bodies in
    let s4 : slots_at place 1024 es files.jdx ≡ Ok c.slots = jdx_again links place 1024 c.slots few all.room in
    let s5 : pointers_at place (length c.slots) 0 shape.readers files.jlr ≡ Ok c.pointers = pointers_again place (length c.slots) 0 shape.readers c.pointers (omega (arith, few)) fits.readers ok.pointers in
    ap (λ x. x >>= after_counter shape files) s0
    ∙ (ap (λ x. x >>= after_headers shape files c.counter) s1
    ∙ (ap (λ x. x >>= λ linked. after_second shape files c.counter hs) s2
    ∙ (ap (λ x. x >>= after_bodies shape files c.counter) s3
    ∙ (ap (λ x. x >>= after_slots shape files c.counter) s4
    ∙ ap (λ x. x >>= λ pointers. Ok (record { counter = c.counter; slots = c.slots; pointers = pointers })) s5))))

-- ---- the laws
no_damage : {A : Type 0} (r : Result A Damage) → damage_of r ≡ None → (x : A) × (r ≡ Ok x)
no_damage (Ok x) e = (x, refl)
no_damage (Err d) e = absurd cc

pub undamaged : (shape : Shape) (files : BaseFiles) → IsShape shape → ShapeFits shape → BaseFilesFit files → (base_damage shape files ≡ None) ↔ ((c : ConferenceContents) × IsConference shape c × (files ≡ layout shape c))
undamaged shape files is shapes fits = (
  λ e. let r = no_damage (conference_of shape files) e in let l = layout_is shape files r.0 fits r.1 in (r.0, l.1, l.0),
  λ (c, ok, e). ap (base_damage shape) e ∙ ap damage_of (is_layout shape c shapes ok),
)

pub unique : (shape : Shape) (a b : ConferenceContents) → IsShape shape → ShapeFits shape → IsConference shape a → IsConference shape b → layout shape a ≡ layout shape b → a ≡ b
unique shape a b is shapes x y e = ok_is a b (sym (is_layout shape a shapes x) ∙ (ap (conference_of shape) e ∙ is_layout shape b shapes y))
