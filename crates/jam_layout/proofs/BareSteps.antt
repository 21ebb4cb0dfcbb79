-- The steps of `bare_in`: what is read without copying a body, and what it answers where a step fails.
use Rattle.std.proofs.Common.{◌≡◌, ℕ, zero, suc, ◌+◌, ◌-◌, ◌^◌, ◌≤◌, ◌<◌, List, [], ◌∷◌, ◌++◌, length, length-append, replicate, drop, map, Result, Ok, refl, sym, ap, ◌∙◌, subst, arith}
use Rattle.std.specs.Prelude.{All}
use Rattle.std.proofs.Math.ListN.{length-replicate}
use Rattle.std.proofs.lemmas.List.{length-drop, length-map, map-append}
use Rattle.std.proofs.lemmas.List.Elements.{All-drop}
use Rattle.jam_records.specs.byte_lists.Byte.{IsByte}
use Rattle.jam_records.specs.record_numbers.Numbers.{u32_at}
use Rattle.jam_records.specs.declared.damage.Damage.{Damage}
use Rattle.jam_records.specs.declared.message.Slot.{Slot}
use Rattle.jam_records.specs.declared.message.Slot.TheVariants.{Gone, Held}
use Rattle.jam_threads.specs.Links.{link_of}
use Rattle.jam_threads.specs.Threading.{AreThreads}
use Rattle.jam_threads.specs.declared.threads.Threads.{Threads}
use Rattle.jam_threads.specs.declared.link.Link.{Link}
use Rattle.damage_rules.specs.Rules.{◌>>=◌}
use Rattle.damage_rules.proofs.KeptRules.{step_fails}
use Rattle.jam_layout.specs.Bare.{bare_in, bare_of, body_lengths}
use Rattle.jam_layout.specs.Bodies.{bodies_at, lengths_at}
use Rattle.jam_layout.specs.Headers.{start}
use Rattle.jam_layout.specs.Index.{slots_at}
use Rattle.jam_layout.specs.Layout.{conference_of, entries_of}
use Rattle.jam_layout.specs.Limits.{slot_limit}
use Rattle.jam_layout.specs.Outlines.{slot_bare}
use Rattle.jam_layout.specs.Readers.{pointers_at}
use Rattle.jam_layout.specs.Rules.{damage_of_base, BaseFails}
use Rattle.jam_layout.specs.SecondPass.{slots_of}
use Rattle.jam_layout.specs.declared.entry.HeaderEntry.{HeaderEntry}
use Rattle.jam_layout.specs.declared.error.BaseError.{BaseError}
use Rattle.jam_layout.specs.declared.files.BaseFiles.{BaseFiles}
use Rattle.jam_layout.specs.declared.shape.Shape.{Shape}
use Rattle.jam_layout.proofs.BareIndex.{index_bare}
use Rattle.jam_layout.proofs.BodyLaws.{bare, BodiesFit, bodies_take}
use Rattle.jam_layout.proofs.ConferenceLayout.{jhr_take, second_take, jdx_take}
use Rattle.jam_layout.proofs.LinkLaws.{LinksFit, slots_back, slots_bare}
use Rattle.jam_layout.proofs.MappedReads.{mapped, mapped_ok, stops_before}
use Rattle.jam_layout.proofs.ReadingSteps.{base_at, headers_at, second_at, counter_fails, headers_fail, second_fails, bodies_fail, slots_fail, pointers_fail, all_read}
use Rattle.jam_layout.proofs.SlotLaws.{bodiless_of, linked_of}

abbrev lengths : List HeaderEntry → List ℕ
lengths entries = map (λ e. length e.message.body) entries

-- ---- what is read: the entries with bodies, and the slots that hold them
pub record TextsRead (shape : Shape) (files : BaseFiles) (hs : List HeaderEntry) (found : List ℕ) : Type 0 where
  pub entries : List HeaderEntry
  pub read : bodies_at shape.place 1 hs files.jdt ≡ Ok entries
  pub bared : map bare entries ≡ hs
  pub fit : BodiesFit entries
  pub known : lengths entries ≡ found

pub texts_read : (shape : Shape) (files : BaseFiles) (hs : List HeaderEntry) (found : List ℕ) → All IsByte files.jhr → length files.jhr < 2 ^ 31 → headers_at shape files ≡ Ok hs → lengths_at shape.place hs files.jdt ≡ Ok found → TextsRead shape files hs found
texts_read shape files hs found fits small headers texts =
    let short : length (drop 1024 files.jhr) < 2 ^ 31 = omega (arith, length-drop 1024 files.jhr, small) in
    let all = jhr_take shape.place shape.kind (drop 1024 files.jhr) hs (All-drop IsByte 1024 files.jhr fits) short headers in
    let one = mapped_ok lengths (bodies_at shape.place 1 hs files.jdt) found texts in
    let bodies = bodies_take shape.place 1 hs files.jdt one.0 (bodiless_of shape.kind start hs all.1) one.1 in
    record { entries = one.0; read = one.1; bared = bodies.1; fit = bodies.2; known = one.2 }

-- ---- the slots of the headers, and slots without a message behind them
pub record Spread (hs : List HeaderEntry) (bares : List Slot) : Type 0 where
  pub more : ℕ
  pub is : bares ≡ slots_of 1 hs ++ replicate more Gone

bare_gone : (k : ℕ) → map slot_bare (replicate k Gone) ≡ replicate k Gone
bare_gone zero = refl
bare_gone (suc k) = ap (λ (xs : List Slot). Gone ∷ xs) (bare_gone k)

spread_of : (links : ℕ → Link) (es : List HeaderEntry) (slots bares : List Slot) → entries_of links 1 slots ≡ es → map slot_bare slots ≡ bares → Spread (map bare es) bares
spread_of links es slots bares entries bared =
    let back = slots_back links 1 slots in
    record {
      more = back.0;
      is = sym bared
          ∙ (ap (map slot_bare) (back.1 ∙ ap (λ (xs : List HeaderEntry). slots_of 1 xs ++ replicate back.0 Gone) entries)
          ∙ (map-append slot_bare (slots_of 1 es) (replicate back.0 Gone)
          ∙ (ap (λ (xs : List Slot). map slot_bare (slots_of 1 es) ++ xs) (bare_gone back.0)
          ∙ ap (λ (xs : List Slot). xs ++ replicate back.0 Gone) (sym (slots_bare 1 es)))));
    }

-- threads of the slots of the headers, with as many slots behind them as there are
pub spread_threads : (hs : List HeaderEntry) (bares : List Slot) (count : ℕ) (threads : Threads) → count ≡ length bares → Spread hs bares → AreThreads (slots_of 1 hs ++ replicate (count - length (slots_of 1 hs)) Gone) threads → AreThreads bares threads
spread_threads hs bares count threads is spread are =
    let len : count - length (slots_of 1 hs) ≡ spread.more = omega (arith, is, ap length spread.is, length-append (slots_of 1 hs) (replicate spread.more Gone), length-replicate {A = Slot} spread.more Gone) in
    subst (λ (xs : List Slot). AreThreads xs threads) (ap (λ n. slots_of 1 hs ++ replicate n Gone) len ∙ sym spread.is) are

pub record IndexRead (shape : Shape) (files : BaseFiles) (es : List HeaderEntry) (found : List ℕ) (bares : List Slot) : Type 0 where
  pub slots : List Slot
  pub read : slots_at shape.place 1024 es files.jdx ≡ Ok slots
  pub bared : map slot_bare slots ≡ bares
  pub few : length bares ≤ slot_limit
  pub known : body_lengths slots ≡ found
  pub spread : Spread (map bare es) bares

lengths_in : (links : ℕ → Link) (n : ℕ) (slots : List Slot) → body_lengths slots ≡ lengths (entries_of links n slots)
lengths_in links n [] = refl
lengths_in links n (Gone ∷ slots) = lengths_in links (n + 1) slots
lengths_in links n (Held m ∷ slots) = ap (λ (xs : List ℕ). length m.body ∷ xs) (lengths_in links (n + 1) slots)

-- the index of the headers is that of the entries
index_is : (shape : Shape) (files : BaseFiles) (hs : List HeaderEntry) (found : List ℕ) (texts : TextsRead shape files hs found) → slots_at shape.place 1024 hs files.jdx ≡ mapped (map slot_bare) (slots_at shape.place 1024 texts.entries files.jdx)
index_is shape files hs found texts = ap (λ (xs : List HeaderEntry). slots_at shape.place 1024 xs files.jdx) (sym texts.bared) ∙ index_bare shape.place 1024 texts.entries files.jdx

pub index_read : (shape : Shape) (files : BaseFiles) (hs : List HeaderEntry) (found : List ℕ) (bares : List Slot) (u : Unit {0}) (texts : TextsRead shape files hs found) → All IsByte files.jdx → second_at shape files hs ≡ Ok u
    → slots_at shape.place 1024 hs files.jdx ≡ Ok bares → IndexRead shape files texts.entries found bares
index_read shape files hs found bares u texts ints second index =
    let es : List HeaderEntry = texts.entries in
    let one = mapped_ok (map slot_bare) (slots_at shape.place 1024 es files.jdx) bares (sym (index_is shape files hs found texts) ∙ index) in
    let links : ℕ → Link = link_of (slots_of 1 hs) in
    let linked = second_take shape.place (u32_at 12 files.jhr) hs u second in
    let fit : LinksFit links (map bare es) = subst (LinksFit links) (sym texts.bared) linked.1 in
    let taken = jdx_take links shape.place 1024 es files.jdx one.0 ints (linked_of links es fit texts.fit) one.1 in
    let most = taken.2 in
    record {
      slots = one.0;
      read = one.1;
      bared = one.2;
      few = omega (arith, most, length-map one.0 slot_bare, ap length one.2);
      known = lengths_in links 1 one.0 ∙ (ap lengths taken.1 ∙ texts.known);
      spread = spread_of links es one.0 bares taken.1 one.2;
    }

-- ---- a step that fails
whole_fails : (shape : Shape) (files : BaseFiles) (e : BaseError) → BaseFails e (conference_of shape files) → BaseFails e (bare_in shape files)
whole_fails shape files e h = step_fails (damage_of_base e) (conference_of shape files) (λ c. Ok (bare_of c)) h

pub no_counter : (shape : Shape) (files : BaseFiles) (e : BaseError) → BaseFails e (base_at shape files) → BaseFails e (bare_in shape files)
no_counter shape files e h = whole_fails shape files e (counter_fails shape files e h)

pub no_headers : (shape : Shape) (files : BaseFiles) (e : BaseError) (counter : ℕ) → base_at shape files ≡ Ok counter → BaseFails e (headers_at shape files) → BaseFails e (bare_in shape files)
no_headers shape files e counter is h = whole_fails shape files e (headers_fail shape files e counter is h)

pub no_links : (shape : Shape) (files : BaseFiles) (e : BaseError) (counter : ℕ) (hs : List HeaderEntry) → base_at shape files ≡ Ok counter → headers_at shape files ≡ Ok hs → BaseFails e (second_at shape files hs) → BaseFails e (bare_in shape files)
no_links shape files e counter hs is headers h = whole_fails shape files e (second_fails shape files e counter hs is headers h)

pub no_texts : (shape : Shape) (files : BaseFiles) (e : BaseError) (counter : ℕ) (hs : List HeaderEntry) (u : Unit {0}) → base_at shape files ≡ Ok counter → headers_at shape files ≡ Ok hs → second_at shape files hs ≡ Ok u
    → BaseFails e (lengths_at shape.place hs files.jdt) → BaseFails e (bare_in shape files)
no_texts shape files e counter hs u is headers second h =
    whole_fails shape files e (bodies_fail shape files e counter hs u is headers second (stops_before (damage_of_base e) lengths (bodies_at shape.place 1 hs files.jdt) h))

pub no_slots : (shape : Shape) (files : BaseFiles) (e : BaseError) (counter : ℕ) (hs : List HeaderEntry) (u : Unit {0}) (found : List ℕ) → base_at shape files ≡ Ok counter → headers_at shape files ≡ Ok hs → second_at shape files hs ≡ Ok u
    → TextsRead shape files hs found → BaseFails e (slots_at shape.place 1024 hs files.jdx) → BaseFails e (bare_in shape files)
no_slots shape files e counter hs u found is headers second texts h =
    let es : List HeaderEntry = texts.entries in
    whole_fails shape files e (slots_fail shape files e counter hs es u is headers second texts.read
    (stops_before (damage_of_base e) (map slot_bare) (slots_at shape.place 1024 es files.jdx) (subst (λ (read : Result (List Slot) Damage). BaseFails e read) (index_is shape files hs found texts) h)))

count_is : (shape : Shape) (files : BaseFiles) (es : List HeaderEntry) (found : List ℕ) (bares : List Slot) (index : IndexRead shape files es found bares) → length bares ≡ length index.slots
count_is shape files es found bares index = ap length (sym index.bared) ∙ length-map index.slots slot_bare

pub no_pointers : (shape : Shape) (files : BaseFiles) (e : BaseError) (counter : ℕ) (hs : List HeaderEntry) (u : Unit {0}) (found : List ℕ) (bares : List Slot) → base_at shape files ≡ Ok counter → headers_at shape files ≡ Ok hs → second_at shape files hs ≡ Ok u
    → (texts : TextsRead shape files hs found) → IndexRead shape files texts.entries found bares → BaseFails e (pointers_at shape.place (length bares) 0 shape.readers files.jlr) → BaseFails e (bare_in shape files)
no_pointers shape files e counter hs u found bares is headers second texts index h =
    whole_fails shape files e (pointers_fail shape files e counter hs texts.entries index.slots u is headers second texts.read index.read
    (subst (λ (n : ℕ). BaseFails e (pointers_at shape.place n 0 shape.readers files.jlr)) (count_is shape files texts.entries found bares index) h))

-- ---- all steps
pub all_bare : (shape : Shape) (files : BaseFiles) (counter : ℕ) (hs : List HeaderEntry) (u : Unit {0}) (found : List ℕ) (bares : List Slot) (pointers : List ℕ) → base_at shape files ≡ Ok counter → headers_at shape files ≡ Ok hs → second_at shape files hs ≡ Ok u
    → (texts : TextsRead shape files hs found) → IndexRead shape files texts.entries found bares → pointers_at shape.place (length bares) 0 shape.readers files.jlr ≡ Ok pointers
    → bare_in shape files ≡ Ok (record { conference = record { counter = counter; slots = bares; pointers = pointers }; lengths = found })
all_bare shape files counter hs u found bares pointers is headers second texts index last =
    let there = ap (λ (n : ℕ). pointers_at shape.place n 0 shape.readers files.jlr) (sym (count_is shape files texts.entries found bares index)) ∙ last in
    ap (mapped bare_of) (all_read shape files counter hs texts.entries index.slots pointers u is headers second texts.read index.read there)
    ∙ (λ i. Ok (record { conference = record { counter = counter; slots = index.bared i; pointers = pointers }; lengths = index.known i }))
