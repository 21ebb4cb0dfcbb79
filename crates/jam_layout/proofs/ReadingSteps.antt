-- What the steps of reading a conference require, and what it comes to where one fails.
use Rattle.std.proofs.Common.{◌≡◌, ℕ, ◌+◌, ◌-◌, ◌^◌, ◌≤◌, ◌<◌, List, [], ◌∷◌, length, take, drop, Result, Ok, refl, sym, ap, ◌∙◌, subst, arith, length-append}
use Rattle.std.specs.Prelude.{All, sum_by}
use Rattle.std.proofs.lemmas.List.{length-drop, take_rest}
use Rattle.std.proofs.lemmas.List.Sums.{sum_by-cons}
use Rattle.std.proofs.lemmas.List.Elements.{All-drop}
use Rattle.jam_records.specs.byte_lists.Byte.{IsByte}
use Rattle.jam_records.specs.record_numbers.Numbers.{u32_at}
use Rattle.jam_records.specs.declared.damage.Damage.{Damage}
use Rattle.jam_records.specs.declared.message.Kind.{Kind}
use Rattle.jam_records.specs.declared.message.Slot.{Slot}
use Rattle.damage_rules.specs.Rules.{by_rules, ◌>>=◌}
use Rattle.jam_layout.specs.Rules.{damage_of_base, BaseFails}
use Rattle.door_outside.specs.File.{jhr_file}
use Rattle.jam_layout.specs.Headers.{entries_at, headers_text, header_size, entry_text, start, behind}
use Rattle.jam_layout.specs.SecondPass.{second_pass, Numbered}
use Rattle.jam_layout.specs.Bodies.{bodies_at, lengths_at}
use Rattle.jam_layout.specs.Index.{slots_at}
use Rattle.jam_layout.specs.Readers.{pointers_at}
use Rattle.jam_layout.specs.Layout.{base_rules, conference_of}
use Rattle.jam_layout.specs.declared.entry.HeaderEntry.{HeaderEntry}
use Rattle.jam_layout.specs.declared.entry.Front.{Front}
use Rattle.jam_layout.specs.declared.error.BaseError.{BaseError}
use Rattle.jam_layout.specs.declared.files.BaseFiles.{BaseFiles}
use Rattle.jam_layout.specs.declared.reader.Reader.{Reader}
use Rattle.jam_layout.specs.declared.shape.Shape.{Shape}
use Rattle.damage_rules.proofs.KeptRules.{step_fails}
use Rattle.jam_layout.proofs.EntryLaws.{HeadersFit, entry_length}
use Rattle.jam_layout.proofs.ConferenceLayout.{after_slots, after_bodies, after_second, after_headers, after_counter, jhr_take}

-- ---- what the steps leave
numbered_of : (kind : Kind) (f : Front) (hs : List HeaderEntry) → HeadersFit kind f hs → Numbered f.last hs
numbered_of kind f [] fits = tt
numbered_of kind f (h ∷ hs) fits = (fits.0.rising, fits.0.few, numbered_of kind (behind f h) hs fits.1)

pub numbered : (place : ℕ) (kind : Kind) (bytes : List ℕ) (hs : List HeaderEntry) → All IsByte bytes → length bytes < 2 ^ 31 → entries_at place kind bytes ≡ Ok hs → Numbered 0 hs
numbered place kind bytes hs fits small e = numbered_of kind start hs (jhr_take place kind bytes hs fits small e).1

headers_length : (kind : Kind) (offset : ℕ) (es : List HeaderEntry) → length (headers_text kind offset es) ≡ sum_by (λ e. header_size e.message) es
headers_length kind offset [] = refl
headers_length kind offset (e ∷ es) =
    length-append (entry_text kind offset e) (headers_text kind (offset + e.text_len) es)
    ∙ (ap (λ n. n + length (headers_text kind (offset + e.text_len) es)) (entry_length kind offset e) ∙ (ap (λ n. header_size e.message + n) (headers_length kind (offset + e.text_len) es) ∙ sym (sum_by-cons (λ (d : HeaderEntry). header_size d.message) e es)))

-- ---- a step that fails
pass : {A B : Type 0} (e : BaseError) (r : Result A Damage) (x : A) (f : A → Result B Damage) → r ≡ Ok x → BaseFails e (f x) → BaseFails e (r >>= f)
pass {A = A} e r x f is h = subst (λ (q : Result A Damage). BaseFails e (q >>= f)) (sym is) h

abbrev pub base_at : Shape → BaseFiles → Result ℕ Damage
base_at shape files = by_rules (jhr_file shape.place) 0 (base_rules shape files.jhr) (u32_at 8 files.jhr)

abbrev pub headers_at : Shape → BaseFiles → Result (List HeaderEntry) Damage
headers_at shape files = entries_at shape.place shape.kind (drop 1024 files.jhr)

abbrev pub second_at : Shape → BaseFiles → List HeaderEntry → Result (Unit {0}) Damage
second_at shape files hs = second_pass shape.place (u32_at 12 files.jhr) hs

pub counter_fails : (shape : Shape) (files : BaseFiles) (e : BaseError) → BaseFails e (base_at shape files) → BaseFails e (conference_of shape files)
unfolding conference_of after_slots after_bodies after_second after_headers after_counter
counter_fails shape files e h = step_fails (damage_of_base e) (base_at shape files) (after_counter shape files) h

after_base : (shape : Shape) (files : BaseFiles) (e : BaseError) (counter : ℕ) → base_at shape files ≡ Ok counter → BaseFails e (after_counter shape files counter) → BaseFails e (conference_of shape files)
unfolding conference_of after_slots after_bodies after_second after_headers after_counter
after_base shape files e counter is h = pass e (base_at shape files) counter (after_counter shape files) is h

pub headers_fail : (shape : Shape) (files : BaseFiles) (e : BaseError) (counter : ℕ) → base_at shape files ≡ Ok counter → BaseFails e (headers_at shape files) → BaseFails e (conference_of shape files)
unfolding after_counter
headers_fail shape files e counter is h = after_base shape files e counter is (step_fails (damage_of_base e) (headers_at shape files) (after_headers shape files counter) h)

after_entries : (shape : Shape) (files : BaseFiles) (e : BaseError) (counter : ℕ) (hs : List HeaderEntry) → base_at shape files ≡ Ok counter → headers_at shape files ≡ Ok hs → BaseFails e (after_headers shape files counter hs) → BaseFails e (conference_of shape files)
unfolding after_counter
after_entries shape files e counter hs is headers h = after_base shape files e counter is (pass e (headers_at shape files) hs (after_headers shape files counter) headers h)

pub second_fails : (shape : Shape) (files : BaseFiles) (e : BaseError) (counter : ℕ) (hs : List HeaderEntry) → base_at shape files ≡ Ok counter → headers_at shape files ≡ Ok hs → BaseFails e (second_at shape files hs) → BaseFails e (conference_of shape files)
unfolding after_headers
second_fails shape files e counter hs is headers h = after_entries shape files e counter hs is headers (step_fails (damage_of_base e) (second_at shape files hs) (λ linked. after_second shape files counter hs) h)

after_links : (shape : Shape) (files : BaseFiles) (e : BaseError) (counter : ℕ) (hs : List HeaderEntry) (u : Unit {0}) → base_at shape files ≡ Ok counter → headers_at shape files ≡ Ok hs → second_at shape files hs ≡ Ok u
    → BaseFails e (after_second shape files counter hs) → BaseFails e (conference_of shape files)
unfolding after_headers
after_links shape files e counter hs u is headers second h = after_entries shape files e counter hs is headers (pass e (second_at shape files hs) u (λ linked. after_second shape files counter hs) second h)

pub bodies_fail : (shape : Shape) (files : BaseFiles) (e : BaseError) (counter : ℕ) (hs : List HeaderEntry) (u : Unit {0}) → base_at shape files ≡ Ok counter → headers_at shape files ≡ Ok hs → second_at shape files hs ≡ Ok u
    → BaseFails e (bodies_at shape.place 1 hs files.jdt) → BaseFails e (conference_of shape files)
unfolding after_second
bodies_fail shape files e counter hs u is headers second h = after_links shape files e counter hs u is headers second (step_fails (damage_of_base e) (bodies_at shape.place 1 hs files.jdt) (after_bodies shape files counter) h)

after_texts : (shape : Shape) (files : BaseFiles) (e : BaseError) (counter : ℕ) (hs es : List HeaderEntry) (u : Unit {0}) → base_at shape files ≡ Ok counter → headers_at shape files ≡ Ok hs → second_at shape files hs ≡ Ok u → bodies_at shape.place 1 hs files.jdt ≡ Ok es
    → BaseFails e (after_bodies shape files counter es) → BaseFails e (conference_of shape files)
unfolding after_second
after_texts shape files e counter hs es u is headers second bodies h = after_links shape files e counter hs u is headers second (pass e (bodies_at shape.place 1 hs files.jdt) es (after_bodies shape files counter) bodies h)

pub slots_fail : (shape : Shape) (files : BaseFiles) (e : BaseError) (counter : ℕ) (hs es : List HeaderEntry) (u : Unit {0}) → base_at shape files ≡ Ok counter → headers_at shape files ≡ Ok hs → second_at shape files hs ≡ Ok u → bodies_at shape.place 1 hs files.jdt ≡ Ok es
    → BaseFails e (slots_at shape.place 1024 es files.jdx) → BaseFails e (conference_of shape files)
unfolding after_bodies
slots_fail shape files e counter hs es u is headers second bodies h = after_texts shape files e counter hs es u is headers second bodies (step_fails (damage_of_base e) (slots_at shape.place 1024 es files.jdx) (after_slots shape files counter) h)

pub pointers_fail : (shape : Shape) (files : BaseFiles) (e : BaseError) (counter : ℕ) (hs es : List HeaderEntry) (slots : List Slot) (u : Unit {0}) → base_at shape files ≡ Ok counter → headers_at shape files ≡ Ok hs → second_at shape files hs ≡ Ok u
    → bodies_at shape.place 1 hs files.jdt ≡ Ok es → slots_at shape.place 1024 es files.jdx ≡ Ok slots → BaseFails e (pointers_at shape.place (length slots) 0 shape.readers files.jlr) → BaseFails e (conference_of shape files)
unfolding after_bodies after_slots
pointers_fail shape files e counter hs es slots u is headers second bodies index h =
    after_texts shape files e counter hs es u is headers second bodies
    (pass e (slots_at shape.place 1024 es files.jdx) slots (after_slots shape files counter) index
    (step_fails (damage_of_base e) (pointers_at shape.place (length slots) 0 shape.readers files.jlr) (λ pointers. Ok (record { counter = counter; slots = slots; pointers = pointers })) h))

-- ---- all steps
pub all_read : (shape : Shape) (files : BaseFiles) (counter : ℕ) (hs es : List HeaderEntry) (slots : List Slot) (pointers : List ℕ) (u : Unit {0}) → base_at shape files ≡ Ok counter → headers_at shape files ≡ Ok hs → second_at shape files hs ≡ Ok u
    → bodies_at shape.place 1 hs files.jdt ≡ Ok es → slots_at shape.place 1024 es files.jdx ≡ Ok slots → pointers_at shape.place (length slots) 0 shape.readers files.jlr ≡ Ok pointers
    → conference_of shape files ≡ Ok (record { counter = counter; slots = slots; pointers = pointers })
unfolding conference_of after_slots after_bodies after_second after_headers after_counter
all_read shape files counter hs es slots pointers u is headers second bodies index last =
    ap (λ x. x >>= after_counter shape files) is
    ∙ (ap (λ x. x >>= after_headers shape files counter) headers
    ∙ (ap (λ x. x >>= λ linked. after_second shape files counter hs) second
    ∙ (ap (λ x. x >>= after_bodies shape files counter) bodies
    ∙ (ap (λ x. x >>= after_slots shape files counter) index
    ∙ ap (λ x. x >>= λ ps. Ok (record { counter = counter; slots = slots; pointers = ps })) last))))

-- ---- the steps over what the code holds
pub failed : {A : Type 0} (e : BaseError) (r s : Result A Damage) → r ≡ s → BaseFails e r → BaseFails e s
failed {A = A} e r s is h = subst (λ (q : Result A Damage). BaseFails e q) is h

pub base_is : (shape : Shape) (files : BaseFiles) (bytes : List ℕ) → bytes ≡ files.jhr → by_rules (jhr_file shape.place) 0 (base_rules shape bytes) (u32_at 8 bytes) ≡ base_at shape files
base_is shape files bytes is = ap (λ xs. by_rules (jhr_file shape.place) 0 (base_rules shape xs) (u32_at 8 xs)) is

pub headers_is : (shape : Shape) (files : BaseFiles) (bytes : List ℕ) → bytes ≡ files.jhr → entries_at shape.place shape.kind (take (length bytes - 1024) (drop 1024 bytes)) ≡ headers_at shape files
headers_is shape files bytes is = ap (entries_at shape.place shape.kind) (take_rest bytes 1024 ∙ ap (drop 1024) is)

pub second_is : (shape : Shape) (files : BaseFiles) (bytes : List ℕ) (active : ℕ) (list hs : List HeaderEntry) → bytes ≡ files.jhr → active ≡ u32_at 12 bytes → list ≡ hs → second_pass shape.place active list ≡ second_at shape files hs
second_is shape files bytes active list hs is count same =
    ap (λ n. second_pass shape.place n list) (count ∙ ap (u32_at 12) is) ∙ ap (second_pass shape.place (u32_at 12 files.jhr)) same

pub lengths_is : (shape : Shape) (files : BaseFiles) (text : List ℕ) (list hs : List HeaderEntry) → text ≡ files.jdt → list ≡ hs → lengths_at shape.place list text ≡ lengths_at shape.place hs files.jdt
lengths_is shape files text list hs is same = ap (lengths_at shape.place list) is ∙ ap (λ (xs : List HeaderEntry). lengths_at shape.place xs files.jdt) same

pub slots_is : (shape : Shape) (files : BaseFiles) (index : List ℕ) (list es : List HeaderEntry) → index ≡ files.jdx → list ≡ es → slots_at shape.place 1024 list index ≡ slots_at shape.place 1024 es files.jdx
slots_is shape files index list es is same = ap (slots_at shape.place 1024 list) is ∙ ap (λ (xs : List HeaderEntry). slots_at shape.place 1024 xs files.jdx) same

pub pointers_is : (shape : Shape) (files : BaseFiles) (bytes : List ℕ) (readers : List Reader) (count : ℕ) (slots : List Slot) → bytes ≡ files.jlr → readers ≡ shape.readers → count ≡ length slots
    → pointers_at shape.place count 0 readers bytes ≡ pointers_at shape.place (length slots) 0 shape.readers files.jlr
pointers_is shape files bytes readers count slots is same len =
    ap (λ n. pointers_at shape.place n 0 readers bytes) len
    ∙ (ap (λ (rs : List Reader). pointers_at shape.place (length slots) 0 rs bytes) same ∙ ap (pointers_at shape.place (length slots) 0 shape.readers) is)

-- ---- what the steps require
pub numbered_list : (shape : Shape) (files : BaseFiles) (list hs : List HeaderEntry) → All IsByte files.jhr → length files.jhr < 2 ^ 31 → list ≡ hs → headers_at shape files ≡ Ok hs → Numbered 0 list
numbered_list shape files list hs fits small is e =
    let short : length (drop 1024 files.jhr) < 2 ^ 31 = omega (arith, length-drop 1024 files.jhr, small) in
    subst (Numbered 0) (sym is) (numbered shape.place shape.kind (drop 1024 files.jhr) hs (All-drop IsByte 1024 files.jhr fits) short e)

pub room : (shape : Shape) (files : BaseFiles) (bytes : List ℕ) (hs : List HeaderEntry) → All IsByte files.jhr → length files.jhr < 2 ^ 31 → bytes ≡ files.jhr → 1024 ≤ length bytes → headers_at shape files ≡ Ok hs
    → 1024 + sum_by (λ e. header_size e.message) hs < 2 ^ 31
room shape files bytes hs fits small same long headers =
    let len = length-drop 1024 files.jhr in
    let short : length (drop 1024 files.jhr) < 2 ^ 31 = omega (arith, len, small) in
    let read = jhr_take shape.place shape.kind (drop 1024 files.jhr) hs (All-drop IsByte 1024 files.jhr fits) short headers in
    omega (arith, headers_length shape.kind 0 hs, ap length read.0, len, ap length same, long, small)
