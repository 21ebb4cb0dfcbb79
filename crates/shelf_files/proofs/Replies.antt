-- What is said of a command over the shelf is something, and one thing.
use Rattle.std.proofs.Common.{◌≡◌, ◌≢◌, ℕ, List, [], refl, sym, ◌∙◌, ap, subst}
use Rattle.std.specs.Prelude.{Result, Ok, Err, Some, None}
use Rattle.door_outside.specs.Shelf.{ShelfFiles, held}
use Rattle.entry_runs.specs.Entry.{Reply, Serves, looks}
use Rattle.entry_runs.proofs.ShelfLaws.{IsLawfulOnShelf, lawful_look}
use Rattle.entry_runs.specs.declared.class.Class.TheVariants as class
use Rattle.qwk_blocks.specs.declared.fault.QwkFault.TheVariants.{Truncated, BadBlocks}
use Rattle.shelf_files.specs.Halts.{Comes, replied, served}
use Rattle.shelf_files.specs.Refusals.{refusal_line}
use Rattle.shelf_files.specs.ShelfFile.{ReadAs}
use Rattle.shelf_files.specs.declared.halt.Halt.{Halt}
use Rattle.shelf_files.specs.declared.halt.Halt.TheVariants.{Refused, ShelfFault, OutOfMemory}
use Rattle.shelf_files.specs.declared.refusal.Refusal.{Refusal}
use Rattle.shelf_files.specs.declared.refusal.Refusal.TheVariants.{NoFile, TooLarge, Broken, ControlShort, ControlNumber, ControlId, NoMessage, NoBoardId, OtherBoard, NoConference, Sheet, Text, NotMade, Exists, Name, DupUser, Users, NoUser, Limit, Packets, NoPacket, Uploads, Count, Setup, Slots, Size, Packet, ForeignShort, ForeignSignature}

pub some_refusal : (refusal : Refusal) → refusal_line refusal ≢ []
some_refusal (NoFile name) is = absurd (cc is)
some_refusal (TooLarge name) is = absurd (cc is)
some_refusal (Broken (Truncated at)) is = absurd (cc is)
some_refusal (Broken (BadBlocks at)) is = absurd (cc is)
some_refusal (ControlShort line) is = absurd (cc is)
some_refusal (ControlNumber line) is = absurd (cc is)
some_refusal ControlId is = absurd (cc is)
some_refusal NoMessage is = absurd (cc is)
some_refusal NoBoardId is = absurd (cc is)
some_refusal OtherBoard is = absurd (cc is)
some_refusal NoConference is = absurd (cc is)
some_refusal (Sheet line rule) is = absurd (cc is)
some_refusal (Text number) is = absurd (cc is)
some_refusal NotMade is = absurd (cc is)
some_refusal Exists is = absurd (cc is)
some_refusal Name is = absurd (cc is)
some_refusal DupUser is = absurd (cc is)
some_refusal Users is = absurd (cc is)
some_refusal NoUser is = absurd (cc is)
some_refusal Limit is = absurd (cc is)
some_refusal Packets is = absurd (cc is)
some_refusal (NoPacket None) is = absurd (cc is)
some_refusal (NoPacket (Some packet)) is = absurd (cc is)
some_refusal Uploads is = absurd (cc is)
some_refusal Count is = absurd (cc is)
some_refusal (Setup line rule) is = absurd (cc is)
some_refusal (Slots count) is = absurd (cc is)
some_refusal (Size bytes) is = absurd (cc is)
some_refusal (Packet rule at) is = absurd (cc is)
some_refusal ForeignShort is = absurd (cc is)
some_refusal ForeignSignature is = absurd (cc is)

pub some_reply : {Value : Type 0} (text : Value → List ℕ) → ((value : Value) → text value ≢ []) → (read : Result Value Refusal) → (replied text read).text ≢ []
some_reply text some (Ok value) = some value
some_reply text some (Err refusal) = some_refusal refusal

-- a file reads as one value at most, or is refused in one way
pub read_unique : {Value Fault : Type 0} (Reads : List ℕ → Value → Type 0) (Breaks : List ℕ → Fault → Type 0) (refusal : Fault → Refusal)
    → ((bytes : List ℕ) (v w : Value) → Reads bytes v → Reads bytes w → v ≡ w) → ((bytes : List ℕ) (f g : Fault) → Breaks bytes f → Breaks bytes g → f ≡ g)
    → ((bytes : List ℕ) (v : Value) (f : Fault) → Reads bytes v → Breaks bytes f → ⊥)
    → (file : Result (List ℕ) Refusal) (a b : Result Value Refusal) → ReadAs Reads Breaks refusal file a → ReadAs Reads Breaks refusal file b → a ≡ b
read_unique Reads Breaks refusal one fault never (Err why) (Ok v) b x y = absurd x
read_unique Reads Breaks refusal one fault never (Err why) (Err other) (Ok w) x y = absurd y
read_unique Reads Breaks refusal one fault never (Err why) (Err other) (Err another) x y = ap Err (x ∙ sym y)
read_unique Reads Breaks refusal one fault never (Ok file) (Ok v) (Ok w) x y = ap Ok (one file v w x y)
read_unique Reads Breaks refusal one fault never (Ok file) (Ok v) (Err why) x y = absurd (never file v y.0 x y.1)
read_unique Reads Breaks refusal one fault never (Ok file) (Err why) (Ok w) x y = absurd (never file w x.0 y x.1)
read_unique Reads Breaks refusal one fault never (Ok file) (Err why) (Err other) x y = ap Err (x.2 ∙ ap refusal (fault file x.0 y.0 x.1 y.1) ∙ sym y.2)

-- a file that breaks its rules is refused
pub refused_by : {Value Fault : Type 0} (Reads : List ℕ → Value → Type 0) (Breaks : List ℕ → Fault → Type 0) (refusal : Fault → Refusal)
    → (file : Result (List ℕ) Refusal) (bytes : List ℕ) (fault : Fault) → Ok bytes ≡ file → Breaks bytes fault → ReadAs Reads Breaks refusal file (Err (refusal fault))
refused_by Reads Breaks refusal file bytes fault is breaks = subst (λ (f : Result (List ℕ) Refusal). ReadAs Reads Breaks refusal f (Err (refusal fault))) is (fault, breaks, refl)

pub undamaged_reply : {Value : Type 0} (text : Value → List ℕ) (read : Result Value Refusal) → (replied text read).class ≢ class.Damaged
undamaged_reply text (Ok value) is = absurd (cc is)
undamaged_reply text (Err refusal) is = absurd (cc is)

-- a command that looks at what the shelf is read as, and says what it makes of that, is lawful
pub lawful_reading : {Value : Type 0} (Reads : ShelfFiles → Value → Type 0) (reply : Value → Reply) → ((shelf : ShelfFiles) (one other : Value) → Reads shelf one → Reads shelf other → one ≡ other)
    → ((value : Value) → (reply value).text ≢ []) → ((value : Value) → (reply value).class ≢ class.Damaged)
    → IsLawfulOnShelf (looks (λ shelf answer. (value : Value) × Reads shelf value × (answer ≡ reply value)))
lawful_reading Reads reply one some undamaged = lawful_look _
    (λ shelf answer answers none. some answers.0 (ap (λ (r : Reply). r.text) (sym answers.2) ∙ none))
    (λ shelf answer answers damaged. undamaged answers.0 (ap (λ (r : Reply). r.class) (sym answers.2) ∙ damaged))
    (λ shelf first second answers others. answers.2 ∙ ap reply (one shelf answers.0 others.0 answers.1 others.1) ∙ sym others.2)

-- a refusal of what is read is a refusal of what is made of it
pub refused_on : {Value Made : Type 0} (P : Result Value Refusal → Type 0) (Q : Result Made Refusal → Type 0) → ((why : Refusal) → P (Err why) → Q (Err why))
    → (halt : Halt) → Comes {Value = Value} (Err halt) P → Comes {Value = Made} (Err halt) Q
refused_on P Q on (Refused why) comes = on why comes
refused_on P Q on ShelfFault comes = tt
refused_on P Q on OutOfMemory comes = tt

-- a command that only looked
pub serves_look : {Value : Type 0} (answers : ShelfFiles → Reply → Type 0) (text : Value → List ℕ) (old new : ShelfFiles) → new ≡ old
    → (result : Result Value Halt) → Comes result (λ read. answers old (replied text read)) → Serves (looks answers) old new (served text result)
serves_look answers text old new same (Ok value) comes = (same, comes)
serves_look answers text old new same (Err (Refused why)) comes = (same, comes)
serves_look answers text old new same (Err ShelfFault) comes = λ name other. ap (λ (files : ShelfFiles). held files name) same
serves_look answers text old new same (Err OutOfMemory) comes = same
