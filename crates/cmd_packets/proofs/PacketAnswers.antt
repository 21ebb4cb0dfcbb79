-- What the commands over a packet answer, by what its files are read as.
use Rattle.std.proofs.Common.{◌≡◌, ◌⊎◌, ℕ, List, Result, Ok, Err, inl, inr, Option, Some, None, sym, subst, Bool, ◌<◌, ◌≤◌, length, refl, ap}
use Rattle.std.proofs.lemmas.Bool.{le-leb, lt-leb}
use Rattle.std.specs.Prelude.{if◌then◌else◌}
use Rattle.std.specs.Option.{option_map}
use Rattle.offline_reader.specs.Letter.{letter}
use Rattle.offline_reader.specs.Scan.{ScanFinds}
use Rattle.offline_reader.specs.declared.scan.Scanned.TheVariants.{Missing, Fault, Count}
use Rattle.offline_reader.specs.declared.scan.Scanned.TheVariants as scanned
use Rattle.qwk_blocks.specs.Packet.{PacketReads, FirstFault}
use Rattle.qwk_blocks.specs.declared.fault.QwkFault.{QwkFault}
use Rattle.qwk_blocks.specs.declared.message.QwkMessage.{QwkMessage}
use Rattle.qwk_control.specs.Control.{ControlReads}
use Rattle.qwk_control.specs.Fault.{ControlFault}
use Rattle.qwk_control.specs.declared.control.Control.{Control}
use Rattle.qwk_control.specs.declared.fault.ControlError.{ControlError}
use Rattle.qwk_control.specs.declared.fault.ControlError.TheVariants.{TooFewLines, BadNumber, BadBoardId, OutOfMemory}
use Rattle.shelf_files.proofs.Replies.{refused_by}
use Rattle.shelf_files.specs.Halts.{Comes, done}
use Rattle.shelf_files.specs.ShelfFile.{ReadAs, packet_limit, within}
use Rattle.shelf_files.specs.declared.halt.Halt.{Halt}
use Rattle.shelf_files.specs.declared.halt.Halt.TheVariants.{Refused, ShelfFault}
use Rattle.shelf_files.specs.declared.halt.Halt.TheVariants as halt
use Rattle.shelf_files.specs.declared.refusal.Refusal.{Refusal}
use Rattle.shelf_files.specs.declared.refusal.Refusal.TheVariants.{NoFile, TooLarge, Broken}
use Rattle.cmd_packets.specs.Packets.{control_halt, control_refusal}
use Rattle.cmd_packets.specs.Read.{shown_reply}

pub control_comes : (file : Result (List ℕ) Refusal) (bytes : List ℕ) (error : ControlError) → Ok bytes ≡ file
    → (error ≡ OutOfMemory) ⊎ ControlFault bytes error → Comes {Value = Control} (Err (control_halt error)) (ReadAs ControlReads ControlFault control_refusal file)
control_comes file bytes error is (inl memory) = subst (λ (e : ControlError). Comes {Value = Control} (Err (control_halt e)) (ReadAs ControlReads ControlFault control_refusal file)) (sym memory) tt
control_comes file bytes (TooFewLines line) is (inr fault) = refused_by ControlReads ControlFault control_refusal file bytes (TooFewLines line) is fault
control_comes file bytes (BadNumber line) is (inr fault) = refused_by ControlReads ControlFault control_refusal file bytes (BadNumber line) is fault
control_comes file bytes BadBoardId is (inr fault) = refused_by ControlReads ControlFault control_refusal file bytes BadBoardId is fault
control_comes file bytes OutOfMemory is (inr fault) = tt

-- what follows for whatever was made, or for its refusal, follows for what comes
pub comes_on : {Value : Type 0} (P Q : Result Value Refusal → Type 0) → ((read : Result Value Refusal) → P read → Q read)
    → (result : Result Value Halt) → Comes result P → Comes result Q
comes_on P Q on (Ok value) comes = on (Ok value) comes
comes_on P Q on (Err (Refused why)) comes = on (Err why) comes
comes_on P Q on (Err ShelfFault) comes = tt
comes_on P Q on (Err halt.OutOfMemory) comes = tt

pub shown_text : (found : Option QwkMessage) (text : List ℕ) → option_map letter found ≡ Some text → done text ≡ shown_reply found
shown_text None text is = cc
shown_text (Some message) text is = cc

-- what a scan finds of a file is what the file reads as
within_is : (name file : List ℕ) → length file ≤ packet_limit → within name packet_limit (Some file) ≡ Ok file
within_is name file fits = ap (λ (b : Bool). if b then Ok file else Err (TooLarge name)) (le-leb (length file) packet_limit fits)

past_is : (name file : List ℕ) → packet_limit < length file → within name packet_limit (Some file) ≡ Err (TooLarge name)
past_is name file long = ap (λ (b : Bool). if b then Ok file else Err (TooLarge name)) (lt-leb (length file) packet_limit long)

-- the messages of a file, or its first refusal
abbrev PacketIn : List ℕ → Option (List ℕ) → Result (List QwkMessage) Refusal → Type 0
PacketIn name file read = ReadAs PacketReads FirstFault (λ fault. Broken fault) (within name packet_limit file) read

pub scan_counts : (name : List ℕ) (file : Option (List ℕ)) (n : ℕ) → ScanFinds packet_limit file (Count n) → (messages : List QwkMessage) × PacketIn name file (Ok messages) × (length messages ≡ n)
scan_counts name None n found = absurd found
scan_counts name (Some file) n found = (
  found.1.0,
  subst (λ (f : Result (List ℕ) Refusal). ReadAs PacketReads FirstFault (λ fault. Broken fault) f (Ok found.1.0)) (sym (within_is name file found.0)) found.1.1,
  found.1.2,
)

pub scan_misses : (name : List ℕ) (file : Option (List ℕ)) → ScanFinds packet_limit file Missing → PacketIn name file (Err (NoFile name))
scan_misses name None found = refl
scan_misses name (Some file) found = absurd found

pub scan_passes : (name : List ℕ) (file : Option (List ℕ)) → ScanFinds packet_limit file scanned.TooLarge → PacketIn name file (Err (TooLarge name))
scan_passes name None found = absurd found
scan_passes name (Some file) found = subst (λ (f : Result (List ℕ) Refusal). ReadAs PacketReads FirstFault (λ fault. Broken fault) f (Err (TooLarge name))) (sym (past_is name file found)) refl

pub scan_breaks : (name : List ℕ) (file : Option (List ℕ)) (fault : QwkFault) → ScanFinds packet_limit file (Fault fault) → PacketIn name file (Err (Broken fault))
scan_breaks name None fault found = absurd found
scan_breaks name (Some file) fault found = refused_by PacketReads FirstFault (λ (f : QwkFault). Broken f) _ file fault (sym (within_is name file found.0)) found.1
