-- The commands over a packet are lawful: each says something, and one thing, and changes nothing.
use Rattle.std.proofs.Common.{◌≡◌, ◌≢◌, inl, inr, ℕ, List, [], Option, Some, None, Result, Ok, Err, ap}
use Rattle.std.specs.Prelude.{codes, decimal, length}
use Rattle.std.specs.List.{flat_map, enumerate_from}
use Rattle.std.specs.Str.Lines.{lines}
use Rattle.door_outside.specs.Shelf.{ShelfFiles}
use Rattle.entry_runs.proofs.ShelfLaws.{IsLawfulOnShelf, some_behind}
use Rattle.entry_runs.specs.declared.class.Class.TheVariants as class
use Rattle.long_names.specs.Plain.{plain}
use Rattle.offline_reader.specs.Letter.{heading, letter, message_in}
use Rattle.offline_reader.specs.Listing.{listing, folder_listing, listing_line}
use Rattle.qwk_blocks.proofs.Messages.{packet_unique}
use Rattle.qwk_blocks.proofs.OneFault as Packets
use Rattle.qwk_blocks.specs.Packet.{PacketReads, FirstFault}
use Rattle.qwk_blocks.specs.declared.fault.QwkFault.{QwkFault}
use Rattle.qwk_blocks.specs.declared.message.QwkMessage.{QwkMessage}
use Rattle.qwk_control.proofs.Single as Controls
use Rattle.qwk_control.specs.Control.{ControlReads}
use Rattle.qwk_control.specs.Fault.{ControlFault}
use Rattle.qwk_control.specs.declared.control.Control.{Control}
use Rattle.shelf_files.proofs.Replies.{read_unique, some_refusal, some_reply, undamaged_reply, lawful_reading}
use Rattle.shelf_files.specs.Halts.{replied}
use Rattle.shelf_files.specs.ShelfFile.{file_within, file_limit, packet_limit}
use Rattle.shelf_files.specs.declared.refusal.Refusal.{Refusal}
use Rattle.shelf_files.specs.declared.refusal.Refusal.TheVariants.{Broken, NoMessage}
use Rattle.cmd_packets.specs.List.{lists}
use Rattle.cmd_packets.specs.Packets.{control_refusal, PacketOf, ControlOf, FolderOf}
use Rattle.cmd_packets.specs.Read.{reads, shows, shown_reply, shown_in}
use Rattle.cmd_packets.specs.Scan.{scans, count_line}
use Rattle.cmd_packets.specs.declared.folder.Packet.{Packet}

pub packet_of_unique : (shelf : ShelfFiles) (name : List ℕ) (a b : Result (List QwkMessage) Refusal) → PacketOf shelf name a → PacketOf shelf name b → a ≡ b
packet_of_unique shelf name = read_unique PacketReads FirstFault (λ (f : QwkFault). Broken f) packet_unique Packets.fault_unique Packets.no_fault (file_within shelf name packet_limit)

pub control_of_unique : (shelf : ShelfFiles) (name : List ℕ) (a b : Result Control Refusal) → ControlOf shelf name a → ControlOf shelf name b → a ≡ b
control_of_unique shelf name =
    read_unique ControlReads ControlFault control_refusal (λ (bytes : List ℕ). Controls.control_unique (lines bytes)) (λ (bytes : List ℕ). Controls.fault_unique (lines bytes))
    (λ (bytes : List ℕ). Controls.no_fault (lines bytes)) (file_within shelf name file_limit)

-- a folder reads as one packet at most, or is refused in one way
pub folder_unique : (shelf : ShelfFiles) (folder : List ℕ) (a b : Result Packet Refusal) → FolderOf shelf folder a → FolderOf shelf folder b → a ≡ b
folder_unique shelf folder (Ok p) (Ok q) x y =
    let controls = control_of_unique shelf _ (Ok p.control) (Ok q.control) x.0 y.0 in
    let messages = packet_of_unique shelf _ (Ok p.messages) (Ok q.messages) x.1 y.1 in
    let control : p.control ≡ q.control = cc in
    let message : p.messages ≡ q.messages = cc in
    ap Ok (λ i. record { control = control i; messages = message i })
folder_unique shelf folder (Ok p) (Err why) x (inl y) = let e = control_of_unique shelf _ (Ok p.control) (Err why) x.0 y in cc
folder_unique shelf folder (Ok p) (Err why) x (inr y) = let e = packet_of_unique shelf _ (Ok p.messages) (Err why) x.1 y.2 in cc
folder_unique shelf folder (Err why) (Ok q) (inl x) y = let e = control_of_unique shelf _ (Ok q.control) (Err why) y.0 x in cc
folder_unique shelf folder (Err why) (Ok q) (inr x) y = let e = packet_of_unique shelf _ (Ok q.messages) (Err why) y.1 x.2 in cc
folder_unique shelf folder (Err why) (Err other) (inl x) (inl y) = let e = control_of_unique shelf _ (Err why) (Err other) x y in cc
folder_unique shelf folder (Err why) (Err other) (inl x) (inr y) = let e = control_of_unique shelf _ (Err why) (Ok y.0) x y.1 in cc
folder_unique shelf folder (Err why) (Err other) (inr x) (inl y) = let e = control_of_unique shelf _ (Err other) (Ok x.0) y x.1 in cc
folder_unique shelf folder (Err why) (Err other) (inr x) (inr y) = let e = packet_of_unique shelf _ (Err why) (Err other) x.2 y.2 in cc

some_listing : (messages : List QwkMessage) → listing messages ≢ []
some_listing messages = some_behind (flat_map listing_line (enumerate_from 1 messages)) _ (some_behind (decimal (length messages)) (codes " messages\n") (λ is. absurd (cc is)))

some_letter : (message : QwkMessage) → letter message ≢ []
some_letter message = some_behind (heading (plain message).header) _ (λ is. absurd (cc is))

some_shown : (found : Option QwkMessage) → (shown_reply found).text ≢ []
some_shown None = some_refusal NoMessage
some_shown (Some message) = some_letter message

undamaged_shown : (found : Option QwkMessage) → (shown_reply found).class ≢ class.Damaged
undamaged_shown None is = absurd (cc is)
undamaged_shown (Some message) is = absurd (cc is)

pub lawful_lists : (file : List ℕ) → IsLawfulOnShelf (lists file)
lawful_lists file = lawful_reading _ (replied listing) (λ (shelf : ShelfFiles). packet_of_unique shelf file) (some_reply listing some_listing) (undamaged_reply listing)

some_count : (messages : List QwkMessage) → count_line (length messages) ≢ []
some_count messages = some_behind (decimal (length messages)) (codes " messages\n") (λ is. absurd (cc is))

pub lawful_scans : (file : List ℕ) → IsLawfulOnShelf (scans file)
lawful_scans file = lawful_reading _ (replied (λ messages. count_line (length messages))) (λ (shelf : ShelfFiles). packet_of_unique shelf file)
    (some_reply (λ messages. count_line (length messages)) some_count) (undamaged_reply (λ (messages : List QwkMessage). count_line (length messages)))

pub lawful_reads : (folder : List ℕ) → IsLawfulOnShelf (reads folder)
lawful_reads folder = lawful_reading _ (replied (λ (packet : Packet). folder_listing packet.control packet.messages)) (λ (shelf : ShelfFiles). folder_unique shelf folder)
    (some_reply (λ (packet : Packet). folder_listing packet.control packet.messages) (λ packet is. absurd (cc is)))
    (undamaged_reply (λ (packet : Packet). folder_listing packet.control packet.messages))

pub lawful_shows : (folder : List ℕ) (place : ℕ) → IsLawfulOnShelf (shows folder place)
lawful_shows folder place = lawful_reading _ (shown_in place) (λ (shelf : ShelfFiles). folder_unique shelf folder) some undamaged
  where
    some : (read : Result Packet Refusal) → (shown_in place read).text ≢ []
    some (Ok packet) = some_shown (message_in packet.messages place)
    some (Err why) = some_refusal why

    undamaged : (read : Result Packet Refusal) → (shown_in place read).class ≢ class.Damaged
    undamaged (Ok packet) = undamaged_shown (message_in packet.messages place)
    undamaged (Err why) = λ is. absurd (cc is)
