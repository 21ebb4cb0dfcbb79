-- The shelf with the two files of a packet.
use Rattle.std.proofs.Common.{◌≡◌, ℕ, zero, suc, List, [], ◌∷◌, Ok, Err, sym, ◌∙◌, subst, arith}
use Rattle.std.specs.Prelude.{Result, MatchResult}
use Rattle.std.specs.FinMap as map
use Rattle.std.specs.List.{Contains}
use Rattle.door_outside.specs.Shelf.{ShelfFiles, SameBut}
use Rattle.door_outside.specs.declared.fault.ShelfFault.{ShelfFault}
use Rattle.door_outside.proofs.Shelves.{other_stays, same_on}
use Rattle.door_export.specs.Folder.{control_name, messages_name, folder_names, with_packet}

-- one of the names
control_in : (folder name : List ℕ) → Contains (control_name folder ∷ []) name → Contains (folder_names folder) name
control_in folder name (zero, within, is) = (0, omega arith, is)
control_in folder name (suc k, within, is) = absurd (omega (arith, within))

messages_in : (folder name : List ℕ) → Contains (messages_name folder ∷ []) name → Contains (folder_names folder) name
messages_in folder name (zero, within, is) = (1, omega arith, is)
messages_in folder name (suc k, within, is) = absurd (omega (arith, within))

-- what leaves all but one of the names leaves all but both
but_control : (folder : List ℕ) (old new : ShelfFiles) → SameBut (control_name folder ∷ []) old new → SameBut (folder_names folder) old new
but_control folder old new same name apart = same name (λ in_it. apart (control_in folder name in_it))

but_messages : (folder : List ℕ) (old new : ShelfFiles) → SameBut (messages_name folder ∷ []) old new → SameBut (folder_names folder) old new
but_messages folder old new same name apart = same name (λ in_it. apart (messages_in folder name in_it))

pub packet_stays : (folder controls messages : List ℕ) (shelf : ShelfFiles) → SameBut (folder_names folder) shelf (with_packet folder controls messages shelf)
packet_stays folder controls messages shelf =
    let mid : ShelfFiles = map.insert shelf (control_name folder) controls in
    same_on (folder_names folder) shelf mid (with_packet folder controls messages shelf)
    (but_control folder shelf mid (other_stays shelf (control_name folder) controls))
    (but_messages folder mid (with_packet folder controls messages shelf) (other_stays mid (messages_name folder) messages))

-- the first file was written, and then the second
pub both_written : (folder control_is messages_is controls messages : List ℕ) (old mid new : ShelfFiles) (result : Result (Unit {0}) ShelfFault) → control_is ≡ control_name folder → messages_is ≡ messages_name folder
    → mid ≡ map.insert old control_is controls → MatchResult result (λ _. new ≡ map.insert mid messages_is messages) (λ _. SameBut (messages_is ∷ []) mid new)
    → MatchResult result (λ _. new ≡ with_packet folder controls messages old) (λ _. SameBut (folder_names folder) old new)
both_written folder control_is messages_is controls messages old mid new (Ok x) control message first second =
    second ∙ (λ i. map.insert (first i) (message i) messages) ∙ (λ i. map.insert (map.insert old (control i) controls) (messages_name folder) messages)
both_written folder control_is messages_is controls messages old mid new (Err fault) control message first second =
    let begun : mid ≡ map.insert old (control_name folder) controls = first ∙ (λ i. map.insert old (control i) controls) in
    same_on (folder_names folder) old mid new
    (subst (SameBut (folder_names folder) old) (sym begun) (but_control folder old (map.insert old (control_name folder) controls) (other_stays old (control_name folder) controls)))
    (but_messages folder mid new (subst (λ (name : List ℕ). SameBut (name ∷ []) mid new) message second))

pub first_fails : (folder control_is : List ℕ) (old new : ShelfFiles) → control_is ≡ control_name folder → SameBut (control_is ∷ []) old new → SameBut (folder_names folder) old new
first_fails folder control_is old new is same = but_control folder old new (subst (λ (name : List ℕ). SameBut (name ∷ []) old new) is same)
