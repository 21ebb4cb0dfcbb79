-- What a message at the end changes in the links of those before it: at most one link number of one of them.
use Rattle.std.specs.Prelude.{◌≡◌, ℕ, suc, ◌-◌, ◌<◌, ◌≤◌, List, [], ◌∷◌, ◌++◌, length, slice_get, Option, None, Some, IfSome, ◌==◌, if◌then◌else◌}
use Rattle.jam_records.specs.declared.message.Message.{Message}
use Rattle.jam_records.specs.declared.message.Slot.{Slot}
use Rattle.jam_records.specs.declared.message.Slot.TheVariants.{Held}
use Rattle.jam_threads.specs.Chains.{last_in}
use Rattle.jam_threads.specs.Children.{children, original_behind}
use Rattle.jam_threads.specs.Links.{link_of}
use Rattle.jam_threads.specs.declared.link.Link.{Link}
use Rattle.jam_threads.specs.declared.link.LinkField.{LinkField}
use Rattle.jam_threads.specs.declared.link.LinkField.TheVariants.{First, Next}
use Rattle.jam_threads.specs.declared.link.LinkPatch.{LinkPatch}

-- the links with one of their numbers replaced
abbrev pub link_with : LinkField → ℕ → Link → Link
link_with First value link = record { to = link.to; first = value; next = link.next }
link_with Next value link = record { to = link.to; first = link.first; next = value }

-- the links of the message of a number, after a change of one link number or of none
abbrev pub link_after : Option LinkPatch → ℕ → Link → Link
link_after None number link = link
link_after (Some patch) number link = if number == patch.number then link_with patch.field patch.value link else link

-- what a message of this number changes, whose original has this last child: where it answers none, nothing; where it
-- is the first to answer, Reply1st of its original; else ReplyNext of the last one that did
abbrev pub change_by : ℕ → ℕ → ℕ → Option LinkPatch
change_by original last number =
    if original == 0
    then None
    else if last == 0 then Some (record { number = original; field = First; value = number }) else Some (record { number = last; field = Next; value = number })

-- what a message changes that stands behind these slots and answers this id
unfoldable pub link_change : List Slot → List ℕ → Option LinkPatch
link_change slots replyid =
    change_by (original_behind slots replyid) (last_in (children slots (original_behind slots replyid))) (suc (length slots))

-- it is of a message that stands there, and leads to the new one
pub record IsOlder (slots : List Slot) (patch : LinkPatch) : Type 0 where
  pub message : Message
  pub some : 0 < patch.number
  pub held : slice_get slots (patch.number - 1) ≡ Some (Held message)
  pub value : patch.value ≡ suc (length slots)

-- with the message at the end, each message before it has its links after the change; the new one answers its original,
-- and no message answers it
pub record IsLinkChange (slots : List Slot) (m : Message) (change : Option LinkPatch) : Type 0 where
  pub links : (number : ℕ) → 0 < number → number ≤ length slots → link_of (slots ++ Held m ∷ []) number ≡ link_after change number (link_of slots number)
  pub last : link_of (slots ++ Held m ∷ []) (suc (length slots)) ≡ record { to = original_behind slots m.replyid; first = 0; next = 0 }
  pub older : IfSome change (IsOlder slots)
