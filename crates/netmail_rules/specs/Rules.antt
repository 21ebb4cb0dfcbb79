-- The rules of an uploaded message, in their order.
use Rattle.std.specs.Prelude.{ℕ, List, [], ◌∷◌, ◌++◌, length, replicate, Option, Some, None, is_none, Bool, false, not, ◌&&◌, ◌||◌, ◌==◌, nat_le, nat_lt, if◌then◌else◌}
use Rattle.std.specs.List.{list_any}
use Rattle.std.specs.Str.{str_eq_ignore_ascii_case}
use Rattle.qwk_blocks.specs.declared.message.QwkMessage.{QwkMessage}
use Rattle.jam_records.specs.declared.message.Message.{Message}
use Rattle.jam_records.specs.declared.message.Slot.TheVariants.{Held}
use Rattle.jam_layout.specs.Limits.{slot_limit}
use Rattle.jam_layout.specs.Sizes.{slot_size}
use Rattle.netmail_rules.specs.AddressLine.{is_plain}
use Rattle.netmail_rules.specs.Draft.{is_netmail, netmail_line}
use Rattle.qwk_blocks.specs.Status.{private_status, comment_status, password_status}
use Rattle.netmail_rules.specs.declared.net_line.NetLine.{NetLine}
use Rattle.netmail_rules.specs.declared.rule.Rule.{Rule}
use Rattle.netmail_rules.specs.declared.rule.Rule.TheVariants as rule
use Rattle.netmail_rules.specs.declared.view.ConferenceView.{ConferenceView}
use Rattle.netmail_rules.specs.declared.view.View.{View}

-- the first rule that refuses, of rules in order, each with whether it does
abbrev pub first_refusing : {R : Type 0} → List (R × Bool) → Option R
first_refusing [] = None
first_refusing (r ∷ rules) = if r.1 then Some r.0 else first_refusing rules

-- the number is that of the view's conference
abbrev pub is_its_number : Option ℕ → Option ConferenceView → Bool
is_its_number (Some n) (Some c) = n == c.number
is_its_number (Some n) None = false
is_its_number None c = false

-- the zone of the address is one of these
abbrev pub has_zone : List ℕ → Option NetLine → Bool
has_zone zones (Some found) = list_any (λ zone. zone == found.address.zone) zones
has_zone zones None = false

-- the bytes of the draft's header, subfields, body and index record, with a msgid of this length
abbrev pub new_bytes : Message → ℕ → ℕ
new_bytes draft msgid_len = slot_size (Held (record draft { msgid = replicate msgid_len 0 }))

-- a recipient is missing: To is empty or has a byte below 20h
abbrev pub names_nobody : List ℕ → Bool
names_nobody to = length to == 0 || not (is_plain to)

-- no slot is left, or no room for the draft
abbrev pub has_no_room : View → ConferenceView → Message → Bool
has_no_room v c draft = nat_le slot_limit c.slots || nat_lt v.room (new_bytes draft c.msgid_len)

-- the rules before those that speak of the conference
abbrev pub rules_before : View → QwkMessage → List (Rule × Bool)
rules_before v m =
    (rule.Killed, m.header.activity == 0xE2)
    ∷ (rule.Password, password_status m.header.status)
    ∷ (rule.Conference, not (is_its_number m.header.number v.conference))
    ∷ []

-- the rules that speak of the conference
abbrev pub rules_in : View → Option ConferenceView → QwkMessage → Message → List (Rule × Bool)
rules_in v None m draft = []
rules_in v (Some c) m draft =
    (rule.Member, not c.member)
    ∷ (rule.Readonly, c.readonly && not v.is_sysop)
    ∷ (rule.Sender, not (str_eq_ignore_ascii_case m.header.from v.user))
    ∷ (rule.To, (not (is_netmail v) && not (comment_status m.header.status)) && names_nobody m.header.to)
    ∷ (rule.Subject, not (is_plain m.header.subject))
    ∷ (rule.Length, nat_lt 16384 (length draft.body))
    ∷ (rule.Private, private_status m.header.status && (not (is_netmail v) && not c.private))
    ∷ (rule.Netuser, is_netmail v && not v.net)
    ∷ (rule.Address, is_netmail v && is_none (netmail_line v m))
    ∷ (rule.Zone, is_netmail v && not (has_zone v.zones (netmail_line v m)))
    ∷ (rule.Full, has_no_room v c draft)
    ∷ []

-- all rules of a message with this draft
abbrev pub rules_of : View → QwkMessage → Message → List (Rule × Bool)
rules_of v m draft = rules_before v m ++ rules_in v v.conference m draft
