-- When a posted draft is a message that its conference may hold.
use Rattle.std.specs.Prelude.{ℕ, ◌≤◌, List, length, IsTrue}
use Rattle.qwk_blocks.specs.declared.message.Header.{Header}
use Rattle.jam_records.specs.declared.message.Message.{Message}
use Rattle.setup_file.specs.Texts.{is_user_name}
use Rattle.jam_layout.specs.Fields.{is_text}
use Rattle.jam_layout.specs.Messages.{EmptyOr}
use Rattle.netmail_rules.specs.declared.view.View.{View}

-- the names are those of users, and the reply is empty or a msgid
pub record IsView (v : View) : Type 0 where
  pub user : IsTrue (is_user_name v.user)
  pub sysop : IsTrue (is_user_name v.sysop)
  pub reply : EmptyOr (is_text 80) v.reply

-- To and Subject aren't longer than a message may have them
pub record HasShortTexts (h : Header) : Type 0 where
  pub to : length h.to ≤ 36
  pub subject : length h.subject ≤ 72

-- a message with the msgid that it gets
abbrev pub with_msgid : List ℕ → Message → Message
with_msgid msgid m = record m { msgid = msgid }
