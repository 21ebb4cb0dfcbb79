-- What is answered of drafts.
use Rattle.std.specs.Prelude.{◌≡◌, List, Result, Ok, Err, All}
use Rattle.qwk_blocks.specs.declared.message.QwkMessage.{QwkMessage}
use Rattle.offline_writer.specs.Fitting.{FitsQwk, IsFirstUnfit}
use Rattle.offline_writer.specs.declared.fault.DraftError.{DraftError}
use Rattle.offline_writer.specs.declared.fault.DraftError.TheVariants.{Text, OutOfMemory}
use Rattle.offline_writer.specs.declared.fault.ReplyError.{ReplyError}
use Rattle.offline_writer.specs.declared.fault.ReplyError.TheVariants as reply
use Rattle.offline_writer.specs.declared.fault.ComposeError.{ComposeError}
use Rattle.offline_writer.specs.declared.fault.ComposeError.TheVariants as compose

-- these drafts, which can be put into QWK, or the first that can't
abbrev pub DraftsOrUnfit : List QwkMessage → Result (List QwkMessage) DraftError → Type 0
DraftsOrUnfit drafts (Ok made) = (made ≡ drafts) × All FitsQwk drafts
DraftsOrUnfit drafts (Err (Text number)) = IsFirstUnfit drafts number
DraftsOrUnfit drafts (Err OutOfMemory) = Unit {0}

-- what an error of drafts is called in each of the two calls
abbrev pub reply_error : DraftError → ReplyError
reply_error (Text number) = reply.Text number
reply_error OutOfMemory = reply.OutOfMemory

abbrev pub compose_error : DraftError → ComposeError
compose_error (Text number) = compose.Text number
compose_error OutOfMemory = compose.OutOfMemory
