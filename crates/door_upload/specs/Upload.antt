-- What the upload of a reply packet comes to.
use Rattle.std.specs.Prelude.{◌≡◌, ◌⊎◌, ℕ, ◌+◌, List, length, Bool, nat_le, nat_lt, if◌then◌else◌, Option, Some, None, Result, Ok, Err}
use Rattle.std.specs.Str.{str_eq_ignore_ascii_case}
use Rattle.board_layout.specs.Board.{Board}
use Rattle.board_layout.specs.Layout.{board_size}
use Rattle.board_layout.specs.Valid.{board_limit}
use Rattle.board_ledger.specs.Limits.{upload_limit}
use Rattle.board_ledger.specs.Uploads.{upload_size}
use Rattle.board_ledger.specs.declared.upload.Counts.{Counts}
use Rattle.mail_board.specs.Readers.{upload_of, user_id}
use Rattle.packet_verdicts.specs.Judged.{judged, refused_count}
use Rattle.packet_verdicts.specs.declared.outcome.Outcome.{Outcome}
use Rattle.post_changes.specs.Posted.{uploaded}
use Rattle.qwk_blocks.specs.declared.fault.QwkFault.{QwkFault}
use Rattle.qwk_blocks.specs.declared.message.QwkMessage.{QwkMessage}
use Rattle.rep_packet.specs.Rep.{RepReads, RepFault}
use Rattle.rep_packet.specs.declared.fault.RepError.TheVariants as rep
use Rattle.rep_packet.specs.declared.rep.Rep.{Rep}
use Rattle.sha2.specs.Sha256.{sha256}

-- why nothing of a packet is taken in
pub data UploadRefusal : Type 0 where
  -- no user has the name
  NoUser : UploadRefusal
  -- the packet has this first fault, or no board id, or is another board's
  Broken : QwkFault → UploadRefusal
  NoBoardId : UploadRefusal
  OtherBoard : UploadRefusal
  -- as many records as there may be are kept
  Uploads : UploadRefusal
  -- the data files would have so many bytes with the record, more than they may
  Size : ℕ → UploadRefusal

-- what becomes of a packet that isn't refused
pub data Upload : Type 0 where
  -- the user sent it before, and this became of it then; nothing changes
  Again : Counts → Upload
  -- its messages are judged, and this is the board afterwards
  Judged : Board → List Outcome → Upload

-- the packet is for the board, ignoring ASCII case
abbrev pub is_for : Board → Rep → Bool
is_for b packet = str_eq_ignore_ascii_case packet.bbsid b.ledger.setup.bbsid

-- how many bytes the data files have with one upload record more
abbrev pub size_with_record : Board → ℕ
size_with_record b = board_size b + upload_size

-- why no record more is kept
abbrev pub record_refusal : Board → Option UploadRefusal
record_refusal b =
    if nat_le upload_limit (length b.ledger.uploads) then Some Uploads
    else (if nat_lt board_limit (size_with_record b) then Some (Size (size_with_record b)) else None)

-- The messages are judged in order, each on the board with the ones accepted before it. These are posted, and the
-- record of the packet is kept, also where none is.
abbrev pub judged_upload : ℕ → List ℕ → ℕ → Board → List QwkMessage → Upload
judged_upload id digest now b messages =
    let all = judged b id now messages in
    Judged (uploaded id digest (refused_count all.0) all.1 b) all.0

-- the messages of a packet that is new, of which a record may be kept or not
abbrev pub new_upload : ℕ → List ℕ → ℕ → Board → List QwkMessage → Option UploadRefusal → Result Upload UploadRefusal
new_upload id digest now b messages (Some why) = Err why
new_upload id digest now b messages None = Ok (judged_upload id digest now b messages)

-- those of a packet of which the user's record has counts, or there is none
abbrev pub upload_once : ℕ → List ℕ → ℕ → Board → List QwkMessage → Option Counts → Result Upload UploadRefusal
upload_once id digest now b messages (Some counts) = Ok (Again counts)
upload_once id digest now b messages None = new_upload id digest now b messages (record_refusal b)

-- a packet with a digest that the user of an id uploads at a moment
abbrev pub upload_read : ℕ → List ℕ → ℕ → Board → Rep → Result Upload UploadRefusal
upload_read id digest now b packet = if is_for b packet then upload_once id digest now b packet.messages (upload_of id digest b) else Err OtherBoard

-- what the bytes of a packet come to, which read as a packet or have a first fault
abbrev pub UploadsFor : ℕ → List ℕ → ℕ → Board → Result Upload UploadRefusal → Type 0
UploadsFor id bytes now b result =
    ((packet : Rep) × RepReads bytes packet × (result ≡ upload_read id (sha256 bytes) now b packet))
    ⊎ (((fault : QwkFault) × RepFault bytes (rep.Fault fault) × (result ≡ Err (Broken fault)))
    ⊎ (RepFault bytes rep.NoBoardId × (result ≡ Err NoBoardId)))

abbrev pub UploadsAs : Option ℕ → List ℕ → ℕ → Board → Result Upload UploadRefusal → Type 0
UploadsAs None bytes now b result = result ≡ Err NoUser
UploadsAs (Some id) bytes now b result = UploadsFor id bytes now b result

-- what the bytes come to that the user of a name uploads at a moment
abbrev pub UploadGives : List ℕ → List ℕ → ℕ → Board → Result Upload UploadRefusal → Type 0
UploadGives name bytes now b result = UploadsAs (user_id name b) bytes now b result

-- the board after it
abbrev pub after_upload : Board → Result Upload UploadRefusal → Board
after_upload b (Ok (Again counts)) = b
after_upload b (Ok (Judged next outcomes)) = next
after_upload b (Err why) = b
