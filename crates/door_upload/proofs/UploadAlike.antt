-- An upload comes to the same on boards with one outline, but for the board after it.
use Rattle.std.proofs.Common.{◌≡◌, ℕ, ◌+◌, Bool, true, false, cond, List, [], length, Option, Some, None, Result, Ok, Err, inl, inr, refl, sym, ap, ◌∙◌, subst}
use Rattle.std.specs.Prelude.{nat_le, nat_lt, if◌then◌else◌}
use Rattle.board_layout.proofs.OneOutline.{alike_ledger, alike_size}
use Rattle.board_layout.specs.Board.{Board}
use Rattle.board_layout.specs.Outlines.{board_outline}
use Rattle.board_layout.specs.Valid.{board_limit}
use Rattle.board_ledger.specs.Limits.{upload_limit}
use Rattle.board_ledger.specs.Uploads.{upload_size}
use Rattle.board_ledger.specs.declared.ledger.Ledger.{Ledger}
use Rattle.board_ledger.specs.declared.upload.Counts.{Counts}
use Rattle.door_upload.specs.Upload.{Again, Broken, Judged, NoBoardId, NoUser, OtherBoard, Size, Upload, UploadGives, UploadRefusal, Uploads, UploadsAs, UploadsFor, is_for, judged_upload, new_upload, record_refusal, upload_once, upload_read}
use Rattle.jam_records.specs.declared.message.Message.{Message}
use Rattle.mail_board.proofs.EachNext.{changed_alike}
use Rattle.mail_board.specs.Held.{AreAlike}
use Rattle.mail_board.specs.Readers.{upload_of, user_id}
use Rattle.mail_board.specs.declared.change.Change.TheVariants as change
use Rattle.packet_verdicts.proofs.OutlineLaws.{outline_judged}
use Rattle.packet_verdicts.specs.Judged.{judged, refused_count}
use Rattle.packet_verdicts.specs.declared.outcome.Outcome.{Outcome}
use Rattle.post_changes.specs.Posted.{uploaded}
use Rattle.qwk_blocks.specs.declared.message.QwkMessage.{QwkMessage}
use Rattle.rep_packet.specs.declared.rep.Rep.{Rep}
use Rattle.sha2.specs.Sha256.{sha256}

-- they are the same but for the board, whose outline is the same
abbrev pub SameUpload : Result Upload UploadRefusal → Result Upload UploadRefusal → Type 0
SameUpload (Err why) (Err other) = why ≡ other
SameUpload (Err why) (Ok upload) = ⊥
SameUpload (Ok upload) (Err why) = ⊥
SameUpload (Ok (Again counts)) (Ok (Again others)) = counts ≡ others
SameUpload (Ok (Again counts)) (Ok (Judged next outcomes)) = ⊥
SameUpload (Ok (Judged next outcomes)) (Ok (Again counts)) = ⊥
SameUpload (Ok (Judged next outcomes)) (Ok (Judged other others)) = (outcomes ≡ others) × AreAlike next other

-- the board of a ledger alone
abbrev bare : Ledger → Board
bare l = record { ledger = l; conferences = [] }

-- why no record more is kept, by how many there are and how long the files are
abbrev refusal_with : ℕ → ℕ → Option UploadRefusal
refusal_with count size = if nat_le upload_limit count then Some Uploads else (if nat_lt board_limit (size + upload_size) then Some (Size (size + upload_size)) else None)

module _ (a b : Board) (alike : AreAlike a b) where
  pub id_alike : (name : List ℕ) → user_id name a ≡ user_id name b
  id_alike name = ap (λ (l : Ledger). user_id name (bare l)) (alike_ledger a b alike)

  pub sent_alike : (id : ℕ) (digest : List ℕ) → upload_of id digest a ≡ upload_of id digest b
  sent_alike id digest = ap (λ (l : Ledger). upload_of id digest (bare l)) (alike_ledger a b alike)

  pub record_alike : record_refusal a ≡ record_refusal b
  record_alike = λ i. refusal_with (length (alike_ledger a b alike i).uploads) (alike_size a b alike i)

  pub judged_alike : (id now : ℕ) (messages : List QwkMessage) → judged a id now messages ≡ judged b id now messages
  judged_alike id now messages = sym (outline_judged a id now messages) ∙ (ap (λ (o : Board). judged o id now messages) alike ∙ outline_judged b id now messages)

  for_alike : (packet : Rep) → is_for a packet ≡ is_for b packet
  for_alike packet = ap (λ (l : Ledger). is_for (bare l) packet) (alike_ledger a b alike)

  -- ---- what becomes of a packet
  module _ (id : ℕ) (digest : List ℕ) (now : ℕ) (messages : List QwkMessage) where
    -- the judged messages, posted on the one and on the other
    judges : SameUpload (Ok (judged_upload id digest now a messages)) (Ok (judged_upload id digest now b messages))
    judges =
        let all = judged_alike id now messages in (
          ap (λ (p : List Outcome × List (ℕ × Message)). p.0) all,
          ap (λ (p : List Outcome × List (ℕ × Message)). board_outline (uploaded id digest (refused_count p.0) p.1 a)) all
              ∙ changed_alike a b alike (change.Upload id digest (refused_count (judged b id now messages).0) (judged b id now messages).1),
        )

    news : (found : Option UploadRefusal) → SameUpload (new_upload id digest now a messages found) (new_upload id digest now b messages found)
    news None = judges
    news (Some why) = refl

    onces : (found : Option Counts) → SameUpload (upload_once id digest now a messages found) (upload_once id digest now b messages found)
    onces (Some counts) = refl
    onces None = subst (λ (found : Option UploadRefusal). SameUpload (new_upload id digest now a messages found) (new_upload id digest now b messages (record_refusal b))) (sym record_alike) (news (record_refusal b))

  -- a packet that was read
  module _ (id : ℕ) (digest : List ℕ) (now : ℕ) (packet : Rep) where
    both : (found : Bool) → SameUpload (cond found (upload_once id digest now a packet.messages (upload_of id digest a)) (Err OtherBoard)) (cond found (upload_once id digest now b packet.messages (upload_of id digest b)) (Err OtherBoard))
    both true =
        subst (λ (found : Option Counts). SameUpload (upload_once id digest now a packet.messages found) (upload_once id digest now b packet.messages (upload_of id digest b))) (sym (sent_alike id digest))
        (onces id digest now packet.messages (upload_of id digest b))
    both false = refl

    pub read_alike : SameUpload (upload_read id digest now a packet) (upload_read id digest now b packet)
    read_alike =
        subst (λ (found : Bool). SameUpload (cond found (upload_once id digest now a packet.messages (upload_of id digest a)) (Err OtherBoard)) (upload_read id digest now b packet)) (sym (for_alike packet)) (both (is_for b packet))

  -- a new packet that was judged on the one is judged on the other
  module _ (id : ℕ) (digest : List ℕ) (now : ℕ) (packet : Rep) (next : Board) (outcomes : List Outcome) where
    new_too : (found : Option UploadRefusal) → new_upload id digest now b packet.messages found ≡ Ok (Judged next outcomes) → new_upload id digest now a packet.messages found ≡ Ok (judged_upload id digest now a packet.messages)
    new_too None e = refl
    new_too (Some why) e = absurd (cc e)

    once_too : (found : Option Counts) → upload_once id digest now b packet.messages found ≡ Ok (Judged next outcomes) → upload_once id digest now a packet.messages found ≡ Ok (judged_upload id digest now a packet.messages)
    once_too None e = ap (new_upload id digest now a packet.messages) record_alike ∙ new_too (record_refusal b) e
    once_too (Some counts) e = absurd (cc e)

    both_too : (found : Bool) → cond found (upload_once id digest now b packet.messages (upload_of id digest b)) (Err OtherBoard) ≡ Ok (Judged next outcomes)
        → cond found (upload_once id digest now a packet.messages (upload_of id digest a)) (Err OtherBoard) ≡ Ok (judged_upload id digest now a packet.messages)
    both_too true e = ap (upload_once id digest now a packet.messages) (sent_alike id digest) ∙ once_too (upload_of id digest b) e
    both_too false e = absurd (cc e)

    pub judged_too : upload_read id digest now b packet ≡ Ok (Judged next outcomes) → upload_read id digest now a packet ≡ Ok (judged_upload id digest now a packet.messages)
    judged_too e = ap (λ (found : Bool). cond found (upload_once id digest now a packet.messages (upload_of id digest a)) (Err OtherBoard)) (for_alike packet) ∙ both_too (is_for b packet) e

  -- ---- what the bytes come to
  module _ (bytes : List ℕ) (now : ℕ) where
    for_him : (id : ℕ) (r : Result Upload UploadRefusal) → UploadsFor id bytes now b r → (s : Result Upload UploadRefusal) × UploadsFor id bytes now a s × SameUpload s r
    for_him id r (inl (packet, reads, is)) =
        (upload_read id (sha256 bytes) now a packet, inl (packet, reads, refl), subst (SameUpload (upload_read id (sha256 bytes) now a packet)) (sym is) (read_alike id (sha256 bytes) now packet))
    for_him id r (inr (inl (fault, broken, is))) = (Err (Broken fault), inr (inl (fault, broken, refl)), subst (SameUpload (Err (Broken fault))) (sym is) refl)
    for_him id r (inr (inr (none, is))) = (Err NoBoardId, inr (inr (none, refl)), subst (SameUpload (Err NoBoardId)) (sym is) refl)

    as_user : (o : Option ℕ) (r : Result Upload UploadRefusal) → UploadsAs o bytes now b r → (s : Result Upload UploadRefusal) × UploadsAs o bytes now a s × SameUpload s r
    as_user None r is = (Err NoUser, refl, subst (SameUpload (Err NoUser)) (sym is) refl)
    as_user (Some id) r gives = for_him id r gives

    -- the bytes of a packet come to as much on each board with the outline
    pub gives_alike : (name : List ℕ) (r : Result Upload UploadRefusal) → UploadGives name bytes now b r → (s : Result Upload UploadRefusal) × UploadGives name bytes now a s × SameUpload s r
    gives_alike name r gives =
        let found = as_user (user_id name b) r gives in
        (found.0, subst (λ (o : Option ℕ). UploadsAs o bytes now a found.0) (sym (id_alike name)) found.1, found.2)

-- ---- what the bytes come to on each board with the outline of one
pub record EachUpload (id : ℕ) (bytes : List ℕ) (now : ℕ) (b : Board) (r : Result Upload UploadRefusal) : Type 0 where
  pub comes : Board → Result Upload UploadRefusal
  pub own : comes b ≡ r
  pub gives : (a : Board) → AreAlike a b → UploadsFor id bytes now a (comes a)
  pub same : (a : Board) → AreAlike a b → SameUpload (comes a) (comes b)

pub each_upload : (id : ℕ) (bytes : List ℕ) (now : ℕ) (b : Board) (r : Result Upload UploadRefusal) → UploadsFor id bytes now b r → EachUpload id bytes now b r
each_upload id bytes now b r (inl (packet, reads, is)) = record {
  comes = λ a. upload_read id (sha256 bytes) now a packet;
  own = sym is;
  gives = λ a alike. inl (packet, reads, refl);
  same = λ a alike. read_alike a b alike id (sha256 bytes) now packet;
}
each_upload id bytes now b r (inr (inl (fault, broken, is))) = record {
  comes = λ a. Err (Broken fault);
  own = sym is;
  gives = λ a alike. inr (inl (fault, broken, refl));
  same = λ a alike. refl;
}
each_upload id bytes now b r (inr (inr (none, is))) = record {
  comes = λ a. Err NoBoardId;
  own = sym is;
  gives = λ a alike. inr (inr (none, refl));
  same = λ a alike. refl;
}
