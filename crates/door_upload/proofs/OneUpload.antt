-- The bytes that a user uploads come to one thing at most.
use Rattle.std.proofs.Common.{◌≡◌, ℕ, List, Result, Err, sym, ap, ◌∙◌, inl, inr}
use Rattle.std.specs.Prelude.{Option, Some, None}
use Rattle.board_layout.specs.Board.{Board}
use Rattle.door_upload.specs.Upload.{Broken, Upload, UploadGives, UploadRefusal, UploadsAs, UploadsFor, upload_read}
use Rattle.mail_board.specs.Readers.{user_id}
use Rattle.qwk_blocks.specs.declared.fault.QwkFault.{QwkFault}
use Rattle.rep_packet.proofs.Once.{fault_unique, no_fault, rep_unique}
use Rattle.rep_packet.specs.declared.fault.RepError.TheVariants as rep
use Rattle.sha2.specs.Sha256.{sha256}

-- two first faults are the same
same_fault : (f g : QwkFault) → rep.Fault f ≡ rep.Fault g → f ≡ g
same_fault f g e = cc

module _ (id : ℕ) (bytes : List ℕ) (now : ℕ) (b : Board) (r s : Result Upload UploadRefusal) where
  pub one_for : UploadsFor id bytes now b r → UploadsFor id bytes now b s → r ≡ s
  one_for (inl (packet, reads, is)) (inl (other, others, same)) = is ∙ (ap (upload_read id (sha256 bytes) now b) (rep_unique bytes packet other reads others) ∙ sym same)
  one_for (inl (packet, reads, is)) (inr (inl (fault, broken, same))) = absurd (no_fault bytes packet (rep.Fault fault) reads broken)
  one_for (inl (packet, reads, is)) (inr (inr (none, same))) = absurd (no_fault bytes packet rep.NoBoardId reads none)
  one_for (inr (inl (fault, broken, is))) (inl (packet, reads, same)) = absurd (no_fault bytes packet (rep.Fault fault) reads broken)
  one_for (inr (inl (fault, broken, is))) (inr (inl (other, others, same))) =
      is ∙ (ap (λ (f : QwkFault). Err (Broken f)) (same_fault fault other (fault_unique bytes (rep.Fault fault) (rep.Fault other) broken others)) ∙ sym same)
  one_for (inr (inl (fault, broken, is))) (inr (inr (none, same))) = absurd (cc (fault_unique bytes (rep.Fault fault) rep.NoBoardId broken none))
  one_for (inr (inr (none, is))) (inl (packet, reads, same)) = absurd (no_fault bytes packet rep.NoBoardId reads none)
  one_for (inr (inr (none, is))) (inr (inl (fault, broken, same))) = absurd (cc (fault_unique bytes rep.NoBoardId (rep.Fault fault) none broken))
  one_for (inr (inr (none, is))) (inr (inr (others, same))) = is ∙ sym same

pub one_upload : (name bytes : List ℕ) (now : ℕ) (b : Board) (r s : Result Upload UploadRefusal) → UploadGives name bytes now b r → UploadGives name bytes now b s → r ≡ s
one_upload name bytes now b r s = by (user_id name b)
  where
    by : (o : Option ℕ) → UploadsAs o bytes now b r → UploadsAs o bytes now b s → r ≡ s
    by None one other = one ∙ sym other
    by (Some id) one other = one_for id bytes now b r s one other
