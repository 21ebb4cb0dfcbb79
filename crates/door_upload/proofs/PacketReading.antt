-- What is found of the bytes of a packet, by its user and how it reads.
use Rattle.std.proofs.Common.{◌≡◌, ℕ, ◌+◌, ◌-◌, ◌<◌, eqb, List, length, Option, Some, None, Result, Err, refl, sym, ap, ◌∙◌, subst, inl, inr, ⊎_elim, arith}
use Rattle.std.specs.Prelude.{IsSome, get_or, option_map, position, slice_get}
use Rattle.std.specs.Str.{str_eq_ignore_ascii_case}
use Rattle.std.proofs.lemmas.Bool.{cond-false, ne_eqb}
use Rattle.std.proofs.lemmas.List.Quantifiers.{position-Some}
use Rattle.std.proofs.lemmas.Option.{slice_get-get_or}
use Rattle.board_layout.specs.Board.{Board}
use Rattle.board_layout.specs.Lookups.{user_of}
use Rattle.board_ledger.specs.declared.user.User.{User}
use Rattle.door_upload.specs.Upload.{Broken, NoBoardId, NoUser, Upload, UploadGives, UploadRefusal, UploadsAs, UploadsFor, upload_read}
use Rattle.door_upload.specs.Uploading.{FindsFor, FindsIn, of_rep}
use Rattle.door_upload.specs.declared.answer.UploadError.{UploadError}
use Rattle.door_upload.specs.declared.answer.UploadError.TheVariants as error
use Rattle.door_upload.specs.declared.preparing.Uploading.{Uploading}
use Rattle.mail_board.specs.Held.{HeldBoard}
use Rattle.mail_board.specs.Readers.{user_id}
use Rattle.packet_verdicts.specs.Views.{nobody}
use Rattle.qwk_blocks.specs.declared.fault.QwkFault.{QwkFault}
use Rattle.rep_packet.specs.Rep.{RepFault, RepReads}
use Rattle.rep_packet.specs.declared.fault.RepError.{RepError}
use Rattle.rep_packet.specs.declared.fault.RepError.TheVariants as rep
use Rattle.rep_packet.specs.declared.rep.Rep.{Rep}
use Rattle.sha2.specs.Sha256.{sha256}

-- ---- the user of a name is there
module _ (name : List ℕ) (b : Board) where
  some_user : (place : ℕ) → place < length b.ledger.users → IsSome (user_of (place + 1) b)
  some_user place within =
      let back : place + 1 - 1 ≡ place = omega arith in
      let here : user_of (place + 1) b ≡ Some (get_or b.ledger.users place nobody) =
      cond-false (eqb (place + 1) 0) None (slice_get b.ledger.users (place + 1 - 1)) (ne_eqb (place + 1) 0 (λ e. omega (arith, e)))
      ∙ (ap (slice_get b.ledger.users) back ∙ slice_get-get_or b.ledger.users place nobody within) in
      subst IsSome (sym here) refl

  pub named_user : (id : ℕ) → user_id name b ≡ Some id → IsSome (user_of id b)
  named_user id is = by (position (λ (u : User). str_eq_ignore_ascii_case u.name name) b.ledger.users) refl is
    where
      by : (o : Option ℕ) → position (λ (u : User). str_eq_ignore_ascii_case u.name name) b.ledger.users ≡ o → option_map (λ (place : ℕ). place + 1) o ≡ Some id → IsSome (user_of id b)
      by None none e = absurd (cc e)
      by (Some place) found e =
          let same : place + 1 ≡ id = cc in
          subst (λ (n : ℕ). IsSome (user_of n b)) same (some_user place (position-Some (λ (u : User). str_eq_ignore_ascii_case u.name name) b.ledger.users place nobody found).0)

-- ---- what is found
module _ (name bytes : List ℕ) (now : ℕ) (h : HeldBoard) where
  pub unknown : user_id name h.board ≡ None → FindsIn name bytes now h (Err error.NoUser)
  unknown none = inr (Err NoUser, subst (λ (o : Option ℕ). UploadsAs o bytes now h.board (Err NoUser)) (sym none) refl, inl (NoUser, refl, refl))

  -- the user is there
  module _ (id : ℕ) (here : user_id name h.board ≡ Some id) where
    gives : (r : Result Upload UploadRefusal) → UploadsFor id bytes now h.board r → UploadGives name bytes now h.board r
    gives r for_him = subst (λ (o : Option ℕ). UploadsAs o bytes now h.board r) (sym here) for_him

    -- the bytes don't read, or memory ran out
    pub unread : (e : RepError) (result : Result Uploading UploadError) → result ≡ Err (of_rep e) → ((fault : QwkFault) → e ≡ rep.Fault fault → RepFault bytes (rep.Fault fault)) → (e ≡ rep.NoBoardId → RepFault bytes rep.NoBoardId) → FindsIn name bytes now h result
    unread e result is broken none = subst (FindsIn name bytes now h) (sym is) (by e broken none)
      where
        by : (e : RepError) → ((fault : QwkFault) → e ≡ rep.Fault fault → RepFault bytes (rep.Fault fault)) → (e ≡ rep.NoBoardId → RepFault bytes rep.NoBoardId) → FindsIn name bytes now h (Err (of_rep e))
        by (rep.Fault fault) broken none = inr (Err (Broken fault), gives (Err (Broken fault)) (inr (inl (fault, broken fault refl, refl))), inl (Broken fault, refl, refl))
        by rep.NoBoardId broken none = inr (Err NoBoardId, gives (Err NoBoardId) (inr (inr (none refl, refl))), inl (NoBoardId, refl, refl))
        by rep.OutOfMemory broken none = inl refl

    -- they read as a packet
    pub packet_found : (packet : Rep) (digest : List ℕ) (result : Result Uploading UploadError) → RepReads bytes packet → digest ≡ sha256 bytes → FindsFor h (upload_read id digest now h.board packet) result → FindsIn name bytes now h result
    packet_found packet digest result reads same finds = ⊎_elim
        (λ starved. inl starved)
        (λ it. inr (upload_read id digest now h.board packet, gives (upload_read id digest now h.board packet) (inl (packet, reads, ap (λ (d : List ℕ). upload_read id d now h.board packet) same)), it))
        finds
