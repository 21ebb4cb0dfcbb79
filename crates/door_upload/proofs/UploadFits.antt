-- What a packet that isn't refused makes of a board is a change that fits it.
use Rattle.std.proofs.Common.{◌≡◌, ℕ, ◌+◌, ◌≤◌, false, List, length, sym, ap, ◌∙◌, subst, arith}
use Rattle.std.specs.Prelude.{All, None, IsSome}
use Rattle.board_layout.specs.Board.{Board}
use Rattle.board_layout.specs.Layout.{board_size}
use Rattle.board_layout.specs.Lookups.{user_of}
use Rattle.board_layout.specs.Valid.{IsBoard, board_limit}
use Rattle.board_ledger.specs.Limits.{verdict_limit}
use Rattle.board_ledger.specs.Uploads.{upload_size}
use Rattle.byte_lists.specs.Byte.{IsByte}
use Rattle.door_upload.proofs.PacketSizes.{all_short}
use Rattle.door_upload.proofs.Placing.{drafts_are_placed}
use Rattle.door_upload.proofs.Recording.{few_records, record_may, room_for_record}
use Rattle.door_upload.specs.Upload.{Judged, judged_upload, record_refusal}
use Rattle.door_upload.specs.Uploading.{IsUploadFound}
use Rattle.door_upload.specs.declared.preparing.Uploading.TheVariants as found
use Rattle.jam_records.specs.declared.message.Message.{Message}
use Rattle.mail_board.specs.Changes.{Fits}
use Rattle.mail_board.specs.Held.{HeldBoard}
use Rattle.mail_board.specs.Readers.{upload_of}
use Rattle.mail_board.specs.declared.change.Change.TheVariants.{Upload}
use Rattle.packet_verdicts.proofs.Counting.{all_counted}
use Rattle.packet_verdicts.proofs.Fitting.{board_stays, room_is_left}
use Rattle.packet_verdicts.specs.Judged.{judged, refused_count}
use Rattle.packet_verdicts.specs.Typed.{IsTypedPost}
use Rattle.packet_verdicts.specs.declared.outcome.Outcome.{Outcome}
use Rattle.post_changes.proofs.FitLaws.{spread_bases, uploaded_fits}
use Rattle.post_changes.proofs.SizeLaws.{uploaded_bytes}
use Rattle.post_changes.specs.Posted.{uploaded}
use Rattle.qwk_blocks.specs.Written.{Writable}
use Rattle.qwk_blocks.specs.declared.message.QwkMessage.{QwkMessage}

-- a packet of at most 8,191 messages of a user who is there and sent none of the digest
module _ (b : Board) (id now : ℕ) (digest : List ℕ) (messages : List QwkMessage) (ok : IsBoard b) (there : IsSome (user_of id b)) (new : upload_of id digest b ≡ None) (free : record_refusal b ≡ None) (few : length messages ≤ verdict_limit) (writable : All Writable messages) where
  posts : List (ℕ × Message)
  posts = (judged b id now messages).1

  refused : ℕ
  refused = refused_count (judged b id now messages).0

  pub upload_fits : length digest ≡ 32 → All IsByte digest → All IsTypedPost (judged b id now messages).1 → Fits (Upload id digest (refused_count (judged b id now messages).0) (judged b id now messages).1) b
  unfolding posts refused
  upload_fits whole bytes typed =
      let room : board_size b + upload_size ≤ board_limit = room_for_record b free in
      let counts : length posts + refused ≤ verdict_limit = omega (arith, few, all_counted b id now messages) in
      let bases = spread_bases b posts ok (board_stays b id now messages ok there room (all_short messages writable) typed) in (
        drafts_are_placed b id now messages ok,
        uploaded_fits b posts ok id digest refused whole bytes (record_may b id refused digest posts there new (few_records b free) counts) bases
            (omega (arith, uploaded_bytes b posts ok id digest refused whole, room_is_left b id now messages ok room)),
      )

-- what was judged is such a change, of a board in no doubt
pub upload_found : (h : HeldBoard) (id now : ℕ) (digest : List ℕ) (messages : List QwkMessage) → IsBoard h.board → h.doubtful ≡ false → IsSome (user_of id h.board) → upload_of id digest h.board ≡ None → record_refusal h.board ≡ None → length messages ≤ verdict_limit
    → All Writable messages → length digest ≡ 32 → All IsByte digest → (outcomes : List Outcome) (posts : List (ℕ × Message)) (refused : ℕ) → (outcomes, posts) ≡ judged h.board id now messages → refused ≡ refused_count outcomes → All IsTypedPost posts
    → IsUploadFound h (found.Judged (Upload id digest refused posts) outcomes) (judged_upload id digest now h.board messages)
upload_found h id now digest messages ok certain there new free few writable whole bytes outcomes posts refused are count typed =
    let b : Board = h.board in
    let outcomes_are : outcomes ≡ (judged b id now messages).0 = ap (λ (p : List Outcome × List (ℕ × Message)). p.0) are in
    let posts_are : posts ≡ (judged b id now messages).1 = ap (λ (p : List Outcome × List (ℕ × Message)). p.1) are in
    let refused_is : refused ≡ refused_count (judged b id now messages).0 = count ∙ ap refused_count outcomes_are in
    let fits : Fits (Upload id digest (refused_count (judged b id now messages).0) (judged b id now messages).1) b =
    upload_fits b id now digest messages ok there new free few writable whole bytes (subst (All IsTypedPost) posts_are typed) in
    let with_posts : Fits (Upload id digest (refused_count (judged b id now messages).0) posts) b = subst (λ (ps : List (ℕ × Message)). Fits (Upload id digest (refused_count (judged b id now messages).0) ps) b) (sym posts_are) fits in (
      subst (λ (n : ℕ). Fits (Upload id digest n posts) b) (sym refused_is) with_posts,
      (λ i. Judged (uploaded id digest (sym refused_is i) (sym posts_are i) b) (sym outcomes_are i)),
      certain,
      tt,
      ok,
    )
