-- What becomes of the records of a base, one after the other: a message that is right may be posted, and each step.
use Rattle.std.proofs.Common.{◌≡◌, ℕ, Some, List, [], ◌∷◌, ◌∙◌, sym, ap, subst, true}
use Rattle.std.specs.Prelude.{slice_get}
use Rattle.std.specs.List.{fold}
use Rattle.board_layout.specs.Board.{Board}
use Rattle.jam_adopt.specs.declared.found.Found.{Found}
use Rattle.jam_adopt.specs.declared.found.FoundVerdict.TheVariants.{Taken}
use Rattle.jam_layout.specs.Marks.{is_net}
use Rattle.jam_layout.specs.Messages.{IsTyped}
use Rattle.jam_records.specs.declared.message.Kind.{Kind}
use Rattle.jam_records.specs.declared.message.Message.{Message}
use Rattle.mail_intake.specs.Tallies.{MayTake}
use Rattle.setup_file.specs.declared.conference.Conference.{Conference as SetupConference}
use Rattle.post_changes.proofs.slot_changes.ValueLaws.{private_enough, tested_holds}
use Rattle.post_changes.specs.slot_changes.Values.{MayHold, has_right_texts}
use Rattle.cmd_adopt.specs.Adopted.{adopted, adopted_next, kept_in}
use Rattle.cmd_adopt.specs.Adopting.{IsRight}

-- the mark private isn't among what is tested of the texts
texts_kept : (kind : Kind) (m : Message) → has_right_texts m ≡ true → has_right_texts (kept_in kind m) ≡ true
unfolding has_right_texts
texts_kept kind m right = right

pub may_take : (b : Board) (place : ℕ) (c : SetupConference) (m kept : Message) → slice_get b.ledger.setup.conferences place ≡ Some c → kept ≡ kept_in c.kind m → IsRight (Taken m) → IsTyped kept → MayTake b place kept
may_take b place c m kept there is right typed = record {
  conference = c;
  there = there;
  holds = subst (MayHold c.kind) (sym is) (tested_holds c.kind (kept_in c.kind m) (subst IsTyped is typed) (texts_kept c.kind m right.0) right.1 (private_enough m.private (is_net c.kind)));
}

-- ---- the fold
module _ (conference place : ℕ) (b : Board) where
  pub none_adopted : (lines : List ℕ) (posts : List (ℕ × Message)) → lines ≡ [] → posts ≡ [] → (lines, posts) ≡ adopted conference place b []
  unfolding adopted
  none_adopted lines posts no_lines no_posts = λ i. (no_lines i, no_posts i)

  pub all_left : (start : List ℕ × List (ℕ × Message)) (records items : List Found) → start ≡ adopted conference place b [] → items ≡ records → fold (adopted_next conference place b) start items ≡ fold (adopted_next conference place b) ([], []) records
  unfolding adopted
  all_left start records items is same = ap (λ (s : List ℕ × List (ℕ × Message)). fold (adopted_next conference place b) s items) is ∙ ap (fold (adopted_next conference place b) ([], [])) same

  pub moved_on : (old new all : List ℕ × List (ℕ × Message)) (items rest : List Found) (found : Found) → items ≡ found ∷ rest → new ≡ adopted_next conference place b old found → fold (adopted_next conference place b) old items ≡ all
      → fold (adopted_next conference place b) new rest ≡ all
  moved_on old new all items rest found next step so_far =
      ap (λ (s : List ℕ × List (ℕ × Message)). fold (adopted_next conference place b) s rest) step ∙ (ap (fold (adopted_next conference place b) old) (sym next) ∙ so_far)
