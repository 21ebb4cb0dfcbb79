-- The turn of a sample, from what was looked at one by one.
use Rattle.std.proofs.Common.{◌≡◌, ℕ, ◌≤◌, ◌<◌, Bool, true, false, ◌||◌, eqb, ltb, List, [], ◌∷◌, ◌++◌, map, refl, sym, ◌∙◌, ap, arith}
use Rattle.std.specs.Prelude.{Option, Some, None}
use Rattle.std.proofs.lemmas.Bool.{cond-false, cond-true, le-ltb, ltb-false, ne_eqb}
use Rattle.cmd_board.specs.Enroll.{first_refusal}
use Rattle.cmd_board.specs.Turns.{refuses}
use Rattle.board_layout.specs.Board.{Board}
use Rattle.board_layout.specs.Layout.{board_size}
use Rattle.board_layout.specs.Valid.{board_limit}
use Rattle.jam_records.specs.declared.message.Message.{Message}
use Rattle.cmd_board.specs.mail_board.declared.change.Change.TheVariants.{Spread}
use Rattle.cmd_board.proofs.ChangeExits.{carried}
use Rattle.post_changes.specs.Posted.{spread}
use Rattle.cmd_messages.specs.Sample.{sample_refusals, sample_turn, sampled, sampled_line, sampled_posts, sampling, slot_counts, slots_case}
use Rattle.cmd_board.specs.shelf_files.declared.refusal.Refusal.{Refusal}
use Rattle.cmd_board.specs.shelf_files.declared.refusal.Refusal.TheVariants.{Count, Size}

-- ---- refusals one behind the other
none_before : (first later : List (Bool × Refusal)) → first_refusal first ≡ None → first_refusal (first ++ later) ≡ first_refusal later
none_before [] later none = refl
none_before ((true, why) ∷ first) later none = absurd (cc none)
none_before ((false, why) ∷ first) later none = none_before first later none

some_before : (first later : List (Bool × Refusal)) (why : Refusal) → first_refusal first ≡ Some why → first_refusal (first ++ later) ≡ Some why
some_before [] later why is = absurd (cc is)
some_before ((true, other) ∷ first) later why is = is
some_before ((false, other) ∷ first) later why is = some_before first later why is

-- the count is out of range
abbrev pub is_wrong : ℕ → Bool
is_wrong count = eqb count 0 || ltb 5000 count

both_false : (one other : Bool) → one ≡ false → other ≡ false → (one || other) ≡ false
both_false true other a b = absurd (cc a)
both_false false other a b = b

pub right_count : (count : ℕ) → 0 < count → count ≤ 5000 → is_wrong count ≡ false
right_count count some few = both_false (eqb count 0) (ltb 5000 count) (ne_eqb count 0 (λ e. omega (arith, e, some))) (le-ltb 5000 count few)

-- what was found of the size
abbrev pub size_case : Board → Bool × Refusal
size_case b = (ltb board_limit (board_size b), Size (board_size b))

pub size_small : (b : Board) → first_refusal (size_case b ∷ []) ≡ None → board_size b ≤ board_limit
size_small b none = ltb-false board_limit (board_size b) (unrefused (ltb board_limit (board_size b)) (Size (board_size b)) none)
  where
    unrefused : (one : Bool) (why : Refusal) → first_refusal ((one, why) ∷ []) ≡ None → one ≡ false
    unrefused true why none = absurd (cc none)
    unrefused false why none = refl

-- ---- the turn
module _ (seed count now : ℕ) (b : Board) where
  turn_of : (found : Option Refusal) → first_refusal (sample_refusals seed count now b) ≡ found → sample_turn seed count now (Some b) ≡ sampling seed count now b found
  turn_of found is = ap (sampling seed count now b) is

  pub count_refuses : is_wrong count ≡ true → sample_turn seed count now (Some b) ≡ refuses Count (Some b)
  count_refuses wrong = turn_of (Some Count) (cond-true (is_wrong count) (Some Count) _ wrong)

  module _ (right : is_wrong count ≡ false) (posts : List (ℕ × Message)) (made : posts ≡ sampled_posts seed now b count) where
    board_is : spread posts b ≡ sampled seed count now b
    board_is = ap (λ (ps : List (ℕ × Message)). spread ps b) made

    behind_count : first_refusal (sample_refusals seed count now b) ≡ first_refusal (map slots_case (slot_counts (spread posts b)) ++ size_case (spread posts b) ∷ [])
    behind_count = cond-false (is_wrong count) (Some Count) (first_refusal (map slots_case (slot_counts (sampled seed count now b)) ++ size_case (sampled seed count now b) ∷ [])) right
        ∙ ap (λ (next : Board). first_refusal (map slots_case (slot_counts next) ++ size_case next ∷ [])) (sym board_is)

    pub slots_refuse : (why : Refusal) → first_refusal (map slots_case (slot_counts (spread posts b))) ≡ Some why → sample_turn seed count now (Some b) ≡ refuses why (Some b)
    slots_refuse why is = turn_of (Some why) (behind_count ∙ some_before (map slots_case (slot_counts (spread posts b))) (size_case (spread posts b) ∷ []) why is)

    module _ (few : first_refusal (map slots_case (slot_counts (spread posts b))) ≡ None) where
      behind_slots : first_refusal (sample_refusals seed count now b) ≡ first_refusal (size_case (spread posts b) ∷ [])
      behind_slots = behind_count ∙ none_before (map slots_case (slot_counts (spread posts b))) (size_case (spread posts b) ∷ []) few

      pub size_refuses : (why : Refusal) → first_refusal (size_case (spread posts b) ∷ []) ≡ Some why → sample_turn seed count now (Some b) ≡ refuses why (Some b)
      size_refuses why is = turn_of (Some why) (behind_slots ∙ is)

      pub appends : first_refusal (size_case (spread posts b) ∷ []) ≡ None → sample_turn seed count now (Some b) ≡ carried (Spread posts) b (sampled_line count)
      appends short = turn_of None (behind_slots ∙ short) ∙ ap (λ (ps : List (ℕ × Message)). carried (Spread ps) b (sampled_line count)) (sym made)
