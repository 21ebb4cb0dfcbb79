-- The msgid that a message more gets, and which of the last two rules refuses it.
use Rattle.std.proofs.Common.{◌≡◌, ℕ, Bool, true, false, cond, eqb, List, [], ◌∷◌, length, Some, None, refl, sym, ap, ◌∙◌, arith, ne_eqb, true≢false}
use Rattle.std.proofs.lemmas.Bool.{cond-false, cond-true}
use Rattle.board_layout.specs.Board.{Board}
use Rattle.fts_packet.specs.declared.rule.TossRule.TheVariants.{Dupe, Full}
use Rattle.jam_records.specs.declared.message.Message.{Message}
use Rattle.mail_intake.specs.Room.{is_full}
use Rattle.post_changes.specs.slot_changes.Msgids.{or_else}
use Rattle.cmd_toss.specs.Tossed.{is_dupe, last_rule}

-- ---- msgids
own_stays : (own other : List ℕ) → eqb (length own) 0 ≡ false → own ≡ or_else own other
own_stays [] other some = absurd (true≢false some)
own_stays (b ∷ own) other some = refl

other_comes : (own other : List ℕ) → eqb (length own) 0 ≡ true → other ≡ or_else own other
other_comes [] other none = refl
other_comes (b ∷ own) other none = absurd (true≢false (sym none ∙ ne_eqb (length (b ∷ own)) 0 (λ some. omega (arith, some))))

-- its own msgid stays with a message that has one
pub own_is : (own msgid other : List ℕ) → own ≡ msgid → eqb (length own) 0 ≡ false → own ≡ or_else msgid other
own_is own msgid other is some = own_stays own other some ∙ ap (λ (xs : List ℕ). or_else xs other) is

-- one that has none gets another
pub other_is : (own msgid made other : List ℕ) → own ≡ msgid → eqb (length own) 0 ≡ true → made ≡ other → made ≡ or_else msgid other
other_is own msgid made other is none given = given ∙ (other_comes own other none ∙ ap (λ (xs : List ℕ). or_else xs other) is)

-- ---- the last two rules
module _ (b : Board) (posts : List (ℕ × Message)) (post : ℕ × Message) where
  pub by_dupe : (answer : Bool) → answer ≡ is_dupe b posts post → answer ≡ true → Some Dupe ≡ last_rule b posts post
  by_dupe answer is holds = sym (cond-true (is_dupe b posts post) (Some Dupe) (cond (is_full b posts post) (Some Full) None) (sym is ∙ holds))

  no_dupe : is_dupe b posts post ≡ false → last_rule b posts post ≡ cond (is_full b posts post) (Some Full) None
  no_dupe fails = cond-false (is_dupe b posts post) (Some Dupe) (cond (is_full b posts post) (Some Full) None) fails

  pub by_full : (answer full : Bool) → answer ≡ is_dupe b posts post → answer ≡ false → full ≡ is_full b posts post → full ≡ true → Some Full ≡ last_rule b posts post
  by_full answer full is fails full_is holds = sym (no_dupe (sym is ∙ fails) ∙ cond-true (is_full b posts post) (Some Full) None (sym full_is ∙ holds))

  pub by_none : (answer full : Bool) → answer ≡ is_dupe b posts post → answer ≡ false → full ≡ is_full b posts post → full ≡ false → None ≡ last_rule b posts post
  by_none answer full is fails full_is fits = sym (no_dupe (sym is ∙ fails) ∙ cond-false (is_full b posts post) (Some Full) None (sym full_is ∙ fits))
