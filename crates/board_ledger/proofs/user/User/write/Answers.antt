use Rattle.std.proofs.Common.{◌≡◌, Bool, true, false, cond, refl, [], ◌∷◌, ◌++◌, List, ap, ◌∙◌}
use mir.Val.{bool_byte}
use Rattle.std.specs.List.{flat_map}
use Rattle.open_offers.specs.Offers.{cell_text, cells_for}
use Rattle.open_offers.specs.Texts.{sized_text}
use Rattle.board_ledger.specs.Users.{user_text}
use Rattle.open_offers.specs.declared.offer.OpenOffer.{OpenOffer}
use Rattle.open_offers.proofs.WritingLaws.{on_ok, five_parts}
use Rattle.board_ledger.proofs.user.User.write.Goals as goal

flag_byte : (b : Bool) → bool_byte b ≡ cond b 1 0
flag_byte true = refl
flag_byte false = refl

pub returns : goal.returns
unfolding user_text
returns c =
    let u = c.args.self.now in
    on_ok c.add_cells.result _ _ c.add_cells.ensures (λ last.
    five_parts c.args.out.now c.add_text.new.out c.add_byte.new.out c.add_u32.new.out c.add_u64.new.out c.add_cells.new.out _ _ _ _ _
    (c.in_ok-add_text.ensures ∙ ap (λ name. c.args.out.now ++ sized_text name) c.as_slice.ensures.same)
    (c.in_ok-add_byte.ensures ∙ ap (λ flag. c.add_text.new.out ++ flag ∷ []) (c.from.ensures ∙ flag_byte u.net))
    c.in_ok-add_u32.ensures c.in_ok-add_u64.ensures
    (last ∙ ap (λ (offers : List OpenOffer). c.add_u64.new.out ++ flat_map cell_text (cells_for c.args.conferences 4 offers)) c.as_slice-2.ensures))
